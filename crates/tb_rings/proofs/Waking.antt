-- What holds after any steps of a reader and of those who wake it.
use Rattle.std.proofs.Common.{refl, ap, arith, ◌≡◌, ◌⊎◌, inl, inr, ℕ, zero, suc, ◌+◌, ◌<◌, ◌≤◌, Bool, true, false, ◌||◌, ◌&&◌, not, nat_lt, List, [], ◌∷◌, Option, Some, None, is_some, unwrap_or}
use Rattle.tb_rings.specs.clauses.Waking.{Word, Empty, Parked, Notified, Reader, Awake, Tries, Dozes, Sleeps, Left, Waking, Step, Give, Ask, Notify, Wake, Look, See, Yield, Park, Try, Doze, Rouse, Leave, notify, wake, stepped, after_steps, opened, leads_on, of_word, of_reader, steps_left, IsIdle, NoWakeUpIsLost, WakingEnds}

-- the token is there, or a thread is to set it
abbrev is_notified : ℕ → Word → Bool
is_notified changed Notified = true
is_notified changed word = nat_lt 0 changed

abbrev is_open : Word → Bool
is_open Empty = false
is_open word = true

abbrev is_parked : Word → Bool
is_parked Parked = true
is_parked word = false

-- What the reader saw is still so, or it is notified. From its note on until it takes the token the word isn't empty. If it sleeps its
-- note is there, or it is about to be woken.
abbrev is_right : Bool → ℕ → Bool → ℕ → Word → Reader → Bool
is_right notified values asked waking word (Awake none going) =
    (notified || not none || not (nat_lt 0 values)) && (notified || not going || not asked)
is_right notified values asked waking word Tries =
    (notified || (not (nat_lt 0 values) && not asked)) && is_open word
is_right notified values asked waking word Dozes =
    (notified || (not (nat_lt 0 values) && not asked)) && is_open word
is_right notified values asked waking word Sleeps =
    (notified || (not (nat_lt 0 values) && not asked)) && (is_open word && (is_parked word || nat_lt 0 waking))
is_right notified values asked waking word Left = true

abbrev is_sound : Waking → Bool
is_sound s = is_right (is_notified s.changed s.word) s.values s.asked s.waking s.word s.reader

abbrev stays_sound : Option Waking → Bool
stays_sound None = true
stays_sound (Some next) = is_sound next

notified_more : (changed : ℕ) (word : Word) → is_notified (changed + 1) word ≡ true
notified_more changed word = grind arith

-- what a thread is on its way to tell may change
module _ (state : Waking) (more : ℕ) (given : Bool) where
  notified_still : (notified : Bool) (reader : Reader)
      → is_right notified state.values state.asked state.waking state.word reader ≡ true
      → is_right true more given state.waking state.word reader ≡ true
  notified_still notified (Awake none going) right = grind arith
  notified_still notified reader right = grind arith

  change_keeps : is_sound state ≡ true → is_sound (record state { values = more; asked = given; changed = state.changed + 1 }) ≡ true
  change_keeps right = rw notified_more (notified_still (is_notified state.changed state.word) state.reader right)

-- ---- each step keeps it

keeps : (state : Waking) (step : Step) → is_sound state ≡ true → stays_sound (stepped state step) ≡ true
keeps state Give right = change_keeps state (state.values + 1) state.asked right
keeps state Ask right = change_keeps state state.values true right
keeps state Notify right = grind arith
keeps state Wake right = grind arith
keeps state Look right = grind arith
keeps state See right = grind arith
keeps state Yield right = grind arith
keeps state Park right = grind arith
keeps state Try right = grind arith
keeps state Doze right = grind arith
keeps state Rouse right = grind arith
keeps state Leave right = grind arith

all_keep : (state : Waking) (steps : List Step) → is_sound state ≡ true → is_sound (after_steps state steps) ≡ true
all_keep state [] right = right
all_keep state (step ∷ steps) right =
    all_keep (unwrap_or (stepped state step) state) steps (by (stepped state step) (keeps state step right))
  where
    by : (after : Option Waking) → stays_sound after ≡ true → is_sound (unwrap_or after state) ≡ true
    by None kept = right
    by (Some next) kept = kept

sound : (steps : List Step) → is_sound (after_steps opened steps) ≡ true
sound steps = all_keep opened steps refl

-- ---- nobody sleeps for ever

-- a reader that sleeps is about to be woken, or has nothing to see
on_the_way : (s : Waking) → s.reader ≡ Sleeps → is_sound s ≡ true → (0 < s.changed) ⊎ ((0 < s.waking) ⊎ IsIdle s)
on_the_way s sleeps h = grind arith

pub no_wake_up_is_lost : NoWakeUpIsLost
no_wake_up_is_lost steps sleeps what = by (on_the_way state sleeps (sound steps)) what
  where
    state : Waking
    state = after_steps opened steps

    by : (0 < state.changed) ⊎ ((0 < state.waking) ⊎ IsIdle state) → (0 < state.values) ⊎ (state.asked ≡ true)
        → (0 < state.changed) ⊎ (0 < state.waking)
    by (inl changed) what = inl changed
    by (inr (inl waking)) what = inr waking
    by (inr (inr idle)) (inl some) = absurd (omega (arith, some, idle.values))
    by (inr (inr idle)) (inr asked) = let going = idle.asked in cc

-- ---- the steps end

-- the token leads a reader to at most six steps more
token_adds : (word : Word) (reader : Reader)
    → of_word Notified + of_reader reader Notified ≤ of_word word + of_reader reader word + 6
token_adds word reader = grind arith

notify_falls : (state next : Waking) (changed : ℕ) (word : Word) → state.changed ≡ changed → notify state changed word ≡ Some next
    → steps_left next < steps_left state
notify_falls state next zero word is leads = cc
notify_falls state next (suc changed) Parked is leads =
    omega (arith, is, token_adds state.word state.reader, ap (λ (after : Option Waking). steps_left (unwrap_or after state)) leads)
notify_falls state next (suc changed) word is leads = grind (arith, token_adds)

wake_falls : (state next : Waking) (waking : ℕ) (reader : Reader) → state.waking ≡ waking → state.reader ≡ reader
    → wake state waking reader ≡ Some next → steps_left next < steps_left state
wake_falls state next zero reader waking_is reader_is leads = cc
wake_falls state next (suc waking) Sleeps waking_is reader_is leads =
    omega (
      arith,
      waking_is,
      ap (λ (reader : Reader). of_reader reader state.word) reader_is,
      ap (λ (after : Option Waking). steps_left (unwrap_or after state)) leads,
    )
wake_falls state next (suc waking) reader waking_is reader_is leads = grind arith

falls : (state next : Waking) (step : Step) → is_sound state ≡ true → leads_on step ≡ true → stepped state step ≡ Some next
    → steps_left next < steps_left state
falls state next Give right on leads = cc
falls state next Ask right on leads = cc
falls state next Notify right on leads = notify_falls state next state.changed state.word refl leads
falls state next Wake right on leads = wake_falls state next state.waking state.reader refl refl leads
falls state next Look right on leads = grind arith
falls state next See right on leads = grind arith
falls state next Yield right on leads = cc
falls state next Park right on leads = grind arith
falls state next Try right on leads = grind arith
falls state next Doze right on leads = grind arith
falls state next Rouse right on leads = cc
falls state next Leave right on leads = cc

abbrev GoesOn : Waking → Type 0
GoesOn s =
    (s.reader ≡ Left) ⊎ (((s.reader ≡ Sleeps) × IsIdle s)
    ⊎ ((step : Step) × (leads_on step ≡ true) × (is_some (stepped s step) ≡ true)))

goes_on : (state : Waking) (reader : Reader) → state.reader ≡ reader → is_sound state ≡ true → GoesOn state
goes_on state (Awake false going) reader_is right = inr (inr (Look, refl, grind arith))
goes_on state (Awake true false) reader_is right = inr (inr (See, refl, grind arith))
goes_on state (Awake true true) reader_is right = inr (inr (Park, refl, grind arith))
goes_on state Tries reader_is right = inr (inr (Try, refl, grind arith))
goes_on state Dozes reader_is right = inr (inr (Doze, refl, grind arith))
goes_on state Left reader_is right = inl reader_is
goes_on state Sleeps reader_is right = by (on_the_way state reader_is right)
  where
    by : (0 < state.changed) ⊎ ((0 < state.waking) ⊎ IsIdle state) → GoesOn state
    by (inl changed) = inr (inr (Notify, refl, grind arith))
    by (inr (inl waking)) = inr (inr (Wake, refl, grind arith))
    by (inr (inr idle)) = inr (inl (reader_is, idle))

pub waking_ends : WakingEnds
waking_ends =
    record {
      falls = λ steps next step on leads. falls (after_steps opened steps) next step (sound steps) on leads;
      goes_on = λ steps. goes_on (after_steps opened steps) _ refl (sound steps);
    }
