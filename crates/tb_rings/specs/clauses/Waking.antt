-- How a thread sleeps and is woken, as a table of atomic steps. It is a model: that the code takes these steps, each named beside
-- it, is for a reader to see. Assumed is that all threads see each step at once (the code's atomics are SeqCst), and that the
-- kernel compares the word and sleeps in one step. One thread reads; any number of threads put values or give the run up. A thread
-- that waits for a slot of a ring reads free slots: `Outlet::give` looks for one, and `Inlet::take` gives one.
use Rattle.std.specs.Prelude.{◌≡◌, ◌<◌, ◌⊎◌, ℕ, zero, suc, ◌+◌, ◌*◌, Bool, true, false, List, [], ◌∷◌, Option, Some, None, is_some, unwrap_or}

-- the word of the reader's parker (`EMPTY`, `PARKED` and `NOTIFIED` of crossbeam_utils' parker)
pub data Word : Type 0 where
  Empty : Word
  Parked : Word
  Notified : Word

-- Where the reader is. Awake it looks for a value and whether the run is given up, in either order, and sleeps only after it saw
-- neither: the first of the two says that it saw no value, the second that the run isn't given up.
pub data Reader : Type 0 where
  Awake : Bool → Bool → Reader
  Tries : Reader  -- in the loop of `park`, at the exchange for the token
  Dozes : Reader  -- there, at the kernel's call
  Sleeps : Reader
  Left : Reader  -- it gave up, or was dropped

-- `values` are there to take, and `asked` says that the run is given up. Of the threads that changed one of these, `changed` have
-- still to set the token. `waking` threads set it, saw that the reader was parked, and have still to wake it.
pub record Waking : Type 0 where
  pub values : ℕ
  pub asked : Bool
  pub changed : ℕ
  pub waking : ℕ
  pub word : Word
  pub reader : Reader

-- each with the line that it is
pub data Step : Type 0 where
  Give : Step  -- `Outlet::give`: self.producer.push_reserved(value); `Inlet::take`: pop_known(); `Sender::push`, `Sender::end`: self.queue.push_as(..)
  Ask : Step  -- `Stop::give_up`: self.given_up.store(true, ..)
  Notify : Step  -- `Waker::wake`: self.unparker.unpark(), its swap of the word
  Wake : Step  -- the same, its call of the kernel if the word was PARKED
  Look : Step  -- `Inlet::take`: self.has_value(), and pop_known() if so; `Outlet::give`; `Reader::take`: self.queue.pop_as(..)
  See : Step  -- `Client::receive`, `receive` of tb_drive: stop.is_given_up()
  Yield : Step  -- `IdleWait::pause`: it yields, or only looks again
  Park : Step  -- `Sleeper::wait`: self.parker.park(rt), its exchange of EMPTY for PARKED
  Try : Step  -- the same, its exchange of NOTIFIED for EMPTY
  Doze : Step  -- the same, its call of the kernel, which sleeps only if the word is PARKED
  Rouse : Step  -- that call returns for no reason
  Leave : Step  -- the reader is dropped

-- ---- those who change something

abbrev pub notify : Waking → ℕ → Word → Option Waking
notify s zero word = None
notify s (suc changed) Parked = Some (record s { changed = changed; waking = s.waking + 1; word = Notified })
notify s (suc changed) word = Some (record s { changed = changed; word = Notified })

abbrev pub wake : Waking → ℕ → Reader → Option Waking
wake s zero reader = None
wake s (suc waking) Sleeps = Some (record s { waking = waking; reader = Tries })
wake s (suc waking) reader = Some (record s { waking = waking })

-- ---- the reader

abbrev pub look : Waking → Reader → ℕ → Option Waking
look s (Awake false going) zero = Some (record s { reader = Awake true going })
look s (Awake false going) (suc values) = Some (record s { values = values; reader = Awake false false })
look s reader values = None

abbrev pub see : Waking → Reader → Bool → Option Waking
see s (Awake none false) true = Some (record s { reader = Left })
see s (Awake none false) false = Some (record s { reader = Awake none true })
see s reader asked = None

abbrev pub yield : Waking → Reader → Option Waking
yield s (Awake none going) = Some (record s { reader = Awake false false })
yield s reader = None

abbrev pub park : Waking → Reader → Word → Option Waking
park s (Awake true true) Empty = Some (record s { word = Parked; reader = Tries })
park s (Awake true true) word = Some (record s { reader = Tries })
park s reader word = None

abbrev pub try : Waking → Reader → Word → Option Waking
try s Tries Notified = Some (record s { word = Empty; reader = Awake false false })
try s Tries word = Some (record s { reader = Dozes })
try s reader word = None

abbrev pub doze : Waking → Reader → Word → Option Waking
doze s Dozes Parked = Some (record s { reader = Sleeps })
doze s Dozes word = Some (record s { reader = Tries })
doze s reader word = None

abbrev pub rouse : Waking → Reader → Option Waking
rouse s Sleeps = Some (record s { reader = Tries })
rouse s reader = None

abbrev pub leave : Waking → Reader → Option Waking
leave s (Awake none going) = Some (record s { reader = Left })
leave s reader = None

-- ---- the table

-- the state after a step, or None if it can't be taken
abbrev pub stepped : Waking → Step → Option Waking
stepped s Give = Some (record s { values = s.values + 1; changed = s.changed + 1 })
stepped s Ask = Some (record s { asked = true; changed = s.changed + 1 })
stepped s Notify = notify s s.changed s.word
stepped s Wake = wake s s.waking s.reader
stepped s Look = look s s.reader s.values
stepped s See = see s s.reader s.asked
stepped s Yield = yield s s.reader
stepped s Park = park s s.reader s.word
stepped s Try = try s s.reader s.word
stepped s Doze = doze s s.reader s.word
stepped s Rouse = rouse s s.reader
stepped s Leave = leave s s.reader

abbrev pub after_steps : Waking → List Step → Waking
after_steps s [] = s
after_steps s (step ∷ steps) = after_steps (unwrap_or (stepped s step) s) steps

abbrev pub opened : Waking
opened = record { values = 0; asked = false; changed = 0; waking = 0; word = Empty; reader = Awake false false }

-- ---- laws

-- In any order of steps: while the reader sleeps and there is a value, or the run is given up, a thread is still on its way to wake
-- it.
abbrev pub NoWakeUpIsLost : Type 0
NoWakeUpIsLost =
    (steps : List Step) → (let s = after_steps opened steps in s.reader ≡ Sleeps → (0 < s.values) ⊎ (s.asked ≡ true)
    → (0 < s.changed) ⊎ (0 < s.waking))

-- the steps that lead a value out, or the reader away
abbrev pub leads_on : Step → Bool
leads_on Give = false
leads_on Ask = false
leads_on Yield = false
leads_on Rouse = false
leads_on Leave = false
leads_on step = true

abbrev pub of_word : Word → ℕ
of_word Notified = 4
of_word word = 0

abbrev pub of_seen : Bool → ℕ
of_seen false = 1
of_seen true = 0

abbrev pub of_reader : Reader → Word → ℕ
of_reader (Awake none going) word = 3 + (of_seen none + of_seen going)
of_reader Tries word = 2
of_reader Dozes Notified = 3
of_reader Dozes word = 1
of_reader Sleeps word = 0
of_reader Left word = 0

-- the most steps that can still lead on
abbrev pub steps_left : Waking → ℕ
steps_left s = 2 * s.values + (10 * s.changed + (3 * s.waking + (of_word s.word + of_reader s.reader s.word)))

-- the reader has nothing to see, and nobody is on the way to wake it
pub record IsIdle (s : Waking) : Type 0 where
  pub values : s.values ≡ 0
  pub asked : s.asked ≡ false
  pub changed : s.changed ≡ 0
  pub waking : s.waking ≡ 0

-- In any order of steps, each step that leads on lowers the number of those that are left. One can be taken unless the reader left,
-- or sleeps with nothing to see and nobody on the way.
pub record WakingEnds : Type 0 where
  pub falls : (steps : List Step) (next : Waking) (step : Step) → leads_on step ≡ true
      → stepped (after_steps opened steps) step ≡ Some next → steps_left next < steps_left (after_steps opened steps)
  pub goes_on : (steps : List Step) → (let s = after_steps opened steps in
      (s.reader ≡ Left) ⊎ (((s.reader ≡ Sleeps) × IsIdle s)
      ⊎ ((step : Step) × (leads_on step ≡ true) × (is_some (stepped s step) ≡ true))))
