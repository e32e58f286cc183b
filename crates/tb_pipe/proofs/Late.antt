-- Batches that are sealed only when they must be.
use Rattle.std.proofs.Common.{refl, sym, ap, subst, ◌∙◌, ◌≡◌, ◌⊎◌, inl, inr, ⊎_elim, ℕ, ◌+◌, Bool, true, false, true≢false, List, [], ◌∷◌, ◌++◌, length, append_assoc, append-nil, Option, Some, None}
use Rattle.tb_pipe.proofs.Words.{◌||◌, is_some, if◌then◌else◌, Contains, Contains-append_left, Numbered, input_of, ahead, items_in, Item, Ticket, is_taken, Parcel, FrontState, Taken, take_result, with_group, group_as_batch, with_end, all_ended, take_step, all_decisions_in, Decision, AreDecisions, decisions_from, inputs_in, Ahead, Behind, IntakeState, with_taken, with_empty, is_batch, goes_on, WasEmptyAfter, BeginsNext}
use Rattle.tb_layout.specs.claim.Events as input
use Rattle.tb_work.specs.declared.item.Item.TheVariants as item
use Rattle.tb_core.specs.declared.parcel.Cause.TheVariants.{Shutdown, Stopped}
use Rattle.tb_core.specs.declared.parcel.Parcel.TheVariants as parcel

-- ---- two values in a row

never_empty : {A : Type 0} (before : List A) (a : A) (after : List A) → [] ≡ before ++ a ∷ after → ⊥
never_empty [] a after is = cc
never_empty (x ∷ before) a after is = cc

-- the last value is the second of two in a row, or both are in front of it
unsnoc : {A : Type 0} (xs : List A) (x a b : A) (before after : List A) → xs ++ x ∷ [] ≡ before ++ a ∷ b ∷ after
    → ((x ≡ b) × (xs ≡ before ++ a ∷ [])) ⊎ ((rest : List A) × (xs ≡ before ++ a ∷ b ∷ rest))
unsnoc [] x a b [] after is = cc
unsnoc [] x a b (y ∷ before) after is = absurd (never_empty before a (b ∷ after) cc)
unsnoc (w ∷ []) x a b [] after is = inl (cc, cc)
unsnoc (w ∷ v ∷ ws) x a b [] after is = inr (ws, cc)
unsnoc (w ∷ ws) x a b (y ∷ before) after is =
    let same : w ≡ y = cc in
    let rest : ws ++ x ∷ [] ≡ before ++ a ∷ b ∷ after = cc in
    ⊎_elim (λ r. inl (r.0, (λ i. same i ∷ r.1 i))) (λ r. inr (r.0, (λ i. same i ∷ r.1 i)))
    (unsnoc ws x a b before after rest)

same_last : {A : Type 0} (xs ys : List A) (x y : A) → xs ++ x ∷ [] ≡ ys ++ y ∷ [] → (xs ≡ ys) × (x ≡ y)
same_last [] [] x y is = (refl, cc)
same_last [] (b ∷ ys) x y is = absurd (never_empty ys y [] cc)
same_last (a ∷ xs) [] x y is = absurd (never_empty xs x [] cc)
same_last (a ∷ xs) (b ∷ ys) x y is =
    let same : a ≡ b = cc in
    let rest : xs ++ x ∷ [] ≡ ys ++ y ∷ [] = cc in
    let more = same_last xs ys x y rest in
    ((λ i. same i ∷ more.0 i), more.1)

either : {A : Type 0} (G : A → Type 0) (test : Bool) (x y : A) → (test ≡ true → G x) → (test ≡ false → G y)
    → G (if test then x else y)
either G true x y is other = is refl
either G false x y is other = other refl

-- ---- lists of parcels, with a fact of the parcels after which the queue was seen empty

module _ (limit : ℕ) (Empty : List Parcel → Type 0) where
  abbrev pub Late : List Parcel → Type 0
  Late parcels =
      (before after : List Parcel) (group next : List Numbered)
      → parcels ≡ before ++ parcel.Batch group ∷ parcel.Batch next ∷ after
      → (goes_on limit group next ≡ false) ⊎ Empty (before ++ parcel.Batch group ∷ [])

  -- why a batch may follow parcels
  abbrev pub MayFollow : List Parcel → List Numbered → Type 0
  MayFollow parcels next =
      (before : List Parcel) (group : List Numbered) → parcels ≡ before ++ parcel.Batch group ∷ []
      → (goes_on limit group next ≡ false) ⊎ Empty parcels

  first_late : (xs ys : List Parcel) → Late (xs ++ ys) → Late xs
  first_late xs ys late before after group next is =
      late before (after ++ ys) group next
      (ap (λ ps. ps ++ ys) is
      ∙ append_assoc before (parcel.Batch group ∷ parcel.Batch next ∷ after) ys)

  late_more : (xs : List Parcel) (x : Parcel) → Late xs
      → ((next : List Numbered) → x ≡ parcel.Batch next → MayFollow xs next) → Late (xs ++ x ∷ [])
  late_more xs x late may = λ before after group next is.
      ⊎_elim
      (λ (last : (x ≡ parcel.Batch next) × (xs ≡ before ++ parcel.Batch group ∷ [])).
      ⊎_elim inl (λ empty. inr (subst Empty last.1 empty)) (may next last.0 before group last.1))
      (λ (first : (rest : List Parcel) × (xs ≡ before ++ parcel.Batch group ∷ parcel.Batch next ∷ rest)).
      late before first.0 group next first.1)
      (unsnoc xs x (parcel.Batch group) (parcel.Batch next) before after is)

  late_other : (xs : List Parcel) (x : Parcel) → is_batch x ≡ false → Late xs → Late (xs ++ x ∷ [])
  late_other xs x other late =
      late_more xs x late (λ next is. absurd (true≢false (sym (ap is_batch is) ∙ other)))

  -- parcels whose last one is no batch don't end in a batch
  other_last : (xs : List Parcel) (x : Parcel) → is_batch x ≡ false → (before : List Parcel) (group : List Numbered)
      → xs ++ x ∷ [] ≡ before ++ parcel.Batch group ∷ [] → ⊥
  other_last xs x other before group is =
      true≢false (sym (ap is_batch (same_last xs before x (parcel.Batch group) is).1) ∙ other)

  -- the group held
  late_group : (xs : List Parcel) (held : List Numbered) → Late xs → MayFollow xs held
      → Late (xs ++ group_as_batch held)
  late_group xs [] late may = subst Late (sym (append-nil xs)) late
  late_group xs (job ∷ jobs) late may =
      late_more xs (parcel.Batch (job ∷ jobs)) late
      (λ next is before group parts. let same : next ≡ job ∷ jobs = cc in
      subst (λ ns. (goes_on limit group ns ≡ false) ⊎ Empty xs) (sym same) (may before group parts))

  group_follows : (xs : List Parcel) (job : Numbered) (jobs more : List Numbered)
      → Late (xs ++ parcel.Batch (job ∷ jobs) ∷ []) → MayFollow xs (job ∷ more)
  group_follows xs job jobs more late before group is =
      ⊎_elim inl (λ empty. inr (subst Empty (sym is) empty))
      (late before [] group (job ∷ jobs) (ap (λ ps. ps ++ parcel.Batch (job ∷ jobs) ∷ []) is
      ∙ append_assoc before (parcel.Batch group ∷ []) (parcel.Batch (job ∷ jobs) ∷ [])))

  -- ---- one step of the front

  abbrev pub EndsEmpty : FrontState → List Parcel → Type 0
  EndsEmpty front given =
      BeginsNext front → (before : List Parcel) (group : List Numbered) → given ≡ before ++ parcel.Batch group ∷ []
      → Empty given

  -- the group held would follow these parcels lawfully, and so would the packet that begins the next one
  abbrev pub IsLate : List Parcel → FrontState → Type 0
  IsLate given front = Late (given ++ group_as_batch front.held) × EndsEmpty front given

  module _ (given : List Parcel) where
    abbrev pub StaysLate : Taken → Type 0
    StaysLate step = IsLate (given ++ step.parcels) step.front

    -- nothing is given on, and no less is held
    none_given : (front next : FrontState) → next.held ≡ front.held → Late (given ++ group_as_batch front.held)
        → EndsEmpty next given → StaysLate (take_result next [])
    none_given front next same late empty =
        subst (λ parcels. IsLate parcels next) (sym (append-nil given))
        (subst (λ jobs. Late (given ++ group_as_batch jobs)) (sym same) late, empty)

    -- the group is given on, and then a parcel that is no batch
    group_and_other : (held : List Numbered) (x : Parcel) (next : FrontState) → is_batch x ≡ false
        → next.held ≡ [] → Late (given ++ group_as_batch held)
        → StaysLate (take_result next (group_as_batch held ++ x ∷ []))
    group_and_other held x next other none late =
        let all = given ++ group_as_batch held in
        subst (λ parcels. IsLate parcels next) (append_assoc given (group_as_batch held) (x ∷ [])) (
          rw (none, append-nil (all ++ x ∷ [])) (late_other all x other late),
          λ begins before group is. absurd (other_last all x other before group is),
        )

    -- the group is given on, and no packet may follow
    group_alone : (held : List Numbered) (next : FrontState) → next.held ≡ [] → (BeginsNext next → ⊥)
        → Late (given ++ group_as_batch held) → StaysLate (take_result next (group_as_batch held))
    group_alone held next none never late = (
      rw (none, append-nil (given ++ group_as_batch held)) late,
      λ begins before group is. absurd (never begins),
    )

    -- a packet that is returned
    returned : (front : FrontState) (x : Parcel) → is_batch x ≡ false → Late (given ++ group_as_batch front.held)
        → StaysLate (take_result front (x ∷ []))
    returned front x other late = (
      late_group (given ++ x ∷ []) front.held
          (late_other given x other (first_late given (group_as_batch front.held) late))
          (λ before group is. absurd (other_last given x other before group is)),
      λ begins before group is. absurd (other_last given x other before group is),
    )

    -- a packet that joins the group held, or begins one
    joins : (held : List Numbered) (front : FrontState) (job : Numbered) → (held ≡ [] → BeginsNext front)
        → Late (given ++ group_as_batch held) → EndsEmpty front given
        → StaysLate (take_result (with_group front (held ++ job ∷ [])) [])
    joins [] front job begins late empty =
        none_given (with_group front (job ∷ [])) (with_group front (job ∷ [])) refl
        (late_more given (parcel.Batch (job ∷ [])) (subst Late (append-nil given) late)
        (λ next is before group parts. inr (empty (begins refl) before group parts)))
        (λ holds before group is. absurd (never_empty [] job [] (sym holds.0)))
    joins (first ∷ jobs) front job begins late empty =
        let next = with_group front (first ∷ (jobs ++ job ∷ [])) in
        none_given next next refl
        (late_group given (first ∷ (jobs ++ job ∷ [])) (first_late given (parcel.Batch (first ∷ jobs) ∷ []) late)
        (group_follows given first jobs (jobs ++ job ∷ []) late))
        (λ holds before group is. absurd (never_empty [] first (jobs ++ job ∷ []) (sym holds.0)))

    -- a packet that doesn't join it
    begins_next : (held : List Numbered) (front : FrontState) (job : Numbered) → is_taken limit held job ≡ false
        → Late (given ++ group_as_batch held)
        → StaysLate (take_result (with_group front (job ∷ [])) (group_as_batch held))
    begins_next [] front job differs late = absurd (true≢false differs)
    begins_next (first ∷ jobs) front job differs late = (
      late_group (given ++ parcel.Batch (first ∷ jobs) ∷ []) (job ∷ []) late
          (λ before group is.
          let same : first ∷ jobs ≡ group =
          let last = (same_last given before (parcel.Batch (first ∷ jobs)) (parcel.Batch group) is).1 in cc in
          inl (subst (λ g. is_taken limit g job ≡ false) same differs)),
      λ begins before group is. absurd (never_empty [] job [] (sym begins.0)),
    )

    pub step_late : (refused : Bool) (front : FrontState) (sender : ℕ) (x : Item) → front.limit ≡ limit
        → all_ended front ≡ false → IsLate given front → StaysLate (take_step refused front sender x)
    step_late refused front sender (item.Packet job) under unended (late, empty) =
        either StaysLate front.closed _ _ (λ closed. returned front (parcel.Return job Shutdown) refl late)
        (λ unclosed. either StaysLate front.stopped _ _
        (λ stopped. returned front (parcel.Return job Stopped) refl late)
        (λ going. either StaysLate refused _ _
        (λ refuses. group_and_other front.held (parcel.Return job Stopped) (record front { held = []; stopped = true })
        refl refl late)
        (λ accepts. either StaysLate (is_taken front.limit front.held job) _ _
        (λ taken. joins front.held front job (λ none. (none, unclosed, going, unended)) late empty)
        (λ differs. begins_next front.held front job
        (subst (λ n. is_taken n front.held job ≡ false) under differs) late))))
    step_late refused front sender (item.Pulse moment) under unended (late, empty) =
        either StaysLate (front.closed || front.stopped) _ _ (λ shut. none_given front front refl late empty)
        (λ unclosed. group_and_other front.held (parcel.Pulse moment) (with_group front []) refl refl late)
    step_late refused front sender item.End under unended (late, empty) =
        let next = with_end front sender in
        either StaysLate (all_ended next) _ _
        (λ ended. group_alone front.held (with_group next []) refl (λ begins. true≢false (sym ended ∙ begins.3)) late)
        (λ more. none_given front next refl late (λ begins. empty (begins.0, begins.1, begins.2, unended)))
    step_late refused front sender item.Close under unended (late, empty) =
        group_alone front.held (record (with_end front sender) { held = []; closed = true }) refl
        (λ begins. true≢false begins.1) late

-- ---- what the intake saw stays seen

pub empty_later : (intake : IntakeState) (ticket : Ticket) (parcels : List Parcel) → WasEmptyAfter intake parcels
    → WasEmptyAfter (with_taken intake ticket) parcels
empty_later intake ticket parcels was = record {
  before = was.before;
  after = was.after ++ ticket ∷ [];
  parts = ap (λ tickets. tickets ++ ticket ∷ []) was.parts ∙ append_assoc was.before was.after (ticket ∷ []);
  seen = was.seen;
  inputs = was.inputs;
}

pub empty_again : (intake : IntakeState) (parcels : List Parcel) → WasEmptyAfter intake parcels
    → WasEmptyAfter (with_empty intake) parcels
empty_again intake parcels was = record {
  before = was.before;
  after = was.after;
  parts = was.parts;
  seen = Contains-append_left intake.seen_empty (length intake.taken ∷ []) (length was.before) was.seen;
  inputs = was.inputs;
}

pub late_with : (limit : ℕ) (Old New : List Parcel → Type 0) (given : List Parcel) (front : FrontState)
    → ((parcels : List Parcel) → Old parcels → New parcels) → IsLate limit Old given front → IsLate limit New given front
late_with limit Old New given front all (late, empty) = (
  λ before after group next is. ⊎_elim inl (λ was. inr (all (before ++ parcel.Batch group ∷ []) was))
      (late before after group next is),
  λ begins before group is. all given (empty begins before group is),
)

-- ---- what a front that didn't stop let through

behind_works : (items : List Item) → inputs_in (decisions_from None Behind items) ≡ []
behind_works [] = refl
behind_works (item.Packet job ∷ items) = behind_works items
behind_works (item.Pulse moment ∷ items) = behind_works items
behind_works (item.End ∷ items) = behind_works items
behind_works (item.Close ∷ items) = behind_works items

ahead_works : (k : ℕ) (items : List Item) → inputs_in (decisions_from None (Ahead k) items) ≡ ahead items
ahead_works k [] = refl
ahead_works k (item.Packet job ∷ items) = ap (λ ws. input_of job ∷ ws) (ahead_works (k + 1) items)
ahead_works k (item.Pulse moment ∷ items) = ap (λ ws. input.Pulse moment ∷ ws) (ahead_works (k + 1) items)
ahead_works k (item.End ∷ items) = ahead_works k items
ahead_works k (item.Close ∷ items) = behind_works items

pub all_works : (items : List Item) (closed stopped : Bool) (decisions : List Decision)
    → AreDecisions items closed stopped decisions → stopped ≡ false → ahead items ≡ inputs_in decisions
all_works items closed stopped decisions passes going = by passes.stop (sym passes.stops ∙ going) passes.all
  where
    by : (stop : Option ℕ) → is_some stop ≡ false → decisions ≡ decisions_from stop (Ahead 0) items
        → ahead items ≡ inputs_in decisions
    by None none all = sym (ap inputs_in all ∙ ahead_works 0 items)
    by (Some through) none all = absurd (true≢false none)

-- the queue is seen empty after all that was taken
pub empty_now : (intake : IntakeState) (closed stopped : Bool) (parcels : List Parcel)
    → Contains intake.seen_empty (length intake.taken)
    → AreDecisions (items_in intake.taken) closed stopped (all_decisions_in parcels) → stopped ≡ false
    → WasEmptyAfter intake parcels
empty_now intake closed stopped parcels seen passes going = record {
  before = intake.taken;
  after = [];
  parts = sym (append-nil intake.taken);
  seen = seen;
  inputs = all_works (items_in intake.taken) closed stopped (all_decisions_in parcels) passes going;
}
