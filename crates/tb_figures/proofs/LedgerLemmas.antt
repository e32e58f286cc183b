-- What one more parcel adds to a ledger, and to its counts.
use Rattle.std.proofs.Common.{refl, sym, ap, subst, ◌∙◌, arith, ◌≡◌, ◌≤◌, ℕ, ◌+◌, Bool, true, false, List, [], ◌∷◌, ◌++◌, map, length, length-append, append-nil}
use Rattle.tb_figures.proofs.Words.{◌||◌, if◌then◌else◌, nat_lt, or_parts, flat_map-append, append_assoc, Input, Pulse, input_of, Parcel, AreCounts, AreFull, HasPlaces, groups_of, inputs_of, Counts}
use Rattle.tb_layout.specs.claim.Bounds.{places_max}
use Rattle.tb_work.specs.claim.Answer.{reply_with}
use Rattle.tb_work.specs.declared.outcome.Outcome.TheVariants as outcome
use Rattle.tb_core.specs.declared.parcel.Parcel.TheVariants as parcel
use Rattle.tb_core.specs.declared.outcomes.Outcomes.{Outcomes}
use Rattle.tb_core.specs.declared.outcomes.Outcomes.TheVariants.{Cut, Nothing}
use Rattle.tb_core.proofs.Since.{groups-inputs, prefix-drop}
use Rattle.tb_core.specs.claim.Grouping.{AreJoined}
use Rattle.tb_core.specs.claim.Journal.{LedgerState, groups_since, inputs}
use Rattle.tb_core.specs.claim.AnyLedger.{Applying}
use Rattle.tb_core.specs.claim.Ledger.{Applied, apply_result, apply_step, must_stop, step_of_batch, with_entry, with_stop}
use Rattle.tb_figures.specs.clauses.Counted.{CountsAreExact, IsCounted}

-- ---- one parcel

module _ (before after : LedgerState) (group : List Input) (outcomes refusal answers : Outcomes) where
  abbrev Step : Bool → Type 0
  Step stop =
      apply_result after outcomes
      ≡ (if stop then apply_result (with_stop before) refusal else apply_result (with_entry before group) answers)

  -- a ledger that didn't stop has the group
  added : (stop : Bool) → Step stop → after.stopped ≡ false
      → (stop ≡ false) × (after.groups ≡ before.groups ++ group ∷ [])
  added true is on = absurd (let stop = ap (λ (a : Applied). a.ledger.stopped) is in cc)
  added false is on = (refl, ap (λ (a : Applied). a.ledger.groups) is)

  -- one that stopped has the groups that it had
  kept : (was rest : Bool) → before.stopped ≡ was → Step (was || rest) → after.stopped ≡ true
      → after.groups ≡ before.groups
  kept true rest e is stop = ap (λ (a : Applied). a.ledger.groups) is
  kept false true e is stop = ap (λ (a : Applied). a.ledger.groups) is
  kept false false e is stop = absurd (let same = ap (λ (a : Applied). a.ledger.stopped) is in cc)

module _ (old new : LedgerState) (outcomes : Outcomes) (refused : Bool) where
  abbrev StepOf : Parcel → Type 0
  StepOf handed = apply_result new outcomes ≡ apply_step refused old handed

  few : (count : ℕ) → must_stop refused old count ≡ false → length (inputs old) + count ≤ places_max
  few count goes =
      let past = (or_parts refused _ (or_parts old.stopped _ goes).1).1 in
      grind (arith, past)

  gains : (handed : Parcel) → StepOf handed → new.stopped ≡ false
      → (new.groups ≡ old.groups ++ groups_of handed) × HasPlaces (inputs old) handed
  gains (parcel.Batch jobs) is on =
      let done = added old new (map input_of jobs) outcomes (Cut (map (reply_with outcome.Stopped) jobs))
      (step_of_batch old jobs).outcomes (must_stop refused old (length jobs)) is on in
      (done.1, few (length jobs) done.0)
  gains (parcel.Pulse moment) is on =
      let done = added old new (Pulse moment ∷ []) outcomes Nothing Nothing (must_stop refused old 1) is on in
      (done.1, few 1 done.0)
  gains (parcel.Return job cause) is on =
      (ap (λ (a : Applied). a.ledger.groups) is ∙ sym (append-nil old.groups), tt)
  gains parcel.Last is on = (ap (λ (a : Applied). a.ledger.groups) is ∙ sym (append-nil old.groups), tt)

  stays : (handed : Parcel) → StepOf handed → new.stopped ≡ true → new.groups ≡ old.groups
  stays (parcel.Batch jobs) is stop =
      kept old new (map input_of jobs) outcomes (Cut (map (reply_with outcome.Stopped) jobs))
      (step_of_batch old jobs).outcomes old.stopped (refused || nat_lt places_max (length (inputs old) + length jobs))
      refl is stop
  stays (parcel.Pulse moment) is stop =
      kept old new (Pulse moment ∷ []) outcomes Nothing Nothing old.stopped
      (refused || nat_lt places_max (length (inputs old) + 1)) refl is stop
  stays (parcel.Return job cause) is stop = ap (λ (a : Applied). a.ledger.groups) is
  stays parcel.Last is stop = ap (λ (a : Applied). a.ledger.groups) is

-- places are left after a part if they are left after all
fits : (handed : Parcel) (before all : List Input) → length before ≤ length all → HasPlaces all handed
    → HasPlaces before handed
fits (parcel.Batch jobs) before all short has = omega (arith, short, has)
fits (parcel.Pulse moment) before all short has = omega (arith, short, has)
fits (parcel.Return job cause) before all short has = tt
fits parcel.Last before all short has = tt

-- ---- a ledger that counts

last-short : (state : LedgerState) (before last : List (List Input)) → state.groups ≡ before ++ last
    → length (inputs_of last) ≤ length (inputs state)
last-short state before last is =
    omega (
      arith,
      ap (λ groups. length (inputs_of groups)) is,
      ap length (flat_map-append (λ (group : List Input). group) before last),
      length-append (inputs_of before) (inputs_of last),
    )

module _ {L : Type 0} (is : L → LedgerState → Type 0) (before after : L) (counts more : Counts) (handed : Parcel)
    (outcomes : Outcomes) (applied : Applying (is before) handed outcomes (is after)) where
  pub counts_on : ((groups : List (List Input)) → AreCounts groups counts → HasPlaces (inputs_of groups) handed
      → AreCounts (groups ++ groups_of handed) more)
      → ((state : LedgerState) → is after state → state.stopped ≡ false)
      → Applying (IsCounted is before counts) handed outcomes (IsCounted is after more)
  counts_on adds goes old was =
      let made = applied old was.own in
      let had = was.last in
      let gained = gains old made.0 outcomes made.2.refused handed made.2.step (goes made.0 made.1) in (
        made.0,
        record {
          own = made.1;
          last = record {
            before = had.before;
            last = had.last ++ groups_of handed;
            groups = gained.0 ∙ ap (λ groups. groups ++ groups_of handed) had.groups
                ∙ append_assoc had.before had.last (groups_of handed);
            counted = adds had.last had.counted (fits handed (inputs_of had.last) (inputs old)
                (last-short old had.before had.last had.groups) gained.1);
          };
        },
        made.2,
      )

  pub counts_stay : ((state : LedgerState) → is after state → state.stopped ≡ true)
      → Applying (IsCounted is before counts) handed outcomes (IsCounted is after counts)
  counts_stay stops old was =
      let made = applied old was.own in
      let had = was.last in (
        made.0,
        record {
          own = made.1;
          last = record {
            before = had.before;
            last = had.last;
            groups = stays old made.0 outcomes made.2.refused handed made.2.step (stops made.0 made.1) ∙ had.groups;
            counted = had.counted;
          };
        },
        made.2,
      )

-- ---- the counts of a run

joined-full : (limit : ℕ) (groups : List (List Input)) → AreJoined limit groups → AreFull groups
joined-full limit [] joined = tt
joined-full limit ([] ∷ groups) joined = absurd joined.0
joined-full limit ((input ∷ group) ∷ groups) joined = (omega arith, joined-full limit groups joined.1)

-- the last groups of a list are known by how many packets and pulses they have
same-last : (xs ys ps qs : List (List Input)) → xs ++ ps ≡ ys ++ qs → AreFull ps → AreFull qs
    → length (inputs_of ps) ≡ length (inputs_of qs) → ps ≡ qs
same-last [] [] ps qs is full_ps full_qs long = is
same-last [] (y ∷ ys) [] qs is full_ps full_qs long = cc
same-last [] (y ∷ ys) (p ∷ ps) qs is full_ps full_qs long =
    let rest : ps ≡ ys ++ qs = cc in
    absurd (omega (
      arith,
      full_ps.0,
      long,
      ap length (flat_map-append (λ (g : List Input). g) (p ∷ []) ps),
      length-append (inputs_of (p ∷ [])) (inputs_of ps),
      ap length (append-nil p),
      ap (λ groups. length (inputs_of groups)) rest,
      ap length (flat_map-append (λ (g : List Input). g) ys qs),
      length-append (inputs_of ys) (inputs_of qs),
    ))
same-last (x ∷ xs) [] ps [] is full_ps full_qs long = cc
same-last (x ∷ xs) [] ps (q ∷ qs) is full_ps full_qs long =
    let rest : qs ≡ xs ++ ps = cc in
    absurd (omega (
      arith,
      full_qs.0,
      long,
      ap length (flat_map-append (λ (g : List Input). g) (q ∷ []) qs),
      length-append (inputs_of (q ∷ [])) (inputs_of qs),
      ap length (append-nil q),
      ap (λ groups. length (inputs_of groups)) rest,
      ap length (flat_map-append (λ (g : List Input). g) xs ps),
      length-append (inputs_of xs) (inputs_of ps),
    ))
same-last (x ∷ xs) (y ∷ ys) ps qs is full_ps full_qs long =
    let rest : xs ++ ps ≡ ys ++ qs = cc in
    same-last xs ys ps qs rest full_ps full_qs long

pub counts_are_exact : CountsAreExact
counts_are_exact start state limit counts prefix joined places last =
    subst (λ groups. AreCounts groups counts)
    (sym (same-last start.groups last.before (groups_since start state) last.last
    (prefix-drop start.groups state.groups prefix ∙ last.groups) (joined-full limit (groups_since start state) joined)
    last.counted.full
    (ap length (groups-inputs start state prefix) ∙ sym places ∙ last.counted.places)))
    last.counted
