-- A run over what a crash leaves of a ledger that stopped.
use Rattle.std.proofs.Common.{◌≡◌, ◌∙◌, inl, inr, refl, ap, subst, sym, ℕ, zero, suc, Bool, Some, List, [], ◌∷◌, ◌++◌, take, length, append_assoc, append-nil}
use Rattle.tb_durable.proofs.Words.{flat_map, flat_map-append, events_in, input_of, View, BareLedgerState, Input, LedgerState, inputs, groups_of, HasGroups, MayHave}
use Rattle.std.specs.Prelude.{slice_get}
use Rattle.tb_machine.specs.claim.Replay.{replay, answer_of}
use Rattle.tb_core.specs.claim.EndedRun.{Run}
use Rattle.tb_core.specs.claim.Headline.{Headline, IsTrueOf}
use Rattle.tb_core.specs.claim.TwoRuns.{AnswersStand}
use Rattle.tb_core.proofs.Since.{get-drop}
use Rattle.tb_durable.specs.clauses.Runs.{GoesOnAfter, ShowsJournal, StoppedRunsFollow, with_group}
use Rattle.tb_durable.proofs.RunLemmas.{opening_of, shown_opening}

-- ---- what was answered stays true

-- what is at a place, and what is before it, don't change as the journal grows
get_longer : {X : Type 0} (front rest : List X) (n : ℕ) (x : X) → slice_get front n ≡ Some x → slice_get (front ++ rest) n ≡ Some x
get_longer [] rest n x got = cc
get_longer (y ∷ front) rest zero x got = got
get_longer (y ∷ front) rest (suc n) x got = get_longer front rest n x got

take_longer : {X : Type 0} (front rest : List X) (n : ℕ) (x : X) → slice_get front n ≡ Some x → take n (front ++ rest) ≡ take n front
take_longer [] rest n x got = cc
take_longer (y ∷ front) rest zero x got = refl
take_longer (y ∷ front) rest (suc n) x got = ap (λ ys. y ∷ ys) (take_longer front rest n x got)

stands_longer : (run : Run) (later : LedgerState) (rest : List Input) → later.opening ≡ run.ledger.opening
    → inputs later ≡ inputs run.ledger ++ rest → Headline run → AnswersStand run later
stands_longer run later rest opening grown is = λ submitter index reply place answer below got outcome.
    let said = subst (IsTrueOf run reply.packet) outcome (is.answered submitter index reply below got) in
    let packet = reply.packet in
    let there : slice_get (inputs run.ledger) place ≡ Some (input_of packet) = ap (slice_get (inputs run.ledger)) said.1
    ∙ sym (get-drop (length run.before) said.0 (inputs run.ledger)) ∙ said.2 in
    record {
      there = ap (λ all. slice_get all place) grown ∙ get_longer (inputs run.ledger) rest place (input_of packet) there;
      alone = said.3
          ∙ ap (λ front. answer_of (replay run.ledger.opening front) (events_in packet.packet))
          (sym (ap (take place) grown ∙ take_longer (inputs run.ledger) rest place (input_of packet) there))
          ∙ ap (λ clock. answer_of (replay clock (take place (inputs later))) (events_in packet.packet)) (sym opening);
    }

module _ (first second : Run) (more : List Input) (on_from : second.before ≡ inputs first.ledger ++ more)
    (opening : second.ledger.opening ≡ first.ledger.opening) where
  stands : Headline first → Headline second → AnswersStand first second.ledger
  stands first_is second_is =
      stands_longer first second.ledger (more ++ second_is.continues.0) opening
      (sym second_is.continues.1 ∙ ap (λ all. all ++ second_is.continues.0) on_from
      ∙ append_assoc (inputs first.ledger) more second_is.continues.0) first_is

-- ---- what the second run began with

module _ {new : View} {after : BareLedgerState} {start : LedgerState} (began : ShowsJournal new after start) {opening : ℕ}
    {groups : List (List Input)} (has : HasGroups (new.committed 0) opening groups) where
  same_opening : start.opening ≡ opening
  same_opening = shown_opening began ∙ ap opening_of has.is ∙ sym has.opened

  same_inputs : inputs start ≡ flat_map (λ group. group) groups
  same_inputs =
      ap (flat_map (λ group. group)) (sym (began.kept.rows began.clean began.goes_on) ∙ ap groups_of has.is ∙ has.has)

module _ (first second : Run) (in_doubt : Bool) (new : View) (after : BareLedgerState) (start : LedgerState) where
  goes_on : MayHave in_doubt first.ledger (new.committed 0) → ShowsJournal new after start → second.before ≡ inputs start
      → second.ledger.opening ≡ start.opening → GoesOnAfter first second in_doubt
  goes_on left began from opens =
      elim left [
        | inl same ↦
            let opening : second.ledger.opening ≡ first.ledger.opening = opens ∙ same_opening began same in
            let before : second.before ≡ inputs first.ledger = from ∙ same_inputs began same in
            record {
              begins = inl (record { opening = opening; before = before });
              stands = stands first second [] (before ∙ sym (append-nil (inputs first.ledger))) opening;
            }
        | inr doubt ↦
            let opening : second.ledger.opening ≡ first.ledger.opening = opens ∙ same_opening began doubt.2 in
            let before : second.before ≡ inputs (with_group first doubt.1).ledger = from ∙ same_inputs began doubt.2 in
            record {
              begins = inr (doubt.0, doubt.1, record { opening = opening; before = before });
              stands = stands first second (flat_map (λ group. group) (doubt.1 ∷ []))
                  (before ∙ flat_map-append (λ (group : List Input). group) first.ledger.groups (doubt.1 ∷ [])) opening;
            }
      ]

pub stopped_runs_follow : StoppedRunsFollow
stopped_runs_follow = goes_on
