-- Two runs over one ledger are one run of it.
use Rattle.std.proofs.Common.{refl, sym, ap, subst, ◌∙◌, ◌≡◌, ℕ, zero, suc, List, [], ◌∷◌, ◌++◌, take, length, append_assoc, Some}
use Rattle.tb_core.proofs.Words.{slice_get, filter-append, replay, answer_of, events_in, input_of, is_packet_of, Run, committed_in, IsPrefix, Headline, IsTrueOf, LedgerState, inputs}
use Rattle.tb_core.specs.claim.TwoRuns.{AnswersStand, TwoRunsAreOne}
use Rattle.tb_core.proofs.EachSubmitter.{at-prefix, committed_of_each_submitter}
use Rattle.tb_core.proofs.Since.{prefix-drop, get-drop}

-- what a run's replies say is true of its own ledger
own_answers : (run : Run) → Headline run → AnswersStand run run.ledger
own_answers run is = λ submitter index reply place answer below got outcome.
    let said = subst (IsTrueOf run reply.packet) outcome (is.answered submitter index reply below got) in
    record {
      there = ap (slice_get (inputs run.ledger)) said.1
          ∙ sym (get-drop (length run.before) said.0 (inputs run.ledger)) ∙ said.2;
      alone = said.3;
    }

-- what is before a place doesn't change as the journal grows
take_longer : {X : Type 0} (front all : List X) (rest : List X) (n : ℕ) (x : X) → front ++ rest ≡ all
    → slice_get front n ≡ Some x → take n all ≡ take n front
take_longer [] all rest n x is got = cc
take_longer (y ∷ front) [] rest n x is got = cc
take_longer (y ∷ front) (z ∷ all) rest zero x is got = refl
take_longer (y ∷ front) (z ∷ all) rest (suc n) x is got =
    let same : z ≡ y = cc in
    ap (λ w. w ∷ take n all) same ∙ ap (λ ws. y ∷ ws) (take_longer front all rest n x (cc) got)

-- and so what was answered stays true
answers_longer : (run : Run) (ledger later : LedgerState) → later.opening ≡ ledger.opening
    → IsPrefix (inputs ledger) (inputs later) → AnswersStand run ledger → AnswersStand run later
answers_longer run ledger later opening grown all = λ submitter index reply place answer below got outcome.
    let is = all submitter index reply place answer below got outcome in
    let packet = reply.packet in
    record {
      there = at-prefix (inputs ledger) (inputs later) place (input_of packet) grown is.there;
      alone = is.alone
          ∙ ap (λ ws. answer_of (replay ledger.opening ws) (events_in packet.packet))
          (sym (take_longer (inputs ledger) (inputs later) grown.0 place (input_of packet) grown.1 is.there))
          ∙ ap (λ clock. answer_of (replay clock (take place (inputs later))) (events_in packet.packet)) (sym opening);
    }

pub two_runs_are_one : TwoRunsAreOne
two_runs_are_one first second first_is second_is on =
    let own : first.before ++ committed_in first ≡ inputs first.ledger =
    prefix-drop first.before (inputs first.ledger) first_is.continues in
    let both : inputs first.ledger ++ committed_in second ≡ inputs second.ledger =
    ap (λ ws. ws ++ committed_in second) (sym on.before)
    ∙ prefix-drop second.before (inputs second.ledger) second_is.continues in
    record {
      journal = sym both ∙ ap (λ ws. ws ++ committed_in second) (sym own)
          ∙ append_assoc first.before (committed_in first) (committed_in second);
      state = second_is.state ∙ ap (λ clock. replay clock (inputs second.ledger)) on.opening;
      packets = λ submitter. filter-append (is_packet_of submitter) (committed_in first) (committed_in second);
      of_first = committed_of_each_submitter first first_is;
      of_second = committed_of_each_submitter second second_is;
      answers_of_first = answers_longer first first.ledger second.ledger on.opening (committed_in second, both)
          (own_answers first first_is);
      answers_of_second = own_answers second second_is;
    }
