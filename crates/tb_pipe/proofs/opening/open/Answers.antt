use Rattle.std.proofs.Common.{◌∙◌, ap, arith, refl, sym, rules}
use Rattle.tb_pipe.proofs.Words.{LedgerState, taken, IntakeState, seat_at}
use Rattle.tb_pipe.proofs.Fresh.{fresh_batched, fresh_committed, fresh_replies}
use Rattle.tb_pipe.proofs.Origins.{length-origins, seat-origins}
use Rattle.tb_pipe.proofs.opening.open.Goals as goal

pub returns-clause-number : goal.returns-clause-number
returns-clause-number c =
    length-origins (seat_at c.in_ok-ends.ends.intake) 0 c.in_ok-ends.ends.outlets.items
    ∙ c.in_ok-ends.ensures.outlets.0

pub returns-clause-seats : goal.returns-clause-seats
returns-clause-seats c =
    λ k d below. seat-origins (seat_at c.in_ok-ends.ends.intake) 0 c.in_ok-ends.ends.outlets.items k d
    (omega (arith, below, c.in_ok-ends.ensures.outlets.0)) ∙ ap (seat_at c.in_ok-ends.ends.intake) (omega arith)

pub invariant_of-result : goal.invariant_of-result
invariant_of-result c =
    let intake_is = c.in_ok-ends.ensures.intake in
    let front_is = c.in-Ok.ensures.front in
    let empty = c.in-Some.ensures.empty in
    record {
      ready = record {
        batched = rw empty.0 (fresh_batched (rw (front_is, intake_is) refl) (rw (front_is, intake_is) refl)
            c.in-Ok.ensures.passes c.in-Ok.ensures.ends (rw front_is refl) (rw intake_is refl));
        committed = λ start began. rw (began ∙ c.begin.ensures.start, empty.1, empty.2) (fresh_committed refl
            (c.begin.ensures.commits (ap (λ (ledger : LedgerState). ledger.stopped) c.new-ledger.ensures.ledger))
            c.begin.ensures.joined);
        replies = fresh_replies (taken c.in-Some.rings.outcomes) c.in_ok-ends.ends.outlets.items empty.3
            c.in_ok-ends.ensures.outlets.1;
      };
      unserved = (empty.1, empty.2);
      rings = c.in-Some.ensures.pairs;
      number = c.in_ok-ends.ensures.outlets.0 ∙ sym (ap (λ (i : IntakeState). i.submitters) intake_is);
    }

pub returns-in_err-ends-clause-start : goal.returns-in_err-ends-clause-start
returns-in_err-ends-clause-start c = search rules

pub returns-in_err-ends-clause-refusal : goal.returns-in_err-ends-clause-refusal
returns-in_err-ends-clause-refusal c = search rules

pub returns-in_default-clause-start : goal.returns-in_default-clause-start
returns-in_default-clause-start c = search rules

pub returns-in_default-clause-refusal : goal.returns-in_default-clause-refusal
returns-in_default-clause-refusal c = search rules

pub returns-clause-start : goal.returns-clause-start
returns-clause-start c = search rules

pub returns-clause-refusal : goal.returns-clause-refusal
returns-clause-refusal c = search rules
