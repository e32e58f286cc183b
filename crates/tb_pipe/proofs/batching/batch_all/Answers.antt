use Rattle.std.proofs.Common.{◌∙◌, ◌≤◌, refl, sym, subst, inl, inr, length}
use Rattle.tb_pipe.proofs.Words.{Contains-push, HaveAllEnded, with_empty}
use Rattle.tb_pipe.proofs.Batches.{all_batched, empty_more, intake_empty, intake_more}
use Rattle.tb_pipe.proofs.batching.batch_all.Goals as goal

pub returns-then-finished-clause-all : goal.returns-then-finished-clause-all
returns-then-finished-clause-all g c =
    let intake = c.loop.intake in
    let is = c.loop.invariant.batched in
    all_batched (c.pass_group.ensures.batched intake (inr (sym c.finished.ensures.finished ∙ c.if-finished.true)) is)
    c.pass_group.ensures.none
    (subst (λ n. HaveAllEnded n intake.taken) is.among
    ((c.finished.ensures.ends intake.taken is.knows).0 c.if-finished.true)) c.give.ensures.given

pub loop-preserved-in-Some-take : goal.loop-preserved-in-Some-take
loop-preserved-in-Some-take g c =
    let took = c.in-Some-take.ensures.some in
    record {
      ring = c.pass_ticket.ensures.ring ∙ c.loop.invariant.ring;
      intake = intake_more c.args.intake.now c.loop.intake c.take.new.self c.in-Some-take.ticket
          c.loop.invariant.intake took;
      none = c.pass_ticket.ensures.none;
      batched = rw took (c.pass_ticket.ensures.batched c.loop.intake
          (sym c.finished.ensures.finished ∙ c.if-finished.false) c.loop.invariant.batched);
    }

pub loop-preserved : goal.loop-preserved
loop-preserved g c =
    let none = c.in-None-take.ensures.none in
    let intake = c.loop.intake in
    record {
      ring = c.wait_for_more.ensures.ring ∙ c.loop.invariant.ring;
      intake = intake_empty c.args.intake.now intake c.take.new.self c.loop.invariant.intake none;
      none = c.loop.invariant.none;
      batched = rw none (c.wait_for_more.ensures.batched (with_empty intake)
          (inl (Contains-push intake.seen_empty (length intake.taken)))
          (empty_more c.loop.invariant.batched));
    }

pub pass_ticket-requires-clause-empty : goal.pass_ticket-requires-clause-empty
pass_ticket-requires-clause-empty g c = λ _ _. c.loop.invariant.none

pub pass_ticket-requires-clause-sender : goal.pass_ticket-requires-clause-sender
pass_ticket-requires-clause-sender g c = λ _ _.
    subst (λ n. c.in-Some-take.ticket.sender ≤ n) (sym c.loop.invariant.batched.among) c.in-Some-take.ensures.sender

pub loop-init : goal.loop-init
loop-init g c = record { ring = refl; intake = refl; none = c.new-parcels.ensures; batched = c.requires }

pub returns-then-finished-clause-ring : goal.returns-then-finished-clause-ring
returns-then-finished-clause-ring g c =
    c.give.ensures.ring ∙ c.pass_group.ensures.ring ∙ c.loop.invariant.ring

pub returns-then-finished-clause-intake : goal.returns-then-finished-clause-intake
returns-then-finished-clause-intake g c = c.loop.invariant.intake
