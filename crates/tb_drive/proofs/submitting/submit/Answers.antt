use Rattle.std.proofs.Common.{rules, ◌≡◌, ◌∙◌, ap}
use Rattle.tb_drive.proofs.Words.{SubmitterState}
use Rattle.tb_drive.proofs.submitting.submit.Goals as goal

pub loop-preserved : goal.loop-preserved
loop-preserved g c =
    let kept : (c.in-Err-default-InFlight.back ≡ c.loop.packet) × (c.submit_once.new.submitter ≡ c.loop.submitter) = search rules in
    record {
      own = c.read_or_wait.ensures.own ∙ c.submit_once.ensures.own ∙ c.loop.invariant.own;
      front = c.read_or_wait.ensures.front ∙ ap (λ (one : SubmitterState). one.queued) kept.1 ∙ c.loop.invariant.front;
      same = kept.0 ∙ c.loop.invariant.same;
      asked = λ had. c.read_or_wait.ensures.asked c.args.packet (rw kept.1 (c.loop.invariant.asked had));
      share = c.read_or_wait.ensures.share ∙ c.loop.invariant.share;
    }

pub returns-in-Ok-clause-seen : goal.returns-in-Ok-clause-seen
returns-in-Ok-clause-seen g c = search rules

pub returns-in-Ok-clause-front : goal.returns-in-Ok-clause-front
returns-in-Ok-clause-front g c = rw (← c.loop.invariant.front) c.submit_once.ensures.front

pub returns-in-Err : goal.returns-in-Err
returns-in-Err g c = record {
  own = c.submit_once.ensures.own ∙ c.loop.invariant.own;
  front = rw (← c.loop.invariant.front) c.submit_once.ensures.front;
  seen = search rules;
  share = c.submitted-in-Err.ensures.share ∙ c.loop.invariant.share;
}

pub returns-then-is_given_up : goal.returns-then-is_given_up
returns-then-is_given_up g c = record {
  own = c.submit_once.ensures.own ∙ c.loop.invariant.own;
  front = rw (← c.loop.invariant.front) c.submit_once.ensures.front;
  seen = λ had. tt;
  share = c.loop.invariant.share;
}
