use Rattle.std.proofs.Common.{◌∙◌}
use Rattle.tb_drive.proofs.Words.{IfOk-from_err}
use Rattle.tb_drive.proofs.Seen.{front_of_more}
use Rattle.tb_drive.proofs.submitting.follow.Goals as goal

pub loop-preserved : goal.loop-preserved
loop-preserved g c = record {
  own = c.receive.ensures.own ∙ c.loop.invariant.own;
  front = (c.loop.invariant.front.0, c.receive.ensures.front ∙ c.loop.invariant.front.1);
  seen = λ had. c.receive.ensures.seen (c.in-Receive.ensures.seen _ _ _ (c.loop.invariant.seen had));
  share = c.receive.ensures.share ∙ c.next-in-loop.ensures.share ∙ c.loop.invariant.share;
}

pub loop-preserved-then-in_flight-eq0 : goal.loop-preserved-then-in_flight-eq0
loop-preserved-then-in_flight-eq0 g c = record {
  own = c.loop.invariant.own;
  front = c.loop.invariant.front;
  seen = λ had. c.in-Receive.ensures.seen _ _ _ (c.loop.invariant.seen had);
  share = c.next-in-loop.ensures.share ∙ c.loop.invariant.share;
}

pub returns-in-End : goal.returns-in-End
returns-in-End g c = record {
  own = c.loop.invariant.own;
  front = c.loop.invariant.front;
  seen = λ had. c.in-End.ensures.seen _ _ _ (c.loop.invariant.seen had);
  share = c.next-in-loop.ensures.share ∙ c.loop.invariant.share;
}

pub loop-preserved-in-Submit : goal.loop-preserved-in-Submit
loop-preserved-in-Submit g c = record {
  own = c.submit.ensures.own ∙ c.loop.invariant.own;
  front = front_of_more _ c.loop.invariant.front c.submit.ensures.front;
  seen = λ had. c.in_ok-submit-in-Submit.ensures.seen (c.in-Submit.ensures.seen _ _ _ (c.loop.invariant.seen had));
  share = c.submit.ensures.share ∙ c.next-in-loop.ensures.share ∙ c.loop.invariant.share;
}

pub returns-in_err-submit-in-Submit : goal.returns-in_err-submit-in-Submit
returns-in_err-submit-in-Submit g c = record {
  own = c.submit.ensures.own ∙ c.loop.invariant.own;
  front = front_of_more _ c.loop.invariant.front c.submit.ensures.front;
  seen = λ had. IfOk-from_err c.from_residual.result _ c.from_residual.ensures.0;
  share = c.submit.ensures.share ∙ c.next-in-loop.ensures.share ∙ c.loop.invariant.share;
}
