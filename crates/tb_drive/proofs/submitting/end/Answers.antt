use Rattle.std.proofs.Common.{rules, ◌≡◌, ◌∙◌, [], ◌∷◌, ◌++◌, ap}
use Rattle.tb_drive.proofs.Words.{EndedState, SubmitterState, end_origin, origin_of}
use Rattle.tb_work.specs.declared.item.Item.TheVariants.{End}
use Rattle.tb_drive.proofs.Seen.{seen_at_end}
use Rattle.tb_drive.proofs.submitting.end.Goals as goal

pub loop-preserved : goal.loop-preserved
loop-preserved g c =
    let same : c.in-Err.back ≡ c.loop.submitter = search rules in
    record {
      own = c.read_or_wait.ensures.own ∙ ap origin_of same ∙ c.loop.invariant.own;
      front = c.read_or_wait.ensures.front ∙ ap (λ (one : SubmitterState). one.queued) same ∙ c.loop.invariant.front;
      ended = λ had. c.read_or_wait.ensures.ended (rw same (c.loop.invariant.ended had));
      seen = λ had. c.read_or_wait.ensures.seen (rw same (c.loop.invariant.seen had));
      share = c.read_or_wait.ensures.share ∙ c.loop.invariant.share;
    }

pub returns-in-Ok : goal.returns-in-Ok
returns-in-Ok g c =
    let is = c.in-Ok.ensures.ok in
    record {
      own = (
        ap end_origin is ∙ c.loop.invariant.own,
        (End ∷ [], ap (λ (one : EndedState). one.queued) is ∙ ap (λ items. items ++ End ∷ []) c.loop.invariant.front),
      );
      seen = λ had. rw is
          (seen_at_end g.D.Driver.has_seen c.loop.driver c.loop.submitter (c.loop.invariant.seen had));
      ended = λ had. rw is
          (seen_at_end g.D.Driver.has_ended c.loop.driver c.loop.submitter (c.loop.invariant.ended had));
      share = c.loop.invariant.share;
    }
