use Rattle.std.proofs.Common.{◌∙◌, ap, arith}
use Rattle.tb_work.specs.declared.item.Item.TheVariants.{Close}
use Rattle.tb_program.proofs.Planning.{place_after_next, behind_the_close}
use Rattle.tb_program.proofs.Words.{common_steps, place_after, Ahead}
use Rattle.tb_program.proofs.list.planning.Plan.add_close.Goals as goal

pub invariant_of-self-2 : goal.invariant_of-self-2
invariant_of-self-2 c = (
  λ submitter within. grind (arith, common_steps, c.self.invariant.0 submitter within),
  ap (place_after (Ahead 0)) c.in_ok-push-2.ensures.items ∙ place_after_next (Ahead 0) c.self.inside.queue.items Close
      ∙ behind_the_close _,
)
