use Rattle.std.proofs.Common.{arith, refl}
use Rattle.tb_program.proofs.Planning.{one_further}
use Rattle.tb_program.proofs.Words.{common_steps}
use Rattle.tb_work.specs.declared.item.Item.TheVariants.{Packet}
use Rattle.tb_program.proofs.list.planning.Plan.add_packet.Goals as goal

pub invariant_of-self-in-Ok : goal.invariant_of-self-in-Ok
invariant_of-self-in-Ok c = (
  λ submitter within. grind (arith, common_steps, c.self.invariant.0 submitter within),
  rw c.in_ok-push-in-Ok-2.ensures.items
      (one_further c.self.inside.closed c.self.inside.queue.items (Packet c.in-Ok.job) (λ k. refl) c.self.invariant.1),
)
