use Rattle.std.proofs.Common.{rules}
use Rattle.tb_batch.proofs.Groups.{taken_by}
use Rattle.tb_batch.proofs.group.Group.takes.Goals as goal

pub returns : goal.returns
returns c =
    search (
      rules,
      taken_by c.self.inside.parts c.self.inside.shares c.self.inside.events c.args.limit c.args.job.now
          c.self.invariant c.packet.ensures.admitted,
    )
