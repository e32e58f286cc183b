use Rattle.std.proofs.Common.{rules, refl}
use Rattle.tb_submit.proofs.QueuedItems.{pulses_filed}
use Rattle.tb_submit.proofs.control.Control.shut.Goals as goal

pub end-requires : goal.end-requires
end-requires g c = pulses_filed _ _ _ c.self.invariant.2 _ _ refl c.self.invariant.1

pub returns-in-Ok-clause-ok : goal.returns-in-Ok-clause-ok
returns-in-Ok-clause-ok g c = search rules
