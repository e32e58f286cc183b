use Rattle.tb_submit.proofs.QueuedItems.{packets_filed}
use Rattle.tb_submit.proofs.submitter.Submitter.end.Goals as goal

pub end-requires : goal.end-requires
end-requires g c = packets_filed _ _ _ _ c.self.invariant.among c.self.invariant.packets
