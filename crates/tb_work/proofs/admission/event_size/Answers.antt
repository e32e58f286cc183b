-- Found by the prover itself; on file since the check of an edit then costs less.
use Rattle.std.proofs.Common.{rules}
use Rattle.tb_work.proofs.admission.event_size.Goals as goal

pub returns-then-looks_up : goal.returns-then-looks_up
returns-then-looks_up c = search rules
