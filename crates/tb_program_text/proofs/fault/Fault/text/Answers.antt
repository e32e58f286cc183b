-- Found by the prover itself; on file since the check of an edit then costs less.
use Rattle.std.proofs.Common.{rules}
use Rattle.tb_program_text.proofs.fault.Fault.text.Goals as goal

pub returns-in-BadHex : goal.returns-in-BadHex
returns-in-BadHex c = search rules
