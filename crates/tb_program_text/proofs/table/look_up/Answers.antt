use Rattle.std.proofs.Common.{arith}
use Rattle.tb_program_text.proofs.Words.{common_steps}
use Rattle.tb_program_text.proofs.table.look_up.Goals as goal

pub loop-table-preserved : goal.loop-table-preserved
loop-table-preserved g c = grind (arith, common_steps)
