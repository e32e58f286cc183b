-- Found by the prover itself; on file since the check of an edit then costs less.
use Rattle.std.proofs.Common.{rules}
use Rattle.tb_durable.proofs.file.make_table.Goals as goal

pub returns-then-ne-clause-made : goal.returns-then-ne-clause-made
returns-then-ne-clause-made g c = search rules

pub returns-in_err-create-clause-made : goal.returns-in_err-create-clause-made
returns-in_err-create-clause-made g c = search rules

pub returns-clause-made : goal.returns-clause-made
returns-clause-made g c = search rules
