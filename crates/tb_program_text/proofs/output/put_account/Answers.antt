-- Found by the prover itself; on file since the check of an edit then costs less.
use Rattle.std.proofs.Common.{rules, arith}
use Rattle.std.proofs.lemmas.Grind.{common_steps}
use Rattle.tb_program_text.proofs.output.put_account.Goals as goal

pub returns-in_err-put_account_front : goal.returns-in_err-put_account_front
returns-in_err-put_account_front c = search rules

pub returns : goal.returns
returns c = grind (arith, common_steps)
