-- Found by the prover itself; on file since the check of an edit then costs less.
use Rattle.std.proofs.Common.{rules}
use Rattle.tb_durable.proofs.rows.columns_in.Goals as goal

pub returns-in_err-number_in-clause-some : goal.returns-in_err-number_in-clause-some
returns-in_err-number_in-clause-some c = search rules

pub returns-in_err-number_in-2-clause-some : goal.returns-in_err-number_in-2-clause-some
returns-in_err-number_in-2-clause-some c = search rules

pub returns-in_err-blob_in-clause-some : goal.returns-in_err-blob_in-clause-some
returns-in_err-blob_in-clause-some c = search rules

pub returns-in_err-blob_in-2-clause-some : goal.returns-in_err-blob_in-2-clause-some
returns-in_err-blob_in-2-clause-some c = search rules

pub returns-clause-some : goal.returns-clause-some
returns-clause-some c = search rules
