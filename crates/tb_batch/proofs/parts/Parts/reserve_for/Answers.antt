-- Found by the prover itself; on file since the check of an edit then costs less.
use Rattle.std.proofs.Common.{rules}
use Rattle.tb_batch.proofs.parts.Parts.reserve_for.Goals as goal

pub returns-in_ok-reserve-4-clause-room_for_accounts : goal.returns-in_ok-reserve-4-clause-room_for_accounts
returns-in_ok-reserve-4-clause-room_for_accounts c = search rules

pub returns-in_ok-reserve-5-clause-room_for_failures : goal.returns-in_ok-reserve-5-clause-room_for_failures
returns-in_ok-reserve-5-clause-room_for_failures c = search rules
