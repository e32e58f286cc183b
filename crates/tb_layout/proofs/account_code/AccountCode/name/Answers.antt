use Rattle.tb_layout.proofs.Codes.{has_account_row}
use Rattle.tb_layout.proofs.account_code.AccountCode.name.Goals as goal

pub name_with-requires : goal.name_with-requires
name_with-requires c = has_account_row c.args.self

pub returns : goal.returns
returns c = c.name_with.ensures
