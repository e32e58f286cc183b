use Rattle.tb_layout.proofs.Codes.{has_transfer_row}
use Rattle.tb_layout.proofs.transfer_code.TransferCode.name.Goals as goal

pub name_with-requires : goal.name_with-requires
name_with-requires c = has_transfer_row c.args.self

pub returns : goal.returns
returns c = c.name_with.ensures
