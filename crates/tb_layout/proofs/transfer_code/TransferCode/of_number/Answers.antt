use Rattle.tb_layout.proofs.transfer_code.TransferCode.of_number.Goals as goal

pub returns : goal.returns
returns c = c.code_with.ensures
