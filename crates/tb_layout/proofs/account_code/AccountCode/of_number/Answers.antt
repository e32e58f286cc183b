use Rattle.tb_layout.proofs.account_code.AccountCode.of_number.Goals as goal

pub returns : goal.returns
returns c = c.code_with.ensures
