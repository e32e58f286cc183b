use Rattle.tb_program_text.specs.clauses.Event.{field_and_number}
use Rattle.tb_program_text.proofs.event.field_and_number.Goals as goal

pub returns-in-Account : goal.returns-in-Account
unfolding field_and_number
returns-in-Account c = rw c.in-Account.is c.named.ensures

pub returns-in-Transfer : goal.returns-in-Transfer
unfolding field_and_number
returns-in-Transfer c = rw c.in-Transfer.is c.named-in-Transfer.ensures
