use Rattle.std.proofs.Common.{false}
use Rattle.tb_core.proofs.JournalGroups.{bare_applied, sent_more}
use Rattle.tb_core.proofs.bare_ledger.BareLedger.try_apply.Goals as goal

pub returns-clause-applying : goal.returns-clause-applying
returns-clause-applying c =
    bare_applied false c.args.self.now c.args.parcel c.in_ok-outcomes.field-0.outcomes
    c.try_record.new.self c.try_record.ensures.some c.in_ok-outcomes.ensures.ok

pub returns-clause-sent : goal.returns-clause-sent
returns-clause-sent c =
    sent_more false c.args.self.now c.args.parcel c.in_ok-outcomes.field-0.outcomes
    c.try_record.new.self c.try_record.ensures.some c.in_ok-outcomes.ensures.ok
