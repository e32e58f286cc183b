use Rattle.std.proofs.Common.{true, false}
use Rattle.tb_core.proofs.JournalGroups.{is_applied}
use Rattle.tb_core.proofs.ledger.Ledger.apply.Goals as goal

pub returns-in-Ok : goal.returns-in-Ok
returns-in-Ok c =
    is_applied false c.args.self.now c.try_apply.new.self c.args.parcel c.in-Ok.outcomes c.try_apply.ensures.some
    c.in-Ok.ensures.ok

-- the parcel came back, with the ledger as it was
pub returns-in-Err : goal.returns-in-Err
returns-in-Err c =
    is_applied true c.args.self.now c.apply_as_refused.new.self c.args.parcel c.apply_as_refused.result
    c.try_apply.ensures.some (cc (c.in-Err.ensures.err.0, c.in-Err.ensures.err.1, c.apply_as_refused.ensures.applied))
