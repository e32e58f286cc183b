use Rattle.std.proofs.Common.{true, false, None, subst}
use Rattle.tb_core.proofs.Words.{IsBatch}
use Rattle.tb_core.proofs.JournalGroups.{bare_applied, sent_more}
use Rattle.tb_core.proofs.bare_ledger.BareLedger.apply.Goals as goal

pub returns-in-Ok : goal.returns-in-Ok
returns-in-Ok c = record {
  applied = (false, c.in-Ok.field-0.entry, (λ is. cc), c.in-Ok.ensures.ok);
  applying = bare_applied false c.args.self.now c.args.parcel c.in-Ok.field-0.outcomes
      c.try_record.new.self c.try_record.ensures.some c.in-Ok.ensures.ok;
  sent = sent_more false c.args.self.now c.args.parcel c.in-Ok.field-0.outcomes c.try_record.new.self
      c.try_record.ensures.some c.in-Ok.ensures.ok;
}

pub returns-in-Err : goal.returns-in-Err
returns-in-Err c = record {
  applied = (
    true,
    None,
    (λ is. subst IsBatch c.in-Err.ensures.err.0 c.in-Err.ensures.batch),
    rw (← c.in-Err.ensures.err.0, ← c.in-Err.ensures.err.1) c.refuse.ensures.applied,
  );
  applying = rw (← c.in-Err.ensures.err.0, ← c.in-Err.ensures.err.1) (bare_applied true c.try_record.new.self
      c.in-Err.parcel c.refuse.result c.refuse.new.self c.refuse.ensures.some c.refuse.ensures.applied);
  sent = rw (← c.in-Err.ensures.err.0, ← c.in-Err.ensures.err.1) (sent_more true c.try_record.new.self
      c.in-Err.parcel c.refuse.result c.refuse.new.self c.refuse.ensures.some c.refuse.ensures.applied);
}
