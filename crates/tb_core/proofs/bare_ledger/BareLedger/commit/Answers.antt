use Rattle.std.proofs.Common.{◌∙◌, ap, refl, sym, subst, length, rules}
use Rattle.tb_core.proofs.Words.{BareLedgerState, halts, AreAnswered}
use Rattle.tb_core.proofs.Batches.{JoinInvisibly}
use Rattle.tb_core.proofs.LedgerSteps.{batch_applied}
use Rattle.tb_core.proofs.OneMoreEntry.{given, batch_state, batch_entered}
use Rattle.tb_core.proofs.bare_ledger.BareLedger.commit.Goals as goal

pub returns-clause-ok : goal.returns-clause-ok
returns-clause-ok c = rw (← c.self.view_is) (λ groups is.
    let inside = c.self.inside in
    let bare : BareLedgerState = record {
      opening = inside.opening;
      places = inside.places;
      state = inside.machine;
      stopped = inside.stopped;
    } in
    let parts = c.take_batch.new.parts in
    let succeeded = sym c.is_err.ensures.value ∙ c.if-is_err.false in
    let answered = given c.take_batch.result _ succeeded c.take_batch.ensures.answered in
    let next = given c.take_batch.result _ succeeded c.take_batch.ensures.state in
    let law : JoinInvisibly = record {
      accounts = c.joining_is_invisible.ensures.accounts;
      transfers = c.joining_is_invisible.ensures.transfers;
    } in
    let same = c.take_batch.ensures.jobs ∙ c.into_parts-parts.ensures.jobs in
    let goes = ap (λ (b : BareLedgerState). halts b (length c.args.batch)) c.self.view_is
    ∙ ap (λ jobs. halts c.args.self.now (length jobs)) (sym c.jobs-count.ensures.jobs)
    ∙ sym c.halts_at.ensures.halts ∙ c.if-halts_at.false in
    let (entry, has_entry, adds, whole) = c.record-recorded.ensures.entry in
    let replies = c.record-recorded.ensures.replies inside.opening _ is.counted
    (subst (λ state. AreAnswered state parts) is.machine answered) in
    let state_is = next ∙ batch_state law inside.machine parts answered in
    rw (has_entry, replies, adds) (
      batch_entered parts.jobs.items is state_is (ap length (c.jobs-count.ensures.jobs ∙ sym same)),
      batch_applied is state_is same refl goes,
    ))

pub returns-then-halts_at-clause-err : goal.returns-then-halts_at-clause-err
returns-then-halts_at-clause-err c = search rules

pub returns-then-is_err-clause-err : goal.returns-then-is_err-clause-err
returns-then-is_err-clause-err c = search rules

pub returns-clause-err : goal.returns-clause-err
returns-clause-err c = search rules
