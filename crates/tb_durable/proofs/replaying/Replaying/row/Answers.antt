use Rattle.std.proofs.Common.{◌≡◌, ◌∙◌, arith, pos, rules, inl, inr, subst, sym}
use Rattle.std.proofs.lemmas.Result.{on_ok_weaker}
use Rattle.tb_durable.proofs.Words.{Int, rowid, AreColumnsOf}
use Rattle.tb_durable.proofs.EntryLemmas.{batch_accepted, batch_columns, both_ok, counts_are, follows_on, is_no_batch, is_no_pulse, low_moment, pulse_accepted, small_operation}
use Rattle.tb_durable.proofs.replaying.Replaying.row.Goals as goal

pub returns-clause-opens : goal.returns-clause-opens
returns-clause-opens c = λ after entry.
    let place = c.args.self.now.ledger.places in
    let before = c.args.self.now.counts in
    let row = c.args.row.now in
    let columns = c.in-Some.columns in
    let stubs = columns.stubs.now in
    let body = columns.body.now in
    let has = c.in-Some.ensures.some in
    elim entry [
      | inl batch ↦
          let are = batch_columns place before after row columns.operation columns.moment stubs body has batch in (
            c.batch.ensures.opens batch.jobs (subst (λ o. AreColumnsOf batch.jobs o stubs body) (sym c.in-Ok.ensures.1) are)
                (follows_on place before after row columns.operation columns.moment stubs body has batch),
            on_ok_weaker c.batch.result (counts_are place before after row columns.operation columns.moment stubs body has batch
                c.batch.new.self.counts) c.batch.ensures.counted,
          )
      | inr pulse ↦
          absurd (c.if-columns-eq-PULSE.false
          (is_no_batch place before after row columns.operation columns.moment stubs body has pulse.0))
    ]

pub returns-clause-entry : goal.returns-clause-entry
returns-clause-entry c =
    let place = c.args.self.now.ledger.places in
    let columns = c.in-Some.columns in
    let at : rowid c.args.row.now ≡ Int (pos place) = search rules in
    both_ok c.batch.result (λ are follow.
    batch_accepted place c.args.row.now columns.operation columns.moment columns.stubs.now columns.body.now c.in-Some.ensures.some
    at c.args.self.now.counts c.batch.new.self.counts
    (are.0, subst (λ o. AreColumnsOf are.0 o columns.stubs.now columns.body.now) c.in-Ok.ensures.1 are.1) follow)
    c.batch.ensures.are c.batch.ensures.counted

pub returns-then-columns-eq-PULSE-clause-entry : goal.returns-then-columns-eq-PULSE-clause-entry
returns-then-columns-eq-PULSE-clause-entry c =
    let place = c.args.self.now.ledger.places in
    let columns = c.in-Some.columns in
    let at : rowid c.args.row.now ≡ Int (pos place) = search rules in
    on_ok_weaker c.pulse.result (λ low.
    pulse_accepted place c.args.row.now columns.operation columns.moment columns.stubs.now columns.body.now c.in-Some.ensures.some
    at c.args.self.now.counts c.pulse.new.self.counts c.if-columns-eq-PULSE.true low c.pulse.ensures.counts)
    c.pulse.ensures.low

pub returns-then-columns-eq-PULSE-clause-opens : goal.returns-then-columns-eq-PULSE-clause-opens
returns-then-columns-eq-PULSE-clause-opens c = λ after entry.
    let place = c.args.self.now.ledger.places in
    let before = c.args.self.now.counts in
    let columns = c.in-Some.columns in
    let has = c.in-Some.ensures.some in
    elim entry [
      | inl batch ↦
          absurd (is_no_pulse place before after c.args.row.now columns.operation columns.moment columns.stubs.now columns.body.now has
          batch c.if-columns-eq-PULSE.true)
      | inr pulse ↦
          let low = low_moment place before after c.args.row.now columns.operation columns.moment columns.stubs.now columns.body.now has
          pulse.0 in (
            c.pulse.ensures.opens low,
            on_ok_weaker c.pulse.result (λ any. c.pulse.ensures.counts ∙ sym pulse.1) c.pulse.ensures.low,
          )
    ]

pub returns-in_default-try_from-clause-opens : goal.returns-in_default-try_from-clause-opens
returns-in_default-try_from-clause-opens c = λ after entry.
    let place = c.args.self.now.ledger.places in
    let before = c.args.self.now.counts in
    let columns = c.in-Some.columns in
    let has = c.in-Some.ensures.some in
    elim entry [
      | inl batch ↦
          let small = small_operation place before after c.args.row.now columns.operation columns.moment columns.stubs.now
          columns.body.now has batch in
          absurd (omega (arith, small, c.in_default-try_from.ensures))
      | inr pulse ↦
          absurd (c.if-columns-eq-PULSE.false (is_no_batch place before after c.args.row.now columns.operation columns.moment
          columns.stubs.now columns.body.now has pulse.0))
    ]
