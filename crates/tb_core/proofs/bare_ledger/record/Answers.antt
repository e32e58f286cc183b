use Rattle.std.proofs.Common.{◌∙◌, ap, refl, sym, subst}
use Rattle.tb_core.proofs.Words.{replay, body_of, batch_packets, IsBatchEntry}
use Rattle.tb_core.proofs.Batches.{JoinInvisibly, entry_is}
use Rattle.tb_core.proofs.Bodies.{entry_has}
use Rattle.tb_core.proofs.LedgerSteps.{replies_from-answers}
use Rattle.tb_core.proofs.RecordedBatch.{recorded}
use Rattle.tb_core.specs.declared.outcomes.Outcomes.TheVariants.{Cut}
use Rattle.tb_core.proofs.bare_ledger.record.Goals as goal

pub new-requires : goal.new-requires
new-requires c =
    let answered = c.requires.answered in
    rw c.answer-answer.ensures (recorded (record {
      accounts = c.joining_is_invisible.ensures.accounts;
      transfers = c.joining_is_invisible.ensures.transfers;
    }) c.args.place answered.0 c.args.parts
    c.requires.fits answered.1).fits

pub returns-clause-entry : goal.returns-clause-entry
returns-clause-entry c =
    let answered = c.requires.answered.1 in
    let parts = c.args.parts in
    let packets = ap (λ body. batch_packets parts.operation body parts.stubs.items) answered.body
    ∙ ap (batch_packets parts.operation _) answered.stubs
    ∙ entry_has parts.operation parts.jobs.items answered.lawful in
    let whole = subst (λ body. IsBatchEntry parts.operation body parts.stubs.items) (sym answered.body)
    (subst (IsBatchEntry parts.operation (body_of parts.jobs.items)) (sym answered.stubs)
    (entry_is parts.operation parts.jobs.items answered.lawful)) in
    (_, refl, packets, whole)

pub returns-clause-replies : goal.returns-clause-replies
returns-clause-replies c = λ clock before at answered.
    let law : JoinInvisibly = record {
      accounts = c.joining_is_invisible.ensures.accounts;
      transfers = c.joining_is_invisible.ensures.transfers;
    } in
    ap Cut (c.new.ensures ∙ rw c.answer-answer.ensures (recorded law c.args.place
    (replay clock before) c.args.parts c.requires.fits answered).replies
    ∙ replies_from-answers clock c.args.place _ before c.args.parts.jobs.items refl at)
