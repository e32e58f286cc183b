use Rattle.std.proofs.Common.{ap, sym, subst, ◌∙◌}
use Rattle.tb_submit.proofs.Words.{ReplyValue, IsSubmitter, refusal_of}
use Rattle.tb_submit.proofs.SubmitterCounts.{counts_reply, else_none, else_some}
use Rattle.tb_submit.proofs.submitter.Submitter.reply.Goals as goal

pub invariant_of-self-then-is_none : goal.invariant_of-self-then-is_none
invariant_of-self-then-is_none c =
    let before = c.self.inside in
    let reply = c.in_ok-reply.reply in
    let outcome = ap (λ (r : ReplyValue). refusal_of r.outcome) c.reply.view_is in
    subst (λ read. IsSubmitter before.sender.seat before.sender.queued before.queued before.credit
    c.saturating_add-self-inside.result c.refusal_of-self-inside.result read) (sym c.in_ok-reply.ensures.some)
    (counts_reply c.self.invariant reply c.saturating_add-self-inside.ensures
    (c.refusal_of-self-inside.ensures ∙ outcome ∙ else_none before.first_refusal
    (refusal_of reply.outcome) c.if-is_none.ensures))

pub invariant_of-self-else-is_none : goal.invariant_of-self-else-is_none
invariant_of-self-else-is_none c =
    let before = c.self.inside in
    let reply = c.in_ok-reply.reply in
    subst (λ read. IsSubmitter before.sender.seat before.sender.queued before.queued before.credit
    c.saturating_add-self-inside.result before.first_refusal read) (sym c.in_ok-reply.ensures.some)
    (counts_reply c.self.invariant reply c.saturating_add-self-inside.ensures
    (else_some before.first_refusal (refusal_of reply.outcome) c.if-is_none.ensures))
