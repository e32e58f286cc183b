use Rattle.std.proofs.Common.{ap, sym, ◌∙◌, subst}
use Rattle.tb_batch.proofs.Words.{IsBatcherState, BatcherState, jobs_of, is_taken}
use Rattle.tb_batch.proofs.Groups.{still_held}
use Rattle.tb_batch.proofs.batcher.Batcher.join.Goals as goal

-- src/batcher.rt:70:5
pub invariant_of-self : goal.invariant_of-self
invariant_of-self c =
    still_held c.join.result c.join.new.self c.args.job
    (subst (λ held. IsBatcherState c.self.inside.limit (jobs_of held)) c.in-Some.is c.self.invariant)
    (ap (λ held. is_taken c.self.inside.limit (jobs_of held) c.args.job) (sym c.in-Some.is)
    ∙ ap (λ (held : BatcherState). is_taken held.limit held.jobs c.args.job) c.self.view_is ∙ c.requires)
    c.join.ensures.group c.join.ensures.same
