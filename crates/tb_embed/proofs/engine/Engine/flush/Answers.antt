use Rattle.std.proofs.Common.{ap, refl, sym, subst, ◌∙◌, ◌++◌, length}
use Rattle.tb_embed.proofs.Words.{halts, with_group, HasTaken}
use Rattle.tb_embed.specs.contracts.engine.Engine.{the_view}
use Rattle.tb_embed.proofs.EngineRun.{group_serves}
use Rattle.tb_embed.proofs.Parcels.{halts_at_none, none_of}
use Rattle.tb_embed.proofs.engine.Engine.flush.Goals as goal

pub returns-then-not-is_holding-clause-ok : goal.returns-then-not-is_holding-clause-ok
returns-then-not-is_holding-clause-ok c = rw (← c.self.view_is) (
    let front = c.self.inside.front in
    let none = none_of front.held (sym c.is_holding.ensures ∙ c.if-not-is_holding.true) in
    record {
      adds = λ start queue read serves. serves;
      seals = ap (with_group front) none;
      stopped = halts_at_none c.self.inside.ledger c.has_few_places.ensures ∙ ap (λ jobs. halts c.self.inside.ledger (length jobs)) (sym none);
    })

pub returns-clause-ok : goal.returns-clause-ok
returns-clause-ok c = rw (← c.self.view_is) (
    let old = c.self.inside in
    let done = c.in_ok-commit_held.ensures in
    group_serves (the_view old) _
    (λ start items read has. done.taken start items read (subst (λ replies. HasTaken start items (read ++ replies) old.front old.ledger)
    (sym c.reserve.ensures.same) has)) done.sealed done.stopped refl refl)
