use Rattle.std.proofs.Common.{◌≡◌, ◌∙◌, refl, sym, ap, subst, arith, ◌<◌, ◌++◌, ◌∷◌, [], length, get_or, true, false}
use Rattle.tb_embed.specs.contracts.engine.Engine.{the_view}
use Rattle.tb_embed.specs.clauses.Restoring.{is_idle}
use Rattle.tb_embed.proofs.Words.{EngineState, FrontState, HasTaken, Numbered, halts, places_max, with_group}
use Rattle.tb_embed.proofs.EngineRun.{group_serves}
use Rattle.tb_embed.proofs.Restored.{alone_restores, first_is, released, same_engine}
use Rattle.tb_embed.proofs.engine.Engine.commit_alone.Goals as goal

pub returns-in-Ok-commit_held-clause-ok : goal.returns-in-Ok-commit_held-clause-ok
returns-in-Ok-commit_held-clause-ok c = rw (← c.self.view_is, c.count.ensures.counted, c.count.ensures.number) (
    let known = c.self.invariant in
    let idle = subst (λ e. is_idle e ≡ true) (sym c.self.view_is) c.requires.idle in
    let old = the_view c.self.inside in
    let number = get_or c.self.inside.senders.numbers c.args.submitter 0 in
    let sound = c.begins_group.ensures.front in
    let done = c.in-Ok-commit_held.ensures in
    let begun = c.begin.ensures ∙ ap (λ (j : Numbered). with_group c.self.inside.front (j ∷ [])) c.in-Ok.ensures.job in
    alone_restores old c.args.submitter number c.args.packet sound idle _
    (omega (arith, known.counted, c.in-Ok.ensures.among))
    (omega (arith, known.counted, known.among, known.each))
    (subst (λ (e : EngineState). e.ledger.places < places_max) (sym c.self.view_is) c.requires.place)
    (subst (λ (e : EngineState). e.ledger.stopped ≡ false) (sym c.self.view_is) c.requires.goes) refl
    (group_serves _ _ (λ start items read has. done.taken start items read
    (subst (λ replies. HasTaken start items (read ++ replies) c.begin.new.self c.self.inside.ledger) (sym c.reserve.ensures.same)
    (subst (λ f. HasTaken start items (read ++ c.self.inside.unread.replies) f c.self.inside.ledger) (sym begun) has)))
    (done.sealed ∙ ap (λ f. with_group f []) begun)
    (done.stopped ∙ ap (λ (f : FrontState). halts c.self.inside.ledger (length f.held)) begun) refl refl))

pub returns-in-Err-commit_held-clause-back : goal.returns-in-Err-commit_held-clause-back
returns-in-Err-commit_held-clause-back c = rw (← c.self.view_is) (
    let idle = subst (λ e. is_idle e ≡ true) (sym c.self.view_is) c.requires.idle in
    let old = the_view c.self.inside in
    let number = get_or c.self.inside.senders.numbers c.args.submitter 0 in
    let sound = c.begins_group.ensures.front in
    let same = c.in-Err-commit_held.ensures.same in
    let begun = same.0 ∙ c.begin.ensures ∙ ap (λ (j : Numbered). with_group c.self.inside.front (j ∷ [])) c.in-Ok.ensures.job in (
      c.into_packet.ensures ∙ ap (λ j. j.packet) (first_is c.release.result _
          (c.release.ensures.job ∙ ap (λ (f : FrontState). f.held) begun)),
      same_engine old c.release.new.self c.commit_held.new.ledger c.commit_held.new.unread.replies
          (c.release.ensures.left ∙ ap (λ f. with_group f []) begun ∙ released old c.args.submitter number c.args.packet sound idle)
          same.1 (ap (λ u. u.replies) same.2 ∙ c.reserve.ensures.same),
    ))
