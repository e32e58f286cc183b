use Rattle.std.proofs.Common.{ap, sym, ◌∙◌, length, false}
use Rattle.tb_embed.proofs.Words.{halts, FrontState, take_step, places_of, ticket_of}
use Rattle.tb_embed.proofs.Parcels.{steps_after, places_after_group, halts_after}
use Rattle.tb_embed.proofs.engine.Engine.take_control.Goals as goal

pub returns-clause-steps : goal.returns-clause-steps
returns-clause-steps c = rw (← c.self.view_is) (
    let sender = c.self.inside.senders.submitters in
    c.pass.ensures.steps
    ∙ ap (λ (f : FrontState). (take_step false f sender c.args.item).front) c.in_ok-commit_held.ensures.sealed
    ∙ steps_after c.self.inside.front sender c.args.item c.commit_held.ensures.front c.requires
    ∙ ap (λ sender. (take_step false c.self.inside.front sender c.args.item).front) (sym c.self.invariant.counted))

pub returns-clause-stopped : goal.returns-clause-stopped
returns-clause-stopped c = rw (← c.self.view_is) (
    let front = c.self.inside.front in
    let old = c.self.inside.ledger in
    let ticket = ticket_of c.self.inside.senders.submitters c.args.item in
    c.pass.ensures.stopped
    ∙ ap (λ (f : FrontState). halts c.commit_held.new.ledger (places_of f ticket)) c.in_ok-commit_held.ensures.sealed
    ∙ halts_after old c.commit_held.new.ledger (length front.held) _ c.in_ok-commit_held.ensures.stopped
    c.in_ok-commit_held.ensures.counted
    ∙ ap (halts old) (places_after_group front c.self.inside.senders.submitters c.args.item c.commit_held.ensures.front c.requires)
    ∙ ap (λ sender. halts old (places_of front (ticket_of sender c.args.item))) (sym c.self.invariant.counted))
