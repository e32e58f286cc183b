use Rattle.std.proofs.Common.{rules, sym, subst, ◌<◌}
use Rattle.tb_world.proofs.Words.{WorldState, left}
use Rattle.tb_world.proofs.progress.Finish.{SoFar, moving_falls, one_more, has_finished, has_rested}
use Rattle.tb_world.proofs.world.World.finish.Goals as goal

pub loop-event-smaller : goal.loop-event-smaller
loop-event-smaller c =
    subst (λ (world : WorldState). left world < left c.loop-event.self) (sym c.in_ok-go_on.ensures.ok)
    (moving_falls c.loop-event.self c.in-Some.event c.in-Some.ensures.some)

pub loop-event-preserved : goal.loop-event-preserved
loop-event-preserved c =
    subst (λ (world : WorldState). SoFar c.args.self.now world) (sym c.in_ok-go_on.ensures.ok)
    (one_more c.args.self.now c.loop-event.self c.in-Some.event c.loop-event.invariant c.in-Some.ensures.some)

pub returns-clause-ok : goal.returns-clause-ok
returns-clause-ok c = has_finished c.args.self.now c.loop-event.self c.loop-event.invariant (search rules)

pub returns-clause-rested : goal.returns-clause-rested
returns-clause-rested c = λ start limit submitters events ran.
    has_rested start limit submitters events c.args.self.now c.loop-event.self ran (returns-clause-ok c)
