use Rattle.std.proofs.Common.{refl, [], arith, rules}
use Rattle.tb_world.proofs.Words.{common_steps}
use Rattle.tb_world.proofs.orders.Lawful.{has_run}
use Rattle.tb_world.proofs.world.World.over.Goals as goal

pub returns-clause-world : goal.returns-clause-world
returns-clause-world c =
    rw (
      c.newcomers.ensures,
      c.new-2.ensures.items,
      c.in-Ok.ensures.front,
      c.new-3.ensures,
      c.new-4.ensures.items,
      c.new-5.ensures.items,
      c.nothing.ensures,
      c.new-6.ensures,
    ) refl

pub returns-clause-ran : goal.returns-clause-ran
returns-clause-ran c =
    has_run c.args.ledger c.args.limit c.args.submitters [] _ (c.begin.ensures.commits c.requires) (returns-clause-world c)

pub invariant_of-result : goal.invariant_of-result
invariant_of-result c = grind (arith, common_steps)

pub returns-in-Err-clause-back : goal.returns-in-Err-clause-back
returns-in-Err-clause-back c = search rules

pub returns-clause-back : goal.returns-clause-back
returns-clause-back c = search rules
