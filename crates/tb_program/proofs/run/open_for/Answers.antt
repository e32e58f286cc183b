use Rattle.std.proofs.Common.{rules, le-ltb}
use Rattle.tb_program.proofs.Words.{batch_max, capacity_max, submitters_max, limit_of, capacity_of, credit_of, submitters_of}
use Rattle.tb_program.proofs.Noting.{are_fresh, have_credit}
use Rattle.tb_program.proofs.run.open_for.Goals as goal

pub unreachable-requires : goal.unreachable-requires
unreachable-requires c =
    let settings = c.args.settings.now in
    c.in_default.not-NoMemory (rw (
      c.limit.ensures,
      c.capacity.ensures,
      c.credit.ensures,
      c.submitters.ensures,
      le-ltb (limit_of settings) 1 c.requires.limit_low,
      le-ltb batch_max (limit_of settings) c.requires.limit_high,
      le-ltb (capacity_of settings) 1 c.requires.capacity_low,
      le-ltb capacity_max (capacity_of settings) c.requires.capacity_high,
      le-ltb (credit_of settings) 1 c.requires.credit_low,
      le-ltb capacity_max (credit_of settings) c.requires.credit_high,
      le-ltb (submitters_of settings) 1 c.requires.submitters_low,
      le-ltb submitters_max (submitters_of settings) c.requires.submitters_high,
    ) at c.in-Err.ensures.refusal)

pub returns-in-Ok-clause-fresh : goal.returns-in-Ok-clause-fresh
returns-in-Ok-clause-fresh c = are_fresh _ _ _ c.in-Ok.ensures.submitters

pub returns-in-Ok-clause-credit : goal.returns-in-Ok-clause-credit
returns-in-Ok-clause-credit c = rw (c.credit.ensures) at (have_credit _ _ _ c.in-Ok.ensures.submitters)

pub returns-in-Ok-clause-start : goal.returns-in-Ok-clause-start
returns-in-Ok-clause-start c = search rules
