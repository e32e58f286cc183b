use Rattle.std.proofs.Common.{◌≡◌, ◌∙◌, ap, arith, rules, subst, true, false, Ok}
use Rattle.tb_durable.proofs.Words.{Trees, IsClean, IsFailure, IsCause}
use Rattle.tb_durable.proofs.reading.replay_rows.Goals as goal

pub returns-in_err-replay_row-clause-fault : goal.returns-in_err-replay_row-clause-fault
returns-in_err-replay_row-clause-fault g c = λ clean replaying.
    let was : IsClean (g.S.Store.view c.loop.table.store) = omega (arith, c.replay_row.ensures.clean) in
    let cause : IsCause ((g.S.Store.view c.args.table.now.store).committed 0) c.in_err-replay_row.field-0.0
    = subst (λ (trees : Trees). IsCause (trees 0) c.in_err-replay_row.field-0.0) (c.loop.invariant.same was)
    (c.in_err-replay_row.ensures.fault clean (c.loop.invariant.replaying was replaying)) in
    search rules

pub returns-in_err-replay_row-clause-opens : goal.returns-in_err-replay_row-clause-opens
returns-in_err-replay_row-clause-opens g c = λ counts clean halfway.
    let was : IsClean (g.S.Store.view c.loop.table.store) = omega (arith, c.replay_row.ensures.clean) in
    let failure : IsFailure c.in_err-replay_row.field-0.0
    = c.in_err-replay_row.ensures.opens counts clean (c.loop.invariant.halfway counts was halfway) in
    (search rules, search rules)

pub returns-then-not-branch-clause-opens : goal.returns-then-not-branch-clause-opens
returns-then-not-branch-clause-opens g c = λ counts clean halfway.
    let was : IsClean (g.S.Store.view c.loop.table.store) = omega (arith, c.replay_row.ensures.clean) in
    let done : c.in_ok-replay_row.field-0 ≡ false = search rules in
    (tt, c.in_ok-replay_row.ensures.counted counts (ap Ok done) clean (c.loop.invariant.halfway counts was halfway))

pub returns-then-not-branch-clause-file : goal.returns-then-not-branch-clause-file
returns-then-not-branch-clause-file g c = λ clean has.
    let was : IsClean (g.S.Store.view c.loop.table.store) = omega (arith, c.replay_row.ensures.clean) in
    let done : c.in_ok-replay_row.field-0 ≡ false = search rules in
    c.in_ok-replay_row.ensures.file (ap Ok done) clean (c.loop.invariant.file was has)

pub returns-then-not-branch-clause-journal : goal.returns-then-not-branch-clause-journal
returns-then-not-branch-clause-journal g c = λ clean replaying.
    let was : IsClean (g.S.Store.view c.loop.table.store) = omega (arith, c.replay_row.ensures.clean) in
    let done : c.in_ok-replay_row.field-0 ≡ false = search rules in
    c.in_ok-replay_row.ensures.end (ap Ok done) clean (c.loop.invariant.replaying was replaying)

pub loop-preserved : goal.loop-preserved
loop-preserved g c =
    let before = c.loop.invariant in
    let after = c.in_ok-replay_row.ensures in
    let more : c.in_ok-replay_row.field-0 ≡ true = search rules in
    let was : IsClean (g.S.Store.view c.replay_row.new.table.store) → IsClean (g.S.Store.view c.loop.table.store)
    = λ clean. omega (arith, clean, c.replay_row.ensures.clean) in
    record {
      cursor = after.cursor;
      clean = omega (arith, before.clean, c.replay_row.ensures.clean);
      same = λ clean. after.same clean ∙ before.same (was clean);
      replaying = λ clean replaying. after.more (ap Ok more) clean (before.replaying (was clean) replaying);
      file = λ clean has. after.entry (ap Ok more) clean (before.file (was clean) has);
      halfway = λ counts clean halfway. after.onward counts (ap Ok more) clean (before.halfway counts (was clean) halfway);
      crash = λ db left. before.crash db (c.replay_row.ensures.crash db left);
      committed = λ has. after.committed (before.committed has);
      goes_on = λ on. after.goes_on (before.goes_on on);
    }
