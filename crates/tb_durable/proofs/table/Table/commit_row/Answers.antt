use Rattle.std.proofs.Common.{rules}
use Rattle.tb_durable.proofs.StoreLemmas.{added}
use Rattle.tb_durable.proofs.table.Table.commit_row.Goals as goal

pub returns-in-Ok : goal.returns-in-Ok
returns-in-Ok g c = record {
  ok = search rules;
  crash = added (g.S.Store.view c.put.new.self) (g.met.S.Store.broken_if_shut c.put.new.self)
      (g.met.S.Store.shut_if_dirty c.put.new.self) c.put.ensures.quiet.clean c.in_default.ensures.ok
      c.put.ensures.quiet.outcomes c.commit.ensures.crash;
  refused = tt;
  uncertain = tt;
  clean = search rules;
  told = tt;
}

pub returns-in-Err-commit : goal.returns-in-Err-commit
returns-in-Err-commit g c = record {
  ok = tt;
  crash = added (g.S.Store.view c.put.new.self) (g.met.S.Store.broken_if_shut c.put.new.self)
      (g.met.S.Store.shut_if_dirty c.put.new.self) c.put.ensures.quiet.clean c.in_default.ensures.ok
      c.put.ensures.quiet.outcomes c.commit.ensures.crash;
  refused = search rules;
  uncertain = λ doubt. record {
    put = c.put.new.self;
    clean = c.put.ensures.quiet.clean;
    set = c.in_default.ensures.ok;
    back = c.in-Err-commit.ensures.err;
  };
  clean = search rules;
  told = search rules;
}
