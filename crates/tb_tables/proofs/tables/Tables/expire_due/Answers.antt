use Rattle.std.proofs.Common.{ap, []}
use Rattle.tb_tables.proofs.Words.{Facts, expire_due, facts_of, contents_in}
use Rattle.tb_tables.proofs.Histories.{no-changes}
use Rattle.tb_tables.proofs.SeenFacts.{keeps}
use Rattle.tb_tables.proofs.tables.Tables.expire_due.Goals as goal

pub expire_all-requires : goal.expire_all-requires
expire_all-requires c = (facts_of (contents_in c.self.inside), c.self.invariant.consistent)

pub invariant_of-self : goal.invariant_of-self
invariant_of-self c =
    let facts = facts_of (contents_in c.self.inside) in
    record {
      consistent = (keeps (expire_due c.args.clock facts)
          (c.expire_all.ensures facts c.self.invariant.consistent)).consistent;
      undoable = rw (no-changes c.self.inside.changes.items facts (rw (← c.self.view_is) at c.requires)) tt;
    }

pub returns : goal.returns
returns c =
    let facts = facts_of (contents_in c.self.inside) in
    rw (← c.self.view_is, no-changes c.self.inside.changes.items facts (rw (← c.self.view_is) at c.requires))
    (ap (λ (now : Facts). record { now = now; past = [] })
    (keeps (expire_due c.args.clock facts) (c.expire_all.ensures facts c.self.invariant.consistent)).seen)
