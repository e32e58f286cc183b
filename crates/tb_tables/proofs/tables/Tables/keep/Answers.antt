use Rattle.tb_tables.proofs.Words.{contents_in}
use Rattle.tb_tables.proofs.SeenFacts.{held-by}
use Rattle.tb_tables.proofs.Due.{open-there}
use Rattle.tb_tables.proofs.tables.Tables.keep.Goals as goal

pub invariant_of-self : goal.invariant_of-self
invariant_of-self c =
    let old = contents_in c.self.inside in
    let kept = c.self.invariant.consistent in
    record {
      consistent = held-by kept (λ m p open_one. c.keep.ensures.stay m p (open-there kept m p open_one));
      undoable = rw c.clear.ensures.items tt;
    }
