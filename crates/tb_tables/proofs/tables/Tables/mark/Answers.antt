use Rattle.std.proofs.Common.{ap, length}
use Rattle.tb_tables.proofs.Words.{facts_of, contents_in}
use Rattle.tb_tables.proofs.Histories.{length-past_of}
use Rattle.tb_tables.proofs.tables.Tables.mark.Goals as goal

pub returns : goal.returns
returns c =
    rw (← c.self.view_is, length-past_of c.self.inside.changes.items (facts_of (contents_in c.self.inside)), c.new.ensures)
    (ap length c.as_slice.ensures.value)
