use Rattle.tb_core.proofs.Runs.{so_far}
use Rattle.tb_core.proofs.laws.each_part_is_lawful.Goals as goal

pub returns : goal.returns
returns c = λ start items closed stopped applied way ledger answers passes commits.
    let far = so_far way passes commits in
    record {
      committed = (far.remainder, far.committed);
      due = (far.later, far.due);
      replied = far.replied;
      whole = far.whole;
    }
