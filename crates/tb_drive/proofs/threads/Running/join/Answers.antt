use Rattle.tb_drive.proofs.threads.Running.join.Goals as goal

pub returns : goal.returns
returns g c =
    let had = c.in_ok-ends.ensures in
    record {
      submitters = rw (← c.self.view_is) had.results;
      number = had.number;
      seen = had.seen;
      ended = had.ended;
      control = rw (← c.self.view_is) c.in-Some.ensures;
    }
