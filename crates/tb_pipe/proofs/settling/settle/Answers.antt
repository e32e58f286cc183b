use Rattle.std.proofs.Common.{refl}
use Rattle.tb_pipe.proofs.Words.{IsReport, run_of}
use Rattle.tb_pipe.proofs.settling.settle.Goals as goal

-- a `Ledger` is only itself
reported : (c : goal.After-settle_over) → IsReport (run_of c.args.served.intake c.args.ends.items c.args.control
    c.args.served.start c.settle_over.result.ledger c.settle_over.result.ends.items) c.args.served.start
    c.args.served.intake.limit c.args.control.queued
reported c =
    let said = c.settle_over.ensures.report c.args.served.start refl in rw (← said.1) said.2

pub returns-clause-report : goal.returns-clause-report
returns-clause-report c = (reported c).lawful

pub returns-clause-headline : goal.returns-clause-headline
returns-clause-headline c = (reported c).headline

pub returns-clause-grouping : goal.returns-clause-grouping
returns-clause-grouping c = (reported c).grouping

pub returns-clause-pulses : goal.returns-clause-pulses
returns-clause-pulses c = (reported c).pulses

pub returns-clause-opening : goal.returns-clause-opening
returns-clause-opening c = (reported c).opening
