-- Found by the prover itself; on file since the check of an edit then costs less.
use Rattle.std.proofs.Common.{rules, arith, map}
use Rattle.tb_machine.proofs.Words.{common_steps, chunks}
use Rattle.tb_machine.proofs.Joined.{length-events_results}
use Rattle.tb_machine.proofs.machine.Machine.commit_events.Goals as goal

pub invariant_of-self-in-Err : goal.invariant_of-self-in-Err
invariant_of-self-in-Err g c = search rules

pub returns-in-Err-clause-unchanged : goal.returns-in-Err-clause-unchanged
returns-in-Err-clause-unchanged g c = search rules

pub returns-in-Err-clause-none : goal.returns-in-Err-clause-none
returns-in-Err-clause-none g c = search rules

pub returns-in-Ok-clause-state : goal.returns-in-Ok-clause-state
returns-in-Ok-clause-state g c =
    let events = map g.E.CreateEvent.event_of (chunks 128 c.args.body.now) in
    let many = length-events_results g.E.CreateEvent.operation c.args.self.now.clock c.args.self.now.facts events in
    grind (arith, common_steps, many)
