use Rattle.std.proofs.Common.{rules, ◌≡◌, true, false, subst, sym}
use Rattle.tb_drive.proofs.Words.{MomentTooLarge, is_refused}
use Rattle.tb_drive.proofs.Pulsed.{none_queued, queued_pulse, refused_pulse}
use Rattle.tb_drive.proofs.controlling.pulse.Goals as goal

pub returns-in-Ok-clause-response : goal.returns-in-Ok-clause-response
returns-in-Ok-clause-response g c = λ first items asked.
    let in_range : is_refused c.args.moment ≡ false = search rules in
    let asks = subst (λ driver. g.C.ControlDriver.has_asked first driver c.args.moment items)
    (sym c.loop.invariant.1) asked in
    queued_pulse (g.C.ControlDriver.has_queued first c.pulsed.new.self) items c.args.moment in_range
    (c.pulsed.ensures.queued first c.args.moment items asks (search rules) in_range)

pub returns-in-Err : goal.returns-in-Err
returns-in-Err g c =
    let large : (c.in-Err.refusal ≡ MomentTooLarge) × (is_refused c.args.moment ≡ true) = search rules in
    record {
      queued = none_queued c.args.control.now c.pulse_once.new.control c.args.moment large.1 (search rules);
      response = λ first items asked.
          let asks = subst (λ driver. g.C.ControlDriver.has_asked first driver c.args.moment items)
          (sym c.loop.invariant.1) asked in
          refused_pulse (g.C.ControlDriver.has_queued first c.pulsed-in-Err.new.self) items c.args.moment large.1
          (c.pulsed-in-Err.ensures.refused first c.args.moment items asks (search rules) large.1);
    }

pub returns-in-Ok-clause-queued : goal.returns-in-Ok-clause-queued
returns-in-Ok-clause-queued g c = search rules
