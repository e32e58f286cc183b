use Rattle.std.proofs.Common.{rules, []}
use Rattle.tb_drive.proofs.Words.{pulse_of}
use Rattle.tb_drive.proofs.Pulsed.{has_queued_more, nothing_queued}
use Rattle.tb_drive.proofs.controlling.follow.Goals as goal

pub loop-init : goal.loop-init
loop-init g c = λ started. ([], nothing_queued _, started)

pub loop-preserved : goal.loop-preserved
loop-preserved g c = λ started.
    let before = c.loop.invariant started in
    (before.0, before.1, c.in-Wait.ensures c.args.driver.now before.0 before.2)

pub loop-preserved-in-Pulse : goal.loop-preserved-in-Pulse
loop-preserved-in-Pulse g c = λ started.
    has_queued_more _ (pulse_of c.in-Pulse.moment) (c.loop.invariant started) (search rules)
    (λ items had. c.in_ok-pulse-in-Pulse.ensures.response c.args.driver.now items
    (c.in-Pulse.ensures c.args.driver.now items had))
