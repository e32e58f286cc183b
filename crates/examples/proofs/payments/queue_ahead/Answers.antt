use Rattle.std.proofs.Common.{◌∙◌, ◌<◌, length, set, ap, arith}
use Rattle.tb_drive.proofs.Ahead.{all_with_packet}
use Rattle.examples.specs.inside.Ready.{IsUnread}
use Rattle.examples.proofs.payments.queue_ahead.Goals as goal

pub loop-packet-preserved : goal.loop-packet-preserved
loop-packet-preserved g c =
    let before = c.loop-packet.opened in
    let after = c.submit_ahead.new.opened in
    let was = c.loop-packet.invariant in
    let is = c.in-Ok.ensures in
    let within : c.args.desk < length before.submitters.items = omega arith in
    let still = all_with_packet IsUnread before.submitters.items after.submitters.items c.args.desk c.in-Ok._number
    c.in-Some.packet within (λ submitter unread. unread) was.unread (λ submitter found. let said = is.submitted submitter found in
    said.2 ∙ ap (set before.submitters.items c.args.desk) said.1.ok.1) in
    record {
      together = is.together was.together;
      number = ap (λ pipeline. length pipeline.submitters) is.pipeline ∙ was.number;
      desks = still.1 ∙ was.desks;
      unread = still.0;
    }
