use Rattle.std.proofs.Common.{◌∙◌, ◌<◌, length, set, ap, arith}
use Rattle.examples.proofs.First.{first_queued}
use Rattle.examples.proofs.two_tellers.run_with.Goals as goal

pub returns-in-Ok-drive_all : goal.returns-in-Ok-drive_all
returns-in-Ok-drive_all g c =
    let opened = c.in-Ok.opened in
    let some : 0 < length opened.pipeline.submitters = omega (arith, c.in-Ok.ensures.number) in
    let reported = c.in-Ok-drive_all.ensures.reported in
    first_queued c.args.accounts c.default.result.credit opened.pipeline.submitters
    c.in-Ok-drive_all.finished.unsettled.value.items some c.in-Ok.ensures.submitters (λ submitter found. let said = c.in-Ok-submit_ahead.ensures.submitted submitter found in (
      said.1.ok.0,
      said.2 ∙ ap (set opened.submitters.items 0) said.1.ok.1,
    )) reported.own reported.queued_first
