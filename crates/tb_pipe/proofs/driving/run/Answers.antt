use Rattle.std.proofs.Common.{refl, rules, ◌≡◌, ◌∙◌, ◌++◌, map, length, ap, sym}
use Rattle.tb_pipe.proofs.Words.{length-map, task_origin, task_submitter, run_of, end_origin, origin_of, queued_by}
use Rattle.std.proofs.lemmas.Simd.{map-map}
use Rattle.tb_drive.specs.clauses.Plan.{with_items}
use Rattle.tb_pipe.proofs.Control.{queued_by_control}
use Rattle.tb_pipe.proofs.Settled.{once_settled}
use Rattle.tb_pipe.proofs.driving.run.Goals as goal

pub settle_over-report-requires-clause-ends : goal.settle_over-report-requires-clause-ends
settle_over-report-requires-clause-ends g c =
    let results = rw c.in_ok-running.ensures at c.in_ok-ends.ensures.submitters in
    results.own ∙ sym (map-map origin_of task_submitter c.args.tasks.submitters) ∙ c.requires.0
    ∙ sym c.in-Ok.ensures.submitters

pub returns : goal.returns
returns g c =
    let tasks = c.args.tasks.submitters in
    let before = map task_submitter tasks in
    let served = c.in-Ok.served in
    let joined = c.in_ok-ends.field-0 in
    let ends = joined.ends.items in
    let drivers = joined.drivers.items in
    let end = joined.control.end in
    let said_joined = c.in_ok-ends.ensures in
    let settled = c.settle_over-report.ensures.settled in
    let last = c.settle_over-report.result.ends.items in
    let results = rw c.in_ok-running.ensures at said_joined.submitters in
    let control = rw c.in_ok-running.ensures at said_joined.control in
    let same : map task_origin tasks ≡ map origin_of before = sym (map-map origin_of task_submitter tasks) in
    let own : map end_origin ends ≡ served.submitters =
    results.own ∙ same ∙ c.requires.0 ∙ sym c.in-Ok.ensures.submitters in
    let intake = c.in-Ok.ensures.intake in
    let number : length served.submitters ≡ served.intake.submitters =
    rw (c.in-Ok.ensures.submitters, intake) c.requires.2 in
    let long : length ends ≡ served.intake.submitters =
    sym (length-map ends end_origin) ∙ ap length own ∙ number in
    let copied : ends ≡ c.of-unsettled.result.value.items = search rules in
    let taken : served.intake.taken ≡ c.of-taken.result.value.intake.taken = search rules in
    let last_queued : queued_by ends end served.intake.submitters ≡ end.queued =
    queued_by_control ends end served.intake.submitters served.submitters own number in
    record {
      reported = λ opened is start began.
          let report = c.settle_over-report.ensures.report start (rw c.in-Ok.ensures.start began) in
          let ledger = report.0 in
          let run = run_of served.intake ends end start ledger last in
          let limit : served.intake.limit ≡ opened.pipeline.intake.limit = rw (is.0, intake) refl in
          let after : end ≡ with_items opened.control control.0 = rw is.2 control.1 in
          let queued : end.queued ≡ opened.control.queued ++ control.0 = rw after refl in (
            ledger,
            report.1,
            record {
              run = run;
              items = control.0;
              submitters_are = rw (is.0, intake) refl;
              queue_is = taken;
              queued_are = rw (← copied, ← after) refl;
              began = refl;
              ledger_is = refl;
              replies_are = refl;
              report = rw (← queued, ← limit) report.2;
              own = rw (← copied, is.1) (results.own ∙ same);
              queued_first = rw (← copied, is.1) results.front;
              settled = settled.settled;
              rings = rw (← copied) settled.rings;
              number = settled.long;
              controlled = last_queued ∙ queued;
              ahead = rw after at settled.ahead;
              control_ended = control.2;
              driven = said_joined.number ∙ long;
              seen = rw (← limit) (once_settled settled long g.D.Driver.has_seen drivers said_joined.seen);
              ended = rw (← limit) (once_settled settled long g.D.Driver.has_ended drivers said_joined.ended);
            },
          );
      shares = results.shares_are;
    }
