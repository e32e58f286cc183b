use denote.Param.Send.{sendable}
use Rattle.tb_program.proofs.Sending.{driver_send}
use Rattle.std.proofs.Common.{◌≡◌, ◌∙◌, ◌++◌, List, [], length, map, string_bytes, ap, sym, subst, rules}
use Rattle.tb_program.proofs.Words.{length-map, ℕ, Vec, Global, IsGrouping, LedgerState, groups_since, inputs_since, moments_in, moments_queued, IsPrefix, Input, planned_items, jobs_in, ReplyValue, Item, HasSeenOf, share_of, results_of, AreHandedIn}
use Rattle.tb_program.specs.clauses.RunText.{lacks_packets, packets_text}
use Rattle.tb_program.proofs.Answered.{all_answered, all_handed_in, committed_is}
use Rattle.tb_program.proofs.run.over.run_opened_over.Goals as goal

pub drive_over-requires-send-D : goal.drive_over-requires-send-D
drive_over-requires-send-D g c κs within = search (sendable, driver_send) depth 9

pub drive_over-requires-clause-seen : goal.drive_over-requires-clause-seen
drive_over-requires-clause-seen g c κs within = λ k driver submitter driver_is submitter_is.
    let fresh = c.requires.fresh k submitter submitter_is in
    let limit = submitter.origin.seat.limit in
    subst (λ (queued : List Item). HasSeenOf driver limit (jobs_in queued) submitter.read) (sym fresh.0)
    (subst (λ (read : List ReplyValue). HasSeenOf driver limit [] read) (sym fresh.1)
    (c.requires.new limit k driver driver_is))

pub lines_of-requires-clause-answered : goal.lines_of-requires-clause-answered
lines_of-requires-clause-answered g c =
    all_answered (c.in-Ok.ensures.reported c.requires.known.0 c.requires.known.1).2

pub returns-in-Ok-lines_of-clause-memory : goal.returns-in-Ok-lines_of-clause-memory
returns-in-Ok-lines_of-clause-memory g c = λ start is.
    let went = c.in-Ok.ensures.reported start is in
    let reported = went.2 in
    let drivers = c.in-Ok.finished.drivers.items in
    let results = map results_of drivers in
    let moments = c.driver.ensures.moments in
    let lines = planned_items c.args.lines.moments.items c.args.lines.shuts in
    let all_lines : reported.items ≡ lines = reported.control_ended.0
    ∙ ap (λ (m : Vec ℕ Global). planned_items m.items c.driver.result.shuts) moments
    ∙ ap (λ shuts. planned_items c.args.lines.moments.items shuts) c.driver.ensures.shuts in
    let all : c.args.opened.control.queued ++ reported.items ≡ lines =
    ap (λ before. before ++ reported.items) c.requires.silent ∙ all_lines in
    let shares : map share_of drivers ≡ map share_of c.args.drivers.items = c.in-Ok.ensures.shares in
    let long = length-map c.args.drivers.items share_of ∙ c.requires.number ∙ c.requires.together.2 in (
      went.0,
      went.1,
      record {
        ran = record {
          run = reported.run;
          results = results;
          before = reported.began;
          ledger_is = reported.ledger_is;
          submitters_are = reported.submitters_are ∙ sym long;
          report = reported.report.lawful;
          grouping = subst (λ (ledger : LedgerState). IsGrouping c.args.opened.pipeline.intake.limit (groups_since start ledger))
              reported.ledger_is reported.report.grouping;
          control = reported.controlled ∙ all;
          pulses = subst (λ (controlled : List Item). IsPrefix (moments_in (inputs_since start went.0)) (moments_queued controlled)) all
              (subst (λ (inputs : List Input). IsPrefix (moments_in inputs) (moments_queued (c.args.opened.control.queued ++ reported.items)))
              (committed_is reported) reported.report.pulses);
          number = length-map drivers results_of ∙ sym (length-map drivers share_of) ∙ ap length shares;
          handed = subst (λ all. AreHandedIn c.args.opened.pipeline.intake.limit reported.run.replies all results reported.run.queued) shares
              (all_handed_in reported c.in-Ok-lines_of.ensures.done);
          printed = subst (λ replies. string_bytes c.in-Ok-lines_of.lines.text ≡ packets_text 0 results replies) (sym reported.replies_are)
              c.in-Ok-lines_of.ensures.text;
        };
        lacking = subst (λ replies. c.in-Ok-lines_of.lines.lacks_memory ≡ lacks_packets results replies) (sym reported.replies_are)
            c.in-Ok-lines_of.ensures.lacking;
      },
    )

pub returns-in-Ok-lines_of-clause-ran : goal.returns-in-Ok-lines_of-clause-ran
returns-in-Ok-lines_of-clause-ran g c = λ start is.
    let went = returns-in-Ok-lines_of-clause-memory g c start is in
    (went.0, went.1, went.2.ran)

pub returns-in-Ok-lines_of-clause-refused : goal.returns-in-Ok-lines_of-clause-refused
returns-in-Ok-lines_of-clause-refused g c = search rules

pub returns-in-Ok-clause-refused : goal.returns-in-Ok-clause-refused
returns-in-Ok-clause-refused g c = search rules

pub returns-clause-refused : goal.returns-clause-refused
returns-clause-refused g c = search rules
