use Rattle.std.proofs.Common.{◌≡◌, ◌∙◌, ◌++◌, ◌||◌, List, [], length, map, ap, sym, subst, arith}
use Rattle.tb_program.proofs.Words.{length-map, ℕ, Vec, Global, IsGrouping, LedgerState, groups_since, inputs, inputs_since, moments_in, moments_queued, IsPrefix, committed_in, planned_items, refused_of, jobs_in, ReplyValue, Item, HasSeenOf, share_of, results_of, AreHandedIn, run_text}
use Rattle.tb_program.specs.clauses.RunText.{lacks_packets, lacks_pulse}
use Rattle.tb_program.proofs.Lacking.{pulses_queued}
use Rattle.tb_program.proofs.Answered.{all_answered, all_handed_in, committed_is}
use Rattle.tb_program.proofs.run.run_opened.Goals as goal

pub drive_all-requires-clause-seen : goal.drive_all-requires-clause-seen
drive_all-requires-clause-seen g c κs within = λ k driver submitter driver_is submitter_is.
    let fresh = c.requires.fresh k submitter submitter_is in
    let limit = submitter.origin.seat.limit in
    subst (λ (queued : List Item). HasSeenOf driver limit (jobs_in queued) submitter.read) (sym fresh.0)
    (subst (λ (read : List ReplyValue). HasSeenOf driver limit [] read) (sym fresh.1)
    (c.requires.new limit k driver driver_is))

pub text_of-requires-clause-answered : goal.text_of-requires-clause-answered
text_of-requires-clause-answered g c = all_answered c.in-Ok.ensures.reported

pub returns-in_ok-text_of-in-Ok : goal.returns-in_ok-text_of-in-Ok
returns-in_ok-text_of-in-Ok g c =
    let opened = c.args.opened in
    let reported = c.in-Ok.ensures.reported in
    let run = reported.run in
    let finished = c.in-Ok.finished in
    let ledger = finished.report.ledger in
    let drivers = finished.drivers.items in
    let results = map results_of drivers in
    let lines = planned_items c.args.lines.moments.items c.args.lines.shuts in
    let moments = c.driver.ensures.moments in
    let all_lines : reported.items ≡ lines = reported.control_ended.0
    ∙ ap (λ (m : Vec ℕ Global). planned_items m.items c.driver.result.shuts) moments
    ∙ ap (λ shuts. planned_items c.args.lines.moments.items shuts) c.driver.ensures.shuts in
    let counted : finished.control.refused ≡ refused_of c.args.lines.moments.items = reported.control_ended.1
    ∙ ap (λ (m : Vec ℕ Global). refused_of m.items) moments in
    let all : opened.control.queued ++ reported.items ≡ lines =
    ap (λ before. before ++ reported.items) c.requires.silent ∙ all_lines in
    let shares : map share_of drivers ≡ map share_of c.args.drivers.items = c.in-Ok.ensures.shares in
    let committed : inputs ledger ≡ committed_in run =
    ap (λ (start : LedgerState). inputs_since start ledger) (sym c.requires.first) ∙ sym (committed_is reported) in
    let long = length-map c.args.drivers.items share_of ∙ c.requires.number ∙ c.requires.together.2 in
    let queued : c.saturating_sub-queued.result ≡ length (moments_queued lines) =
    omega (
      arith,
      c.saturating_sub-queued.ensures,
      c.len-asked.ensures,
      counted,
      pulses_queued c.args.lines.moments.items c.args.lines.shuts,
    ) in
    record {
      ran = record {
        run = run;
        results = results;
        clock_is = reported.report.opening;
        first = reported.began ∙ ap inputs c.requires.first;
        submitters_are = reported.submitters_are ∙ sym long;
        report = reported.report.lawful;
        grouping = subst (λ (start : LedgerState). IsGrouping opened.pipeline.intake.limit (groups_since start run.ledger))
            c.requires.first reported.report.grouping;
        control = reported.controlled ∙ all;
        pulses = subst (λ controlled. IsPrefix (moments_in (committed_in run)) (moments_queued controlled)) all
            reported.report.pulses;
        number = length-map drivers results_of ∙ sym (length-map drivers share_of) ∙ ap length shares;
        handed = subst (λ all. AreHandedIn opened.pipeline.intake.limit run.replies all results run.queued) shares
            (all_handed_in reported c.in_ok-text_of-in-Ok.ensures.done);
        printed = c.in_ok-text_of-in-Ok.ensures.text
            ∙ ap (λ replies. run_text results replies (inputs ledger) finished.control.refused ledger.state) (sym reported.replies_are)
            ∙ ap (λ inputs. run_text results run.replies inputs finished.control.refused ledger.state) committed
            ∙ ap (λ refused. run_text results run.replies (committed_in run) refused ledger.state) counted
            ∙ ap (λ (ledger : LedgerState). run_text results run.replies (committed_in run)
            (refused_of c.args.lines.moments.items) ledger.state) (sym reported.ledger_is);
      };
      lacking = c.in_ok-text_of-in-Ok.ensures.lacking
          ∙ (λ i. lacks_packets results (sym reported.replies_are i) || lacks_pulse (committed i) (queued i));
    }
