use Rattle.std.proofs.Common.{refl, ◌≡◌, ◌∙◌, sym, ap, subst, arith, ◌<◌, List, ◌++◌, length}
use Rattle.tb_core.specs.claim.EachSubmitter.{moments_in, moments_queued}
use Rattle.tb_pipe.proofs.Words.{LedgerState, inputs_since, IsPrefix, given, taken, lies, origins, queued_by, seat_at, Item, AllCommitted, answers_in, IsServed, ServedState, served_of, run_of, StoppedStages}
use Rattle.tb_core.specs.claim.Report.{LawfulReport}
use Rattle.tb_pipe.proofs.Control.{queued_by_control}
use Rattle.tb_pipe.proofs.Origins.{length-origins}
use Rattle.tb_pipe.proofs.Drained.{HasRun, drained, grouped, some_of}
use Rattle.tb_pipe.proofs.settling.settle_over.Given.{Over}
use Rattle.tb_pipe.proofs.settling.settle_over.Goals as goal

module _ (g : Over) (c : goal.After-drop-batches g) where
  abbrev remains : StoppedStages g.row.L.Denot
  remains = c.into_stages-start.result

  is : IsServed g.L.AnyLedger.is remains
  is = c.into_stages-start.ensures.served

  same : c.args.served ≡ served_of remains
  same = c.into_stages-start.ensures.same

  module _ (start : LedgerState) (began : g.L.AnyLedger.is remains.start.value start) where
    committed : AllCommitted start (taken remains.committed.inlet) (g.L.AnyLedger.is remains.committed.ledger)
        (given remains.committed.outlet)
    committed = is.committed start began

    run : HasRun start remains.intake.limit remains.intake.taken committed.ledger (answers_in (taken remains.routed.inlet))
    run =
        let one = c.lying.ensures in
        let two = c.lying-2.ensures in
        let parcels : IsPrefix (taken remains.committed.inlet) (given remains.batches) =
        (lies c.lying.new.self, ap (λ x. x ++ lies c.lying.new.self) (sym one.same.0) ∙ one.all ∙ one.same.1) in
        let outcomes : IsPrefix (taken remains.routed.inlet) (given remains.committed.outlet) =
        (lies c.lying-2.new.self, ap (λ x. x ++ lies c.lying-2.new.self) (sym two.same.0) ∙ two.all ∙ two.same.1) in
        drained (taken remains.routed.inlet) is.batched committed parcels outcomes is.routed.ended

    report : LawfulReport (run_of remains.intake c.args.ends.items c.args.control start committed.ledger
        c.settle_queue-ends.result.items)
    report =
        c.run_is_lawful.ensures _ start (answers_in (taken remains.routed.inlet)) c.settle_queue-ends.ensures.queue refl run.ran
        (λ submitter below.
        let within : submitter < length remains.routed.outlets.items = omega (arith, below, is.number) in
        let outlet = some_of submitter remains.routed.outlets.items within in
        c.settle_queue-ends.ensures.replies submitter outlet below ∙ is.routed.made submitter outlet within)

    pulses : IsPrefix (moments_in (inputs_since start committed.ledger)) (moments_queued c.args.control.queued)
    pulses =
        let outlets = remains.routed.outlets.items in
        let queued : queued_by c.args.ends.items c.args.control remains.intake.submitters ≡ c.args.control.queued =
        queued_by_control c.args.ends.items c.args.control remains.intake.submitters (origins remains.intake outlets)
        (c.requires.ends ∙ ap (λ (served : ServedState _). served.submitters) same)
        (length-origins (seat_at remains.intake) 0 outlets ∙ is.number) in
        subst (λ (items : List Item). IsPrefix (moments_in (inputs_since start committed.ledger)) (moments_queued items)) queued
        (c.pulses_are_the_controls.ensures _ (c.headline.ensures _ report))

pub returns-clause-report : goal.returns-clause-report
returns-clause-report g c = rw (same g c) λ start began. (
  (committed g c start began).ledger,
  (committed g c start began).now,
  record {
    lawful = report g c start began;
    headline = c.headline.ensures _ (report g c start began);
    grouping = grouped (run g c start began) c.settle_queue-ends.ensures.within (report g c start began).committed;
    pulses = pulses g c start began;
    opening = (committed g c start began).commits.from;
  },
)

pub returns-clause-settled : goal.returns-clause-settled
returns-clause-settled g c =
    let said = c.settle_queue-ends.ensures in
    rw (same g c) record {
      ledger = refl;
      long = said.long;
      read = said.read;
      rings = said.rings;
      settled = said.settled;
      ahead = said.ahead;
      seats = said.seats;
    }
