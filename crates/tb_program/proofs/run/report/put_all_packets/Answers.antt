use Rattle.std.proofs.Common.{rules, ◌≡◌, ◌∙◌, ◌∷◌, suc, slice_get, length, ap, sym, subst, arith}
use Rattle.tb_program.proofs.Words.{into_iter_items, AreAllDone}
use Rattle.tb_program.proofs.Lacking.{first_lacks}
use Rattle.tb_program.proofs.Packets.{first_done, first_text}
use Rattle.tb_program.proofs.run.report.put_all_packets.Goals as goal

pub put_packets-requires : goal.put_packets-requires
put_packets-requires c =
    let drivers : c.loop-driver.driver-iterator.rest.items
    ≡ c.in-Some.driver ∷ c.next.new.self.rest.items = search rules in
    let ends : into_iter_items c.loop-driver.ends
    ≡ c.in-Some-next.ended ∷ into_iter_items c.next-in-loop-driver.new.self = search rules in
    c.loop-driver.invariant.answered 0 c.in-Some.driver c.in-Some-next.ended (ap (λ ds. slice_get ds 0) drivers)
    (ap (λ es. slice_get es 0) ends)

pub loop-driver-preserved : goal.loop-driver-preserved
loop-driver-preserved c =
    let drivers : c.loop-driver.driver-iterator.rest.items
    ≡ c.in-Some.driver ∷ c.next.new.self.rest.items = search rules in
    let ends : into_iter_items c.loop-driver.ends
    ≡ c.in-Some-next.ended ∷ into_iter_items c.next-in-loop-driver.new.self = search rules in
    let before = c.loop-driver.invariant in
    record {
      few = omega (arith, before.few, ap length drivers);
      number = omega (arith, before.number, ap length drivers, ap length ends);
      answered = λ k driver ended driver_is ended_is.
          before.answered (suc k) driver ended (ap (λ ds. slice_get ds (suc k)) drivers ∙ driver_is)
          (ap (λ es. slice_get es (suc k)) ends ∙ ended_is);
      done = λ others. before.done (subst AreAllDone (sym drivers)
          (first_done c.in-Some.driver c.next.new.self.rest.items c.in_ok-put_packets.ensures.done others));
      text = first_text _ c.loop-driver.submitter drivers ends c.in_ok-put_packets.ensures.text ∙ before.text;
      lacking = first_lacks _ drivers ends c.in_ok-put_packets.ensures.lacking ∙ before.lacking;
    }
