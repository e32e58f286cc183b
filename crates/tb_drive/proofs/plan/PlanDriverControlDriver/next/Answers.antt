use Rattle.std.proofs.Common.{rules, ◌≤◌, ap, length, refl, arith}
use Rattle.tb_drive.proofs.Words.{slice_get_read, last_item}
use Rattle.tb_drive.proofs.Pulsed.{all_queued}
use Rattle.tb_drive.proofs.plan.PlanDriverControlDriver.next.Goals as goal

pub returns-in-Some : goal.returns-in-Some
returns-in-Some g c = λ first items queued.
    let found = c.in-Some.ensures.lookup in (
      c.args.self.now.next,
      refl,
      omega (arith, found.3.0, c.deref.type_inv.0),
      rw (← queued.0, ← c.deref.ensures.value) (slice_get_read c.deref.result.now _ _ _ refl found.3.0 found.1),
      queued,
    )

pub returns-in-None : goal.returns-in-None
returns-in-None g c = λ first items queued.
    let past : length c.deref.result.now ≤ c.args.self.now.next = search rules in
    all_queued first c.args.self.now items queued (rw (← c.deref.ensures.value) past) (ap last_item c.if-self.true)

pub returns-in-None-2 : goal.returns-in-None-2
returns-in-None-2 g c = λ first items queued.
    let past : length c.deref.result.now ≤ c.args.self.now.next = search rules in
    all_queued first c.args.self.now items queued (rw (← c.deref.ensures.value) past) (ap last_item c.if-self.false)
