use Rattle.std.proofs.Common.{◌≡◌, arith, rules, refl}
use Rattle.tb_program.proofs.Planning.{one_further}
use Rattle.tb_program.proofs.Words.{common_steps}
use Rattle.tb_work.specs.declared.item.Item.TheVariants.{Pulse}
use Rattle.tb_program.proofs.list.planning.Plan.add_pulse.Goals as goal

pub invariant_of-self-2 : goal.invariant_of-self-2
invariant_of-self-2 c =
    let inside = c.if-not-self.self-inside in
    let same : inside ≡ record c.self.inside { lines = inside.lines } = search rules in (
      λ submitter within. grind (arith, common_steps, same, c.self.invariant.0 submitter within),
      rw (c.in_ok-push-3.ensures.items, same)
          (one_further c.self.inside.closed c.self.inside.queue.items (Pulse c.new.result) (λ k. refl) c.self.invariant.1),
    )

pub returns-in_err-push : goal.returns-in_err-push
returns-in_err-push c = search rules

pub returns-then-moment-gt-MOMENT_MAX : goal.returns-then-moment-gt-MOMENT_MAX
returns-then-moment-gt-MOMENT_MAX c = search rules

pub returns-in_err-push-2 : goal.returns-in_err-push-2
returns-in_err-push-2 c = search rules

pub returns-in_err-push-3 : goal.returns-in_err-push-3
returns-in_err-push-3 c = search rules

pub returns : goal.returns
returns c = search rules
