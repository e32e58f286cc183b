use Rattle.std.proofs.Common.{◌≤◌, ◌∙◌, sym, subst, All, List, ap, length, length-set, arith, rules}
use Rattle.tb_world.proofs.Words.{common_steps, All-push, Ticket, WorldSender}
use Rattle.tb_world.proofs.world.World.push.Goals as goal

pub invariant_of-self : goal.invariant_of-self
invariant_of-self c =
    let is = c.self.invariant in
    let most = c.self.inside.submitters in
    let among : c.args.ticket.sender ≤ most = omega (arith, is.all_senders) in
    record {
      counted = is.counted;
      queued = subst (All (λ (ticket : Ticket). ticket.sender ≤ most)) (sym {A = List Ticket} c.in-Ok.ensures.items)
          (All-push (λ (ticket : Ticket). ticket.sender ≤ most) c.self.inside.queue.items
          c.args.ticket is.queued among);
      all_senders = ap (length {A = WorldSender}) c.put.ensures ∙ length-set c.self.inside.senders.items c.args.ticket.sender c.after-next.result ∙ is.all_senders;
    }

pub returns-then-number-len-clause-ok : goal.returns-then-number-len-clause-ok
returns-then-number-len-clause-ok c = search rules

pub returns-then-not-may_push-clause-ok : goal.returns-then-not-may_push-clause-ok
returns-then-not-may_push-clause-ok c = grind (arith, common_steps)

pub invariant_of-self-in-Err : goal.invariant_of-self-in-Err
invariant_of-self-in-Err c = search rules

pub returns-in-Ok-clause-ok : goal.returns-in-Ok-clause-ok
returns-in-Ok-clause-ok c = grind (arith, common_steps)

pub returns-in-Err-clause-err : goal.returns-in-Err-clause-err
returns-in-Err-clause-err c = grind (arith, common_steps)
