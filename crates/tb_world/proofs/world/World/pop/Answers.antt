use Rattle.std.proofs.Common.{◌≡◌, ◌≤◌, ◌∙◌, ℕ, List, ◌∷◌, Bool, true, false, ap, subst, All, arith, rules}
use Rattle.tb_world.proofs.Words.{common_steps, All-tail, Ticket, Parcel, FrontState, Taken, IsFront, take_result, take_step, WorldSender, IsWorld, is_step}
use Rattle.tb_world.proofs.world.World.pop.Goals as goal

-- a ticket was taken off the queue
taken_off : {submitters : ℕ} {old new : FrontState} {ticket : Ticket} {queue rest : List Ticket}
    {senders : List WorldSender} {parcels : List Parcel} (refused : Bool) → IsWorld submitters old queue senders
    → IsFront old → queue ≡ ticket ∷ rest → take_result new parcels ≡ take_step refused old ticket.sender ticket.item
    → IsWorld submitters new rest senders
taken_off {submitters} {old} {ticket} {rest} refused is front queue_is took =
    let Among : Ticket → Type 0 = λ ticket. ticket.sender ≤ submitters in
    let step = is_step (λ parcel. Unit {0}) (λ moment. tt) (λ job cause. tt) refused old ticket.sender ticket.item
    (λ job jobs held. tt) front.clear in
    record {
      counted = ap (λ (taken : Taken). taken.front.submitters) took
          ∙ ap (λ (front : FrontState). front.submitters) step.next ∙ is.counted;
      queued = All-tail Among ticket rest (subst (All Among) queue_is is.queued);
      all_senders = is.all_senders;
    }

pub invariant_of-self-then-refused : goal.invariant_of-self-then-refused
invariant_of-self-then-refused c =
    taken_off true c.self.invariant c.step_refused.ensures.front c.in-Some.ensures.items c.step_refused.ensures.took

pub invariant_of-self-in-Ok : goal.invariant_of-self-in-Ok
invariant_of-self-in-Ok c =
    taken_off false c.self.invariant c.try_take.ensures.front c.in-Some.ensures.items c.in-Ok.ensures.ok

pub returns-then-refused-clause-ok : goal.returns-then-refused-clause-ok
returns-then-refused-clause-ok c = search rules

pub returns-in-Ok-clause-ok : goal.returns-in-Ok-clause-ok
returns-in-Ok-clause-ok c = search rules

pub step_refused-requires-clause-empty : goal.step_refused-requires-clause-empty
step_refused-requires-clause-empty c = grind (arith, common_steps)

pub try_take-requires-clause-empty : goal.try_take-requires-clause-empty
try_take-requires-clause-empty c = grind (arith, common_steps)

pub returns-in-Err-clause-err : goal.returns-in-Err-clause-err
returns-in-Err-clause-err c = grind (arith, common_steps)
