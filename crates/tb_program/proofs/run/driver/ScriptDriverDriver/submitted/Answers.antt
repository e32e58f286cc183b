use Rattle.std.proofs.Common.{◌≡◌, ◌∙◌, ◌∷◌, ◌++◌, [], Vec, refl, ap, sym, subst}
use Rattle.tb_program.proofs.Words.{Global, into_iter_items, ReplyValue, IsFinalRefusal, share_of, IsHandedIn}
use Rattle.tb_program.proofs.HandedPackets.{one_queued, one_refused}
use Rattle.tb_program.proofs.run.driver.ScriptDriverDriver.submitted.Goals as goal

pub returns-in-Ok-clause-queued : goal.returns-in-Ok-clause-queued
returns-in-Ok-clause-queued c = λ job limit queued read asked is none complete.
    let driver = c.args.self.now in
    let share = share_of driver in
    let rest = into_iter_items driver.packets in
    let results = c.push.ensures.results complete in
    let before = asked results.0 in (
      subst (λ all. IsHandedIn limit read share rest all (queued ++ job ∷ [])) (sym results.1)
          (one_queued before.0 job refl none),
      ap (λ (replies : Vec ReplyValue Global). replies.items) c.push.ensures.replies ∙ before.1,
    )

pub returns-in-Err-clause-refused : goal.returns-in-Err-clause-refused
returns-in-Err-clause-refused c = λ packet refusal limit queued read asked is right complete.
    let driver = c.args.self.now in
    let share = share_of driver in
    let rest = into_iter_items driver.packets in
    let results = c.push-in-Err.ensures.results complete in
    let before = asked results.0 in
    let same : refusal ≡ c.in-Err.refusal = cc in (
      subst (λ all. IsHandedIn limit read share rest all queued) (sym results.1)
          (one_refused before.0 c.in-Err.refusal (subst (IsFinalRefusal limit read packet) same right)),
      ap (λ (replies : Vec ReplyValue Global). replies.items) c.push-in-Err.ensures.replies ∙ before.1,
    )
