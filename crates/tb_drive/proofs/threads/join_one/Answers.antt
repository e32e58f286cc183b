use Rattle.std.proofs.Common.{rules, ◌≡◌, ◌∷◌, ◌++◌, [], Some}
use Rattle.tb_drive.proofs.Words.{HasSeenEnd, IsResultOf, SubmitterTaskState, started_from}
use Rattle.tb_drive.proofs.Results.{one_more_joined}
use Rattle.tb_drive.proofs.threads.join_one.Goals as goal

pub returns : goal.returns
returns g c = λ all had.
    let task : SubmitterTaskState = started_from c.args.handle in
    let driver = c.ended.inside.driver in
    let end = c.in-Some.ended in
    let ends : c.push.new.self.items ≡ c.args.ends.now.items ++ end ∷ [] = c.in_ok-push.ensures.items in
    let drivers : c.push-2.new.self.items ≡ c.args.drivers.now.items ++ driver ∷ [] = c.in_ok-push-2.ensures.items in
    let is : IsResultOf task (record { ended = Some end; share = g.D.Driver.share driver }) =
    rw c.in-Some.is at (rw (← c.ended.view_is) at c.join.ensures) in
    let both : HasSeenEnd g.D.Driver.has_seen driver end × HasSeenEnd g.D.Driver.has_ended driver end = search rules in
    rw (ends, drivers) (one_more_joined g.D.Driver.share g.D.Driver.has_seen g.D.Driver.has_ended task end driver had is both)
