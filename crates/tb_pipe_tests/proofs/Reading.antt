-- A driver that is the only one, before its run.
use Rattle.std.proofs.Common.{◌≡◌, ℕ, List, [], ◌∷◌, All, sym, subst, arith}
use Rattle.tb_submit.specs.clauses.Ends.{SubmitterState}
use Rattle.tb_work.specs.claim.Packet.{ReplyValue}
use Rattle.tb_work.specs.declared.item.Item.{Item}
use Rattle.tb_drive.specs.clauses.Seen.{HaveSeen, jobs_in}
use Rattle.tb_drive.proofs.Opened.{all_have_seen, all_with_driver}
use Rattle.tb_pipe_tests.specs.clauses.Reading.{HasRead, IsIdle}

new_has_read : (exact : Type 0) (unread : ℕ) (queued : List Item) (read : List ReplyValue) → unread ≡ 0
    → queued ≡ [] → read ≡ [] → HasRead exact unread (jobs_in queued) read
new_has_read exact unread [] [] none idle nothing = record { fewer = omega arith; count = λ is. omega (arith, none) }
new_has_read exact unread [] (reply ∷ replies) none idle nothing = cc
new_has_read exact unread (item ∷ items) read none idle nothing = cc

-- a driver that counts no packet has seen what a submitter of a new pipeline queued and read
pub one_has_read : {D : Type 0} (exact : D → Type 0) (unread : D → ℕ) (one : D) (drivers : List D)
    (submitters : List SubmitterState) → drivers ≡ one ∷ [] → unread one ≡ 0 → All IsIdle submitters
    → HaveSeen (λ driver limit queued read. HasRead (exact driver) (unread driver) queued read) drivers submitters
one_has_read exact unread one drivers submitters is none idle =
    all_have_seen (λ driver limit queued read. HasRead (exact driver) (unread driver) queued read)
    (λ driver. unread driver ≡ 0) IsIdle drivers submitters
    (λ driver submitter new idle. new_has_read (exact driver) (unread driver) submitter.queued submitter.read new idle.0
    idle.1)
    (subst (All (λ driver. unread driver ≡ 0)) (sym is)
    (all_with_driver (λ driver. unread driver ≡ 0) [] one (λ k d within. absurd (omega arith)) none)) idle
