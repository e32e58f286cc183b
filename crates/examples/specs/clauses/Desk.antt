-- What a desk of payments counts, as a function of the replies that it read.
use Rattle.std.specs.Prelude.{◌≡◌, ℕ, ◌==◌, Bool, true, false, List, [], ◌∷◌, Some, slice_get, cond}
use Rattle.std.specs.List.{count_by, flat_map}
use Rattle.std.specs.Vec.Iter.{into_iter_items}
use Rattle.tb_layout.specs.declared.answer.Answer.TheVariants.{Failures}
use Rattle.tb_layout.specs.declared.failure.Failure.{Failure}
use Rattle.tb_submit.specs.clauses.Ends.{EndedState}
use Rattle.tb_work.specs.claim.Packet.{Numbered, ReplyValue}
use Rattle.tb_work.specs.declared.outcome.Outcome.{Outcome}
use Rattle.tb_work.specs.declared.outcome.Outcome.TheVariants.{Committed}
use Rattle.tb_work.specs.declared.packet.Packet as packets
use Rattle.examples.specs.declared.payments.desk.Desk.{Desk}
use Rattle.examples.specs.declared.payments.order.Order.{Order}
use Rattle.examples.specs.declared.payments.order.Order.TheVariants.{Deposit, Hold, Capture, Void}
use Rattle.examples.specs.declared.payments.order.TheConstants.{OTHER, CAPTURE, VOID}
use Rattle.examples.specs.declared.payments.tally.Tally.{Tally}

-- the user word of an order's packet
abbrev pub word_of : Order → ℕ
word_of (Deposit id amount) = OTHER
word_of (Hold id amount timeout) = OTHER
word_of (Capture id hold amount) = CAPTURE
word_of (Void id hold) = VOID

-- ---- what is counted of a reply

abbrev pub failures_of : Outcome → List Failure
failures_of (Committed place (Failures failures)) = failures
failures_of other = []

-- the failed events of a reply's packet
abbrev pub failures_in : ReplyValue → List Failure
failures_in reply = failures_of reply.outcome

-- whether a packet has the user word asked for, and none of its events failed
abbrev pub is_result_of : ℕ → ℕ → List Failure → Bool
is_result_of asked word [] = word == asked
is_result_of asked word (failure ∷ others) = false

abbrev pub is_outcome_of : ℕ → ℕ → Outcome → Bool
is_outcome_of asked word (Committed place (Failures failures)) = is_result_of asked word failures
is_outcome_of asked word other = false

-- whether a packet with this user word was committed, and none of its events failed
abbrev pub is_done : ℕ → ReplyValue → Bool
is_done asked reply = is_outcome_of asked reply.packet.packet.user reply.outcome

abbrev pub one_if : Bool → ℕ
one_if b = cond b 1 0

-- ---- the counts

-- a tally's counts are those of these replies
pub record IsCountOf (tally : Tally) (read : List ReplyValue) : Type 0 where
  pub captured : tally.captured ≡ count_by (is_done CAPTURE) read
  pub voided : tally.voided ≡ count_by (is_done VOID) read
  pub failures : tally.failures.items ≡ flat_map failures_in read

-- they are, if nothing is missing
abbrev pub HasCounted : Tally → List ReplyValue → Type 0
HasCounted tally read = tally.complete ≡ true → IsCountOf tally read

-- ---- the relations of a desk

abbrev pub HasSeenOf : Desk → ℕ → List Numbered → List ReplyValue → Type 0
HasSeenOf desk limit queued read = HasCounted desk.tally read

abbrev pub HasAskedOf : Desk → packets.Packet → ℕ → List Numbered → List ReplyValue → Type 0
HasAskedOf desk packet limit queued read = HasCounted desk.tally read

-- unless it gave up, a desk has submitted all of its orders
abbrev pub HasSubmittedAll : Desk → Type 0
HasSubmittedAll desk = desk.stopped ≡ false → into_iter_items desk.orders ≡ []

abbrev pub HasEndedOf : Desk → ℕ → List Numbered → List ReplyValue → Type 0
HasEndedOf desk limit queued read = HasSubmittedAll desk

-- a desk has counted no reply
abbrev pub IsNew : Desk → Type 0
IsNew desk = HasCounted desk.tally []

-- each desk has counted the replies that its submitter's end has read
abbrev pub HaveCounted : List Desk → List EndedState → Type 0
HaveCounted desks ends =
    (k : ℕ) (desk : Desk) (ended : EndedState) → slice_get desks k ≡ Some desk → slice_get ends k ≡ Some ended
    → HasCounted desk.tally ended.read

-- each desk of an end has submitted all of its orders
abbrev pub HaveEnded : List Desk → List EndedState → Type 0
HaveEnded desks ends =
    (k : ℕ) (desk : Desk) (ended : EndedState) → slice_get desks k ≡ Some desk → slice_get ends k ≡ Some ended
    → HasSubmittedAll desk
