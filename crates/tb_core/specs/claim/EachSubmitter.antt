-- What the headline says of each submitter, of the control's pulses, and of each packet committed.
use Rattle.std.specs.Prelude.{◌≡◌, ◌<◌, ℕ, ◌+◌, ◌==◌, Bool, false, List, [], ◌∷◌, length, map, filter, slice_get, Some}
use Rattle.tb_layout.specs.declared.answer.Answer.{Answer}
use Rattle.tb_layout.specs.claim.Events.{Events, Input, Packet, Pulse}
use Rattle.tb_work.specs.claim.Packet.{ReplyValue, input_of}
use Rattle.tb_work.specs.declared.item.Item.{Item}
use Rattle.tb_work.specs.declared.item.Item.TheVariants as item
use Rattle.tb_work.specs.declared.outcome.Outcome.TheVariants.{Committed}
use Rattle.tb_core.specs.claim.EndedRun.{Run, committed_in, ahead_in, IsPrefix, NothingStopped}
use Rattle.tb_core.specs.claim.Headline.{Headline, packets_queued}

abbrev pub is_packet_of : ℕ → Input → Bool
is_packet_of submitter (Packet its_submitter number events) = its_submitter == submitter
is_packet_of submitter (Pulse moment) = false

abbrev pub packets_of : ℕ → List Input → List Input
packets_of submitter inputs = filter (is_packet_of submitter) inputs

abbrev pub moments_in : List Input → List ℕ
moments_in [] = []
moments_in (Packet submitter number events ∷ inputs) = moments_in inputs
moments_in (Pulse moment ∷ inputs) = moment ∷ moments_in inputs

abbrev pub moments_queued : List Item → List ℕ
moments_queued [] = []
moments_queued (item.Pulse moment ∷ items) = moment ∷ moments_queued items
moments_queued (other ∷ items) = moments_queued items

-- The packets committed of a submitter are a prefix of those that it queued ahead of the Close, all of them unless
-- something stopped.
pub record IsCommittedOf (run : Run) (submitter : ℕ) : Type 0 where
  pub committed : IsPrefix (packets_of submitter (committed_in run)) (packets_of submitter (ahead_in run))
  pub queued : IsPrefix (packets_of submitter (ahead_in run)) (map input_of (packets_queued (run.queued submitter)))
  pub all : NothingStopped run → packets_of submitter (committed_in run) ≡ packets_of submitter (ahead_in run)

abbrev pub CommittedOfEachSubmitter : Type 0
CommittedOfEachSubmitter =
    (run : Run) → Headline run → (submitter : ℕ) → submitter < run.submitters → IsCommittedOf run submitter

-- the pulses committed are the first of the control's
abbrev pub PulsesAreTheControls : Type 0
PulsesAreTheControls =
    (run : Run) → Headline run → IsPrefix (moments_in (committed_in run)) (moments_queued (run.queued run.submitters))

-- the reply to a committed packet says that it is committed, and at which place
pub record IsAnsweredAt (run : Run) (place submitter number : ℕ) (events : Events) : Type 0 where
  pub index : ℕ
  pub reply : ReplyValue
  pub answer : Answer
  pub known : submitter < run.submitters
  pub replied : slice_get (run.replies submitter) index ≡ Some reply
  pub own : input_of reply.packet ≡ Packet submitter number events
  pub outcome : reply.outcome ≡ Committed place answer

abbrev pub CommittedAreAnswered : Type 0
CommittedAreAnswered =
    (run : Run) → Headline run → (index submitter number : ℕ) (events : Events)
    → slice_get (committed_in run) index ≡ Some (Packet submitter number events)
    → IsAnsweredAt run (length run.before + index) submitter number events
