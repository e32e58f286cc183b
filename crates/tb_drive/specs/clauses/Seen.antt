-- Drivers, and what their submitters have queued and read.
use Rattle.std.specs.Prelude.{◌≡◌, ℕ, List, [], ◌∷◌, ◌++◌, Some, slice_get}
use Rattle.std.specs.List.{flat_map}
use Rattle.tb_submit.specs.clauses.Ends.{SubmitterState, EndedState}
use Rattle.tb_work.specs.claim.Packet.{Numbered, ReplyValue}
use Rattle.tb_work.specs.declared.item.Item.{Item}
use Rattle.tb_work.specs.declared.item.Item.TheVariants.{Packet}
use Rattle.tb_work.specs.declared.packet.Packet as packets

abbrev pub job_in : Item → List Numbered
job_in (Packet job) = job ∷ []
job_in other = []

-- the packets among what was queued, with their numbers
abbrev pub jobs_in : List Item → List Numbered
jobs_in items = flat_map job_in items

-- what was queued first is the front part of all that was
abbrev pub IsPrefixOf : List Item → List Item → Type 0
IsPrefixOf first all = (rest : List Item) × (all ≡ first ++ rest)

-- A driver's relations are about the most events of a packet, the packets that its submitter queued, and the replies
-- that it read.
module _ {D : Type 0} (has_seen : D → ℕ → List Numbered → List ReplyValue → Type 0) where
  -- a driver has seen what its submitter queued and read
  abbrev pub HasSeen : D → SubmitterState → Type 0
  HasSeen driver submitter = has_seen driver submitter.origin.seat.limit (jobs_in submitter.queued) submitter.read

  abbrev pub HasSeenEnd : D → EndedState → Type 0
  HasSeenEnd driver ended = has_seen driver ended.origin.seat.limit (jobs_in ended.queued) ended.read

  -- each driver has seen what the submitter of its index queued and read
  abbrev pub HaveSeen : List D → List SubmitterState → Type 0
  HaveSeen drivers submitters =
      (k : ℕ) (driver : D) (submitter : SubmitterState) → slice_get drivers k ≡ Some driver
      → slice_get submitters k ≡ Some submitter → HasSeen driver submitter

  abbrev pub HaveSeenEnds : List D → List EndedState → Type 0
  HaveSeenEnds drivers ends =
      (k : ℕ) (driver : D) (ended : EndedState) → slice_get drivers k ≡ Some driver → slice_get ends k ≡ Some ended
      → HasSeenEnd driver ended

-- a driver has seen what its submitter queued and read, and asked for a packet to be queued
abbrev pub HasAsked : {D : Type 0} → (D → packets.Packet → ℕ → List Numbered → List ReplyValue → Type 0) → D
    → packets.Packet → SubmitterState → Type 0
HasAsked has_asked driver packet submitter =
    has_asked driver packet submitter.origin.seat.limit (jobs_in submitter.queued) submitter.read

-- what each submitter queued before the run is the front part of what its end queued
abbrev pub ArePrefixesOf : List SubmitterState → List EndedState → Type 0
ArePrefixesOf submitters ends =
    (k : ℕ) (submitter : SubmitterState) (ended : EndedState) → slice_get submitters k ≡ Some submitter
    → slice_get ends k ≡ Some ended → IsPrefixOf submitter.queued ended.queued
