-- What the rings between the stages carry.
use Rattle.std.specs.Prelude.{◌≡◌, ℕ, ◌+◌, ◌%◌, ◌^◌, ◌⊎◌, Bool, true, false, List, [], ◌∷◌, ◌++◌, length, if◌then◌else◌, Contains, ⊤}
use Rattle.std.specs.List.{flat_map, list_any}
use Rattle.tb_work.specs.claim.Ahead.{ahead, items_in}
use Rattle.tb_work.specs.claim.Packet.{Numbered, ReplyValue}
use Rattle.tb_work.specs.declared.item.Ticket.{Ticket}
use Rattle.tb_batch.specs.claim.Grouping.{is_taken}
use Rattle.tb_core.specs.declared.parcel.Parcel.{Parcel}
use Rattle.tb_core.specs.declared.parcel.Parcel.TheVariants as parcel
use Rattle.tb_core.specs.declared.outcomes.Outcomes.{Outcomes}
use Rattle.tb_core.specs.declared.outcomes.Outcomes.TheVariants as outcomes
use Rattle.tb_core.specs.claim.Front.{FrontState, all_ended, all_decisions_in, group_as_batch, held_by, KnowsEnds, HaveAllEnded}
use Rattle.tb_core.specs.claim.Grouping.{AreJoined, AreJoinedParcels}
use Rattle.tb_core.specs.claim.Journal.{LedgerState, groups_since}
use Rattle.tb_core.specs.claim.Decision.{AreDecisions, inputs_in}
use Rattle.tb_core.specs.claim.Run.{Commits, replies_in}
use Rattle.tb_submit.specs.clauses.Ends.{IntakeState}

abbrev pub is_last : Parcel → Bool
is_last parcel.Last = true
is_last other = false

abbrev pub is_batch : Parcel → Bool
is_batch (parcel.Batch jobs) = true
is_batch other = false

-- the number of the batch after a parcel; batches are counted from 0, in 64 bits
abbrev pub next_number : ℕ → Parcel → ℕ
next_number number handed = if is_batch handed then (number + 1) % 2 ^ 64 else number

-- the number of the batch after some parcels
abbrev pub number_after : ℕ → List Parcel → ℕ
number_after number [] = number
number_after number (handed ∷ others) = number_after (next_number number handed) others

-- of these parcels each batch was let through under its number, the first batch having this one
abbrev pub AreLetThrough : (ℕ → Type 0) → ℕ → List Parcel → Type 0
AreLetThrough lets_through number [] = ⊤
AreLetThrough lets_through number (handed ∷ others) =
    (is_batch handed ≡ true → lets_through number) × AreLetThrough lets_through (next_number number handed) others

-- of all parcels that were taken after the first ones each batch was let through, and the next batch has this number
pub record AreCleared (lets_through : ℕ → Type 0) (first all : List Parcel) (number : ℕ) : Type 0 where
  pub more : List Parcel
  pub parts : all ≡ first ++ more
  pub through : AreLetThrough lets_through 0 more
  pub counted : number ≡ number_after 0 more

abbrev pub has_last : List Parcel → Bool
has_last parcels = list_any is_last parcels

abbrev pub is_final : Outcomes → Bool
is_final outcomes.Last = true
is_final other = false

abbrev pub has_final : List Outcomes → Bool
has_final given = list_any is_final given

-- the replies of outcomes, in order
abbrev pub answers_in : List Outcomes → List ReplyValue
answers_in given = flat_map replies_in given

-- what the committer gives on: nothing for a pulse
abbrev pub given_on : Outcomes → List Outcomes
given_on (outcomes.Cut replies) = outcomes.Cut replies ∷ []
given_on (outcomes.One reply) = outcomes.One reply ∷ []
given_on outcomes.Nothing = []
given_on outcomes.Last = outcomes.Last ∷ []

-- ---- when a batch is sealed

-- the queue was seen empty when all packets and pulses of these parcels had been taken, and no other
pub record WasEmptyAfter (intake : IntakeState) (parcels : List Parcel) : Type 0 where
  pub before : List Ticket
  pub after : List Ticket
  pub parts : intake.taken ≡ before ++ after
  pub seen : Contains intake.seen_empty (length before)
  pub inputs : ahead (items_in before) ≡ inputs_in (all_decisions_in parcels)

-- whether the packet that begins the next batch joins the batch before it
abbrev pub goes_on : ℕ → List Numbered → List Numbered → Bool
goes_on limit group [] = true
goes_on limit group (job ∷ jobs) = is_taken limit group job

-- A batch is followed by another only if the next packet doesn't join it, or the queue was seen empty between them.
-- What else follows a batch seals it: a pulse, a returned packet, the end of all.
abbrev pub AreSealedLate : IntakeState → List Parcel → Type 0
AreSealedLate intake parcels =
    (before after : List Parcel) (group next : List Numbered)
    → parcels ≡ before ++ parcel.Batch group ∷ parcel.Batch next ∷ after
    → (goes_on intake.limit group next ≡ false) ⊎ WasEmptyAfter intake (before ++ parcel.Batch group ∷ [])

-- the next packet begins a group: none is held, and neither a Close, nor a stop, nor all ends were taken
abbrev pub BeginsNext : FrontState → Type 0
BeginsNext front = (front.held ≡ []) × (front.closed ≡ false) × (front.stopped ≡ false) × (all_ended front ≡ false)

-- the group held may be sealed before anything else is taken: the queue was just seen empty, or all have ended
abbrev pub MaySeal : IntakeState → FrontState → Type 0
MaySeal intake front = Contains intake.seen_empty (length intake.taken) ⊎ (all_ended front ≡ true)

-- ---- what each stage did

-- A front took what the intake took, and these parcels were given on. The group held follows them as a batch would. If
-- the next packet begins a group right after a batch, the queue was seen empty between them.
pub record IsBatched (intake : IntakeState) (front : FrontState) (given : List Parcel) : Type 0 where
  pub under : front.limit ≡ intake.limit
  pub among : front.submitters ≡ intake.submitters
  pub passes : AreDecisions (items_in intake.taken) front.closed front.stopped (all_decisions_in given ++ held_by front)
  pub joined : AreJoinedParcels intake.limit given
  pub late : AreSealedLate intake (given ++ group_as_batch front.held)
  pub empty : BeginsNext front → (before : List Parcel) (group : List Numbered)
      → given ≡ before ++ parcel.Batch group ∷ [] → WasEmptyAfter intake given
  pub unended : has_last given ≡ false
  pub knows : KnowsEnds intake.taken front

-- all that the intake took was given, each sender's end is in it, and the last parcel comes after all that
pub record AllBatched (intake : IntakeState) (given : List Parcel) : Type 0 where
  pub closed : Bool
  pub stopped : Bool
  pub before : List Parcel
  pub parts : given ≡ before ++ parcel.Last ∷ []
  pub passes : AreDecisions (items_in intake.taken) closed stopped (all_decisions_in before)
  pub joined : AreJoinedParcels intake.limit before
  pub late : AreSealedLate intake before
  pub unended : has_last before ≡ false
  pub ended : HaveAllEnded intake.submitters intake.taken

-- since it was `start` a ledger, which may be one of these, took these parcels, and these outcomes were given on
pub record IsCommitted (start : LedgerState) (taken : List Parcel) (is : LedgerState → Type 0)
    (given : List Outcomes) : Type 0 where
  pub ledger : LedgerState
  pub now : is ledger
  pub commits : Commits start (all_decisions_in taken) ledger (answers_in given)
  pub joined : (limit : ℕ) → AreJoinedParcels limit taken → AreJoined limit (groups_since start ledger)
  pub unended : has_last taken ≡ false
  pub unfinished : has_final given ≡ false

-- the last parcel was taken too, and the last outcome was given on after all others
pub record AllCommitted (start : LedgerState) (taken : List Parcel) (is : LedgerState → Type 0)
    (given : List Outcomes) : Type 0 where
  pub ledger : LedgerState
  pub now : is ledger
  pub before : List Outcomes
  pub parts : given ≡ before ++ outcomes.Last ∷ []
  pub commits : Commits start (all_decisions_in taken) ledger (answers_in before)
  pub joined : (limit : ℕ) → AreJoinedParcels limit taken → AreJoined limit (groups_since start ledger)
  pub ended : has_last taken ≡ true
  pub unfinished : has_final before ≡ false

abbrev pub CommittedTo : Bool → LedgerState → List Parcel → (LedgerState → Type 0) → List Outcomes → Type 0
CommittedTo true start taken is given = AllCommitted start taken is given
CommittedTo false start taken is given = IsCommitted start taken is given
