-- what a call did to the engine inside a handle; a closed handle has none.
use Rattle.std.specs.Prelude.{◌≡◌, ◌<◌, ◌⊎◌, ◌+◌, ◌*◌, ◌^◌, ℕ, Bool, nat_lt, if◌then◌else◌, length, List, Option, Some, None}
use Rattle.tb_layout.specs.clauses.Records.{account_bytes, transfer_bytes}
use Rattle.tb_layout.specs.claim.Limits.{clock_max}
use Rattle.tb_layout.specs.declared.account.Account.{Account}
use Rattle.tb_layout.specs.declared.transfer.Transfer.{Transfer}
use Rattle.tb_tables.specs.claim.Facts.{Facts}
use Rattle.tb_tables.specs.clauses.Status.{status_if_pending}
use Rattle.tb_tables.specs.declared.status.Status.{Status}
use Rattle.tb_tables.specs.declared.status.Status.TheVariants.{Pending, Posted, Voided, Expired}
use Rattle.tb_work.specs.clauses.Refusal.{number_of}
use Rattle.tb_work.specs.claim.Packet.{ReplyValue}
use Rattle.tb_work.specs.declared.refusal.Refusal.{Refusal}
use Rattle.tb_work.specs.declared.refusal.Refusal.TheVariants.{MomentTooLarge, Stopped}
use Rattle.tb_core.specs.claim.Front.{opening_refusal}
use Rattle.tb_embed.specs.clauses.Engine.{EngineState, IsRefusal, has_stopped, state_of}
use Rattle.tb_embed.specs.clauses.Recorded.{ChangesEngine, ReadsRecorded, RecordedState, readable, recorded}
use Rattle.kip.specs.declared.counts.KipCounts.{KipCounts}
use Rattle.kip.specs.declared.reading.KipReply.{KipReply}
use Rattle.kip.specs.clauses.Results.{AreWritten, IsHeadOf, result_bytes, result_size}

-- the handle was open and stays open, and this holds of what is behind it before and after
abbrev pub Becomes : (RecordedState → RecordedState → Type 0) → Option RecordedState → Option RecordedState → Type 0
Becomes R (Some old) (Some new) = R old new
Becomes R (Some old) None = ⊥
Becomes R None new = ⊥

-- the same of its engine, and nothing else changed
abbrev pub Moves : (EngineState → EngineState → Type 0) → Option RecordedState → Option RecordedState → Type 0
Moves R = Becomes (λ old new. R old.engine new.engine × ChangesEngine old new)

-- the handle is open, and this holds of its engine
abbrev pub IsOpen : (EngineState → Type 0) → Option RecordedState → Type 0
IsOpen P (Some host) = P host.engine
IsOpen P None = ⊥

-- it was opened with this engine, for a host that keeps the journal or doesn't
abbrev pub IsOpenedAs : Bool → (EngineState → Type 0) → Option RecordedState → Type 0
IsOpenedAs records P (Some host) = P host.engine × (host ≡ recorded host.engine records)
IsOpenedAs records P None = ⊥

-- ---- statuses

-- the handle is closed
abbrev pub closed : ℕ
closed = 100

-- the handle is open
abbrev pub already_open : ℕ
already_open = 101

-- no reply is unread
abbrev pub no_reply : ℕ
no_reply = 102

-- the buffer is too small for the results
abbrev pub too_small : ℕ
too_small = 103

-- there is no such account or transfer
abbrev pub not_found : ℕ
not_found = 104

-- nothing is left to be handed out
abbrev pub no_entry : ℕ
no_entry = 107

-- an entry isn't the next by its place, or by its number among its submitter's
abbrev pub not_next : ℕ
not_next = 108

-- a packet is held, a reply is unread, a pulse isn't handed out, or the engine is shut
abbrev pub in_use : ℕ
in_use = 109

-- the host doesn't keep the journal
abbrev pub not_recorded : ℕ
not_recorded = 110

-- something at a lower place wasn't handed out
abbrev pub not_handed_out : ℕ
not_handed_out = 111

-- 0 if nothing is refused, else the number of the first refusal that applies or of NoMemory
abbrev pub IsStatus : Option Refusal → ℕ → Type 0
IsStatus first status =
    ((status ≡ 0) × (first ≡ None))
    ⊎ ((refusal : Refusal) × (IsRefusal first refusal × (status ≡ number_of refusal)))

-- the status of a call, which a closed handle refuses as `closed`
abbrev pub IsStatusOf : (EngineState → Option Refusal) → Option RecordedState → ℕ → Type 0
IsStatusOf refusal (Some host) status = IsStatus (refusal host.engine) status
IsStatusOf refusal None status = status ≡ closed

-- whether the engine stopped, as a status
abbrev pub stopped_status : Option RecordedState → ℕ
stopped_status None = closed
stopped_status (Some host) = if has_stopped host.engine then number_of Stopped else 0

-- why a handle isn't opened, if memory is there
abbrev pub open_refusal : ℕ → ℕ → ℕ → Option Refusal
open_refusal clock limit submitters =
    if nat_lt clock_max clock then Some MomentTooLarge else opening_refusal limit submitters

-- an open handle isn't opened again
abbrev pub IsOpeningStatus : ℕ → ℕ → ℕ → Option RecordedState → ℕ → Type 0
IsOpeningStatus clock limit submitters None status = IsStatus (open_refusal clock limit submitters) status
IsOpeningStatus clock limit submitters (Some host) status = status ≡ already_open

abbrev pub IsClosingStatus : Option RecordedState → ℕ → Type 0
IsClosingStatus None status = status ≡ closed
IsClosingStatus (Some host) status = status ≡ 0

-- ---- replies

-- a reply was read, which the head describes and whose results are in the buffer
pub record HasRead (head : KipReply) (before after : List ℕ) (old new : RecordedState) : Type 0 where
  pub reply : ReplyValue
  pub described : IsHeadOf head reply
  pub written : AreWritten (result_bytes reply.outcome) (result_size reply.outcome) before after
  pub reads : ReadsRecorded old reply new

-- the head describes the next reply that can be read
pub record IsNextIn (head : KipReply) (host : RecordedState) : Type 0 where
  pub reply : ReplyValue
  pub is_next : readable host ≡ Some reply
  pub described : IsHeadOf head reply

-- the same, and its results are in the buffer
pub record IsCopied (head : KipReply) (before after : List ℕ) (host : RecordedState) : Type 0 where
  pub reply : ReplyValue
  pub is_next : readable host ≡ Some reply
  pub described : IsHeadOf head reply
  pub written : AreWritten (result_bytes reply.outcome) (result_size reply.outcome) before after

-- the next reply with its results, or only its head if the buffer is `too_small`; none if there is `no_reply`
pub record IsPeek (status : ℕ) (head : KipReply) (before after : List ℕ) (host : RecordedState) : Type 0 where
  pub copied : status ≡ 0 → IsCopied head before after host
  pub none : status ≡ no_reply → readable host ≡ None
  pub small : status ≡ too_small → IsNextIn head host × (length before < head.size)
  pub same : (status ≡ 0 → ⊥) → after ≡ before
  pub one_of : (status ≡ 0) ⊎ ((status ≡ no_reply) ⊎ (status ≡ too_small))

-- the status of a read: 0 with a reply, `no_reply` without one, `too_small` with a buffer that is
pub record IsReading (status : ℕ) (head : KipReply) (before after : List ℕ) (old new : RecordedState) : Type 0 where
  pub read : status ≡ 0 → HasRead head before after old new
  pub none : status ≡ no_reply → readable old ≡ None
  pub small : status ≡ too_small → IsNextIn head old × (length before < head.size)
  pub same : (status ≡ 0 → ⊥) → (new ≡ old) × (after ≡ before)
  pub one_of : (status ≡ 0) ⊎ ((status ≡ no_reply) ⊎ (status ≡ too_small))

-- a closed handle reads nothing and stays closed
abbrev pub IsReadingOf : ℕ → KipReply → List ℕ → List ℕ → Option RecordedState → Option RecordedState → Type 0
IsReadingOf status head before after (Some old) (Some new) = IsReading status head before after old new
IsReadingOf status head before after (Some old) None = ⊥
IsReadingOf status head before after None new = (status ≡ closed) × (after ≡ before) × (new ≡ None)

-- ---- look-ups

abbrev pub id_of : ℕ → ℕ → ℕ
id_of low high = high * 2 ^ 64 + low

-- 0 with the account's bytes, `not_found` without an account
pub record IsAccount (status : ℕ) (found : Option Account) (before after : List ℕ) : Type 0 where
  pub written : status ≡ 0 → (account : Account) × ((found ≡ Some account) × (after ≡ account_bytes account))
  pub none : status ≡ not_found → (found ≡ None) × (after ≡ before)
  pub one_of : (status ≡ 0) ⊎ (status ≡ not_found)

-- the account that is looked for in the engine
abbrev pub IsAccountIn : (EngineState → Option Account) → ℕ → List ℕ → List ℕ → Option RecordedState → Type 0
IsAccountIn found status before after (Some host) = IsAccount status (found host.engine) before after
IsAccountIn found status before after None = (status ≡ closed) × (after ≡ before)

-- 0 for a transfer that isn't pending
abbrev pub pending_number : Option Status → ℕ
pending_number None = 0
pending_number (Some Pending) = 1
pending_number (Some Posted) = 2
pending_number (Some Voided) = 3
pending_number (Some Expired) = 4

-- 0 with the transfer's bytes and the number of its status, `not_found` without a transfer
pub record IsTransfer (status : ℕ) (found : Option Transfer) (pending : Option Status) (before after : List ℕ × ℕ) : Type 0 where
  pub written : status ≡ 0 → (transfer : Transfer) × ((found ≡ Some transfer) × (after ≡ (transfer_bytes transfer, pending_number pending)))
  pub none : status ≡ not_found → (found ≡ None) × (after ≡ before)
  pub one_of : (status ≡ 0) ⊎ (status ≡ not_found)

-- a transfer that is found in the engine's facts, with its status
abbrev pub IsTransferIn : (Facts → Option Transfer) → ℕ → List ℕ × ℕ → List ℕ × ℕ → Option RecordedState → Type 0
IsTransferIn found status before after (Some host) =
    let facts = (state_of host.engine).facts in
    IsTransfer status (found facts) (status_if_pending facts (found facts)) before after
IsTransferIn found status before after None = (status ≡ closed) × (after ≡ before)

-- 0 with the clock
abbrev pub IsClockOf : ℕ → ℕ → ℕ → Option RecordedState → Type 0
IsClockOf status before after (Some host) = (status ≡ 0) × (after ≡ (state_of host.engine).clock)
IsClockOf status before after None = (status ≡ closed) × (after ≡ before)

-- 0 with the number of packets and pulses that are committed
abbrev pub IsPlacesOf : ℕ → ℕ → ℕ → Option RecordedState → Type 0
IsPlacesOf status before after (Some host) = (status ≡ 0) × (after ≡ host.engine.ledger.places)
IsPlacesOf status before after None = (status ≡ closed) × (after ≡ before)

-- 0 with how much is stored
abbrev pub IsCountsOf : ℕ → KipCounts → KipCounts → Option RecordedState → Type 0
IsCountsOf status before after (Some host) =
    let facts = (state_of host.engine).facts in
    (status ≡ 0) × (after ≡ record {
      accounts = length facts.accounts;
      transfers = length facts.transfers;
      failed_ids = length facts.failed;
    })
IsCountsOf status before after None = (status ≡ closed) × (after ≡ before)
