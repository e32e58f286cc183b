-- What is printed of a run.
use Rattle.std.specs.Prelude.{◌≡◌, ℕ, ◌+◌, zero, suc, nat_lt, Bool, true, false, ◌||◌, List, [], ◌∷◌, ◌++◌, Ok, Some, length, slice_get}
use Rattle.std.specs.List.{list_any}
use Rattle.tb_core.specs.claim.Grouping.{IsGrouping}
use Rattle.tb_core.specs.claim.EachSubmitter.{moments_in, moments_queued}
use Rattle.tb_core.specs.claim.EndedRun.{Run, ahead_in, any_stopped, committed_in, IsPrefix}
use Rattle.tb_core.specs.claim.Journal.{LedgerState, groups_since, inputs, inputs_since}
use Rattle.tb_core.specs.claim.Report.{LawfulReport}
use Rattle.tb_layout.specs.claim.Events.{Input, Packet, Pulse}
use Rattle.tb_machine.specs.claim.Replay.{State}
use Rattle.tb_work.specs.claim.Packet.{ReplyValue}
use Rattle.tb_work.specs.declared.item.Item.{Item}
use Rattle.tb_work.specs.declared.packet.Packet as packets
use Rattle.tb_work.specs.declared.refusal.Refusal.TheVariants.{NoMemory}
use Rattle.tb_drive.specs.clauses.Plan.{planned_items, refused_of}
use Rattle.tb_drive.specs.clauses.Seen.{jobs_in}
use Rattle.tb_program_text.specs.clauses.Script.{ParsedScript, clock_of, limit_of, submitters_of, items_of}
use Rattle.tb_program_text.specs.clauses.Source.{source_in}
use Rattle.tb_program.specs.clauses.Noting.{IsHandedIn}
use Rattle.tb_program_text.specs.clauses.Output.{reply_line, refused_line, pulse_line, refused_pulse_line}
use Rattle.tb_program.specs.clauses.Listing.{state_text}
use Rattle.tb_program.specs.clauses.Sharing.{moments_asked, shares_of, shuts_in}
use Rattle.tb_program.specs.declared.run.notes.PacketResult.{PacketResult}
use Rattle.tb_program.specs.declared.run.notes.PacketResult.TheVariants.{Queued, Refused}

-- ---- a submitter's packets

-- the line of a packet: the next reply, or why it was refused
abbrev pub line_of_packet : ℕ → PacketResult → List ReplyValue → List ℕ
line_of_packet submitter Queued [] = []
line_of_packet submitter Queued (reply ∷ replies) = reply_line reply
line_of_packet submitter (Refused refusal) replies = refused_line submitter refusal

-- the replies that are left after it
abbrev pub replies_after : PacketResult → List ReplyValue → List ReplyValue
replies_after Queued [] = []
replies_after Queued (reply ∷ replies) = replies
replies_after (Refused refusal) replies = replies

unfoldable pub lines_of_packets : ℕ → List PacketResult → List ReplyValue → List ℕ
lines_of_packets submitter [] replies = []
lines_of_packets submitter (one ∷ others) replies =
    line_of_packet submitter one replies ++ lines_of_packets submitter others (replies_after one replies)

-- ---- the packets of all, by rising number of their submitters

-- from a submitter on, the first of whose replies are those of 0
unfoldable pub packets_text : ℕ → List (List PacketResult) → (ℕ → List ReplyValue) → List ℕ
packets_text submitter [] replies = []
packets_text submitter (own ∷ others) replies =
    lines_of_packets submitter own (replies zero) ++ packets_text (submitter + 1) others (λ k. replies (suc k))

-- ---- what was committed

-- the pulses, each with its place; the first of these packets and pulses has the place given
abbrev pub pulses_text : ℕ → List Input → List ℕ
pulses_text place [] = []
pulses_text place (Packet submitter number events ∷ inputs) = pulses_text (suc place) inputs
pulses_text place (Pulse moment ∷ inputs) = pulse_line place ++ pulses_text (suc place) inputs

abbrev pub refused_pulses_text : ℕ → List ℕ
refused_pulses_text zero = []
refused_pulses_text (suc count) = refused_pulses_text count ++ refused_pulse_line

abbrev pub ledger_text : List Input → ℕ → State → List ℕ
ledger_text inputs refused_pulses state = pulses_text 0 inputs ++ refused_pulses_text refused_pulses ++ state_text state

-- ---- whether memory ran out

abbrev pub is_refused_memory : PacketResult → Bool
is_refused_memory (Refused NoMemory) = true
is_refused_memory other = false

-- memory ran out for a packet of a submitter: one was refused as NoMemory, or a reply is Stopped
abbrev pub lacks_packet : List PacketResult → List ReplyValue → Bool
lacks_packet results replies = list_any is_refused_memory results || any_stopped replies

-- for a packet of any submitter from one on, the first of whose replies are those of 0
abbrev pub lacks_packets : List (List PacketResult) → (ℕ → List ReplyValue) → Bool
lacks_packets [] replies = false
lacks_packets (own ∷ others) replies = lacks_packet own (replies zero) || lacks_packets others (λ k. replies (suc k))

-- for a pulse: fewer are committed than were queued
abbrev pub lacks_pulse : List Input → ℕ → Bool
lacks_pulse committed queued = nat_lt (length (moments_in committed)) queued

-- in a run: for a packet of any submitter, or for a pulse of the control
abbrev pub lacks_memory_in : Run → List (List PacketResult) → List Item → Bool
lacks_memory_in run results controlled =
    lacks_packets results run.replies || lacks_pulse (committed_in run) (length (moments_queued controlled))

-- ---- the whole

abbrev pub run_text : List (List PacketResult) → (ℕ → List ReplyValue) → List Input → ℕ → State → List ℕ
run_text results replies inputs refused_pulses state = packets_text 0 results replies ++ ledger_text inputs refused_pulses state

-- all of these shares were handed in: the right result of each packet, under this limit and with these replies, is
-- noted, and exactly those are queued that are noted as queued
abbrev pub AreHandedIn : ℕ → (ℕ → List ReplyValue) → List (List packets.Packet) → List (List PacketResult) → (ℕ → List Item)
    → Type 0
AreHandedIn limit replies shares results queued =
    (k : ℕ) (share : List packets.Packet) (own : List PacketResult) → slice_get shares k ≡ Some share
    → slice_get results k ≡ Some own → IsHandedIn limit (replies k) share [] own (jobs_in (queued k))

-- Of a run from this clock on under this limit, with a submitter for each of these shares and a control that queued
-- these items: the text is that of a lawful report of some queue. In it each submitter queued its share except for what
-- was refused, and the committed pulses are the first of the control's. A packet is printed as refused only for what
-- refuses it, and no packet that isn't admitted is queued.
pub record IsRunText (clock limit : ℕ) (shares : List (List packets.Packet)) (controlled : List Item)
    (refused_pulses : ℕ) (text : List ℕ) : Type 0 where
  pub run : Run
  pub results : List (List PacketResult)
  pub clock_is : run.ledger.opening ≡ clock
  pub first : run.before ≡ []
  pub submitters_are : run.submitters ≡ length shares
  pub report : LawfulReport run
  pub grouping : IsGrouping limit run.ledger.groups
  pub control : run.queued run.submitters ≡ controlled
  pub pulses : IsPrefix (moments_in (committed_in run)) (moments_queued controlled)
  pub number : length results ≡ length shares
  pub handed : AreHandedIn limit run.replies shares results run.queued
  pub printed : text ≡ run_text results run.replies (committed_in run) refused_pulses run.ledger.state

-- Of a run from one ledger to another under this limit, with these shares and a control that queued these items: the text of its packets
-- is that of a lawful report of some queue, in which each submitter queued its share except for what was refused.
pub record IsRunOver (limit : ℕ) (shares : List (List packets.Packet)) (controlled : List Item) (text : List ℕ)
    (start ledger : LedgerState) : Type 0 where
  pub run : Run
  pub results : List (List PacketResult)
  pub before : run.before ≡ inputs start
  pub ledger_is : run.ledger ≡ ledger
  pub submitters_are : run.submitters ≡ length shares
  pub report : LawfulReport run
  pub grouping : IsGrouping limit (groups_since start ledger)
  pub control : run.queued run.submitters ≡ controlled
  pub pulses : IsPrefix (moments_in (inputs_since start ledger)) (moments_queued controlled)
  pub number : length results ≡ length shares
  pub handed : AreHandedIn limit run.replies shares results run.queued
  pub printed : text ≡ packets_text 0 results run.replies

-- a text as above, and whether memory ran out in its run
pub record IsRunOutput (clock limit : ℕ) (shares : List (List packets.Packet)) (controlled : List Item)
    (refused_pulses : ℕ) (text : List ℕ) (lacks_memory : Bool) : Type 0 where
  pub ran : IsRunText clock limit shares controlled refused_pulses text
  pub lacking : lacks_memory ≡ lacks_memory_in ran.run ran.results controlled

-- the same of a run from one ledger to another, but for its packets only
pub record IsOutputOver (limit : ℕ) (shares : List (List packets.Packet)) (controlled : List Item) (text : List ℕ)
    (lacks_memory : Bool) (start ledger : LedgerState) : Type 0 where
  pub ran : IsRunOver limit shares controlled text start ledger
  pub lacking : lacks_memory ≡ lacks_packets ran.results ran.run.replies

-- of what a script says: each submitter's share is its packets, and the control queues the pulses and the Close, or its
-- end
abbrev pub IsTextOf : ParsedScript → List ℕ → Type 0
IsTextOf parsed text =
    let items = items_of parsed in
    IsRunText (clock_of parsed.settings) (limit_of parsed.settings) (shares_of 0 (submitters_of parsed.settings) items)
    (planned_items (moments_asked items) (shuts_in items))
    (refused_of (moments_asked items)) text

-- the same, and whether memory ran out
abbrev pub IsOutputOf : ParsedScript → List ℕ → Bool → Type 0
IsOutputOf parsed text lacks_memory =
    let items = items_of parsed in
    IsRunOutput (clock_of parsed.settings) (limit_of parsed.settings) (shares_of 0 (submitters_of parsed.settings) items)
    (planned_items (moments_asked items) (shuts_in items))
    (refused_of (moments_asked items)) text lacks_memory

-- the text of a run of the bytes of a script without a fault
abbrev pub IsRunOf : List ℕ → List ℕ → Type 0
IsRunOf bytes text = (parsed : ParsedScript) → source_in bytes ≡ Ok parsed → IsTextOf parsed text

-- the same, and whether memory ran out
abbrev pub IsOutputOfBytes : List ℕ → List ℕ → Bool → Type 0
IsOutputOfBytes bytes text lacks_memory =
    (parsed : ParsedScript) → source_in bytes ≡ Ok parsed → IsOutputOf parsed text lacks_memory

-- if memory didn't run out in a run, all that is ahead of its Close is committed
abbrev pub WithoutLackAllIsCommitted : Type 0
WithoutLackAllIsCommitted =
    (clock limit : ℕ) (shares : List (List packets.Packet)) (controlled : List Item) (refused_pulses : ℕ) (text : List ℕ)
    → (output : IsRunOutput clock limit shares controlled refused_pulses text false)
    → committed_in output.ran.run ≡ ahead_in output.ran.run

-- the same of a run from one ledger to another that hasn't stopped
abbrev pub WithoutLackOrStopAllIsCommitted : Type 0
WithoutLackOrStopAllIsCommitted =
    (limit : ℕ) (shares : List (List packets.Packet)) (controlled : List Item) (text : List ℕ) (start ledger : LedgerState)
    → (output : IsOutputOver limit shares controlled text false start ledger) → ledger.stopped ≡ false
    → committed_in output.ran.run ≡ ahead_in output.ran.run
