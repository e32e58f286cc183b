-- Which rows are entries, and which rows are a ledger's file.
use Rattle.std.specs.Prelude.{◌≡◌, ◌⊎◌, ◌≤◌, ◌+◌, ◌%◌, ℕ, pos, negsuc, List, [], ◌∷◌, ◌++◌, length, map, false, Some, IsOk}
use Rattle.tb_layout.specs.claim.Limits.{clock_max}
use Rattle.tb_layout.specs.claim.Bounds.{batch_max, moment_max}
use Rattle.tb_work.specs.claim.Admission.{admission_of}
use Rattle.tb_work.specs.claim.Packet.{Numbered}
use Rattle.tb_work.specs.claim.Job.{numbered_packet, stub_of}
use Rattle.tb_work.specs.declared.stub.Stub.{Stub}
use Rattle.tb_batch.specs.claim.Batch.{IsLawful, body_of}
use Rattle.tb_core.specs.claim.BareLedger.{BareLedgerState}
use Rattle.tb_core.specs.claim.Journal.{LedgerState}
use Rattle.sqlite_value.specs.declared.value.Value.TheVariants.{Int, Blob}
use Rattle.sqlite_value.specs.Order.{Row, column, bytes}
use Rattle.sqlite_trees.specs.Tree.{Trees, rowid}
use Rattle.sqlite_trees.specs.View.{View, IsClean}
use Rattle.tb_durable.specs.declared.counts.PacketCounts.{PacketCounts}
use Rattle.tb_durable.specs.declared.fault.OpenFault.{OpenFault}
use Rattle.tb_durable.specs.declared.fault.OpenFault.TheVariants as fault
use Rattle.tb_durable.specs.declared.ledger.DurableLedger.{DurableLedger}
use Rattle.tb_durable.specs.declared.settings.Settings.{Settings}
use Rattle.tb_durable.specs.clauses.Counts.{counted_all, no_packets}
use Rattle.tb_durable.specs.claim.Durable.{IsJournal, IsKept, IsReading, LeavesJournal}
use Rattle.tb_durable.specs.claim.Rows.{HasColumns, clock_in, format_version, group_in, settings_row, stubs_in}

-- ---- rows

-- columns are those of packets that may share a batch
pub record AreColumnsOf (jobs : List Numbered) (operation : ℕ) (stubs body : List ℕ) : Type 0 where
  pub lawful : IsLawful operation jobs
  pub whole : length stubs % 16 ≡ 0
  pub own_stubs : stubs_in stubs ≡ map stub_of jobs
  pub own_body : body ≡ body_of jobs

-- the row of a batch at a place: its packets may share a batch, and follow those that are counted before
pub record IsBatchRow (place : ℕ) (before : PacketCounts) (row : Row) (after : PacketCounts) : Type 0 where
  pub operation : ℕ
  pub moment : ℕ
  pub stubs : List ℕ
  pub body : List ℕ
  pub jobs : List Numbered
  pub at : rowid row ≡ Int (pos place)
  pub has : HasColumns row operation moment stubs body
  pub are : AreColumnsOf jobs operation stubs body
  pub follow : counted_all before (map stub_of jobs) ≡ Some after

-- the row of a pulse at a place
pub record IsPulseRow (place : ℕ) (row : Row) : Type 0 where
  pub moment : ℕ
  pub stubs : List ℕ
  pub body : List ℕ
  pub at : rowid row ≡ Int (pos place)
  pub has : HasColumns row 0 moment stubs body
  pub low : moment ≤ moment_max

-- the row of a batch or of a pulse, which counts no packet
abbrev pub IsEntryRow : ℕ → PacketCounts → Row → PacketCounts → Type 0
IsEntryRow place before row after = IsBatchRow place before row after ⊎ (IsPulseRow place row × (after ≡ before))

-- rows of entries in order: a batch takes a place for each packet, a pulse takes one
abbrev pub AreEntryRows : ℕ → PacketCounts → List Row → PacketCounts → Type 0
AreEntryRows place before [] after = after ≡ before
AreEntryRows place before (row ∷ rows) after =
    (middle : PacketCounts) × IsEntryRow place before row middle × AreEntryRows (place + length (group_in row)) middle rows after

-- the row of the settings: this version of the format, a clock in range, and a stub, which has the limit and the submitters
pub record IsFirstRow (row : Row) : Type 0 where
  pub clock : ℕ
  pub stubs : List ℕ
  pub at : rowid row ≡ Int (negsuc 0)
  pub version : column row 2 ≡ Int (pos format_version)
  pub starts : column row 3 ≡ Int (pos clock)
  pub low : clock ≤ clock_max
  pub has_stubs : column row 4 ≡ Blob stubs
  pub long : 16 ≤ length stubs

-- the settings that a first row has: where the clock starts, and in its first stub the limit and the submitters
pub record HasSettings (row : Row) (settings : Settings) : Type 0 where
  pub clock : clock_in row ≡ settings.clock
  pub number : ℕ
  pub more : List Stub
  pub stubs : stubs_in (bytes (column row 4))
      ≡ record { number = number; submitter = settings.submitters; count = settings.limit } ∷ more

-- the first of these rows has the settings
abbrev pub BeginsWithSettings : List Row → Settings → Type 0
BeginsWithSettings rows settings = (first : Row) × (left : List Row) × (rows ≡ first ∷ left) × HasSettings first settings

-- the rows of a ledger's file, with the counts of their packets: none, or the settings and then entries from the place 0 on
abbrev pub IsLedgerFile : List Row → PacketCounts → Type 0
IsLedgerFile [] counts = counts ≡ no_packets
IsLedgerFile (first ∷ entries) counts = IsFirstRow first × AreEntryRows 0 no_packets entries counts

-- unless the ledger stopped, its table is a ledger's file, if the disk has returned what was written
abbrev pub HasEntries : View → BareLedgerState → PacketCounts → Type 0
HasEntries view bare counts = IsClean view → bare.stopped ≡ false → IsLedgerFile (view.committed 0) counts

-- whatever a crash leaves is a ledger's file
abbrev pub CanBeOpened : (Trees → Type 0) → Type 0
CanBeOpened recovers = (db : Trees) → recovers db → (counts : PacketCounts) × IsLedgerFile (db 0) counts

-- Which ledgers a stored one may be. If the disk has returned what was written, whatever a crash leaves can be opened and has the
-- ledger's journal, also if the ledger stopped (`leaves`). So have the rows as they are read, while the store is open (`stays` of the kit).
-- Unless the ledger stopped, its table is a ledger's file, with its counts of packets.
pub record IsInFile {S : Type 0} (view : S → View) (recovers : S → Trees → Type 0) (durable : DurableLedger S)
    (ledger : LedgerState) : Type 0 where
  pub kept : IsKept (view durable.table.store) durable.bare ledger
  pub entries : HasEntries (view durable.table.store) durable.bare durable.counts
  pub openable : IsClean (view durable.table.store) → CanBeOpened (recovers durable.table.store)
  pub leaves : IsClean (view durable.table.store) → LeavesJournal (recovers durable.table.store) durable.in_doubt ledger

-- ---- opening

-- after opening, a crash leaves what it could leave before, or only the settings, if the table had no rows
abbrev pub LeavesSettings : (Trees → Type 0) → (Trees → Type 0) → List Row → Settings → Type 0
LeavesSettings old new rows settings = (db : Trees) → new db → old db ⊎ ((rows ≡ []) × (db 0 ≡ settings_row settings ∷ []))

-- memory or the disk failed
abbrev pub IsFailure : OpenFault → Type 0
IsFailure fault.NoMemory = Unit {0}
IsFailure (fault.Store error) = Unit {0}
IsFailure other = ⊥

-- a packet as a row has it: the user word isn't stored
abbrev pub without_user : Numbered → Numbered
without_user job =
    numbered_packet job.submitter job.number
    (record { operation = job.packet.operation; bytes = job.packet.bytes; user = 0 })

-- columns begin with an admitted packet, and have these bytes after its own
pub record BeginsWith (job : Numbered) (more : List ℕ) (operation : ℕ) (stub : Stub) (body : List ℕ) : Type 0 where
  pub admitted : IsOk (admission_of batch_max job.packet)
  pub same_operation : job.packet.operation ≡ operation
  pub own_stub : stub ≡ stub_of job
  pub own_body : body ≡ job.packet.bytes ++ more

-- A ledger has the journal of the rows that a cursor has read, and counted their packets. The rows that are left are entries. With
-- them the counts are `after`.
pub record IsHalfway (view : View) (bare : BareLedgerState) (before after : PacketCounts) : Type 0 where
  pub read : List Row
  pub reading : IsReading view read
  pub journal : IsJournal read bare
  pub left : AreEntryRows bare.places before reading.left after

-- a ledger has the journal of the rows that a cursor has read, and these are a file's, with the counts of their packets
pub record HasReadFile (view : View) (bare : BareLedgerState) (counts : PacketCounts) : Type 0 where
  pub read : List Row
  pub reading : IsReading view read
  pub journal : IsJournal read bare
  pub file : IsLedgerFile read counts
