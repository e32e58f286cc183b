-- A ledger's file, read row by row and with one row more.
use Rattle.std.proofs.Common.{◌≡◌, ◌⊎◌, inl, inr, Some, ◌<◌, ◌≤◌, ◌+◌, ℕ, pos, true, false, List, [], ◌∷◌, ◌++◌, refl, sym, ap, subst, ◌∙◌, arith, length, map}
use Rattle.tb_durable.proofs.Words.{flat_map, Int, Row, Trees, rowid, View, Advances, Input, moment_max, AreParts, IsLawful, Parts, BareLedgerState, new_bare_ledger, PacketCounts, OpenFault, Settings, no_packets, Adds, AddsGroup, IsAdded, IsFirst, IsJournal, IsReading, IsSettled, IsStored, LeavesNothingNew, opened_rows, AreEntryRows, CanBeOpened, HasEntries, HasReadFile, IsEntryRow, IsFailure, IsFirstRow, IsHalfway, IsLedgerFile, LeavesSettings, put_row, IsClean, group_in, jobs_row, pulse_row, settings_row, settings_stub, stub_bytes}
use Rattle.tb_layout.specs.claim.Limits.{clock_max}
use Rattle.tb_durable.specs.declared.fault.OpenFault.TheVariants as fault
use Rattle.tb_durable.specs.clauses.Counts.{counted_all}
use Rattle.tb_durable.proofs.Cutting.{operation_is}
use Rattle.tb_durable.proofs.EntryLemmas.{batch_row_is, entry_place, pulse_row_is, rows_push}
use Rattle.tb_durable.proofs.Journals.{added_last, left_last, more_places, new_journal, one_more}
use Rattle.tb_durable.proofs.StoreLemmas.{left_is, reads_all, reads_one}
use Rattle.tb_durable.proofs.StubLemmas.{stub_length}

pub no_memory_fails : (error : OpenFault) → error ≡ fault.NoMemory → IsFailure error
no_memory_fails error is = subst IsFailure (sym is) tt

-- ---- the first row

pub is_first_row : (settings : Settings) → settings.clock ≤ clock_max → IsFirstRow (settings_row settings)
is_first_row settings low = record {
  clock = settings.clock;
  stubs = stub_bytes (settings_stub settings);
  at = refl;
  version = refl;
  starts = refl;
  low = low;
  has_stubs = refl;
  long = omega (arith, stub_length (settings_stub settings));
}

first_of : List Row → Row
first_of [] = []
first_of (row ∷ rows) = row

-- the settings that were written are read
pub written_first : (view : View) (row : Row) (settings : Settings) → settings.clock ≤ clock_max → IsReading view (row ∷ [])
    → view.committed 0 ≡ settings_row settings ∷ [] → IsFirstRow row
unfolding first_of
written_first view row settings low reading rows =
    subst IsFirstRow (ap first_of (sym rows ∙ reading.all)) (is_first_row settings low)

-- the rows that opening finds are a file's, too
pub opened_file : (settings : Settings) (rows : List Row) (counts : PacketCounts) → settings.clock ≤ clock_max
    → IsLedgerFile rows counts → IsLedgerFile (opened_rows settings rows) counts
opened_file settings [] counts low is = (is_first_row settings low, is)
opened_file settings (row ∷ rows) counts low is = is

module _ (view : View) (row : Row) (counts : PacketCounts) (reading : IsReading view (row ∷ []))
    (file : IsLedgerFile (view.committed 0) counts) where
  parts : IsFirstRow row × AreEntryRows 0 no_packets reading.left counts
  parts = subst (λ rows. IsLedgerFile rows counts) reading.all file

  -- a new ledger has read only the first row
  pub begins_halfway : (clock : ℕ) (bare : BareLedgerState) → IsFirst row clock → bare ≡ new_bare_ledger clock
      → IsHalfway view bare no_packets counts
  begins_halfway clock bare first is = record {
    read = row ∷ [];
    reading = reading;
    journal = new_journal row clock bare first is;
    left = subst (λ (b : BareLedgerState). AreEntryRows b.places no_packets reading.left counts) (sym is) parts.1;
  }

-- ---- crashes while the settings are written

-- the settings were put into a table that had no rows
pub settings_left : (settings : Settings) (committed : Trees) {mid : View} {was early now : Trees → Type 0}
    → LeavesNothingNew was early → (IsClean mid → mid.committed ≡ committed) → (IsClean mid → IsReading mid [] × (mid.committed 0 ≡ []))
    → ((db : Trees) → now db → early db ⊎ IsAdded mid (settings_row settings) db) → LeavesSettings was now (committed 0) settings
settings_left settings committed before same none crash db left =
    elim (crash db left) [
      | inl there ↦ inl (before db there)
      | inr added ↦
          let reading = none added.clean in
          inr (
            sym (ap (λ (t : Trees). t 0) (same added.clean)) ∙ reading.1,
            added.rows ∙ ap (λ (t : Trees). put_row (settings_row settings) (t 0)) reading.0.settled.same
                ∙ ap (put_row (settings_row settings)) reading.1,
          )
    ]

-- then what is left can be opened, if what was left before could
pub settings_open : (settings : Settings) {was now : Trees → Type 0} {rows : List Row} → settings.clock ≤ clock_max
    → LeavesSettings was now rows settings → CanBeOpened was → CanBeOpened now
settings_open settings low leaves opens db left =
    elim (leaves db left) [
      | inl there ↦ opens db there
      | inr only ↦ (no_packets, subst (λ rows. IsLedgerFile rows no_packets) (sym only.1) (is_first_row settings low, refl))
    ]

-- ---- the next row

module _ (old new : View) (bare : BareLedgerState) (before after : PacketCounts) (halfway : IsHalfway old bare before after)
    (row : Row) where
  -- the row that comes is an entry's, and so are those after it
  pub next_entry : (next : Advances old new 0 row true) → (middle : PacketCounts) × IsEntryRow bare.places before row middle
      × AreEntryRows (bare.places + length (group_in row)) middle next.0 after
  next_entry next =
      subst (λ rows. AreEntryRows bare.places before rows after)
      (left_is old new halfway.read halfway.reading (row ∷ next.0) next.1) halfway.left

  pub halfway_on : (next : Advances old new 0 row true) (grown : BareLedgerState) (counts : PacketCounts)
      → counts ≡ (next_entry next).0 → AddsGroup bare grown (group_in row) → 0 < length (group_in row)
      → rowid row ≡ Int (pos bare.places) → IsHalfway new grown counts after
  halfway_on next grown counts same adds some at =
      let reading = reads_one old new halfway.read halfway.reading row next in
      let left : reading.left ≡ next.0
      = left_is new old (halfway.read ++ row ∷ []) reading next.0 (ap (λ (v : View). v.cursors 0) next.2) in
      let place : grown.places ≡ bare.places + length (group_in row)
      = more_places halfway.read bare grown (group_in row) halfway.journal adds in
      record {
        read = halfway.read ++ row ∷ [];
        reading = reading;
        journal = one_more halfway.read row bare grown halfway.journal adds some at;
        left = subst (λ p. AreEntryRows p counts reading.left after) (sym place)
            (subst (λ c. AreEntryRows (bare.places + length (group_in row)) c reading.left after) (sym same)
            (subst (λ rows. AreEntryRows (bare.places + length (group_in row)) (next_entry next).0 rows after) (sym left)
            (next_entry next).2));
      }

-- ---- one row more

flat_groups : (rows : List Row) → flat_map (λ (group : List Input). group) (map group_in rows) ≡ flat_map group_in rows
flat_groups [] = refl
flat_groups (row ∷ rows) = ap (λ more. group_in row ++ more) (flat_groups rows)

-- the row of an entry at the next place keeps a file a file
file_push : {rows : List Row} {bare : BareLedgerState} {before after : PacketCounts} {row : Row} → IsJournal rows bare
    → IsLedgerFile rows before → IsEntryRow bare.places before row after → IsLedgerFile (rows ++ row ∷ []) after
file_push {bare} {before} {after} {row} journal file entry =
    let all : IsLedgerFile (journal.first ∷ journal.entries) before = subst (λ rs. IsLedgerFile rs before) journal.is file in
    let place : bare.places ≡ 0 + length (flat_map group_in journal.entries)
    = journal.committed.counted ∙ ap length (flat_groups journal.entries) ∙ omega arith in
    subst (λ rs. IsLedgerFile (rs ++ row ∷ []) after) (sym journal.is) (
      all.0,
      rows_push 0 no_packets before after journal.entries row all.1 (subst (λ p. IsEntryRow p before row after) place entry),
    )

-- whatever a crash leaves can be opened if the row that is being stored is an entry's at the next place
pub crash_opens : {old : View} {row : Row} {bare : BareLedgerState} {before after : PacketCounts} {was now : Trees → Type 0}
    → IsStored old bare → HasEntries old bare before → bare.stopped ≡ false → IsEntryRow bare.places before row after
    → ((db : Trees) → now db → was db ⊎ IsAdded old row db) → CanBeOpened was → CanBeOpened now
crash_opens {row} {bare} {before} {after} stored has goes_on entry crash opens db left =
    elim (crash db left) [
      | inl there ↦ opens db there
      | inr added ↦
          let at_rest = stored added.clean goes_on in
          let at = entry_place bare.places before after row entry in (
            after,
            subst (λ rows. IsLedgerFile rows after) (sym (left_last row at_rest.0 at_rest.1 at db added))
                (file_push at_rest.1 (has added.clean goes_on) entry),
          )
    ]

-- the table has the row after the others
pub stored_file : {old new : View} {row : Row} {bare : BareLedgerState} {before after : PacketCounts} → IsSettled old
    → IsJournal (old.committed 0) bare → IsLedgerFile (old.committed 0) before → IsEntryRow bare.places before row after
    → Adds old new row → IsLedgerFile (new.committed 0) after
stored_file {new} {row} {bare} {before} {after} at_rest journal file entry adds =
    subst (λ rows. IsLedgerFile rows after)
    (sym (added_last row at_rest journal (entry_place bare.places before after row entry) new adds))
    (file_push journal file entry)

-- ---- rows that were accepted

-- a first row that was read is a file
pub first_file : (view : View) (row : Row) (clock : ℕ) (bare : BareLedgerState) → IsReading view (row ∷ []) → IsFirst row clock
    → IsFirstRow row → bare ≡ new_bare_ledger clock → HasReadFile view bare no_packets
first_file view row clock bare reading first is new = record {
  read = row ∷ [];
  reading = reading;
  journal = new_journal row clock bare first new;
  file = (is, refl);
}

-- with one entry more it still is one
pub read_file_on : {old new : View} {bare grown : BareLedgerState} {before after : PacketCounts} {row : Row}
    → HasReadFile old bare before → Advances old new 0 row true → IsEntryRow bare.places before row after
    → AddsGroup bare grown (group_in row) → 0 < length (group_in row) → HasReadFile new grown after
read_file_on {old} {new} {bare} {grown} {before} {after} {row} has next entry adds some = record {
  read = has.read ++ row ∷ [];
  reading = reads_one old new has.read has.reading row next;
  journal = one_more has.read row bare grown has.journal adds some (entry_place bare.places before after row entry);
  file = file_push has.journal has.file entry;
}

-- all rows were read
pub whole_file : (old new : View) (bare : BareLedgerState) (counts : PacketCounts) (row : Row) → HasReadFile old bare counts
    → Advances old new 0 row false → IsLedgerFile (new.committed 0) counts
whole_file old new bare counts row has next =
    subst (λ rows. IsLedgerFile rows counts) (sym (reads_all old new has.read has.reading row next).1) has.file

-- ---- the row of a parcel

pub batch_entry : (place : ℕ) (before after : PacketCounts) (parts : Parts) → AreParts parts
    → counted_all before parts.stubs.items ≡ Some after → IsEntryRow place before (jobs_row place parts.jobs.items) after
batch_entry place before after parts are counted =
    let jobs = parts.jobs.items in
    inl (batch_row_is place before after jobs
    (subst (λ o. IsLawful o jobs) (sym (operation_is parts.operation jobs are.lawful)) are.lawful)
    (ap (counted_all before) (sym are.stubs) ∙ counted))

pub pulse_entry : (place moment : ℕ) (counts : PacketCounts) → moment ≤ moment_max
    → IsEntryRow place counts (pulse_row place moment) counts
pulse_entry place moment counts low = inr (pulse_row_is place moment low, refl)
