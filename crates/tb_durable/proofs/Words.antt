-- The words that these proofs speak in.
pub use Rattle.sqlite_trees.specs.Tree.{rowid, Trees, put_row, from_key, order_of, sought}
pub use Rattle.sqlite_trees.specs.View.{View, Advances, IsClean, doubt, SetsTree, Commits, IsRolledBack, with_cursor}
pub use Rattle.sqlite_trees.specs.declared.store.Shape.TheVariants.{Table}
pub use Rattle.sqlite_value.specs.Order.{Row, bytes, value_cmp}
pub use Rattle.sqlite_value.specs.declared.value.Value.TheVariants.{Int}
pub use Rattle.std.proofs.lemmas.Bool.{and_from, and_parts, eq-eqb, le-leb, ltb-true, eqb-true}
pub use Rattle.std.proofs.lemmas.Grind.{flat_map-append}
pub use Rattle.std.proofs.lemmas.List.{drop_all, drop_at, drop_more, get_or-map, length-map, map_more, take_all, take_at, take-append-drop, map-append, nil_from_length, take_more}
pub use Rattle.std.specs.List.{flat_map, AllByRecursion}
pub use Rattle.std.specs.Option.{is_some}
pub use Rattle.std.specs.Prelude.{if◌then◌else◌, ◌||◌, nat_lt, ◌==◌, IsOk, IsSome, get_or, OnOk, Result, Ok, Err, unwrap_or, ◌&&◌, slice_index_or, ◌≡◌, ◌≤◌, false}
pub use Rattle.tb_batch.proofs.Admitted.{first_is, joins_by, Kind, OfAccounts, OfTransfers, OfIds, kind_of_batch}
pub use Rattle.tb_batch.specs.claim.Batch.{AreAdmitted, IsLawful, all_share, are_of, body_of, operation_of, AreParts}
pub use Rattle.tb_batch.specs.claim.Grouping.{can_share, is_taken, joins}
pub use Rattle.tb_batch.specs.declared.parts.Parts.{Parts}
pub use Rattle.tb_core.specs.claim.BareLedger.{BareLedgerState, HasCommitted, Applies, with_journal, groups_in, new_bare_ledger}
pub use Rattle.tb_core.specs.claim.Journal.{LedgerState, inputs}
pub use Rattle.tb_core.specs.claim.Ledger.{Applied, apply_result, apply_step, must_stop, step_of_batch, with_entry, with_stop, size_of, batch_packets}
pub use Rattle.tb_core.specs.declared.outcomes.Outcomes.{Outcomes}
pub use Rattle.tb_durable.specs.claim.Durable.{AddsGroup, groups_of_parcel, IsJournal, IsReading, Adds, IsAdded, IsFirst, IsSettled, IsStored, opened_rows, IsBelow, LeavesNothingNew, LeavesWith, groups_of, HasGroups, HasJournal, IsKept, LeavesJournal, MayHave, rows_of, IsReplaying}
pub use Rattle.tb_durable.specs.claim.Rows.{stub_at, batch_row, jobs_row, group_in, stubs_in, stubs_bytes, HasColumns, pulse_row, whole_number, settings_row, settings_stub, stub_bytes, clock_in, stub_in, word_of}
pub use Rattle.tb_durable.specs.clauses.Counts.{counted, no_packets, follows}
pub use Rattle.tb_durable.specs.clauses.Entries.{AreColumnsOf, BeginsWith, without_user, AreEntryRows, IsBatchRow, IsEntryRow, IsPulseRow, IsLedgerFile, CanBeOpened, HasEntries, IsInFile, HasReadFile, IsFailure, IsFirstRow, IsHalfway, LeavesSettings}
pub use Rattle.tb_durable.specs.clauses.Faults.{IsCause, IsRowFault}
pub use Rattle.tb_durable.specs.declared.counts.PacketCounts.{PacketCounts}
pub use Rattle.tb_durable.specs.declared.fault.OpenFault.{OpenFault}
pub use Rattle.tb_durable.specs.declared.fault.OpenFault.TheVariants.{NoMemory}
pub use Rattle.tb_durable.specs.declared.settings.Settings.{Settings}
pub use Rattle.tb_layout.specs.claim.Bounds.{places_max, moment_max}
pub use Rattle.tb_layout.specs.claim.Events.{Input, Pulse, chunks}
pub use Rattle.tb_work.proofs.Admissions.{admitted_are_whole}
pub use Rattle.tb_work.specs.claim.Admission.{admission_of, count_of, count_of_size, event_size}
pub use Rattle.tb_work.specs.claim.Job.{count_of_all, numbered_packet, stub_of}
pub use Rattle.tb_work.specs.claim.Packet.{Numbered, input_of, events_in}
pub use Rattle.tb_work.specs.declared.stub.Stub.{Stub}
