-- The words that these proofs speak in.
pub use Rattle.indexmap.proofs.CallerLemmas.{insert_entry-new}
pub use Rattle.indexmap.proofs.MapLemmas.{Found-position, Missing-position}
pub use Rattle.indexmap.specs.IndexMap.{set_value_at, insert_entry, get}
pub use Rattle.std.proofs.Math.Seq.{take-append_seam, take-suc}
pub use Rattle.std.proofs.lemmas.Bool.{eqb-true, eq-eqb}
pub use Rattle.std.proofs.lemmas.Bool.Decides.{nat_tests}
pub use Rattle.std.proofs.lemmas.Grind.{common_steps}
pub use Rattle.std.proofs.lemmas.List.{map-append, length-map, take-map, map_push, same_from_push, length-take, take_all}
pub use Rattle.std.proofs.lemmas.List.Elements.{filter_agree, All-from_recursion, filter-append}
pub use Rattle.std.proofs.lemmas.List.Folds.{find_at, list_any-append}
pub use Rattle.std.proofs.lemmas.Option.{slice_get_past, slice_get-map, get_or_from_slice_get, slice_get_within, slice_get-get_or, slice_get_cases}
pub use Rattle.std.specs.List.{list_any, AllByRecursion, IsDistinct, position_or_len, position}
pub use Rattle.std.specs.Map.{keys_of, lookup, lookup_key}
pub use Rattle.tb_layout.specs.claim.Bytes.{little_endian}
pub use Rattle.tb_layout.specs.claim.Transfer.{is_pending, is_post, is_resolving, is_void}
pub use Rattle.tb_layout.specs.declared.account.Account.{Account}
pub use Rattle.tb_layout.specs.declared.transfer.Transfer.{Transfer}
pub use Rattle.tb_tables.specs.claim.Balances.{is_posting}
pub use Rattle.tb_tables.specs.claim.Facts.{Facts, transfer_with, is_expired, add_transfer, account_with, add_account, add_failed}
pub use Rattle.tb_tables.specs.claim.Status.{is_reserving, is_unresolved, status_of, expires_at, expire_due, is_due}
pub use Rattle.tb_tables.specs.clauses.Changes.{without_last, before, oldest, past_of, history_of}
pub use Rattle.tb_tables.specs.clauses.Conditions.{MayAdd, MayResolve, HasNoBalances, stamped}
pub use Rattle.tb_tables.specs.clauses.Contents.{IsGrounded, AreGrounded, Contents, facts_of, has_account, AreContained, AreConsistent, IsSound, IsUndoable, row_in, transfer_rows, MayPost, MayStore, Contain, is_timed, is_pair_of, is_open_pair, reserves_at, its_pair, is_pair, account_made, has_expired, KeepsPairs, AreExpiries, Allow, HaveIndices, AreKept, WasMade, AreUndoable}
pub use Rattle.tb_tables.specs.clauses.Expiries.{same_pair, has_pair, is_in_expiries, ExpiriesState}
pub use Rattle.tb_tables.specs.clauses.Fields.{contents_in}
pub use Rattle.tb_tables.specs.clauses.History.{with_change, mark_of, back_to}
pub use Rattle.tb_tables.specs.clauses.Indices.{IsIndexAmong, IsIndexOf, IsIndexOfTransfer}
pub use Rattle.tb_tables.specs.clauses.Lawful.{has_id, IsLawful, ids_distinct}
pub use Rattle.tb_tables.specs.clauses.Status.{is_resolved, status_in}
pub use Rattle.tb_tables.specs.clauses.Sums.{Sums, sums_of, with_sums, with_amount, phase_of, account_rows, posted_if, balance_of, debits_in, credits_in, CanAdd, CanTake, AreAt, HasRoom, HasAmount, with_more, raise_balance, lower_balance}
pub use Rattle.tb_tables.specs.declared.amounts.Phase.{Phase}
pub use Rattle.tb_tables.specs.declared.balance.Balance.{Balance}
pub use Rattle.tb_tables.specs.declared.change.Change.{Change}
pub use Rattle.tb_tables.specs.declared.change.Change.TheVariants.{Failed}
pub use Rattle.tb_tables.specs.declared.indices.Indices.{Indices}
pub use Rattle.tb_tables.specs.declared.row.Row.{Row}
pub use Rattle.tb_tables.specs.declared.status.Status.{Status}
pub use Rattle.tb_tables.specs.declared.status.Status.TheVariants.{Pending, Expired}
pub use Rattle.tb_tables.specs.declared.stored_status.StoredStatus.{StoredStatus}
pub use Rattle.tb_tables.specs.declared.stored_transfer.StoredTransfer.{StoredTransfer}
pub use Rattle.tb_tables.specs.inside.Changing.{status_after, new_row, Step, AreOf, IsBefore, IsAfter, IsStored, is_open_status, CanExpire, expire_one}
pub use Rattle.tb_tables.specs.inside.Expiring.{Expiry, by_moment, pair_of, with_fresh, with_its_pair, IsReady, LosesOnly, ExpiriesFit, is_open_at, is_due_in}
pub use Rattle.tb_tables.specs.inside.Columns.{entries_of, entry_of, status_found, status_of_stored, transfer_under}
pub use Rattle.tb_tables.specs.inside.Hashing.{with_id}
