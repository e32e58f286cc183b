-- The words that these proofs speak in.
pub use Rattle.std.proofs.lemmas.List.{map-append, take-append-le, drop-append-le, length-drop, take_all, take_more}
pub use Rattle.std.specs.List.{slice_get, flat_map}
pub use Rattle.std.specs.Prelude.{◌==◌, nat_lt, Result, Ok, Err, IsOk, IsSome, unwrap_or, if◌then◌else◌, ⊤}
pub use Rattle.tb_layout.proofs.Rising.{rise_from_0, rise_at}
pub use Rattle.tb_layout.specs.claim.Account.{account_of, is_linked as is_linked_account}
pub use Rattle.tb_layout.specs.claim.BytesOfNumbers.{bytes_of}
pub use Rattle.tb_layout.specs.claim.Events.{Events, Accounts, Transfers, Ids, accounts_of, transfers_of, ids_of, events_of, is_last_linked, chunks as chunks_of, chunks}
pub use Rattle.tb_layout.specs.claim.Transfer.{transfer_of, is_linked as is_linked_transfer}
pub use Rattle.tb_layout.specs.clauses.Records.{account_bytes, transfer_bytes}
pub use Rattle.tb_work.specs.claim.Admission.{admission_of_size, count_of_size, count_of}
pub use Rattle.tb_work.specs.claim.Job.{is_chunk_linked, is_open}
