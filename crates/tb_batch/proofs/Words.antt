-- The words that these proofs speak in.
pub use Rattle.std.proofs.lemmas.Bool.{and_parts, eqb-true, and_from}
pub use Rattle.std.proofs.lemmas.List.{length-map, map-append}
pub use Rattle.std.specs.Prelude.{IsOk, unwrap_or, Result, Ok, Err, OnOk, OnErr, Vec, vec_capacity}
pub use Rattle.tb_batch.specs.claim.Batch.{body_of, are_of, all_share, AreAdmitted, IsLawful, HasRoom, IsGroupOf, AreParts}
pub use Rattle.tb_batch.specs.claim.Grouping.{operation_of, can_share, shares_with, events_together, joins, is_taken, join_in_turn, IsGroup}
pub use Rattle.tb_batch.specs.clauses.BatcherState.{BatcherState, IsBatcherState, jobs_of}
pub use Rattle.tb_layout.specs.claim.Events.{chunks, events_of, Input}
pub use Rattle.tb_work.specs.claim.Admission.{admission_of, admission_of_size, count_of, count_of_size, event_size, looks_up}
pub use Rattle.tb_work.specs.claim.Job.{count_of_all, stub_of}
pub use Rattle.tb_work.specs.claim.Packet.{Numbered, events_in, input_of}
