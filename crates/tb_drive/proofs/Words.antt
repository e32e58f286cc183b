-- The words that these proofs speak in.
pub use Rattle.std.proofs.lemmas.Grind.{flat_map-append}
pub use Rattle.std.proofs.lemmas.Iterator.Adapters.{YieldsList-from_vec}
pub use Rattle.std.proofs.lemmas.Iterator.Consumers.{YieldsList-end}
pub use Rattle.std.proofs.lemmas.List.{length-set, length-map, length-take, take_all, map-append, nil_from_length, length-append}
pub use Rattle.std.proofs.lemmas.List.Elements.{All-set, All-append, All-map}
pub use Rattle.std.proofs.lemmas.Option.{slice_get_cases, get_or_from_slice_get, slice_get_within, slice_get_read}
pub use Rattle.std.proofs.lemmas.Result.{IfOk-from_err, IfErr-weaker, on_ok_weaker}
pub use Rattle.std.specs.Prelude.{if◌then◌else◌, min, take, vec_capacity}
pub use Rattle.std.specs.Vec.Iter.{into_iter_items}
pub use Rattle.tb_drive.specs.clauses.Plan.{HasAskedOf, HasEndedOf, HasQueuedOf, is_refused, last_item, pulse_of, pulses_of, refused_of, with_items}
pub use Rattle.tb_drive.specs.clauses.Seen.{HasSeen, HaveSeen, IsPrefixOf, HasSeenEnd, job_in, jobs_in, HasAsked}
pub use Rattle.tb_drive.specs.clauses.Tasks.{AreResultsOf, IsResultOf, SubmitterTaskState, task_origin, task_share, task_submitter, IsEnd}
pub use Rattle.tb_drive.specs.clauses.Threads.{HasQueued, HaveJoined, started_from}
pub use Rattle.tb_submit.specs.clauses.Ends.{SubmitterState, Origin, new_submitter, SenderState, EndedState, end_origin, ended_with, origin_of}
pub use Rattle.tb_work.specs.claim.Packet.{Numbered, ReplyValue}
pub use Rattle.tb_work.specs.declared.item.Item.{Item}
pub use Rattle.tb_work.specs.declared.packet.Packet.{Packet}
pub use Rattle.tb_work.specs.declared.refusal.Refusal.TheVariants.{Full, InFlight, NoMemory, MomentTooLarge}
