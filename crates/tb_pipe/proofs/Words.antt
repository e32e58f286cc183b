-- The words that these proofs speak in.
pub use Rattle.std.proofs.lemmas.Grind.{flat_map-append, common_steps}
pub use Rattle.std.proofs.lemmas.List.{map-append, length-map}
pub use Rattle.std.proofs.lemmas.List.Elements.{All-get_or, Contains-append_left, Contains-push}
pub use Rattle.std.proofs.lemmas.Option.{slice_get_within, slice_get-get_or, get_or_from_slice_get}
pub use Rattle.std.proofs.lemmas.Result.{IfOk-weaker, IfOk-from_err}
pub use Rattle.std.specs.Prelude.{◌||◌, ◌==◌, IsOk, Some, None, if◌then◌else◌, All, is_some, Contains}
pub use Rattle.tb_batch.specs.claim.Grouping.{is_taken, IsGroup}
pub use Rattle.tb_core.specs.claim.Decision.{Decision, Admitted, AreDecisions, decisions_from, inputs_in}
pub use Rattle.tb_core.specs.claim.Due.{replies_to, Ahead, Behind}
pub use Rattle.tb_core.specs.claim.EndedRun.{IsPrefix}
pub use Rattle.tb_core.specs.claim.Front.{FrontState, Taken, take_result, with_group, group_as_batch, with_end, all_ended, take_step, all_decisions_in, decisions_in, held_by, KnowsEnds, HaveAllEnded}
pub use Rattle.tb_core.specs.claim.Grouping.{AreJoinedParcels, IsJoinedParcel, AreJoined, IsGrouping, IsWithin as IsInputWithin, AreWithin as AreInputsWithin}
pub use Rattle.tb_core.specs.claim.Journal.{LedgerState, groups_since, inputs_since}
pub use Rattle.tb_core.specs.claim.Run.{Commits, replies_in, Ran}
pub use Rattle.tb_core.specs.declared.outcomes.Outcomes.{Outcomes}
pub use Rattle.tb_core.specs.declared.parcel.Parcel.{Parcel}
pub use Rattle.tb_drive.specs.clauses.Seen.{HaveSeenEnds, jobs_in}
pub use Rattle.tb_drive.specs.clauses.Tasks.{task_origin, task_submitter}
pub use Rattle.tb_pipe.specs.claim.SettledRun.{run_of}
pub use Rattle.tb_pipe.specs.clauses.Carried.{is_last, has_last, WasEmptyAfter, AreSealedLate, MaySeal, IsBatched, AllBatched, is_batch, next_number, number_after, AreLetThrough, AreCleared, is_final, has_final, answers_in, given_on, IsCommitted, CommittedTo, AllCommitted, goes_on, BeginsNext}
pub use Rattle.tb_pipe.specs.clauses.Outlets.{AllGiven, SameOutlets, AllLeft}
pub use Rattle.tb_pipe.specs.clauses.Reported.{IsReport}
pub use Rattle.tb_pipe.specs.clauses.Run.{IsPipeline, IsServed, pipeline_of, served_of, PipelineState, ServedState}
pub use Rattle.tb_pipe.specs.declared.stages.StoppedStages.{StoppedStages}
pub use Rattle.tb_rings.specs.clauses.Ends.{given as given_to, outlet_ring, given, SameOutlet, taken, SameInlet, lies}
pub use Rattle.tb_rings.specs.declared.Outlet.{Outlet}
pub use Rattle.tb_submit.specs.clauses.Ends.{IntakeState, with_empty, with_taken, EndedState, Origin, SenderState, end_origin, queued_by, Seat, origins, origins_from, seat_at, origin_of, SubmitterState}
pub use Rattle.tb_work.specs.claim.Ahead.{items_in, ahead}
pub use Rattle.tb_work.specs.claim.Packet.{Numbered, events_in, ReplyValue, input_of}
pub use Rattle.tb_work.specs.declared.item.Item.{Item}
pub use Rattle.tb_work.specs.declared.item.Ticket.{Ticket}
