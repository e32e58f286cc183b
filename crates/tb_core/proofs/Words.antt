-- The words that these proofs speak in.
pub use Rattle.std.proofs.Math.Seq.{take-append_seam, drop-append_seam}
pub use Rattle.std.proofs.lemmas.Bool.{ne_eqb, and_parts, both_ways, eqb-true, eq-eqb, cases_order, le-leb, lt-leb, and_from, cond_both, or_parts, or_from, or_right, eqb-false}
pub use Rattle.std.proofs.lemmas.Grind.{fold-append, flat_map-append, common_steps}
pub use Rattle.std.proofs.lemmas.List.{length-map, map-append, take-append-le, drop-append-le, length-drop, take-append-drop, drop_all, nil_from_length, get_or-set_same, get_or-set_other}
pub use Rattle.std.proofs.lemmas.List.Elements.{filter-append}
pub use Rattle.std.proofs.lemmas.List.Folds.{list_any-append}
pub use Rattle.std.proofs.lemmas.Result.{on_ok_weaker}
pub use Rattle.std.specs.List.{filter_map, cons_option, AllByRecursion, flat_map, list_all, list_any}
pub use Rattle.std.specs.Prelude.{slice_get, ◌==◌, ◌||◌, fold, unwrap_or, map, replicate, is_some, IfSome, ◌≢◌, filter, if◌then◌else◌, ◌≡◌, ℕ, List, ◌++◌, nat_lt, Result, Ok, Err, is_err, OnOk, ◌+◌, [], ◌∷◌, slice_set, option_to_list}
pub use Rattle.tb_batch.proofs.Admitted.{Kind, OfAccounts, OfTransfers, OfIds, first_is, kind_of_batch, body_size, length-chunks, whole_events}
pub use Rattle.tb_batch.specs.claim.Batch.{body_of, are_of, all_share, IsLawful, AreAdmitted}
pub use Rattle.tb_batch.specs.claim.Grouping.{can_share, IsJoined, IsGroup, is_taken}
pub use Rattle.tb_batch.specs.declared.parts.Parts.{Parts}
pub use Rattle.tb_core.specs.claim.AnyLedger.{Applying, IsApplied, IsWithJournal}
pub use Rattle.tb_core.specs.claim.BareLedger.{BareLedgerState, with_journal, groups_in, HasSent, Adds, HasCommitted, halts, IsBatch}
pub use Rattle.tb_core.specs.claim.Decision.{Decision, Admitted, Pulsed, Returned, decisions_of_item, is_behind, place_after, decisions_at, decisions_from, decisions_of, IsPacket, AreDecisions, cause_outcome, inputs_in, replies_from}
pub use Rattle.tb_core.specs.claim.Due.{due, Place, Ahead, Behind, next_place, outcome_at, outcome_with, all_due_from, replies_to, reply_due, all_due}
pub use Rattle.tb_core.specs.claim.EachSubmitter.{moments_in, is_packet_of, packets_of, moments_queued, CommittedOfEachSubmitter, PulsesAreTheControls, CommittedAreAnswered}
pub use Rattle.tb_core.specs.claim.EndedRun.{Run, committed_in, ahead_in, IsPrefix, is_stopped, any_stopped}
pub use Rattle.tb_core.specs.claim.Front.{FrontState, all_decisions_in, held_by, decisions_in, Taken, IsFront, take_result, with_group, group_as_batch, with_end, all_ended, ends_after, KnowsEnds, take_step, step_of_packet, step_of_pulse}
pub use Rattle.tb_core.specs.claim.Grouping.{AreJoinedParcels, AreJoined, IsJoinedParcel, AreWithin}
pub use Rattle.tb_core.specs.claim.Headline.{Headline, IsTrueOf, packets_queued}
pub use Rattle.tb_core.specs.claim.Journal.{inputs, LedgerState, groups_since, inputs_since}
pub use Rattle.tb_core.specs.claim.Ledger.{count_of_stubs, IsBatchEntry, size_of, batch_packets, Applied, apply_result, must_stop, apply_step, with_entry, with_stop, step_of_batch, new_ledger, group_of}
pub use Rattle.tb_core.specs.claim.Run.{HasNotStopped, IsRunning, IsDrained, Commits, HasPackets, replies_in, IsListed, Ran, RunIsLawful}
pub use Rattle.tb_core.specs.declared.parcel.Parcel.{Parcel}
pub use Rattle.tb_core.specs.inside.BatchAnswer.{AreAnswered, answer_in}
pub use Rattle.tb_demux.specs.clauses.Cutting.{cut_replies_from, cut_replies, IsOutcomeOfAll}
pub use Rattle.tb_layout.specs.claim.Events.{Input, Packet, Pulse, Accounts, Transfers, Ids, events_of, chunks, ids_of, Events, is_last_linked}
pub use Rattle.tb_layout.specs.claim.Failures.{RiseWithin}
pub use Rattle.tb_layout.specs.claim.Limits.{clock_max}
pub use Rattle.tb_layout.specs.declared.answer.Answer.TheVariants.{Accounts as Looked_up, Failures}
pub use Rattle.tb_machine.specs.claim.Replay.{replay, State, accounts_found, answer_of, after_packet, failures_of, opening, after_input}
pub use Rattle.tb_machine.specs.clauses.Joining.{JoiningIsInvisible, events_in_turn, none_open, cuts, failures_each}
pub use Rattle.tb_work.specs.claim.Admission.{event_size, count_of, count_of_size}
pub use Rattle.tb_work.specs.claim.Ahead.{items_in, items_from, ahead}
pub use Rattle.tb_work.specs.claim.Answer.{reply_with}
pub use Rattle.tb_work.specs.claim.Job.{count_of_all, is_lookup, stub_of, numbered_packet}
pub use Rattle.tb_work.specs.claim.Packet.{Numbered, ReplyValue, input_of, events_in}
pub use Rattle.tb_work.specs.claim.Queue.{AreNumbered, IsEnded, AreSubmitted, IsSubmitted, IsQueueOf, is_end}
pub use Rattle.tb_work.specs.declared.item.Item.{Item}
pub use Rattle.tb_work.specs.declared.item.Ticket.{Ticket}
pub use Rattle.tb_work.specs.declared.outcome.Outcome.{Outcome}
pub use Rattle.tb_work.specs.declared.outcome.Outcome.TheVariants.{Committed, Shutdown, Stopped}
