-- The words that these proofs speak in.
pub use Rattle.std.proofs.lemmas.Bool.{cond_both, cases_eq, eq-eqb, ne_eqb, and_parts, eqb-true, leb-true, ltb-true, not-true, le-ltb, or_parts, cases_lt, cond_both}
pub use Rattle.std.proofs.lemmas.Grind.{flat_map-append, common_steps}
pub use Rattle.std.proofs.lemmas.List.{get_or-set_same, map-append, get_or-replicate, length-replicate, length-map, set_past, get_or_past, nil_from_length}
pub use Rattle.std.proofs.lemmas.List.Elements.{filter-append, All-tail, All-push}
pub use Rattle.std.proofs.lemmas.List.Folds.{list_all-append, list_any-append}
pub use Rattle.std.proofs.lemmas.List.Sums.{sum_by-cons, get_or-le-sum_by, sum_by-append, sum_by-set}
pub use Rattle.std.specs.List.{AllByRecursion, list_all, list_any}
pub use Rattle.std.specs.Prelude.{if◌then◌else◌, flat_map, nat_lt, IfSome, Result, Ok, Err, OnErr, is_some}
pub use Rattle.tb_core.proofs.FrontDecisions.{ahead-first}
pub use Rattle.tb_core.proofs.HeadlineLemmas.{is-prefix-trans, prefix-filter, one-each}
pub use Rattle.tb_core.proofs.LedgerSteps.{HasJobs, all-push, commits_more, inputs_in-append, inputs_in-admitted}
pub use Rattle.tb_core.proofs.Runs.{so_far, none_of_first, none_among, SoFar, run_is_lawful}
pub use Rattle.tb_core.proofs.TicketDecisions.{IsClear, IsStep, is_step, passes_then, goes_on, part_push}
pub use Rattle.tb_core.specs.claim.Decision.{Decision, Admitted, AreDecisions, inputs_in, replies_from}
pub use Rattle.tb_core.specs.claim.Due.{replies_to, outcome_at, reply_due, all_due_from, all_due, Place, Ahead, next_place}
pub use Rattle.tb_core.specs.claim.EndedRun.{IsPrefix}
pub use Rattle.tb_core.specs.claim.Front.{FrontState, take_step, with_group, all_ended, all_decisions_in, decisions_in, held_by, HaveAllEnded, group_as_batch, Taken, take_result, with_end, step_of_packet, step_of_pulse, IsFront}
pub use Rattle.tb_core.specs.claim.Journal.{LedgerState, inputs, inputs_since}
pub use Rattle.tb_core.specs.claim.Ledger.{apply_step, Applied, must_stop, apply_result, with_stop, with_entry, step_of_batch, new_ledger}
pub use Rattle.tb_core.specs.claim.Run.{Commits, replies_in, Ran}
pub use Rattle.tb_core.specs.claim.TwoRuns.{FollowsOn}
pub use Rattle.tb_core.specs.declared.outcomes.Outcomes.{Outcomes}
pub use Rattle.tb_core.specs.declared.parcel.Parcel.{Parcel}
pub use Rattle.tb_layout.specs.claim.Events.{Input}
pub use Rattle.tb_work.specs.claim.Ahead.{items_in, items_from, ahead}
pub use Rattle.tb_work.specs.claim.Packet.{Numbered, ReplyValue, input_of}
pub use Rattle.tb_work.specs.claim.Queue.{is_end, IsUnended, IsEnded, IsSubmitted, AreSubmitted, AreNumbered, IsQueueOf}
pub use Rattle.tb_work.specs.declared.item.Item.{Item}
pub use Rattle.tb_work.specs.declared.item.Ticket.{Ticket}
pub use Rattle.tb_world.specs.clauses.EveryOrder.{run_of, pushed_at, history, is_refused, HasPlaces, IsAtRest, IsLawfulSoFar, NoneStopped, IsLawfulAtRest, HasRun, RunsGoOn, WorldsFollow, is_push}
pub use Rattle.tb_world.specs.clauses.Mailbox.{empty_mailbox, Mailbox, mailbox_at, with_reply, mailboxes_with, after_pop_of}
pub use Rattle.tb_world.specs.clauses.Progress.{unread, in_flight, has_credit, uses_credit, UseCredit, has_reply_slot, CreditLeavesRoom, left, left_of_last, MayMove, HasFinished, RunsOut, HasRested, IsRound, all_of, has_room, run_within, LeftIsBounded, EachStepCounts, FairRunsAreAnswered, left_of_parcel, left_of_pushed, left_of_outcome, left_of_outcomes, moved_within, is_same_step, is_step_of, readers, one_round, OneRoundIsARound, FairListsRest, owed, left_of_batcher}
pub use Rattle.tb_world.specs.clauses.Pushing.{may_push, may_push_item, newcomer, sender_after}
pub use Rattle.tb_world.specs.clauses.World.{WorldState, sender_at, is_lawful, pop, batch_push, pending_of, batch_pop, outcome_push, outcome_pop, reply_push, reply_pop, senders_after, after_event, run, world_over, received_of, moved, takes_memory, new_world, IsWorld}
pub use Rattle.tb_world.specs.declared.event.Event.{Event}
pub use Rattle.tb_world.specs.declared.event.Event.TheVariants.{Push, Pop, BatchPush, BatchPop, OutcomePush, OutcomePop, ReplyPush, ReplyPop}
pub use Rattle.tb_world.specs.declared.sender.WorldSender.{WorldSender}
