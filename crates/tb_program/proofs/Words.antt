-- The words that these proofs speak in.
pub use Rattle.std.proofs.lemmas.Grind.{flat_map-append, common_steps}
pub use Rattle.std.proofs.lemmas.List.{append-nil, length-append, length-map, map-append, drop_more, take_more, flat_map_more}
pub use Rattle.std.proofs.lemmas.Option.{slice_get_within, get_or_from_slice_get}
pub use Rattle.std.specs.List.{flat_map, slice_get}
pub use Rattle.std.specs.Prelude.{◌==◌, drop, if◌then◌else◌, Result, Ok, Err, IsOk, ℕ, Vec}
pub use Rattle.std.specs.Vec.Iter.{drain_items, into_iter_items}
pub use Rattle.std.specs.declared.alloc.Global.{Global}
pub use Rattle.tb_core.specs.claim.Decision.{place_after}
pub use Rattle.tb_core.specs.claim.Due.{outcome_at, reply_due, all_due_from, replies_to, Place, Ahead, next_place, Behind}
pub use Rattle.tb_core.specs.claim.EachSubmitter.{moments_in, moments_queued}
pub use Rattle.tb_core.specs.claim.EndedRun.{Run, committed_in, IsPrefix}
pub use Rattle.tb_core.specs.claim.Grouping.{IsGrouping}
pub use Rattle.tb_core.specs.claim.Journal.{LedgerState, inputs, inputs_since, groups_since}
pub use Rattle.tb_core.specs.claim.Ledger.{group_of, batch_packets, size_of, new_ledger}
pub use Rattle.tb_core.specs.declared.journal.Entry.{Entry}
pub use Rattle.tb_drive.specs.clauses.Plan.{planned_items, refused_of}
pub use Rattle.tb_drive.specs.clauses.Refusing.{IsFinalRefusal, final_refusal}
pub use Rattle.tb_drive.specs.clauses.Seen.{jobs_in}
pub use Rattle.tb_layout.specs.claim.Bounds.{batch_max, capacity_max, submitters_max}
pub use Rattle.tb_layout.specs.claim.Events.{Input, Pulse}
pub use Rattle.tb_machine.specs.claim.Replay.{State}
pub use Rattle.tb_machine.specs.clauses.Accounts.{balanced_accounts}
pub use Rattle.tb_program.specs.clauses.Listing.{state_text, lines_text}
pub use Rattle.tb_program.specs.clauses.Noting.{IsHandedIn, AreResultsOfPackets, IsResultOfPacket, kept, packets_in, AreFresh, HaveCredit, IsRefusedFor}
pub use Rattle.tb_program.specs.clauses.Operations.{operation_in, operations_of}
pub use Rattle.tb_program.specs.clauses.Plan.{PlanState, with_planned, number_in, with_packet, with_item, plan_of}
pub use Rattle.tb_program.specs.clauses.RunText.{AreHandedIn, lines_of_packets, pulses_text, refused_pulses_text, run_text}
pub use Rattle.tb_program.specs.clauses.Sharing.{AreDealt, packet_by, packets_by, shares_of, moments_asked, shuts_in}
pub use Rattle.tb_program.specs.declared.run.driver.ScriptDriver.{ScriptDriver}
pub use Rattle.tb_program.specs.declared.run.notes.PacketResult.{PacketResult}
pub use Rattle.tb_program.specs.inside.Answering.{AreAllAnswered, AreAllDone, queued_among, IsAnswered}
pub use Rattle.tb_program.specs.inside.Drivers.{HasEndedOf, HasSeenOf, share_of, results_of, AreNew, IsDone, lists_of}
pub use Rattle.tb_program_text.specs.clauses.Output.{pulse_line, account_line}
pub use Rattle.tb_program_text.specs.clauses.Script.{limit_of, capacity_of, credit_of, submitters_of, clock_of, items_of}
pub use Rattle.tb_submit.specs.clauses.Ends.{EndedState, replies_of, Origin, SubmitterState, new_submitter}
pub use Rattle.tb_submit.specs.clauses.Refusals.{IsRefusal, TakesMemory, or_else, refusal_in, refusal_of, first_refusal_in}
pub use Rattle.tb_work.specs.claim.Ahead.{items_in, items_from}
pub use Rattle.tb_work.specs.claim.Job.{numbered_packet}
pub use Rattle.tb_work.specs.claim.Packet.{Numbered, ReplyValue}
pub use Rattle.tb_work.specs.declared.item.Item.{Item}
pub use Rattle.tb_work.specs.declared.packet.Packet.{Packet}
pub use Rattle.tb_work.specs.declared.refusal.Refusal.{Refusal as Cause, Refusal}
