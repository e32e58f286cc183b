-- The words that these proofs speak in.
pub use Rattle.std.proofs.lemmas.Bool.Decides.{nat_tests}
pub use Rattle.std.proofs.lemmas.List.{map-append, get_or-set_same, nil_from_length}
pub use Rattle.std.specs.List.{AllByRecursion}
pub use Rattle.std.specs.Prelude.{slice_get, slice_set, ◌==◌, not, is_some, option_to_list}
pub use Rattle.tb_core.proofs.FrontDecisions.{ahead-first, passes_more, Stays}
pub use Rattle.tb_core.proofs.LedgerSteps.{inputs_in-append, all-push, outcome_past}
pub use Rattle.tb_core.proofs.Since.{inputs-parts, begun, drop-whole}
pub use Rattle.tb_core.proofs.TicketDecisions.{has_taken, part_push}
pub use Rattle.tb_core.specs.claim.AnyLedger.{Applying, IsApplied, IsWithJournal}
pub use Rattle.tb_core.specs.claim.BareLedger.{BareLedgerState, halts, with_journal, HasCommitted, HasSent, new_bare_ledger, places_with}
pub use Rattle.tb_core.specs.claim.Decision.{Admitted, inputs_in, Decision, AreDecisions, decisions_from, decisions_of}
pub use Rattle.tb_core.specs.claim.Due.{all_due, Ahead, Behind, all_due_from, outcome_at, outcome_with, Place, next_place}
pub use Rattle.tb_core.specs.claim.Front.{FrontState, IsFront, all_decisions_in, decisions_in, held_by, take_step, with_group, group_as_batch, take_result}
pub use Rattle.tb_core.specs.claim.Grouping.{AreJoined, AreJoinedParcels}
pub use Rattle.tb_core.specs.claim.Journal.{LedgerState, inputs, inputs_since, groups_since}
pub use Rattle.tb_core.specs.claim.Run.{Commits, EachPartIsLawful, RunIsLawful, replies_in}
pub use Rattle.tb_core.specs.declared.parcel.Parcel.{Parcel}
pub use Rattle.tb_core.specs.declared.parcel.Parcel.TheVariants.{Pulse, Batch, Return, Last}
pub use Rattle.tb_embed.specs.clauses.AnyEngine.{AnyEngineState, AnyServingIsLawful, ContinuesBy, HasSentBy, HasTakenBy, IsOpenedBy, QueuesBy, ServesBy}
pub use Rattle.tb_embed.specs.clauses.Engine.{EngineState, HasPlaces, IsServed, ServingIsLawful, AreAlike, JournalRestores, PlacesAreTrue, QueueDecides, Steps, ended_run, Continues, HasTaken, Serves, Queues, has_stopped, places_of, IsOpened, IsOpenedOver, HasPassed, IsControl, places_in, IsReply, AreReplies, HaveAllCome, RepliesCome}
pub use Rattle.tb_embed.specs.clauses.Queued.{AreQueued, packets_in, packet_ticket, ticket_of, HasEnded, HasQueued, ends_of, ended_queue}
pub use Rattle.tb_layout.specs.claim.Bounds.{places_max, senders_max, submitters_max}
pub use Rattle.tb_layout.specs.claim.Events.{Input}
pub use Rattle.tb_layout.specs.declared.answer.Answer.{Answer}
pub use Rattle.tb_tables.proofs.ChangedBalances.{slice_get-append}
pub use Rattle.tb_work.specs.claim.Ahead.{ahead, items_in, items_from}
pub use Rattle.tb_work.specs.claim.Answer.{reply_with}
pub use Rattle.tb_work.specs.claim.Packet.{ReplyValue, Numbered, input_of}
pub use Rattle.tb_work.specs.claim.Queue.{is_end, IsSubmitted, IsUnended, AreSubmitted, AreNumbered, IsQueueOf}
pub use Rattle.tb_work.specs.declared.item.Item.{Item}
pub use Rattle.tb_work.specs.declared.item.Ticket.{Ticket}
pub use Rattle.tb_work.specs.declared.packet.Packet.{Packet}
