-- The words that these proofs speak in.
pub use Rattle.std.proofs.lemmas.Bool.{eq-eqb, ne_eqb, cases_eq}
pub use Rattle.std.proofs.lemmas.Bool.Decides.{nat_tests}
pub use Rattle.std.proofs.lemmas.List.{map-append, get_or-set_same}
pub use Rattle.std.proofs.lemmas.List.Elements.{filter-append, All-push, All-nil, All-from_get_or}
pub use Rattle.std.specs.List.{list_any, AllByRecursion}
pub use Rattle.std.specs.Prelude.{◌==◌, ◌||◌, ◌&&◌, not, filter, if◌then◌else◌, IsOk}
pub use Rattle.tb_rings.specs.clauses.Ends.{outlet_ring, given, slots, taken}
pub use Rattle.tb_rings.specs.declared.Outlet.{Outlet}
pub use Rattle.tb_submit.specs.clauses.Ends.{EndedState, IntakeState, Seat, SenderState, control_seat, queued_by, seat_at, Origin, SubmitterState, end_origin, new_submitter, origin_of, origins_from, new_intake, origins, replies_of}
pub use Rattle.tb_submit.specs.clauses.Lists.{AreAheadOfClose, AreWithin, BeginsWith, IsCompleteQueue, IsWithin, ArePackets, ArePulses}
pub use Rattle.tb_submit.specs.clauses.Refusals.{or_else, refusal_of, first_refusal_in, IsRefusal, in_flight, refusal_in, submit_refusal}
pub use Rattle.tb_submit.specs.clauses.Rule.{IsWhole, TellsMark, entry, TellsOwn, first_pushed, first_entry_with, with_pushed, view_learning, opening, empty_view, witness, next_of, view_counting_on, newcomer, view_seen_empty, both_views, HasPushed, with_taken, taken_more, one_number_more, empty_more, Stands, FitsEntry, FitsMark, AllBegin, Fits, InView, QueueInvariant, Tells}
pub use Rattle.tb_submit.specs.clauses.State.{AreUnended, entry_of, IsSenderView, ReaderState, IsSubmitter, view_of}
pub use Rattle.tb_submit.specs.declared.rule.PassEntry.{PassEntry}
pub use Rattle.tb_submit.specs.declared.rule.View.{View}
pub use Rattle.tb_work.specs.claim.Admission.{admission_of}
pub use Rattle.tb_work.specs.claim.Ahead.{items_from}
pub use Rattle.tb_work.specs.claim.Packet.{ReplyValue, Numbered}
pub use Rattle.tb_work.specs.claim.Queue.{is_end, IsUnended, IsEnded, IsSubmitted, IsQueueOf, AreNumbered}
pub use Rattle.tb_work.specs.declared.item.Item.{Item}
pub use Rattle.tb_work.specs.declared.item.Item.TheVariants.{Close, Packet, Pulse, End}
pub use Rattle.tb_work.specs.declared.item.Ticket.{Ticket}
pub use Rattle.tb_work.specs.declared.refusal.Refusal.{Refusal}
