-- The words that these proofs speak in.
pub use Rattle.std.proofs.lemmas.Bool.{eqb-true, or_parts}
pub use Rattle.std.proofs.lemmas.Grind.{flat_map-append}
pub use Rattle.std.proofs.lemmas.List.{length-map, get_or-set_same, get_or-set_other, append_assoc}
pub use Rattle.std.specs.List.{count_by, sum_by, insert}
pub use Rattle.std.specs.Prelude.{◌==◌, slice_index, nat_lt, ◌||◌, if◌then◌else◌, OnOk}
pub use Rattle.tb_core.specs.declared.parcel.Parcel.{Parcel}
pub use Rattle.tb_figures.specs.clauses.Counts.{AreCounts, AreFull, capped, inputs_of, HasPlaces, groups_of}
pub use Rattle.tb_figures.specs.clauses.Retries.{AreFrom, AreOrdered, IsIndexFor, inserted, RetriesState, waiting_one, AreUpTo}
pub use Rattle.tb_figures.specs.declared.counts.Counts.{Counts}
pub use Rattle.tb_figures.specs.inside.Tally.{IsSplit, IsTally, is_of}
pub use Rattle.tb_layout.specs.claim.Events.{Input, Packet, Pulse}
pub use Rattle.tb_work.specs.claim.Packet.{Numbered, input_of}
