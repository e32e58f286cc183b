use Rattle.std.proofs.Common.{subst, sym, ◌++◌, List}
use Rattle.tb_figures.proofs.Words.{Input, Parcel, AreCounts, HasPlaces, groups_of, inputs_of, IsTally, Counts}
use Rattle.tb_core.specs.declared.parcel.Parcel.TheVariants.{Pulse}
use Rattle.tb_figures.proofs.CountLemmas.{counts_batch, counts_pulse}
use Rattle.tb_figures.proofs.counts.Counts.with_parcel.Goals as goal

abbrev Counted : Counts → Counts → Parcel → Type 0
Counted old new handed =
    (groups : List (List Input)) → AreCounts groups old → HasPlaces (inputs_of groups) handed
    → AreCounts (groups ++ groups_of handed) new

pub returns-in-Batch : goal.returns-in-Batch
returns-in-Batch c =
    subst (Counted c.args.self.now c.add_batch.new.self) (sym c.in-Batch.is)
    (λ groups are few. counts_batch groups c.in-Batch.batch c.args.self.now c.add_batch.new.self are few
    c.stubs_of.ensures.some
    (subst (λ stubs. IsTally stubs c.args.self.now c.add_batch.new.self) c.stubs_of.ensures.stubs c.add_batch.ensures))

pub returns-in-Pulse : goal.returns-in-Pulse
returns-in-Pulse c =
    subst (Counted c.args.self.now _) (sym c.in-Pulse.is)
    (λ groups are few. subst (λ n. AreCounts (groups ++ groups_of (Pulse c.in-Pulse.field-0))
    (record c.args.self.now { pulses = n })) (sym c.saturating_add.ensures)
    (counts_pulse groups c.in-Pulse.field-0 c.args.self.now are few))
