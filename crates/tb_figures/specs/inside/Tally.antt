-- What the packets of one batch add to counts that stay below 2^64.
use Rattle.std.specs.Prelude.{◌≡◌, ◌<◌, ℕ, ◌+◌, ◌==◌, Bool, List, length, slice_index}
use Rattle.std.specs.List.{count_by, sum_by}
use Rattle.tb_layout.specs.claim.Bounds.{submitters_max}
use Rattle.tb_work.specs.declared.stub.Stub.{Stub}
use Rattle.tb_figures.specs.clauses.Counts.{capped}
use Rattle.tb_figures.specs.declared.counts.Counts.{Counts}

abbrev pub is_of : ℕ → Stub → Bool
is_of submitter stub = stub.submitter == submitter

-- the events and the packets of each submitter that these stubs add
pub record IsSplit (stubs : List Stub) (old new : Counts) : Type 0 where
  pub batches : new.batches ≡ old.batches
  pub pulses : new.pulses ≡ old.pulses
  pub packets : new.packets ≡ old.packets
  pub events : new.events ≡ capped (old.events + sum_by (λ (stub : Stub). stub.count) stubs)
  pub submitters : (k : ℕ) → k < submitters_max
      → slice_index new.submitters k ≡ capped (slice_index old.submitters k + count_by (is_of k) stubs)

-- the same, with the packets themselves and their batch
pub record IsTally (stubs : List Stub) (old new : Counts) : Type 0 where
  pub batches : new.batches ≡ capped (old.batches + 1)
  pub pulses : new.pulses ≡ old.pulses
  pub packets : new.packets ≡ capped (old.packets + length stubs)
  pub events : new.events ≡ capped (old.events + sum_by (λ (stub : Stub). stub.count) stubs)
  pub submitters : (k : ℕ) → k < submitters_max
      → slice_index new.submitters k ≡ capped (slice_index old.submitters k + count_by (is_of k) stubs)
