-- A batcher's value: its limit, and the group that it holds.
use Rattle.std.specs.Prelude.{◌≤◌, ℕ, List, [], Option, Some, None}
use Rattle.tb_layout.specs.claim.Bounds.{batch_max}
use Rattle.tb_work.specs.claim.Packet.{Numbered}
use Rattle.tb_batch.specs.claim.Grouping.{IsGroup}

pub record BatcherState : Type 0 where
  pub limit : ℕ
  pub jobs : List Numbered

abbrev pub jobs_of : Option (List Numbered) → List Numbered
jobs_of None = []
jobs_of (Some jobs) = jobs

pub record IsBatcherState (limit : ℕ) (jobs : List Numbered) : Type 0 where
  pub limit_low : 1 ≤ limit
  pub limit_high : limit ≤ batch_max
  pub group : IsGroup limit jobs
