-- What the functions that commit a packet's chains require and ensure.
use Rattle.std.specs.Prelude.{◌≡◌, ◌≤◌, ◌<◌, ◌+◌, ◌^◌, ◌++◌, ℕ, Vec, vec_len, vec_capacity}
use Rattle.std.specs.declared.alloc.Global.{Global}
use Rattle.tb_layout.specs.claim.Limits.{clock_max}
use Rattle.tb_layout.specs.declared.failure.Failure.{Failure}
use Rattle.tb_tables.specs.clauses.History.{History, Extends}
use Rattle.tb_machine.specs.claim.Chain.{Results, failures_from}

-- some events may be committed: the list has capacity for their failures, and their indices fit 32 bits
pub record MayCommit (clock index count : ℕ) (out : Vec Failure Global) : Type 0 where
  pub in_range : clock ≤ clock_max
  pub room : vec_len out + count ≤ vec_capacity out
  pub fits : index + count < 2 ^ 32

-- also if memory runs out, each change can be undone and the list keeps its capacity
pub record Continues (old new : History) (before after : Vec Failure Global) : Type 0 where
  pub extends : Extends old new
  pub capacity : vec_capacity after ≡ vec_capacity before

-- the tables have the facts of these results, and the list has their failures too, with indices from this one on
pub record HasCommitted (index : ℕ) (made : Results) (tables : History) (before after : Vec Failure Global) : Type 0 where
  pub facts : tables.now ≡ made.facts
  pub failures : after.items ≡ before.items ++ failures_from index made.results
