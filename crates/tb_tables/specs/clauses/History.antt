-- The tables' value: the facts now, and those before each change that can be taken back.
use Rattle.std.specs.Prelude.{◌≡◌, ◌≤◌, ℕ, List, [], ◌∷◌, ◌++◌, length, take, slice_index_or}
use Rattle.tb_tables.specs.claim.Facts.{Facts}

-- `past` has the facts before each change since the last `keep`, the oldest first
pub record History : Type 0 where
  pub now : Facts
  pub past : List Facts

-- one change more
abbrev pub with_change : History → Facts → History
with_change history facts = record { now = facts; past = history.past ++ history.now ∷ [] }

-- the mark: how many changes can be taken back
abbrev pub mark_of : History → ℕ
mark_of history = length history.past

-- back to a mark: the facts there, and what could be taken back there
abbrev pub back_to : ℕ → History → History
back_to mark history = record { now = slice_index_or history.past mark history.now; past = take mark history.past }

-- the changes are kept
abbrev pub without_past : History → History
without_past history = record { now = history.now; past = [] }

-- whatever could be taken back still can, with the same facts
pub record Extends (old new : History) : Type 0 where
  pub more : mark_of old ≤ mark_of new
  pub same : (mark : ℕ) → mark ≤ mark_of old → back_to mark new ≡ back_to mark old
