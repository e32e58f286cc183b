-- When pending transfers expire.
use Rattle.std.specs.Prelude.{ℕ, Bool, ◌&&◌, ◌||◌, ◌==◌, List}
use Rattle.std.specs.List.{list_any}
use Rattle.std.specs.declared.cmp.Reverse.{Reverse}

-- the pairs of a moment and an index: those of transfers that are kept, and those of transfers that can still be taken back
pub record ExpiriesState : Type 0 where
  pub kept : List (Reverse (ℕ × ℕ))
  pub fresh : List (Reverse (ℕ × ℕ))

-- whether two pairs are the same
abbrev pub same_pair : ℕ → ℕ → ℕ → ℕ → Bool
same_pair moment index other_moment other_index = (moment == other_moment) && (index == other_index)

-- whether a pair is among others
abbrev pub has_pair : List (Reverse (ℕ × ℕ)) → ℕ → ℕ → Bool
has_pair pairs moment index = list_any (λ pair. same_pair pair.0.0 pair.0.1 moment index) pairs

abbrev pub is_in_expiries : ExpiriesState → ℕ → ℕ → Bool
is_in_expiries expiries moment index = has_pair expiries.kept moment index || has_pair expiries.fresh moment index
