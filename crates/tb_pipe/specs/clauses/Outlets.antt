-- The reply rings, one for each submitter, by rising number.
use Rattle.std.specs.Prelude.{◌≡◌, ℕ, ◌<◌, true, List, ◌++◌, length, slice_index_or}
use Rattle.tb_core.specs.claim.Due.{replies_to}
use Rattle.tb_core.specs.declared.outcomes.Outcomes.{Outcomes}
use Rattle.tb_rings.specs.clauses.Ends.{given, SameOutlet}
use Rattle.tb_rings.specs.declared.Outlet.{Outlet}
use Rattle.tb_work.specs.claim.Packet.{ReplyValue}
use Rattle.tb_pipe.specs.clauses.Carried.{answers_in, has_final}

-- the same rings in the same order
abbrev pub SameOutlets : List (Outlet ReplyValue) → List (Outlet ReplyValue) → Type 0
SameOutlets old new =
    (length new ≡ length old) × ((k : ℕ) (d : Outlet ReplyValue) → k < length old
    → SameOutlet (slice_index_or old k d) (slice_index_or new k d))

-- each ring was given the replies to its submitter
abbrev pub AllGiven : List ReplyValue → List (Outlet ReplyValue) → Type 0
AllGiven answers outlets =
    (k : ℕ) (d : Outlet ReplyValue) → k < length outlets → given (slice_index_or outlets k d) ≡ replies_to answers k

-- each ring was also given those of these replies that are its submitter's
abbrev pub AllMore : List ReplyValue → List (Outlet ReplyValue) → List (Outlet ReplyValue) → Type 0
AllMore answers old new =
    (k : ℕ) (d : Outlet ReplyValue) → k < length old
    → given (slice_index_or new k d) ≡ given (slice_index_or old k d) ++ replies_to answers k

-- each ring will also have been given those of its submitter once the remaining replies are given too
abbrev pub AllLeft : List ReplyValue → List (Outlet ReplyValue) → List ReplyValue → List (Outlet ReplyValue) → Type 0
AllLeft answers old left new =
    (k : ℕ) (d : Outlet ReplyValue) → k < length old
    → given (slice_index_or new k d) ++ replies_to left k ≡ given (slice_index_or old k d) ++ replies_to answers k

-- all outcomes that were taken, the last one among them, were passed on
pub record AllRouted (taken : List Outcomes) (outlets : List (Outlet ReplyValue)) : Type 0 where
  pub made : AllGiven (answers_in taken) outlets
  pub ended : has_final taken ≡ true
