-- A ledger as its callers see it.
use Rattle.std.specs.Prelude.{ℕ, Bool, List, drop, length}
use Rattle.std.specs.List.{flat_map}
use Rattle.tb_layout.specs.claim.Events.{Input}
use Rattle.tb_machine.specs.claim.Replay.{State}

-- `groups` are the packets or the pulse of each entry of its journal
pub record LedgerState : Type 0 where
  pub opening : ℕ
  pub groups : List (List Input)
  pub state : State
  pub stopped : Bool

-- all that was ever committed
abbrev pub inputs : LedgerState → List Input
inputs ledger = flat_map (λ group. group) ledger.groups

-- the groups that were added since the ledger was `start`
abbrev pub groups_since : LedgerState → LedgerState → List (List Input)
groups_since start ledger = drop (length start.groups) ledger.groups

-- what was committed since
abbrev pub inputs_since : LedgerState → LedgerState → List Input
inputs_since start ledger = drop (length (inputs start)) (inputs ledger)
