-- What the control queues by a plan, and what the plan's driver has had queued.
use Rattle.std.specs.Prelude.{◌≡◌, ◌<◌, ◌+◌, ◌^◌, ℕ, nat_lt, Bool, true, false, List, [], ◌∷◌, ◌++◌, Some, slice_get, take, if◌then◌else◌}
use Rattle.std.specs.List.{count_by, flat_map}
use Rattle.tb_layout.specs.claim.Bounds.{moment_max}
use Rattle.tb_submit.specs.clauses.Ends.{SenderState}
use Rattle.tb_work.specs.declared.item.Item.{Item}
use Rattle.tb_work.specs.declared.item.Item.TheVariants as item
use Rattle.tb_drive.specs.declared.plan.PlanDriver.{PlanDriver}

-- a pulse is refused if its moment is out of range
abbrev pub is_refused : ℕ → Bool
is_refused moment = nat_lt moment_max moment

abbrev pub pulse_of : ℕ → List Item
pulse_of moment = if is_refused moment then [] else item.Pulse moment ∷ []

abbrev pub pulses_of : List ℕ → List Item
pulses_of moments = flat_map pulse_of moments

-- how many of these moments are refused
abbrev pub refused_of : List ℕ → ℕ
refused_of moments = count_by is_refused moments

-- the control's last item
abbrev pub last_item : Bool → Item
last_item true = item.Close
last_item false = item.End

-- all that the control queues by a plan: its pulses that aren't refused, and its end
abbrev pub planned_items : List ℕ → Bool → List Item
planned_items moments shuts = pulses_of moments ++ last_item shuts ∷ []

abbrev pub with_items : SenderState → List Item → SenderState
with_items control items = record control { queued = control.queued ++ items }

-- ---- a plan's driver

-- it has asked for this many of its pulses; those in range are queued, and it has counted the others
abbrev pub HasPulsed : PlanDriver → PlanDriver → ℕ → List Item → Type 0
HasPulsed first driver asked items =
    (driver.moments ≡ first.moments) × (driver.shuts ≡ first.shuts)
    × (items ≡ pulses_of (take asked first.moments.items)) × (driver.refused ≡ refused_of (take asked first.moments.items))

abbrev pub HasQueuedOf : PlanDriver → PlanDriver → List Item → Type 0
HasQueuedOf first driver items = HasPulsed first driver driver.next items

-- the same, before the result of the last pulse is known
abbrev pub HasAskedOf : PlanDriver → PlanDriver → ℕ → List Item → Type 0
HasAskedOf first driver moment items =
    (asked : ℕ) × (driver.next ≡ asked + 1) × (asked + 1 < 2 ^ 64)
    × (slice_get first.moments.items asked ≡ Some moment) × HasPulsed first driver asked items

-- all of its plan is queued except the pulses that were refused, which it has counted
abbrev pub HasEndedOf : PlanDriver → PlanDriver → List Item → Type 0
HasEndedOf first driver items =
    (items ≡ planned_items first.moments.items first.shuts) × (driver.refused ≡ refused_of first.moments.items)
