-- What comes of a driver's action.
use Rattle.std.specs.Prelude.{ℕ}
use Rattle.tb_work.specs.declared.item.Item.{Item}
use Rattle.tb_work.specs.declared.item.Item.TheVariants as item
use Rattle.tb_work.specs.declared.packet.Packet as packets
use Rattle.tb_drive.specs.declared.control_driver.ControlAction.{ControlAction}
use Rattle.tb_drive.specs.declared.control_driver.ControlAction.TheVariants as control
use Rattle.tb_drive.specs.declared.driver.Action.{Action}
use Rattle.tb_drive.specs.declared.driver.Action.TheVariants.{Submit, Receive, End}

-- the claim that holds after an action: one of the packet to be queued, one if there is none, and another at
-- the end
abbrev pub ClaimAfter : Action → (packets.Packet → Type 0) → Type 0 → Type 0 → Type 0
ClaimAfter (Submit packet) asks keeps ends = asks packet
ClaimAfter Receive asks keeps ends = keeps
ClaimAfter End asks keeps ends = keeps × ends

-- the claim that holds after an action of the control: one of the pulse's moment, one if it waits, and one of the item
-- that ends it
abbrev pub ControlClaimAfter : ControlAction → (ℕ → Type 0) → Type 0 → (Item → Type 0) → Type 0
ControlClaimAfter (control.Pulse moment) asks keeps ends = asks moment
ControlClaimAfter control.Wait asks keeps ends = keeps
ControlClaimAfter control.Close asks keeps ends = ends item.Close
ControlClaimAfter control.End asks keeps ends = ends item.End
