-- The drivers of a script: what they were made to queue, and what they have noted.
use Rattle.std.specs.Prelude.{◌≡◌, ℕ, true, List, [], ◌∷◌, Some, Vec, map, slice_get}
use Rattle.std.specs.Vec.Iter.{into_iter_items}
use Rattle.std.specs.declared.alloc.Global.{Global}
use Rattle.tb_work.specs.claim.Packet.{Numbered, ReplyValue}
use Rattle.tb_work.specs.declared.packet.Packet.{Packet}
use Rattle.tb_program.specs.clauses.Noting.{HasNoted}
use Rattle.tb_program.specs.declared.run.driver.ScriptDriver.{ScriptDriver}
use Rattle.tb_program.specs.declared.run.notes.PacketResult.{PacketResult}

abbrev pub share_of : ScriptDriver → List Packet
share_of driver = driver.share.value.items

abbrev pub results_of : ScriptDriver → List PacketResult
results_of driver = driver.notes.results.items

-- a driver has noted what its submitter queued and read; the packets that it still has are left of its share
abbrev pub HasSeenOf : ScriptDriver → ℕ → List Numbered → List ReplyValue → Type 0
HasSeenOf driver limit queued read =
    HasNoted (share_of driver) (into_iter_items driver.packets) driver.notes limit queued read

-- the same, with one more packet handed in whose result isn't noted yet
abbrev pub HasAskedOf : ScriptDriver → Packet → ℕ → List Numbered → List ReplyValue → Type 0
HasAskedOf driver packet limit queued read =
    HasNoted (share_of driver) (packet ∷ into_iter_items driver.packets) driver.notes limit queued read

-- it has handed in all of its packets
abbrev pub HasEndedOf : ScriptDriver → ℕ → List Numbered → List ReplyValue → Type 0
HasEndedOf driver limit queued read = into_iter_items driver.packets ≡ []

-- a driver noted all that it was to note, and has no packet left
abbrev pub IsDone : ScriptDriver → Type 0
IsDone driver = (driver.notes.complete ≡ true) × (into_iter_items driver.packets ≡ [])

-- drivers that have noted nothing
abbrev pub AreNew : List ScriptDriver → Type 0
AreNew drivers =
    (limit k : ℕ) (driver : ScriptDriver) → slice_get drivers k ≡ Some driver → HasSeenOf driver limit [] []

abbrev pub lists_of : List (Vec Packet Global) → List (List Packet)
lists_of shares = map (λ (share : Vec Packet Global). share.items) shares
