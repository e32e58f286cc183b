-- What each thread of a script's run is to queue.
use Rattle.std.specs.Prelude.{◌≡◌, ℕ, zero, suc, ◌==◌, Bool, true, false, List, [], ◌∷◌, Vec, if◌then◌else◌, ⊤}
use Rattle.std.specs.List.{flat_map, list_any}
use Rattle.std.specs.declared.alloc.Global.{Global}
use Rattle.tb_work.specs.declared.packet.Packet as packets
use Rattle.tb_program_text.specs.declared.item.ScriptItem.{ScriptItem}
use Rattle.tb_program_text.specs.declared.item.ScriptItem.TheVariants.{Packet, Pulse, Shut}

abbrev pub packet_by : ℕ → ScriptItem → List packets.Packet
packet_by submitter (Packet owner packet) = if owner == submitter then packet ∷ [] else []
packet_by submitter other = []

-- the packets of a submitter, in the order of the script
abbrev pub packets_by : ℕ → List ScriptItem → List packets.Packet
packets_by submitter items = flat_map (packet_by submitter) items

abbrev pub moment_in : ScriptItem → List ℕ
moment_in (Pulse moment) = moment ∷ []
moment_in other = []

abbrev pub moments_asked : List ScriptItem → List ℕ
moments_asked items = flat_map moment_in items

abbrev pub is_shut : ScriptItem → Bool
is_shut Shut = true
is_shut other = false

abbrev pub shuts_in : List ScriptItem → Bool
shuts_in items = list_any is_shut items

-- the packets of `count` submitters, from a number on
abbrev pub shares_of : ℕ → ℕ → List ScriptItem → List (List packets.Packet)
shares_of submitter zero items = []
shares_of submitter (suc count) items = packets_by submitter items ∷ shares_of (suc submitter) count items

-- the submitters from a number on have their packets
abbrev pub AreDealt : ℕ → List (Vec packets.Packet Global) → List ScriptItem → Type 0
AreDealt submitter [] items = ⊤
AreDealt submitter (packets ∷ others) items =
    (packets.items ≡ packets_by submitter items) × AreDealt (suc submitter) others items
