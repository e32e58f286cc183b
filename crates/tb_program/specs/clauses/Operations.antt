-- The operations of the packets that are printed, which give the codes of a text their names.
use Rattle.std.specs.Prelude.{ℕ, List, [], Result, Ok, Err, map}
use Rattle.std.specs.List.{flat_map}
use Rattle.tb_work.specs.declared.packet.Packet as packets
use Rattle.tb_program_text.specs.declared.item.ScriptItem.{ScriptItem}
use Rattle.tb_program_text.specs.declared.item.ScriptItem.TheVariants.{Packet, Pulse, Shut}
use Rattle.tb_program_text.specs.clauses.Script.{ParsedScript, items_of, submitters_of}
use Rattle.tb_program.specs.clauses.Sharing.{shares_of}

-- that of an item's line: 0 unless the item is a packet
abbrev pub operation_in : ScriptItem → ℕ
operation_in (Packet submitter packet) = packet.operation
operation_in (Pulse moment) = 0
operation_in Shut = 0

abbrev pub operations_of : List packets.Packet → List ℕ
operations_of share = map (λ (packet : packets.Packet). packet.operation) share

-- `list` prints the items in the order of the script
abbrev pub operations_listed : ParsedScript → List ℕ
operations_listed parsed = map operation_in (items_of parsed)

-- `run` prints the packets of each submitter in turn
abbrev pub operations_run : ParsedScript → List ℕ
operations_run parsed = flat_map operations_of (shares_of 0 (submitters_of parsed.settings) (items_of parsed))

-- a faulty script has none
abbrev pub operations_if_faultless : (ParsedScript → List ℕ) → Result ParsedScript (List ℕ) → List ℕ
operations_if_faultless operations (Ok parsed) = operations parsed
operations_if_faultless operations (Err line) = []
