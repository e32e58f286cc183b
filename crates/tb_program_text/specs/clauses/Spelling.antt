-- A script spelled from settings and items, and the lines of events spelled from their fields.
use Rattle.std.specs.Prelude.{◌≡◌, ℕ, ◌<◌, ◌≤◌, ◌^◌, Bool, true, false, List, [], ◌∷◌, ◌++◌, map, All, Option, Some, None, codes, decimal, IfSome}
use Rattle.std.specs.List.{flat_map}
use Rattle.hex.specs.Hex.{encode_lower}
use Rattle.tb_layout.specs.claim.Bounds.{batch_max, capacity_max, submitters_max}
use Rattle.tb_layout.specs.claim.Limits.{clock_max}
use Rattle.tb_layout.specs.declared.account.Account.{Account}
use Rattle.tb_layout.specs.declared.transfer.Transfer.{Transfer}
use Rattle.tb_work.specs.declared.packet.Packet as packets
use Rattle.tb_program_text.specs.declared.item.Settings.{Settings}
use Rattle.tb_program_text.specs.declared.item.ScriptItem.{ScriptItem}
use Rattle.tb_program_text.specs.declared.item.ScriptItem.TheVariants.{Packet, Pulse, Shut}

-- words with a space between them
abbrev pub line_of_words : List (List ℕ) → List ℕ
line_of_words [] = []
line_of_words (word ∷ []) = word
line_of_words (word ∷ next ∷ words) = word ++ 32 ∷ line_of_words (next ∷ words)

-- lines, each with the byte that ends it
abbrev pub text_of_lines : List (List ℕ) → List ℕ
text_of_lines [] = []
text_of_lines (line ∷ lines) = line ++ 10 ∷ text_of_lines lines

abbrev pub setting_lines : List ℕ → Option ℕ → List (List ℕ)
setting_lines keyword None = []
setting_lines keyword (Some n) = line_of_words (keyword ∷ decimal n ∷ []) ∷ []

abbrev pub settings_lines : Settings → List (List ℕ)
settings_lines settings =
    setting_lines (codes "clock") settings.clock
    ++ (setting_lines (codes "limit") settings.limit
    ++ (setting_lines (codes "capacity") settings.capacity
    ++ (setting_lines (codes "credit") settings.credit
    ++ setting_lines (codes "submitters") settings.submitters)))

abbrev pub byte_line : ℕ → List ℕ
byte_line byte = line_of_words (codes "hex" ∷ encode_lower (byte ∷ []) ∷ [])

-- a packet's line, and one for each byte of its data
abbrev pub packet_lines : ℕ → packets.Packet → List (List ℕ)
packet_lines submitter packet =
    line_of_words (codes "packet" ∷ decimal submitter ∷ decimal packet.operation ∷ [])
    ∷ map byte_line packet.bytes

abbrev pub item_lines : ScriptItem → List (List ℕ)
item_lines (Packet submitter packet) = packet_lines submitter packet
item_lines (Pulse moment) = line_of_words (codes "pulse" ∷ decimal moment ∷ []) ∷ []
item_lines Shut = codes "shut" ∷ []

abbrev pub spelling_of : Settings → List ScriptItem → List ℕ
spelling_of settings items = text_of_lines (settings_lines settings ++ flat_map item_lines items)

-- a field of an event: its name, its size in bytes and its number
pub record NamedNumber : Type 0 where
  pub name : List ℕ
  pub size : ℕ
  pub number : ℕ

abbrev pub named : List ℕ → ℕ → ℕ → NamedNumber
named name size number = record { name = name; size = size; number = number }

abbrev pub IsOfItsSize : NamedNumber → Type 0
IsOfItsSize field = field.number < 256 ^ field.size

-- the fields of an account in turn
abbrev pub named_of_account : Account → List NamedNumber
named_of_account account =
    named (codes "id") 16 account.id ∷
    named (codes "debits_pending") 16 account.debits_pending ∷
    named (codes "debits_posted") 16 account.debits_posted ∷
    named (codes "credits_pending") 16 account.credits_pending ∷
    named (codes "credits_posted") 16 account.credits_posted ∷
    named (codes "user_data_128") 16 account.user_data_128 ∷
    named (codes "user_data_64") 8 account.user_data_64 ∷
    named (codes "user_data_32") 4 account.user_data_32 ∷
    named (codes "reserved") 4 account.reserved ∷
    named (codes "ledger") 4 account.ledger ∷
    named (codes "code") 2 account.code ∷
    named (codes "flags") 2 account.flags ∷
    named (codes "timestamp") 8 account.timestamp ∷
    []

-- the fields of a transfer in turn
abbrev pub named_of_transfer : Transfer → List NamedNumber
named_of_transfer transfer =
    named (codes "id") 16 transfer.id ∷
    named (codes "debit_account_id") 16 transfer.debit_account_id ∷
    named (codes "credit_account_id") 16 transfer.credit_account_id ∷
    named (codes "amount") 16 transfer.amount ∷
    named (codes "pending_id") 16 transfer.pending_id ∷
    named (codes "user_data_128") 16 transfer.user_data_128 ∷
    named (codes "user_data_64") 8 transfer.user_data_64 ∷
    named (codes "user_data_32") 4 transfer.user_data_32 ∷
    named (codes "timeout") 4 transfer.timeout ∷
    named (codes "ledger") 4 transfer.ledger ∷
    named (codes "code") 2 transfer.code ∷
    named (codes "flags") 2 transfer.flags ∷
    named (codes "timestamp") 8 transfer.timestamp ∷
    []

-- the word that gives a field its number: NAME=N
abbrev pub field_word : NamedNumber → List ℕ
field_word field = field.name ++ 61 ∷ decimal field.number

-- a line with fields after its keyword
abbrev pub fields_line : List ℕ → List NamedNumber → List ℕ
fields_line keyword fields = line_of_words (keyword ∷ map field_word fields)

-- a line with an id to look up
abbrev pub id_line : ℕ → List ℕ
id_line id = line_of_words (codes "id" ∷ decimal id ∷ [])

abbrev pub IsWithin : ℕ → ℕ → Option ℕ → Type 0
IsWithin low high setting = IfSome setting (λ n. (low ≤ n) × (n ≤ high))

-- a script can say these settings
pub record CanBeSet (settings : Settings) : Type 0 where
  pub clock : IsWithin 0 clock_max settings.clock
  pub limit : IsWithin 1 batch_max settings.limit
  pub capacity : IsWithin 1 capacity_max settings.capacity
  pub credit : IsWithin 1 capacity_max settings.credit
  pub submitters : IsWithin 1 submitters_max settings.submitters

-- a script can say a packet of one of this number of submitters, with the user word 0
pub record CanBeSubmitted (submitters submitter : ℕ) (packet : packets.Packet) : Type 0 where
  pub known : submitter < submitters
  pub operation : packet.operation < 256
  pub bytes : All (λ byte. byte < 256) packet.bytes
  pub user : packet.user ≡ 0

-- behind the Close there is no pulse, and no other Close
abbrev pub CanBeWritten : ℕ → Bool → ScriptItem → Type 0
CanBeWritten submitters shut (Packet submitter packet) = CanBeSubmitted submitters submitter packet
CanBeWritten submitters shut (Pulse moment) = (shut ≡ false) × (moment < 2 ^ 64)
CanBeWritten submitters shut Shut = shut ≡ false

abbrev pub shut_by : Bool → ScriptItem → Bool
shut_by shut (Packet submitter packet) = shut
shut_by shut (Pulse moment) = shut
shut_by shut Shut = true

abbrev pub CanAllBeWritten : ℕ → Bool → List ScriptItem → Type 0
CanAllBeWritten submitters shut [] = Unit {0}
CanAllBeWritten submitters shut (item ∷ items) =
    CanBeWritten submitters shut item × CanAllBeWritten submitters (shut_by shut item) items
