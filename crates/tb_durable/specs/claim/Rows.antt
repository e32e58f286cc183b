-- What the rows of the table mean.
use Rattle.std.specs.Prelude.{◌≡◌, ℕ, ℤ, pos, negsuc, ◌+◌, ◌*◌, ◌/◌, ◌%◌, ◌^◌, ◌==◌, List, [], ◌∷◌, map, if◌then◌else◌}
use Rattle.std.specs.List.{flat_map}
use Rattle.tb_layout.specs.claim.Events.{Input, Pulse, chunks}
use Rattle.tb_layout.specs.claim.Bytes.{little_endian}
use Rattle.tb_layout.specs.claim.BytesOfNumbers.{bytes_of}
use Rattle.tb_work.specs.declared.stub.Stub.{Stub}
use Rattle.tb_work.specs.claim.Packet.{Numbered}
use Rattle.tb_work.specs.claim.Job.{stub_of}
use Rattle.tb_batch.specs.claim.Batch.{body_of, operation_of}
use Rattle.tb_core.specs.claim.Ledger.{batch_packets}
use Rattle.sqlite_value.specs.declared.value.Value.{Value}
use Rattle.sqlite_value.specs.declared.value.Value.TheVariants.{Null, Int, Blob}
use Rattle.sqlite_value.specs.Order.{Row, column, bytes}
use Rattle.tb_durable.specs.declared.settings.Settings.{Settings}

-- ---- stubs, in 16 bytes each: the number, the submitter and the count, the least significant byte first

abbrev pub word_of : Stub → ℕ
word_of stub = stub.number + 2 ^ 64 * (stub.submitter + 2 ^ 32 * stub.count)

abbrev pub stub_in : ℕ → Stub
stub_in word =
    record { number = word % 2 ^ 64; submitter = word / 2 ^ 64 % 2 ^ 32; count = word / 2 ^ 64 / 2 ^ 32 }

abbrev pub stub_bytes : Stub → List ℕ
stub_bytes stub = bytes_of 16 (word_of stub)

abbrev pub stubs_bytes : List Stub → List ℕ
stubs_bytes stubs = flat_map stub_bytes stubs

abbrev pub stub_at : List ℕ → Stub
stub_at chunk = stub_in (little_endian chunk)

abbrev pub stubs_in : List ℕ → List Stub
stubs_in bytes = map stub_at (chunks 16 bytes)

-- ---- rows: the rowid, a column that the rowid stands for, and the other four columns

abbrev pub row_of : ℤ → ℤ → ℤ → List ℕ → List ℕ → Row
row_of place operation moment stubs body =
    Int place ∷ Null ∷ Int operation ∷ Int moment ∷ Blob stubs ∷ Blob body ∷ []

abbrev pub batch_row : ℕ → ℕ → List Stub → List ℕ → Row
batch_row place operation stubs body = row_of (pos place) (pos operation) (pos 0) (stubs_bytes stubs) body

-- the row of a batch of these packets
abbrev pub jobs_row : ℕ → List Numbered → Row
jobs_row place jobs = batch_row place (operation_of jobs) (map stub_of jobs) (body_of jobs)

abbrev pub pulse_row : ℕ → ℕ → Row
pulse_row place moment = row_of (pos place) (pos 0) (pos moment) [] []

-- the version of this format
abbrev pub format_version : ℕ
format_version = 1

abbrev pub settings_stub : Settings → Stub
settings_stub settings = record { number = 0; submitter = settings.submitters; count = settings.limit }

abbrev pub settings_row : Settings → Row
settings_row settings =
    row_of (negsuc 0) (pos format_version) (pos settings.clock) (stub_bytes (settings_stub settings)) []

-- ---- what a row says

abbrev pub whole_number : Value → ℕ
whole_number (Int (pos n)) = n
whole_number other = 0

-- the packets of a batch, or a pulse
abbrev pub group_in : Row → List Input
group_in row =
    let operation = whole_number (column row 2) in
    if operation == 0 then Pulse (whole_number (column row 3)) ∷ []
    else batch_packets operation (bytes (column row 5)) (stubs_in (bytes (column row 4)))

-- where the first row says that the clock starts
abbrev pub clock_in : Row → ℕ
clock_in row = whole_number (column row 3)

-- a row has these values of an entry: numbers that aren't negative, and bytes
pub record HasColumns (row : Row) (operation moment : ℕ) (stubs body : List ℕ) : Type 0 where
  pub has_operation : column row 2 ≡ Int (pos operation)
  pub has_moment : column row 3 ≡ Int (pos moment)
  pub has_stubs : column row 4 ≡ Blob stubs
  pub has_body : column row 5 ≡ Blob body
