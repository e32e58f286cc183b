-- Numbers in a script.
use Rattle.std.specs.Prelude.{ℕ, ◌^◌, ◌&&◌, List, length, Option, Some, None, Result, Ok, Err, if◌then◌else◌, nat_lt, nat_le}
use Rattle.std.specs.List.{list_all}
use Rattle.std.specs.Char.{is_ascii_digit}
use Rattle.std.specs.Str.Parse.{digits_value}
use Rattle.tb_program_text.specs.declared.fault.Fault.{Fault}
use Rattle.tb_program_text.specs.declared.fault.Fault.TheVariants.{BadNumber}

-- 1 to 39 decimal digits
unfoldable pub number_of : List ℕ → Option ℕ
number_of word =
    if nat_lt 0 (length word) && nat_lt (length word) 40 && list_all is_ascii_digit word
    then Some (digits_value 10 word) else None

-- a number that is in its bounds
abbrev pub within : ℕ → ℕ → Option ℕ → Result ℕ Fault
within low high None = Err BadNumber
within low high (Some n) = if nat_le low n && nat_le n high then Ok n else Err BadNumber

abbrev pub number_within : ℕ → ℕ → List ℕ → Result ℕ Fault
number_within low high word = within low high (number_of word)

-- a number below 2^128
abbrev pub fitting : Option ℕ → Option ℕ
fitting None = None
fitting (Some n) = if nat_lt n (2 ^ 128) then Some n else None
