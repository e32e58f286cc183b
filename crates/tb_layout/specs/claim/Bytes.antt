-- Numbers in bytes, and flags.
use Rattle.std.specs.Prelude.{ℕ, ◌+◌, ◌*◌, List, [], ◌∷◌, slice_range, ◌^◌, Bool, not, ◌==◌, bit_and, nat_lt}

-- the least significant byte comes first
abbrev pub little_endian : List ℕ → ℕ
little_endian [] = 0
little_endian (byte ∷ bytes) = byte + 256 * little_endian bytes

abbrev pub number_at : List ℕ → ℕ → ℕ → ℕ
number_at bytes offset size = little_endian (slice_range bytes offset (offset + size))

abbrev pub has_flag : ℕ → ℕ → Bool
has_flag flags bit = not (bit_and flags (2 ^ bit) == 0)

-- one of the bits 4 to 15 is set
abbrev pub has_reserved_flag : ℕ → Bool
has_reserved_flag flags = nat_lt 15 flags
