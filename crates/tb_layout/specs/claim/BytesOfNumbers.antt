-- The bytes of numbers.
use Rattle.std.specs.Prelude.{◌≡◌, ◌<◌, ℕ, zero, suc, ◌/◌, ◌%◌, List, [], ◌∷◌, ◌++◌, length, All}

-- the lowest `size` bytes of a number, the least significant first
unfoldable pub bytes_of : ℕ → ℕ → List ℕ
bytes_of zero number = []
bytes_of (suc size) number = number % 256 ∷ bytes_of size (number / 256)

-- the bytes of numbers in order, each with its size
abbrev pub bytes_in_turn : List (ℕ × ℕ) → List ℕ
bytes_in_turn [] = []
bytes_in_turn ((size, number) ∷ fields) = bytes_of size number ++ bytes_in_turn fields

-- a list of this many bytes
pub record IsBytes (size : ℕ) (bytes : List ℕ) : Type 0 where
  pub count : length bytes ≡ size
  pub each : All (λ byte. byte < 256) bytes
