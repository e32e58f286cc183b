-- How ids are hashed.
use Rattle.std.specs.Prelude.{ℕ, ◌*◌, ◌/◌, ◌%◌, ◌^◌, List, fold, bit_xor}
use Rattle.tb_layout.specs.claim.Events.{ids_of}
use Rattle.tb_tables.specs.declared.hashing.IdHasher.{IdHasher}

-- the halves of a product of 128 bits, joined by exclusive or
unfoldable pub folded : ℕ → ℕ → ℕ
folded a b = bit_xor (a * b % 2 ^ 64) (a * b / 2 ^ 64)

-- a hasher that has hashed one id more: its numbers are mixed into the id's halves, and the product is folded
abbrev pub with_id : IdHasher → ℕ → IdHasher
with_id hasher id = record hasher { low = folded (bit_xor (id % 2 ^ 64) hasher.low) (bit_xor (id / 2 ^ 64) hasher.high) }

-- a hasher that has hashed the ids in some bytes
abbrev pub with_ids : IdHasher → List ℕ → IdHasher
with_ids hasher bytes = fold with_id hasher (ids_of bytes)
