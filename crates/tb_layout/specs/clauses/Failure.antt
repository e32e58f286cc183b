-- A failure: its place in 8 bytes.
use Rattle.std.specs.Prelude.{ℕ, List, [], ◌∷◌}
use Rattle.tb_layout.specs.declared.failure.Failure.{Failure}
use Rattle.tb_layout.specs.claim.Bytes.{number_at}
use Rattle.tb_layout.specs.claim.BytesOfNumbers.{bytes_in_turn}

abbrev pub failure_of : List ℕ → Failure
failure_of bytes = record { index = number_at bytes 0 4; code = number_at bytes 4 4 }

abbrev pub failure_bytes : Failure → List ℕ
failure_bytes failure = bytes_in_turn ((4, failure.index) ∷ (4, failure.code) ∷ [])
