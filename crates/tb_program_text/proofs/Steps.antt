-- Steps that found no fault.
use Rattle.std.proofs.Common.{rules, ◌≡◌, Result, Ok, Err, refl}
use Rattle.tb_program_text.proofs.Words.{◌>>=◌}

-- two steps, one after the other
pub record BothDone {A B E : Type 0} (first : Result A E) (second : A → Result B E) (made : B) : Type 0 where
  pub between : A
  pub began : first ≡ Ok between
  pub ended : second between ≡ Ok made

pub both_done : {A B E : Type 0} (first : Result A E) (second : A → Result B E) {made : B} → (first >>= second) ≡ Ok made
    → BothDone first second made
both_done (Ok value) second e = record { between = value; began = refl; ended = e }
both_done (Err fault) second e = absurd (search (rules, e))
