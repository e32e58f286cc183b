-- The sender after the submitters is the control.
use Rattle.std.proofs.Common.{◌≡◌, ℕ, zero, suc, List, [], ◌∷◌, length, map, refl, ap, sym, ◌∙◌, arith}
use Rattle.tb_pipe.proofs.Words.{length-map, EndedState, Origin, SenderState, end_origin, queued_by}

last_is_control : (ends : List EndedState) (control : SenderState) (n : ℕ) → length ends ≡ n
    → queued_by ends control n ≡ control.queued
last_is_control [] control zero long = refl
last_is_control [] control (suc n) long = absurd (omega (arith, long))
last_is_control (ended ∷ ends) control zero long = absurd (omega (arith, long))
last_is_control (ended ∷ ends) control (suc n) long = last_is_control ends control n (omega (arith, long))

pub queued_by_control : (ends : List EndedState) (control : SenderState) (n : ℕ) (submitters : List Origin)
    → map end_origin ends ≡ submitters → length submitters ≡ n → queued_by ends control n ≡ control.queued
queued_by_control ends control n submitters own long =
    last_is_control ends control n (sym (length-map ends end_origin) ∙ ap length own ∙ long)
