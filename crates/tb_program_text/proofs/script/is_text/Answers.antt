use Rattle.std.proofs.Common.{rules, ◌≡◌, refl, subst}
use Rattle.tb_program_text.proofs.Words.{is_text, is_text_byte}
use Rattle.std.proofs.lemmas.Fn.{fold_over, slice_gives, fronts}
use Rattle.tb_program_text.proofs.Texts.{all_and_next}
use Rattle.tb_program_text.proofs.script.is_text.Goals as goal

pub returns : goal.returns
returns c = subst (λ bytes. c.fold.result ≡ is_text bytes) c.iter.ensures.rest
    (fold_over fronts (λ byte. byte.now) _ (λ bytes all. all ≡ is_text bytes) _
    (λ bytes all byte _ _ so_far called. let next = all_and_next is_text_byte bytes byte.now all so_far in search rules)
    _ _ _ _ (slice_gives c.iter.result) refl c.fold.ensures.ran)
