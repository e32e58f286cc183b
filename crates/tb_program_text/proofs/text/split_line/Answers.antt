use Rattle.std.proofs.Common.{◌≡◌, ◌+◌, ◌-◌, ◌∙◌, ap, sym, take, drop, length, arith}
use Rattle.tb_program_text.proofs.Words.{common_steps, drop-drop}
use Rattle.tb_program_text.proofs.text.split_line.Goals as goal

pub returns-then-end-text-clause-others : goal.returns-then-end-text-clause-others
returns-then-end-text-clause-others c =
    let text = c.args.text.now in
    let end = c.length_before-end.result in
    let whole : take (length text - (end + 1)) (drop (end + 1) text) ≡ drop (end + 1) text = grind (arith, common_steps) in
    whole ∙ sym (drop-drop 1 end text) ∙ ap (λ count. drop 1 (drop count text)) c.length_before-end.ensures.value
