use Rattle.std.proofs.Common.{◌≡◌, ◌-◌, ◌∙◌, ap, sym, subst, true, take, drop, length, length-take-le, arith, rules}
use Rattle.tb_program_text.proofs.Words.{◌==◌, common_steps, first_line, first_word, IsAfterFirstWord}
use Rattle.tb_program_text.proofs.FirstLines.{digits_first}
use Rattle.tb_program_text.proofs.Numbers.{one_more, all_digits}
use Rattle.tb_program_text.proofs.number.leading_number.Goals as goal

pub overflow_mul-number : goal.overflow_mul-number
overflow_mul-number c =
    let more = one_more c.args.text.now c.loop-digits.digits (search rules)
    (search rules) c.loop-digits.invariant.digits (search rules) in
    omega (arith, c.loop-digits.invariant.value, more.value, more.small)

pub overflow_add-number : goal.overflow_add-number
overflow_add-number c =
    let more = one_more c.args.text.now c.loop-digits.digits (search rules)
    (search rules) c.loop-digits.invariant.digits (search rules) in
    omega (arith, c.loop-digits.invariant.value, more.value, more.small, c.from.ensures)

pub loop-digits-preserved : goal.loop-digits-preserved
loop-digits-preserved c =
    let more = one_more c.args.text.now c.loop-digits.digits (search rules)
    (search rules) c.loop-digits.invariant.digits (search rules) in
    record {
      within = search rules;
      digits = more.digits;
      value = omega (arith, c.loop-digits.invariant.value, more.value, c.from.ensures);
    }

pub returns : goal.returns
returns c =
    let text = c.args.text.now in
    let count = c.loop-digits.digits in
    let whole : take (length text - count) (drop count text) ≡ drop count text = grind (arith, common_steps) in
    let ended : (length (first_word (first_line (drop count text))) == 0) ≡ true = ap (λ rest. length (first_word (first_line rest)) == 0) (sym whole) ∙ sym c.is_at_word_end.ensures ∙ c.if-not-is_at_word_end.false in
    let first = digits_first text count (search rules) c.loop-digits.invariant.digits (search rules) in
    let long = length-take-le count text (search rules) in
    record {
      number = rw (first.word, c.loop-digits.invariant.value) (all_digits (take count text) (search rules) (search rules) c.loop-digits.invariant.digits);
      rest = subst (IsAfterFirstWord text) (sym whole) first.rest;
    }
