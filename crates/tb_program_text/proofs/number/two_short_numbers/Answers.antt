use Rattle.std.proofs.Common.{◌≡◌, rules, sym, refl, ◌∙◌, length}
use Rattle.tb_program_text.proofs.Words.{first_line}
use Rattle.tb_program_text.proofs.Numbers.{number_first}
use Rattle.tb_program_text.proofs.FirstLines.{trimmed_text, ends_at_once}
use Rattle.tb_program_text.proofs.Texts.{empty_words}
use Rattle.tb_program_text.proofs.number.two_short_numbers.Goals as goal

pub returns-then-is_at_line_end : goal.returns-then-is_at_line_end
returns-then-is_at_line_end c =
    let start = c.trim_spaces.result.now in
    let middle = c.trim_spaces-2.result.now in
    let end = c.trim_spaces-rest.result.now in
    let before = trimmed_text c.args.text.now start c.trim_spaces.ensures.rest in
    let between = trimmed_text c.in_ok-first.rest.now middle c.trim_spaces-2.ensures.rest in
    let after = trimmed_text c.in_ok-second.rest.now end c.trim_spaces-rest.ensures.rest in
    let none : length (first_line end) ≡ 0 = search rules in
    record {
      numbers = rw (
        sym before.words,
        number_first (first_line start) c.in_ok-first.first c.in_ok-first.ensures.number,
        sym c.in_ok-first.ensures.rest.rest,
        sym between.words,
        number_first (first_line middle) c.in_ok-second.second c.in_ok-second.ensures.number,
        sym c.in_ok-second.ensures.rest.rest,
        sym after.words,
        empty_words (first_line end) none,
        c.in_ok-first.ensures.number,
        c.in_ok-second.ensures.number,
      ) refl;
      rest = ends_at_once end none ∙ after.others ∙ c.in_ok-second.ensures.rest.others ∙ between.others
          ∙ c.in_ok-first.ensures.rest.others ∙ before.others;
    }
