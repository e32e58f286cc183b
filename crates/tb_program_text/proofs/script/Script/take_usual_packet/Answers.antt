use Rattle.std.proofs.Common.{◌-◌, ◌∷◌, [], rules}
use Rattle.tb_program_text.proofs.Words.{submitters_of, first_line}
use Rattle.tb_program_text.specs.clauses.Script.{with_line}
use Rattle.tb_program_text.specs.clauses.Text.{words_of}
use Rattle.tb_program_text.proofs.UsualLines.{line_is_text, numbers_are_text, two_numbers}
use Rattle.tb_program_text.proofs.script.Script.take_usual_packet.Goals as goal

pub returns : goal.returns
unfolding with_line
returns c =
    let line = first_line c.args.numbers.now in
    let first = c.in-Some.two.first in
    let second = c.in-Some.two.second in
    let numbers = two_numbers (submitters_of c.args.self.now.settings - 1) first second (words_of line) c.in-Some.ensures.numbers
    (search rules) (search rules) in
    record {
      line = (line_is_text line (numbers_are_text (words_of line) (first ∷ second ∷ []) c.in-Some.ensures.numbers), rw numbers (search rules));
      rest = c.in-Some.ensures.rest;
    }
