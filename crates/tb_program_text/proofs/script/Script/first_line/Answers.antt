use Rattle.std.proofs.Common.{◌≡◌, ◌<◌, ap, sym, ◌∙◌, arith, rules, length, length-append}
use Rattle.std.proofs.lemmas.Grind.{common_steps}
use Rattle.tb_program_text.proofs.Words.{line_max, after_first_line, first_line}
use Rattle.tb_program_text.proofs.FirstLines.{whole_text}
use Rattle.tb_program_text.proofs.UsualLines.{too_long}
use Rattle.tb_program_text.proofs.script.Script.first_line.Goals as goal

pub returns-then-text-rest-gt-LINE_MAX-clause-script : goal.returns-then-text-rest-gt-LINE_MAX-clause-script
returns-then-text-rest-gt-LINE_MAX-clause-script c =
    let line = first_line c.args.text.now in
    let rest = after_first_line c.args.text.now in
    let found : c.in-Some.rest.now ≡ rest = search rules in
    let whole = sym (length-append line rest) ∙ ap length (whole_text c.args.text.now) in
    let long : line_max < length line = omega (arith, ap length found, whole) in
    too_long c.args.self.now line long

pub returns-in_err-rest-clause-script : goal.returns-in_err-rest-clause-script
returns-in_err-rest-clause-script c = search rules

pub returns-in-Some-clause-script : goal.returns-in-Some-clause-script
returns-in-Some-clause-script c = grind (arith, common_steps)

pub returns-in_err-line-clause-script : goal.returns-in_err-line-clause-script
returns-in_err-line-clause-script c = search rules

pub returns-clause-script : goal.returns-clause-script
returns-clause-script c = search rules
