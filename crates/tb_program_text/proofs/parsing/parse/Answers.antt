use Rattle.std.proofs.Common.{◌+◌, arith, rules, refl, sym, ◌∙◌}
use Rattle.tb_program_text.proofs.FirstLines.{first_of_lines}
use Rattle.tb_program_text.proofs.Lines.{line_parsed, line_faulty, lines_ended}
use Rattle.tb_program_text.proofs.parsing.parse.Goals as goal

pub loop-rest-preserved : goal.loop-rest-preserved
loop-rest-preserved c =
    let first = first_of_lines c.loop-rest.rest.now c.in-Ok.others.now (search rules) c.in-Ok.ensures.others in
    record {
      same = sym (line_parsed (c.loop-rest.number + 1) _ first.lines c.in-Ok.ensures.script)
          ∙ c.loop-rest.invariant.same;
      counted = omega (arith, first.shorter);
    }

pub loop-rest-smaller : goal.loop-rest-smaller
loop-rest-smaller c =
    let first = first_of_lines c.loop-rest.rest.now c.in-Ok.others.now (search rules) c.in-Ok.ensures.others in
    first.shorter

pub returns-in-Err-Fault : goal.returns-in-Err-Fault
returns-in-Err-Fault c =
    let first = first_of_lines c.loop-rest.rest.now _ (search rules) refl in
    rw c.in-Err-Fault.field-0-is (sym c.loop-rest.invariant.same
    ∙ line_faulty (c.loop-rest.number + 1) _ first.lines
    (rw c.in-Err-Fault.field-0-is at c.in-Err-Fault.ensures.script))

pub returns : goal.returns
returns c = sym c.loop-rest.invariant.same ∙ lines_ended _ _ _ (search rules)
