use Rattle.std.proofs.Common.{◌∙◌, ◌++◌, ap, rules, sym, append_assoc, append-nil}
use Rattle.tb_program_text.proofs.FirstLines.{first_of_lines}
use Rattle.tb_program_text.proofs.NamedLines.{line_named, none_named}
use Rattle.tb_program_text.proofs.naming.named_text.Goals as goal

pub loop-operations-smaller : goal.loop-operations-smaller
loop-operations-smaller c =
    let first = first_of_lines c.loop-operations.rest.now c.split_line.result.1.now (search rules) c.split_line.ensures.others in
    first.shorter

pub loop-operations-preserved : goal.loop-operations-preserved
loop-operations-preserved c =
    let first = first_of_lines c.loop-operations.rest.now c.split_line.result.1.now (search rules) c.split_line.ensures.others in
    let named = line_named c.loop-operations.operations.now _ _ _ first.lines in
    grind (rules, named, c.loop-operations.invariant, c.in_ok-push.ensures.items, c.in_ok-put_line.ensures, c.split_line.ensures.line, c.split_operation-operation.ensures.first, c.split_operation-operation.ensures.rest, append_assoc)

pub returns : goal.returns
returns c =
    sym (append-nil _) ∙ ap (λ rest. c.loop-operations.out.items ++ rest) (sym (none_named c.loop-operations.operations.now c.loop-operations.rest.now (search rules)))
    ∙ c.loop-operations.invariant
