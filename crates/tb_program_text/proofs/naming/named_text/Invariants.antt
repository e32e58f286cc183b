use Rattle.std.proofs.Common.{◌≡◌, ◌++◌, length}
use Rattle.tb_program_text.specs.clauses.Text.{lines_of}
use Rattle.tb_program_text.proofs.Words.{named_text}
use Rattle.tb_program_text.specs.clauses.Naming.{named_lines}
use Rattle.tb_program_text.proofs.naming.named_text.Given as goal

abbrev pub invariant-loop-operations : goal.invariant-loop-operations
invariant-loop-operations l =
    l.out.items ++ named_lines l.operations (lines_of l.rest) ≡ named_text l.fn.operations l.fn.text

abbrev pub decreases-loop-operations : goal.decreases-loop-operations
decreases-loop-operations l = length l.rest
