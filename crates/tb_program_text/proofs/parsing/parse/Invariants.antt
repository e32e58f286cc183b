use Rattle.std.proofs.Common.{◌≡◌, ◌+◌, ◌≤◌, length}
use Rattle.tb_program_text.specs.clauses.Text.{lines_of}
use Rattle.tb_program_text.proofs.Words.{script_of}
use Rattle.tb_program_text.specs.clauses.Script.{after_lines}
use Rattle.tb_program_text.proofs.parsing.parse.Given as goal

abbrev pub invariant-loop-rest : goal.invariant-loop-rest
invariant-loop-rest l = record {
  same : after_lines (l.number + 1) l.script (lines_of l.rest) ≡ script_of l.text;
  counted : l.number + length l.rest ≤ length l.text;
}

abbrev pub decreases-loop-rest : goal.decreases-loop-rest
decreases-loop-rest l = length l.rest
