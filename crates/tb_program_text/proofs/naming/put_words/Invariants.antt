use Rattle.std.proofs.Common.{◌≡◌, ◌++◌, length}
use Rattle.tb_program_text.specs.clauses.Text.{words_of}
use Rattle.tb_program_text.proofs.Words.{named_words}
use Rattle.tb_program_text.proofs.naming.put_words.Given as goal

abbrev pub invariant-loop-first : goal.invariant-loop-first
invariant-loop-first l =
    l.out.items ++ named_words l.operation (words_of l.rest) ≡ l.fn.out.items ++ named_words l.operation (words_of l.fn.rest)

abbrev pub decreases-loop-first : goal.decreases-loop-first
decreases-loop-first l = length (words_of l.rest)
