use Rattle.std.proofs.Common.{◌≡◌, ◌++◌, take, string_bytes}
use Rattle.tb_program_text.proofs.Words.{flat_map, failure_text}
use Rattle.tb_program_text.proofs.output.put_failures.Given as goal

abbrev pub invariant-loop-failure : goal.invariant-loop-failure
invariant-loop-failure l =
    string_bytes l.out ≡ string_bytes l.fn.out ++ flat_map failure_text (take l.failure-index l.failures)
