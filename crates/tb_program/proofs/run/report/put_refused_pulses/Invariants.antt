use Rattle.std.proofs.Common.{◌≡◌, ◌++◌, string_bytes}
use Rattle.tb_program.proofs.Words.{refused_pulses_text}
use Rattle.tb_program.proofs.run.report.put_refused_pulses.Given as goal

abbrev pub invariant-loop : goal.invariant-loop
invariant-loop l = string_bytes l.out ≡ string_bytes l.fn.out ++ refused_pulses_text l.counter
