use Rattle.std.proofs.Common.{◌≡◌, ◌+◌, ◌++◌, drop, length, string_bytes}
use Rattle.tb_program.proofs.Words.{flat_map, group_of, pulses_text}
use Rattle.tb_program.proofs.run.report.put_pulses.Given as goal

abbrev pub invariant-loop-entry : goal.invariant-loop-entry
invariant-loop-entry l =
    let rest = flat_map group_of (drop l.entry-index l.journal) in
    record {
      place : l.place + length rest ≡ length (flat_map group_of l.journal);
      text : string_bytes l.out ++ pulses_text l.place rest
          ≡ string_bytes l.fn.out ++ pulses_text 0 (flat_map group_of l.journal);
    }
