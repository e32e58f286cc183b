use Rattle.std.proofs.Common.{◌≡◌, length, map}
use Rattle.tb_program_text.proofs.Words.{look_up}
use Rattle.tb_program_text.proofs.table.look_up.Given as goal

abbrev pub invariant-loop-table : goal.invariant-loop-table
invariant-loop-table g l =
    look_up l.word (map (λ row. (row.0.now, row.1)) l.table)
    ≡ look_up l.word (map (λ row. (row.0.now, row.1)) l.initial.table)

abbrev pub decreases-loop-table : goal.decreases-loop-table
decreases-loop-table g l = length l.table
