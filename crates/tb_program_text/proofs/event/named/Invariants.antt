use Rattle.std.proofs.Common.{◌≡◌, ◌≤◌, length, map, All}
use Rattle.tb_program_text.proofs.Words.{IsBare, named, first_line, first_word}
use Rattle.tb_program_text.proofs.event.named.Given as goal

abbrev pub invariant-loop-rows : goal.invariant-loop-rows
invariant-loop-rows l = record {
  same : named (first_word (first_line l.text)) (map (λ row. (row.0.now, row.1)) l.rows)
      ≡ named (first_word (first_line l.text)) (map (λ row. (row.0.now, row.1)) l.initial.rows);
  bare : All (λ row. IsBare row.0.now) l.rows;
  fewer : length l.rows ≤ length l.initial.rows;
}

abbrev pub decreases-loop-rows : goal.decreases-loop-rows
decreases-loop-rows l = length l.rows
