use Rattle.std.proofs.Common.{◌≡◌, drop, map}
use Rattle.tb_layout.specs.clauses.Codes.{first_with, read_row}
use Rattle.tb_layout.proofs.code.row_with.Given as goal

abbrev pub invariant-loop-row : goal.invariant-loop-row
invariant-loop-row g l =
    first_with g.C.Code.number_of l.number (map read_row l.rows)
    ≡ first_with g.C.Code.number_of l.number (map read_row (drop l.row-index l.rows))
