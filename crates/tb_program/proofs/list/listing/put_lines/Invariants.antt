use Rattle.std.proofs.Common.{◌≡◌, ◌++◌, drop, string_bytes}
use Rattle.std.specs.Slice.Iter.{iter_rest}
use Rattle.tb_program.proofs.Words.{lines_text}
use Rattle.tb_program.proofs.list.listing.put_lines.Given as goal

abbrev pub invariant-loop-line : goal.invariant-loop-line
invariant-loop-line l =
    string_bytes l.out ++ lines_text (iter_rest l.replies) (drop l.line-index l.lines)
    ≡ string_bytes l.fn.out ++ lines_text l.fn.replies l.lines
