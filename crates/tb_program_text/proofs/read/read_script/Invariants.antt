use Rattle.std.proofs.Common.{◌≤◌, length}
use Rattle.tb_program_text.proofs.Words.{Consumes}
use Rattle.tb_program_text.proofs.read.read_script.Given as goal

abbrev pub invariant-loop-reads : goal.invariant-loop-reads
invariant-loop-reads g l = record {
  taken : Consumes (g.R.Read.remaining l.fn.reader) (g.R.Read.remaining l.reader) l.text.items;
  short : length l.text.items ≤ 16777216;
}
