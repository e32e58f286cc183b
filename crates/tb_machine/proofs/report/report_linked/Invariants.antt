use Rattle.std.proofs.Common.{◌≡◌, ◌+◌, ◌++◌, replicate, vec_len}
use Rattle.tb_machine.proofs.Words.{vec_capacity, failures_from}
use Rattle.tb_machine.proofs.report.report_linked.Given as goal

abbrev pub invariant-loop-k : goal.invariant-loop-k
invariant-loop-k l = record {
  items : l.out.items ≡ l.fn.out.items ++ failures_from l.index (replicate l.k 1);
  len : vec_len l.out ≡ vec_len l.fn.out + l.k;
  capacity : vec_capacity l.out ≡ vec_capacity l.fn.out;
}
