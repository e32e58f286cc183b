use Rattle.std.proofs.Common.{◌≡◌, ◌≤◌, ◌+◌, length, map, vec_len}
use Rattle.tb_drive.proofs.Words.{vec_capacity, started_from}
use Rattle.tb_drive.proofs.threads.start_all.Given as goal

abbrev pub invariant-loop-task : goal.invariant-loop-task
invariant-loop-task g l = record {
  started : map started_from l.handles.items ≡ l.yielded;
  room : vec_len l.handles + length l.task-iterator.rest.items ≤ vec_capacity l.handles;
}
