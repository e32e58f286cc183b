use Rattle.std.proofs.Common.{◌≡◌, ◌≤◌, ◌+◌, ◌++◌, map, length, vec_len}
use Rattle.tb_drive.proofs.Words.{vec_capacity, into_iter_items, origin_of, task_origin, task_share, task_submitter, HaveSeen}
use Rattle.tb_drive.proofs.threads.assign.Given as goal

abbrev pub invariant-loop-submitter : goal.invariant-loop-submitter
invariant-loop-submitter g l = record {
  own : map task_origin l.all.items ≡ map origin_of l.yielded;
  submitters : map task_submitter l.all.items ≡ l.yielded;
  shares : map task_share l.all.items ++ map g.D.Driver.share (into_iter_items l.drivers)
      ≡ map g.D.Driver.share l.fn.drivers.items;
  long : length (into_iter_items l.drivers) ≡ length l.submitter-iterator.rest.items;
  room : vec_len l.all + length l.submitter-iterator.rest.items ≤ vec_capacity l.all;
  seen : HaveSeen g.D.Driver.has_seen (into_iter_items l.drivers) l.submitter-iterator.rest.items;
}
