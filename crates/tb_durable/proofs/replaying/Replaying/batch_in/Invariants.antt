use Rattle.std.proofs.Common.{◌≡◌, ◌++◌, List, map, drop}
use Rattle.tb_durable.proofs.Words.{Numbered, input_of, batch_packets, AreColumnsOf, stub_at}
use Rattle.tb_durable.specs.clauses.Counts.{counted_all}
use Rattle.tb_durable.proofs.BatchLemmas.{AreRead, IsPartRead}
use Rattle.tb_durable.proofs.replaying.Replaying.batch_in.Given as goal

abbrev pub invariant-loop-chunk : goal.invariant-loop-chunk
invariant-loop-chunk l = record {
  ledger : l.self.ledger ≡ l.fn.self.ledger;
  packets : map input_of l.batcher.jobs
      ++ batch_packets l.columns.operation l.body (map stub_at (drop l.chunk-index l.chunks))
      ≡ batch_packets l.columns.operation l.columns.body.now (map stub_at l.chunks);
  limit : l.batcher.limit ≡ 8190;
  counted : counted_all l.self.counts (map stub_at (drop l.chunk-index l.chunks))
      ≡ counted_all l.fn.self.counts (map stub_at l.chunks);
  read : AreRead l.columns.operation (map stub_at l.chunks) l.columns.body.now (map stub_at (drop l.chunk-index l.chunks)) l.body
      l.batcher.jobs;
  part : (jobs : List Numbered) → AreColumnsOf jobs l.columns.operation l.columns.stubs.now l.columns.body.now
      → IsPartRead l.chunk-index jobs l.batcher.jobs l.body;
}
