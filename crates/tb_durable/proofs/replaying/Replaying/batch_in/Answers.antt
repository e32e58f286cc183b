use Rattle.std.proofs.Common.{◌≡◌, ◌%◌, ◌∙◌, ◌+◌, ◌∷◌, [], ◌++◌, rules, sym, ap, subst, map, drop, length, true, false, append_assoc}
use Rattle.tb_durable.proofs.Words.{◌==◌, IsSome, drop_all, map-append, nil_from_length, eqb-true, input_of, is_taken, batch_packets, NoMemory, AreColumnsOf, stub_at}
use Rattle.tb_durable.specs.clauses.Counts.{counted_all}
use Rattle.tb_durable.proofs.BatchLemmas.{AreRead, begins, columns_read, next_part, next_taken, none_left, read_more, some_held}
use Rattle.tb_durable.proofs.StubLemmas.{counted_follows, counted_none, counted_step, stubs_left}
use Rattle.tb_durable.proofs.replaying.Replaying.batch_in.Goals as goal
use Rattle.tb_durable.proofs.replaying.Replaying.batch_in.Goals.{in_default-seal-via-in-Some+then-is_empty+else-is_empty-2, in_default-seal-via-in-Some+else-is_empty, in_default-seal-via-in_default-seal}

pub returns-in_err-job-clause-opens : goal.returns-in_err-job-clause-opens
returns-in_err-job-clause-opens c = λ jobs columns follow.
    let l = c.loop-chunk in
    let chunks = c.as_chunks.result.0.now in
    let same = ap (map stub_at) c.as_chunks.ensures.front ∙ columns.own_stubs in
    let next = begins c.args.columns.operation jobs l.batcher.jobs chunks l.chunk-index l.body.now columns.lawful same
    (l.invariant.part jobs columns) c.loop-chunk-test.true c.stub_at-stub.result _ c.stub_at-stub.ensures in
    let none : c.in_err-job.field-0.0 ≡ NoMemory = (c.in_err-job.ensures.begins _ _ next).0 in
    search rules

pub returns-in_err-join-clause-opens : goal.returns-in_err-join-clause-opens
returns-in_err-join-clause-opens c = λ jobs columns follow.
    let l = c.loop-chunk in
    let chunks = c.as_chunks.result.0.now in
    let same = ap (map stub_at) c.as_chunks.ensures.front ∙ columns.own_stubs in
    let part = l.invariant.part jobs columns in
    let more = c.loop-chunk-test.true in
    let next = begins c.args.columns.operation jobs l.batcher.jobs chunks l.chunk-index l.body.now columns.lawful same
    part more c.stub_at-stub.result _ c.stub_at-stub.ensures in
    let taken : is_taken l.batcher.limit l.batcher.jobs c.in_ok-job.job ≡ true =
    rw (l.invariant.limit, (c.in_ok-job.ensures.begins _ _ next).1.0)
    (next_taken c.args.columns.operation jobs l.batcher.jobs chunks l.chunk-index l.body.now columns.lawful same part more) in
    let none : c.in_err-join.field-0.0 ≡ NoMemory = c.in_err-join.ensures.taken taken in
    search rules

pub returns-in_err-count-clause-opens : goal.returns-in_err-count-clause-opens
returns-in_err-count-clause-opens c = λ jobs columns follow.
    let l = c.loop-chunk in
    let chunks = c.as_chunks.result.0.now in
    let same = ap (map stub_at) c.as_chunks.ensures.front ∙ columns.own_stubs in
    let left = stubs_left chunks l.chunk-index _ c.stub_at-stub.result c.loop-chunk-test.true c.stub_at-stub.ensures in
    let some : IsSome (counted_all l.self.counts (c.stub_at-stub.result ∷ map stub_at (drop (l.chunk-index + 1) chunks))) =
    subst IsSome (sym (sym (ap (counted_all l.self.counts) left) ∙ l.invariant.counted
    ∙ ap (counted_all c.args.self.now.counts) same)) follow in
    absurd (counted_follows l.self.counts c.stub_at-stub.result _ some c.in_err-count.ensures.follows)

pub loop-chunk-preserved : goal.loop-chunk-preserved
loop-chunk-preserved c =
    let l = c.loop-chunk in
    let before = l.invariant in
    let chunks = c.as_chunks.result.0.now in
    let stub = c.stub_at-stub.result in
    let rest = map stub_at (drop (l.chunk-index + 1) chunks) in
    let left = stubs_left chunks l.chunk-index _ stub c.loop-chunk-test.true c.stub_at-stub.ensures in
    let operation = c.args.columns.operation in
    let joined = c.in_ok-join.ensures.joined in
    record {
      ledger = c.in_ok-count.ensures.same ∙ before.ledger;
      packets = ap (λ all. map input_of all ++ batch_packets operation c.in_ok-job.after.now rest) joined
          ∙ ap (λ front. front ++ batch_packets operation c.in_ok-job.after.now rest)
          (map-append input_of l.batcher.jobs (c.in_ok-job.job ∷ []))
          ∙ append_assoc (map input_of l.batcher.jobs) (input_of c.in_ok-job.job ∷ [])
          (batch_packets operation c.in_ok-job.after.now rest)
          ∙ ap (λ packets. map input_of l.batcher.jobs ++ packets)
          (sym (ap (batch_packets operation l.body.now) left ∙ c.in_ok-job.ensures.first rest)) ∙ before.packets;
      limit = c.in_ok-join.ensures.limit ∙ before.limit;
      counted = ap (λ counts. counted_all counts rest) c.in_ok-count.ensures.counted
          ∙ sym (counted_step l.self.counts stub rest c.in_ok-count.ensures.follows)
          ∙ sym (ap (counted_all l.self.counts) left) ∙ before.counted;
      read = read_more operation (map stub_at chunks) c.args.columns.body.now rest l.body.now l.batcher.jobs stub
          c.in_ok-job.job c.in_ok-job.after.now c.join.new.batcher.jobs
          (subst (λ ss. AreRead operation (map stub_at chunks) c.args.columns.body.now ss l.body.now l.batcher.jobs) left before.read)
          c.in_ok-job.ensures.cut
          (subst (λ n. is_taken n l.batcher.jobs c.in_ok-job.job ≡ true) before.limit c.in_ok-join.ensures.joins) joined;
      part = λ jobs columns.
          let same = ap (map stub_at) c.as_chunks.ensures.front ∙ columns.own_stubs in
          let part = before.part jobs columns in
          let more = c.loop-chunk-test.true in
          let next = begins operation jobs l.batcher.jobs chunks l.chunk-index l.body.now columns.lawful same
          part more stub _ c.stub_at-stub.ensures in
          let read = (c.in_ok-job.ensures.begins _ _ next).1 in
          next_part operation jobs l.batcher.jobs chunks l.chunk-index l.body.now columns.lawful same part more
          c.join.new.batcher.jobs c.in_ok-job.after.now (joined ∙ ap (λ job. l.batcher.jobs ++ job ∷ []) read.0) read.1;
    }

pub returns-in-Some-clause-counted : goal.returns-in-Some-clause-counted
returns-in-Some-clause-counted c =
    let l = c.loop-chunk in
    let chunks = c.as_chunks.result.0.now in
    ap (counted_all c.args.self.now.counts) (sym (ap (map stub_at) c.as_chunks.ensures.front))
    ∙ sym l.invariant.counted
    ∙ ap (λ cs. counted_all l.self.counts (map stub_at cs)) (drop_all l.chunk-index chunks c.loop-chunk-test.false)
    ∙ counted_none l.self.counts

pub returns-clause-opens : goal.returns-clause-opens
returns-clause-opens c = λ jobs columns follow.
    let l = c.loop-chunk in
    let chunks = c.as_chunks.result.0.now in
    let same = ap (map stub_at) c.as_chunks.ensures.front ∙ columns.own_stubs in
    let part = l.invariant.part jobs columns in
    let done = c.loop-chunk-test.false in
    let empty = none_left c.args.columns.operation jobs l.batcher.jobs chunks l.chunk-index l.body.now columns.lawful same part done in
    let some = some_held c.args.columns.operation jobs l.batcher.jobs chunks l.chunk-index l.body.now columns.lawful same part done in
    elim c.in_default-seal.branch [
      | in_default-seal-via-in-Some+then-is_empty+else-is_empty-2 w ↦
          let none : false ≡ true = w.if-is_empty-2.ensures ∙ ap (λ bytes. length bytes == 0) empty in absurd cc
      | in_default-seal-via-in-Some+else-is_empty w ↦
          let none : false ≡ true = w.if-is_empty.ensures ∙ ap (λ n. n == 0) (c.as_chunks.ensures.back_len ∙ columns.whole) in absurd cc
      | in_default-seal-via-in_default-seal w ↦ absurd (some w.in_default-seal.ensures.none)
    ]

pub returns-in-Some-clause-are : goal.returns-in-Some-clause-are
returns-in-Some-clause-are c =
    let l = c.loop-chunk in
    let chunks = c.as_chunks.result.0.now in
    let operation = c.args.columns.operation in
    let body = c.args.columns.body.now in
    let all = subst (λ cs. AreRead operation (map stub_at chunks) body (map stub_at cs) l.body.now l.batcher.jobs)
    (drop_all l.chunk-index chunks c.loop-chunk-test.false) l.invariant.read in
    let whole : length c.args.columns.stubs.now % 16 ≡ 0 =
    sym c.as_chunks.ensures.back_len ∙ eqb-true (length c.as_chunks.result.1.now) 0 (sym c.if-is_empty.ensures) in
    let none : l.body.now ≡ [] = nil_from_length l.body.now (eqb-true (length l.body.now) 0 (sym c.if-is_empty-2.ensures)) in
    subst (λ jobs. AreColumnsOf jobs operation c.args.columns.stubs.now body) (sym c.in-Some.ensures.some.0)
    (columns_read all none c.in-Some.ensures.some.1 c.as_chunks.ensures.front whole)
