use Rattle.std.proofs.Common.{ap, ◌∙◌, arith, ℕ, List}
use Rattle.tb_durable.proofs.Words.{flat_map, take_all, take_more, Stub, stub_in, stub_bytes}
use Rattle.tb_layout.specs.claim.Bytes.{little_endian}
use Rattle.tb_work.proofs.Laid.{laid-bytes, laid-length, laid-events}
use Rattle.tb_durable.proofs.rows.lay_stubs.Goals as goal

abbrev read : List ℕ → Stub
read chunk = stub_in (little_endian chunk)

pub loop-stub-preserved : goal.loop-stub-preserved
loop-stub-preserved c =
    let before = c.loop-stub.invariant in
    let added = c.in_ok-add_stub.ensures in
    let next = take_more c.args.stubs.now c.loop-stub.stub-index _ c.loop-stub-test.true in
    record {
      bytes = laid-bytes stub_bytes read c.args.stubs.now c.loop-stub.stub-index _ next
          c.loop-stub.bytes.items c.add_stub.new.bytes.items added.bytes before.bytes;
      length = laid-length stub_bytes read c.args.stubs.now c.loop-stub.stub-index _ next
          c.loop-stub.bytes.items c.add_stub.new.bytes.items added.bytes 16 (λ k. omega arith)
          before.length added.length;
      events = laid-events stub_bytes read c.args.stubs.now c.loop-stub.stub-index _ next
          c.loop-stub.bytes.items c.add_stub.new.bytes.items added.bytes 16 (λ k. omega arith) (λ k. omega arith)
          before.length added.length
          added.read_back before.events;
    }

pub returns-clause-bytes : goal.returns-clause-bytes
returns-clause-bytes c =
    c.loop-stub.invariant.bytes
    ∙ ap (flat_map stub_bytes) (take_all c.loop-stub.stub-index c.args.stubs.now c.loop-stub-test.false)

pub returns-clause-read_back : goal.returns-clause-read_back
returns-clause-read_back c =
    c.loop-stub.invariant.events ∙ take_all c.loop-stub.stub-index c.args.stubs.now c.loop-stub-test.false
