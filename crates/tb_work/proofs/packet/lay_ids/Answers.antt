use Rattle.std.proofs.Common.{ap, ◌∙◌, arith}
use Rattle.tb_work.proofs.Words.{flat_map, take_all, take_more, bytes_of}
use Rattle.tb_layout.specs.claim.Bytes.{little_endian}
use Rattle.tb_work.proofs.Laid.{laid-bytes, laid-length, laid-events}
use Rattle.tb_work.proofs.packet.lay_ids.Goals as goal

pub loop-id-preserved : goal.loop-id-preserved
loop-id-preserved c =
    let before = c.loop-id.invariant in
    let added = c.in_ok-add_id.ensures in
    let next = take_more c.args.ids.now c.loop-id.id-index _ c.loop-id-test.true in
    record {
      bytes = laid-bytes (bytes_of 16) little_endian c.args.ids.now c.loop-id.id-index _ next
          c.loop-id.bytes.items c.add_id.new.bytes.items added.bytes before.bytes;
      length = laid-length (bytes_of 16) little_endian c.args.ids.now c.loop-id.id-index _ next
          c.loop-id.bytes.items c.add_id.new.bytes.items added.bytes 16 (λ k. omega arith)
          before.length added.length;
      events = laid-events (bytes_of 16) little_endian c.args.ids.now c.loop-id.id-index _ next
          c.loop-id.bytes.items c.add_id.new.bytes.items added.bytes 16 (λ k. omega arith) (λ k. omega arith)
          before.length added.length
          added.read_back before.events;
    }

pub returns-clause-bytes : goal.returns-clause-bytes
returns-clause-bytes c =
    c.loop-id.invariant.bytes
    ∙ ap (flat_map (bytes_of 16)) (take_all c.loop-id.id-index c.args.ids.now c.loop-id-test.false)

pub returns-clause-events : goal.returns-clause-events
returns-clause-events c =
    c.loop-id.invariant.events ∙ take_all c.loop-id.id-index c.args.ids.now c.loop-id-test.false
