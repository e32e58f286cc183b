use Rattle.std.proofs.Common.{ap, ◌∙◌, arith}
use Rattle.tb_work.proofs.Words.{flat_map, take_all, take_more, transfer_bytes, transfer_of}
use Rattle.tb_work.proofs.Laid.{laid-bytes, laid-length, laid-events}
use Rattle.tb_work.proofs.packet.lay_transfers.Goals as goal

pub loop-transfer-preserved : goal.loop-transfer-preserved
loop-transfer-preserved c =
    let before = c.loop-transfer.invariant in
    let added = c.in_ok-add_transfer.ensures in
    let next = take_more c.args.transfers.now c.loop-transfer.transfer-index _ c.loop-transfer-test.true in
    record {
      bytes = laid-bytes transfer_bytes transfer_of c.args.transfers.now c.loop-transfer.transfer-index _ next
          c.loop-transfer.bytes.items c.add_transfer.new.bytes.items added.bytes before.bytes;
      length = laid-length transfer_bytes transfer_of c.args.transfers.now c.loop-transfer.transfer-index _ next
          c.loop-transfer.bytes.items c.add_transfer.new.bytes.items added.bytes 128 (λ k. omega arith)
          before.length added.length;
      events = laid-events transfer_bytes transfer_of c.args.transfers.now c.loop-transfer.transfer-index _ next
          c.loop-transfer.bytes.items c.add_transfer.new.bytes.items added.bytes 128 (λ k. omega arith) (λ k. omega arith)
          before.length added.length
          added.read_back before.events;
    }

pub returns-clause-bytes : goal.returns-clause-bytes
returns-clause-bytes c =
    c.loop-transfer.invariant.bytes
    ∙ ap (flat_map transfer_bytes) (take_all c.loop-transfer.transfer-index c.args.transfers.now c.loop-transfer-test.false)

pub returns-clause-events : goal.returns-clause-events
returns-clause-events c =
    c.loop-transfer.invariant.events ∙ take_all c.loop-transfer.transfer-index c.args.transfers.now c.loop-transfer-test.false
