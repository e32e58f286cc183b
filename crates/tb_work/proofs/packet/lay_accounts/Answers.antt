use Rattle.std.proofs.Common.{ap, ◌∙◌, arith}
use Rattle.tb_work.proofs.Words.{flat_map, take_all, take_more, account_bytes, account_of}
use Rattle.tb_work.proofs.Laid.{laid-bytes, laid-length, laid-events}
use Rattle.tb_work.proofs.packet.lay_accounts.Goals as goal

pub loop-account-preserved : goal.loop-account-preserved
loop-account-preserved c =
    let before = c.loop-account.invariant in
    let added = c.in_ok-add_account.ensures in
    let next = take_more c.args.accounts.now c.loop-account.account-index _ c.loop-account-test.true in
    record {
      bytes = laid-bytes account_bytes account_of c.args.accounts.now c.loop-account.account-index _ next
          c.loop-account.bytes.items c.add_account.new.bytes.items added.bytes before.bytes;
      length = laid-length account_bytes account_of c.args.accounts.now c.loop-account.account-index _ next
          c.loop-account.bytes.items c.add_account.new.bytes.items added.bytes 128 (λ k. omega arith)
          before.length added.length;
      events = laid-events account_bytes account_of c.args.accounts.now c.loop-account.account-index _ next
          c.loop-account.bytes.items c.add_account.new.bytes.items added.bytes 128 (λ k. omega arith) (λ k. omega arith)
          before.length added.length
          added.read_back before.events;
    }

pub returns-clause-bytes : goal.returns-clause-bytes
returns-clause-bytes c =
    c.loop-account.invariant.bytes
    ∙ ap (flat_map account_bytes) (take_all c.loop-account.account-index c.args.accounts.now c.loop-account-test.false)

pub returns-clause-events : goal.returns-clause-events
returns-clause-events c =
    c.loop-account.invariant.events ∙ take_all c.loop-account.account-index c.args.accounts.now c.loop-account-test.false
