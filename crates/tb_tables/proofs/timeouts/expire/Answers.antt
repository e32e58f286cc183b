use Rattle.std.proofs.Common.{◌∙◌, ap, refl}
use Rattle.tb_tables.proofs.Words.{Transfer, expire_one, sums_of}
use Rattle.tb_tables.proofs.LookUps.{has-account, are-at}
use Rattle.tb_tables.proofs.Due.{ground, there, released, can-take, expired-row}
use Rattle.tb_tables.proofs.timeouts.expire.Goals as goal

pub set_status-transfer-requires : goal.set_status-transfer-requires
set_status-transfer-requires c = rw (there c.requires.1) refl

pub indices_of-indices-requires : goal.indices_of-indices-requires
indices_of-indices-requires c =
    let can = c.requires.1 in
    let same = c.set_status-transfer.ensures.transfer _ _ (there can) in
    record {
      debit = has-account can.hold c.set_status-transfer.result.debit_account_id (rw same (ground can).debit);
      credit = has-account can.hold c.set_status-transfer.result.credit_account_id (rw same (ground can).credit);
    }

pub subtract_amount-requires : goal.subtract_amount-requires
subtract_amount-requires c =
    let can = c.requires.1 in
    let same = c.set_status-transfer.ensures.transfer _ _ (there can) in
    let found = c.indices_of-indices.ensures in
    can-take can (rw same at (are-at can.hold c.set_status-transfer.result c.indices_of-indices.result found.debit
    found.credit)) (ap (λ (t : Transfer). t.amount) same)

pub returns : goal.returns
returns c = λ facts can.
    let same = c.set_status-transfer.ensures.transfer _ _ (there can) in
    let found = c.indices_of-indices.ensures in
    let are = rw same at (are-at can.hold c.set_status-transfer.result c.indices_of-indices.result found.debit
    found.credit) in
    let taken = rw (ap (λ (t : Transfer). t.amount) same) at c.subtract_amount.ensures in
    record {
      accounts_are = taken (sums_of (expire_one can.transfer.id facts)) _ _ _ are (released can);
      transfers_are = c.set_status-transfer.ensures.entries _ _ (there can)
          ∙ expired-row can c.set_status-transfer.ensures.unique;
    }
