use Rattle.std.proofs.Common.{◌∙◌}
use Rattle.tb_tables.proofs.ChangedBalances as settling
use Rattle.tb_tables.proofs.storing.undo_transfer.Goals as goal

pub pop-transfer-requires : goal.pop-transfer-requires
pop-transfer-requires c = settling.some-row c.requires.2

pub take_expiry_back-requires : goal.take_expiry_back-requires
take_expiry_back-requires c =
    rw (settling.popped c.requires.2 c.pop-transfer.ensures).0 (settling.expiry-fits c.requires.2)

pub unapply-requires : goal.unapply-requires
unapply-requires c =
    let off = (settling.popped c.requires.2 c.pop-transfer.ensures).1 in
    (off.step, off.after)

pub returns-clause-maps : goal.returns-clause-maps
returns-clause-maps c = λ facts t stored.
    let off = (settling.popped stored c.pop-transfer.ensures).1 in
    off.back (c.unapply.ensures off.step off.after)

pub returns-clause-pairs : goal.returns-clause-pairs
returns-clause-pairs c = λ facts t stored.
    rw (c.len.ensures ∙ (settling.popped stored c.pop-transfer.ensures).1.count) at c.take_expiry_back.ensures.others

pub returns-clause-gone : goal.returns-clause-gone
returns-clause-gone c = λ facts t stored before is.
    let popped = settling.popped stored c.pop-transfer.ensures in
    (rw (c.len.ensures ∙ popped.1.count, popped.0) at c.take_expiry_back.ensures.gone) before is
