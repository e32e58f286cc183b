use Rattle.std.proofs.Common.{◌∙◌, ap, sym, subst, arith, length, length-set, nat_eq, set}
use Rattle.tb_tables.proofs.Words.{IsDistinct, entries_of}
use Rattle.tb_tables.proofs.Columns.{transfer-is, within, set-itself, set-entry, keys-entries}
use Rattle.tb_tables.proofs.transfers.Transfers.set_status.Goals as goal

pub index_mut-requires : goal.index_mut-requires
index_mut-requires c =
    let there = rw (← c.self.view_is) at c.requires in
    let inside = within c.self.inside.rows.entries c.self.inside.statuses.items c.args.index c.self.invariant there in
    omega (arith, inside, c.self.invariant, c.self.inside.statuses.ok.0)

pub pair_mut-stored-requires : goal.pair_mut-stored-requires
pair_mut-stored-requires c =
    within c.self.inside.rows.entries c.self.inside.statuses.items c.args.index c.self.invariant
    (rw (← c.self.view_is) at c.requires)

pub invariant_of-self : goal.invariant_of-self
invariant_of-self c =
    length-set c.self.inside.statuses.items _ c.of.result ∙ c.self.invariant
    ∙ sym (ap length (set-itself c.self.inside.rows.entries c.args.index _ _ c.pair_mut-stored.ensures.value))

pub returns-clause-transfer : goal.returns-clause-transfer
returns-clause-transfer c = λ id row at.
    c.transfer.ensures ∙ transfer-is c.self.inside.rows.entries c.self.inside.statuses.items c.args.index
    c.self.invariant c.pair_mut-stored.ensures.value (rw (← c.self.view_is) at at)

pub returns-clause-entries : goal.returns-clause-entries
returns-clause-entries c = λ id row at.
    let statuses = c.self.inside.statuses.items in
    rw (← c.self.view_is) (ap (λ rows. entries_of rows (set statuses c.args.index c.of.result))
    (set-itself c.self.inside.rows.entries c.args.index _ _ c.pair_mut-stored.ensures.value)
    ∙ set-entry c.self.inside.rows.entries statuses c.args.index c.of.result c.of.ensures (rw (← c.self.view_is) at at))

pub returns-clause-unique : goal.returns-clause-unique
returns-clause-unique c =
    rw (← c.self.view_is) (subst (IsDistinct nat_eq) (sym (keys-entries c.self.inside.rows.entries
    c.self.inside.statuses.items c.self.invariant)) c.pair_mut-stored.ensures.unique)
