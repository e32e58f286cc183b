use Rattle.tb_tables.proofs.Words.{contents_in, facts_of, stamped}
use Rattle.tb_tables.proofs.LookUps.{is-done, isn't-done, new-by-id, transfers-length}
use Rattle.tb_tables.proofs.Pairs.{put-pair}
use Rattle.tb_tables.proofs.StoredTransfers as stepping
use Rattle.tb_tables.proofs.UndoList.{transfer-made}
use Rattle.tb_tables.proofs.tables.Tables.store.Goals as goal

pub apply-requires : goal.apply-requires
apply-requires c =
    let r = rw (← c.self.view_is) at c.requires in
    let pushed = stepping.pushed (contents_in c.self.inside) c.self.invariant.consistent
    (stamped c.args.timestamp c.args.event.now) c.args.indices r.at r.may c.push_transfer-added.ensures.new
    (is-done _ c.push_transfer-added.result c.if-eq.ensures) c.push_transfer-added.ensures.added in
    (c.args.timestamp, pushed.step, pushed.before)

pub invariant_of-self-then-eq : goal.invariant_of-self-then-eq
invariant_of-self-then-eq c =
    let old = contents_in c.self.inside in
    let t = stamped c.args.timestamp c.args.event.now in
    let r = rw (← c.self.view_is) at c.requires in
    let done = is-done _ c.push_transfer-added.result c.if-eq.ensures in
    let pushed = stepping.pushed old c.self.invariant.consistent t c.args.indices r.at r.may
    c.push_transfer-added.ensures.new done c.push_transfer-added.ensures.added in
    let put = put-pair (facts_of old) t c.self.inside.expiries (c.push_transfer-added.ensures.put done)
    (transfers-length c.self.invariant.consistent.hold) in
    rw (c.push_reserved.ensures.items, c.reserve.ensures.items)
    (transfer-made c.self.inside.changes.items old c.self.invariant pushed
    (c.apply.ensures c.args.timestamp pushed.step pushed.before) put).0

pub returns-then-eq-clause-added : goal.returns-then-eq-clause-added
returns-then-eq-clause-added c = λ _.
    let old = contents_in c.self.inside in
    let t = stamped c.args.timestamp c.args.event.now in
    let r = rw (← c.self.view_is) at c.requires in
    let done = is-done _ c.push_transfer-added.result c.if-eq.ensures in
    let pushed = stepping.pushed old c.self.invariant.consistent t c.args.indices r.at r.may
    c.push_transfer-added.ensures.new done c.push_transfer-added.ensures.added in
    let put = put-pair (facts_of old) t c.self.inside.expiries (c.push_transfer-added.ensures.put done)
    (transfers-length c.self.invariant.consistent.hold) in
    rw (← c.self.view_is, c.push_reserved.ensures.items, c.reserve.ensures.items)
    (transfer-made c.self.inside.changes.items old c.self.invariant pushed
    (c.apply.ensures c.args.timestamp pushed.step pushed.before) put).1

pub invariant_of-self-else-eq : goal.invariant_of-self-else-eq
invariant_of-self-else-eq c =
    let same = c.push_transfer-added.ensures.same (isn't-done _ c.push_transfer-added.result c.if-eq.ensures) in
    rw (same.0, same.1, c.reserve.ensures.items) c.self.invariant

pub returns-then-eq-clause-new : goal.returns-then-eq-clause-new
returns-then-eq-clause-new c =
    rw (← c.self.view_is) (rw (new-by-id c.self.invariant.consistent.hold c.args.event.now.id) at
    c.push_transfer-added.ensures.new)

pub returns-else-eq-clause-new : goal.returns-else-eq-clause-new
returns-else-eq-clause-new c =
    rw (← c.self.view_is) (rw (new-by-id c.self.invariant.consistent.hold c.args.event.now.id) at
    c.push_transfer-added.ensures.new)
