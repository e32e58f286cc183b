use Rattle.std.proofs.Common.{◌≡◌, subst, sym, true, [], slice_get}
use Rattle.std.specs.Option.{is_some}
use Rattle.tb_embed.specs.contracts.recorded.RecordedEngine.{the_view}
use Rattle.tb_embed.specs.clauses.Recorded.{readable}
use Rattle.tb_embed.proofs.Handed.{is_there, reads_found, reads_handed}
use Rattle.tb_embed.proofs.recorded.RecordedEngine.reply.Goals as goal

pub returns-then-reads_engine-clause-some : goal.returns-then-reads_engine-clause-some
returns-then-reads_engine-clause-some c =
    let can = subst (λ host. (host.handed ≡ []) × (readable host ≡ slice_get host.engine.unread 0)) (sym c.self.view_is)
    (c.reads_engine.ensures.yes c.if-reads_engine.true) in
    rw (← c.self.view_is) (reads_found (the_view c.self.inside) c.reply.new.self c.self.inside.handed.items c.reply.result
    can.0 can.0 c.reply.ensures.unread can.1 c.reply.ensures.some)

pub returns-clause-some : goal.returns-clause-some
returns-clause-some c =
    let some = is_there c.next_reply.result _ c.if-is_none.ensures c.next_reply.ensures in
    rw (← c.self.view_is) (reads_handed (the_view c.self.inside) c.pop_front.new.self.items c.pop_front.result c.self.invariant
    c.pop_front.ensures.items (subst (λ host. is_some (readable host) ≡ true) (sym c.self.view_is) some))
