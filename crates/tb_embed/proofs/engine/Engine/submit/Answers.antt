use Rattle.std.proofs.Common.{◌≡◌, sym, subst, ap, ◌∙◌, arith, ◌+◌, ◌<◌, ◌≤◌, get_or, length}
use Rattle.tb_embed.proofs.Words.{slice_set, Numbered, EngineState, Queues, packet_ticket, ticket_of}
use Rattle.tb_work.specs.declared.item.Item.TheVariants as item
use Rattle.tb_embed.proofs.EngineRun.{Took, packet_serves}
use Rattle.tb_embed.proofs.engine.Engine.submit.Goals as goal

pub returns-clause-ok : goal.returns-clause-ok
returns-clause-ok c =
    let old = c.args.self.now in
    let new = c.take.new.self in
    let submitter = c.args.submitter in
    let number = get_or c.self.inside.senders.numbers submitter 0 in
    let done = c.in_default.ensures in
    let known = c.self.invariant in
    let next = λ (s : EngineState). get_or s.numbers submitter 0 in
    let same : get_or c.self-2.inside.senders.numbers submitter 0 ≡ number =
    ap next c.self-2.view_is ∙ ap (λ numbers. get_or numbers submitter 0) done.same.0 ∙ ap next (sym c.self.view_is) in
    rw (c.count.ensures.counted, c.count.ensures.number, same) (
    subst (λ (s : EngineState). Queues old (packet_ticket submitter number c.args.packet)
    (record s { numbers = slice_set s.numbers submitter (number + 1) }))
    (sym c.self-2.view_is)
    (packet_serves submitter number c.args.packet (ap next (sym c.self.view_is))
    (subst (λ (job : Numbered). Took old (ticket_of submitter (item.Packet job)) new) c.in_ok-job.ensures.job
    (record { takes = done.taken; steps = done.steps; stopped = done.stopped; sound = done.front; same = done.same }))
    (subst (λ (s : EngineState). submitter < s.front.submitters) c.self.view_is (omega (arith, known.counted, c.in_ok-job.ensures.among)))
    (subst (λ (s : EngineState). s.front.submitters ≤ length s.numbers) c.self.view_is
    (omega (arith, known.counted, known.among, known.each)))))
