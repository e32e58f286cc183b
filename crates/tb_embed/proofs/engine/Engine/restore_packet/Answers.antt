use Rattle.std.proofs.Common.{subst, sym, ◌∙◌}
use Rattle.tb_embed.specs.clauses.Restoring.{RestoresTicket}
use Rattle.tb_embed.proofs.Words.{packet_ticket}
use Rattle.tb_embed.proofs.Restored.{has_next_number}
use Rattle.tb_embed.proofs.engine.Engine.restore_packet.Goals as goal

pub returns-in-Ok-clause-ok : goal.returns-in-Ok-clause-ok
returns-in-Ok-clause-ok c =
    subst (λ number. RestoresTicket c.args.self.now (packet_ticket c.args.entry.submitter number c.args.entry.packet) c.commit_alone.new.self)
    (has_next_number c.args.self.now c.args.entry (sym c.packet_fault.ensures ∙ c.in_default.is)) c.in-Ok.ensures.ok
