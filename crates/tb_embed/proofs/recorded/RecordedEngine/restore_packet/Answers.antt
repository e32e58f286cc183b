use Rattle.tb_embed.proofs.Restored.{is_idle_unless_refused, unseen}
use Rattle.tb_embed.proofs.Replies.{is_reply}
use Rattle.tb_embed.proofs.recorded.RecordedEngine.restore_packet.Goals as goal

pub returns-clause-ok : goal.returns-clause-ok
returns-clause-ok c = rw (← c.self.view_is) (
    unseen c.serving_is_lawful.ensures c.self.inside.engine c.restore_packet.new.self c.reply.new.self c.args.entry c.reply.result
    (is_idle_unless_refused c.self.inside.engine c.args.entry c.in_ok-restore_packet.ensures.restorable, c.in_ok-restore_packet.ensures.ok)
    (is_reply c.restore_packet.new.self c.reply.new.self c.reply.result c.reply.ensures.some c.reply.ensures.unread c.reply.ensures.none))
