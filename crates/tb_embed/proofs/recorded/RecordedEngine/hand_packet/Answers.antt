use Rattle.std.proofs.Common.{◌∙◌, ap, option_to_list, ◌++◌, ◌∷◌, []}
use Rattle.tb_embed.specs.contracts.recorded.RecordedEngine.{the_view}
use Rattle.tb_embed.proofs.Handed.{hands}
use Rattle.tb_embed.proofs.recorded.RecordedEngine.hand_packet.Goals as goal

pub returns-clause-some : goal.returns-clause-some
returns-clause-some c = rw (← c.self.view_is) (λ reply is.
    hands (the_view c.self.inside) c.reply.new.self c.push_back_reserved.new.self.items c.in-Some.reply reply
    (c.reply.ensures.unread ∙ ap (λ found. option_to_list found ++ c.reply.new.self.unread) c.in-Some.is) is c.in-Some.ensures.some
    (c.push_back_reserved.ensures.items ∙ ap (λ items. items ++ c.in-Some.reply ∷ []) c.in_ok-reserve.ensures.items))
