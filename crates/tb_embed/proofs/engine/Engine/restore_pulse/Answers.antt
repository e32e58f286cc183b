use Rattle.std.proofs.Common.{rules, sym, ◌∙◌}
use Rattle.tb_embed.proofs.Restored.{has_place, pulse_restores}
use Rattle.tb_embed.proofs.engine.Engine.restore_pulse.Goals as goal

pub returns-in-Ok-clause-ok : goal.returns-in-Ok-clause-ok
returns-in-Ok-clause-ok c =
    pulse_restores c.args.self.now c.args.entry.moment c.pulse.new.self (sym c.is_idle.ensures ∙ c.if-not-is_idle.false)
    (has_place c.args.self.now c.args.entry.place (sym c.is_next_place.ensures ∙ c.if-not-is_next_place.false)) (search rules)
    c.in-Ok.ensures.ok
