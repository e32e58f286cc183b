use Rattle.std.proofs.Common.{refl, sym, ◌∙◌, inl, inr, rules}
use Rattle.kip.proofs.calls.checked_packet.Goals as goal

pub returns-in-Some-clause-refusal : goal.returns-in-Some-clause-refusal
returns-in-Some-clause-refusal c = inl (sym (c.refusal_of.ensures c.args.user) ∙ c.in-Some.is)

pub returns-in-Err-clause-refusal : goal.returns-in-Err-clause-refusal
returns-in-Err-clause-refusal c = inr (sym (c.refusal_of.ensures c.args.user) ∙ c.in_default.is, refl)

pub returns-in-Some-clause-ok : goal.returns-in-Some-clause-ok
returns-in-Some-clause-ok c = search rules

pub returns-in-Ok-clause-ok : goal.returns-in-Ok-clause-ok
returns-in-Ok-clause-ok c = search rules

pub returns-in-Err-clause-ok : goal.returns-in-Err-clause-ok
returns-in-Err-clause-ok c = search rules
