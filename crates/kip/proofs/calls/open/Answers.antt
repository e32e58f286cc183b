use Rattle.std.proofs.Common.{refl, inr}
use Rattle.kip.proofs.Refused.{opens}
use Rattle.kip.proofs.calls.open.Goals as goal

pub returns-in_default-clause-refusal : goal.returns-in_default-clause-refusal
returns-in_default-clause-refusal c = inr (opens c.args.opening.clock c.args.opening.limit c.args.opening.submitters c.if-opening-gt-CLOCK_MAX.false c.in_ok-engine.ensures.opens, refl)

pub returns-clause-opens : goal.returns-clause-opens
returns-clause-opens c = opens c.args.opening.clock c.args.opening.limit c.args.opening.submitters c.if-opening-gt-CLOCK_MAX.false c.in_ok-engine.ensures.opens
