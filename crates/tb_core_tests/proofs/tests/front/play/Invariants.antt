use Rattle.std.proofs.Common.{◌≡◌}
use Rattle.tb_core_tests.proofs.tests.front.play.Given as goal

abbrev pub invariant-loop-line : goal.invariant-loop-line
invariant-loop-line g l = l.front.submitters ≡ l.initial.front.submitters
