use Rattle.std.proofs.Common.{◌≡◌, replicate}
use Rattle.tb_world.proofs.Words.{newcomer}
use Rattle.tb_world.proofs.world.newcomers.Given as goal

abbrev pub invariant-loop : goal.invariant-loop
invariant-loop l = l.senders.items ≡ replicate l.counter newcomer
