use Rattle.std.proofs.Common.{◌≡◌, ◌++◌}
use Rattle.tb_world.proofs.Words.{run}
use Rattle.tb_world.proofs.world.World.go_through.Given as goal

abbrev pub invariant-loop-event : goal.invariant-loop-event
invariant-loop-event l = record {
  left : run l.fn.self l.fn.events.items ≡ run l.self l.event-iterator.rest.items;
  so_far : l.self ≡ run l.fn.self l.yielded;
  all : l.fn.events.items ≡ l.yielded ++ l.event-iterator.rest.items;
}
