use Rattle.std.proofs.Common.{◌≡◌, ◌+◌, drop, map}
use Rattle.tb_machine.proofs.Words.{first_chain_length}
use Rattle.tb_machine.proofs.chain.first_chain_length.Given as goal

abbrev pub invariant-loop-index : goal.invariant-loop-index
invariant-loop-index g l =
    first_chain_length g.E.CreateEvent.operation.is_linked (map g.E.CreateEvent.event_of l.chunks)
    ≡ l.index + first_chain_length g.E.CreateEvent.operation.is_linked (map g.E.CreateEvent.event_of (drop l.index l.chunks))
