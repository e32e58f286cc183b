use Rattle.std.proofs.Common.{◌≡◌, take}
use Rattle.tb_program.proofs.Words.{flat_map, lists_of, operations_of}
use Rattle.tb_program.proofs.operations.operations_shared.Given as goal

abbrev pub invariant-loop-packets : goal.invariant-loop-packets
invariant-loop-packets l = l.operations.items ≡ flat_map operations_of (lists_of (take l.packets-index l.shares))
