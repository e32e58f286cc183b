use Rattle.std.proofs.Common.{◌≡◌, map, take}
use Rattle.tb_program.proofs.Words.{operation_in}
use Rattle.tb_program.proofs.list.operations_of.Given as goal

abbrev pub invariant-loop-item : goal.invariant-loop-item
invariant-loop-item l = l.operations.items ≡ map operation_in (take l.item-index l.items)
