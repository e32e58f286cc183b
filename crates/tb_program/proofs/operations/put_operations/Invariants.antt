use Rattle.std.proofs.Common.{◌≡◌, ◌++◌, take}
use Rattle.tb_program.proofs.Words.{operations_of}
use Rattle.tb_program.proofs.operations.put_operations.Given as goal

abbrev pub invariant-loop-packet : goal.invariant-loop-packet
invariant-loop-packet l = l.out.items ≡ l.fn.out.items ++ operations_of (take l.packet-index l.packets)
