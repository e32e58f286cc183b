use Rattle.std.proofs.Common.{◌≡◌, ◌++◌, take, string_bytes}
use Rattle.tb_program.proofs.Words.{flat_map, balanced_accounts, account_line}
use Rattle.tb_program.proofs.state.put_accounts.Given as goal

abbrev pub invariant-loop-place : goal.invariant-loop-place
invariant-loop-place l =
    string_bytes l.out ≡ string_bytes l.fn.out ++ flat_map account_line
    (take l.place (balanced_accounts l.machine.facts))
