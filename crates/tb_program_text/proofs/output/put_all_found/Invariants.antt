use Rattle.std.proofs.Common.{◌≡◌, ◌++◌, take, string_bytes}
use Rattle.tb_program_text.proofs.Words.{flat_map, found_text}
use Rattle.tb_program_text.proofs.output.put_all_found.Given as goal

abbrev pub invariant-loop-account : goal.invariant-loop-account
invariant-loop-account l =
    string_bytes l.out ≡ string_bytes l.fn.out ++ flat_map found_text (take l.account-index l.accounts)
