use Rattle.std.proofs.Common.{◌≡◌, ◌*◌, ◌++◌, take, drop, length}
use Rattle.kip.proofs.Words.{flat_map, account_bytes}
use Rattle.kip.proofs.reading.put_accounts.Given as goal

abbrev pub invariant-loop-account : goal.invariant-loop-account
invariant-loop-account l =
    let written = flat_map account_bytes (take l.account-index l.fn.accounts) in
    (l.offset ≡ 128 * l.account-index)
    × (length written ≡ l.offset)
    × (l.out ≡ written ++ drop l.offset l.fn.out)
    × (length l.out ≡ length l.fn.out)
