use Rattle.std.proofs.Common.{◌≡◌, ◌*◌, length, take}
use Rattle.tb_work.proofs.Words.{flat_map, account_bytes, accounts_of}
use Rattle.tb_work.proofs.packet.lay_accounts.Given as goal

abbrev pub invariant-loop-account : goal.invariant-loop-account
invariant-loop-account l = record {
  bytes : l.bytes.items ≡ flat_map account_bytes (take l.account-index l.accounts);
  length : length l.bytes.items ≡ l.account-index * 128;
  events : accounts_of l.bytes.items ≡ take l.account-index l.accounts;
}
