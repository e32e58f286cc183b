use Rattle.std.proofs.Common.{◌∙◌, arith}
use Rattle.kip.proofs.Words.{account_bytes}
use Rattle.tb_layout.specs.declared.account.Account.{Account}
use Rattle.kip.proofs.Written.{written_more}
use Rattle.kip.proofs.reading.put_accounts.Goals as goal

-- what a loop reads outside the slice
abbrev none : Account
none = record {
  id = 0;
  debits_pending = 0;
  debits_posted = 0;
  credits_pending = 0;
  credits_posted = 0;
  user_data_128 = 0;
  user_data_64 = 0;
  user_data_32 = 0;
  reserved = 0;
  ledger = 0;
  code = 0;
  flags = 0;
  timestamp = 0;
}

pub loop-account-preserved : goal.loop-account-preserved
loop-account-preserved c =
    let had = c.loop-account.invariant in
    let put = c.put_account.ensures in
    let more = written_more account_bytes c.args.accounts.now c.loop-account.account-index none
    c.loop-account-test.true c.args.out.now had.1 had.2 put.put put.size in
    (omega (arith, had.0), more.0, more.1, put.same ∙ had.3)
