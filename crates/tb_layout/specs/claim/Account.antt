-- An account in 128 bytes.
use Rattle.std.specs.Prelude.{ℕ, List, Bool}
use Rattle.tb_layout.specs.declared.account.Account.{Account}
use Rattle.tb_layout.specs.claim.Bytes.{number_at, has_flag}

abbrev pub account_of : List ℕ → Account
account_of bytes =
    let at = number_at bytes in
    record {
      id = at 0 16;
      debits_pending = at 16 16;
      debits_posted = at 32 16;
      credits_pending = at 48 16;
      credits_posted = at 64 16;
      user_data_128 = at 80 16;
      user_data_64 = at 96 8;
      user_data_32 = at 104 4;
      reserved = at 108 4;
      ledger = at 112 4;
      code = at 116 2;
      flags = at 118 2;
      timestamp = at 120 8;
    }

abbrev pub is_linked : Account → Bool
is_linked account = has_flag account.flags 0

abbrev pub debits_must_not_exceed_credits : Account → Bool
debits_must_not_exceed_credits account = has_flag account.flags 1

abbrev pub credits_must_not_exceed_debits : Account → Bool
credits_must_not_exceed_debits account = has_flag account.flags 2
