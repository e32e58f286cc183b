-- A transfer in 128 bytes.
use Rattle.std.specs.Prelude.{ℕ, List, Bool, ◌||◌}
use Rattle.tb_layout.specs.declared.transfer.Transfer.{Transfer}
use Rattle.tb_layout.specs.claim.Bytes.{number_at, has_flag}

abbrev pub transfer_of : List ℕ → Transfer
transfer_of bytes =
    let at = number_at bytes in
    record {
      id = at 0 16;
      debit_account_id = at 16 16;
      credit_account_id = at 32 16;
      amount = at 48 16;
      pending_id = at 64 16;
      user_data_128 = at 80 16;
      user_data_64 = at 96 8;
      user_data_32 = at 104 4;
      timeout = at 108 4;
      ledger = at 112 4;
      code = at 116 2;
      flags = at 118 2;
      timestamp = at 120 8;
    }

abbrev pub is_linked : Transfer → Bool
is_linked transfer = has_flag transfer.flags 0

abbrev pub is_pending : Transfer → Bool
is_pending transfer = has_flag transfer.flags 1

abbrev pub is_post : Transfer → Bool
is_post transfer = has_flag transfer.flags 2

abbrev pub is_void : Transfer → Bool
is_void transfer = has_flag transfer.flags 3

abbrev pub is_resolving : Transfer → Bool
is_resolving transfer = is_post transfer || is_void transfer
