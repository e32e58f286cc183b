use Rattle.std.proofs.Common.{ap, sym, ◌∙◌, ◌≡◌, arith, take, append_assoc, append-nil}
use Rattle.std.proofs.lemmas.List.{take_all}
use Rattle.tb_layout.specs.claim.Account.{account_of}
use Rattle.tb_layout.specs.clauses.Records.{account_bytes}
use Rattle.tb_layout.proofs.Records.{account_of-account_bytes, account_bytes-account_of}
use Rattle.tb_layout.proofs.account.write_account.Goals as goal

pub returns : goal.returns
returns c =
    let front : take 128 c.write_u64-2.new.bytes ≡ account_bytes c.args.account.now =
    rw (
      c.write_u64-2.ensures.front,
      c.write_u16-2.ensures.front,
      c.write_u16.ensures.front,
      c.write_u32-3.ensures.front,
      c.write_u32-2.ensures.front,
      c.write_u32.ensures.front,
      c.write_u64.ensures.front,
      c.write_u128-6.ensures.front,
      c.write_u128-5.ensures.front,
      c.write_u128-4.ensures.front,
      c.write_u128-3.ensures.front,
      c.write_u128-2.ensures.front,
      c.write_u128.ensures.front,
    ) (simp (append_assoc, append-nil)) in
    let all : c.write_u64-2.new.bytes ≡ account_bytes c.args.account.now = sym
    (take_all 128 c.write_u64-2.new.bytes (omega (arith, c.write_u64-2.auto.bytes))) ∙ front in
    record {
      value = all;
      read_back = ap account_of all ∙ account_of-account_bytes c.args.account.now (record {
        id = c.write_u128.ensures.fits;
        debits_pending = c.write_u128-2.ensures.fits;
        debits_posted = c.write_u128-3.ensures.fits;
        credits_pending = c.write_u128-4.ensures.fits;
        credits_posted = c.write_u128-5.ensures.fits;
        user_data_128 = c.write_u128-6.ensures.fits;
        user_data_64 = c.write_u64.ensures.fits;
        user_data_32 = c.write_u32.ensures.fits;
        reserved = c.write_u32-2.ensures.fits;
        ledger = c.write_u32-3.ensures.fits;
        code = c.write_u16.ensures.fits;
        flags = c.write_u16-2.ensures.fits;
        timestamp = c.write_u64-2.ensures.fits;
      });
      reads_only_so = λ bytes is same. sym (account_bytes-account_of bytes is) ∙ ap account_bytes same ∙ sym all;
    }
