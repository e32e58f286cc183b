use Rattle.std.proofs.Common.{ap, sym, ◌∙◌, ◌≡◌, arith, take, append_assoc, append-nil}
use Rattle.std.proofs.lemmas.List.{take_all}
use Rattle.tb_layout.specs.claim.Transfer.{transfer_of}
use Rattle.tb_layout.specs.clauses.Records.{transfer_bytes}
use Rattle.tb_layout.proofs.Records.{transfer_of-transfer_bytes, transfer_bytes-transfer_of}
use Rattle.tb_layout.proofs.transfer.write_transfer.Goals as goal

pub returns : goal.returns
returns c =
    let front : take 128 c.write_u64-2.new.bytes ≡ transfer_bytes c.args.transfer.now =
    rw (
      c.write_u64-2.ensures.front,
      c.write_u16-2.ensures.front,
      c.write_u16.ensures.front,
      c.write_u32-3.ensures.front,
      c.write_u32-2.ensures.front,
      c.write_u32.ensures.front,
      c.write_u64.ensures.front,
      c.write_u128-6.ensures.front,
      c.write_u128-5.ensures.front,
      c.write_u128-4.ensures.front,
      c.write_u128-3.ensures.front,
      c.write_u128-2.ensures.front,
      c.write_u128.ensures.front,
    ) (simp (append_assoc, append-nil)) in
    let all : c.write_u64-2.new.bytes ≡ transfer_bytes c.args.transfer.now = sym
    (take_all 128 c.write_u64-2.new.bytes (omega (arith, c.write_u64-2.auto.bytes))) ∙ front in
    record {
      value = all;
      read_back = ap transfer_of all ∙ transfer_of-transfer_bytes c.args.transfer.now (record {
        id = c.write_u128.ensures.fits;
        debit_account_id = c.write_u128-2.ensures.fits;
        credit_account_id = c.write_u128-3.ensures.fits;
        amount = c.write_u128-4.ensures.fits;
        pending_id = c.write_u128-5.ensures.fits;
        user_data_128 = c.write_u128-6.ensures.fits;
        user_data_64 = c.write_u64.ensures.fits;
        user_data_32 = c.write_u32.ensures.fits;
        timeout = c.write_u32-2.ensures.fits;
        ledger = c.write_u32-3.ensures.fits;
        code = c.write_u16.ensures.fits;
        flags = c.write_u16-2.ensures.fits;
        timestamp = c.write_u64-2.ensures.fits;
      });
      reads_only_so = λ bytes is same. sym (transfer_bytes-transfer_of bytes is) ∙ ap transfer_bytes same ∙ sym all;
    }
