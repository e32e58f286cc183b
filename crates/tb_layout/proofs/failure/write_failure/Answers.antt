use Rattle.std.proofs.Common.{ap, sym, ◌∙◌, ◌≡◌, arith, take, append_assoc, append-nil}
use Rattle.std.proofs.lemmas.List.{take_all}
use Rattle.tb_layout.specs.clauses.Failure.{failure_of, failure_bytes}
use Rattle.tb_layout.proofs.Records.{failure_of-failure_bytes, failure_bytes-failure_of}
use Rattle.tb_layout.proofs.failure.write_failure.Goals as goal

pub returns : goal.returns
returns c =
    let front : take 8 c.write_u32-2.new.bytes ≡ failure_bytes c.args.failure.now = rw
    (c.write_u32-2.ensures.front, c.write_u32.ensures.front) (simp (append_assoc, append-nil)) in
    let all : c.write_u32-2.new.bytes ≡ failure_bytes c.args.failure.now = sym
    (take_all 8 c.write_u32-2.new.bytes (omega (arith, c.write_u32-2.auto.bytes))) ∙ front in
    record {
      value = all;
      read_back = ap failure_of all ∙ failure_of-failure_bytes c.args.failure.now c.write_u32.ensures.fits
          c.write_u32-2.ensures.fits;
      reads_only_so = λ bytes is same. sym (failure_bytes-failure_of bytes is) ∙ ap failure_bytes same ∙ sym all;
    }
