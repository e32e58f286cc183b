use Rattle.std.proofs.Common.{refl, subst, sym}
use Rattle.tb_core.proofs.Words.{IsApplied}
use Rattle.tb_core.proofs.any_ledger.LedgerAnyLedger.apply.Goals as goal

pub returns : goal.returns
returns c = record {
  applied = λ old was. (
    c.apply.new.self,
    refl,
    subst (λ ledger. IsApplied ledger c.args.parcel c.apply.result c.apply.new.self) (sym was) c.apply.ensures,
  );
}
