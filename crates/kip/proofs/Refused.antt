-- What is refused, or there is nothing to read, before anything was done.
use Rattle.std.proofs.Common.{◌≡◌, refl, sym, ap, ◌∙◌, arith, ℕ, Option, Some, None, Bor, inl, inr, ◌≤◌, nat_lt, not, true, false, List, length}
use Rattle.kip.proofs.Words.{RecordedState, readable}
use Rattle.std.specs.Option.{option_copied}
use Rattle.tb_work.specs.claim.Packet.{ReplyValue}
use Rattle.kip.specs.clauses.Handle.{IsPeek, no_reply, open_refusal}
use Rattle.kip.specs.declared.reading.KipReply.{KipReply}
use Rattle.std.specs.Prelude.{◌==◌}
use Rattle.std.proofs.lemmas.Bool.Decides.{nat_tests}
use Rattle.tb_layout.specs.claim.Limits.{clock_max}
use Rattle.tb_core.specs.claim.Front.{opening_refusal}
use Rattle.tb_work.specs.declared.refusal.Refusal.TheVariants.{InvalidDataSize}
use Rattle.tb_embed.specs.declared.restoring.RestoreFault.TheVariants.{Refused}
use Rattle.kip.specs.clauses.Entries.{restore_fault}
use Rattle.kip.specs.declared.entries.KipEntry.{KipEntry}

-- without a next reply none can be read
pub none_to_read : (head : KipReply) (buffer : List ℕ) (host : RecordedState) (found : Option (Bor ReplyValue)) → found ≡ None
    → option_copied found ≡ readable host → IsPeek no_reply head buffer buffer host
none_to_read head buffer host found is next = record {
  copied = λ e. absurd (omega (arith, e));
  none = λ e. sym (ap option_copied (sym is) ∙ next);
  small = λ e. absurd (omega (arith, e));
  same = λ other. refl;
  one_of = inr (inl refl);
}

-- what is opened isn't refused
pub opens : (clock limit submitters : ℕ) → clock ≤ clock_max → opening_refusal limit submitters ≡ None
    → open_refusal clock limit submitters ≡ None
opens clock limit submitters early none =
    let is_early : nat_lt clock_max clock ≡ false = grind (arith, nat_tests, early) in
    rw is_early none

-- an entry isn't restored if its data has another size
pub another_size : (host : RecordedState) (entry : KipEntry) (bytes : List ℕ) → (entry.size ≡ length bytes → ⊥)
    → restore_fault host entry bytes ≡ Some (Refused InvalidDataSize)
another_size host entry bytes other =
    let differs : not (entry.size == length bytes) ≡ true = grind (arith, nat_tests, other) in
    rw differs refl
