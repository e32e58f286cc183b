use Rattle.std.proofs.Common.{arith, sym, ap, ◌∙◌}
use Rattle.std.specs.Cmp.Lexicographic.{same_text}
use Rattle.sqlite_value.specs.declared.value.Value.TheVariants.{Text}
use Rattle.tb_durable.proofs.OpenedFiles.{one-item}
use Rattle.tb_durable.proofs.file.is_ledger.Goals as goal

pub returns-in-Text-clause-ledger : goal.returns-in-Text-clause-ledger
returns-in-Text-clause-ledger c = λ same. record {
  row = c.table-item.result;
  only = one-item c.args.objects.now (omega (arith, c.in-len1.len_at_least, c.in-len1.len_below)) c.table-item.is;
  text = sym c.in-Text.ensures ∙ ap Text (same_text _ _ (sym same ∙ c.eq.ensures) ∙ c.as_bytes.ensures.value);
}
