use Rattle.std.proofs.Common.{◌∙◌, arith, inl, inr, refl, subst, sym, take}
use Rattle.sqlite_trees.specs.View.{IsClean}
use Rattle.std.proofs.lemmas.List.{nil_from_length}
use Rattle.std.proofs.lemmas.Bool.{eqb-true}
use Rattle.tb_durable.proofs.OpenedFiles.{nil_from_map}
use Rattle.tb_durable.specs.clauses.Opened.{IsLedger}
use Rattle.tb_durable.proofs.file.prepare.Goals as goal

pub returns-then-is_empty-clause-kept : goal.returns-then-is_empty-clause-kept
returns-then-is_empty-clause-kept g c = λ clean.
    let was : IsClean (g.S.Store.view c.args.store.now) = omega (arith, c.make_table.ensures.clean, clean) in
    inr (nil_from_map (take 5) _ (sym (c.in_ok-objects.ensures.objects was) ∙ nil_from_length c.in_ok-objects.objects.items (sym c.in_ok-objects.objects.ok.0 ∙ eqb-true _ 0 (sym c.is_empty.ensures ∙ c.if-is_empty.true))), c.in_ok-make_table.ensures.made clean)

pub returns-then-is_ledger-clause-kept : goal.returns-then-is_ledger-clause-kept
returns-then-is_ledger-clause-kept g c = λ clean.
    inl (refl, subst IsLedger (c.as_slice.ensures.value ∙ c.in_ok-objects.ensures.objects clean) (c.is_ledger.ensures.ledger c.if-is_ledger.true))
