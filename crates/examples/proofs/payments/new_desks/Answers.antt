use Rattle.std.proofs.Common.{rules, ◌≡◌, ◌+◌, ◌∙◌, ◌∷◌, ◌++◌, [], All, length, ap, sym, subst, length-append}
use Rattle.tb_drive.proofs.Opened.{all_with_driver}
use Rattle.examples.specs.clauses.Desk.{IsNew}
use Rattle.examples.specs.declared.payments.desk.Desk.{Desk}
use Rattle.examples.proofs.payments.new_desks.Goals as goal

pub loop-desk-preserved : goal.loop-desk-preserved
loop-desk-preserved g c =
    let desks = c.loop-desk.desks.items in
    let one : Desk = c.new.result in
    let pushed : c.push.new.self.items ≡ desks ++ one ∷ [] = search rules in
    record {
      ready = c.in_ok-ahead.ensures;
      number = ap length pushed ∙ length-append desks (one ∷ []) ∙ ap (λ n. n + 1) c.loop-desk.invariant.number;
      new = subst (All IsNew) (sym pushed) (all_with_driver IsNew desks one c.loop-desk.invariant.new c.new.ensures);
    }
