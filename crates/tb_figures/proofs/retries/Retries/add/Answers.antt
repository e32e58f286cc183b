use Rattle.std.proofs.Common.{◌≡◌, ◌∙◌, ap, arith, subst, sym}
use Rattle.tb_figures.proofs.Words.{OnOk, AreOrdered, IsIndexFor, RetriesState, inserted, waiting_one}
use Rattle.tb_figures.proofs.RetryLemmas.{insert_is, ordered_more}
use Rattle.tb_figures.proofs.retries.Retries.add.Goals as goal
use Rattle.tb_figures.proofs.retries.Retries.add.Goals.{in-Ok, in-Err}

pub invariant_of-self : goal.invariant_of-self
invariant_of-self g c =
    let is = c.self.invariant in
    elim c.match-insert.branch [
      | in-Ok w ↦
          let said = w.in-Ok.ensures in
          let at = subst (λ xs. IsIndexFor xs c.args.moment c.index_for-index.result) c.deref.ensures.value
          c.index_for-index.ensures in
          record {
            ordered = subst AreOrdered (sym (said.items ∙ insert_is (waiting_one c.args.moment c.args.item) c.self.inside.waiting.items c.index_for-index.result at))
                (ordered_more (waiting_one c.args.moment c.args.item) _ is.ordered);
            few = omega (arith, said.len, c.if-len-self.false, c.len.ensures, is.few);
            room = omega (arith, is.room, said.capacity);
          }
      | in-Err w ↦
          let said = w.in-Err.ensures in
          record {
            ordered = subst AreOrdered (sym said.items) is.ordered;
            few = omega (arith, said.len, is.few);
            room = omega (arith, is.room, said.capacity);
          }
    ]

pub returns-clause-ok : goal.returns-clause-ok
returns-clause-ok g c =
    elim c.match-insert.branch [
      | in-Ok w ↦
          let said = w.in-Ok.ensures in
          let at = subst (λ xs. IsIndexFor xs c.args.moment c.index_for-index.result) c.deref.ensures.value
          c.index_for-index.ensures in
          subst (λ r. OnOk r (c.insert.new.self.items ≡ inserted (waiting_one c.args.moment c.args.item)
          c.args.self.now.waiting)) (sym w.result-is)
          (said.items ∙ insert_is (waiting_one c.args.moment c.args.item) c.self.inside.waiting.items c.index_for-index.result at
          ∙ ap (λ (s : RetriesState g.row.T.Denot). inserted (waiting_one c.args.moment c.args.item) s.waiting) c.self.view_is)
      | in-Err w ↦
          subst (λ r. OnOk r (c.insert.new.self.items ≡ inserted (waiting_one c.args.moment c.args.item)
          c.args.self.now.waiting)) (sym w.result-is) tt
    ]
