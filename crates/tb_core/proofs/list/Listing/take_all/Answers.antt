use Rattle.std.proofs.Common.{◌≡◌, sym, ap, ◌∙◌, [], ◌∷◌, ◌++◌, append-nil, append_assoc}
use Rattle.tb_core.proofs.Words.{nil_from_length}
use Rattle.tb_core.proofs.list.Listing.take_all.Goals as goal

pub loop-item-init : goal.loop-item-init
loop-item-init c = record {
  none = c.new-parcels.ensures;
  runs = λ start limit run. record {
    done = [];
    parts = sym c.into_iter-item-iterator.ensures.into_iter_gives.0;
    run = run;
  };
}

pub loop-item-preserved : goal.loop-item-preserved
loop-item-preserved c = record {
  none = c.in_ok-take.ensures.none;
  runs = λ start limit run.
      let way = c.loop-item.invariant.runs start limit run in
      record {
        done = way.done ++ c.in-Some.item ∷ [];
        parts = way.parts ∙ ap (λ rest. way.done ++ rest) c.in-Some.ensures.steps.0
            ∙ sym (append_assoc way.done (c.in-Some.item ∷ []) c.next.new.self.rest.items);
        run = c.in_ok-take.ensures.runs start limit way.done way.run;
      };
}

pub returns : goal.returns
returns c = λ start limit run.
    let way = c.loop-item.invariant.runs start limit run in
    let rest = c.loop-item.item-iterator.rest in
    let none : rest.items ≡ [] = nil_from_length rest.items (sym rest.ok.0 ∙ c.in-None.ensures.steps.0) in
    rw (way.parts ∙ ap (λ rest. way.done ++ rest) none ∙ append-nil way.done) way.run
