use Rattle.std.proofs.Common.{◌∙◌, ap, append-nil, refl, sym, ◌++◌}
use Rattle.tb_pipe.proofs.Words.{given, number_after}
use Rattle.tb_pipe.proofs.Cleared.{none_in_empty, one_counted, one_given}
use Rattle.tb_pipe.proofs.batching.BatchRing.give_all.Goals as goal

pub loop-parcel-preserved : goal.loop-parcel-preserved
loop-parcel-preserved g c =
    let ring = c.loop-parcel.self in
    let next = c.give.new.self in
    let is = c.loop-parcel.invariant in
    record {
      ring = c.give.ensures.ring ∙ is.ring;
      given = one_given (given ring.outlet) (given next.outlet) (given c.args.self.now.outlet) c.loop-parcel.yielded
          c.in-Some.parcel c.give.ensures.given is.given;
      counted = one_counted c.args.self.now.batches ring.batches next.batches c.loop-parcel.yielded c.in-Some.parcel
          c.give.ensures.counted is.counted;
    }

pub loop-parcel-init : goal.loop-parcel-init
loop-parcel-init g c = record {
  ring = refl;
  given = sym (append-nil (given c.args.self.now.outlet));
  counted = refl;
}

pub returns-then-is_empty-clause-given : goal.returns-then-is_empty-clause-given
returns-then-is_empty-clause-given g c =
    let outlet = c.args.self.now.outlet in
    sym (ap (λ parcels. given outlet ++ parcels)
    (none_in_empty c.args.parcels.now.items (sym c.is_empty.ensures ∙ c.if-is_empty.true)) ∙ append-nil (given outlet))

pub returns-then-is_empty-clause-counted : goal.returns-then-is_empty-clause-counted
returns-then-is_empty-clause-counted g c =
    sym (ap (number_after c.args.self.now.batches)
    (none_in_empty c.args.parcels.now.items (sym c.is_empty.ensures ∙ c.if-is_empty.true)))
