use Rattle.std.proofs.Common.{arith, ◌≡◌, [], ◌∷◌, List, refl, sym, ap, ◌∙◌, ◌++◌, append-nil, append_assoc, Some, None, slice_get, remove}
use Rattle.tb_core.proofs.Words.{Parcel, all_decisions_in, decisions_in}
use Rattle.tb_core.proofs.list.apply_all.Goals as goal

first_out : (parcels rest : List Parcel) (parcel : Parcel) → Some parcel ≡ slice_get parcels 0
    → rest ≡ remove parcels 0 → parcels ≡ parcel ∷ rest
first_out [] rest parcel is rest_is = grind arith
first_out (first ∷ others) rest parcel is rest_is = grind arith

none_left : (parcels : List Parcel) → None ≡ slice_get parcels 0 → parcels ≡ []
none_left [] is = refl
none_left (first ∷ others) is = grind arith

pub loop-parcel-init : goal.loop-parcel-init
loop-parcel-init c = λ start limit sent joined on. record { done = sent; parts = refl; joined = joined; on = on }

pub loop-parcel-preserved : goal.loop-parcel-preserved
loop-parcel-preserved c = λ start limit sent joined on.
    let rest = c.pop_at.new.self.items in
    let have = rw (first_out c.loop-parcel.parcels.items rest c.in-Some.parcel c.in-Some.ensures.value
    c.in-Some.ensures.items) at (c.loop-parcel.invariant start limit sent joined on) in
    record {
      done = have.done ++ decisions_in c.in-Some.parcel;
      parts = append_assoc have.done (decisions_in c.in-Some.parcel) (all_decisions_in rest) ∙ have.parts;
      joined = have.joined.1;
      on = c.in_ok-apply.ensures start limit have.done have.joined.0 have.on;
    }

pub returns-clause-applied : goal.returns-clause-applied
returns-clause-applied c = λ start limit sent joined on.
    let have = c.loop-parcel.invariant start limit sent joined on in
    rw (sym have.parts ∙ ap (λ rest. have.done ++ all_decisions_in rest)
    (none_left c.loop-parcel.parcels.items c.in_default.ensures.value) ∙ append-nil have.done) have.on
