use Rattle.std.proofs.Common.{arith, refl, sym, subst, ◌∙◌, [], ◌∷◌}
use Rattle.tb_durable.proofs.Words.{Pulse, pulse_row}
use Rattle.tb_core.specs.declared.parcel.Parcel.TheVariants as parcel
use Rattle.tb_durable.specs.inside.Storing.{StoresRow}
use Rattle.tb_durable.proofs.FileLemmas.{pulse_entry}
use Rattle.tb_durable.proofs.Parcels.{IsNextRow, in_file}
use Rattle.tb_durable.proofs.ledger.DurableLedger.apply_pulse.Goals as goal

pub put_pulse-stored-requires : goal.put_pulse-stored-requires
put_pulse-stored-requires g c = omega (arith, c.halts_at.ensures.fits c.if-halts_at.false, c.places.ensures)

pub returns : goal.returns
returns g c =
    let before = c.args.self.now in
    let row = pulse_row before.bare.places c.args.moment in
    let stored = c.put_pulse-stored in
    let next : IsNextRow before (parcel.Pulse c.args.moment) row (Pulse c.args.moment ∷ []) before.counts = record {
      goes_on = c.halts_at.ensures.goes_on c.if-halts_at.false;
      is_stored = sym c.halts_at.ensures.halts ∙ c.if-halts_at.false;
      rows = refl;
      entry = pulse_entry before.bare.places c.args.moment before.counts stored.ensures.bound;
      groups = refl;
      some = omega arith;
      stops = refl;
    } in
    in_file next stored.result (rw c.places.ensures at (subst (λ t. StoresRow g.S.Store.view g.S.Store.recovers g.S.Store.blamed before.table.store
    (pulse_row c.places.result c.args.moment) stored.result t.store) (sym c.finish.ensures.table) stored.ensures.stores))
    stored.ensures.read_back c.finish.ensures.finishes
