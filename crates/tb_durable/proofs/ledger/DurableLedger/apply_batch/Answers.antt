use Rattle.std.proofs.Common.{◌≡◌, arith, refl, rules, sym, ap, subst, ◌∙◌, length, map}
use Rattle.tb_core.specs.claim.BareLedger.{halts}
use Rattle.tb_durable.proofs.Words.{jobs_row, input_of, length-map}
use Rattle.tb_core.specs.declared.parcel.Parcel.TheVariants as parcel
use Rattle.tb_durable.specs.clauses.Counts.{counted_all}
use Rattle.tb_durable.specs.clauses.Parcels.{AppliesInFile}
use Rattle.tb_durable.specs.inside.Storing.{StoresRow}
use Rattle.tb_durable.proofs.FileLemmas.{batch_entry}
use Rattle.tb_durable.proofs.Parcels.{IsNextRow, in_file, stored_batch}
use Rattle.tb_durable.proofs.ledger.DurableLedger.apply_batch.Goals as goal

pub returns : goal.returns
returns g c =
    let before = c.args.self.now in
    let parts = c.into_parts-parts.result in
    let row = jobs_row before.bare.places parts.jobs.items in
    let stubs : c.deref.result.now ≡ parts.stubs.items = search rules in
    let follow = ap (counted_all before.counts) (sym stubs) ∙ c.in-Some.ensures.counted in
    let next : IsNextRow before (parcel.Batch parts.jobs.items) row (map input_of parts.jobs.items) c.count_all.new.self = record {
      goes_on = c.halts_at.ensures.goes_on c.if-halts_at.false;
      is_stored = stored_batch before.bare before.counts c.count_all.new.self parts.jobs.items
          (ap (λ jobs. halts before.bare (length jobs)) (c.into_parts-parts.ensures.jobs ∙ sym c.jobs.ensures.jobs)
          ∙ sym c.halts_at.ensures.halts ∙ c.if-halts_at.false)
          (ap (counted_all before.counts) (sym c.into_parts-parts.ensures.parts.stubs) ∙ follow);
      rows = refl;
      entry = batch_entry before.bare.places before.counts c.count_all.new.self parts c.into_parts-parts.ensures.parts
          follow;
      groups = refl;
      some = omega (arith, c.into_parts-parts.ensures.parts.lawful.some, length-map parts.jobs.items input_of);
      stops = refl;
    } in
    let stored = c.store_batch-stored in
    subst (λ jobs. AppliesInFile g.S.Store.view g.S.Store.recovers g.S.Store.blamed before (parcel.Batch jobs) c.finish.result c.finish.new.self)
    c.into_parts-parts.ensures.jobs
    (in_file next stored.result (subst (λ t. StoresRow g.S.Store.view g.S.Store.recovers g.S.Store.blamed before.table.store row stored.result t.store)
    (sym c.finish.ensures.table) stored.ensures.stores) stored.ensures.read_back
    (rw (c.whole-2.ensures, stored.ensures.bare) at c.finish.ensures.finishes))
