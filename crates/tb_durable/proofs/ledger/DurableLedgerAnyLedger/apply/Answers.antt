use Rattle.std.proofs.Common.{◌≡◌, ◌∙◌, ap, arith, sym, Bool, true, false, refl, ◌++◌, map}
use Rattle.tb_durable.proofs.Words.{IsClean, IsKept, LedgerState, groups_of, rows_of, group_in}
use Rattle.tb_durable.proofs.Applied.{grew}
use Rattle.tb_durable.proofs.Journals.{groups_more}
use Rattle.tb_durable.proofs.Leaving.{leaves_after}
use Rattle.tb_durable.proofs.ledger.DurableLedgerAnyLedger.apply.Goals as goal

-- what hasn't stopped now hadn't stopped before
went_on : (was now : Bool) → (was ≡ true → now ≡ was) → now ≡ false → was ≡ false
went_on true now stays goes = absurd (let same = stays refl in cc)
went_on false now stays goes = refl

pub returns : goal.returns
returns g c = record {
  applied = λ old was.
      let said = c.apply.ensures in
      let made = said.applying old was.kept.journal in
      let before = c.args.self.now.bare in
      let after = c.apply.new.self in
      let rows = (g.S.Store.view c.args.self.now.table.store).committed 0 in
      let clean_before : IsClean (g.S.Store.view after.table.store) → IsClean (g.S.Store.view c.args.self.now.table.store)
      = λ clean. omega (arith, said.clean) in
      let kept : IsKept (g.S.Store.view after.table.store) after.bare made.0 = record {
        journal = made.1;
        stored = said.kept was.kept.stored;
        rows = λ clean goes.
            let went = went_on before.stopped after.bare.stopped
            (λ stopped. ap (λ durable. durable.bare.stopped) (said.stays stopped)) goes in
            let journal = (was.kept.stored (clean_before clean) went).1 in
            ap groups_of (said.added was.kept.stored clean goes)
            ∙ groups_more rows (rows_of before.places c.args.parcel) journal.first journal.entries journal.is
            ∙ ap (λ groups. groups ++ map group_in (rows_of before.places c.args.parcel)) (was.kept.rows (clean_before clean) went)
            ∙ ap (λ groups. old.groups ++ groups) (said.says goes)
            ∙ sym (grew c.args.parcel old made.0 c.apply.result made.2.refused made.2.step
            (ap (λ (l : LedgerState). l.stopped) made.1.same ∙ goes)).0;
      } in (
        made.0,
        record {
          kept = kept;
          entries = said.entries was.kept.stored was.entries;
          openable = λ clean. said.openable was.kept.stored was.entries (was.openable (clean_before clean));
          leaves = λ clean. leaves_after g.met.S.Store.settled said old was clean made.0 made.2.refused made.2.step kept;
        },
        made.2,
      );
}
