-- A transfer stored in the maps, and taken back.
use Rattle.std.proofs.Common.{sym, ap, subst, arith, ◌∙◌, ◌≡◌, ℕ, Bool, true, false, not, List, [], ◌∷◌, ◌++◌, map, filter, length, append-nil, ◌==◌, ◌&&◌, ◌||◌, Option, Some, None, Result, Ok, IfOk, is_some, nat_eq}
use Rattle.tb_tables.proofs.Words.{filter-append, list_any, lookup, nat_tests, Account, Transfer as TransferRecord, Facts, transfer_with, is_expired, add_transfer, is_resolved, is_reserving, IsLawful, has_id, before, Contents, AreGrounded, facts_of, AreExpiries, IsSound, AreContained, Allow, MayStore, AreConsistent, Contain, new_row, Step, IsBefore, IsAfter, HaveIndices, IsStored, row_in, transfer_rows, Indices, Row, IsUndoable, KeepsPairs, its_pair, map_push}
use Rattle.tb_tables.specs.declared.change.Change.TheVariants.{Transfer}
use Rattle.tb_tables.proofs.FoundById.{find-none}
use Rattle.tb_tables.proofs.Laws.{any-push, reserving-same, reserving-other, resolves_nothing, add_transfer_lawful}
use Rattle.tb_tables.proofs.Added.{resolve_lawful}
use Rattle.tb_tables.proofs.GroundedFacts.{grounded_added, grounded_resolved}
use Rattle.tb_tables.proofs.Pairs.{slice_get-push, is_open_pair-push}
use Rattle.tb_tables.proofs.SeenFacts.{AreSeenAs, keeps, sound-indexed}
use Rattle.tb_tables.proofs.Histories.{without_last-push}
use Rattle.tb_tables.proofs.ChangedBalances.{row-new}
use Rattle.tb_tables.proofs.LookUps.{none-there, new-by-id}

-- the ids of those whose id passes a test
pub ids-found : (test : ℕ → Bool) (id : ℕ) (xs : List TransferRecord)
    → list_any (λ other. other == id) (map (λ (t : TransferRecord). t.id) (filter (λ t. test t.id) xs))
    ≡ (test id && has_id id xs)
ids-found test id [] = grind arith
ids-found test id (x ∷ xs) = grind (arith, nat_tests, ids-found test id xs)

pub expired-is : (facts : Facts) → facts.expired
    ≡ map (λ (t : TransferRecord). t.id) (filter (λ t. is_expired facts t.id) facts.transfers) → (id : ℕ)
    → is_expired facts id ≡ (is_expired facts id && has_id id facts.transfers)
expired-is facts ordered id =
    ap (list_any (λ other. other == id)) ordered ∙ ids-found (is_expired facts) id facts.transfers

pub no-other : (facts : Facts) (t : TransferRecord) (pending : Option ℕ) → MayStore facts t pending
    → transfer_with facts t.id ≡ None
no-other facts t None may = may.new
no-other facts t (Some index) may = may.new

pub allows : (indexed : ℕ → ℕ → Bool) (facts : Facts) (t : TransferRecord) (indices : Indices) → IsSound indexed facts
    → HaveIndices facts t indices → MayStore facts t indices.pending → Allow facts t indices
allows indexed facts t indices sound are_at may = record {
  lawful = sound.lawful;
  grounded = sound.grounded;
  not_expired =
      let fresh = find-none _ facts.transfers (no-other facts t indices.pending may) in
      grind (arith, expired-is facts sound.expiries.ordered t.id, fresh);
  are_at = are_at;
  may = may;
}

-- ---- the facts stay sound

module _ (facts : Facts) (t : TransferRecord) where
  -- the facts stay lawful and grounded, none that expired is resolved, and none reserves its amount that didn't
  record Leaves : Type 0 where
    pub lawful : IsLawful (add_transfer facts t)
    pub grounded : AreGrounded (add_transfer facts t)
    pub open_ones : (y : TransferRecord) → is_expired facts y.id ≡ true → is_resolved facts y.id ≡ false
        → is_resolved (add_transfer facts t) y.id ≡ false
    pub less : (y : TransferRecord) → is_reserving (add_transfer facts t) y ≡ true → is_reserving facts y ≡ true

  leaves : (indices : Indices) → Allow facts t indices → Leaves
  leaves indices allow = by indices.pending allow.may
    where
      by : (o : Option ℕ) → MayStore facts t o → Leaves
      by None may = record {
        lawful = add_transfer_lawful facts t may allow.lawful;
        grounded = grounded_added facts t may allow.grounded;
        open_ones = λ y expired open_one. grind (arith, any-push, resolves_nothing facts t may y.id, open_one);
        less = λ y reserves. sym (reserving-same facts t may y) ∙ reserves;
      }
      by (Some index) posted = record {
        lawful = resolve_lawful facts t posted.may posted.new allow.lawful;
        grounded = grounded_resolved facts t posted.may allow.grounded;
        open_ones = λ y expired open_one.
            grind (arith, nat_tests, any-push, posted.may.unresolved, expired, open_one);
        less = λ y reserves. grind (arith, reserving-other facts t posted.may y, reserves);
      }

  expiries-push : Leaves → is_expired facts t.id ≡ false → AreExpiries facts → AreExpiries (add_transfer facts t)
  expiries-push l fresh old = record {
    ordered =
        let last : filter (λ (y : TransferRecord). is_expired facts y.id) (t ∷ []) ≡ [] = grind (arith, fresh) in
        old.ordered ∙ ap (map (λ (y : TransferRecord). y.id))
        (sym (filter-append (λ (y : TransferRecord). is_expired facts y.id) facts.transfers (t ∷ [])
        ∙ ap (λ ys. filter (λ (y : TransferRecord). is_expired facts y.id) facts.transfers ++ ys) last
        ∙ append-nil _));
    open_ones = λ index y at expired.
        let which = sym (slice_get-push facts.transfers t index) ∙ at in
        let was = old.open_ones index y in
        let still = l.open_ones y in
        (grind (arith, which, expired, fresh, was), grind (arith, which, expired, fresh, was, still));
  }

  pub sound-push : (indexed next : ℕ → ℕ → Bool) (indices : Indices) → Allow facts t indices → IsSound indexed facts
      → ((m p : ℕ) → next m p ≡ (its_pair facts t m p || indexed m p)) → IsSound next (add_transfer facts t)
  sound-push indexed next indices allow sound put =
      let l = leaves indices allow in
      record {
        lawful = l.lawful;
        grounded = l.grounded;
        made = sound.made;
        expiries = expiries-push l allow.not_expired sound.expiries;
        paired = λ m p has. grind (arith, put m p, is_open_pair-push facts t l.less m p has, sound.paired m p);
      }

  -- ---- one more

  held-push : {accounts accounts' : List (ℕ × Account)} {transfers transfers' : List (ℕ × Row)}
      {indexed next : ℕ → ℕ → Bool} {indices : Indices} → AreContained accounts transfers indexed facts
      → Allow facts t indices → Contain (add_transfer facts t) accounts' transfers' →
      ((m p : ℕ) → next m p ≡ (its_pair facts t m p || indexed m p))
      → AreContained accounts' transfers' next (add_transfer facts t)
  held-push {indexed = indexed} {next = next} {indices = indices} held allow hold put = record {
    hold = hold;
    sound = sound-push indexed next indices allow held.sound put;
  }

pub back : (facts : Facts) (t : TransferRecord) (indices : Indices)
    → before (Transfer indices) (add_transfer facts t) ≡ facts
back facts t indices = ap (λ ts. record facts { transfers = ts }) (without_last-push facts.transfers t)

-- its row is there, and with the rest of it the maps are kept
pub record IsPushed (old : Contents) (t : TransferRecord) (indices : Indices) (entries : List (ℕ × Row)) : Type 0 where
  pub allow : Allow (facts_of old) t indices
  pub step : Step t indices
  pub before : IsBefore step old.accounts entries
  pub stored : {accounts : List (ℕ × Account)} {transfers : List (ℕ × Row)} {next : ℕ → ℕ → Bool}
      → IsAfter step accounts transfers → ((m p : ℕ)
      → next m p ≡ (its_pair (facts_of old) t m p || old.is_in_expiries m p))
      → AreSeenAs (add_transfer (facts_of old) t)
      (record old { accounts = accounts; transfers = transfers; is_in_expiries = next })

module _ (old : Contents) (kept : AreConsistent old) (t : TransferRecord) where
  -- if it is new, as the map tells it
  pub pushed : (indices : Indices) → HaveIndices (facts_of old) t indices
      → (transfer_with (facts_of old) t.id ≡ None → MayStore (facts_of old) t indices.pending)
      → {E : Type 0} {result : Result Bool E}
      → IfOk result (λ added. added ≡ not (is_some (lookup (nat_eq t.id) old.transfers))) → result ≡ Ok true
      → {entries : List (ℕ × Row)} → (result ≡ Ok true → entries ≡ old.transfers ++ (t.id, new_row t) ∷ [])
      → IsPushed old t indices entries
  pushed indices at may {E} is_new done is =
      let new : Facts = add_transfer (facts_of old) t in
      let added = subst (λ (r : Result Bool E).
      IfOk r (λ added. added ≡ not (is_some (lookup (nat_eq t.id) old.transfers)))) done is_new in
      let none = none-there (transfer_with (facts_of old) t.id) (sym (added ∙ new-by-id kept.hold t.id)) in
      let allow = allows old.is_in_expiries (facts_of old) t indices kept.sound at (may none) in
      let step : Step t indices = record { facts = facts_of old; more = (t.id, new_row t) ∷ []; allow = allow } in
      record {
        allow = allow;
        step = step;
        before = record {
          accounts_are = kept.hold.accounts_are;
          transfers_are = is done
              ∙ ap (λ es. es ++ (t.id, new_row t) ∷ []) kept.hold.transfers_are;
        };
        stored = λ after put. keeps new (held-push (facts_of old) t kept allow (record {
          accounts_are = after.accounts_are;
          transfers_are = after.transfers_are ∙ ap (λ row.
              transfer_rows new (facts_of old).transfers ++ (t.id, row) ∷ []) (row-new step)
              ∙ sym (map_push (λ (x : TransferRecord). (x.id, row_in new x)) (facts_of old).transfers t);
        }) put);
      }

-- ---- the last taken back

-- it can be taken back, to the facts before it, and without it the maps are kept
pub record CanPop (old : Contents) (indices : Indices) (facts : Facts) : Type 0 where
  pub transfer : TransferRecord
  pub stored : IsStored facts transfer indices old.accounts old.transfers
  pub popped : {accounts : List (ℕ × Account)} {transfers : List (ℕ × Row)} {next : ℕ → ℕ → Bool}
      → Contain facts accounts transfers → KeepsPairs (length facts.transfers) old.is_in_expiries next
      → AreSeenAs facts (record old { accounts = accounts; transfers = transfers; is_in_expiries = next })

pub can-pop : (old : Contents) → AreConsistent old → (indices : Indices)
    → IsUndoable old.is_in_expiries (Transfer indices) (facts_of old)
    → CanPop old indices (before (Transfer indices) (facts_of old))
can-pop old kept indices undoable =
    let facts : Facts = before (Transfer indices) (facts_of old) in
    let t : TransferRecord = undoable.1.transfer in
    record {
      transfer = t;
      stored = record {
        allow = undoable.1.allow;
        hold = subst
            (λ now. Contain now old.accounts old.transfers) undoable.1.stored kept.hold;
      };
      popped = λ {accounts} {transfers} {next} hold others.
          keeps facts (record {
            hold = hold;
            sound = sound-indexed old.is_in_expiries next (length facts.transfers) others facts (omega arith) undoable.0;
          });
    }
