-- What one transfer more changes of sums and statuses.
use Rattle.std.proofs.Common.{refl, ap, arith, ◌≡◌, ℕ, ◌+◌, ◌≤◌, Bool, true, false, not, List, [], ◌∷◌, if◌then◌else◌, ◌==◌, ◌&&◌, Some, None}
use Rattle.tb_tables.proofs.Words.{list_any, AllByRecursion, nat_tests, Account, Transfer, is_pending, is_post, is_resolving, Facts, transfer_with, is_expired, add_transfer, is_resolved, is_reserving, status_of, status_in, MayAdd, has_id, Sums, sums_of, with_sums, with_amount, phase_of, account_rows, IsGrounded, AreGrounded, Pending, MayResolve, IsLawful, status_after, posted_if}
use Rattle.tb_tables.specs.declared.amounts.Phase.TheVariants as phase
use Rattle.tb_tables.proofs.MapRows.{map-same}
use Rattle.tb_tables.proofs.Sums.{amounts, amounts-push, but_for, but_for-found}
use Rattle.tb_tables.proofs.FoundById.{find-none}
use Rattle.tb_tables.proofs.Laws.{status-add, reserves, posts, any-push, resolved_either, reserves-same, reserving, reserves-but_for, total, distinct-push}

-- the same four sums
pub record AreSame (sums others : Sums) : Type 0 where
  pub debits_pending : (id : ℕ) → sums.debits_pending id ≡ others.debits_pending id
  pub debits_posted : (id : ℕ) → sums.debits_posted id ≡ others.debits_posted id
  pub credits_pending : (id : ℕ) → sums.credits_pending id ≡ others.credits_pending id
  pub credits_posted : (id : ℕ) → sums.credits_posted id ≡ others.credits_posted id

pub rows-same : (sums others : Sums) (accounts : List Account) → AreSame sums others
    → account_rows sums accounts ≡ account_rows others accounts
rows-same sums others accounts same =
    map-same (λ (a : Account). (a.id, with_sums sums a)) (λ (a : Account). (a.id, with_sums others a)) accounts
    (λ a. λ i. (
      a.id,
      record a {
        debits_pending = same.debits_pending a.id i;
        debits_posted = same.debits_posted a.id i;
        credits_pending = same.credits_pending a.id i;
        credits_posted = same.credits_posted a.id i;
      },
    ))

-- a sum has an amount more at one id, or nowhere
abbrev pub More : ℕ → Bool → (ℕ → ℕ) → (ℕ → ℕ) → ℕ → Type 0
More amount here new old at = (id : ℕ) → new id ≡ old id + (if here && (at == id) then amount else 0)

-- ---- an id that no transfer has is named by none

module _ (facts : Facts) (grounded : AreGrounded facts) (id : ℕ) (fresh : has_id id facts.transfers ≡ false) where
  names_other : (t : Transfer) → IsGrounded facts.accounts facts.transfers t
      → (is_resolving t && (t.pending_id == id)) ≡ false
  names_other t ground = grind (arith, nat_tests, ground.named, fresh)

  none-names : (xs : List Transfer) → AllByRecursion (IsGrounded facts.accounts facts.transfers) xs
      → list_any (λ x. is_resolving x && (x.pending_id == id)) xs ≡ false
  none-names [] all = refl
  none-names (x ∷ xs) all = cc (names_other x all.0, none-names xs all.1)

  pub unresolved : is_resolved facts id ≡ false
  unresolved = none-names facts.transfers grounded

  pub status-fresh : is_expired facts id ≡ false → status_of facts id ≡ Pending
  status-fresh not_expired = grind (arith, resolved_either id facts.transfers, unresolved, not_expired)

-- ---- one plain or pending transfer more

module _ (facts : Facts) (t : Transfer) (may : MayAdd facts t) where
  pub status_in-add : (y : Transfer) → status_in (add_transfer facts t) y ≡ status_in facts y
  status_in-add y = ap (λ s. if is_pending y then Some s else None) (status-add facts t may y.id)

  module _ (grounded : AreGrounded facts) (not_expired : is_expired facts t.id ≡ false) where
    pub reserves-new : is_reserving (add_transfer facts t) t ≡ is_pending t
    reserves-new =
        let fresh = status-fresh facts grounded t.id (find-none _ facts.transfers may.new) not_expired in
        grind (arith, status-add facts t may t.id, fresh)

    pub reserved-add : (side : Transfer → ℕ) (id : ℕ)
        → amounts (reserves side (add_transfer facts t) id) (add_transfer facts t).transfers
        ≡ amounts (reserves side facts id) facts.transfers +
        (if is_pending t && (side t == id) then t.amount else 0)
    reserved-add side id =
        let pushed = amounts-push (reserves side facts id) (reserves side (add_transfer facts t) id) facts.transfers t
        (reserves-same facts t may side id) in
        grind (arith, pushed, reserves-new)

    pub posted-add : (side : Transfer → ℕ) (id : ℕ)
        → amounts (posts side id) (add_transfer facts t).transfers
        ≡ amounts (posts side id) facts.transfers + (if not (is_pending t) && (side t == id) then t.amount else 0)
    posted-add side id =
        grind (arith, amounts-push (posts side id) (posts side id) facts.transfers t (λ y. refl), may.not_void)

    pub sums-add : AreSame (sums_of (add_transfer facts t))
        (with_amount (phase_of t) t.debit_account_id t.credit_account_id t.amount (sums_of facts))
    sums-add =
        by (is_pending t) (reserved-add (λ x. x.debit_account_id)) (posted-add (λ x. x.debit_account_id))
        (reserved-add (λ x. x.credit_account_id)) (posted-add (λ x. x.credit_account_id))
      where
        by : (b : Bool) → let new = sums_of (add_transfer facts t) in let old = sums_of facts in
            More t.amount b new.debits_pending old.debits_pending t.debit_account_id
            → More t.amount (not b) new.debits_posted old.debits_posted t.debit_account_id →
            More t.amount b new.credits_pending old.credits_pending t.credit_account_id
            → More t.amount (not b) new.credits_posted old.credits_posted t.credit_account_id →
            AreSame new (with_amount (if b then phase.Pending else phase.Posted) t.debit_account_id
            t.credit_account_id t.amount old)
        by true dp dpo cp cpo =
            record {
              debits_pending = dp;
              debits_posted = λ id. omega (arith, dpo id);
              credits_pending = cp;
              credits_posted = λ id. omega (arith, cpo id);
            }
        by false dp dpo cp cpo =
            record {
              debits_pending = λ id. omega (arith, dp id);
              debits_posted = dpo;
              credits_pending = λ id. omega (arith, cp id);
              credits_posted = cpo;
            }

module _ (facts : Facts) (t : Transfer) (may : MayResolve facts t) where
  pub status-other : (id : ℕ) → (t.pending_id == id) ≡ false → status_of (add_transfer facts t) id ≡ status_of facts id
  status-other id apart = grind (arith, any-push, apart)

  pub status-named : status_of (add_transfer facts t) t.pending_id ≡ status_after (is_post t)
  status-named = grind (arith, nat_tests, any-push, may.unresolved, may.post_or_void)

  pub reserved-resolve : IsLawful facts → (side : Transfer → ℕ) → side t ≡ side may.pending → (id : ℕ) →
      amounts (reserves side facts id) facts.transfers
      ≡ amounts (reserves side (add_transfer facts t) id) (add_transfer facts t).transfers +
      (if side t == id then may.pending.amount else 0)
  reserved-resolve lawful side same id =
      let reserved = amounts-push (but_for t.pending_id (reserves side facts id))
      (reserves side (add_transfer facts t) id) facts.transfers t (reserves-but_for facts t may side id) in
      let found = but_for-found (reserves side facts id) t.pending_id facts.transfers may.pending
      lawful.distinct may.named in
      grind (arith, reserved, found, reserving facts t may, same, may.not_pending)

  pub posted-resolve : (side : Transfer → ℕ) (id : ℕ)
      → amounts (posts side id) (add_transfer facts t).transfers
      ≡ amounts (posts side id) facts.transfers + (if is_post t && (side t == id) then t.amount else 0)
  posted-resolve side id =
      let pushed = amounts-push (posts side id) (posts side id) facts.transfers t (λ y. refl) in
      grind (arith, pushed, may.not_pending, may.post_or_void)

  -- it posts at most what it releases
  total-resolve : (side : Transfer → ℕ) → side t ≡ side may.pending → IsLawful facts → (id : ℕ)
      → total side (add_transfer facts t) id ≤ total side facts id
  total-resolve side same lawful id =
      grind (arith, reserved-resolve lawful side same id, posted-resolve side id, may.at_most)

  pub resolve_lawful : transfer_with facts t.id ≡ None → IsLawful facts → IsLawful (add_transfer facts t)
  resolve_lawful new lawful = record {
    distinct = distinct-push facts.transfers t (find-none _ facts.transfers new) lawful.distinct;
    debits_fit = λ id.
        let less = total-resolve (λ x. x.debit_account_id) may.same_debit lawful id in
        omega (arith, less, lawful.debits_fit id);
    credits_fit = λ id.
        let less = total-resolve (λ x. x.credit_account_id) may.same_credit lawful id in
        omega (arith, less, lawful.credits_fit id);
  }

  -- between the release of what was reserved and the post of another amount
  abbrev pub left : Sums
  left = record (sums_of facts) {
    debits_pending = (sums_of (add_transfer facts t)).debits_pending;
    credits_pending = (sums_of (add_transfer facts t)).credits_pending;
  }

  pub sums-release : IsLawful facts → AreSame (sums_of facts)
      (with_amount phase.Pending t.debit_account_id t.credit_account_id may.pending.amount left)
  sums-release lawful = record {
    debits_pending = λ id. reserved-resolve lawful (λ x. x.debit_account_id) may.same_debit id;
    debits_posted = λ id. refl;
    credits_pending = λ id. reserved-resolve lawful (λ x. x.credit_account_id) may.same_credit id;
    credits_posted = λ id. refl;
  }

  pub sums-post : AreSame (sums_of (add_transfer facts t))
      (posted_if (is_post t) t.debit_account_id t.credit_account_id t.amount left)
  sums-post = by (is_post t) (posted-resolve (λ x. x.debit_account_id)) (posted-resolve (λ x. x.credit_account_id))
    where
      by : (b : Bool) → let new = sums_of (add_transfer facts t) in let old = sums_of facts in
          More t.amount b new.debits_posted old.debits_posted t.debit_account_id
          → More t.amount b new.credits_posted old.credits_posted t.credit_account_id →
          AreSame new (posted_if b t.debit_account_id t.credit_account_id t.amount left)
      by true d c =
          record {
            debits_pending = λ id. refl;
            debits_posted = d;
            credits_pending = λ id. refl;
            credits_posted = c;
          }
      by false d c =
          record {
            debits_pending = λ id. refl;
            debits_posted = λ id. omega (arith, d id);
            credits_pending = λ id. refl;
            credits_posted = λ id. omega (arith, c id);
          }
