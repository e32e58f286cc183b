-- The facts stay lawful with each change.
use Rattle.std.proofs.Common.{refl, ap, ◌∙◌, arith, ◌≡◌, ℕ, ◌+◌, ◌<◌, ◌≤◌, ◌^◌, Bool, true, false, not, List, [], ◌∷◌, ◌++◌, if◌then◌else◌, ◌==◌, ◌&&◌, ◌||◌}
use Rattle.std.proofs.Math.Bool.{or-false}
use Rattle.tb_tables.proofs.Words.{list_any-append, list_any, nat_tests, Transfer, is_pending, is_post, is_void, is_resolving, Facts, add_transfer, is_reserving, is_unresolved, status_of, is_posting, MayAdd, MayResolve, IsLawful, has_id, ids_distinct}
use Rattle.tb_tables.proofs.FoundById.{find-none, found-id}
use Rattle.tb_tables.proofs.Sums.{amounts, amounts-push, but_for}

-- which transfers reserve, or have posted, an amount at an account; `side` is the account that is debited, or credited
abbrev pub reserves : (Transfer → ℕ) → Facts → ℕ → Transfer → Bool
reserves side facts id transfer = is_reserving facts transfer && (side transfer == id)

abbrev pub posts : (Transfer → ℕ) → ℕ → Transfer → Bool
posts side id transfer = is_posting transfer && (side transfer == id)

-- the sums of an account, pending and posted together
abbrev pub total : (Transfer → ℕ) → Facts → ℕ → ℕ
total side facts id = amounts (reserves side facts id) facts.transfers + amounts (posts side id) facts.transfers

pub ==_swap : (a b : ℕ) → (a == b) ≡ (b == a)
==_swap a b = grind (arith, nat_tests)

-- ---- ids

pub distinct-push : (xs : List Transfer) (t : Transfer) → has_id t.id xs ≡ false → ids_distinct xs ≡ true
    → ids_distinct (xs ++ t ∷ []) ≡ true
distinct-push [] t fresh distinct = refl
distinct-push (x ∷ xs) t fresh distinct =
    grind (arith, nat_tests, list_any-append (λ (y : Transfer). y.id == x.id) xs (t ∷ []), distinct-push xs t)

-- ---- one plain or pending transfer more

pub any-push : (test : Transfer → Bool) (xs : List Transfer) (x : Transfer)
    → list_any test (xs ++ x ∷ []) ≡ (list_any test xs || test x)
any-push test xs x = list_any-append test xs (x ∷ []) ∙ ap (λ b. list_any test xs || b) (or-false (test x))

module _ (facts : Facts) (t : Transfer) (may : MayAdd facts t) where
  pub resolves_nothing : (id : ℕ) → (is_resolving t && (t.pending_id == id)) ≡ false
  resolves_nothing id = grind (arith, may.not_post, may.not_void)

  pub status-add : (id : ℕ) → status_of (add_transfer facts t) id ≡ status_of facts id
  status-add id = grind (arith, any-push, may.not_post, may.not_void)

  pub reserving-same : (y : Transfer) → is_reserving (add_transfer facts t) y ≡ is_reserving facts y
  reserving-same y = ap (λ status. is_pending y && is_unresolved status) (status-add y.id)

  pub reserves-same : (side : Transfer → ℕ) (id : ℕ) (y : Transfer)
      → reserves side (add_transfer facts t) id y ≡ reserves side facts id y
  reserves-same side id y = ap (λ b. b && (side y == id)) (reserving-same y)

  -- either it reserves its amount, or it has posted it
  total-push : (side : Transfer → ℕ) (id : ℕ) → total side (add_transfer facts t) id
      ≤ total side facts id + (if side t == id then t.amount else 0)
  total-push side id =
      let reserved = amounts-push (reserves side facts id)
      (reserves side (add_transfer facts t) id) facts.transfers t (reserves-same side id) in
      let posted = amounts-push (posts side id) (posts side id) facts.transfers t (λ y. refl) in
      grind (arith, reserved, posted)

  total-fits : (side : Transfer → ℕ) → total side facts (side t) + t.amount < 2 ^ 128 → (id : ℕ)
      → total side facts id < 2 ^ 128 → total side (add_transfer facts t) id < 2 ^ 128
  total-fits side more id fits = grind (arith, nat_tests, total-push side id)

  pub add_transfer_lawful : IsLawful facts → IsLawful (add_transfer facts t)
  add_transfer_lawful lawful = record {
    distinct = distinct-push facts.transfers t (find-none _ facts.transfers may.new) lawful.distinct;
    debits_fit = λ id. total-fits (λ x. x.debit_account_id) may.debits_fit id (lawful.debits_fit id);
    credits_fit = λ id. total-fits (λ x. x.credit_account_id) may.credits_fit id (lawful.credits_fit id);
  }

-- ---- one post or void more

pub resolved_either : (id : ℕ) (xs : List Transfer) →
    list_any (λ x. is_resolving x && (x.pending_id == id)) xs
    ≡ (list_any (λ x. is_post x && (x.pending_id == id)) xs
    || list_any (λ x. is_void x && (x.pending_id == id)) xs)
resolved_either id [] = refl
resolved_either id (x ∷ xs) = grind (arith, resolved_either id xs)

module _ (facts : Facts) (t : Transfer) (may : MayResolve facts t) where
  pub resolves : is_resolving t ≡ true
  resolves = grind (arith, may.post_or_void)

  -- the transfer that it names reserves its amount
  pub reserving : is_reserving facts may.pending ≡ true
  reserving =
      let same = found-id (λ (x : Transfer). x.id) t.pending_id facts.transfers may.pending may.named in
      grind (arith, same, may.is_pending_one, may.unresolved, resolved_either t.pending_id facts.transfers)

  pub reserving-other : (y : Transfer) → is_reserving (add_transfer facts t) y
      ≡ (is_reserving facts y && not (t.pending_id == y.id))
  reserving-other y = grind (arith, any-push, resolves)

  -- it takes the amount of the one that it names from what is reserved, and nothing else
  pub reserves-but_for : (side : Transfer → ℕ) (id : ℕ) (y : Transfer)
      → reserves side (add_transfer facts t) id y ≡ but_for t.pending_id (reserves side facts id) y
  reserves-but_for side id y = grind (arith, reserving-other y, ==_swap t.pending_id y.id)
