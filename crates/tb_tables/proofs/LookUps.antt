-- Look-ups in the maps.
use Rattle.std.proofs.Common.{refl, sym, ap, ◌∙◌, ◌≡◌, ℕ, true, not, List, nat_eq, slice_get, length, arith, ◌==◌, Option, Some, None, IsSome, is_some, find, option_map, Bool, Result, Ok, Err, false, ◌≢◌}
use Rattle.std.specs.Result.{result_eq}
use mathlib.Core.Bool.{beq as bool_eq}
use Rattle.tb_tables.proofs.Words.{length-map, slice_get-map, position, position_or_len, keys_of, lookup, Account, Transfer, Facts, account_with, IsIndexAmong, IsIndexOf, IsIndexOfTransfer, transfer_with, MayResolve, sums_of, with_sums, HaveIndices, Contain, AreGrounded, row_in, MayPost, Indices, Row, has_account, IsGrounded, Found-position, Missing-position, find_at}
use Rattle.tb_tables.proofs.MapRows.{rows, lookup-rows, key-indexed_at, key-of-position, first-of-key}
use Rattle.tb_tables.proofs.FoundById.{any-found}
use Rattle.tb_tables.proofs.GroundedFacts.{all-found}

-- the index of a key, as the map tells it
indexed_at : {X V : Type 0} (key : X → ℕ) (made : X → V) (xs : List X) {es : List (ℕ × V)} → es ≡ rows key made xs
    → (id : ℕ) (index : Option ℕ) → index ≡ position (nat_eq id) (keys_of es)
    → IsIndexAmong xs (find (λ x. key x == id) xs) index
indexed_at key made xs {es} are id None is =
    let found = ap (lookup (nat_eq id)) are ∙ lookup-rows key made id xs in
    grind (arith, found, (Missing-position (nat_eq id) es (sym is)).value)
indexed_at key made xs {es} are id (Some index) is =
    let there = key-indexed_at key made xs are index (key-of-position id es index (sym is)) in
    let first = sym (ap (λ es. position_or_len (nat_eq id) (keys_of es)) are ∙ first-of-key key made id xs)
    ∙ (Found-position (nat_eq id) es index (sym is)).or_len in
    (there.0, there.1, find_at (λ x. key x == id) xs ∙ ap (slice_get xs) first ∙ there.1)

as-some : {X Y : Type 0} (f : X → Y) (found : Option X) → not (is_some (option_map f found)) ≡ not (is_some found)
as-some f None = refl
as-some f (Some x) = refl

-- what isn't there
pub none-there : {X : Type 0} (found : Option X) → not (is_some found) ≡ true → found ≡ None
none-there None new = refl
none-there (Some x) new = cc

-- whether what was asked for was done
pub is-done : {E : Type 0} (same : E → E → Bool) (result : Result Bool E)
    → true ≡ result_eq bool_eq same result (Ok true) → result ≡ Ok true
is-done same (Ok true) is = refl
is-done same (Ok false) is = cc
is-done same (Err x) is = cc

pub isn't-done : {E : Type 0} (same : E → E → Bool) (result : Result Bool E)
    → false ≡ result_eq bool_eq same result (Ok true) → result ≢ Ok true
isn't-done same result isn't is = let no = rw is at isn't in cc

-- what a post or a void names has the index that was found
pub may-post : {facts : Facts} {t : Transfer} {index : ℕ} → MayResolve facts t
    → IsIndexOfTransfer facts t.pending_id (Some index) → transfer_with facts t.id ≡ None → MayPost facts t index
may-post may at new = record { new = new; may = may; pending_at = at.1 ∙ sym at.2 ∙ may.named }

module _ {facts : Facts} {accounts : List (ℕ × Account)} {transfers : List (ℕ × Row)}
    (hold : Contain facts accounts transfers) where
  pub account-found : (id : ℕ) → lookup (nat_eq id) accounts
      ≡ option_map (with_sums (sums_of facts)) (account_with facts id)
  account-found id =
      ap (lookup (nat_eq id)) hold.accounts_are ∙ lookup-rows (λ (a : Account). a.id)
      (with_sums (sums_of facts)) id facts.accounts

  pub account-at : (index : ℕ) (entry : ℕ × Account) → Some entry ≡ slice_get accounts index
      → Some entry.1 ≡ option_map (with_sums (sums_of facts)) (slice_get facts.accounts index)
  account-at index entry is =
      made (slice_get facts.accounts index)
      (is ∙ ap (λ rows. slice_get rows index) hold.accounts_are
      ∙ slice_get-map (λ (a : Account). (a.id, with_sums (sums_of facts) a)) facts.accounts index) where
        made : (found : Option Account) → Some entry ≡ option_map (λ a. (a.id, with_sums (sums_of facts) a)) found
            → Some entry.1 ≡ option_map (with_sums (sums_of facts)) found
        made None none = cc
        made (Some account) same = ap (λ (e : Option (ℕ × Account)). option_map (λ e. e.1) e) same

  account-index : (index : ℕ) {id : ℕ} → slice_get (keys_of accounts) index ≡ Some id
      → (a : Account) × (slice_get facts.accounts index ≡ Some a) × (a.id ≡ id)
  account-index = key-indexed_at (λ (a : Account). a.id) (with_sums (sums_of facts)) facts.accounts hold.accounts_are

  -- the index, as the map tells it
  pub account-indexed_at : (id : ℕ) (index : Option ℕ) → index ≡ position (nat_eq id) (keys_of accounts)
      → IsIndexOf facts id index
  account-indexed_at = indexed_at (λ (a : Account). a.id) (with_sums (sums_of facts)) facts.accounts hold.accounts_are

  pub transfer-indexed_at : (id : ℕ) (index : Option ℕ) → index ≡ position (nat_eq id) (keys_of transfers)
      → IsIndexOfTransfer facts id index
  transfer-indexed_at = indexed_at (λ (t : Transfer). t.id) (row_in facts) facts.transfers hold.transfers_are

  pub row-found : (id : ℕ) → lookup (nat_eq id) transfers ≡ option_map (row_in facts) (transfer_with facts id)
  row-found id =
      ap (lookup (nat_eq id)) hold.transfers_are ∙ lookup-rows (λ (t : Transfer). t.id)
      (row_in facts) id facts.transfers

  -- whether an id is new, as the map tells it
  pub new-by-id : (id : ℕ) → not (is_some (lookup (nat_eq id) transfers)) ≡ not (is_some (transfer_with facts id))
  new-by-id id = ap (λ found. not (is_some found)) (row-found id) ∙ as-some (row_in facts) (transfer_with facts id)

  pub new-account-by-id : (id : ℕ) → not (is_some (lookup (nat_eq id) accounts)) ≡ not (is_some (account_with facts id))
  new-account-by-id id =
      ap (λ found. not (is_some found)) (account-found id)
      ∙ as-some (with_sums (sums_of facts)) (account_with facts id)

  pub transfers-length : length transfers ≡ length facts.transfers
  transfers-length =
      ap length hold.transfers_are ∙ length-map facts.transfers (λ (t : Transfer). (t.id, row_in facts t))

  pub account-there : (id : ℕ) → IsSome (account_with facts id) → IsSome (lookup (nat_eq id) accounts)
  account-there id there = grind (arith, account-found id, there)

  pub are-at : (t : Transfer) (indices : Indices)
      → slice_get (keys_of accounts) indices.debit ≡ Some t.debit_account_id
      → slice_get (keys_of accounts) indices.credit ≡ Some t.credit_account_id → HaveIndices facts t indices
  are-at t indices debit credit =
      let d = account-index indices.debit debit in
      let c = account-index indices.credit credit in
      record {
        debit_account = d.0;
        credit_account = c.0;
        debit_at = d.1;
        credit_at = c.1;
        debit_is = d.2;
        credit_is = c.2;
      }

  -- the accounts of the transfer that a post or a void names are there
  pub has-account : (id : ℕ) → has_account id facts.accounts ≡ true → IsSome (lookup (nat_eq id) accounts)
  has-account id has = account-there id (sym (any-found _ facts.accounts) ∙ has)

  module _ (grounded : AreGrounded facts) (t : Transfer) (may : MayResolve facts t) where
    ground : IsGrounded facts.accounts facts.transfers may.pending
    ground = all-found (IsGrounded facts.accounts facts.transfers)
        (λ (x : Transfer). x.id == t.pending_id) facts.transfers may.pending grounded may.named

    pub debit-there : IsSome (lookup (nat_eq t.debit_account_id) accounts)
    debit-there =
        has-account t.debit_account_id (ap (λ id. has_account id facts.accounts) may.same_debit ∙ ground.debit)

    pub credit-there : IsSome (lookup (nat_eq t.credit_account_id) accounts)
    credit-there =
        has-account t.credit_account_id (ap (λ id. has_account id facts.accounts) may.same_credit ∙ ground.credit)
