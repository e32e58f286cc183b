-- Transfers stay grounded with each change.
use Rattle.std.proofs.Common.{sym, ap, subst, ◌∙◌, ◌≡◌, Bool, true, append-nil, arith, List, [], ◌∷◌, ◌++◌, true≢false, ◌==◌, ◌||◌, Some, is_some, find, ℕ, slice_get}
use Rattle.tb_tables.proofs.Words.{All-from_recursion, find_at, list_any-append, get_or_from_slice_get, slice_get_within, list_any, position_or_len, AllByRecursion, Account, Transfer, Facts, add_account, add_transfer, MayAdd, MayResolve, has_account, IsGrounded, AreGrounded}
use Rattle.tb_tables.proofs.FoundById.{any-found}
use Rattle.tb_tables.proofs.Histories.{all_push}

any-more : {X : Type 0} (test : X → Bool) (xs ys : List X) → list_any test xs ≡ true → list_any test (xs ++ ys) ≡ true
any-more test xs ys h = list_any-append test xs ys ∙ ap (λ b. b || list_any test ys) h

pub all-there : {X : Type 0} (P : X → Type 0) (xs : List X) (index : ℕ) (x : X) → AllByRecursion P xs
    → slice_get xs index ≡ Some x → P x
all-there P xs index x all at =
    subst P (get_or_from_slice_get xs index x x at)
    (All-from_recursion P xs all index x (slice_get_within xs index x at))

pub all-found : {X : Type 0} (P : X → Type 0) (test : X → Bool) (xs : List X) (x : X) → AllByRecursion P xs
    → find test xs ≡ Some x → P x
all-found P test xs x all found = all-there P xs (position_or_len test xs) x all (sym (find_at test xs) ∙ found)

module _ (accounts more_accounts : List Account) (transfers more_transfers : List Transfer) where
  grounded-more : (xs : List Transfer) → AllByRecursion (IsGrounded accounts transfers) xs
      → AllByRecursion (IsGrounded (accounts ++ more_accounts) (transfers ++ more_transfers)) xs
  grounded-more [] all = tt
  grounded-more (x ∷ xs) all = (
    record {
      debit = any-more (λ (a : Account). a.id == x.debit_account_id) accounts more_accounts all.0.debit;
      credit = any-more (λ (a : Account). a.id == x.credit_account_id) accounts more_accounts all.0.credit;
      named = λ resolving. any-more (λ (t : Transfer). t.id == x.pending_id) transfers more_transfers
          (all.0.named resolving);
      expiry_fits = all.0.expiry_fits;
    },
    grounded-more xs all.1,
  )

pub grounded_account : (facts : Facts) (account : Account) → AreGrounded facts → AreGrounded (add_account facts account)
grounded_account facts account all =
    rw (append-nil facts.transfers) at (grounded-more facts.accounts
    (account ∷ []) facts.transfers [] facts.transfers all)

grounded_transfer : (facts : Facts) (t : Transfer) → AreGrounded facts
    → IsGrounded facts.accounts (facts.transfers ++ t ∷ []) t → AreGrounded (add_transfer facts t)
grounded_transfer facts t all ground =
    all_push (IsGrounded facts.accounts (facts.transfers ++ t ∷ [])) facts.transfers t
    (rw (append-nil facts.accounts) at (grounded-more facts.accounts [] facts.transfers
    (t ∷ []) facts.transfers all)) ground

pub grounded_added : (facts : Facts) (t : Transfer) → MayAdd facts t → AreGrounded facts
    → AreGrounded (add_transfer facts t)
grounded_added facts t may all =
    grounded_transfer facts t all (record {
      debit = any-found _ facts.accounts ∙ may.debit_there;
      credit = any-found _ facts.accounts ∙ may.credit_there;
      named = λ resolving. grind (arith, may.not_post, may.not_void);
      expiry_fits = may.expiry_fits;
    })

pub grounded_resolved : (facts : Facts) (t : Transfer) → MayResolve facts t → AreGrounded facts
    → AreGrounded (add_transfer facts t)
grounded_resolved facts t may all =
    let ground = all-found (IsGrounded facts.accounts facts.transfers)
    (λ (x : Transfer). x.id == t.pending_id) facts.transfers may.pending all may.named in
    grounded_transfer facts t all (record {
      debit = ap (λ id. has_account id facts.accounts) may.same_debit ∙ ground.debit;
      credit = ap (λ id. has_account id facts.accounts) may.same_credit ∙ ground.credit;
      named = λ resolving. any-more (λ (x : Transfer). x.id == t.pending_id) facts.transfers (t ∷ [])
          (any-found _ facts.transfers ∙ ap is_some may.named);
      expiry_fits = λ pending. absurd (true≢false (sym pending ∙ may.not_pending));
    })
