-- Accounts and failed ids, added and taken back.
use Rattle.std.proofs.Common.{arith, refl, sym, ap, ◌∙◌, ◌≡◌, ℕ, ◌-◌, Bool, true, List, [], ◌∷◌, ◌++◌, map, take, length, ◌==◌, ◌&&◌, None}
use Rattle.tb_tables.proofs.Words.{map-append, length-map, take-map, AllByRecursion, nat_tests, Account as AccountRecord, Transfer as TransferRecord, Facts, account_with, add_account, is_reserving, is_posting, HasNoBalances, without_last, before, sums_of, with_sums, account_rows, Contents, facts_of, has_account, IsGrounded, AreGrounded, AreConsistent, IsSound, IsUndoable}
use Rattle.tb_tables.specs.declared.change.Change.TheVariants.{Account}
use Rattle.tb_tables.proofs.FoundById.{find-none}
use Rattle.tb_tables.proofs.Sums.{amounts}
use Rattle.tb_tables.proofs.GroundedFacts.{grounded_account}
use Rattle.tb_tables.proofs.SeenFacts.{AreSeenAs, keeps}
use Rattle.tb_tables.proofs.Histories.{all_push}

-- ---- an account that is new has no balances

module _ (facts : Facts) (grounded : AreGrounded facts) (account : AccountRecord)
    (fresh : account_with facts account.id ≡ None) (none : HasNoBalances account) where
  amounts-none : (test : TransferRecord → Bool) (side : TransferRecord → ℕ)
      → ((x : TransferRecord) → IsGrounded facts.accounts facts.transfers x
      → has_account (side x) facts.accounts ≡ true) →
      (xs : List TransferRecord) → AllByRecursion (IsGrounded facts.accounts facts.transfers) xs
      → 0 ≡ amounts (λ x. test x && (side x == account.id)) xs
  amounts-none test side there [] all = refl
  amounts-none test side there (x ∷ xs) all =
      let none_of = amounts-none test side there xs all.1 in
      grind (arith, nat_tests, find-none _ facts.accounts fresh, there x all.0, none_of)

  -- it is stored as it was made
  new-account : account ≡ with_sums (sums_of facts) account
  new-account =
      let debits = λ (test : TransferRecord → Bool). amounts-none test (λ x. x.debit_account_id)
      (λ x ground. ground.debit) facts.transfers grounded in
      let credits = λ (test : TransferRecord → Bool). amounts-none test (λ x. x.credit_account_id)
      (λ x ground. ground.credit) facts.transfers grounded in
      let dp = none.debits_pending ∙ debits (is_reserving facts) in
      let dpo = none.debits_posted ∙ debits is_posting in
      let cp = none.credits_pending ∙ credits (is_reserving facts) in
      let cpo = none.credits_posted ∙ credits is_posting in
      λ i. record account {
        debits_pending = dp i;
        debits_posted = dpo i;
        credits_pending = cp i;
        credits_posted = cpo i;
      }

-- what holds of the transfers stays with other accounts and failed ids
sound-with : {indexed : ℕ → ℕ → Bool} (facts : Facts) (accounts : List AccountRecord) (failed : List ℕ)
    → IsSound indexed facts → AreGrounded (record facts { accounts = accounts })
    → AllByRecursion HasNoBalances accounts → IsSound indexed
    (record facts { accounts = accounts; failed = failed })
sound-with facts accounts failed s grounded made = record {
  lawful = record {
    distinct = s.lawful.distinct;
    debits_fit = s.lawful.debits_fit;
    credits_fit = s.lawful.credits_fit;
  };
  grounded = grounded;
  made = made;
  expiries = record { ordered = s.expiries.ordered; open_ones = s.expiries.open_ones };
  paired = s.paired;
}

pub held-failed : (old : Contents) (failed : List ℕ) → AreConsistent old
    → AreSeenAs (record (facts_of old) { failed = failed }) (record old { failed = failed })
held-failed old failed held = record {
  consistent = record {
    hold = record { accounts_are = held.hold.accounts_are; transfers_are = held.hold.transfers_are };
    sound = sound-with (facts_of old) (facts_of old).accounts failed held.sound held.sound.grounded held.sound.made;
  };
  seen = refl;
}

pub stamped-new : {account : AccountRecord} (timestamp : ℕ) → HasNoBalances account
    → HasNoBalances (record account { timestamp = timestamp })
stamped-new timestamp none = record {
  debits_pending = none.debits_pending;
  debits_posted = none.debits_posted;
  credits_pending = none.credits_pending;
  credits_posted = none.credits_posted;
}

module _ (old : Contents) (kept : AreConsistent old) where
  -- ---- one account more

  module _ (account : AccountRecord) (fresh : account_with (facts_of old) account.id ≡ None)
      (none : HasNoBalances account) where
    abbrev with_account : Contents
    with_account = record old { accounts = old.accounts ++ (account.id, account) ∷ [] }

    abbrev facts_with : Facts
    facts_with = add_account (facts_of old) account

    rows-are : with_account.accounts ≡ account_rows (sums_of (facts_of old)) facts_with.accounts
    rows-are =
        ap (λ es. es ++ (account.id, account) ∷ []) kept.hold.accounts_are
        ∙ ap (λ a. account_rows (sums_of (facts_of old)) (facts_of old).accounts ++ (account.id, a) ∷ [])
        (new-account (facts_of old) kept.sound.grounded account fresh none)
        ∙ sym (map-append (λ (a : AccountRecord). (a.id, with_sums (sums_of (facts_of old)) a))
        (facts_of old).accounts (account ∷ []))

    pub kept-account : AreSeenAs facts_with with_account
    kept-account = keeps facts_with (record {
      hold = record { accounts_are = rows-are; transfers_are = kept.hold.transfers_are };
      sound = sound-with (facts_of old) facts_with.accounts old.failed kept.sound
          (grounded_account (facts_of old) account kept.sound.grounded)
          (all_push HasNoBalances (facts_of old).accounts account kept.sound.made none);
    })

  -- ---- an account taken back

  map-without_last : {X Y : Type 0} (f : X → Y) (xs : List X) → map f (without_last xs) ≡ without_last (map f xs)
  map-without_last f xs =
      sym (take-map f (length xs - 1) xs) ∙ ap (λ n. take (n - 1) (map f xs)) (sym (length-map xs f))

  pub kept-unaccount : IsUndoable old.is_in_expiries Account (facts_of old)
      → AreSeenAs (before Account (facts_of old)) (record old { accounts = without_last old.accounts })
  kept-unaccount undoable =
      let accounts = ap without_last kept.hold.accounts_are
      ∙ sym (map-without_last (λ (a : AccountRecord). (a.id, with_sums (sums_of (facts_of old)) a))
      (facts_of old).accounts) in
      keeps (before Account (facts_of old))
      (record {
        hold = record { accounts_are = accounts; transfers_are = kept.hold.transfers_are };
        sound = undoable.0;
      })
