-- What the maps hold is what is seen, and facts stay sound with another set that has their pairs.
use Rattle.std.proofs.Common.{refl, sym, ap, subst, arith, ◌∙◌, ◌≡◌, ℕ, ◌≤◌, Bool, true, List, [], ◌∷◌, map, filter, length, slice_get, suc, Some}
use Rattle.tb_tables.proofs.Words.{slice_get_cases, AllByRecursion, Account as AccountRecord, Transfer as TransferRecord, Facts, is_expired, status_in, HasNoBalances, Sums, sums_of, with_sums, account_rows, Contents, account_made, has_expired, facts_of, transfer_rows, is_open_pair, IsSound, AreContained, AreConsistent, Row, KeepsPairs}
use Rattle.tb_tables.proofs.Laws.{resolved_either}

-- ---- facts that the maps hold are those that they are seen as

accounts-seen : (sums : Sums) (accounts : List AccountRecord) → AllByRecursion HasNoBalances accounts
    → map account_made (account_rows sums accounts) ≡ accounts
accounts-seen sums [] all = refl
accounts-seen sums (account ∷ accounts) all = cc (made, accounts-seen sums accounts all.1)
  where
    made : account_made (account.id, with_sums sums account) ≡ account
    made = λ i. record account {
      debits_pending = sym all.0.debits_pending i;
      debits_posted = sym all.0.debits_posted i;
      credits_pending = sym all.0.credits_pending i;
      credits_posted = sym all.0.credits_posted i;
    }

transfers-seen : (facts : Facts) (transfers : List TransferRecord)
    → map (λ (entry : ℕ × Row). entry.1.transfer) (transfer_rows facts transfers) ≡ transfers
transfers-seen facts [] = refl
transfers-seen facts (t ∷ transfers) = ap (λ ts. t ∷ ts) (transfers-seen facts transfers)

expired-seen : (facts : Facts) (transfers : List TransferRecord)
    → ((index : ℕ) (t : TransferRecord) → slice_get transfers index ≡ Some t
    → has_expired (status_in facts t) ≡ is_expired facts t.id) →
    map (λ (entry : ℕ × Row). entry.1.transfer.id)
    (filter (λ (entry : ℕ × Row). has_expired entry.1.status) (transfer_rows facts transfers))
    ≡ map (λ (t : TransferRecord). t.id) (filter (λ t. is_expired facts t.id) transfers)
expired-seen facts [] same = refl
expired-seen facts (t ∷ transfers) same =
    grind (arith, same 0 t refl, expired-seen facts transfers (λ index. same (suc index)))

seen : (new : Contents) (facts : Facts) → new.failed ≡ facts.failed
    → AreContained new.accounts new.transfers new.is_in_expiries facts → facts_of new ≡ facts
seen new facts failed held =
    let accounts = ap (map account_made) held.hold.accounts_are
    ∙ accounts-seen (sums_of facts) facts.accounts held.sound.made in
    let rows = held.hold.transfers_are in
    let transfers = ap (map (λ (entry : ℕ × Row). entry.1.transfer)) rows ∙ transfers-seen facts facts.transfers in
    let expired = ap (λ (entries : List (ℕ × Row)). map (λ (entry : ℕ × Row). entry.1.transfer.id)
    (filter (λ (entry : ℕ × Row). has_expired entry.1.status) entries)) rows
    ∙ expired-seen facts facts.transfers each ∙ sym held.sound.expiries.ordered in
    λ i. record { accounts = accounts i; transfers = transfers i; expired = expired i; failed = failed i }
  where
    each : (index : ℕ) (t : TransferRecord) → slice_get facts.transfers index ≡ Some t
        → has_expired (status_in facts t) ≡ is_expired facts t.id
    each index t at = grind (arith, held.sound.expiries.open_ones index t at, resolved_either t.id facts.transfers)

-- the maps are consistent, and seen as these facts
pub record AreSeenAs (facts : Facts) (stored : Contents) : Type 0 where
  pub consistent : AreConsistent stored
  pub seen : facts_of stored ≡ facts

pub keeps : {accounts : List (ℕ × AccountRecord)} {transfers : List (ℕ × Row)} {indexed : ℕ → ℕ → Bool}
    (facts : Facts) → AreContained accounts transfers indexed facts
    → AreSeenAs facts (record {
      accounts = accounts;
      transfers = transfers;
      failed = facts.failed;
      is_in_expiries = indexed;
    })
keeps {accounts} {transfers} {indexed} facts held =
    let is = seen (record {
      accounts = accounts;
      transfers = transfers;
      failed = facts.failed;
      is_in_expiries = indexed;
    }) facts refl held in
    record { consistent = subst (AreContained accounts transfers indexed) (sym is) held; seen = is }

-- ---- the same with another set

pub sound-by : {indexed next : ℕ → ℕ → Bool} {facts : Facts}
    → ((m p : ℕ) → is_open_pair facts m p ≡ true → indexed m p ≡ true → next m p ≡ true)
    → IsSound indexed facts → IsSound next facts
sound-by enough sound = record {
  lawful = sound.lawful;
  grounded = sound.grounded;
  made = sound.made;
  expiries = sound.expiries;
  paired = λ m p has. enough m p has (sound.paired m p has);
}

pub held-by : {accounts : List (ℕ × AccountRecord)} {transfers : List (ℕ × Row)} {indexed next : ℕ → ℕ → Bool}
    {facts : Facts} → AreContained accounts transfers indexed facts
    → ((m p : ℕ) → is_open_pair facts m p ≡ true → indexed m p ≡ true → next m p ≡ true)
    → AreContained accounts transfers next facts
held-by held enough = record { hold = held.hold; sound = sound-by enough held.sound }

-- which has the same pairs of the indices that there are
pub sound-indexed : (indexed other : ℕ → ℕ → Bool) (count : ℕ) → KeepsPairs count indexed other → (facts : Facts)
    → length facts.transfers ≤ count → IsSound indexed facts → IsSound other facts
sound-indexed indexed other count same facts short =
    sound-by (λ m p has. same m p (grind (arith, slice_get_cases facts.transfers p, short, has)))
