-- A transfer stored and taken back: balances, and the status of what it names.
use Rattle.std.proofs.Common.{refl, sym, ap, subst, ◌∙◌, arith, ◌≡◌, ℕ, ◌+◌, ◌<◌, ◌≤◌, ◌^◌, Bool, true, false, List, [], ◌∷◌, ◌++◌, nat_eq, slice_get, length, length-append, append-nil, true≢false, zero, suc, if◌then◌else◌, ◌==◌, Option, Some, None}
use Rattle.tb_tables.proofs.Words.{map_push, length-map, IsDistinct, keys_of, set_value_at, Account, Transfer, is_pending, is_post, Facts, add_transfer, status_of, expires_at, MayAdd, Sums, sums_of, with_sums, balance_of, debits_in, credits_in, Phase, phase_of, with_amount, posted_if, account_rows, CanAdd, CanTake, row_in, transfer_rows, MayPost, MayStore, new_row, status_after, Step, AreOf, IsBefore, IsAfter, IsStored, Contain, Indices, Row, Status, Pending, nat_tests}
use Rattle.tb_tables.specs.declared.amounts.Phase.TheVariants as phase
use Rattle.tb_tables.proofs.FoundById.{find-none, found-id}
use Rattle.tb_tables.proofs.MapRows.{rows-set, map-same, row-indexed_at}
use Rattle.tb_tables.proofs.Sums.{amounts}
use Rattle.tb_tables.proofs.Laws.{==_swap, reserves, status-add}
use Rattle.tb_tables.proofs.Added.{rows-same, status_in-add, status-fresh, sums-add, left, sums-release, sums-post, status-other, status-named, reserved-resolve}

pub slice_get-append : {X : Type 0} (xs ys : List X) (index : ℕ) (x : X) → slice_get xs index ≡ Some x
    → slice_get (xs ++ ys) index ≡ Some x
slice_get-append [] ys index x at = cc
slice_get-append (z ∷ xs) ys zero x at = at
slice_get-append (z ∷ xs) ys (suc index) x at = slice_get-append xs ys index x at

-- ---- taken off

-- its row is off, and the rest of it can be taken back
pub record IsOff (facts : Facts) (indices : Indices) (t : Transfer) (account_entries : List (ℕ × Account))
    (entries : List (ℕ × Row)) : Type 0 where
  pub count : length entries ≡ length facts.transfers
  pub step : Step t indices
  pub after : IsAfter step account_entries entries
  pub back : {accounts : List (ℕ × Account)} {transfers : List (ℕ × Row)} → IsBefore step accounts transfers
      → Contain facts accounts transfers

module _ {facts : Facts} {t : Transfer} {indices : Indices} {account_entries : List (ℕ × Account)}
    {entries : List (ℕ × Row)} (stored : IsStored facts t indices account_entries entries) where
  last-row : entries ≡ transfer_rows (add_transfer facts t) facts.transfers
      ++ (t.id, row_in (add_transfer facts t) t) ∷ []
  last-row =
      stored.hold.transfers_are ∙ map_push (λ (x : Transfer).
      (x.id, row_in (add_transfer facts t) x)) facts.transfers t

  pub some-row : 0 < length entries
  some-row =
      let rows = transfer_rows (add_transfer facts t) facts.transfers in
      omega (arith, ap length last-row, length-append rows ((t.id, row_in (add_transfer facts t) t) ∷ []))

  pub popped : {rest : List (ℕ × Row)} {result : Transfer}
      → ((id : ℕ) (row : Row) (others : List (ℕ × Row)) → entries ≡ others ++ (id, row) ∷ []
      → (result ≡ row.transfer) × (rest ≡ others)) → (result ≡ t) × IsOff facts indices result account_entries rest
  popped off =
      let o = off t.id (row_in (add_transfer facts t) t)
      (transfer_rows (add_transfer facts t) facts.transfers) last-row in (
        o.0,
        rw o.0 (record {
          count = ap length o.1 ∙ length-map facts.transfers _;
          step = record { facts = facts; more = []; allow = stored.allow };
          after = record { accounts_are = stored.hold.accounts_are; transfers_are = o.1 ∙ sym (append-nil _) };
          back = λ before. record {
            accounts_are = before.accounts_are;
            transfers_are = before.transfers_are ∙ append-nil _;
          };
        }),
      )

  pub expiry-fits : is_pending t ≡ true → expires_at t < 2 ^ 64
  expiry-fits pending = by indices.pending stored.allow.may
    where
      by : (o : Option ℕ) → MayStore facts t o → expires_at t < 2 ^ 64
      by None may = may.expiry_fits pending
      by (Some index) may = absurd (true≢false (sym pending ∙ may.may.not_pending))

module _ {t : Transfer} {indices : Indices} (s : Step t indices) where
  abbrev after : Facts
  after = add_transfer s.facts t

  -- an amount can be added if both balances have room for it, and taken out of sums that it was added to
  adds : (sums : Sums) {entries : List (ℕ × Account)} (kind : Phase) {amount : ℕ}
      → entries ≡ account_rows sums s.facts.accounts →
      balance_of (debits_in kind) (with_sums sums s.allow.are_at.debit_account) + amount < 2 ^ 128
      → balance_of (credits_in kind) (with_sums sums s.allow.are_at.credit_account) + amount < 2 ^ 128
      → CanAdd entries indices kind amount
  adds sums kind is debit credit = record {
    sums = sums;
    accounts = s.facts.accounts;
    debit = t.debit_account_id;
    credit = t.credit_account_id;
    are_at = s.allow.are_at;
    are = is;
    debit_fits = debit;
    credit_fits = credit;
  }

  pub takes : (sums : Sums) {entries : List (ℕ × Account)} {kind : Phase} {amount : ℕ}
      → entries ≡ account_rows (with_amount kind t.debit_account_id t.credit_account_id amount sums)
      s.facts.accounts → CanTake entries indices kind amount
  takes sums is =
      record {
        sums = sums;
        accounts = s.facts.accounts;
        debit = t.debit_account_id;
        credit = t.credit_account_id;
        are_at = s.allow.are_at;
        are = is;
      }

  -- its own row is new
  pub row-new : new_row t ≡ row_in after t
  row-new = by indices.pending s.allow.may
    where
      by : (o : Option ℕ) → MayStore s.facts t o → new_row t ≡ row_in after t
      by None may =
          ap (λ status. record { transfer = t; status = if is_pending t then Some status else None })
          (sym (status-add s.facts t may t.id ∙ status-fresh s.facts s.allow.grounded t.id
          (find-none _ s.facts.transfers may.new) s.allow.not_expired))
      by (Some index) posted = grind (arith, posted.may.not_pending)

  -- ---- a plain or pending transfer

  module _ (none : indices.pending ≡ None) where
    added : MayAdd s.facts t
    added = subst (MayStore s.facts t) none s.allow.may

    pub add-sums : account_rows (sums_of after) s.facts.accounts
        ≡ account_rows (with_amount (phase_of t) t.debit_account_id t.credit_account_id t.amount
        (sums_of s.facts)) s.facts.accounts
    add-sums = rows-same _ _ s.facts.accounts (sums-add s.facts t added s.allow.grounded s.allow.not_expired)

    pub can_add : {entries : List (ℕ × Account)} → entries ≡ account_rows (sums_of s.facts) s.facts.accounts
        → CanAdd entries indices (phase_of t) t.amount
    can_add is =
        adds (sums_of s.facts) (phase_of t) is (grind (arith, s.allow.are_at.debit_is, added.debits_fit))
        (grind (arith, s.allow.are_at.credit_is, added.credits_fit))

    pub rows-kept : transfer_rows after s.facts.transfers ≡ transfer_rows s.facts s.facts.transfers
    rows-kept =
        map-same (λ (x : Transfer). (x.id, row_in after x))
        (λ (x : Transfer). (x.id, row_in s.facts x)) s.facts.transfers
        (λ y. ap (λ status. (y.id, record { transfer = y; status = status })) (status_in-add s.facts t added y))

  -- ---- a post or a void

  module _ {pending : ℕ} (names : indices.pending ≡ Some pending) where
    pub posted : MayPost s.facts t pending
    posted = subst (MayStore s.facts t) names s.allow.may

    abbrev pub named : Transfer
    named = posted.may.pending

    -- between the release and the post
    abbrev pub between : Sums
    between = left s.facts t posted.may

    pub at-index : {now : Facts} {account_entries : List (ℕ × Account)} {entries : List (ℕ × Row)}
        → AreOf now s.facts s.more account_entries entries
        → slice_get entries pending ≡ Some (named.id, row_in now named)
    at-index {now} are =
        ap (λ es. slice_get es pending) are.transfers_are
        ∙ slice_get-append (transfer_rows now s.facts.transfers) s.more pending _
        (row-indexed_at (λ (x : Transfer). x.id) (row_in now) s.facts.transfers refl pending posted.pending_at)

    named-id : named.id ≡ t.pending_id
    named-id = found-id (λ (x : Transfer). x.id) t.pending_id s.facts.transfers named posted.may.named

    others : (y : Transfer) → (y.id == named.id) ≡ false → row_in after y ≡ row_in s.facts y
    others y apart =
        let differs : (t.pending_id == y.id) ≡ false = ==_swap t.pending_id y.id
        ∙ ap (λ k. y.id == k) (sym named-id) ∙ apart in
        ap (λ status. record { transfer = y; status = if is_pending y then Some status else None })
        (status-other s.facts t posted.may y.id differs)

    -- the status of what it names, set and set back
    row-is : (now : Facts) (status : Status) → status_of now t.pending_id ≡ status
        → record { transfer = named; status = Some status } ≡ row_in now named
    row-is now status is = grind (arith, ap (status_of now) named-id, is, posted.may.is_pending_one)

    pub rows-settled : {account_entries : List (ℕ × Account)} {entries : List (ℕ × Row)}
        → AreOf s.facts s.facts s.more account_entries entries → IsDistinct nat_eq (keys_of entries) →
        set_value_at entries pending (record (row_in s.facts named) { status = Some (status_after (is_post t)) })
        ≡ transfer_rows after s.facts.transfers ++ s.more
    rows-settled are =
        rows-set (λ (x : Transfer). x.id) (row_in s.facts)
        (row_in after) s.more s.facts.transfers pending posted.pending_at
        (row-is after _ (status-named s.facts t posted.may)) others are.transfers_are

    pub rows-open : {account_entries : List (ℕ × Account)} {entries : List (ℕ × Row)}
        → AreOf after s.facts s.more account_entries entries → IsDistinct nat_eq (keys_of entries) →
        set_value_at entries pending (record (row_in after named) { status = Some Pending })
        ≡ transfer_rows s.facts s.facts.transfers ++ s.more
    rows-open are =
        rows-set (λ (x : Transfer). x.id) (row_in after)
        (row_in s.facts) s.more s.facts.transfers pending posted.pending_at
        (row-is s.facts _ posted.may.unresolved) (λ y apart. sym (others y apart)) are.transfers_are

    -- what was reserved is among the balances, and so there is room to post it or a part of it
    pub release-sums : {amount : ℕ} → amount ≡ named.amount
        → account_rows (sums_of s.facts) s.facts.accounts
        ≡ account_rows (with_amount phase.Pending t.debit_account_id t.credit_account_id amount between)
        s.facts.accounts
    release-sums same = rw same (rows-same _ _ s.facts.accounts (sums-release s.facts t posted.may s.allow.lawful))

    pub post-sums : {is : Bool} → is ≡ is_post t → account_rows (sums_of after) s.facts.accounts
        ≡ account_rows (posted_if is t.debit_account_id t.credit_account_id t.amount between) s.facts.accounts
    post-sums same = rw same (rows-same _ _ s.facts.accounts (sums-post s.facts t posted.may))

    reserved : (side : Transfer → ℕ) → side t ≡ side named
        → amounts (reserves side s.facts (side t)) s.facts.transfers
        ≡ amounts (reserves side after (side t)) after.transfers + named.amount
    reserved side same =
        grind (arith, nat_tests, reserved-resolve s.facts t posted.may s.allow.lawful side same (side t))

    debits-left : between.debits_pending s.allow.are_at.debit_account.id + between.debits_posted
        s.allow.are_at.debit_account.id + named.amount < 2 ^ 128
    debits-left =
        let held = reserved (λ x. x.debit_account_id) posted.may.same_debit in
        grind (arith, s.allow.are_at.debit_is, held, s.allow.lawful.debits_fit t.debit_account_id)

    credits-left : between.credits_pending s.allow.are_at.credit_account.id + between.credits_posted
        s.allow.are_at.credit_account.id + named.amount < 2 ^ 128
    credits-left =
        let held = reserved (λ x. x.credit_account_id) posted.may.same_credit in
        grind (arith, s.allow.are_at.credit_is, held, s.allow.lawful.credits_fit t.credit_account_id)

    pub can_return : (kind : Phase) {entries : List (ℕ × Account)} {amount : ℕ} → amount ≤ named.amount
        → entries ≡ account_rows between s.facts.accounts → CanAdd entries indices kind amount
    can_return phase.Pending most is =
        adds between phase.Pending is (omega (arith, debits-left, most)) (omega (arith, credits-left, most))
    can_return phase.Posted most is =
        adds between phase.Posted is (omega (arith, debits-left, most)) (omega (arith, credits-left, most))
