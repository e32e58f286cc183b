-- An event whose checks find nothing may be stored.
use Rattle.std.proofs.Common.{refl, sym, ap, subst, ◌∙◌, arith, ◌≡◌, ℕ, ◌+◌, ◌*◌, ◌<◌, ◌≤◌, ◌^◌, Bool, true, false, not, List, [], ◌∷◌, Option, Some, None}
use Rattle.tb_machine.proofs.Words.{◌==◌, ◌&&◌, ◌||◌, nat_lt, IsSome, if◌then◌else◌, AllByRecursion, list_all, option_map, eqb-true, nat_tests, Account, Transfer, TransferCode, Ok, number_of, is_pending, is_post, is_void, is_resolving, Facts, account_with, transfer_with, is_expired, balanced_account, with_balances, debits, credits, Pending, Posted, Voided, Expired, MayAdd, MayResolve, clock_max, nanoseconds_per_second, u128_max, first_row, new_id_verdict, new_id_checks, resolving_checks, resolving_verdict, against_named, pending_checks, status_checks, creating_checks, creating_verdict, against_accounts, balance_checks, resolved_transfer, resolved_transfer_of, stored_transfer, has_exclusive_flags}
use Rattle.tb_tables.specs.clauses.Indices.{IsIndexOf}
use Rattle.tb_tables.specs.claim.Status.{is_named_by, status_of, is_due, expires_at}
use Rattle.tb_tables.proofs.FoundById.{found-id}

-- ---- if a table doesn't end in a failure, none of its checks applies

-- no code of the table is that of a success
abbrev fails : List (Bool × TransferCode) → Bool
fails checks = list_all (λ (check : Bool × TransferCode). not (number_of check.1 == 0)) checks

record Passes (checks : List (Bool × TransferCode)) (otherwise : TransferCode) : Type 0 where
  none : AllByRecursion (λ (check : Bool × TransferCode). check.0 ≡ false) checks
  rest : number_of otherwise ≡ 0

passes : (checks : List (Bool × TransferCode)) (otherwise : TransferCode) → fails checks ≡ true
    → number_of (first_row checks otherwise) ≡ 0 → Passes checks otherwise
passes [] otherwise all ok = record { none = tt; rest = ok }
passes ((applies, code) ∷ checks) otherwise all ok =
    by applies (number_of code == 0) refl all ok (passes checks otherwise)
  where
    by : (b zero : Bool) → (number_of code == 0) ≡ zero → (not zero && fails checks) ≡ true
        → number_of (if b then code else first_row checks otherwise) ≡ 0 →
        (fails checks ≡ true → number_of (first_row checks otherwise) ≡ 0 → Passes checks otherwise)
        → Passes ((b, code) ∷ checks) otherwise
    by b true is all ok rest = cc
    by true false is all ok rest = let e = ap (λ n. n == 0) ok in cc
    by false false is all ok rest = let p = rest all ok in record { none = (refl, p.none); rest = p.rest }

or-left : (a b : Bool) → (a || b) ≡ false → a ≡ false
or-left true b h = h
or-left false b h = refl

or-right : (a b : Bool) → (a || b) ≡ false → b ≡ false
or-right true b h = cc
or-right false b h = h

not_not : (b : Bool) → not b ≡ false → b ≡ true
not_not true h = refl
not_not false h = cc

-- ---- any event

-- its flags don't exclude each other, and it passes the checks of its kind
record IsFine (facts : Facts) (timestamp : ℕ) (event : Transfer) : Type 0 where
  apart : has_exclusive_flags event ≡ false
  rest : number_of (if is_resolving event then resolving_verdict facts timestamp event
      else creating_verdict facts timestamp event) ≡ 0

fine : (facts : Facts) (timestamp : ℕ) (event : Transfer)
    → number_of (new_id_verdict facts timestamp event) ≡ 0 → IsFine facts timestamp event
fine facts timestamp event ok =
    let p = passes (new_id_checks facts event) (if is_resolving event then resolving_verdict facts timestamp event
    else creating_verdict facts timestamp event) refl ok in
    record { apart = p.none.1.0; rest = p.rest }

-- ---- a plain or pending transfer

-- the accounts that it is between, and that it was checked with
record IsBetween (facts : Facts) (timestamp : ℕ) (event : Transfer) : Type 0 where
  debit : Account
  credit : Account
  debit_there : account_with facts event.debit_account_id ≡ Some debit
  credit_there : account_with facts event.credit_account_id ≡ Some credit
  checks : AllByRecursion (λ (check : Bool × TransferCode). check.0 ≡ false)
      (balance_checks timestamp (with_balances facts debit) (with_balances facts credit) event)

is_between : (facts : Facts) (timestamp : ℕ) (event : Transfer)
    → number_of (creating_verdict facts timestamp event) ≡ 0 → IsBetween facts timestamp event
is_between facts timestamp event ok =
    by (account_with facts event.debit_account_id) (account_with facts event.credit_account_id) refl refl
    (passes (creating_checks event) (first_row (against_accounts facts timestamp
    (balanced_account facts event.debit_account_id) (balanced_account facts event.credit_account_id) event) Ok) refl ok).rest
  where
    by : (debit credit : Option Account) → account_with facts event.debit_account_id ≡ debit
        → account_with facts event.credit_account_id ≡ credit →
        number_of (first_row (against_accounts facts timestamp (option_map (with_balances facts) debit)
        (option_map (with_balances facts) credit) event) Ok) ≡ 0 → IsBetween facts timestamp event
    by None credit d c ok = let e : 21 ≡ 0 = ok in absurd (omega (arith, e))
    by (Some debit) None d c ok = let e : 22 ≡ 0 = ok in absurd (omega (arith, e))
    by (Some debit) (Some credit) d c ok = record {
      debit = debit;
      credit = credit;
      debit_there = d;
      credit_there = c;
      checks = (passes (balance_checks timestamp (with_balances facts debit)
          (with_balances facts credit) event) Ok refl ok).none;
    }

at_most : (most n : ℕ) → nat_lt most n ≡ false → n ≤ most
at_most most n h = grind (arith, nat_tests)

-- a timeout of 0 is over at once, and any other by the greatest clock
expires_by : (timestamp timeout : ℕ) → timestamp ≤ clock_max
    → (not (timeout == 0) && nat_lt clock_max (timestamp + timeout * nanoseconds_per_second)) ≡ false
    → timestamp + timeout * nanoseconds_per_second ≤ clock_max
expires_by timestamp timeout h check = by (timeout == 0) refl check
  where
    by : (b : Bool) → (timeout == 0) ≡ b → (not b
        && nat_lt clock_max (timestamp + timeout * nanoseconds_per_second)) ≡ false
        → timestamp + timeout * nanoseconds_per_second ≤ clock_max
    by true is check =
        let none = eqb-true timeout 0 is in
        omega arith
    by false is check = at_most clock_max (timestamp + timeout * nanoseconds_per_second) check

pub resolves_nothing : (found : Option Transfer) (event : Transfer) → is_resolving event ≡ false
    → resolved_transfer_of found event ≡ event
resolves_nothing None event plain = refl
resolves_nothing (Some pending) event plain = ap (λ b. if b then resolved_transfer pending event else event) plain

-- a plain or pending transfer whose checks find nothing is between two accounts
stands_between : (facts : Facts) (timestamp : ℕ) (event : Transfer)
    → number_of (new_id_verdict facts timestamp event) ≡ 0 → is_resolving event ≡ false
    → IsBetween facts timestamp event
stands_between facts timestamp event ok plain =
    is_between facts timestamp event
    (sym (ap (λ b. number_of (if b then resolving_verdict facts timestamp event
    else creating_verdict facts timestamp event)) plain) ∙ (fine facts timestamp event ok).rest)

-- so that each has an index
pub has_debit : (facts : Facts) (timestamp : ℕ) (event : Transfer)
    → number_of (new_id_verdict facts timestamp event) ≡ 0 → is_resolving event ≡ false →
    (index : Option ℕ) → index ≡ None → IsIndexOf facts event.debit_account_id index → ⊥
has_debit facts timestamp event ok plain None is none = let there =
    (stands_between facts timestamp event ok plain).debit_there in cc
has_debit facts timestamp event ok plain (Some index) is at = cc

-- when it expires can be written down
pub fits : (facts : Facts) (timestamp : ℕ) (event : Transfer) → timestamp ≤ clock_max
    → number_of (new_id_verdict facts timestamp event) ≡ 0 → is_resolving event ≡ false
    → expires_at (record event { timestamp = timestamp }) < 2 ^ 64
fits facts timestamp event clock ok plain =
    omega (
      arith,
      expires_by timestamp event.timeout clock
          (stands_between facts timestamp event ok plain).checks.1.1.1.1.1.1.1.1.0,
    )

pub may_add : (facts : Facts) (timestamp : ℕ) (event : Transfer) → timestamp ≤ clock_max
    → number_of (new_id_verdict facts timestamp event) ≡ 0 → is_resolving event ≡ false
    → transfer_with facts event.id ≡ None →
    MayAdd facts (stored_transfer facts timestamp event)
may_add facts timestamp event clock ok plain new =
    let found = stands_between facts timestamp event ok plain in
    let debit_id = found-id (λ (account : Account). account.id) event.debit_account_id facts.accounts
    found.debit found.debit_there in
    let credit_id = found-id (λ (account : Account). account.id) event.credit_account_id facts.accounts
    found.credit found.credit_there in
    let stored : stored_transfer facts timestamp event
    ≡ record event { timestamp = timestamp } =
    ap (λ (e : Transfer). record e { timestamp = timestamp })
    (resolves_nothing (transfer_with facts event.pending_id) event plain) in
    subst (MayAdd facts) (sym stored)
    (record {
      new = new;
      not_post = or-left (is_post event) (is_void event) plain;
      not_void = or-right (is_post event) (is_void event) plain;
      debit_there = subst IsSome (sym found.debit_there) refl;
      credit_there = subst IsSome (sym found.credit_there) refl;
      debits_fit = subst (λ k. debits facts k + event.amount < 2 ^ 128) debit_id
          (omega (arith, at_most u128_max (debits facts found.debit.id + event.amount) found.checks.1.1.1.1.1.1.0));
      credits_fit = subst (λ k. credits facts k + event.amount < 2 ^ 128) credit_id
          (omega (
            arith,
            at_most u128_max (credits facts found.credit.id + event.amount)
                found.checks.1.1.1.1.1.1.1.0,
          ));
      expiry_fits = λ _. fits facts timestamp event clock ok plain;
    })

-- ---- a post or a void

status_pending : (facts : Facts) (id : ℕ) → is_named_by is_post facts id ≡ false → is_named_by is_void facts id ≡ false
    → is_expired facts id ≡ false → status_of facts id ≡ Pending
status_pending facts id posted voided expired =
    ap (λ b. if b then Posted else if is_named_by is_void facts id then Voided else if is_expired facts id then Expired
    else Pending) posted
    ∙ ap (λ b. if b then Voided else if is_expired facts id then Expired else Pending) voided
    ∙ ap (λ b. if b then Expired else Pending) expired

-- the transfer that it names, and that it was checked with
record Names (facts : Facts) (event : Transfer) : Type 0 where
  pending : Transfer
  named : transfer_with facts event.pending_id ≡ Some pending
  checks : AllByRecursion (λ (check : Bool × TransferCode). check.0 ≡ false)
      (pending_checks pending (resolved_transfer pending event))
  status : status_of facts pending.id ≡ Pending

names : (facts : Facts) (timestamp : ℕ) (event : Transfer)
    → number_of (resolving_verdict facts timestamp event) ≡ 0 → Names facts event
names facts timestamp event ok =
    by (transfer_with facts event.pending_id) refl
    (passes (resolving_checks event) (first_row (against_named facts timestamp
    (transfer_with facts event.pending_id) event) Ok) refl ok).rest
  where
    by : (found : Option Transfer) → transfer_with facts event.pending_id ≡ found
        → number_of (first_row (against_named facts timestamp found event) Ok) ≡ 0 → Names facts event
    by None is ok = let e : 25 ≡ 0 = ok in absurd (omega (arith, e))
    by (Some pending) is ok =
        let p = passes (pending_checks pending (resolved_transfer pending event))
        (first_row (status_checks facts timestamp pending) Ok) refl ok in
        let status = (passes (status_checks facts timestamp pending) Ok refl p.rest).none in
        record {
          pending = pending;
          named = is;
          checks = p.none;
          status = status_pending facts pending.id status.0 status.1.0
              (or-left (is_expired facts pending.id) (is_due timestamp pending) status.1.1.0);
        }

post_or_void : (p a b : Bool) → ((p && a) || (p && b) || (a && b)) ≡ false → (a || b) ≡ true → (b ≡ not a) × (p ≡ false)
post_or_void true true b h k = cc
post_or_void true false true h k = cc
post_or_void true false false h k = cc
post_or_void false true true h k = cc
post_or_void false true false h k = (refl, refl)
post_or_void false false true h k = (refl, refl)
post_or_void false false false h k = cc

equal : (a b : ℕ) → not (a == b) ≡ false → a ≡ b
equal a b h = eqb-true a b (not_not (a == b) h)

-- it is stored as resolved against what it names
stored_is : (facts : Facts) (timestamp : ℕ) (event pending : Transfer)
    → transfer_with facts event.pending_id ≡ Some pending → is_resolving event ≡ true →
    stored_transfer facts timestamp event ≡ record (resolved_transfer pending event) { timestamp = timestamp }
stored_is facts timestamp event pending named resolves =
    ap (λ found. record (resolved_transfer_of found event) { timestamp = timestamp }) named
    ∙ ap (λ b. record (if b then resolved_transfer pending event else event) { timestamp = timestamp }) resolves

pub may_resolve : (facts : Facts) (timestamp : ℕ) (event : Transfer)
    → number_of (new_id_verdict facts timestamp event) ≡ 0 → is_resolving event ≡ true
    → MayResolve facts (stored_transfer facts timestamp event)
may_resolve facts timestamp event ok resolves =
    let id = fine facts timestamp event ok in
    let verdict : number_of (resolving_verdict facts timestamp event) ≡ 0 =
    sym (ap (λ b. number_of (if b then resolving_verdict facts timestamp event
    else creating_verdict facts timestamp event)) resolves) ∙ id.rest in
    let one = names facts timestamp event verdict in
    let kind = post_or_void (is_pending event) (is_post event) (is_void event) id.apart resolves in
    let pending_id = found-id (λ (transfer : Transfer). transfer.id) event.pending_id facts.transfers
    one.pending one.named in
    subst (MayResolve facts) (sym (stored_is facts timestamp event one.pending one.named resolves))
    (record {
      post_or_void = kind.0;
      not_pending = kind.1;
      pending = one.pending;
      named = one.named;
      is_pending_one = not_not (is_pending one.pending) one.checks.0;
      unresolved = ap (status_of facts) (sym pending_id) ∙ one.status;
      same_debit = equal (resolved_transfer one.pending event).debit_account_id
          one.pending.debit_account_id one.checks.1.0;
      same_credit = equal (resolved_transfer one.pending event).credit_account_id
          one.pending.credit_account_id one.checks.1.1.0;
      at_most = at_most one.pending.amount (resolved_transfer one.pending event).amount one.checks.1.1.1.1.1.0;
    })
