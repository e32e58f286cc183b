-- Transfers expire: one, and all that are due.
use Rattle.std.proofs.Common.{refl, sym, ap, subst, ◌∙◌, arith, ◌≡◌, ℕ, ◌^◌, option_map, ◌<◌, ◌≤◌, Bool, true, false, not, List, nat_eq, slice_get, true≢false, ◌&&◌, Option, Some, None, ◌+◌, [], ◌∷◌, map, filter, suc, if◌then◌else◌, ◌==◌, ◌||◌, append-nil}
use Rattle.tb_tables.proofs.Words.{IsDistinct, keys_of, nat_tests, set_value_at, Account, Transfer, Facts, expire_due, is_reserving, is_due, expires_at, same_pair, sums_of, with_amount, account_rows, AreAt, CanTake, row_in, transfer_rows, is_pair_of, is_open_pair, IsGrounded, Contain, IsSound, AreContained, ExpiriesFit, is_open_at, is_due_in, CanExpire, expire_one, Indices, Row, Expired, is_expired, IsLawful, reserves_at, filter_agree, slice_get-map}
use Rattle.tb_tables.specs.declared.amounts.Phase.TheVariants as phase
use Rattle.tb_tables.proofs.Laws.{resolved_either, ==_swap, reserves}
use Rattle.tb_tables.proofs.MapRows.{row-indexed_at, rows-set}
use Rattle.tb_tables.proofs.Added.{rows-same, AreSame}
use Rattle.tb_tables.proofs.GroundedFacts.{all-there}
use Rattle.tb_tables.proofs.SeenFacts.{held-by}
use Rattle.tb_tables.proofs.Sums.{amount_if, amounts, amounts-same, but_for, but_for-found}
use Rattle.tb_tables.proofs.Pairs.{find-at, has_id-at, one-index, one-transfer}
use Rattle.tb_tables.proofs.StoredTransfers.{ids-found, expired-is}

pub filter-at : (f g : Transfer → Bool) (xs : List Transfer)
    → ((index : ℕ) (x : Transfer) → slice_get xs index ≡ Some x → f x ≡ g x) → filter f xs ≡ filter g xs
filter-at f g [] same = refl
filter-at f g (x ∷ xs) same = grind (arith, same 0 x refl, filter-at f g xs (λ index. same (suc index)))

abbrev pub expires : ℕ → Facts → Transfer → Bool
expires clock facts transfer = is_expired facts transfer.id || (is_reserving facts transfer && is_due clock transfer)

-- if none that reserves its amount is due, none is left to expire
pub none-left : (clock : ℕ) (facts : Facts) → facts.expired
    ≡ map (λ (t : Transfer). t.id) (filter (λ t. is_expired facts t.id) facts.transfers) →
    ((p : ℕ) (y : Transfer) → slice_get facts.transfers p ≡ Some y
    → (is_reserving facts y && is_due clock y) ≡ false) → expire_due clock facts ≡ facts
none-left clock facts ordered none =
    λ i. record facts {
      expired = (ap (map (λ (t : Transfer). t.id))
          (filter-at (expires clock facts) (λ (t : Transfer). is_expired facts t.id) facts.transfers
          (λ p y at. grind (arith, none p y at))) ∙ sym ordered) i;
    }

-- ---- one transfer more has expired

module _ (facts : Facts) (x : Transfer) (index : ℕ) (at : slice_get facts.transfers index ≡ Some x)
    (lawful : IsLawful facts) (reserving : is_reserving facts x ≡ true)
    (ordered : facts.expired ≡ map (λ (t : Transfer). t.id) (filter (λ t. is_expired facts t.id) facts.transfers)) where
  abbrev pub after : Facts
  after = expire_one x.id facts

  pub more : (id : ℕ) → is_expired after id ≡ (is_expired facts id || (x.id == id))
  more id =
      let found = ids-found (λ k. is_expired facts k || (x.id == k)) id facts.transfers in
      grind (arith, nat_tests, found, expired-is facts ordered id, has_id-at id facts.transfers index x at)

  pub reserving-after : (y : Transfer) → is_reserving after y ≡ (is_reserving facts y && not (x.id == y.id))
  reserving-after y = grind (arith, more y.id)

  reserves-after : (side : Transfer → ℕ) (id : ℕ) (y : Transfer)
      → reserves side after id y ≡ but_for x.id (reserves side facts id) y
  reserves-after side id y = grind (arith, reserving-after y, ==_swap x.id y.id)

  reserved-after : (side : Transfer → ℕ) (id : ℕ)
      → amounts (reserves side facts id) facts.transfers
      ≡ amounts (reserves side after id) facts.transfers + (if side x == id then x.amount else 0)
  reserved-after side id =
      but_for-found (reserves side facts id) x.id facts.transfers x lawful.distinct
      (find-at facts.transfers index x lawful.distinct at)
      ∙ ap (λ n. n + amount_if (reserves side facts id) x)
      (sym (amounts-same (reserves side after id) (but_for x.id (reserves side facts id)) facts.transfers
      (reserves-after side id)))
      ∙ ap (λ b. amounts (reserves side after id) facts.transfers +
      (if b && (side x == id) then x.amount else 0)) reserving

  pub sums-after : AreSame (sums_of facts) (with_amount phase.Pending x.debit_account_id x.credit_account_id
      x.amount (sums_of after))
  sums-after = record {
    debits_pending = reserved-after (λ t. t.debit_account_id);
    debits_posted = λ id. refl;
    credits_pending = reserved-after (λ t. t.credit_account_id);
    credits_posted = λ id. refl;
  }

  pub lawful-after : IsLawful after
  lawful-after = record {
    distinct = lawful.distinct;
    debits_fit = λ id. omega (arith, lawful.debits_fit id, reserved-after (λ t. t.debit_account_id) id);
    credits_fit = λ id. omega (arith, lawful.credits_fit id, reserved-after (λ t. t.credit_account_id) id);
  }

  row-other : (y : Transfer) → (y.id == x.id) ≡ false → row_in after y ≡ row_in facts y
  row-other y apart = grind (arith, more y.id, ==_swap x.id y.id)

  row-expired : record (row_in facts x) { status = Some Expired } ≡ row_in after x
  row-expired = grind (arith, nat_tests, reserving, resolved_either x.id facts.transfers, more x.id)

  pub rows-after : {entries : List (ℕ × Row)} → entries ≡ transfer_rows facts facts.transfers
      → IsDistinct nat_eq (keys_of entries) → set_value_at entries index
      (record (row_in facts x) { status = Some Expired }) ≡ transfer_rows after facts.transfers
  rows-after is apart =
      rows-set (λ (t : Transfer). t.id) (row_in facts)
      (row_in after) [] facts.transfers index at row-expired row-other
      (is ∙ sym (append-nil _)) apart ∙ append-nil _

  -- ---- what it does to sound facts and to the expiries

  same : (p : ℕ) (y : Transfer) → slice_get facts.transfers p ≡ Some y → (x.id == y.id) ≡ true → x ≡ y
  same p y at' is = one-transfer facts.transfers index p lawful.distinct at at' is

  is_open_pair-after : (m p : ℕ) → is_open_pair after m p ≡ true → (is_open_pair facts m p ≡ true) × ((index == p) ≡ false)
  is_open_pair-after m p has = by (slice_get facts.transfers p) refl has
    where
      by : (o : Option Transfer) → slice_get facts.transfers p ≡ o → (is_pair_of m o && reserves_at after o) ≡ true
          → ((is_pair_of m o && reserves_at facts o) ≡ true) × ((index == p) ≡ false)
      by None at' h = grind arith
      by (Some y) at' h = let one =
          one-index facts.transfers index p x y lawful.distinct at
          at' in (grind (arith, reserving-after y, h), grind (arith, reserving-after y, one, h))

  pub sound-after : (indexed next : ℕ → ℕ → Bool)
      → ((m p : ℕ) → (index == p) ≡ false → indexed m p ≡ true → next m p ≡ true)
      → IsSound indexed facts → IsSound next after
  sound-after indexed next others sound = record {
    lawful = lawful-after;
    grounded = sound.grounded;
    made = sound.made;
    expiries = record {
      ordered = ap (map (λ (t : Transfer). t.id)) (filter_agree
          (λ (t : Transfer). is_expired facts t.id || (x.id == t.id)) (λ (t : Transfer). is_expired after t.id)
          (λ t. sym (more t.id)) facts.transfers);
      open_ones = λ p y at' expired.
          let one = same p y at' in
          let was = sound.expiries.open_ones p y at' in (
            grind (arith, more y.id, expired, reserving, one, was, resolved_either y.id facts.transfers),
            grind (arith, more y.id, expired, reserving, one, was, resolved_either y.id facts.transfers),
          );
    };
    paired = λ m p has. let was = is_open_pair-after m p has in others m p was.1 (sound.paired m p was.0);
  }

  -- ---- and to what is due

  pub due-after : (clock : ℕ) → is_due clock x ≡ true → expire_due clock after ≡ expire_due clock facts
  due-after clock due =
      λ i. record facts {
        expired = map (λ (t : Transfer). t.id)
            (filter-at (expires clock after) (expires clock facts) facts.transfers each i);
      }
    where
      each : (p : ℕ) (y : Transfer) → slice_get facts.transfers p ≡ Some y
          → expires clock after y ≡ expires clock facts y
      each p y at' = let one = same p y at' in grind (arith, more y.id, reserving-after y, reserving, due, one)

-- the entry of the transfer at an index
row-at : {facts : Facts} {accounts : List (ℕ × Account)} {transfers : List (ℕ × Row)}
    → Contain facts accounts transfers → (index : ℕ) {t : Transfer} → slice_get facts.transfers index ≡ Some t
    → slice_get transfers index ≡ Some (t.id, row_in facts t)
row-at {facts} hold index at =
    row-indexed_at (λ (x : Transfer). x.id) (row_in facts) facts.transfers hold.transfers_are index at

-- ---- one expires

module _ {facts : Facts} {accounts : List (ℕ × Account)} {transfers : List (ℕ × Row)} {index : ℕ}
    (can : CanExpire facts accounts transfers index) where
  pub ground : IsGrounded facts.accounts facts.transfers can.transfer
  ground = all-there (IsGrounded facts.accounts facts.transfers) facts.transfers index can.transfer can.grounded can.at

  pub there : slice_get transfers index ≡ Some (can.transfer.id, row_in facts can.transfer)
  there = row-at can.hold index can.at

  pub released : accounts ≡ account_rows (with_amount phase.Pending can.transfer.debit_account_id
      can.transfer.credit_account_id can.transfer.amount
      (sums_of (expire_one can.transfer.id facts))) facts.accounts
  released = can.hold.accounts_are ∙ rows-same _ _ facts.accounts
      (sums-after facts can.transfer index can.at can.lawful can.reserves can.ordered)

  pub can-take : {indices : Indices} {amount : ℕ}
      → AreAt facts.accounts indices can.transfer.debit_account_id can.transfer.credit_account_id
      → amount ≡ can.transfer.amount → CanTake accounts indices phase.Pending amount
  can-take are_at same = rw same (record {
    sums = sums_of (expire_one can.transfer.id facts);
    accounts = facts.accounts;
    debit = can.transfer.debit_account_id;
    credit = can.transfer.credit_account_id;
    are_at = are_at;
    are = released;
  })

  pub expired-row : IsDistinct nat_eq (keys_of transfers)
      → set_value_at transfers index (record (row_in facts can.transfer) { status = Some Expired })
      ≡ transfer_rows (expire_one can.transfer.id facts) facts.transfers
  expired-row apart =
      rows-after facts can.transfer index can.at can.lawful can.reserves can.ordered can.hold.transfers_are apart

-- ---- the loop

-- facts with the same transfers still to expire
pub record StillDue (clock : ℕ) (facts : Facts) (accounts : List (ℕ × Account)) (transfers : List (ℕ × Row))
    (indexed : ℕ → ℕ → Bool) : Type 0 where
  pub now : Facts
  pub held : AreContained accounts transfers indexed now
  pub same : expire_due clock now ≡ expire_due clock facts

-- the transfer at an index reserves its amount and is due
pub record IsDueIn (clock : ℕ) (facts : Facts) (index : ℕ) : Type 0 where
  pub transfer : Transfer
  pub at : slice_get facts.transfers index ≡ Some transfer
  pub reserves : is_reserving facts transfer ≡ true
  pub due : is_due clock transfer ≡ true

module _ {accounts : List (ℕ × Account)} {transfers : List (ℕ × Row)} {indexed : ℕ → ℕ → Bool} {facts : Facts}
    (held : AreContained accounts transfers indexed facts) where
  entry-at : (index : ℕ) → slice_get transfers index
      ≡ option_map (λ (t : Transfer). (t.id, row_in facts t)) (slice_get facts.transfers index)
  entry-at index = ap (λ entries. slice_get entries index) held.hold.transfers_are ∙ slice_get-map _ facts.transfers index

  pub expiries-fit : ExpiriesFit transfers
  expiries-fit index entry at pending = by (slice_get facts.transfers index) refl
    where
      by : (o : Option Transfer) → slice_get facts.transfers index ≡ o → expires_at entry.1.transfer < 2 ^ 64
      by None none = grind (arith, entry-at index, none, at)
      by (Some t) some =
          let ground = all-there (IsGrounded facts.accounts facts.transfers) facts.transfers index t held.sound.grounded some in
          grind (arith, entry-at index, some, at, pending, ground.expiry_fits)

  -- the transfer of a pair that may expire
  pub open-there : (m p : ℕ) → is_open_pair facts m p ≡ true → is_open_at transfers p ≡ true
  open-there m p open_one = by (slice_get facts.transfers p) refl
    where
      by : (o : Option Transfer) → slice_get facts.transfers p ≡ o → is_open_at transfers p ≡ true
      by None none = absurd (true≢false (cc (open_one, none)))
      by (Some t) some = grind (arith, row-at held.hold p some, some, open_one, resolved_either t.id facts.transfers)

  module _ (clock index : ℕ) where
    pub due-there : is_due_in transfers index clock ≡ true → IsDueIn clock facts index
    due-there is = by (slice_get facts.transfers index) refl
      where
        by : (o : Option Transfer) → slice_get facts.transfers index ≡ o → IsDueIn clock facts index
        by None none = absurd (true≢false (sym is ∙ grind (arith, entry-at index, none)))
        by (Some t) some =
            let row = entry-at index in
            record {
              transfer = t;
              at = some;
              reserves = grind (arith, row, some, is, resolved_either t.id facts.transfers);
              due = grind (arith, row, some, is);
            }

    pub can-expire : IsDueIn clock facts index → CanExpire facts accounts transfers index
    can-expire due = record {
      lawful = held.sound.lawful;
      grounded = held.sound.grounded;
      ordered = held.sound.expiries.ordered;
      hold = held.hold;
      transfer = due.transfer;
      at = due.at;
      reserves = due.reserves;
    }

    module _ {moment : ℕ} (within : moment ≤ clock) {next : ℕ → ℕ → Bool}
        (others : (m p : ℕ) → same_pair moment index m p ≡ false → indexed m p ≡ true → next m p ≡ true) where
      -- it expires
      pub still-due : {old : Facts} (can : CanExpire facts accounts transfers index) → IsDueIn clock facts index
          → expire_due clock facts ≡ expire_due clock old
          → {accounts' : List (ℕ × Account)} {transfers' : List (ℕ × Row)}
          → Contain (expire_one can.transfer.id facts) accounts' transfers' →
          StillDue clock old accounts' transfers' next
      still-due can due still hold =
          let one : can.transfer ≡ due.transfer = cc (can.at, due.at) in
          let is : is_due clock can.transfer ≡ true = ap (is_due clock) one ∙ due.due in
          record {
            now = expire_one can.transfer.id facts;
            held = record {
              hold = hold;
              sound = sound-after facts can.transfer index can.at can.lawful can.reserves can.ordered indexed next
                  (λ m p apart. others m p (grind (arith, apart))) held.sound;
            };
            same = due-after facts can.transfer index can.at can.lawful can.reserves can.ordered clock is ∙ still;
          }

      -- it doesn't: it reserves nothing any more, or isn't that of the pair
      pub passed-over : {old : Facts} → is_due_in transfers index clock ≡ false
          → expire_due clock facts ≡ expire_due clock old → StillDue clock old accounts transfers next
      passed-over not_due still = record { now = facts; held = held-by held by_pair; same = still }
        where
          by_pair : (m p : ℕ) → is_open_pair facts m p ≡ true → indexed m p ≡ true → next m p ≡ true
          by_pair m p open_one was = by (slice_get facts.transfers p) refl
            where
              by : (o : Option Transfer) → slice_get facts.transfers p ≡ o → next m p ≡ true
              by None none = absurd (true≢false (cc (open_one, none)))
              by (Some t) some =
                  let either = resolved_either t.id facts.transfers in
                  grind (arith, nat_tests, others m p, was, entry-at p, some, open_one, not_due, either, within)

-- if no pair is due, nothing that reserves its amount is
none-due : (clock : ℕ) (indexed : ℕ → ℕ → Bool) (facts : Facts) → IsSound indexed facts
    → ((m p : ℕ) → indexed m p ≡ true → clock < m) → (p : ℕ) (y : Transfer) → slice_get facts.transfers p ≡ Some y
    → (is_reserving facts y && is_due clock y) ≡ false
none-due clock indexed facts sound later p y at =
    grind (arith, nat_tests, at, sound.paired (expires_at y) p, later (expires_at y) p)

pub all-due : {clock : ℕ} {facts : Facts} {accounts : List (ℕ × Account)} {transfers : List (ℕ × Row)}
    {indexed : ℕ → ℕ → Bool} → StillDue clock facts accounts transfers indexed
    → ((m p : ℕ) → indexed m p ≡ true → clock < m) →
    AreContained accounts transfers indexed (expire_due clock facts)
all-due {clock} {facts} {accounts} {transfers} {indexed} due later =
    subst (AreContained accounts transfers indexed) (sym
    (none-left clock due.now due.held.sound.expiries.ordered (none-due clock indexed due.now due.held.sound later))
    ∙ due.same) due.held
