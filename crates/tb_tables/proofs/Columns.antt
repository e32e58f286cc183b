-- The columns of the map of transfers, and the entries that they are seen as.
use Rattle.std.proofs.Common.{refl, sym, ap, ◌∙◌, arith, ◌≡◌, ℕ, ◌<◌, ◌≤◌, List, [], ◌∷◌, ◌++◌, length, length-append, slice_get, get_or, set, zero, suc, nat_eq, position, Option, Some, None, IsSome, is_some, option_map, option_to_list, ap₂}
use Rattle.tb_tables.proofs.Words.{same_from_push, slice_get_past, slice_get-map, Found-position, Missing-position, nat_tests, keys_of, lookup, set_value_at, Row, Status, StoredStatus, StoredTransfer, entries_of, entry_of, status_found, status_of_stored, transfer_under}

-- a value written over itself
pub set-itself : {X : Type 0} (es : List (ℕ × X)) (index : ℕ) (id : ℕ) (x : X) → slice_get es index ≡ Some (id, x)
    → set_value_at es index x ≡ es
set-itself [] index id x at = refl
set-itself (e ∷ es) zero id x at = cc
set-itself (e ∷ es) (suc index) id x at = ap (λ es. e ∷ es) (set-itself es index id x at)

pub length-entries : (rows : List (ℕ × StoredTransfer)) (statuses : List StoredStatus)
    → length statuses ≡ length rows → length (entries_of rows statuses) ≡ length rows
length-entries [] statuses same = refl
length-entries (row ∷ rows) [] same = absurd (omega (arith, same))
length-entries (row ∷ rows) (status ∷ statuses) same = ap suc (length-entries rows statuses (omega (arith, same)))

pub keys-entries : (rows : List (ℕ × StoredTransfer)) (statuses : List StoredStatus)
    → length statuses ≡ length rows → keys_of (entries_of rows statuses) ≡ keys_of rows
keys-entries [] statuses same = refl
keys-entries (row ∷ rows) [] same = absurd (omega (arith, same))
keys-entries (row ∷ rows) (status ∷ statuses) same =
    ap (λ ks. row.0 ∷ ks) (keys-entries rows statuses (omega (arith, same)))

-- ---- past the end

pub none-at : (rows : List (ℕ × StoredTransfer)) (statuses : List StoredStatus) (index : ℕ)
    → length statuses ≡ length rows → length statuses ≤ index → slice_get (entries_of rows statuses) index ≡ None
none-at rows statuses index same past =
    slice_get_past (entries_of rows statuses) index (omega (arith, length-entries rows statuses same, same, past))

-- an index that has an entry is in both columns
pub within : (rows : List (ℕ × StoredTransfer)) (statuses : List StoredStatus) (index : ℕ)
    → length statuses ≡ length rows → IsSome (slice_get (entries_of rows statuses) index) → index < length rows
within [] statuses index same there = cc
within (row ∷ rows) [] index same there = cc
within (row ∷ rows) (status ∷ statuses) zero same there = omega arith
within (row ∷ rows) (status ∷ statuses) (suc index) same there =
    omega (arith, within rows statuses index (omega (arith, same)) there)

pub transfer-at : (rows : List (ℕ × StoredTransfer)) (statuses : List StoredStatus) (index : ℕ)
    → length statuses ≡ length rows
    → option_map (λ (entry : ℕ × Row). entry.1.transfer) (slice_get (entries_of rows statuses) index)
    ≡ option_map (λ (row : ℕ × StoredTransfer). transfer_under row.0 row.1) (slice_get rows index)
transfer-at [] statuses index same = refl
transfer-at (row ∷ rows) [] index same = absurd (omega (arith, same))
transfer-at (row ∷ rows) (status ∷ statuses) zero same = refl
transfer-at (row ∷ rows) (status ∷ statuses) (suc index) same =
    transfer-at rows statuses index (omega (arith, same))

pub status-at : (rows : List (ℕ × StoredTransfer)) (statuses : List StoredStatus) (index : ℕ)
    {status : StoredStatus} → length statuses ≡ length rows → index < length rows
    → status ≡ get_or statuses index status
    → status_found (option_map (λ (entry : ℕ × Row). entry.1) (slice_get (entries_of rows statuses) index))
    ≡ status_of_stored status
status-at [] statuses index same within is = absurd (omega (arith, within))
status-at (row ∷ rows) [] index same within is = absurd (omega (arith, same))
status-at (row ∷ rows) (status ∷ statuses) zero same within is = ap status_of_stored (sym is)
status-at (row ∷ rows) (status ∷ statuses) (suc index) same within is =
    status-at rows statuses index (omega (arith, same)) (omega (arith, within)) is

-- what an entry was made of
pub transfer-is : (rows : List (ℕ × StoredTransfer)) (statuses : List StoredStatus) (index : ℕ)
    {row : ℕ × StoredTransfer} {id : ℕ} {is : Row} → length statuses ≡ length rows
    → slice_get rows index ≡ Some row → slice_get (entries_of rows statuses) index ≡ Some (id, is)
    → transfer_under row.0 row.1 ≡ is.transfer
transfer-is rows statuses index {row} {id} {is} same at there =
    let found : Some (transfer_under row.0 row.1) ≡ Some is.transfer =
    sym (transfer-at rows statuses index same ∙ ap (option_map (λ (row : ℕ × StoredTransfer).
    transfer_under row.0 row.1)) at) ∙ ap (option_map (λ (entry : ℕ × Row). entry.1.transfer)) there in
    cc found

-- ---- under an id

pub transfer-found : (id : ℕ) (rows : List (ℕ × StoredTransfer)) (statuses : List StoredStatus)
    → length statuses ≡ length rows
    → option_map (λ (row : Row). row.transfer) (lookup (nat_eq id) (entries_of rows statuses))
    ≡ option_map (transfer_under id) (lookup (nat_eq id) rows)
transfer-found id [] statuses same = refl
transfer-found id (row ∷ rows) [] same = absurd (omega (arith, same))
transfer-found id (row ∷ rows) (status ∷ statuses) same =
    grind (arith, nat_tests, transfer-found id rows statuses (omega (arith, same)))

pub found-with-status : (id : ℕ) (rows : List (ℕ × StoredTransfer)) (statuses : List StoredStatus)
    → length statuses ≡ length rows
    → is_some (lookup (nat_eq id) (entries_of rows statuses)) ≡ is_some (lookup (nat_eq id) rows)
found-with-status id [] statuses same = refl
found-with-status id (row ∷ rows) [] same = absurd (omega (arith, same))
found-with-status id (row ∷ rows) (status ∷ statuses) same =
    grind (arith, nat_tests, found-with-status id rows statuses (omega (arith, same)))

pub status-found : (id : ℕ) (rows : List (ℕ × StoredTransfer)) (statuses : List StoredStatus) (index : ℕ)
    {status : StoredStatus} → length statuses ≡ length rows → position (nat_eq id) (keys_of rows) ≡ Some index
    → status ≡ get_or statuses index status → status_found (lookup (nat_eq id) (entries_of rows statuses))
    ≡ status_of_stored status
status-found id rows statuses index same found is =
    let es : List (ℕ × Row) = entries_of rows statuses in
    let here = Found-position (nat_eq id) es index (ap (position (nat_eq id)) (keys-entries rows statuses same)
    ∙ found) in
    ap status_found (here.value ∙ slice_get-map (λ (entry : ℕ × Row). entry.1) es index)
    ∙ status-at rows statuses index same (omega (arith, here.within, length-entries rows statuses same)) is

pub no-status-found : (id : ℕ) (rows : List (ℕ × StoredTransfer)) (statuses : List StoredStatus)
    → length statuses ≡ length rows → position (nat_eq id) (keys_of rows) ≡ None
    → status_found (lookup (nat_eq id) (entries_of rows statuses)) ≡ None
no-status-found id rows statuses same none =
    ap status_found (Missing-position (nat_eq id) (entries_of rows statuses)
    (ap (position (nat_eq id)) (keys-entries rows statuses same) ∙ none)).value

-- ---- changed

pub pushed-entry : (rows : List (ℕ × StoredTransfer)) (statuses : List StoredStatus) (row : ℕ × StoredTransfer)
    (status : StoredStatus) → length statuses ≡ length rows
    → entries_of (rows ++ row ∷ []) (statuses ++ status ∷ []) ≡ entries_of rows statuses ++ entry_of row status ∷ []
pushed-entry [] [] row status same = refl
pushed-entry [] (s ∷ statuses) row status same = absurd (omega (arith, same))
pushed-entry (r ∷ rows) [] row status same = absurd (omega (arith, same))
pushed-entry (r ∷ rows) (s ∷ statuses) row status same =
    ap (λ es. entry_of r s ∷ es) (pushed-entry rows statuses row status (omega (arith, same)))

pub set-entry : (rows : List (ℕ × StoredTransfer)) (statuses : List StoredStatus) (index : ℕ)
    {id : ℕ} {row : Row} (stored : StoredStatus) {status : Status} → status_of_stored stored ≡ Some status
    → slice_get (entries_of rows statuses) index ≡ Some (id, row) → entries_of rows (set statuses index stored)
    ≡ set_value_at (entries_of rows statuses) index (record row { status = Some status })
set-entry [] statuses index stored is at = cc
set-entry (r ∷ rows) [] index stored is at = cc
set-entry (r ∷ rows) (s ∷ statuses) zero {id} {row} stored is at =
    let same : entry_of r s ≡ (id, row) = cc in
    λ i. (r.0, record { transfer = (same i).1.transfer; status = is i }) ∷ entries_of rows statuses
set-entry (r ∷ rows) (s ∷ statuses) (suc index) stored is at =
    ap (λ es. entry_of r s ∷ es) (set-entry rows statuses index stored is at)

-- the last taken off both columns
module _ (left : List (ℕ × StoredTransfer)) (rest : List StoredStatus) {rows : List (ℕ × StoredTransfer)}
    {statuses : List StoredStatus} (same : length statuses ≡ length rows) (others : List (ℕ × Row)) (last : ℕ × Row)
    (is : entries_of rows statuses ≡ others ++ last ∷ []) where
  pub popped-entry : (row : Option (ℕ × StoredTransfer)) (status : Option StoredStatus)
      → rows ≡ left ++ option_to_list row → statuses ≡ rest ++ option_to_list status → IsSome row → IsSome status
      → (option_map (λ (row : ℕ × StoredTransfer). transfer_under row.0 row.1) row ≡ Some last.1.transfer)
      × (entries_of left rest ≡ others)
  popped-entry None status rows_are statuses_are some_row some_status = cc
  popped-entry (Some row) None rows_are statuses_are some_row some_status = cc
  popped-entry (Some row) (Some status) rows_are statuses_are some_row some_status =
      let rows_length = ap length rows_are ∙ length-append left (row ∷ []) in
      let statuses_length = ap length statuses_are ∙ length-append rest (status ∷ []) in
      let short : length rest ≡ length left = omega (arith, same, rows_length, statuses_length) in
      let last_is = same_from_push (entries_of left rest) others (entry_of row status) last
      (sym (ap₂ entries_of rows_are statuses_are ∙ pushed-entry left rest row status short) ∙ is) in
      (ap (λ (entry : ℕ × Row). Some entry.1.transfer) last_is.1, last_is.0)
