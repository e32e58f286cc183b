-- What the maps contain, and what it says of the facts.
use Rattle.std.specs.Prelude.{◌≡◌, ℕ, ◌<◌, ◌^◌, Bool, true, false, ◌&&◌, ◌==◌, not, List, [], ◌∷◌, map, filter, length, slice_get, Option, Some, None}
use Rattle.std.specs.List.{list_any, AllByRecursion}
use Rattle.tb_layout.specs.declared.account.Account.{Account as AccountRecord}
use Rattle.tb_layout.specs.declared.transfer.Transfer.{Transfer as TransferRecord}
use Rattle.tb_layout.specs.claim.Transfer.{is_pending, is_resolving}
use Rattle.tb_tables.specs.claim.Facts.{Facts, transfer_with, is_expired, add_transfer}
use Rattle.tb_tables.specs.claim.Status.{is_reserving, expires_at}
use Rattle.tb_tables.specs.clauses.Status.{is_resolved, status_in}
use Rattle.tb_tables.specs.clauses.Expiries.{same_pair}
use Rattle.tb_tables.specs.clauses.Changes.{before, oldest}
use Rattle.tb_tables.specs.clauses.Conditions.{HasNoBalances, MayAdd, MayResolve}
use Rattle.tb_tables.specs.clauses.Lawful.{IsLawful, has_id}
use Rattle.tb_tables.specs.clauses.Sums.{sums_of, account_rows, AreAt}
use Rattle.tb_tables.specs.declared.indices.Indices.{Indices}
use Rattle.tb_tables.specs.declared.row.Row.{Row}
use Rattle.tb_tables.specs.declared.status.Status.{Status}
use Rattle.tb_tables.specs.declared.status.Status.TheVariants.{Expired}
use Rattle.tb_tables.specs.declared.change.Change.{Change}
use Rattle.tb_tables.specs.declared.change.Change.TheVariants.{Transfer}

-- the maps' entries, the failed ids, and which pairs of moment and index the expiries have
pub record Contents : Type 0 where
  pub accounts : List (ℕ × AccountRecord)
  pub transfers : List (ℕ × Row)
  pub failed : List ℕ
  pub is_in_expiries : ℕ → ℕ → Bool

-- an account as it was made
abbrev pub account_made : ℕ × AccountRecord → AccountRecord
account_made entry = record entry.1 { debits_pending = 0; debits_posted = 0; credits_pending = 0; credits_posted = 0 }

abbrev pub has_expired : Option Status → Bool
has_expired (Some Expired) = true
has_expired other = false

-- the facts that they are seen as
abbrev pub facts_of : Contents → Facts
facts_of stored =
    record {
      accounts = map account_made stored.accounts;
      transfers = map (λ entry. entry.1.transfer) stored.transfers;
      expired = map (λ entry. entry.1.transfer.id) (filter (λ entry. has_expired entry.1.status) stored.transfers);
      failed = stored.failed;
    }

-- ---- the maps

abbrev pub row_in : Facts → TransferRecord → Row
row_in facts transfer = record { transfer = transfer; status = status_in facts transfer }

-- the transfers as they are stored, each under its id
abbrev pub transfer_rows : Facts → List TransferRecord → List (ℕ × Row)
transfer_rows facts transfers = map (λ transfer. (transfer.id, row_in facts transfer)) transfers

-- the maps hold the facts
pub record Contain (facts : Facts) (account_entries : List (ℕ × AccountRecord))
    (transfer_entries : List (ℕ × Row)) : Type 0 where
  pub accounts_are : account_entries ≡ account_rows (sums_of facts) facts.accounts
  pub transfers_are : transfer_entries ≡ transfer_rows facts facts.transfers

-- ---- the expiries

-- whether a transfer has a moment at which it expires
abbrev pub is_timed : TransferRecord → Bool
is_timed transfer = is_pending transfer && not (transfer.timeout == 0)

-- whether a pair is that of a transfer
abbrev pub is_pair_of : ℕ → Option TransferRecord → Bool
is_pair_of moment None = false
is_pair_of moment (Some transfer) = is_timed transfer && (expires_at transfer == moment)

abbrev pub is_pair : Facts → ℕ → ℕ → Bool
is_pair facts moment index = is_pair_of moment (slice_get facts.transfers index)

-- whether a pair is that of a transfer that reserves its amount
abbrev pub reserves_at : Facts → Option TransferRecord → Bool
reserves_at facts None = false
reserves_at facts (Some transfer) = is_reserving facts transfer

abbrev pub is_open_pair : Facts → ℕ → ℕ → Bool
is_open_pair facts moment index = is_pair facts moment index && reserves_at facts (slice_get facts.transfers index)

-- ---- what is true of the facts now, and at each mark

-- whether the id is that of one of the accounts
abbrev pub has_account : ℕ → List AccountRecord → Bool
has_account id accounts = list_any (λ (account : AccountRecord). account.id == id) accounts

-- a transfer is between accounts, what it names is there, and the moment at which it expires can be written down
pub record IsGrounded (accounts : List AccountRecord) (transfers : List TransferRecord)
    (transfer : TransferRecord) : Type 0 where
  pub debit : has_account transfer.debit_account_id accounts ≡ true
  pub credit : has_account transfer.credit_account_id accounts ≡ true
  pub named : is_resolving transfer ≡ true → has_id transfer.pending_id transfers ≡ true
  pub expiry_fits : is_pending transfer ≡ true → expires_at transfer < 2 ^ 64

abbrev pub AreGrounded : Facts → Type 0
AreGrounded facts = AllByRecursion (IsGrounded facts.accounts facts.transfers) facts.transfers

-- what expired is in order of making, and is pending and unresolved
pub record AreExpiries (facts : Facts) : Type 0 where
  pub ordered : facts.expired ≡ map (λ (transfer : TransferRecord). transfer.id)
      (filter (λ transfer. is_expired facts transfer.id) facts.transfers)
  pub open_ones : (index : ℕ) (transfer : TransferRecord) → slice_get facts.transfers index ≡ Some transfer
      → is_expired facts transfer.id ≡ true → (is_pending transfer ≡ true) × (is_resolved facts transfer.id ≡ false)

pub record IsSound (is_in_expiries : ℕ → ℕ → Bool) (facts : Facts) : Type 0 where
  pub lawful : IsLawful facts
  pub grounded : AreGrounded facts
  pub made : AllByRecursion HasNoBalances facts.accounts
  pub expiries : AreExpiries facts
  pub paired : (moment index : ℕ) → is_open_pair facts moment index ≡ true → is_in_expiries moment index ≡ true

-- the maps hold the facts, and there is a pair of each transfer that may expire
pub record AreContained (account_entries : List (ℕ × AccountRecord)) (transfer_entries : List (ℕ × Row))
    (is_in_expiries : ℕ → ℕ → Bool) (facts : Facts) : Type 0 where
  pub hold : Contain facts account_entries transfer_entries
  pub sound : IsSound is_in_expiries facts

abbrev pub AreConsistent : Contents → Type 0
AreConsistent stored = AreContained stored.accounts stored.transfers stored.is_in_expiries (facts_of stored)

-- the pair of a transfer that is stored next
abbrev pub its_pair : Facts → TransferRecord → ℕ → ℕ → Bool
its_pair facts transfer moment index =
    is_timed transfer && same_pair (expires_at transfer) (length facts.transfers) moment index

-- ---- what was owed for a transfer that was stored

pub record MayPost (facts : Facts) (transfer : TransferRecord) (index : ℕ) : Type 0 where
  pub new : transfer_with facts transfer.id ≡ None
  pub may : MayResolve facts transfer
  pub pending_at : slice_get facts.transfers index ≡ Some may.pending

abbrev pub MayStore : Facts → TransferRecord → Option ℕ → Type 0
MayStore facts transfer None = MayAdd facts transfer
MayStore facts transfer (Some index) = MayPost facts transfer index

-- the indices are those of the accounts
abbrev pub HaveIndices : Facts → TransferRecord → Indices → Type 0
HaveIndices facts transfer indices =
    AreAt facts.accounts indices transfer.debit_account_id transfer.credit_account_id

-- the facts allow it, and the indices are those of its accounts
pub record Allow (facts : Facts) (transfer : TransferRecord) (indices : Indices) : Type 0 where
  pub lawful : IsLawful facts
  pub grounded : AreGrounded facts
  pub not_expired : is_expired facts transfer.id ≡ false
  pub are_at : HaveIndices facts transfer indices
  pub may : MayStore facts transfer indices.pending

-- ---- the undo list

pub record WasStored (indices : Indices) (old new : Facts) : Type 0 where
  pub transfer : TransferRecord
  pub stored : new ≡ add_transfer old transfer
  pub allow : Allow old transfer indices

abbrev pub WasMade : Change → Facts → Facts → Type 0
WasMade (Transfer indices) old new = WasStored indices old new
WasMade other old new = Unit {0}

-- what a change says of the facts after it
abbrev pub IsUndoable : (ℕ → ℕ → Bool) → Change → Facts → Type 0
IsUndoable indexed change facts = IsSound indexed (before change facts) × WasMade change (before change facts) facts

abbrev pub AreUndoable : (ℕ → ℕ → Bool) → List Change → Facts → Type 0
AreUndoable indexed [] facts = Unit {0}
AreUndoable indexed (change ∷ changes) facts =
    IsUndoable indexed change (oldest changes facts) × AreUndoable indexed changes facts

-- the maps contain the facts, and each change can be undone
pub record AreKept (changes : List Change) (stored : Contents) : Type 0 where
  pub consistent : AreConsistent stored
  pub undoable : AreUndoable stored.is_in_expiries changes (facts_of stored)

-- each pair of the indices below a count that is in the one set is in the other
abbrev pub KeepsPairs : ℕ → (ℕ → ℕ → Bool) → (ℕ → ℕ → Bool) → Type 0
KeepsPairs count old new = (moment index : ℕ) → index < count → old moment index ≡ true → new moment index ≡ true
