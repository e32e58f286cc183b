-- Whether a packet's last event is linked.
use Rattle.std.proofs.Common.{◌≡◌, ℕ, suc, ◌-◌, List, [], ◌∷◌, length, map, refl, sym, ap, ◌∙◌, arith, Bool, true, false, Some}
use Rattle.tb_work.proofs.Words.{slice_get, ◌==◌, if◌then◌else◌, account_of, is_linked_account, transfer_of, is_linked_transfer, Events, Accounts, Transfers, Ids, accounts_of, transfers_of, ids_of, events_of, is_last_linked, chunks_of, is_chunk_linked}
use Rattle.tb_layout.specs.claim.EventCounts.{is_open}

-- of events that chunks hold, the last chunk tells
is_last_linked-chunk : {Event : Type 0} (is_linked : Event → Bool) (f : List ℕ → Event) (chunks : List (List ℕ))
    (chunk : List ℕ) → slice_get chunks (length chunks - 1) ≡ Some chunk →
    is_last_linked is_linked (map f chunks) ≡ is_linked (f chunk)
is_last_linked-chunk is_linked f [] chunk h = cc
is_last_linked-chunk is_linked f (first ∷ []) chunk h = let same : first ≡ chunk = cc in ap (λ r. is_linked (f r)) same
is_last_linked-chunk is_linked f (first ∷ next ∷ chunks) chunk h =
    let place : length (first ∷ next ∷ chunks) - 1 ≡ suc (length (next ∷ chunks) - 1) = omega arith in
    is_last_linked-chunk is_linked f (next ∷ chunks) chunk (ap (slice_get (first ∷ next ∷ chunks)) (sym place) ∙ h)

chosen : (first second : Bool) (x y z : Events) {p q : Bool} → p ≡ is_open x → q ≡ is_open y → false ≡ is_open z →
    (if first then p else if second then q else false) ≡ is_open (if first then x else if second then y else z)
chosen true second x y z e f g = e
chosen false true x y z e f g = f
chosen false false x y z e f g = g

-- the last chunk of a packet's data decides whether it is open
pub is_open-chunk : (operation : ℕ) (bytes chunk : List ℕ) (chunks : List (List ℕ)) → chunks ≡ chunks_of 128 bytes
    → Some chunk ≡ slice_get chunks (length chunks - 1)
    → is_chunk_linked operation chunk ≡ is_open (events_of operation bytes)
is_open-chunk operation bytes chunk chunks is last =
    let at : slice_get (chunks_of 128 bytes) (length (chunks_of 128 bytes) - 1)
    ≡ Some chunk = ap (λ (rs : List (List ℕ)). slice_get rs (length rs - 1)) (sym is) ∙ sym last in
    chosen (operation == 129) (operation == 130) (Accounts (accounts_of bytes)) (Transfers (transfers_of bytes))
    (Ids (ids_of bytes))
    (sym (is_last_linked-chunk is_linked_account account_of (chunks_of 128 bytes) chunk at))
    (sym (is_last_linked-chunk is_linked_transfer transfer_of (chunks_of 128 bytes) chunk at)) refl
