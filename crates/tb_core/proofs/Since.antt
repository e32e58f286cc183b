-- What a list has after a prefix, and what a ledger added since it was another.
use Rattle.std.proofs.Common.{refl, sym, ap, ◌∙◌, arith, ◌≡◌, ℕ, zero, suc, ◌+◌, false, List, [], ◌∷◌, ◌++◌, drop, length, append_assoc, append-nil}
use Rattle.tb_core.proofs.Words.{slice_get, flat_map, flat_map-append, replay, IsPrefix, LedgerState, inputs, groups_since, inputs_since, Commits}

pub prefix-drop : {X : Type 0} (front all : List X) → IsPrefix front all → front ++ drop (length front) all ≡ all
prefix-drop [] all (rest, is) = refl
prefix-drop (x ∷ front) [] (rest, is) = cc
prefix-drop (x ∷ front) (y ∷ all) (rest, is) =
    let others : front ++ drop (length front) all ≡ all = prefix-drop front all (rest, cc) in
    let same : x ≡ y = cc in
    ap (λ xs. x ∷ xs) others ∙ ap (λ z. z ∷ all) same

pub drop-more : {X : Type 0} (front all more : List X) → IsPrefix front all
    → drop (length front) (all ++ more) ≡ drop (length front) all ++ more
drop-more [] all more (rest, is) = refl
drop-more (x ∷ front) [] more (rest, is) = cc
drop-more (x ∷ front) (y ∷ all) more (rest, is) = drop-more front all more (rest, cc)

pub drop-whole : {X : Type 0} (xs : List X) → drop (length xs) xs ≡ []
drop-whole [] = refl
drop-whole (x ∷ xs) = drop-whole xs

pub cancel : {X : Type 0} (xs ys zs : List X) → xs ++ ys ≡ xs ++ zs → ys ≡ zs
cancel [] ys zs is = is
cancel (x ∷ xs) ys zs is = cancel xs ys zs cc

pub get-drop : {X : Type 0} (k n : ℕ) (xs : List X) → slice_get (drop k xs) n ≡ slice_get xs (k + n)
get-drop zero n xs = ap (slice_get xs) (omega arith)
get-drop (suc k) n [] = refl
get-drop (suc k) n (x ∷ xs) =
    let next : suc k + n ≡ suc (k + n) = omega arith in
    get-drop k n xs ∙ ap (slice_get (x ∷ xs)) (sym next)

pub prefix-more : {X : Type 0} (front all more : List X) → IsPrefix front all → IsPrefix front (all ++ more)
prefix-more front all more (rest, is) =
    (rest ++ more, sym (append_assoc front rest more) ∙ ap (λ xs. xs ++ more) is)

-- ---- a ledger

pub prefix-inputs : (start ledger : LedgerState) → IsPrefix start.groups ledger.groups
    → IsPrefix (inputs start) (inputs ledger)
prefix-inputs start ledger (rest, is) = (
  flat_map (λ group. group) rest,
  sym (flat_map-append (λ group. group) start.groups rest) ∙ ap (flat_map (λ group. group)) is,
)

-- what was committed before, and what was since
pub inputs-parts : (start ledger : LedgerState) → IsPrefix start.groups ledger.groups
    → inputs start ++ inputs_since start ledger ≡ inputs ledger
inputs-parts start ledger is = prefix-drop (inputs start) (inputs ledger) (prefix-inputs start ledger is)

-- the groups that were added, one after the other, are what was committed since
pub groups-inputs : (start ledger : LedgerState) → IsPrefix start.groups ledger.groups
    → flat_map (λ group. group) (groups_since start ledger) ≡ inputs_since start ledger
groups-inputs start ledger is =
    let since = groups_since start ledger in
    cancel (inputs start) (flat_map (λ group. group) since) (inputs_since start ledger)
    (sym (flat_map-append (λ group. group) start.groups since)
    ∙ ap (flat_map (λ group. group)) (prefix-drop start.groups ledger.groups is) ∙ sym (inputs-parts start ledger is))

-- a ledger that hasn't stopped has added nothing to itself
pub begun : (start : LedgerState) → start.stopped ≡ false → start.state ≡ replay start.opening (inputs start)
    → Commits start [] start []
begun start goes state_is =
    record {
      from = refl;
      continues = ([], append-nil start.groups);
      remainder = [];
      committed = refl;
      whole = λ any. refl;
      unstopped = λ any. goes;
      state = state_is;
      replied = refl;
    }
