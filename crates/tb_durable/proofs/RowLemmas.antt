-- Rows in the order of their places.
use Rattle.std.proofs.Common.{◌≡◌, ◌<◌, ℕ, pos, negsuc, List, [], ◌∷◌, ◌++◌, refl, ap, ◌∙◌, arith, Less}
use Rattle.tb_durable.proofs.Words.{AllByRecursion, Int, Row, value_cmp, rowid, put_row, IsBelow}
use Rattle.std.proofs.lemmas.Int.{ints}
use Rattle.sqlite_value.proofs.OrderLemmas.{value_cmp_total, value_cmp-Int}
use Rattle.sqlite_keyed.proofs.KeyedLemmas.{Less-from_lt}

-- a row above all others comes last
pub put_row-last : (new : Row) (place : ℕ) (rows : List Row) → rowid new ≡ Int (pos place)
    → AllByRecursion (IsBelow place) rows → put_row new rows ≡ rows ++ new ∷ []
put_row-last new place [] at all = refl
put_row-last new place (row ∷ rows) at all =
    let less : value_cmp (rowid row) (rowid new) ≡ Less = ap (value_cmp (rowid row)) at ∙ all.0 in
    rw less (ap (λ more. row ∷ more) (put_row-last new place rows at all.1))

pub place-Less : (m n : ℕ) → m < n → value_cmp (Int (pos m)) (Int (pos n)) ≡ Less
place-Less m n h = value_cmp-Int (pos m) (pos n) ∙ Less-from_lt (pos m) (pos n) (omega (arith, ints))

pub below_later : (m n : ℕ) (row : Row) → m < n → IsBelow m row → IsBelow n row
below_later m n row h below =
    value_cmp_total.trans (rowid row) (Int (pos m)) (Int (pos n)) below (place-Less m n h)

pub all_below_later : (m n : ℕ) (rows : List Row) → m < n → AllByRecursion (IsBelow m) rows
    → AllByRecursion (IsBelow n) rows
all_below_later m n [] h all = tt
all_below_later m n (row ∷ rows) h all = (below_later m n row h all.0, all_below_later m n rows h all.1)

pub all_below_push : (n : ℕ) (rows : List Row) (row : Row) → AllByRecursion (IsBelow n) rows → IsBelow n row
    → AllByRecursion (IsBelow n) (rows ++ row ∷ [])
all_below_push n [] row all last = (last, tt)
all_below_push n (first ∷ rows) row all last = (all.0, all_below_push n rows row all.1 last)

pub first-Less : value_cmp (Int (negsuc 0)) (Int (pos 0)) ≡ Less
first-Less = value_cmp-Int (negsuc 0) (pos 0) ∙ Less-from_lt (negsuc 0) (pos 0) (omega (arith, ints))
