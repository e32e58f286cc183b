-- The failures that results make, with their indices.
use Rattle.std.proofs.Common.{refl, sym, ap, ◌∙◌, arith, ◌≡◌, ◌≢◌, ℕ, zero, suc, ◌+◌, Bool, true, false, List, [], ◌∷◌, ◌++◌, length, replicate, Option, ◌≤◌, length-append, Vec, vec_len}
use Rattle.tb_machine.proofs.Words.{Results, HasCommitted, Global, History, if◌then◌else◌, ◌==◌, length-replicate, replicate_more, Failure, ChainFault, failures_from, results_of_failed, LiesBelow}
use Rattle.tb_machine.proofs.Faults.{eqb-false, length-failed_results}

abbrev failure : ℕ → ℕ → Failure
failure index code = record { index = index; code = code }

-- one more failure in front, unless the code is 0
abbrev pub failing : ℕ → ℕ → List Failure → List Failure
failing index code rest = if code == 0 then rest else failure index code ∷ rest

chosen-append : (b : Bool) (first : Failure) (xs ys : List Failure)
    → (if b then xs ++ ys else first ∷ xs ++ ys) ≡ (if b then xs else first ∷ xs) ++ ys
chosen-append true first xs ys = refl
chosen-append false first xs ys = refl

pub failures_from-append : (index : ℕ) (xs ys : List ℕ)
    → failures_from index (xs ++ ys) ≡ failures_from index xs ++ failures_from (index + length xs) ys
failures_from-append index [] ys = ap (λ i. failures_from i ys) (omega arith)
failures_from-append index (code ∷ codes) ys =
    let next : index + 1 + length codes ≡ index + length (code ∷ codes) = omega arith in
    ap (failing index code) (failures_from-append (index + 1) codes ys
    ∙ ap (λ i. failures_from (index + 1) codes ++ failures_from i ys) next)
    ∙ chosen-append (code == 0) (failure index code) (failures_from (index + 1) codes)
    (failures_from (index + length (code ∷ codes)) ys)

-- events that succeed report nothing
pub failures_from-none : (index count : ℕ) → failures_from index (replicate count 0) ≡ []
failures_from-none index zero = refl
failures_from-none index (suc count) = failures_from-none (index + 1) count

pub failures_from-linked_more : (index count : ℕ)
    → failures_from index (replicate (count + 1) 1)
    ≡ failures_from index (replicate count 1) ++ failure (index + count) 1 ∷ []
failures_from-linked_more index count =
    ap (failures_from index) (sym (replicate_more count 1)) ∙ failures_from-append index (replicate count 1) (1 ∷ [])
    ∙ ap (λ n. failures_from index (replicate count 1) ++ failure (index + n) 1 ∷ []) (length-replicate count 1)

pub failures_from-fault : (index before code count : ℕ) → code ≢ 0 →
    failures_from index (replicate before 1 ++ code ∷ replicate count 1)
    ≡ failures_from index (replicate before 1) ++ (failure (index + before) code
    ∷ failures_from (index + before + 1) (replicate count 1))
failures_from-fault index before code count fault =
    failures_from-append index (replicate before 1) (code ∷ replicate count 1)
    ∙ ap (λ n. failures_from index (replicate before 1) ++ failures_from (index + n) (code ∷ replicate count 1))
    (length-replicate before 1)
    ∙ ap (λ b. failures_from index (replicate before 1)
    ++ (if b then failures_from (index + before + 1) (replicate count 1)
    else failure (index + before) code ∷ failures_from (index + before + 1) (replicate count 1)))
    (eqb-false code 0 fault)

chosen-few : (b : Bool) (first : Failure) (rest : List Failure) (n : ℕ) → length rest ≤ n
    → length (if b then rest else first ∷ rest) ≤ suc n
chosen-few true first rest n few = omega arith
chosen-few false first rest n few = omega arith

failures_from-few : (index : ℕ) (results : List ℕ) → length (failures_from index results) ≤ length results
failures_from-few index [] = omega arith
failures_from-few index (code ∷ codes) =
    chosen-few (code == 0) (failure index code) (failures_from (index + 1) codes) (length codes)
    (failures_from-few (index + 1) codes)

-- results make at most as many failures
pub few_more : {index : ℕ} {made : Results} {tables : History} {out more : Vec Failure Global} →
    HasCommitted index made tables out more → vec_len more ≤ vec_len out + length made.results
few_more {index} {made} {tables} {out} {more} committed =
    omega (
      arith,
      ap length committed.failures,
      length-append out.items (failures_from index made.results),
      failures_from-few index made.results,
      out.ok.0,
      more.ok.0,
    )

-- the last event of an open chain reports so
pub failures_from-open : {Event : Type 0} (index count : ℕ) (fault : Option (ChainFault Event)) → LiesBelow count fault →
    failures_from index (results_of_failed count fault ++ 2 ∷ [])
    ≡ failures_from index (results_of_failed count fault) ++ failure (index + count) 2 ∷ []
failures_from-open index count fault below =
    failures_from-append index (results_of_failed count fault) (2 ∷ [])
    ∙ ap (λ n. failures_from index (results_of_failed count fault) ++ failure (index + n) 2 ∷ [])
    (length-failed_results count fault below)
