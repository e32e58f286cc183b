-- Lines one after another: those without fault, and the first faulty one.
use Rattle.std.proofs.Common.{◌≡◌, ℕ, suc, ◌+◌, List, [], ◌∷◌, ◌++◌, length, Result, Ok, Err, refl, sym, ap, ◌∙◌, arith}
use Rattle.tb_program_text.proofs.Words.{nil_from_length, IsOk, Fault, ParsedScript, at_line, ◌>>=◌, FirstFaultDecides, FaultlessLinesAreParsed}
use Rattle.tb_program_text.specs.clauses.Text.{lines_of}
use Rattle.tb_program_text.specs.clauses.Script.{after_line, after_lines}

pub line_parsed : (number : ℕ) (parsed : ParsedScript) {next : ParsedScript} {line : List ℕ} {all lines : List (List ℕ)}
    → all ≡ line ∷ lines → after_line parsed line ≡ Ok next → after_lines number parsed all ≡ after_lines (number + 1) next lines
unfolding after_lines
line_parsed number parsed first is = rw first (rw is refl)

pub line_faulty : (number : ℕ) (parsed : ParsedScript) {fault : Fault} {line : List ℕ} {all lines : List (List ℕ)}
    → all ≡ line ∷ lines → after_line parsed line ≡ Err fault → after_lines number parsed all ≡ Err (number, fault)
unfolding after_lines
line_faulty number parsed first is = rw first (rw is refl)

pub lines_ended : (number : ℕ) (parsed : ParsedScript) (bs : List ℕ) → length bs ≡ 0
    → after_lines number parsed (lines_of bs) ≡ Ok parsed
unfolding after_lines lines_of
lines_ended number parsed bs none = rw (nil_from_length bs none) refl

first_step : (number : ℕ) (r : Result ParsedScript Fault) (lines : List (List ℕ)) (next : ParsedScript)
    → (at_line number r >>= λ s. after_lines (number + 1) s lines) ≡ Ok next →
    (s : ParsedScript) × (r ≡ Ok s) × (after_lines (number + 1) s lines ≡ Ok next)
first_step number (Ok s) lines next h = (s, refl, h)
first_step number (Err fault) lines next h = cc

pub after_lines-append : (number : ℕ) (parsed next : ParsedScript) (front back : List (List ℕ))
    → after_lines number parsed front ≡ Ok next → after_lines number parsed (front ++ back)
    ≡ after_lines (number + length front) next back
unfolding after_lines
after_lines-append number parsed next [] back fine =
    let same : parsed ≡ next = cc in
    let count : number + 0 ≡ number = omega arith in
    rw (same, count) refl
after_lines-append number parsed next (line ∷ front) back fine =
    let step = first_step number (after_line parsed line) front next fine in
    let count : number + 1 + length front ≡ number + suc (length front) = omega arith in
    rw step.1 (after_lines-append (number + 1) step.0 next front back step.2 ∙ ap (λ n. after_lines n next back) count)

module _ (number : ℕ) (parsed next : ParsedScript) (lines others : List (List ℕ)) (line : List ℕ) (fault : Fault) where
  first_fault : after_lines number parsed lines ≡ Ok next → after_line next line ≡ Err fault
      → after_lines number parsed (lines ++ line ∷ others) ≡ Err (number + length lines, fault)
  first_fault fine faulty =
      after_lines-append number parsed next lines (line ∷ others) fine ∙ line_faulty (number + length lines) next refl faulty

pub decides : FirstFaultDecides
decides = first_fault

faultless_step : (number : ℕ) (parsed : ParsedScript) (line : List ℕ) (lines : List (List ℕ)) (r : Result ParsedScript Fault)
    → r ≡ after_line parsed line → IsOk r →
    ((next : ParsedScript) → after_line parsed line ≡ Ok next → IsOk (after_lines (number + 1) next lines))
    → IsOk (at_line number r >>= λ next. after_lines (number + 1) next lines)
faultless_step number parsed line lines (Ok next) e fine rest = rest next (sym e)
faultless_step number parsed line lines (Err fault) e fine rest = cc

pub faultless : FaultlessLinesAreParsed
unfolding after_lines
faultless number parsed [] none_faulty = refl
faultless number parsed (line ∷ lines) none_faulty =
    faultless_step number parsed line lines (after_line parsed line) refl (none_faulty [] lines line parsed refl refl)
    (λ next is. faultless (number + 1) next lines (λ front back later before parts fine.
    none_faulty (line ∷ front) back later before (ap (λ ls. line ∷ ls) parts) (line_parsed number parsed refl is ∙ fine)))
