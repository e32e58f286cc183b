-- Rings and origins that stay the same while the stages run.
use Rattle.std.proofs.Common.{refl, sym, ap, subst, ◌∙◌, arith, ◌≡◌, ◌<◌, ℕ, zero, suc, ◌+◌, get_or, List, [], ◌∷◌, length}
use Rattle.tb_pipe.proofs.Words.{ReplyValue, outlet_ring, Outlet, IntakeState, Origin, Seat, origins, origins_from, seat_at, LedgerState, SameOutlets, IsPipeline, IsServed, pipeline_of, served_of, StoppedStages}
use Rattle.tb_pipe.specs.clauses.Stages.{HaveServed}
use Rattle.tb_pipe.specs.declared.stages.Stages.{Stages}

-- the same rings have the same origins
same_origins : (seats : ℕ → Seat) (n : ℕ) (old new : List (Outlet ReplyValue)) → SameOutlets old new
    → origins_from seats n new ≡ origins_from seats n old
same_origins seats n [] [] same = refl
same_origins seats n [] (y ∷ ys) same = absurd (omega (arith, same.0))
same_origins seats n (x ∷ xs) [] same = absurd (omega (arith, same.0))
same_origins seats n (x ∷ xs) (y ∷ ys) same =
    let ring : outlet_ring y ≡ outlet_ring x = same.1 0 x (omega arith) in
    let rest = same_origins seats (suc n) xs ys (
      omega (arith, same.0),
      λ k d below.
          same.1 (suc k) d (omega (arith, below)),
    ) in
    λ t. record { seat = seats n; ring = ring t } ∷ rest t

-- ---- each ring's origin

pub length-origins : (seats : ℕ → Seat) (n : ℕ) (outlets : List (Outlet ReplyValue))
    → length (origins_from seats n outlets) ≡ length outlets
length-origins seats n [] = refl
length-origins seats n (outlet ∷ outlets) = ap suc (length-origins seats (suc n) outlets)

pub seat-origins : (seats : ℕ → Seat) (n : ℕ) (outlets : List (Outlet ReplyValue)) (k : ℕ) (d : Origin)
    → k < length outlets → (get_or (origins_from seats n outlets) k d).seat ≡ seats (n + k)
seat-origins seats n [] k d below = absurd (omega (arith, below))
seat-origins seats n (outlet ∷ outlets) zero d below = ap seats (omega arith)
seat-origins seats n (outlet ∷ outlets) (suc k) d below =
    seat-origins seats (suc n) outlets k d (omega (arith, below)) ∙ ap seats (omega arith)

-- ---- serving

-- what serving leaves is known of what it was handed
pub record IsServedOf {L : Type 0} (is : L → LedgerState → Type 0) (stages : Stages L) (remains : StoppedStages L) : Type 0 where
  pub served : IsServed is remains
  pub start : (served_of remains).start ≡ (pipeline_of stages).start
  pub submitters : (served_of remains).submitters ≡ (pipeline_of stages).submitters

pub served_is : {L : Type 0} {may_be : L → LedgerState → Type 0} {stages : Stages L} {remains : StoppedStages L}
    → IsPipeline may_be stages → HaveServed may_be stages remains → IsServedOf may_be stages remains
served_is {L = L} {may_be = may_be} {stages = stages} {remains = remains} is served =
    let same = served.intake in
    record {
      served = record {
        rings = (served.rings.1 ∙ is.rings.0 ∙ sym served.rings.0, served.rings.3 ∙ is.rings.1 ∙ sym served.rings.2);
        number = served.rings.4.0 ∙ is.number ∙ sym (ap (λ (i : IntakeState). i.submitters) same);
        batched = served.batched;
        committed = λ start began. served.committed start (subst (λ (ledger : L). may_be ledger start) served.start began);
        routed = served.routed;
      };
      start = served.start;
      submitters = ap (λ (i : IntakeState). origins i remains.routed.outlets.items) same
          ∙ same_origins (seat_at stages.intake) 0 stages.demultiplexer.outlets.items remains.routed.outlets.items served.rings.4;
    }
