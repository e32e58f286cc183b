-- One step of the committer.
use Rattle.std.proofs.Common.{refl, sym, ap, subst, ◌∙◌, ◌≡◌, ℕ, Bool, true, false, List, [], ◌∷◌, ◌++◌, length, append-nil}
use Rattle.tb_pipe.proofs.Words.{◌||◌, flat_map-append, Parcel, Outcomes, all_decisions_in, decisions_in, AreJoined, AreJoinedParcels, IsJoinedParcel, LedgerState, groups_since, Commits, replies_in, is_last, is_final, has_final, answers_in, given_on, IsCommitted, CommittedTo}
use Rattle.tb_core.specs.declared.parcel.Parcel.TheVariants as parcel
use Rattle.tb_core.specs.declared.outcomes.Outcomes.TheVariants as outcomes
use Rattle.tb_core.specs.claim.AnyLedger.{Applying, IsApplied}
use Rattle.tb_core.specs.claim.Ledger.{Applied, apply_result, must_stop, apply_step}
use Rattle.tb_pipe.proofs.Lists.{either_same, none_more, any_more, all_first}

-- ---- the last parcel yields the last outcome, and no other does

final_is : (refused : Bool) (ledger next : LedgerState) (handed : Parcel) (given : Outcomes)
    → apply_result next given ≡ apply_step refused ledger handed → is_final given ≡ is_last handed
final_is refused ledger next (parcel.Batch jobs) given is =
    let view : Applied → Bool = λ step. is_final step.outcomes in ap view is
    ∙ either_same view (must_stop refused ledger (length jobs)) _ _ false refl refl
final_is refused ledger next (parcel.Pulse moment) given is =
    let view : Applied → Bool = λ step. is_final step.outcomes in ap view is
    ∙ either_same view (must_stop refused ledger 1) _ _ false refl refl
final_is refused ledger next (parcel.Return job cause) given is = ap (λ (step : Applied). is_final step.outcomes) is
final_is refused ledger next parcel.Last given is = ap (λ (step : Applied). is_final step.outcomes) is

answers-given_on : (given : Outcomes) → answers_in (given_on given) ≡ replies_in given
answers-given_on (outcomes.Cut replies) = append-nil replies
answers-given_on (outcomes.One reply) = refl
answers-given_on outcomes.Nothing = refl
answers-given_on outcomes.Last = refl

none_final : (given : Outcomes) → is_final given ≡ false → has_final (given_on given) ≡ false
none_final (outcomes.Cut replies) is = refl
none_final (outcomes.One reply) is = refl
none_final outcomes.Nothing is = refl
none_final outcomes.Last is = is

is_the_last : (given : Outcomes) → is_final given ≡ true → given ≡ outcomes.Last
is_the_last (outcomes.Cut replies) is = cc
is_the_last (outcomes.One reply) is = cc
is_the_last outcomes.Nothing is = cc
is_the_last outcomes.Last is = refl

last_of : (limit : ℕ) (sent : List Parcel) (handed : Parcel) → AreJoinedParcels limit (sent ++ handed ∷ [])
    → IsJoinedParcel limit handed
last_of limit [] handed all = all.0
last_of limit (first ∷ sent) handed all = last_of limit sent handed all.1

module _ {start : LedgerState} {sent : List Parcel} {was : LedgerState → Type 0} {before : List Outcomes}
    (has : IsCommitted start sent was before) where
  pub parcel_more : (handed : Parcel) (given : Outcomes) (is : LedgerState → Type 0) (last : Bool) → last ≡ is_last handed
      → Applying was handed given is → CommittedTo last start (sent ++ handed ∷ []) is (before ++ given_on given)
  parcel_more handed given is last last_is applying = by last last_is
    where
      step : (next : LedgerState) × is next × IsApplied has.ledger handed given next
      step = applying has.ledger has.now

      next : LedgerState
      next = step.0

      applied : IsApplied has.ledger handed given next
      applied = step.2

      final : is_final given ≡ is_last handed
      final = final_is applied.refused has.ledger next handed given applied.step

      spelling : all_decisions_in (sent ++ handed ∷ []) ≡ all_decisions_in sent ++ decisions_in handed
      spelling = flat_map-append decisions_in sent (handed ∷ [])
          ∙ ap (λ ps. all_decisions_in sent ++ ps) (append-nil (decisions_in handed))

      commits : Commits start (all_decisions_in (sent ++ handed ∷ [])) next (answers_in before ++ replies_in given)
      commits = subst (λ ps. Commits start ps next (answers_in before ++ replies_in given)) (sym spelling)
          (applied.commits start (all_decisions_in sent) (answers_in before) has.commits)

      joined : (limit : ℕ) → AreJoinedParcels limit (sent ++ handed ∷ []) → AreJoined limit (groups_since start next)
      joined limit all =
          applied.joined start limit has.commits.continues (last_of limit sent handed all)
          (has.joined limit (all_first (IsJoinedParcel limit) sent (handed ∷ []) all))

      by : (last : Bool) → last ≡ is_last handed → CommittedTo last start (sent ++ handed ∷ []) is
          (before ++ given_on given)
      by true ends =
          let end : given ≡ outcomes.Last = is_the_last given (final ∙ sym ends) in
          record {
            ledger = next;
            now = step.1;
            before = before;
            parts = ap (λ (o : Outcomes). before ++ given_on o) end;
            commits = subst (λ rs. Commits start (all_decisions_in (sent ++ handed ∷ [])) next rs)
                (ap (λ (o : Outcomes). answers_in before ++ replies_in o) end
                ∙ append-nil (answers_in before)) commits;
            joined = joined;
            ended = any_more is_last sent handed (sym ends);
            unfinished = has.unfinished;
          }
      by false ends = record {
        ledger = next;
        now = step.1;
        commits = subst (λ rs. Commits start (all_decisions_in (sent ++ handed ∷ [])) next rs)
            (ap (λ rs. answers_in before ++ rs) (sym (answers-given_on given))
            ∙ sym (flat_map-append replies_in before (given_on given))) commits;
        joined = joined;
        unended = none_more is_last sent (handed ∷ []) has.unended (ap (λ found. found || false) (sym ends));
        unfinished = none_more is_final before (given_on given) has.unfinished (none_final given (final ∙ sym ends));
      }
