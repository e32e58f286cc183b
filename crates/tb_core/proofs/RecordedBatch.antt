-- What is recorded of a batch that was committed.
use Rattle.std.proofs.Common.{refl, sym, ap, subst, ◌∙◌, ◌≡◌, ◌≤◌, ℕ, ◌+◌, ◌^◌, Bool, true, false, not, List, [], ◌∷◌, map, length}
use Rattle.tb_core.proofs.Words.{◌==◌, list_all, RiseWithin, events_of, ids_of, State, failures_of, accounts_found, Committed, count_of, Numbered, reply_with, is_lookup, count_of_all, are_of, first_is, Parts, cut_replies, cut_replies_from, IsOutcomeOfAll, AreAnswered, answer_in}
use Rattle.tb_layout.specs.declared.answer.Answer.TheVariants.{Accounts}
use Rattle.tb_core.proofs.PacketAnswers.{answers_from}
use Rattle.tb_core.proofs.Batches.{JoinInvisibly, gives_each, gives_one}

no_lookups : (operation : ℕ) (jobs : List Numbered) → (operation == 131) ≡ false → are_of operation jobs ≡ true
    → list_all (λ job. not (is_lookup job.packet)) jobs ≡ true
no_lookups operation [] other one = refl
no_lookups operation (job ∷ jobs) other one =
    let first = first_is operation job jobs one in
    rw (first.0, other) (no_lookups operation jobs other first.1)

-- its outcome may be cut, and the replies are those of the packets each by itself
pub record IsRecorded (place : ℕ) (state : State) (parts : Parts) : Type 0 where
  pub fits : IsOutcomeOfAll (Committed place (answer_in parts.operation parts.failures.items parts.accounts.items))
      parts.jobs.items
  pub replies : cut_replies (Committed place (answer_in parts.operation parts.failures.items parts.accounts.items))
      parts.jobs.items ≡ answers_from place state parts.jobs.items

pub recorded : (law : JoinInvisibly) (place : ℕ) (state : State) (parts : Parts)
    → place + length parts.jobs.items ≤ 2 ^ 63 → AreAnswered state parts → IsRecorded place state parts
recorded law place state parts few answered = by (parts.operation == 131) refl
  where
    by : (b : Bool) → (parts.operation == 131) ≡ b → IsRecorded place state parts
    by true is =
        let gives = gives_one place parts.operation state parts.jobs.items answered.lawful is in
        let accounts = answered.accounts is ∙ ap (λ body. accounts_found state.facts (ids_of body)) answered.body in
        record {
          fits = rw is (
            few,
            (
              gives.job,
              gives.only,
              gives.lookup,
              subst
                  (λ found. length found ≤ count_of gives.job.packet) (sym accounts) gives.few,
            ),
          );
          replies = rw is (ap (λ found. map (reply_with (Committed place (Accounts found))) parts.jobs.items)
              accounts ∙ gives.replies);
        }
    by false is =
        let gives = gives_each law place parts.operation state parts.jobs.items answered.in_range answered.lawful is in
        let failures = answered.failures is ∙ ap (λ body.
        failures_of state (events_of parts.operation body)) answered.body in
        record {
          fits = rw is (
            few,
            (
              subst (RiseWithin 0 (count_of_all parts.jobs.items))
                  (sym failures) gives.rises,
              no_lookups parts.operation parts.jobs.items is
                  answered.lawful.one_operation,
            ),
          );
          replies = rw is (ap (λ found. cut_replies_from place 0 found parts.jobs.items) failures ∙ gives.replies);
        }
