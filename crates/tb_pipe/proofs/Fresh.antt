-- Stages that took nothing.
use Rattle.std.proofs.Common.{refl, sym, ap, subst, ◌∙◌, ◌≡◌, ℕ, List, [], ◌∷◌, ◌++◌}
use Rattle.tb_pipe.proofs.Words.{All-get_or, All, Numbered, ReplyValue, items_in, Parcel, Outcomes, replies_to, AreJoined, LedgerState, groups_since, Commits, FrontState, group_as_batch, held_by, KnowsEnds, AreDecisions, given_to, Outlet, IntakeState, IsBatched, IsCommitted, answers_in, AllGiven}
use Rattle.tb_core.specs.declared.parcel.Parcel.TheVariants as parcel

pub fresh_batched : {intake : IntakeState} {front : FrontState} → front.limit ≡ intake.limit
    → front.submitters ≡ intake.submitters → AreDecisions [] front.closed front.stopped (held_by front)
    → KnowsEnds [] front → front.held ≡ [] → intake.taken ≡ [] → IsBatched intake front []
fresh_batched {front = front} under among passes knows holds no_queue = record {
  under = under;
  among = among;
  passes = subst (λ q. AreDecisions (items_in q) front.closed front.stopped (held_by front)) (sym no_queue) passes;
  joined = tt;
  late = λ before after group next is. absurd (none_in_a_row before after group next
      (sym (ap group_as_batch holds) ∙ is));
  empty = λ begins before group is. absurd (none_there before group is);
  unended = refl;
  knows = subst (λ q. KnowsEnds q front) (sym no_queue) knows;
}
  where
    none_there : (before : List Parcel) (group : List Numbered) → [] ≡ before ++ parcel.Batch group ∷ [] → ⊥
    none_there [] group is = cc
    none_there (x ∷ before) group is = cc

    none_in_a_row : (before after : List Parcel) (group next : List Numbered)
        → [] ≡ before ++ parcel.Batch group ∷ parcel.Batch next ∷ after → ⊥
    none_in_a_row [] after group next is = cc
    none_in_a_row (x ∷ before) after group next is = cc

-- a ledger with which a run may begin
pub fresh_committed : {is : LedgerState → Type 0} {ledger : LedgerState} → is ledger → Commits ledger [] ledger []
    → ((limit : ℕ) → AreJoined limit (groups_since ledger ledger)) → IsCommitted ledger [] is []
fresh_committed {ledger = ledger} now begins joined = record {
  ledger = ledger;
  now = now;
  commits = begins;
  joined = λ limit is. joined limit;
  unended = refl;
  unfinished = refl;
}

pub fresh_replies : (taken : List Outcomes) (outlets : List (Outlet ReplyValue)) → taken ≡ []
    → All (λ (outlet : Outlet ReplyValue). given_to outlet ≡ []) outlets → AllGiven (answers_in taken) outlets
fresh_replies taken outlets untaken none k d below =
    All-get_or (λ (outlet : Outlet ReplyValue). given_to outlet ≡ []) outlets k d below none
    ∙ ap (λ outcomes. replies_to (answers_in outcomes) k) (sym untaken)
