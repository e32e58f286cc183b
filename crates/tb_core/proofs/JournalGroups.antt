-- A batch's packets make a lawful group of the journal, and a ledger keeps its groups lawful.
use Rattle.std.proofs.Common.{refl, sym, ap, subst, ◌∙◌, arith, ◌≡◌, ℕ, Bool, List, [], ◌∷◌, ◌++◌, map, length}
use Rattle.tb_core.proofs.Words.{cond_both, Input, Pulse, Numbered, ReplyValue, input_of, IsJoined, IsGroup, Parcel, AreJoined, IsJoinedParcel, IsPrefix, LedgerState, groups_since, Applied, apply_result, must_stop, apply_step, with_entry, Applying, IsApplied, IsWithJournal, BareLedgerState, with_journal, HasSent, Adds, decisions_in, Decision, Commits, HasPackets, replies_in}
use Rattle.tb_core.specs.declared.parcel.Parcel.TheVariants as parcel
use Rattle.tb_core.specs.declared.outcomes.Outcomes.{Outcomes}
use Rattle.tb_core.proofs.LedgerSteps.{all-push, HasJobs, commits_more}
use Rattle.tb_core.proofs.Since.{drop-more}

group_joined : (limit : ℕ) (jobs : List Numbered) → HasPackets (parcel.Batch jobs) → IsGroup limit jobs
    → IsJoined limit (map input_of jobs)
group_joined limit [] some is = absurd (omega (arith, some.0))
group_joined limit (job ∷ jobs) some is = is

-- a ledger whose groups since its start are lawful, after one parcel more
module _ (start ledger : LedgerState) (limit : ℕ) (on : IsPrefix start.groups ledger.groups)
    (all : AreJoined limit (groups_since start ledger)) where
  group_more : (group : List Input) → IsJoined limit group → AreJoined limit (groups_since start (with_entry ledger group))
  group_more group joined =
      subst (AreJoined limit) (sym (drop-more start.groups ledger.groups (group ∷ []) on))
      (all-push (IsJoined limit) (groups_since start ledger) group all joined)

  joined_more : (refused : Bool) (handed : Parcel) → HasPackets handed → IsJoinedParcel limit handed
      → AreJoined limit (groups_since start (apply_step refused ledger handed).ledger)
  joined_more refused (parcel.Batch jobs) some joined =
      cond_both (must_stop refused ledger (length jobs)) _ _
      (λ (a : Applied). AreJoined limit (groups_since start a.ledger)) (λ stops. all)
      (λ goes. group_more (map input_of jobs) (group_joined limit jobs some joined))
  joined_more refused (parcel.Pulse moment) some joined =
      cond_both (must_stop refused ledger 1) _ _ (λ (a : Applied). AreJoined limit (groups_since start a.ledger))
      (λ stops. all) (λ goes. group_more (Pulse moment ∷ []) refl)
  joined_more refused p some joined = all

has_jobs : (p : Parcel) → HasPackets p → HasJobs p
has_jobs (parcel.Batch jobs) some = some.0
has_jobs p some = tt

pub is_applied : (refused : Bool) (ledger next : LedgerState) (handed : Parcel) (outcomes : Outcomes) → HasPackets handed
    → apply_result next outcomes ≡ apply_step refused ledger handed → IsApplied ledger handed outcomes next
is_applied refused ledger next handed outcomes some is = record {
  refused = refused;
  step = is;
  commits = λ start decisions replies commits.
      subst (λ (a : Applied). Commits start (decisions ++ decisions_in handed) a.ledger (replies ++ replies_in a.outcomes))
      (sym is) (commits_more start decisions ledger replies commits refused handed (has_jobs handed some));
  joined = λ start limit on joined all.
      subst (λ (a : Applied). AreJoined limit (groups_since start a.ledger)) (sym is)
      (joined_more start ledger limit on all refused handed some joined);
}

-- a bare ledger that applied a parcel
module _ (refused : Bool) (bare : BareLedgerState) (handed : Parcel) (outcomes : Outcomes) {added : List (List Input)}
    (next : BareLedgerState) (some : HasPackets handed) (adds : Adds refused handed bare outcomes added next) where
  pub bare_applied : Applying (IsWithJournal bare) handed outcomes (IsWithJournal next)
  bare_applied old was =
      let groups = old.groups ++ added in
      let made = adds old.groups was.committed in (
        with_journal next groups,
        record { same = refl; committed = made.0 },
        is_applied refused old (with_journal next groups) handed outcomes some
            (made.1 ∙ ap (λ (ledger : LedgerState). apply_step refused ledger handed) (sym was.same)),
      )

  pub sent_more : (start : LedgerState) (limit : ℕ) (decisions : List Decision) (replies : List ReplyValue)
      → IsJoinedParcel limit handed → HasSent start limit decisions bare replies
      → HasSent start limit (decisions ++ decisions_in handed) next (replies ++ replies_in outcomes)
  sent_more start limit decisions replies joined has =
      let made = adds has.groups has.committed in
      let groups = has.groups ++ added in
      let applied = is_applied refused (with_journal bare has.groups) (with_journal next groups) handed outcomes some made.1 in
      record {
        groups = groups;
        committed = made.0;
        commits = applied.commits start decisions replies has.commits;
        joined = applied.joined start limit has.commits.continues joined has.joined;
      }
