-- What the submitters' threads returned, and one result more.
use Rattle.std.proofs.Common.{ℕ, List, ◌∷◌, ◌++◌, [], Some, length, map, ap, refl, arith}
use Rattle.tb_drive.proofs.Words.{length-append, length-map, map-append, EndedState, SubmitterState, end_origin, Numbered, Packet, ReplyValue, HasSeenEnd, IsPrefixOf, AreResultsOf, HaveJoined, IsResultOf, SubmitterTaskState, task_origin, task_share, task_submitter}
use Rattle.tb_drive.proofs.Seen.{one_more}

module _ {D : Type 0} (share : D → List Packet) where
  one_more_result : (tasks : List SubmitterTaskState) (ends : List EndedState) (drivers : List D)
      (task : SubmitterTaskState) (end : EndedState) (driver : D) → AreResultsOf tasks ends (map share drivers)
      → IsResultOf task (record { ended = Some end; share = share driver })
      → AreResultsOf (tasks ++ task ∷ []) (ends ++ end ∷ []) (map share (drivers ++ driver ∷ []))
  one_more_result tasks ends drivers task end driver had is = record {
    own = rw (
      map-append end_origin ends (end ∷ []),
      map-append task_origin tasks (task ∷ []),
      had.own,
      is.0.0,
    ) refl;
    front = rw (map-append task_submitter tasks (task ∷ []))
        (one_more (λ (submitter : SubmitterState) (ended : EndedState). IsPrefixOf submitter.queued ended.queued)
        (map task_submitter tasks) ends
        (omega (
          arith,
          length-map tasks task_submitter,
          length-map tasks task_origin,
          ap length had.own,
          length-map ends end_origin,
        )) had.front is.0.1);
    shares_are = rw (
      map-append share drivers (driver ∷ []),
      map-append task_share tasks (task ∷ []),
      had.shares_are,
      is.1,
    ) refl;
  }

  pub one_more_joined : (has_seen has_ended : D → ℕ → List Numbered → List ReplyValue → Type 0)
      {tasks : List SubmitterTaskState} {ends : List EndedState} {drivers : List D} (task : SubmitterTaskState)
      (end : EndedState) (driver : D) → HaveJoined share has_seen has_ended tasks ends drivers
      → IsResultOf task (record { ended = Some end; share = share driver })
      → HasSeenEnd has_seen driver end × HasSeenEnd has_ended driver end
      → HaveJoined share has_seen has_ended (tasks ++ task ∷ []) (ends ++ end ∷ []) (drivers ++ driver ∷ [])
  one_more_joined has_seen has_ended task end driver had is has = record {
    results = one_more_result _ _ _ task end driver had.results is;
    number = omega (arith, length-append {A = D}, length-append {A = EndedState});
    seen = one_more (HasSeenEnd has_seen) _ _ had.number had.seen has.0;
    ended = one_more (HasSeenEnd has_ended) _ _ had.number had.ended has.1;
  }
