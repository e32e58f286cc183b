-- What drivers have seen, once their ends are settled.
use Rattle.std.proofs.Common.{◌≡◌, ◌∙◌, ◌<◌, ℕ, zero, suc, List, [], ◌∷◌, Some, length, slice_get, get_or, ap, sym, subst, arith}
use Rattle.tb_pipe.specs.clauses.Reported.{IsSettled}
use Rattle.tb_pipe.specs.declared.settling.Report.{Report}
use Rattle.tb_pipe.proofs.Words.{ServedState, Seat, slice_get_within, slice_get-get_or, get_or_from_slice_get, EndedState, SenderState, queued_by, Numbered, ReplyValue, HaveSeenEnds, jobs_in}

-- what a submitter queued is in its end
queued_by_end : (ends : List EndedState) (control : SenderState) (k : ℕ) (ended : EndedState)
    → slice_get ends k ≡ Some ended → queued_by ends control k ≡ ended.queued
queued_by_end [] control k ended is = cc
queued_by_end (first ∷ ends) control zero ended is = cc
queued_by_end (first ∷ ends) control (suc k) ended is = queued_by_end ends control k ended is

module _ {L : Type 0} {served : ServedState L} {ends : List EndedState} {control : SenderState} {report : Report L}
    (settled : IsSettled served ends control report) (long : length ends ≡ served.intake.submitters) where
  -- settling leaves what each end has queued and read
  pub once_settled : {D : Type 0} (has_seen : D → ℕ → List Numbered → List ReplyValue → Type 0) (drivers : List D)
      → HaveSeenEnds has_seen drivers ends
      → (k : ℕ) (driver : D) (ended : EndedState) → slice_get drivers k ≡ Some driver
      → slice_get report.ends.items k ≡ Some ended
      → has_seen driver served.intake.limit (jobs_in (queued_by ends control k)) ended.read
  once_settled has_seen drivers have = λ k driver ended driver_is ended_is.
      let last = report.ends.items in
      let within : k < length ends = omega (arith, slice_get_within last k ended ended_is, settled.long, long) in
      let before = get_or ends k ended in
      let before_is : slice_get ends k ≡ Some before = slice_get-get_or ends k ended within in
      let read : before.read ≡ ended.read = sym (settled.read k ended)
      ∙ ap (λ (e : EndedState). e.read) (get_or_from_slice_get last k ended ended ended_is) in
      let limit = served.intake.limit in
      let seen : has_seen driver limit (jobs_in before.queued) before.read =
      subst (λ n. has_seen driver n (jobs_in before.queued) before.read)
      (ap (λ (seat : Seat). seat.limit) (settled.seats k ended within)) (have k driver before driver_is before_is) in
      rw (queued_by_end ends control k before before_is)
      (subst (λ r. has_seen driver limit (jobs_in before.queued) r) read seen)
