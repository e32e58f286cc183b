-- A packet that a bare ledger commits alone.
use Rattle.std.proofs.Common.{refl, sym, ap, subst, ◌∙◌, arith, ◌≡◌, ◌≤◌, ◌==◌, ◌&&◌, ℕ, ◌+◌, ◌-◌, Bool, true, false, List, [], ◌∷◌, ◌++◌, map, append-nil, if◌then◌else◌}
use Rattle.std.specs.Prelude.{IsOk}
use Rattle.std.proofs.lemmas.Bool.Decides.{nat_tests}
use Rattle.tb_layout.specs.claim.Failures.{from_offset}
use Rattle.tb_layout.specs.declared.failure.Failure.{Failure}
use Rattle.tb_work.specs.claim.Admission.{admission_of}
use Rattle.tb_core.proofs.Words.{RiseWithin, clock_max, events_of, State, failures_of, answer_of, after_packet, Failures, Committed, Stopped, Numbered, events_in, input_of, count_of, is_lookup, reply_with, Kind, OfAccounts, OfTransfers, OfIds, kind_of_batch, IsLawful, BareLedgerState, with_journal, HasCommitted, HasSent, halts, Adds, apply_result, apply_step, Decision, Admitted, ReplyValue, LedgerState}
use Rattle.tb_core.specs.clauses.Alone.{reply_alone, after_alone}
use Rattle.tb_core.specs.declared.parcel.Parcel.TheVariants as parcel
use Rattle.tb_core.specs.declared.outcomes.Outcomes.TheVariants.{Cut}
use Rattle.tb_core.proofs.Batches.{JoinInvisibly, gives_each}
use Rattle.tb_core.proofs.JournalGroups.{sent_more}
use Rattle.tb_core.proofs.LedgerSteps.{outcome_here, batch_applied}
use Rattle.tb_core.proofs.OneMoreEntry.{must_stop_is, batch_entered}

-- ---- what the machine answers

lawful_alone : (job : Numbered) → IsOk (admission_of 8190 job.packet) → count_of job.packet ≤ 8190
    → IsLawful job.packet.operation (job ∷ [])
lawful_alone job admitted few =
    let same : (job.packet.operation == job.packet.operation) ≡ true = grind (arith, nat_tests) in
    record {
      some = omega arith;
      all_admitted = (admitted, tt);
      one_operation = ap (λ b. b && true) same;
      few = omega (arith, few);
      alone = λ more. absurd (omega (arith, more));
    }

-- the answer to a packet of accounts or transfers is its failures
pub record IsCommitted (state : State) (job : Numbered) : Type 0 where
  pub rises : RiseWithin 0 (count_of job.packet) (failures_of state (events_in job.packet))
  pub answer : answer_of state (events_in job.packet) ≡ Failures (failures_of state (events_in job.packet))

pub committed_alone : (law : JoinInvisibly) (state : State) (job : Numbered) → state.clock ≤ clock_max
    → IsOk (admission_of 8190 job.packet) → count_of job.packet ≤ 8190 → is_lookup job.packet ≡ false
    → IsCommitted state job
committed_alone law state job in_range admitted few other =
    let operation = job.packet.operation in
    let lawful = lawful_alone job admitted few in
    record {
      rises = subst (λ bytes. RiseWithin 0 (count_of job.packet) (failures_of state (events_of operation bytes)))
          (append-nil job.packet.bytes)
          (subst (λ n. RiseWithin 0 n (failures_of state (events_of operation (job.packet.bytes ++ [])))) (omega arith)
          (gives_each law 0 operation state (job ∷ []) in_range lawful other).rises);
      answer = answered operation (kind_of_batch operation (job ∷ []) lawful) other;
    }
  where
    answered : (op : ℕ) → Kind op → (op == 131) ≡ false → answer_of state (events_of op job.packet.bytes)
        ≡ Failures (failures_of state (events_of op job.packet.bytes))
    answered op OfAccounts not_lookup = refl
    answered op OfTransfers not_lookup = refl
    answered op OfIds not_lookup = cc

-- counted from the first
pub from_first : (failures : List Failure) → map (from_offset 0) failures ≡ failures
from_first [] = refl
from_first (failure ∷ failures) =
    let index : failure.index - 0 ≡ failure.index = omega arith in
    rw (index, from_first failures) refl

-- ---- what the ledger commits

-- it is a batch of one, committed as a group if there is a place for it
pub alone_adds : (bare : BareLedgerState) (job : Numbered) → Adds false (parcel.Batch (job ∷ [])) bare
    (Cut (reply_alone bare job ∷ [])) (if halts bare 1 then [] else (input_of job ∷ []) ∷ []) (after_alone bare job)
alone_adds bare job groups is = by (halts bare 1) refl
  where
    Applies : Bool → Type 0
    Applies stops =
        let next = if stops then record bare { stopped = true }
        else record bare { places = bare.places + 1; state = after_packet bare.state (events_in job.packet) } in
        let reply = if stops then reply_with Stopped job
        else reply_with (Committed bare.places (answer_of bare.state (events_in job.packet))) job in
        let all = groups ++ (if stops then [] else (input_of job ∷ []) ∷ []) in
        HasCommitted next all
        × (apply_result (with_journal next all) (Cut (reply ∷ [])) ≡ apply_step false (with_journal bare groups) (parcel.Batch (job ∷ [])))

    by : (stops : Bool) → halts bare 1 ≡ stops → Applies stops
    by true stops = (
      subst (HasCommitted (record bare { stopped = true })) (sym (append-nil groups))
          (record { machine = is.machine; counted = is.counted }),
      rw (append-nil groups, must_stop_is bare groups 1 is ∙ stops) refl,
    )
    by false goes = (
      batch_entered (job ∷ []) is refl refl,
      batch_applied {jobs = job ∷ []} {batch = job ∷ []} is refl refl
          (ap (λ outcome. reply_with outcome job ∷ [])
          (sym (outcome_here bare.opening bare.places bare.state _ job [] is.counted is.machine))) goes,
    )

-- whatever was sent before, this packet is too
abbrev Sends : BareLedgerState → Numbered → ReplyValue → BareLedgerState → Type 0
Sends bare job reply next =
    (start : LedgerState) (limit : ℕ) (decisions : List Decision) (replies : List ReplyValue)
    → HasSent start limit decisions bare replies
    → HasSent start limit (decisions ++ Admitted job ∷ []) next (replies ++ reply ∷ [])

pub alone_sent : {bare next : BareLedgerState} {reply : ReplyValue} (job : Numbered) → IsOk (admission_of 8190 job.packet)
    → next ≡ after_alone bare job → reply ≡ reply_alone bare job → Sends bare job reply next
alone_sent {bare} job admitted next_is reply_is = λ start limit decisions replies has.
    rw (next_is, reply_is) (sent_more false bare (parcel.Batch (job ∷ [])) (Cut (reply_alone bare job ∷ []))
    (after_alone bare job) (omega arith, (admitted, tt)) (alone_adds bare job) start limit decisions replies refl has)
