-- A ledger with one entry more.
use Rattle.std.proofs.Common.{refl, sym, ap, ◌∙◌, arith, ◌≡◌, ℕ, ◌+◌, ◌^◌, Bool, true, false, List, [], ◌∷◌, ◌++◌, map, length, length-append, append-nil}
use Rattle.tb_core.proofs.Words.{◌==◌, ◌||◌, nat_lt, fold, Result, Ok, Err, is_err, OnOk, flat_map, length-map, flat_map-append, fold-append, eqb-true, events_of, Input, State, after_packet, after_input, opening, Numbered, events_in, input_of, body_of, Parts, AreAnswered, BareLedgerState, with_journal, HasCommitted, halts, must_stop}
use Rattle.tb_core.proofs.Batches.{JoinInvisibly, gives_each, gives_one}

-- what holds of a call that succeeded
pub given : {A E : Type 0} (result : Result A E) (P : Type 0) → is_err result ≡ false → OnOk result P → P
given (Ok x) P ok holds = holds
given (Err e) P ok holds = cc

pub inputs-more : (groups : List (List Input)) (group : List Input)
    → flat_map (λ g. g) (groups ++ group ∷ []) ≡ flat_map (λ g. g) groups ++ group
inputs-more groups group =
    flat_map-append (λ g. g) groups (group ∷ []) ∙ ap (λ rest. flat_map (λ g. g) groups ++ rest) (append-nil group)

-- the packets of jobs, one by one
jobs_after : (state : State) (jobs : List Numbered)
    → fold after_packet state (map (λ (job : Numbered). events_in job.packet) jobs)
    ≡ fold after_input state (map input_of jobs)
jobs_after state [] = refl
jobs_after state (job ∷ jobs) = jobs_after (after_packet state (events_in job.packet)) jobs

-- the state after a batch
pub batch_state : (law : JoinInvisibly) (state : State) (parts : Parts) → AreAnswered state parts →
    after_packet state (events_of parts.operation parts.body.items)
    ≡ fold after_input state (map input_of parts.jobs.items)
batch_state law state parts answered =
    ap (λ body. after_packet state (events_of parts.operation body)) answered.body
    ∙ by (parts.operation == 131) refl ∙ jobs_after state parts.jobs.items
  where
    by : (b : Bool) → (parts.operation == 131) ≡ b
        → after_packet state (events_of parts.operation (body_of parts.jobs.items))
        ≡ fold after_packet state (map (λ (job : Numbered). events_in job.packet) parts.jobs.items)
    by true is =
        ap (λ op. after_packet state (events_of op (body_of parts.jobs.items))) (eqb-true parts.operation 131 is)
        ∙ (gives_one 0 parts.operation state parts.jobs.items answered.lawful is).states
    by false is = (gives_each law 0 parts.operation state parts.jobs.items answered.in_range answered.lawful is).states

-- a bare is at its places what the ledger of the groups that it committed is at the end of its journal
pub must_stop_is : (bare : BareLedgerState) (groups : List (List Input)) (count : ℕ) → HasCommitted bare groups
    → must_stop false (with_journal bare groups) count ≡ halts bare count
must_stop_is bare groups count is =
    ap (λ places. bare.stopped || nat_lt (2 ^ 63) (places + count)) (sym is.counted)

pub batch_entered : {bare : BareLedgerState} {groups : List (List Input)} {next : State} {count : ℕ} (jobs : List Numbered)
    → HasCommitted bare groups → next ≡ fold after_input bare.state (map input_of jobs) → count ≡ length jobs →
    HasCommitted (record bare { places = bare.places + count; state = next }) (groups ++ map input_of jobs ∷ [])
batch_entered {bare} {groups} jobs is next_is count_is =
    let group = map input_of jobs in
    let before = flat_map (λ g. g) groups in
    let all = inputs-more groups group in
    record {
      machine = next_is ∙ ap (λ s. fold after_input s group) is.machine
          ∙ sym (fold-append after_input (opening bare.opening) before group)
          ∙ ap (fold after_input (opening bare.opening)) (sym all);
      counted = omega (
        arith,
        is.counted,
        count_is,
        ap length all,
        length-append before group,
        length-map jobs input_of,
      );
    }
