-- Jobs, whose packets were admitted: their operations, their events, and whether they join.
use Rattle.std.proofs.Common.{refl, sym, ap, subst, ◌∙◌, arith, ◌≡◌, ◌==◌, ℕ, zero, suc, ◌+◌, ◌*◌, ◌/◌, Bool, true, false, nat_le, List, [], ◌∷◌, ◌&&◌, if◌then◌else◌, Some, None, drop, length, length-append, map}
use Rattle.tb_batch.proofs.Words.{IsOk, unwrap_or, and_parts, eqb-true, length-map, chunks, events_of, admission_of, admission_of_size, count_of, count_of_size, event_size, Numbered, events_in, input_of, count_of_all, body_of, are_of, all_share, AreAdmitted, IsLawful, operation_of, can_share, shares_with, events_together, joins}
use Rattle.std.specs.List.{list_all}
use Rattle.std.specs.Simd.{first_chunks}
use Rattle.tb_layout.specs.claim.Account.{account_of}
use Rattle.tb_layout.specs.claim.Transfer.{transfer_of}
use Rattle.tb_layout.specs.claim.Bytes.{little_endian}
use Rattle.tb_layout.specs.claim.EventCounts.{count_of as count_of_events}
use Rattle.tb_work.proofs.Admissions.{admitted_are_whole}
use Rattle.tb_work.specs.declared.packet.Packet.{Packet}

-- ---- operations

-- those that a packet may have
pub data Kind : ℕ → Type 0 where
  OfAccounts : Kind 129
  OfTransfers : Kind 130
  OfIds : Kind 131

pub kind_of : (operation : ℕ) (bytes : List ℕ)
    → IsOk (admission_of_size 8190 bytes (event_size operation)) → Kind operation
kind_of operation bytes ok = by (operation == 129) (operation == 130) (operation == 131) refl refl refl ok
  where
    kind : (number : ℕ) → Kind number → (operation == number) ≡ true → Kind operation
    kind number of_it is = subst Kind (sym (eqb-true operation number is)) of_it

    by : (a b c : Bool) → (operation == 129) ≡ a → (operation == 130) ≡ b → (operation == 131) ≡ c →
        IsOk (admission_of_size 8190 bytes (if a then Some 128 else if b then Some 128 else if c then Some 16
        else None)) → Kind operation
    by true b c is_a is_b is_c ok = kind 129 OfAccounts is_a
    by false true c is_a is_b is_c ok = kind 130 OfTransfers is_b
    by false false true is_a is_b is_c ok = kind 131 OfIds is_c
    by false false false is_a is_b is_c ok = cc

-- its operation, of a batch's first packet
pub first_is : (operation : ℕ) (job : Numbered) (jobs : List Numbered) → are_of operation (job ∷ jobs) ≡ true
    → (job.packet.operation ≡ operation) × (are_of operation jobs ≡ true)
first_is operation job jobs all =
    let parts = and_parts (job.packet.operation == operation) (are_of operation jobs) all in
    (eqb-true job.packet.operation operation parts.0, parts.1)

pub kind_of_batch : (operation : ℕ) (jobs : List Numbered) → IsLawful operation jobs → Kind operation
kind_of_batch operation [] lawful = absurd (omega (arith, lawful.some))
kind_of_batch operation (job ∷ jobs) lawful =
    subst Kind (first_is operation job jobs lawful.one_operation).0
    (kind_of job.packet.operation job.packet.bytes lawful.all_admitted.0)

-- ---- sizes

-- the data is whole events
pub whole_events : (packet : Packet) (size : ℕ) → event_size packet.operation ≡ Some size
    → IsOk (admission_of 8190 packet) → length packet.bytes / size * size ≡ length packet.bytes
whole_events packet size is ok =
    subst (λ s. count_of_size packet.bytes s * unwrap_or s 0 ≡ length packet.bytes) is
    (admitted_are_whole 8190 packet.bytes (event_size packet.operation) ok).whole

pub body_size : (operation size : ℕ) (jobs : List Numbered) → event_size operation ≡ Some size
    → are_of operation jobs ≡ true → AreAdmitted jobs → length (body_of jobs) ≡ count_of_all jobs * size
body_size operation size [] is one all = omega arith
body_size operation size (job ∷ jobs) is one all =
    let first = first_is operation job jobs one in
    let own = ap event_size first.0 ∙ is in
    let bytes = job.packet.bytes in
    let count : count_of job.packet * size ≡ length bytes = ap (λ s. count_of_size bytes s * size) own
    ∙ whole_events job.packet size own all.0 in
    let rest = body_size operation size jobs is first.1 all.1 in
    length-append bytes (body_of jobs) ∙ sym (grind (arith, count, rest))

-- ---- events

pub length-chunks : {X : Type 0} (size k : ℕ) (xs : List X) → length (first_chunks size k xs) ≡ k
length-chunks size zero xs = refl
length-chunks size (suc k) xs = ap suc (length-chunks size k (drop size xs))

-- what a packet's events say of its bytes
pub record AreSeen (operation : ℕ) (bytes : List ℕ) : Type 0 where
  pub number : operation_of (events_of operation bytes) ≡ operation
  pub count : count_of_events (events_of operation bytes) ≡ count_of_size bytes (event_size operation)

seen_of : (operation : ℕ) (bytes : List ℕ) → Kind operation → AreSeen operation bytes
seen_of operation bytes OfAccounts =
    record { number = refl; count = length-map (chunks 128 bytes) account_of ∙ length-chunks 128 _ bytes }
seen_of operation bytes OfTransfers =
    record { number = refl; count = length-map (chunks 128 bytes) transfer_of ∙ length-chunks 128 _ bytes }
seen_of operation bytes OfIds =
    record { number = refl; count = length-map (chunks 16 bytes) little_endian ∙ length-chunks 16 _ bytes }

pub seen : (packet : Packet) → IsOk (admission_of 8190 packet) → AreSeen packet.operation packet.bytes
seen packet ok = seen_of packet.operation packet.bytes (kind_of packet.operation packet.bytes ok)

pub count_together : (jobs : List Numbered) → AreAdmitted jobs → events_together (map input_of jobs) ≡ count_of_all jobs
count_together [] all = refl
count_together (job ∷ jobs) all = omega (arith, (seen job.packet all.0).count, count_together jobs all.1)

-- ---- whether they join

and_exchange : (a b c d : Bool) → ((a && b) && (c && d)) ≡ ((a && c) && (b && d))
and_exchange true true c d = refl
and_exchange true false true d = refl
and_exchange true false false d = refl
and_exchange false b c d = refl

and_between : (a b c d : Bool) → ((a && b) && (c && d)) ≡ (a && (c && (b && d)))
and_between true true c d = refl
and_between true false true d = refl
and_between true false false d = refl
and_between false b c d = refl

all_stand : (job : Numbered) (group : List Numbered) → IsOk (admission_of 8190 job.packet) → AreAdmitted group
    → list_all (shares_with (events_in job.packet)) (map input_of group)
    ≡ (all_share group && are_of job.packet.operation group)
all_stand job [] ok all = refl
all_stand job (first ∷ group) ok all =
    let share = can_share (events_in first.packet) in
    let same : (operation_of (events_in first.packet) == operation_of (events_in job.packet))
    ≡ (first.packet.operation == job.packet.operation) =
    ap (λ n. n == operation_of (events_in job.packet)) (seen first.packet all.0).number
    ∙ ap (λ n. first.packet.operation == n) (seen job.packet ok).number in
    ap (λ b. (share && b) && list_all (shares_with (events_in job.packet)) (map input_of group)) same
    ∙ ap (λ b. (share && (first.packet.operation == job.packet.operation)) && b) (all_stand job group ok all.1)
    ∙ and_exchange share (first.packet.operation == job.packet.operation) (all_share group)
    (are_of job.packet.operation group)

-- whether a packet joins, by the bytes
pub joins_by : (limit : ℕ) (group : List Numbered) (job : Numbered) → AreAdmitted group
    → IsOk (admission_of 8190 job.packet) → joins limit (map input_of group) (input_of job)
    ≡ (all_share group && (can_share (events_in job.packet) && (are_of job.packet.operation group
    && nat_le (count_of_all group + count_of job.packet) limit)))
joins_by limit group job all ok =
    let share = can_share (events_in job.packet) in
    let few = nat_le (count_of_all group + count_of job.packet) limit in
    let many : events_together (map input_of group) + count_of_events (events_in job.packet)
    ≡ count_of_all group + count_of job.packet =
    omega (arith, count_together group all, (seen job.packet ok).count) in
    ap (λ n. list_all (shares_with (events_in job.packet)) (map input_of group) && (share && nat_le n limit)) many
    ∙ ap (λ b. b && (share && few)) (all_stand job group ok all)
    ∙ and_between (all_share group) (are_of job.packet.operation group) share few
