-- One packet more in a group.
use Rattle.std.proofs.Common.{refl, sym, ap, ◌∙◌, arith, ◌≡◌, ◌==◌, ℕ, ◌+◌, ◌<◌, ◌≤◌, Bool, true, false, nat_le, List, [], ◌∷◌, ◌++◌, ◌&&◌, ◌/◌, if◌then◌else◌, Some, length, map, append_assoc, append-nil, length-append}
use Rattle.tb_batch.proofs.Words.{Result, Ok, Err, OnOk, OnErr, IsOk, and_from, and_parts, eqb-true, map-append, Input, count_of, admission_of, event_size, looks_up, Numbered, events_in, input_of, count_of_all, stub_of, can_share, joins, is_taken, join_in_turn, IsGroup, BatcherState, IsBatcherState, HasRoom, IsGroupOf, AreAdmitted, AreParts, IsLawful, body_of, are_of, all_share}
use Rattle.std.specs.Result.{is_err}
use Rattle.std.proofs.Math.Nat.{mul-div_cancel}
use Rattle.std.proofs.lemmas.Bool.Decides.{nat_tests}
use Rattle.std.proofs.lemmas.List.Folds.{list_all-append}
use Rattle.std.proofs.lemmas.Grind.{flat_map-append}
use Rattle.tb_batch.specs.declared.parts.Parts.{Parts}
use Rattle.tb_batch.specs.declared.offered.Offered.{Offered}
use Rattle.tb_batch.specs.declared.offered.Offered.TheVariants.{Joined, Sealed, Refused}
use Rattle.tb_batch.specs.clauses.Offering.{Offers}
use Rattle.tb_batch.proofs.Admitted.{Kind, OfAccounts, OfTransfers, OfIds, kind_of_batch, body_size, joins_by}

count_of_all-push : (jobs : List Numbered) (job : Numbered)
    → count_of_all (jobs ++ job ∷ []) ≡ count_of_all jobs + count_of job.packet
count_of_all-push [] job = omega arith
count_of_all-push (first ∷ jobs) job = omega (arith, count_of_all-push jobs job)

-- packets of one operation are of another's if these are the same
are_of-other : (operation other : ℕ) (jobs : List Numbered) → 0 < length jobs → are_of operation jobs ≡ true
    → are_of other jobs ≡ (operation == other)
are_of-other operation other [] some same_operation = absurd (omega arith)
are_of-other operation other (job ∷ []) some same_operation =
    let same = eqb-true job.packet.operation operation (and_parts (job.packet.operation == operation) true same_operation).0 in
    rw same (elim (operation == other) as (λ b. (b && true) ≡ b) [ true ↦ refl | false ↦ refl ])
are_of-other operation other (job ∷ next ∷ jobs) some same_operation =
    let parts = and_parts (job.packet.operation == operation) (are_of operation (next ∷ jobs)) same_operation in
    let same = eqb-true job.packet.operation operation parts.0 in
    rw (same, are_of-other operation other (next ∷ jobs) (omega arith) parts.1)
    (elim (operation == other) as (λ b. (b && b) ≡ b) [ true ↦ refl | false ↦ refl ])

-- what is known of a group decides whether a packet joins it
pub taken_by : (parts : Parts) (shares : Bool) (events limit : ℕ) (job : Numbered) → IsGroupOf parts shares events
    → IsOk (admission_of 8190 job.packet) → is_taken limit parts.jobs.items job ≡ (shares
    && (can_share (events_in job.packet) && ((parts.operation == job.packet.operation)
    && nat_le (events + count_of job.packet) limit)))
taken_by parts shares events limit job group admitted =
    let jobs = parts.jobs.items in
    is_joining jobs group.whole.lawful.some ∙ joins_by limit jobs job group.whole.lawful.all_admitted admitted
    ∙ rw (
      are_of-other parts.operation job.packet.operation jobs group.whole.lawful.some group.whole.lawful.one_operation,
      group.sharing,
      group.counted,
    ) refl
  where
    is_joining : (jobs : List Numbered) → 0 < length jobs
        → is_taken limit jobs job ≡ joins limit (map input_of jobs) (input_of job)
    is_joining [] some = absurd (omega arith)
    is_joining (first ∷ jobs) some = refl

-- ---- the group

and_more : (a b c : Bool) → (a && b) ≡ true → (b ≡ true → c ≡ true) → (a && c) ≡ true
and_more true b c h f = f h
and_more false b c h f = cc

joined_after : (limit : ℕ) (group inputs : List Input) (last : Input) → join_in_turn limit group inputs ≡ true
    → joins limit (group ++ inputs) last ≡ true → join_in_turn limit group (inputs ++ last ∷ []) ≡ true
joined_after limit group [] last h j = ap (λ b. b && true) (ap (λ l. joins limit l last) (sym (append-nil group)) ∙ j)
joined_after limit group (next ∷ inputs) last h j =
    and_more (joins limit group next) (join_in_turn limit (group ++ next ∷ []) inputs)
    (join_in_turn limit (group ++ next ∷ []) (inputs ++ last ∷ [])) h
    (λ rest. joined_after limit (group ++ next ∷ []) inputs last rest
    (ap (λ l. joins limit l last) (append_assoc group (next ∷ []) inputs) ∙ j))

pub group_more : (limit : ℕ) (jobs : List Numbered) (job : Numbered) → IsGroup limit jobs
    → is_taken limit jobs job ≡ true → IsGroup limit (jobs ++ job ∷ [])
group_more limit [] job h j = refl
group_more limit (first ∷ jobs) job h j =
    ap (join_in_turn limit (input_of first ∷ [])) (map-append input_of jobs (job ∷ []))
    ∙ joined_after limit (input_of first ∷ []) (map input_of jobs) (input_of job) h j

-- what is held after an offer is a group
pub offered_group : (old new : BatcherState) (job : Numbered) (offered : Offered) → IsGroup old.limit old.jobs
    → Offers old job offered new → IsGroup new.limit new.jobs
offered_group old new job Joined group is = rw is.0 (group_more old.limit old.jobs job group is.1)
offered_group old new job (Sealed batch) group is = rw is.1 refl
offered_group old new job (Refused back refused) group is = rw is.1 group

-- a group joined by a packet, or left as it was, is held
pub still_held : {E : Type 0} (result : Result (Unit {0}) E) {limit : ℕ} {old : List Numbered} (new : List Numbered) (job : Numbered)
    → IsBatcherState limit old → is_taken limit old job ≡ true →
    OnOk result (new ≡ old ++ job ∷ []) → OnErr result (new ≡ old) → IsBatcherState limit new
still_held (Ok done) {limit} {old} new job held taken joined same =
    record {
      limit_low = held.limit_low;
      limit_high = held.limit_high;
      group = rw joined (group_more limit old job held.group taken);
    }
still_held (Err refused) new job held taken joined same = rw same held

-- ---- the batch

equal_numbers : (n : ℕ) → (n == n) ≡ true
equal_numbers n = grind (arith, nat_tests)

le_true : (a b : ℕ) → nat_le a b ≡ true → a ≤ b
le_true a b h = grind (arith, nat_tests)

both_true : (a b c d : Bool) → (a && (b && (c && d))) ≡ true → (a ≡ true) × (b ≡ true) × (c ≡ true) × (d ≡ true)
both_true a b c d h =
    let p = and_parts a (b && (c && d)) h in
    let q = and_parts b (c && d) p.1 in
    let r = and_parts c d q.1 in
    (p.0, q.0, r.0, r.1)

-- what holds if a call succeeded
pub given : {T E : Type 0} (r : Result T E) (P : Type 0) → is_err r ≡ false → OnOk r P → P
given (Ok x) P h p = p
given (Err e) P h p = cc

pub admitted-push : (jobs : List Numbered) (job : Numbered) → AreAdmitted jobs → IsOk (admission_of 8190 job.packet)
    → AreAdmitted (jobs ++ job ∷ [])
admitted-push [] job all ok = (ok, tt)
admitted-push (first ∷ jobs) job all ok = (all.0, admitted-push jobs job all.1 ok)

pub lawful_more : (operation limit : ℕ) (jobs : List Numbered) (job : Numbered) → IsLawful operation jobs → limit ≤ 8190
    → IsOk (admission_of 8190 job.packet) → is_taken limit jobs job ≡ true → IsLawful operation (jobs ++ job ∷ [])
lawful_more operation limit [] job lawful low admitted taken = absurd (omega (arith, lawful.some))
lawful_more operation limit (first ∷ rest) job lawful low admitted taken =
    let jobs = first ∷ rest in
    let known = both_true (all_share jobs) (can_share (events_in job.packet)) (are_of job.packet.operation jobs)
    (nat_le (count_of_all jobs + count_of job.packet) limit)
    (sym (joins_by limit jobs job lawful.all_admitted admitted) ∙ taken) in
    let same : (operation == job.packet.operation) ≡ true =
    sym (are_of-other operation job.packet.operation jobs lawful.some lawful.one_operation) ∙ known.2 in
    record {
      some = omega (arith, length-append jobs (job ∷ []));
      all_admitted = admitted-push jobs job lawful.all_admitted admitted;
      one_operation = list_all-append (λ (j : Numbered). j.packet.operation == operation) jobs (job ∷ [])
          ∙ and_from (are_of operation jobs) (are_of operation (job ∷ [])) lawful.one_operation
          (rw (sym (eqb-true operation job.packet.operation same)) (ap (λ b. b && true) (equal_numbers operation)));
      few = omega (arith, count_of_all-push jobs job, low, le_true (count_of_all jobs + count_of job.packet) limit known.3);
      alone = λ _. list_all-append (λ (j : Numbered). can_share (events_in j.packet)) jobs (job ∷ [])
          ∙ and_from (all_share jobs) (all_share (job ∷ [])) known.0 (ap (λ b. b && true) known.1);
    }

-- the parts of a batch with one job more
pub record HasOneMore (old new : Parts) (job : Numbered) : Type 0 where
  pub operation : new.operation ≡ old.operation
  pub jobs : new.jobs.items ≡ old.jobs.items ++ job ∷ []
  pub stubs : new.stubs.items ≡ old.stubs.items ++ stub_of job ∷ []
  pub body : new.body.items ≡ old.body.items ++ job.packet.bytes

-- a job for which there was room
pub batch_more : {old new : Parts} {job : Numbered} {shares : Bool} {events : ℕ} (limit : ℕ) → HasOneMore old new job
    → IsGroupOf old shares events → limit ≤ 8190 → is_taken limit old.jobs.items job ≡ true
    → IsOk (admission_of 8190 job.packet)
    → HasRoom old.operation (events + count_of job.packet) new.failures new.accounts
    → IsGroupOf new shares (events + count_of job.packet)
batch_more {old} {new} {job} {shares} {events} limit more group low taken admitted room =
    let count : count_of_all new.jobs.items ≡ events + count_of job.packet = ap count_of_all more.jobs
    ∙ count_of_all-push old.jobs.items job ∙ ap (λ n. n + count_of job.packet) (sym group.counted) in
    let lawful : IsLawful new.operation new.jobs.items =
    rw (more.operation, more.jobs) (lawful_more old.operation limit old.jobs.items job group.whole.lawful low admitted taken) in
    record {
      whole = record {
        lawful = lawful;
        stubs = more.stubs ∙ ap (λ ss. ss ++ stub_of job ∷ []) group.whole.stubs
            ∙ sym (map-append stub_of old.jobs.items (job ∷ [])) ∙ ap (map stub_of) (sym more.jobs);
        body = more.body ∙ ap (λ bs. bs ++ job.packet.bytes) group.whole.body
            ∙ ap (λ bs. body_of old.jobs.items ++ bs) (sym (append-nil job.packet.bytes))
            ∙ sym (flat_map-append (λ (j : Numbered). j.packet.bytes) old.jobs.items (job ∷ []))
            ∙ ap body_of (sym more.jobs);
        room = rw (more.operation, count) room;
      };
      sharing = (and_parts shares _ (sym (taken_by old shares events limit job group admitted) ∙ taken)).0
          ∙ sym (lawful.alone (omega (arith, group.whole.lawful.some, ap length more.jobs, length-append old.jobs.items (job ∷ []))));
      counted = sym count;
    }

-- ---- the group that a batch was

-- the size of an event
abbrev pub event_bytes : ℕ → ℕ
event_bytes operation = if looks_up operation then 16 else 128

pub record IsSized (parts : Parts) (size : ℕ) : Type 0 where
  pub counted : length parts.body.items / size ≡ count_of_all parts.jobs.items
  pub few : length parts.body.items / size ≤ 8190

pub body_counted : (parts : Parts) → AreParts parts → IsSized parts (event_bytes parts.operation)
body_counted parts are =
    by parts.operation (kind_of_batch parts.operation parts.jobs.items are.lawful) are.lawful.one_operation
  where
    sized : (operation size : ℕ) → event_size operation ≡ Some size → 0 < size → are_of operation parts.jobs.items ≡ true
        → IsSized parts size
    sized operation size known some one =
        let long = ap length are.body ∙ body_size operation size parts.jobs.items known one are.lawful.all_admitted in
        let count = ap (λ n. n / size) long ∙ mul-div_cancel (count_of_all parts.jobs.items) some in
        record { counted = count; few = omega (arith, count, are.lawful.few) }

    by : (operation : ℕ) → Kind operation → are_of operation parts.jobs.items ≡ true → IsSized parts (event_bytes operation)
    by operation OfAccounts one = sized 129 128 refl (omega arith) one
    by operation OfTransfers one = sized 130 128 refl (omega arith) one
    by operation OfIds one = sized 131 16 refl (omega arith) one
