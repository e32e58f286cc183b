-- A batch's packets that are read one by one.
use Rattle.std.proofs.Common.{◌≡◌, ◌%◌, ◌<◌, ◌≤◌, ◌+◌, ◌*◌, ℕ, Bool, true, false, List, [], ◌∷◌, ◌++◌, refl, sym, ap, subst, ◌∙◌, arith, length, length-append, map, take, drop, ◌/◌, Some, None, append_assoc, append-nil}
use Rattle.tb_durable.proofs.Words.{◌==◌, if◌then◌else◌, IsOk, IsSome, get_or, unwrap_or, and_from, and_parts, eq-eqb, le-leb, drop_all, drop_at, drop_more, get_or-map, length-map, map_more, take_all, take_at, take-append-drop, map-append, flat_map-append, chunks, Stub, admission_of, count_of, count_of_size, event_size, Numbered, events_in, input_of, count_of_all, numbered_packet, stub_of, admitted_are_whole, AreAdmitted, IsLawful, all_share, are_of, body_of, can_share, is_taken, joins, first_is, joins_by, size_of, AreColumnsOf, BeginsWith, without_user, stub_at}
use Rattle.std.proofs.lemmas.List.Folds.{list_all-append}
use Rattle.std.proofs.Math.Nat.{mul-div_cancel}
use Rattle.tb_layout.specs.claim.Events.{create_accounts, create_transfers}
use Rattle.tb_work.specs.claim.Admission.{looks_up}
use Rattle.tb_batch.proofs.Groups.{lawful_more}

-- ---- packets without their user words are of the same group

inputs-without_user : (jobs : List Numbered) → map input_of (map without_user jobs) ≡ map input_of jobs
inputs-without_user [] = refl
inputs-without_user (job ∷ jobs) = ap (λ inputs. input_of job ∷ inputs) (inputs-without_user jobs)

count-append : (front jobs : List Numbered) → count_of_all (front ++ jobs) ≡ count_of_all front + count_of_all jobs
count-append [] jobs = omega arith
count-append (job ∷ front) jobs = omega (arith, count-append front jobs)

first_admitted : (front jobs : List Numbered) → AreAdmitted (front ++ jobs) → AreAdmitted front
first_admitted [] jobs all = tt
first_admitted (first ∷ front) jobs all = (all.0, first_admitted front jobs all.1)

all_admitted_at : (front jobs : List Numbered) (job : Numbered) → AreAdmitted (front ++ job ∷ jobs)
    → IsOk (admission_of 8190 job.packet)
all_admitted_at [] jobs job all = all.0
all_admitted_at (first ∷ front) jobs job all = all_admitted_at front jobs job all.1

-- a packet at the front of a batch's columns
module _ (job : Numbered) (more : List ℕ) (operation : ℕ) (stub : Stub) (body : List ℕ)
    (begins : BeginsWith job more operation stub body) where
  pub known_size : IsSome (event_size operation)
  known_size =
      subst (λ o. IsSome (event_size o)) begins.same_operation
      (admitted_are_whole 8190 job.packet.bytes (event_size job.packet.operation) begins.admitted).known

  first_size : stub.count * size_of operation ≡ length job.packet.bytes
  first_size =
      ap (λ (s : Stub). s.count * size_of operation) begins.own_stub
      ∙ ap (λ o. count_of job.packet * size_of o) (sym begins.same_operation)
      ∙ (admitted_are_whole 8190 job.packet.bytes (event_size job.packet.operation) begins.admitted).whole

  first_bytes : take (stub.count * size_of operation) body ≡ job.packet.bytes
  first_bytes =
      ap (take (stub.count * size_of operation)) begins.own_body
      ∙ take_at job.packet.bytes more (stub.count * size_of operation) (sym first_size)

  pub rest_bytes : drop (stub.count * size_of operation) body ≡ more
  rest_bytes =
      ap (drop (stub.count * size_of operation)) begins.own_body
      ∙ drop_at job.packet.bytes more (stub.count * size_of operation) (sym first_size)

  -- read as it was written, but for the user word
  pub first_read : (bytes : List ℕ) → bytes ≡ take (stub.count * size_of operation) body
      → numbered_packet stub.submitter stub.number (record { operation = operation; bytes = bytes; user = 0 }) ≡ without_user job
  first_read bytes is =
      ap (λ (s : Stub). numbered_packet s.submitter s.number (record { operation = operation; bytes = bytes; user = 0 })) begins.own_stub
      ∙ ap (λ o. numbered_packet job.submitter job.number (record { operation = o; bytes = bytes; user = 0 })) (sym begins.same_operation)
      ∙ ap (λ bs. numbered_packet job.submitter job.number (record { operation = job.packet.operation; bytes = bs; user = 0 }))
      (is ∙ first_bytes)

-- the bytes of one event of an operation
pub record IsSizeOf (operation size : ℕ) : Type 0 where
  pub some : 0 < size
  pub bound : size ≤ 128
  pub own : size ≡ size_of operation

pub sized : (operation size : ℕ) → Some size ≡ event_size operation → IsSizeOf operation size
sized operation size is =
    let small = by (operation == create_accounts) (operation == create_transfers) (looks_up operation) is in
    record { some = small.0; bound = small.1; own = ap (λ known. unwrap_or known 0) is }
  where
    by : (accounts transfers lookup : Bool) → Some size ≡ (if accounts then Some 128 else if transfers then Some 128
        else if lookup then Some 16 else None) → (0 < size) × (size ≤ 128)
    by true transfers lookup is = (omega (arith, ap (λ known. unwrap_or known 0) is), omega (arith, ap (λ known. unwrap_or known 0) is))
    by false true lookup is = (omega (arith, ap (λ known. unwrap_or known 0) is), omega (arith, ap (λ known. unwrap_or known 0) is))
    by false false true is = (omega (arith, ap (λ known. unwrap_or known 0) is), omega (arith, ap (λ known. unwrap_or known 0) is))
    by false false false is = absurd cc

-- a packet that was cut off the front of a batch's columns
pub cut_off : {stub : Stub} {operation size : ℕ} {bytes more body : List ℕ} → Some size ≡ event_size operation → 0 < size
    → IsOk (admission_of 8190 (record { operation = operation; bytes = bytes; user = 0 })) → length bytes ≡ stub.count * size
    → body ≡ bytes ++ more
    → BeginsWith (numbered_packet stub.submitter stub.number (record { operation = operation; bytes = bytes; user = 0 })) more
    operation stub body
cut_off {stub} {operation} {size} {bytes} known some ok long is =
    let count : stub.count ≡ count_of_size bytes (event_size operation) =
    sym (ap (count_of_size bytes) (sym known) ∙ ap (λ n. n / size) long ∙ mul-div_cancel stub.count some) in
    record {
      admitted = ok;
      same_operation = refl;
      own_stub = ap (λ n. record { submitter = stub.submitter; number = stub.number; count = n }) count;
      own_body = is;
    }

-- one packet of a batch, with those before it and those after it
module _ (operation : ℕ) (front jobs : List Numbered) (job : Numbered) (lawful : IsLawful operation (front ++ job ∷ jobs)) where
  one_operation : (are_of operation front ≡ true) × (are_of operation (job ∷ jobs) ≡ true)
  one_operation =
      and_parts (are_of operation front) (are_of operation (job ∷ jobs))
      (sym (list_all-append (λ (job : Numbered). job.packet.operation == operation) front (job ∷ jobs)) ∙ lawful.one_operation)

  own_operation : job.packet.operation ≡ operation
  own_operation = (first_is operation job jobs one_operation.1).0

  -- it joins those before it, as they are read
  taken : is_taken 8190 (map without_user front) (without_user job) ≡ true
  taken = by front refl
    where
      by : (group : List Numbered) → front ≡ group → is_taken 8190 (map without_user group) (without_user job) ≡ true
      by [] is = refl
      by (first ∷ rest) is =
          let more : 1 < length (front ++ job ∷ jobs) = omega (arith, ap length is, length-append front (job ∷ jobs)) in
          let shares = and_parts (all_share front) (all_share (job ∷ jobs))
          (sym (list_all-append (λ (job : Numbered). can_share (events_in job.packet)) front (job ∷ jobs)) ∙ lawful.alone more) in
          let few = le-leb (count_of_all front + count_of job.packet) 8190
          (omega (arith, count-append front (job ∷ jobs), lawful.few)) in
          ap (λ group. joins 8190 (map input_of (map without_user group)) (input_of job)) (sym is)
          ∙ ap (λ inputs. joins 8190 inputs (input_of job)) (inputs-without_user front)
          ∙ joins_by 8190 front job (first_admitted front (job ∷ jobs) lawful.all_admitted)
          (all_admitted_at front jobs job lawful.all_admitted)
          ∙ and_from _ _ shares.0 (and_from _ _ (and_parts _ (all_share jobs) shares.1).0
          (and_from _ _ (ap (λ o. are_of o front) own_operation ∙ one_operation.0) few))

-- ---- in a loop

-- the packets before the index are held, and the bytes of the others are left
pub record IsPartRead (index : ℕ) (jobs group : List Numbered) (body : List ℕ) : Type 0 where
  pub held : group ≡ map without_user (take index jobs)
  pub left : body ≡ body_of (drop index jobs)

abbrev nobody : Numbered
nobody = numbered_packet 0 0 (record { operation = 0; bytes = []; user = 0 })

abbrev no_stub : Stub
no_stub = stub_of nobody

module _ (operation : ℕ) (jobs held : List Numbered) (chunks : List (List ℕ)) (index : ℕ) (body : List ℕ)
    (lawful : IsLawful operation jobs) (same : map stub_at chunks ≡ map stub_of jobs) (part : IsPartRead index jobs held body) where
  module _ (more : index < length chunks) where
    within : index < length jobs
    within = omega (arith, more, sym (length-map chunks stub_at) ∙ ap length same ∙ length-map jobs stub_of)

    abbrev pub job_at : Numbered
    job_at = get_or jobs index nobody

    split : jobs ≡ take index jobs ++ job_at ∷ drop (index + 1) jobs
    split = sym (take-append-drop index jobs) ∙ ap (λ rest. take index jobs ++ rest) (drop_more jobs index nobody within)

    lawful_split : IsLawful operation (take index jobs ++ job_at ∷ drop (index + 1) jobs)
    lawful_split = subst (IsLawful operation) split lawful

    pub begins : (stub : Stub) (other : List ℕ) → stub ≡ stub_at (get_or chunks index other)
        → BeginsWith job_at (body_of (drop (index + 1) jobs)) operation stub body
    begins stub other is = record {
      admitted = all_admitted_at (take index jobs) (drop (index + 1) jobs) job_at lawful_split.all_admitted;
      same_operation = own_operation operation (take index jobs) (drop (index + 1) jobs) job_at lawful_split;
      own_stub = is ∙ sym (get_or-map stub_at chunks index other no_stub more)
          ∙ ap (λ stubs. get_or stubs index no_stub) same ∙ get_or-map stub_of jobs index nobody no_stub within;
      own_body = part.left ∙ ap body_of (drop_more jobs index nobody within);
    }

    pub next_taken : is_taken 8190 held (without_user job_at) ≡ true
    next_taken =
        ap (λ group. is_taken 8190 group (without_user job_at)) part.held
        ∙ taken operation (take index jobs) (drop (index + 1) jobs) job_at lawful_split

    pub next_part : (now : List Numbered) (left : List ℕ) → now ≡ held ++ without_user job_at ∷ []
        → left ≡ body_of (drop (index + 1) jobs) → IsPartRead (index + 1) jobs now left
    next_part now left is rest = record {
      held = is ∙ ap (λ group. group ++ without_user job_at ∷ []) part.held ∙ sym (map_more without_user jobs index nobody within);
      left = rest;
    }

  module _ (done : length chunks ≤ index) where
    all_read : length jobs ≤ index
    all_read = omega (arith, done, sym (length-map chunks stub_at) ∙ ap length same ∙ length-map jobs stub_of)

    all_held : held ≡ map without_user jobs
    all_held = part.held ∙ ap (map without_user) (take_all index jobs all_read)

    pub some_held : held ≡ [] → ⊥
    some_held none = omega (arith, lawful.some, sym (length-map jobs without_user) ∙ sym (ap length all_held) ∙ ap length none)

    pub none_left : body ≡ []
    none_left = part.left ∙ ap body_of (drop_all index jobs all_read)

-- ---- what was read

-- the packets that are held, if there are any, may share a batch, and are those of the columns so far
pub record AreRead (operation : ℕ) (stubs : List Stub) (body : List ℕ) (left : List Stub) (rest : List ℕ) (jobs : List Numbered)
    : Type 0 where
  pub lawful : 0 < length jobs → IsLawful operation jobs
  pub own_stubs : map stub_of jobs ++ left ≡ stubs
  pub own_body : body_of jobs ++ rest ≡ body

lawful_alone : (operation : ℕ) (job : Numbered) → IsOk (admission_of 8190 job.packet) → job.packet.operation ≡ operation
    → IsLawful operation (job ∷ [])
lawful_alone operation job ok same =
    let whole = admitted_are_whole 8190 job.packet.bytes (event_size job.packet.operation) ok in
    record {
      some = omega arith;
      all_admitted = (ok, tt);
      one_operation = and_from (job.packet.operation == operation) true (eq-eqb job.packet.operation operation same) refl;
      few = omega (arith, whole.few);
      alone = λ more. absurd (omega (arith, more));
    }

lawful_push : (operation : ℕ) (jobs : List Numbered) (job : Numbered) → (0 < length jobs → IsLawful operation jobs)
    → is_taken 8190 jobs job ≡ true → IsOk (admission_of 8190 job.packet) → job.packet.operation ≡ operation
    → IsLawful operation (jobs ++ job ∷ [])
lawful_push operation [] job lawful taken ok same = lawful_alone operation job ok same
lawful_push operation (first ∷ rest) job lawful taken ok same =
    lawful_more operation 8190 (first ∷ rest) job (lawful (omega arith)) (omega arith) ok taken

-- one packet more
module _ (operation : ℕ) (stubs : List Stub) (body : List ℕ) (left : List Stub) (rest : List ℕ) (jobs : List Numbered)
    (stub : Stub) (job : Numbered) where
  pub read_more : (more : List ℕ) (now : List Numbered) → AreRead operation stubs body (stub ∷ left) rest jobs
      → BeginsWith job more operation stub rest → is_taken 8190 jobs job ≡ true → now ≡ jobs ++ job ∷ []
      → AreRead operation stubs body left more now
  read_more more now are begins taken is = record {
    lawful = λ _. subst (IsLawful operation) (sym is)
        (lawful_push operation jobs job are.lawful taken begins.admitted begins.same_operation);
    own_stubs = ap (λ all. map stub_of all ++ left) is ∙ ap (λ all. all ++ left) (map-append stub_of jobs (job ∷ []))
        ∙ append_assoc (map stub_of jobs) (stub_of job ∷ []) left
        ∙ ap (λ (s : Stub). map stub_of jobs ++ s ∷ left) (sym begins.own_stub) ∙ are.own_stubs;
    own_body = ap (λ all. body_of all ++ more) is
        ∙ ap (λ all. all ++ more) (flat_map-append (λ (job : Numbered). job.packet.bytes) jobs (job ∷ []))
        ∙ append_assoc (body_of jobs) (job.packet.bytes ++ []) more
        ∙ ap (λ bytes. body_of jobs ++ (bytes ++ more)) (append-nil job.packet.bytes)
        ∙ ap (λ bytes. body_of jobs ++ bytes) (sym begins.own_body) ∙ are.own_body;
  }

-- all packets of the columns
pub columns_read : {operation : ℕ} {stubs body rest : List ℕ} {cut : List (List ℕ)} {jobs : List Numbered}
    → AreRead operation (map stub_at cut) body [] rest jobs → rest ≡ [] → 0 < length jobs → cut ≡ chunks 16 stubs
    → length stubs % 16 ≡ 0 → AreColumnsOf jobs operation stubs body
columns_read {jobs} are none some is whole = record {
  lawful = are.lawful some;
  whole = whole;
  own_stubs = ap (map stub_at) (sym is) ∙ sym are.own_stubs ∙ append-nil (map stub_of jobs);
  own_body = sym are.own_body ∙ ap (λ bytes. body_of jobs ++ bytes) none ∙ append-nil (body_of jobs);
}
