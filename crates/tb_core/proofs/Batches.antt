-- What is known of a batch that the machine takes.
use Rattle.std.proofs.Common.{refl, sym, ap, subst, ◌∙◌, arith, ◌≡◌, ◌≤◌, ℕ, append-nil, ◌+◌, ◌*◌, ◌/◌, ◌%◌, true, false, List, [], ◌∷◌, ◌++◌, map, length, Option, Some, None}
use Rattle.tb_core.proofs.Words.{◌==◌, ◌||◌, fold, filter_map, cons_option, length-map, and_parts, both_ways, eqb-true, Accounts, Transfers, Ids, events_of, chunks, ids_of, clock_max, JoiningIsInvisible, State, accounts_found, answer_of, after_packet, Looked_up, Committed, event_size, count_of, count_of_size, Numbered, events_in, reply_with, count_of_all, is_lookup, stub_of, can_share, body_of, are_of, all_share, IsLawful, Kind, OfAccounts, OfTransfers, OfIds, first_is, kind_of_batch, body_size, length-chunks, count_of_stubs, IsBatchEntry}
use Rattle.std.proofs.lemmas.List.Sums.{sum_by-cons}
use Rattle.tb_layout.specs.claim.Account.{account_of, is_linked as is_linked_account}
use Rattle.tb_layout.specs.claim.Transfer.{transfer_of, is_linked as is_linked_transfer}
use Rattle.tb_layout.specs.claim.Bytes.{little_endian}
use Rattle.tb_tables.specs.claim.Balances.{balanced_account}
use Rattle.tb_work.specs.declared.stub.Stub.{Stub}
use Rattle.tb_core.proofs.PacketAnswers.{answers_from}
use Rattle.tb_core.proofs.JoinedBatch.{GivesEach, gives}

-- ---- sizes

-- a batch of accounts or transfers may be committed
pub record MayCommit (operation : ℕ) (jobs : List Numbered) : Type 0 where
  pub kind : ((operation == 129) || (operation == 130)) ≡ true
  pub whole : length (body_of jobs) % 128 ≡ 0
  pub count : length (body_of jobs) / 128 ≡ count_of_all jobs

-- and one of a lookup looked up
pub record MayLookUp (jobs : List Numbered) : Type 0 where
  pub whole : length (body_of jobs) % 16 ≡ 0
  pub count : length (body_of jobs) / 16 ≡ count_of_all jobs

pub may_commit : (operation : ℕ) (jobs : List Numbered) → IsLawful operation jobs → (operation == 131) ≡ false
    → MayCommit operation jobs
may_commit operation jobs lawful not_lookup =
    by operation (kind_of_batch operation jobs lawful) lawful.one_operation not_lookup
  where
    sized : length (body_of jobs) ≡ count_of_all jobs * 128
        → (length (body_of jobs) % 128 ≡ 0) × (length (body_of jobs) / 128 ≡ count_of_all jobs)
    sized size = omega (arith, size)

    by : (op : ℕ) → Kind op → are_of op jobs ≡ true → (op == 131) ≡ false → MayCommit op jobs
    by op OfAccounts one other = let sizes =
        sized (body_size 129 128 jobs refl one lawful.all_admitted) in record {
          kind = refl;
          whole = sizes.0;
          count = sizes.1;
        }
    by op OfTransfers one other = let sizes =
        sized (body_size 130 128 jobs refl one lawful.all_admitted) in record {
          kind = refl;
          whole = sizes.0;
          count = sizes.1;
        }
    by op OfIds one other = cc

pub may_look_up : (operation : ℕ) (jobs : List Numbered) → IsLawful operation jobs
    → (operation == 131) ≡ true → MayLookUp jobs
may_look_up operation jobs lawful lookup =
    let size = body_size operation 16 jobs (ap event_size (eqb-true operation 131 lookup))
    lawful.one_operation lawful.all_admitted in
    record { whole = omega (arith, size); count = omega (arith, size) }

-- ---- what it gives

-- packets of accounts that were joined give what each gives by itself, and so do those of transfers
pub record JoinInvisibly : Type 0 where
  pub accounts : JoiningIsInvisible Accounts is_linked_account
  pub transfers : JoiningIsInvisible Transfers is_linked_transfer

pub gives_each : (law : JoinInvisibly) (place operation : ℕ) (state : State) (jobs : List Numbered)
    → state.clock ≤ clock_max → IsLawful operation jobs → (operation == 131) ≡ false
    → GivesEach place operation state jobs
gives_each law place operation state jobs in_range lawful not_lookup =
    by operation (kind_of_batch operation jobs lawful) lawful.one_operation not_lookup
  where
    by : (op : ℕ) → Kind op → are_of op jobs ≡ true → (op == 131) ≡ false → GivesEach place op state jobs
    by op OfAccounts one other =
        gives is_linked_account 129 account_of Accounts law.accounts refl (λ bytes. refl) (λ state events. refl)
        (λ events. refl) place state jobs in_range one lawful.all_admitted lawful.alone
    by op OfTransfers one other =
        gives is_linked_transfer 130 transfer_of Transfers law.transfers refl (λ bytes. refl) (λ state events. refl)
        (λ events. refl) place state jobs in_range one lawful.all_admitted lawful.alone
    by op OfIds one other = cc

-- of a lookup, which is one packet
pub record GivesOne (place operation : ℕ) (state : State) (jobs : List Numbered) : Type 0 where
  pub job : Numbered
  pub only : jobs ≡ job ∷ []
  pub lookup : is_lookup job.packet ≡ true
  pub replies : map (reply_with (Committed place (Looked_up (accounts_found state.facts (ids_of (body_of jobs))))))
      jobs ≡ answers_from place state jobs
  pub states : state ≡ fold after_packet state (map (λ (job : Numbered). events_in job.packet) jobs)
  pub few : length (accounts_found state.facts (ids_of (body_of jobs))) ≤ count_of job.packet

length-found : {X Y : Type 0} (f : X → Option Y) (xs : List X) → length (filter_map f xs) ≤ length xs
length-found f [] = omega arith
length-found {X} {Y} f (x ∷ xs) = by (f x) (length-found f xs)
  where
    by : (found : Option Y) → length (filter_map f xs) ≤ length xs
        → length (cons_option found (filter_map f xs)) ≤ length (x ∷ xs)
    by None h = omega arith
    by (Some y) h = omega arith

pub gives_one : (place operation : ℕ) (state : State) (jobs : List Numbered) → IsLawful operation jobs
    → (operation == 131) ≡ true → GivesOne place operation state jobs
gives_one place operation state [] lawful lookup = absurd (omega (arith, lawful.some))
gives_one place operation state (job ∷ []) lawful lookup =
    let first = first_is operation job [] lawful.one_operation in
    let is : is_lookup job.packet ≡ true = ap (λ op. op == 131) first.0 ∙ lookup in
    let number : job.packet.operation ≡ 131 = eqb-true job.packet.operation 131 is in
    let bytes = job.packet.bytes in
    let events : events_in job.packet ≡ Ids (ids_of bytes) = ap (λ op. events_of op bytes) number in
    let count : count_of job.packet ≡ length bytes / 16 = ap (λ op. count_of_size bytes (event_size op)) number in
    let ids : length (ids_of bytes) ≡ length bytes / 16 = length-map (chunks 16 bytes) little_endian
    ∙ length-chunks 16 (length bytes / 16) bytes in
    let found = length-found (balanced_account state.facts) (ids_of bytes) in
    let same : ids_of (bytes ++ []) ≡ ids_of bytes = ap ids_of (append-nil bytes) in
    record {
      job = job;
      only = refl;
      lookup = is;
      replies = ap (λ all_ids. reply_with (Committed place (Looked_up (accounts_found state.facts all_ids))) job
          ∷ []) same
          ∙ ap (λ es. reply_with (Committed place (answer_of state es)) job ∷ []) (sym events);
      states = ap (after_packet state) (sym events);
      few = subst (λ all_ids. length (accounts_found state.facts all_ids) ≤ count_of job.packet) (sym same)
          (omega (arith, found, ids, count));
    }
gives_one place operation state (job ∷ next ∷ jobs) lawful lookup =
    let first = first_is operation job (next ∷ jobs) lawful.one_operation in
    let number = eqb-true job.packet.operation 131 (ap (λ op. op == 131) first.0 ∙ lookup) in
    let share = can_share (events_in job.packet) in
    absurd (both_ways share (ap (λ op. can_share (events_of op job.packet.bytes)) number)
    (and_parts share (all_share (next ∷ jobs)) (lawful.alone (omega arith))).0)

-- ---- what its journal entry has

stubs_count : (jobs : List Numbered) → count_of_stubs (map stub_of jobs) ≡ count_of_all jobs
stubs_count [] = refl
stubs_count (job ∷ jobs) =
    sum_by-cons (λ (stub : Stub). stub.count) (stub_of job) (map stub_of jobs)
    ∙ ap (λ n. count_of job.packet + n) (stubs_count jobs)

-- the entry is whole
pub entry_is : (operation : ℕ) (jobs : List Numbered) → IsLawful operation jobs
    → IsBatchEntry operation (body_of jobs) (map stub_of jobs)
entry_is operation jobs lawful = by operation (kind_of_batch operation jobs lawful) lawful.one_operation
  where
    sized : (op size : ℕ) → event_size op ≡ Some size → are_of op jobs ≡ true → IsBatchEntry op (body_of jobs)
        (map stub_of jobs)
    sized op size is one =
        record {
          known = rw is refl;
          whole = body_size op size jobs is one lawful.all_admitted
              ∙ rw (stubs_count jobs, is) refl;
          few = rw (stubs_count jobs) lawful.few;
        }

    by : (op : ℕ) → Kind op → are_of op jobs ≡ true → IsBatchEntry op (body_of jobs) (map stub_of jobs)
    by op OfAccounts one = sized 129 128 refl one
    by op OfTransfers one = sized 130 128 refl one
    by op OfIds one = sized 131 16 refl one
