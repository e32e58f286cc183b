-- What a run that has ended did.
use Rattle.std.proofs.Common.{refl, sym, ap, subst, ◌∙◌, arith, ◌≡◌, ◌<◌, ◌≤◌, ℕ, zero, suc, ◌/◌, Bool, true, false, true≢false, List, [], ◌∷◌, ◌++◌, append-nil, length, map, drop}
use Rattle.tb_pipe.proofs.Words.{◌==◌, IsOk, Some, None, if◌then◌else◌, length-map, flat_map-append, events_in, ReplyValue, ahead, items_in, Item, Ticket, Parcel, Outcomes, all_decisions_in, decisions_in, AreJoined, AreJoinedParcels, IsJoinedParcel, IsGrouping, IsInputWithin, AreInputsWithin, IsPrefix, LedgerState, groups_since, inputs_since, Commits, Ran, replies_in, Outlet, IntakeState, is_last, is_final, has_final, answers_in, AllBatched, AllCommitted}
use Rattle.std.specs.Simd.{first_chunks}
use Rattle.tb_layout.specs.claim.Events.{Accounts, Transfers, Ids, accounts_of, transfers_of, ids_of, chunks}
use Rattle.tb_layout.specs.claim.Account.{account_of}
use Rattle.tb_layout.specs.claim.Bytes.{little_endian}
use Rattle.tb_layout.specs.claim.Transfer.{transfer_of}
use Rattle.tb_layout.specs.claim.EventCounts.{count_of}
use Rattle.tb_work.proofs.Admissions.{admitted_are_whole}
use Rattle.tb_work.specs.claim.Admission.{admission_of, admission_of_size}
use Rattle.tb_work.specs.declared.item.Item.TheVariants as item
use Rattle.tb_work.specs.declared.packet.Packet.{Packet}
use Rattle.tb_core.specs.declared.parcel.Parcel.TheVariants as parcel
use Rattle.tb_core.specs.declared.outcomes.Outcomes.TheVariants as outcomes
use Rattle.tb_core.proofs.Since.{groups-inputs}
use Rattle.tb_submit.specs.clauses.Lists.{IsWithin, AreWithin}
use Rattle.tb_pipe.proofs.Lists.{all_taken, all_more, all_first}

pub record HasRun (start : LedgerState) (limit : ℕ) (queue : List Ticket) (ledger : LedgerState)
    (answers : List ReplyValue) : Type 0 where
  pub ran : Ran start (items_in queue) ledger answers
  pub joined : AreJoined limit (groups_since start ledger)

-- where each stage took all that the one before it gave, and gave all that it made of it
pub drained : {start : LedgerState} {intake : IntakeState} {taken given : List Parcel} {is : LedgerState → Type 0}
    {made : List Outcomes} (answered : List Outcomes) → AllBatched intake given
    → (committed : AllCommitted start taken is made) → IsPrefix taken given → IsPrefix answered made
    → has_final answered ≡ true → HasRun start intake.limit intake.taken committed.ledger (answers_in answered)
drained {start = start} {intake = intake} {taken = taken} answered batched committed parcels replies final =
    let all_parcels : taken ≡ batched.before ++ parcel.Last ∷ [] =
    all_taken is_last batched.before parcel.Last taken parcels.0 batched.unended (parcels.1 ∙ batched.parts) committed.ended in
    let spelling : all_decisions_in taken ≡ all_decisions_in batched.before = ap all_decisions_in all_parcels
    ∙ flat_map-append decisions_in batched.before (parcel.Last ∷ [])
    ∙ append-nil (all_decisions_in batched.before) in
    let all_outcomes : answered ≡ committed.before ++ outcomes.Last ∷ [] =
    all_taken is_final committed.before outcomes.Last answered replies.0 committed.unfinished
    (replies.1 ∙ committed.parts) final in
    let answers : answers_in answered ≡ answers_in committed.before = ap answers_in all_outcomes
    ∙ flat_map-append replies_in committed.before (outcomes.Last ∷ [])
    ∙ append-nil (answers_in committed.before) in
    record {
      ran = record {
        closed = batched.closed;
        stopped = batched.stopped;
        decisions = all_decisions_in batched.before;
        passed = batched.passes;
        commits = subst (λ rs. Commits start (all_decisions_in batched.before) committed.ledger rs) (sym answers)
            (subst (λ ps. Commits start ps committed.ledger (answers_in committed.before)) spelling committed.commits);
      };
      joined = committed.joined intake.limit (subst (AreJoinedParcels intake.limit) (sym all_parcels)
          (all_more (IsJoinedParcel intake.limit) batched.before (parcel.Last ∷ []) batched.joined (tt, tt)));
    }

-- ---- no packet of the journal has more events than the limit

length-chunks : (size n : ℕ) (bytes : List ℕ) → length (first_chunks size n bytes) ≡ n
length-chunks size zero bytes = refl
length-chunks size (suc n) bytes = ap suc (length-chunks size n (drop size bytes))

few : (limit : ℕ) (bytes : List ℕ) (size : ℕ) → IsOk (admission_of_size limit bytes (Some size))
    → length (chunks size bytes) ≤ limit
few limit bytes size ok =
    subst (λ n. n ≤ limit) (sym (length-chunks size (length bytes / size) bytes))
    (admitted_are_whole limit bytes (Some size) ok).few

few_mapped : {A : Type 0} (limit : ℕ) (f : List ℕ → A) (all : List (List ℕ)) → length all ≤ limit
    → length (map f all) ≤ limit
few_mapped limit f all most = subst (λ n. n ≤ limit) (sym (length-map all f)) most

few_events : (limit : ℕ) (packet : Packet) → IsOk (admission_of limit packet) → count_of (events_in packet) ≤ limit
few_events limit packet ok = by (packet.operation == 129) (packet.operation == 130) (packet.operation == 131) ok
  where
    bytes : List ℕ
    bytes = packet.bytes

    by : (accounts transfers lookup : Bool) → IsOk
        (admission_of_size limit bytes (if accounts then Some 128 else if transfers then Some 128
        else if lookup then Some 16 else None)) →
        count_of (if accounts then Accounts (accounts_of bytes)
        else if transfers then Transfers (transfers_of bytes) else Ids (ids_of bytes)) ≤ limit
    by true transfers lookup ok = few_mapped limit account_of (chunks 128 bytes) (few limit bytes 128 ok)
    by false true lookup ok = few_mapped limit transfer_of (chunks 128 bytes) (few limit bytes 128 ok)
    by false false true ok = few_mapped limit little_endian (chunks 16 bytes) (few limit bytes 16 ok)
    by false false false ok = absurd (true≢false (sym ok))

one_within : (limit : ℕ) (x : Item) (others : List Item) → IsWithin limit x → AreInputsWithin limit (ahead others)
    → AreInputsWithin limit (ahead (x ∷ others))
one_within limit (item.Packet job) others within all = (few_events limit job.packet within, all)
one_within limit (item.Pulse moment) others within all = (tt, all)
one_within limit item.End others within all = all
one_within limit item.Close others within all = tt

ahead_within : (limit : ℕ) (queue : List Ticket) → AreWithin limit queue → AreInputsWithin limit (ahead (items_in queue))
ahead_within limit [] all = tt
ahead_within limit (ticket ∷ queue) all =
    one_within limit ticket.item (items_in queue) all.0 (ahead_within limit queue all.1)

pub grouped : {start ledger : LedgerState} {limit : ℕ} {queue : List Ticket} {answers : List ReplyValue}
    → HasRun start limit queue ledger answers → AreWithin limit queue
    → IsPrefix (inputs_since start ledger) (ahead (items_in queue)) → IsGrouping limit (groups_since start ledger)
grouped {start = start} {ledger = ledger} {limit = limit} {queue = queue} run within committed = record {
  joined = run.joined;
  within = subst (AreInputsWithin limit) (sym (groups-inputs start ledger run.ran.commits.continues))
      (all_first (IsInputWithin limit) (inputs_since start ledger) committed.0
      (subst (AreInputsWithin limit) (sym committed.1) (ahead_within limit queue within)));
}

-- ---- a reply ring of each number below theirs

pub some_of : (k : ℕ) (outlets : List (Outlet ReplyValue)) → k < length outlets → Outlet ReplyValue
some_of k [] below = absurd (omega (arith, below))
some_of k (outlet ∷ outlets) below = outlet
