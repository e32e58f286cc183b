-- The events of a batch's body.
use Rattle.std.proofs.Common.{refl, sym, ap, ◌∙◌, arith, ◌≡◌, ◌≤◌, ℕ, zero, suc, ◌+◌, ◌*◌, ◌/◌, true, List, [], ◌∷◌, ◌++◌, map, drop, length, length-append, Some}
use Rattle.tb_core.proofs.Words.{unwrap_or, map-append, take-append-le, drop-append-le, length-drop, take-append_seam, drop-append_seam, chunks, event_size, count_of, count_of_size, Numbered, input_of, stub_of, body_of, are_of, AreAdmitted, IsLawful, Kind, OfAccounts, OfTransfers, OfIds, first_is, kind_of_batch, whole_events, events_in_turn, size_of, batch_packets}
use Rattle.std.specs.Simd.{first_chunks}

-- ---- chunks

chunks-append : {X : Type 0} (size k m : ℕ) (xs ys : List X) → length xs ≡ k * size
    → first_chunks size (k + m) (xs ++ ys) ≡ first_chunks size k xs ++ first_chunks size m ys
chunks-append size zero m [] ys h = ap (λ n. first_chunks size n ys) (omega arith)
chunks-append size zero m (x ∷ xs) ys h = absurd (omega (arith, h))
chunks-append size (suc k) m xs ys h =
    let fits : size ≤ length xs = grind (arith, h) in
    let rest : length (drop size xs) ≡ k * size = omega (arith, length-drop size xs, h) in
    let count : suc k + m ≡ suc (k + m) = omega arith in
    rw (
      count,
      take-append-le size xs ys fits,
      drop-append-le size xs ys fits,
      chunks-append size k m
          (drop size xs) ys rest,
    ) refl

chunks-append_128 : (xs ys : List ℕ) → length xs / 128 * 128 ≡ length xs
    → chunks 128 (xs ++ ys) ≡ chunks 128 xs ++ chunks 128 ys
chunks-append_128 xs ys whole =
    let count : length (xs ++ ys) / 128 ≡ length xs / 128 + length ys / 128 = omega
    (arith, whole, length-append xs ys) in
    ap (λ n. first_chunks 128 n (xs ++ ys)) count
    ∙ chunks-append 128 (length xs / 128) (length ys / 128) xs ys (sym whole)

-- ---- packets that were admitted

-- the stubs cut the body to its packets
batch_packets-jobs : (operation size : ℕ) (jobs : List Numbered) → event_size operation ≡ Some size
    → are_of operation jobs ≡ true → AreAdmitted jobs
    → batch_packets operation (body_of jobs) (map stub_of jobs) ≡ map input_of jobs
batch_packets-jobs operation size [] is one all = refl
batch_packets-jobs operation size (job ∷ jobs) is one all =
    let first = first_is operation job jobs one in
    let own : event_size job.packet.operation ≡ Some size = ap event_size first.0 ∙ is in
    let bytes = job.packet.bytes in
    let cut : count_of job.packet * size_of operation
    ≡ length bytes =
    ap (λ s. count_of_size bytes s * size_of operation) own ∙ ap (λ s. length bytes / size * unwrap_or s 0) is
    ∙ whole_events job.packet size own all.0 in
    rw (
      cut,
      take-append_seam bytes (body_of jobs),
      drop-append_seam bytes
          (body_of jobs),
      batch_packets-jobs operation size jobs is first.1 all.1,
      first.0,
    ) refl

pub entry_has : (operation : ℕ) (jobs : List Numbered) → IsLawful operation jobs
    → batch_packets operation (body_of jobs) (map stub_of jobs) ≡ map input_of jobs
entry_has operation jobs lawful = by operation (kind_of_batch operation jobs lawful) lawful.one_operation
  where
    by : (op : ℕ) → Kind op → are_of op jobs ≡ true → batch_packets op (body_of jobs) (map stub_of jobs) ≡ map input_of jobs
    by op OfAccounts one = batch_packets-jobs 129 128 jobs refl one lawful.all_admitted
    by op OfTransfers one = batch_packets-jobs 130 128 jobs refl one lawful.all_admitted
    by op OfIds one = batch_packets-jobs 131 16 jobs refl one lawful.all_admitted

-- the events of the body are those of its packets, laid one after the other
pub laid-chunks : {Event : Type 0} (f : List ℕ → Event) (operation : ℕ) (jobs : List Numbered)
    → event_size operation ≡ Some 128 → are_of operation jobs ≡ true → AreAdmitted jobs →
    map f (chunks 128 (body_of jobs)) ≡ events_in_turn
    (map (λ (job : Numbered). map f (chunks 128 job.packet.bytes)) jobs)
laid-chunks f operation [] is one all = refl
laid-chunks f operation (job ∷ jobs) is one all =
    let first = first_is operation job jobs one in
    let whole = whole_events job.packet 128 (ap event_size first.0 ∙ is) all.0 in
    ap (map f) (chunks-append_128 job.packet.bytes (body_of jobs) whole)
    ∙ map-append f (chunks 128 job.packet.bytes) (chunks 128 (body_of jobs))
    ∙ ap (λ events. map f (chunks 128 job.packet.bytes) ++ events) (laid-chunks f operation jobs is first.1 all.1)
