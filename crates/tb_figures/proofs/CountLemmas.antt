-- What one more stub, batch or pulse adds to counts.
use Rattle.std.proofs.Common.{refl, sym, ap, subst, ◌∙◌, arith, ◌≡◌, ◌<◌, ◌≤◌, ℕ, ◌+◌, Bool, true, false, List, [], ◌∷◌, ◌++◌, map, take, set, get_or, length, length-append, cond, append-nil}
use Rattle.tb_figures.proofs.Words.{◌==◌, slice_index, nat_lt, count_by, sum_by, length-map, get_or-set_same, get_or-set_other, flat_map-append, eqb-true, Input, Packet, Pulse, Numbered, input_of, AreCounts, AreFull, capped, inputs_of, IsSplit, IsTally, is_of, Counts}
use Rattle.std.proofs.lemmas.List.Sums.{count_by_more_yes, count_by_more_no, count_by-le-length, sum_by_more, sum_by-cons, length-filter}
use Rattle.std.proofs.lemmas.List.Elements.{filter-append}
use Rattle.tb_layout.specs.claim.Bounds.{submitters_max}
use Rattle.tb_work.specs.claim.Job.{stub_of}
use Rattle.tb_work.specs.declared.stub.Stub.{Stub}
use Rattle.tb_batch.specs.claim.Batch.{AreAdmitted}
use Rattle.tb_batch.specs.claim.Grouping.{events_together}
use Rattle.tb_batch.proofs.Admitted.{seen}
use Rattle.tb_core.specs.claim.EachSubmitter.{is_packet_of, moments_in, packets_of}

-- ---- one stub

-- what one stub adds
pub record IsAdded (stub : Stub) (old new : Counts) : Type 0 where
  pub others : (new.batches ≡ old.batches) × (new.pulses ≡ old.pulses) × (new.packets ≡ old.packets)
  pub events : new.events ≡ capped (old.events + stub.count)
  pub own : stub.submitter < submitters_max → new.submitters
      ≡ set old.submitters stub.submitter (capped (slice_index old.submitters stub.submitter + 1))
  pub unknown : submitters_max ≤ stub.submitter → new.submitters ≡ old.submitters

pub split_more : (stubs : List Stub) (index : ℕ) (other : Stub) {start old new : Counts} → index < length stubs
    → IsSplit (take index stubs) start old → length old.submitters ≡ submitters_max → IsAdded (get_or stubs index other) old new
    → IsSplit (take (index + 1) stubs) start new
split_more stubs index other {start} {old} {new} below is long added = record {
  batches = added.others.0 ∙ is.batches;
  pulses = added.others.1 ∙ is.pulses;
  packets = added.others.2 ∙ is.packets;
  events = omega (arith, added.events, is.events, sum_by_more (λ (stub : Stub). stub.count) stubs index other below);
  submitters = λ k few. by k few ((get_or stubs index other).submitter == k) refl;
}
  where
    elsewhere : (k : ℕ) → ((get_or stubs index other).submitter == k) ≡ false → (known : Bool)
        → nat_lt (get_or stubs index other).submitter submitters_max ≡ known → slice_index new.submitters k ≡ slice_index old.submitters k
    elsewhere k not true is_known = ap (λ xs. slice_index xs k) (added.own (grind (arith, is_known)))
        ∙ get_or-set_other old.submitters _ k _ 0 (λ at. grind (arith, not, at))
    elsewhere k not false is_known = ap (λ xs. slice_index xs k) (added.unknown (grind (arith, is_known)))

    by : (k : ℕ) → k < submitters_max → (hit : Bool) → ((get_or stubs index other).submitter == k) ≡ hit
        → slice_index new.submitters k ≡ capped (slice_index start.submitters k + count_by (is_of k) (take (index + 1) stubs))
    by k few true e =
        let at : (get_or stubs index other).submitter ≡ k = eqb-true (get_or stubs index other).submitter k e in
        let set_there : new.submitters ≡ set old.submitters k (capped (slice_index old.submitters k + 1)) =
        subst (λ j. new.submitters ≡ set old.submitters j (capped (slice_index old.submitters j + 1))) at
        (added.own (omega (arith, few, at))) in
        let here : slice_index new.submitters k ≡ capped (slice_index old.submitters k + 1) =
        ap (λ xs. slice_index xs k) set_there ∙ get_or-set_same old.submitters k _ 0 (omega (arith, few, long)) in
        omega (arith, here, is.submitters k few, count_by_more_yes (is_of k) stubs index other below e)
    by k few false e = elsewhere k e (nat_lt (get_or stubs index other).submitter submitters_max) refl ∙ is.submitters k few
        ∙ ap (λ n. capped (slice_index start.submitters k + n)) (sym (count_by_more_no (is_of k) stubs index other below e))

-- ---- the packets of a batch

events_of_batch : (jobs : List Numbered) → AreAdmitted jobs
    → events_together (map input_of jobs) ≡ sum_by (λ (stub : Stub). stub.count) (map stub_of jobs)
events_of_batch [] all = refl
events_of_batch (job ∷ jobs) all =
    omega (
      arith,
      (seen job.packet all.0).count,
      events_of_batch jobs all.1,
      sum_by-cons (λ (stub : Stub). stub.count) (stub_of job) (map stub_of jobs),
    )

moments_of_batch : (jobs : List Numbered) → moments_in (map input_of jobs) ≡ []
moments_of_batch [] = refl
moments_of_batch (job ∷ jobs) = moments_of_batch jobs

count_by-cons : {X : Type 0} (p : X → Bool) (x : X) (xs : List X) → count_by p (x ∷ xs) ≡ cond (p x) 1 0 + count_by p xs
count_by-cons p x xs = sum_by-cons (λ y. cond (p y) 1 0) x xs

count_of_batch : (k : ℕ) (jobs : List Numbered)
    → count_by (is_packet_of k) (map input_of jobs) ≡ count_by (is_of k) (map stub_of jobs)
count_of_batch k [] = refl
count_of_batch k (job ∷ jobs) =
    count_by-cons (is_packet_of k) (input_of job) (map input_of jobs)
    ∙ ap (λ n. cond (job.submitter == k) 1 0 + n) (count_of_batch k jobs)
    ∙ sym (count_by-cons (is_of k) (stub_of job) (map stub_of jobs))

-- ---- more inputs

moments-append : (xs ys : List Input) → moments_in (xs ++ ys) ≡ moments_in xs ++ moments_in ys
moments-append [] ys = refl
moments-append (Packet submitter number events ∷ xs) ys = moments-append xs ys
moments-append (Pulse moment ∷ xs) ys = ap (λ ms. moment ∷ ms) (moments-append xs ys)

events-append : (xs ys : List Input) → events_together (xs ++ ys) ≡ events_together xs + events_together ys
events-append [] ys = omega arith
events-append (Packet submitter number events ∷ xs) ys = omega (arith, events-append xs ys)
events-append (Pulse moment ∷ xs) ys = events-append xs ys

pub inputs-more : (groups : List (List Input)) (group : List Input)
    → inputs_of (groups ++ group ∷ []) ≡ inputs_of groups ++ group
inputs-more groups group = flat_map-append (λ (g : List Input). g) groups (group ∷ [])
    ∙ ap (λ g. inputs_of groups ++ g) (append-nil group)

packets-append : (k : ℕ) (xs ys : List Input)
    → length (packets_of k (xs ++ ys)) ≡ length (packets_of k xs) + length (packets_of k ys)
packets-append k xs ys = ap length (filter-append (is_packet_of k) xs ys)
    ∙ length-append (packets_of k xs) (packets_of k ys)

packets-few : (k : ℕ) (xs : List Input) → length (packets_of k xs) ≤ length xs
packets-few k xs = omega (arith, length-filter (is_packet_of k) xs, count_by-le-length (is_packet_of k) xs)

full-push : (groups : List (List Input)) (group : List Input) → AreFull groups → 0 < length group
    → AreFull (groups ++ group ∷ [])
full-push [] group full some = (some, tt)
full-push (first ∷ groups) group full some = (full.0, full-push groups group full.1 some)

-- ---- one batch, one pulse

pub counts_batch : (groups : List (List Input)) (jobs : List Numbered) (old new : Counts) → AreCounts groups old
    → length (inputs_of groups) + length jobs ≤ 9223372036854775808 → (0 < length jobs) × AreAdmitted jobs
    → IsTally (map stub_of jobs) old new → AreCounts (groups ++ map input_of jobs ∷ []) new
counts_batch groups jobs old new are few some tally =
    let before = inputs_of groups in
    let group = map input_of jobs in
    let all = inputs-more groups group in
    let stubs : length (map stub_of jobs) ≡ length jobs = length-map jobs stub_of in
    let packets : length group ≡ length jobs = length-map jobs input_of in
    let long : length (before ++ group) ≡ length before + length jobs =
    length-append before group ∙ ap (λ n. length before + n) packets in
    let moments : moments_in (before ++ group) ≡ moments_in before =
    moments-append before group ∙ ap (λ ms. moments_in before ++ ms) (moments_of_batch jobs)
    ∙ append-nil (moments_in before) in
    record {
      full = full-push groups group are.full (omega (arith, some.0, packets));
      entries = omega (
        arith,
        tally.batches,
        tally.pulses,
        are.entries,
        are.some,
        are.places,
        few,
        some.0,
        length-append groups (group ∷ []),
      );
      some = omega (arith, tally.batches, tally.packets, are.some, are.places, stubs, few, some.0);
      places = omega (arith, tally.packets, tally.pulses, are.places, few, stubs, long, ap length all);
      pulses = tally.pulses ∙ are.pulses ∙ sym (ap (λ xs. length (moments_in xs)) all ∙ ap length moments);
      events = omega (
        arith,
        tally.events,
        are.events,
        events_of_batch jobs some.1,
        events-append before group,
        ap events_together all,
      );
      submitters = λ k below. omega (
        arith,
        tally.submitters k below,
        are.submitters k below,
        ap (λ xs. length (packets_of k xs)) all,
        packets-append k before group,
        length-filter (is_packet_of k) group,
        count_of_batch k jobs,
        packets-few k (before ++ group),
        long,
        few,
      );
    }

pub counts_pulse : (groups : List (List Input)) (moment : ℕ) (old : Counts) → AreCounts groups old
    → length (inputs_of groups) + 1 ≤ 9223372036854775808
    → AreCounts (groups ++ (Pulse moment ∷ []) ∷ []) (record old { pulses = capped (old.pulses + 1) })
counts_pulse groups moment old are few =
    let before = inputs_of groups in
    let group = Pulse moment ∷ [] in
    let all = inputs-more groups group in
    let long = length-append before group in
    record {
      full = full-push groups group are.full (omega arith);
      entries = omega (arith, are.entries, are.places, few, length-append groups (group ∷ []));
      some = are.some;
      places = omega (arith, are.places, few, long, ap length all);
      pulses = omega (
        arith,
        are.pulses,
        are.places,
        few,
        ap (λ xs. length (moments_in xs)) all,
        ap length (moments-append before group),
        length-append (moments_in before) (moment ∷ []),
      );
      events = are.events
          ∙ sym (ap (λ xs. capped (events_together xs)) all ∙ ap capped (omega (arith, events-append before group)));
      submitters = λ k below. are.submitters k below
          ∙ sym (ap (λ xs. length (packets_of k xs)) all ∙ packets-append k before group ∙ omega arith);
    }
