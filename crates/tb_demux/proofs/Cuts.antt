-- Cutting off one packet's failures.
use Rattle.std.proofs.Common.{inl, inr, refl, sym, ap, ◌∙◌, arith, ◌≡◌, ℕ, ◌+◌, ◌<◌, ◌≤◌, Bool, true, false, not, nat_le, nat_lt, ◌&&◌, List, [], ◌∷◌, length, map, filter, take, drop}
use Rattle.std.specs.Prelude.{◌⊎◌, if◌then◌else◌}
use Rattle.std.specs.List.{list_all}
use Rattle.std.proofs.lemmas.Bool.{and_parts}
use Rattle.std.proofs.lemmas.Bool.Decides.{nat_tests}
use Rattle.tb_layout.specs.declared.failure.Failure.{Failure}
use Rattle.tb_layout.specs.claim.Failures.{RiseWithin, is_within, from_offset, failures_within}
use Rattle.tb_work.specs.claim.Admission.{count_of}
use Rattle.tb_work.specs.claim.Packet.{Numbered}
use Rattle.tb_work.specs.claim.Answer.{reply_with}
use Rattle.tb_work.specs.claim.Job.{count_of_all, is_lookup}
use Rattle.tb_layout.specs.declared.answer.Answer.TheVariants.{Failures}
use Rattle.tb_work.specs.declared.outcome.Outcome.TheVariants.{Committed}
use Rattle.tb_demux.specs.declared.remaining_failures.RemainingFailures.{RemainingFailures}
use Rattle.tb_demux.specs.inside.Leading.{count_below}
use Rattle.tb_work.specs.declared.outcome.Outcome.{Outcome}
use Rattle.tb_demux.specs.clauses.Remaining.{failures_remaining, AreRemaining, IsForOne}
use Rattle.tb_demux.specs.clauses.Cutting.{reply_at, cut_replies_from}

-- ---- one failure against an index

below : (a b : ℕ) → nat_lt a b ≡ true → a < b
below a b h = grind (arith, nat_tests)

not_below : (a b : ℕ) → nat_lt a b ≡ false → b ≤ a
not_below a b h = grind (arith, nat_tests)

at_least : (a b : ℕ) → a ≤ b → nat_le a b ≡ true
at_least a b h = grind (arith, nat_tests)

not_at_least : (a b : ℕ) → b < a → nat_le a b ≡ false
not_at_least a b h = grind (arith, nat_tests)

-- ---- the leading failures of a rising list

by_test : {A : Type 0} (G : A → Type 0) (test : Bool) (x y : A) → (test ≡ true → G x) → (test ≡ false → G y)
    → G (if test then x else y)
by_test G true x y is other = is refl
by_test G false x y is other = other refl

pub rise_own : (low high end : ℕ) (failures : List Failure) → RiseWithin low high failures
    → RiseWithin low end (take (count_below end failures) failures)
rise_own low high end [] rise = tt
rise_own low high end (failure ∷ failures) rise =
    by_test (λ n. RiseWithin low end (take n (failure ∷ failures))) (nat_lt failure.index end) _ _
    (λ is. (rise.0, below failure.index end is, rise_own (failure.index + 1) high end failures rise.2)) (λ is. tt)

pub rise_after : (low high end : ℕ) (failures : List Failure) → RiseWithin low high failures
    → RiseWithin end high (drop (count_below end failures) failures)
rise_after low high end [] rise = tt
rise_after low high end (failure ∷ failures) rise =
    by_test (λ n. RiseWithin end high (drop n (failure ∷ failures))) (nat_lt failure.index end) _ _
    (λ is. rise_after (failure.index + 1) high end failures rise.2)
    (λ is. (not_below failure.index end is, rise.1, rise.2))

skip : (a b : Bool) (failure : Failure) (failures : List Failure) → b ≡ false
    → (if a && b then failure ∷ failures else failures) ≡ failures
skip true b failure failures h = ap (λ c. if c then failure ∷ failures else failures) h
skip false b failure failures h = refl

-- after the end of a range there is nothing of it
none_within : (offset count low high : ℕ) (failures : List Failure) → offset + count ≤ low
    → RiseWithin low high failures → filter (is_within offset count) failures ≡ []
none_within offset count low high [] past rise = refl
none_within offset count low high (failure ∷ failures) past rise =
    let out : nat_lt failure.index (offset + count) ≡ false = grind (arith, nat_tests, rise.0) in
    skip (nat_le offset failure.index) (nat_lt failure.index (offset + count)) failure
    (filter (is_within offset count) failures) out
    ∙ none_within offset count (failure.index + 1) high failures (omega (arith, rise.0)) rise.2

own : (offset count low high : ℕ) (failures : List Failure) → offset ≤ low → RiseWithin low high failures
    → filter (is_within offset count) failures ≡ take (count_below (offset + count) failures) failures
own offset count low high [] from rise = refl
own offset count low high (failure ∷ failures) from rise =
    by_test (λ n. filter (is_within offset count) (failure ∷ failures) ≡ take n (failure ∷ failures))
    (nat_lt failure.index (offset + count)) _ _
    (λ is. rw (at_least offset failure.index (omega (arith, rise.0)), is) (ap (λ fs. failure ∷ fs)
    (own offset count (failure.index + 1) high failures (omega (arith, rise.0)) rise.2)))
    (λ is. none_within offset count failure.index high (failure ∷ failures)
    (not_below failure.index (offset + count) is) (omega arith, rise.1, rise.2))

-- a packet's own failures are the leading ones
pub cut_leading : (offset count high : ℕ) (failures : List Failure) → RiseWithin offset high failures
    → failures_within offset count failures ≡ map (from_offset offset)
    (take (count_below (offset + count) failures) failures)
cut_leading offset count high failures rise =
    ap (map (from_offset offset)) (own offset count offset high failures (omega arith) rise)

-- ---- the packets after the first

skipped : (end offset count : ℕ) (failures : List Failure) → end ≤ offset
    → filter (is_within offset count) failures ≡ filter (is_within offset count)
    (drop (count_below end failures) failures)
skipped end offset count [] past = refl
skipped end offset count (failure ∷ failures) past =
    by_test (λ n. filter (is_within offset count) (failure ∷ failures)
    ≡ filter (is_within offset count) (drop n (failure ∷ failures))) (nat_lt failure.index end) _ _
    (λ is. rw (not_at_least offset failure.index (omega (arith, below failure.index end is)))
    (skipped end offset count failures past))
    (λ is. refl)

replies_after : (end place offset : ℕ) (failures : List Failure) (jobs : List Numbered) → end ≤ offset
    → cut_replies_from place offset failures jobs ≡ cut_replies_from place offset
    (drop (count_below end failures) failures) jobs
replies_after end place offset failures [] past = refl
replies_after end place offset failures (job ∷ jobs) past =
    ap (λ fs. reply_with (Committed place (Failures (map (from_offset offset) fs))) job
    ∷ cut_replies_from (place + 1) (offset + count_of job.packet) failures jobs)
    (skipped end offset (count_of job.packet) failures past)
    ∙ ap (λ replies. reply_at place offset (drop (count_below end failures) failures) job ∷ replies)
    (replies_after end (place + 1) (offset + count_of job.packet) failures jobs (omega (arith, past)))

-- if no failures are left the offset doesn't matter
replies_empty : (place offset other : ℕ) (jobs : List Numbered)
    → cut_replies_from place offset [] jobs ≡ cut_replies_from place other [] jobs
replies_empty place offset other [] = refl
replies_empty place offset other (job ∷ jobs) =
    ap (λ replies. reply_at place offset [] job ∷ replies)
    (replies_empty (place + 1) (offset + count_of job.packet) (other + count_of job.packet) jobs)

-- ---- the cutter after one reply

rise_remaining : (offset other high : ℕ) (failures : List Failure) (end : ℕ) → RiseWithin end high failures
    → high ≡ end + other → (offset ≡ end) ⊎ (failures ≡ []) → RiseWithin offset (offset + other) failures
rise_remaining offset other high failures end rise is (inl same) = rw (same, sym is) rise
rise_remaining offset other high failures end rise is (inr empty) = rw empty tt

-- what is left is that of the packets after it
pub next_remaining : {old : RemainingFailures} (new : RemainingFailures) {job : Numbered} {jobs : List Numbered}
    → AreRemaining old (job ∷ jobs)
    → failures_remaining new ≡ drop (count_below (old.offset + count_of job.packet) (failures_remaining old))
    (failures_remaining old) →
    new.taken ≤ length new.failures → (new.offset ≡ old.offset + count_of job.packet) ⊎ (failures_remaining new ≡ [])
    → new.place ≡ old.place + 1 → AreRemaining new jobs
next_remaining {old} new {job} {jobs} h is taken offset place =
    let end = old.offset + count_of job.packet in
    let high = old.offset + (count_of job.packet + count_of_all jobs) in
    let remainder : RiseWithin end high (failures_remaining new) = rw is
    (rise_after old.offset high end (failures_remaining old) h.rise) in
    record {
      places = omega (arith, h.places, place);
      taken = taken;
      rise = rise_remaining new.offset (count_of_all jobs) high (failures_remaining new) end remainder (omega arith) offset;
      no_lookup = (and_parts (not (is_lookup job.packet))
          (list_all (λ (j : Numbered). not (is_lookup j.packet)) jobs) h.no_lookup).1;
    }

replies_remaining : (place offset end : ℕ) (failures : List Failure) (jobs : List Numbered)
    → (offset ≡ end) ⊎ (failures ≡ []) → cut_replies_from place end failures jobs
    ≡ cut_replies_from place offset failures jobs
replies_remaining place offset end failures jobs (inl same) = ap (λ o. cut_replies_from place o failures jobs) (sym same)
replies_remaining place offset end failures jobs (inr empty) = rw empty (replies_empty place end offset jobs)

pub next_replies : (old new : RemainingFailures) (job : Numbered) (jobs : List Numbered)
    → failures_remaining new ≡ drop (count_below (old.offset + count_of job.packet) (failures_remaining old))
    (failures_remaining old) →
    (new.offset ≡ old.offset + count_of job.packet) ⊎ (failures_remaining new ≡ []) → new.place ≡ old.place + 1 →
    cut_replies_from old.place old.offset (failures_remaining old) (job ∷ jobs)
    ≡ reply_at old.place old.offset (failures_remaining old) job
    ∷ cut_replies_from new.place new.offset (failures_remaining new) jobs
next_replies old new job jobs is offset place =
    let end = old.offset + count_of job.packet in
    ap (λ replies. reply_at old.place old.offset (failures_remaining old) job ∷ replies)
    (replies_after end (old.place + 1) end (failures_remaining old) jobs (omega arith)
    ∙ ap (λ failures. cut_replies_from (old.place + 1) end failures jobs) (sym is)
    ∙ replies_remaining (old.place + 1) new.offset end (failures_remaining new) jobs offset
    ∙ ap (λ p. cut_replies_from p new.offset (failures_remaining new) jobs) (sym place))

-- after a lookup nothing is left
pub none_left : (outcome other : Outcome) (job : Numbered) (jobs : List Numbered)
    → IsForOne outcome (job ∷ jobs) → IsForOne other jobs
none_left outcome other job [] h = record { one = omega arith; fits = λ one is. cc }
none_left outcome other job (next ∷ jobs) h = absurd (omega (arith, h.one))

pub none_remaining : (outcome other : Outcome) (job : Numbered) (jobs : List Numbered)
    → IsForOne outcome (job ∷ jobs) → map (reply_with outcome) (job ∷ jobs)
    ≡ reply_with outcome job ∷ map (reply_with other) jobs
none_remaining outcome other job [] h = refl
none_remaining outcome other job (next ∷ jobs) h = absurd (omega (arith, h.one))
