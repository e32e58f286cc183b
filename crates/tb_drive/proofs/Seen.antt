-- What drivers have seen, list by list.
use Rattle.std.proofs.Common.{◌≡◌, ◌∙◌, ◌<◌, ◌+◌, ℕ, refl, zero, suc, List, [], ◌∷◌, ◌++◌, length, Option, Some, None, slice_get, ap, subst, sym, arith, append-nil, append_assoc, ◌-◌}
use Rattle.tb_drive.proofs.Words.{flat_map-append, EndedState, SubmitterState, ended_with, origin_of, Numbered, ReplyValue, Item, IsEnd, HaveSeen, HasSeen, HasSeenEnd, IsPrefixOf, job_in, jobs_in}
use Rattle.tb_submit.specs.clauses.Lists.{ArePackets}
use Rattle.tb_work.specs.declared.item.Item.TheVariants as item

-- what is so of the items of each index is so with one item more in each list
module _ {X Y : Type 0} (Are : X → Y → Type 0) where
  abbrev AreInPairs : List X → List Y → Type 0
  AreInPairs xs ys = (k : ℕ) (x : X) (y : Y) → slice_get xs k ≡ Some x → slice_get ys k ≡ Some y → Are x y

  module _ (xs : List X) (ys : List Y) where
    with_first : {first : X} {other : Y} → Are first other → AreInPairs xs ys → AreInPairs (first ∷ xs) (other ∷ ys)
    with_first {first = first} {other = other} are have zero x y x_is y_is =
        let is_first : first ≡ x = cc in
        let is_other : other ≡ y = cc in
        rw (← is_first, ← is_other) are
    with_first are have (suc k) x y x_is y_is = have k x y x_is y_is

  pub one_more : (xs : List X) (ys : List Y) {last : X} {other : Y} → length xs ≡ length ys → AreInPairs xs ys
      → Are last other → AreInPairs (xs ++ last ∷ []) (ys ++ other ∷ [])
  one_more [] [] long have are = with_first [] [] are (λ k x y x_is. cc)
  one_more [] (y ∷ ys) long have are = absurd (omega (arith, long))
  one_more (x ∷ xs) [] long have are = absurd (omega (arith, long))
  one_more (x ∷ xs) (y ∷ ys) long have are =
      with_first _ _ (have zero x y refl refl) (one_more xs ys (omega (arith, long)) (λ k. have (suc k)) are)

module _ {D : Type 0} (has_seen : D → ℕ → List Numbered → List ReplyValue → Type 0) where
  -- what is so of each in two lists is so of the first two, and of each after them
  pub first_has : {drivers others : List D} {submitters rest : List SubmitterState} {driver : D}
      {submitter : SubmitterState} → drivers ≡ driver ∷ others → submitters ≡ submitter ∷ rest
      → HaveSeen has_seen drivers submitters → HasSeen has_seen driver submitter
  first_has {driver = driver} {submitter = submitter} drivers_are submitters_are have =
      have zero driver submitter (ap (λ ds. slice_get ds zero) drivers_are)
      (ap (λ ss. slice_get ss zero) submitters_are)

  pub others_have : {drivers others : List D} {submitters rest : List SubmitterState} {driver : D}
      {submitter : SubmitterState} → drivers ≡ driver ∷ others → submitters ≡ submitter ∷ rest
      → HaveSeen has_seen drivers submitters → HaveSeen has_seen others rest
  others_have drivers_are submitters_are have k driver submitter driver_is submitter_is =
      have (suc k) driver submitter (ap (λ ds. slice_get ds (suc k)) drivers_are ∙ driver_is)
      (ap (λ ss. slice_get ss (suc k)) submitters_are ∙ submitter_is)

  -- the end itself is no packet
  pub seen_at_end : (driver : D) (submitter : SubmitterState) → HasSeen has_seen driver submitter
      → HasSeenEnd has_seen driver (ended_with submitter item.End)
  seen_at_end driver submitter seen =
      subst (λ jobs. has_seen driver submitter.origin.seat.limit jobs submitter.read)
      (sym (flat_map-append job_in submitter.queued (item.End ∷ []) ∙ append-nil (jobs_in submitter.queued))) seen

-- ---- packets

-- what a submitter queues before its end are packets, so none is lost among them
pub all_jobs : (limit sender number : ℕ) (items : List Item) → ArePackets limit sender number items
    → length (jobs_in items) ≡ length items
all_jobs limit sender number [] are = refl
all_jobs limit sender number (item.Packet job ∷ items) are =
    ap suc (all_jobs limit sender (number + 1) items are.3)
all_jobs limit sender number (item.Pulse moment ∷ items) are = absurd are
all_jobs limit sender number (item.End ∷ items) are = absurd are
all_jobs limit sender number (item.Close ∷ items) are = absurd are

-- while a packet is in flight, fewer replies were read than packets queued
pub fewer_read : (limit sender flight : ℕ) (items : List Item) (read : List ReplyValue)
    → ArePackets limit sender 0 items → flight ≡ length items - length read → (flight ≡ 0 → ⊥)
    → length read < length (jobs_in items)
fewer_read limit sender flight items read are is some =
    omega (arith, all_jobs limit sender 0 items are, is, some)

-- ---- front parts

pub front_of_more : (first : List Item) {all more : List Item} → IsPrefixOf first all → IsPrefixOf all more
    → IsPrefixOf first more
front_of_more first front further = (
  front.0 ++ further.0,
  further.1 ∙ ap (λ (all : List Item). all ++ further.0) front.1 ∙ append_assoc first front.0 further.0,
)

-- an end is that of the submitter as it was before
pub end_before : (before now : SubmitterState) (ended : Option EndedState) → origin_of now ≡ origin_of before
    → IsPrefixOf before.queued now.queued → IsEnd now ended → IsEnd before ended
end_before before now None own front is = tt
end_before before now (Some end) own front is = (is.0 ∙ own, front_of_more before.queued front is.1)
