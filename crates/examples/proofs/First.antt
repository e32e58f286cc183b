-- A packet queued ahead of a run is the first that its submitter queued.
use Rattle.std.proofs.Common.{◌≡◌, ◌∙◌, ◌<◌, ℕ, List, [], ◌∷◌, Some, length, map, set, slice_get, refl, ap, subst, arith}
use Rattle.std.specs.Prelude.{IsSomeAnd}
use Rattle.std.proofs.lemmas.List.{length-map}
use Rattle.tb_drive.specs.clauses.Ahead.{with_packet}
use Rattle.tb_drive.specs.clauses.Seen.{ArePrefixesOf, IsPrefixOf}
use Rattle.tb_submit.specs.clauses.Ends.{EndedState, Origin, SubmitterState, end_origin, new_submitter, origin_of}
use Rattle.tb_work.specs.claim.Job.{numbered_packet}
use Rattle.tb_work.specs.claim.Packet.{Numbered}
use Rattle.tb_work.specs.declared.item.Item.{Item}
use Rattle.tb_work.specs.declared.item.Item.TheVariants as item
use Rattle.tb_work.specs.declared.packet.Packet.{Packet}
use Rattle.examples.specs.inside.First.{QueuedFirst}

module _ (packet : Packet) where
  at_first : {first : SubmitterState} {others now : List SubmitterState} (ends : List EndedState) {job : Numbered}
      → now ≡ first ∷ others → first.queued ≡ item.Packet job ∷ [] → job.packet ≡ packet → job.number ≡ 0
      → map end_origin ends ≡ map origin_of now → ArePrefixesOf now ends
      → IsSomeAnd (slice_get ends 0) (QueuedFirst packet)
  at_first {now = now} [] now_are queued is number own fronts =
      absurd (omega (arith, ap length own, length-map now origin_of, ap length now_are))
  at_first {first} (ended ∷ ends) {job} now_are queued is number own fronts = (
    job,
    is,
    number,
    subst (λ (items : List Item). IsPrefixOf items ended.queued) queued
        (fronts 0 first ended (ap (λ all. slice_get all 0) now_are) refl),
  )

  pub first_queued : (credit : ℕ) (origins : List Origin) {before now : List SubmitterState} (ends : List EndedState)
      {number : ℕ} → 0 < length origins → before ≡ map (new_submitter credit) origins
      → ((submitter : SubmitterState) → slice_get before 0 ≡ Some submitter
      → (number ≡ length submitter.queued) × (now ≡ set before 0 (with_packet submitter number packet)))
      → map end_origin ends ≡ map origin_of now → ArePrefixesOf now ends
      → IsSomeAnd (slice_get ends 0) (QueuedFirst packet)
  first_queued credit [] ends some before_are is own fronts = absurd (omega (arith, some))
  first_queued credit (origin ∷ origins) ends {number} some before_are is own fronts =
      let first = new_submitter credit origin in
      let one = is first (ap (λ all. slice_get all 0) before_are) in
      let with_it = with_packet first number packet in
      at_first ends {job = numbered_packet origin.seat.number number packet}
      (one.1 ∙ ap (λ all. set all 0 with_it) before_are) refl refl one.0 own fronts
