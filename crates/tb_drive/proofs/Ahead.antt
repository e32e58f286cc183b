-- Submitters, and a packet of one of them that is queued ahead of a run.
use Rattle.std.proofs.Common.{◌≡◌, ◌<◌, ℕ, List, Some, All, length, set, slice_get, inl, inr, subst, arith}
use Rattle.tb_drive.proofs.Words.{length-set, All-set, slice_get_cases, SubmitterState, Packet}
use Rattle.tb_drive.specs.clauses.Ahead.{with_packet}

-- What is so of each submitter is so after `submit_ahead` too, if a packet more leaves it so. The fact about `after` is the
-- clause `ok`.
module _ (Is : SubmitterState → Type 0) (before after : List SubmitterState) (k number : ℕ) (packet : Packet) where
  pub all_with_packet : k < length before
      → ((submitter : SubmitterState) → Is submitter → Is (with_packet submitter number packet)) → All Is before
      → ((submitter : SubmitterState) → slice_get before k ≡ Some submitter
      → after ≡ set before k (with_packet submitter number packet))
      → All Is after × (length after ≡ length before)
  all_with_packet within still all is =
      elim ((slice_get_cases before k).1) as (λ _. All Is after × (length after ≡ length before)) [
        | inl w ↦
            let one = with_packet w.0 number packet in
            rw (is w.0 w.2) (
              All-set Is before k one (still w.0 (subst Is w.3 (all k w.0 within))) all,
              length-set before k one,
            )
        | inr w ↦ absurd (omega arith)
      ]
