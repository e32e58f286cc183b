-- A submitter's counts, one step after the other.
use Rattle.std.proofs.Common.{◌≡◌, ◌<◌, ℕ, ◌+◌, ◌-◌, min, true, false, true≢false, List, [], ◌∷◌, ◌++◌, length, length-append, sym, refl, ap, ◌∙◌, arith, Some, None, Option, is_some}
use Rattle.tb_submit.proofs.Words.{IsOk, admission_of, Numbered, ReplyValue, Item, Packet, Refusal, Seat, IsSubmitter, or_else, refusal_of}
use Rattle.tb_submit.proofs.QueuedItems.{packets_more}
use Rattle.tb_submit.proofs.ReplyRefusals.{first_refusal_more}

module _ {seat : Seat} {queued : List Item} {count credit seen : ℕ} {first : Option Refusal} {read : List ReplyValue}
    (is : IsSubmitter seat queued count credit seen first read) where
  -- a packet queued
  pub counts_packet : (job : Numbered) → job.submitter ≡ seat.number → job.number ≡ count
      → IsOk (admission_of seat.limit job.packet) → length queued - length read < credit
      → IsSubmitter seat (queued ++ Packet job ∷ []) (count + 1) credit seen first read
  counts_packet job own number within left = record {
    among = is.among;
    limited = is.limited;
    packets = packets_more seat.limit seat.number 0 queued job is.packets own (omega (arith, number, is.counted)) within;
    counted = omega (arith, is.counted, length-append queued (Packet job ∷ []));
    credited = omega (arith, left, length-append queued (Packet job ∷ []));
    few = is.few;
    counted_read = is.counted_read;
    first_refusal = is.first_refusal;
  }

  -- a reply read
  pub counts_reply : {next : ℕ} {now : Option Refusal} (reply : ReplyValue) → next ≡ min (seen + 1) 18446744073709551615
      → now ≡ or_else first (refusal_of reply.outcome) → IsSubmitter seat queued count credit next now (read ++ reply ∷ [])
  counts_reply reply next_is now_is = record {
    among = is.among;
    limited = is.limited;
    packets = is.packets;
    counted = is.counted;
    credited = omega (arith, is.credited, length-append read (reply ∷ []));
    few = is.few;
    counted_read = omega (arith, next_is, is.counted_read, length-append read (reply ∷ []));
    first_refusal = now_is ∙ ap (λ f. or_else f (refusal_of reply.outcome)) is.first_refusal
        ∙ sym (first_refusal_more read reply);
  }

pub else_none : (first other : Option Refusal) → is_some first ≡ false → other ≡ or_else first other
else_none None other e = refl
else_none (Some refusal) other e = absurd (true≢false e)

pub else_some : (first other : Option Refusal) → is_some first ≡ true → first ≡ or_else first other
else_some None other e = absurd (true≢false (sym e))
else_some (Some refusal) other e = refl
