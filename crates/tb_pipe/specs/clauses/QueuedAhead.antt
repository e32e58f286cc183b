-- A packet that a submitter queues before the run.
use Rattle.std.specs.Prelude.{◌≡◌, ◌<◌, ◌≤◌, ℕ, length, None, Err, Result, IfOk, IfErr, OnOk}
use Rattle.tb_drive.specs.clauses.Ahead.{with_packet}
use Rattle.tb_layout.specs.claim.Bounds.{queued_max}
use Rattle.tb_submit.specs.clauses.Ends.{SubmitterState}
use Rattle.tb_submit.specs.clauses.Refusals.{IsSubmitRefusal, submit_refusal}
use Rattle.tb_work.specs.declared.packet.Packet.{Packet}
use Rattle.tb_work.specs.declared.refusal.Refusal.{Refusal}
use Rattle.tb_work.specs.declared.refusal.Refusal.TheVariants as refusals

-- A submitter queued a packet under its next number, or returned it, since a refusal applies or it has queued 2^56 packets.
pub record HasSubmitted (before : SubmitterState) (packet : Packet) (result : Result ℕ (Packet × Refusal))
    (after : SubmitterState) : Type 0 where
  pub ok : IfOk result (λ number. (number ≡ length before.queued) × (after ≡ with_packet before number packet))
  pub admitted : OnOk result (submit_refusal before packet ≡ None)
  pub back : IfErr result (λ refused. (refused.0 ≡ packet) × (after ≡ before))
  pub refusal : length before.queued < queued_max → IfErr result (λ refused. IsSubmitRefusal before packet refused.1)
  pub full : queued_max ≤ length before.queued → result ≡ Err (packet, refusals.Full)
