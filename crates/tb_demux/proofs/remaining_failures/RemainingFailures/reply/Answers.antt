use Rattle.std.proofs.Common.{◌≡◌, arith, ap, sym, ◌∙◌, refl, ◌+◌, map, take, drop, rules}
use Rattle.std.proofs.lemmas.Grind.{common_steps}
use Rattle.tb_layout.specs.claim.Failures.{from_offset}
use Rattle.tb_work.specs.claim.Admission.{count_of}
use Rattle.tb_work.specs.claim.Answer.{reply_with}
use Rattle.tb_work.specs.declared.stub.Stub.{Stub}
use Rattle.tb_layout.specs.declared.answer.Answer.TheVariants.{Failures}
use Rattle.tb_work.specs.declared.outcome.Outcome.TheVariants.{Committed}
use Rattle.tb_demux.specs.inside.Leading.{count_below}
use Rattle.tb_demux.specs.clauses.Remaining.{failures_remaining}
use Rattle.tb_demux.proofs.Cuts.{rise_own, rise_after, cut_leading}
use Rattle.tb_demux.proofs.remaining_failures.RemainingFailures.reply.Goals as goal

pub committed-reply-requires-clause-rise : goal.committed-reply-requires-clause-rise
committed-reply-requires-clause-rise c =
    let end : c.from.result + c.from-2.result ≡ c.args.self.now.offset + count_of c.args.job.packet =
    omega (arith, c.from.ensures, c.from-2.ensures, ap (λ (stub : Stub). stub.count) c.stub.ensures.value) in
    let remaining_failures : c.split_at.result.1.now ≡ failures_remaining c.args.self.now = c.split_at.ensures.back
    ∙ ap (drop c.args.self.now.taken) c.as_slice.ensures in
    rw (c.split_at-2.ensures.front, c.count_below.ensures.value, end, remaining_failures)
    (rise_own c.args.self.now.offset c.requires.rise.0 (c.args.self.now.offset + count_of c.args.job.packet)
    (failures_remaining c.args.self.now) c.requires.rise.1)

pub offset_after-self-requires : goal.offset_after-self-requires
offset_after-self-requires c =
    let end : c.from.result + c.from-2.result ≡ c.args.self.now.offset + count_of c.args.job.packet =
    omega (arith, c.from.ensures, c.from-2.ensures, ap (λ (stub : Stub). stub.count) c.stub.ensures.value) in
    let remaining_failures : c.split_at.result.1.now ≡ failures_remaining c.args.self.now = c.split_at.ensures.back
    ∙ ap (drop c.args.self.now.taken) c.as_slice.ensures in (
      c.requires.rise.0,
      rw (c.split_at-2.ensures.back, c.count_below.ensures.value, end, remaining_failures)
          (rise_after c.args.self.now.offset c.requires.rise.0
          (c.args.self.now.offset + count_of c.args.job.packet)
          (failures_remaining c.args.self.now) c.requires.rise.1),
    )

pub returns-clause-reply : goal.returns-clause-reply
returns-clause-reply c =
    let end : c.from.result + c.from-2.result ≡ c.args.self.now.offset + count_of c.args.job.packet =
    omega (arith, c.from.ensures, c.from-2.ensures, ap (λ (stub : Stub). stub.count) c.stub.ensures.value) in
    let remaining_failures : c.split_at.result.1.now ≡ failures_remaining c.args.self.now = c.split_at.ensures.back
    ∙ ap (drop c.args.self.now.taken) c.as_slice.ensures in
    let own : c.split_at-2.result.0.now ≡ take (count_below (c.args.self.now.offset + count_of c.args.job.packet)
    (failures_remaining c.args.self.now)) (failures_remaining c.args.self.now) =
    rw (c.split_at-2.ensures.front, c.count_below.ensures.value, end, remaining_failures) refl in
    c.committed-reply.ensures
    ∙ ap (λ failures. reply_with (Committed c.args.self.now.place (Failures failures)) c.args.job)
    (ap (map (from_offset c.args.self.now.offset)) own
    ∙ sym (cut_leading c.args.self.now.offset (count_of c.args.job.packet) c.requires.rise.0
    (failures_remaining c.args.self.now) c.requires.rise.1))

pub returns-clause-left : goal.returns-clause-left
returns-clause-left c = grind (arith, common_steps)

pub returns-clause-offset : goal.returns-clause-offset
returns-clause-offset c = grind (arith, common_steps)

pub returns-clause-place : goal.returns-clause-place
returns-clause-place c = search rules
