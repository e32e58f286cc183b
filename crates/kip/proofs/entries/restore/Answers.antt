use Rattle.std.proofs.Common.{refl, sym, ◌∙◌, arith, inl, inr}
use Rattle.tb_work.specs.declared.refusal.Refusal.TheVariants.{InvalidDataSize}
use Rattle.tb_embed.specs.declared.restoring.RestoreFault.TheVariants.{Refused}
use Rattle.kip.proofs.Refused.{another_size}
use Rattle.kip.proofs.entries.restore.Goals as goal

pub returns-then-entry-bytes : goal.returns-then-entry-bytes
returns-then-entry-bytes c = record {
  restores = λ zero. absurd (omega (arith, sym c.number.ensures ∙ zero));
  engine = refl;
  same = λ other. refl;
  fault = inr (Refused InvalidDataSize, (inl (another_size c.args.engine.now c.args.entry.now c.args.bytes.now c.if-entry-bytes.true), c.number.ensures));
}
