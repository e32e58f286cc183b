use Rattle.std.proofs.Common.{arith, subst, sym}
use Rattle.std.proofs.KnownBytes.{Consumes-trans}
use Rattle.tb_program_text.proofs.Words.{Consumes}
use Rattle.tb_program_text.proofs.read.read_script.Goals as goal

pub loop-reads-preserved : goal.loop-reads-preserved
loop-reads-preserved g c = record {
  taken = subst (Consumes (g.R.Read.remaining c.args.reader.now) (g.R.Read.remaining c.read.new.self))
      (sym c.in_ok-extend_from_slice.ensures.items)
      (Consumes-trans _ (g.R.Read.remaining c.loop-reads.reader) _ _ _ c.loop-reads.invariant.taken c.in-Ok.ensures.bytes.0);
  short = omega arith;
}
