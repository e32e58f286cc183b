use Rattle.std.proofs.Common.{refl, ◌∙◌}
use Rattle.tb_pipe.proofs.Cleared.{none_cleared, one_cleared}
use Rattle.tb_pipe.proofs.committing.Committer.commit_all.Goals as goal

pub loop-preserved : goal.loop-preserved
loop-preserved g c = record {
  inlet = c.in-Some-take.ensures.ring ∙ c.loop.invariant.inlet;
  outlet = c.commit.ensures.ring ∙ c.loop.invariant.outlet;
  committed = λ start begun. rw c.in-Some-take.ensures.some
      (rw c.if-commit.false at (c.commit.ensures.committed start _ (c.loop.invariant.committed start begun)));
  cleared = one_cleared c.in-Some-take.parcel c.loop.invariant.cleared c.in-Some-take.ensures.some
      c.pass_gate.ensures.through c.pass_gate.ensures.next;
}

pub loop-init : goal.loop-init
loop-init g c =
    record {
      inlet = refl;
      outlet = refl;
      committed = λ start begun. begun;
      cleared = none_cleared;
    }

pub returns-then-commit-clause-through : goal.returns-then-commit-clause-through
returns-then-commit-clause-through g c = (
  c.pass_gate.new.batches,
  one_cleared c.in-Some-take.parcel c.loop.invariant.cleared c.in-Some-take.ensures.some c.pass_gate.ensures.through
      c.pass_gate.ensures.next,
)

pub returns-then-commit-clause-all : goal.returns-then-commit-clause-all
returns-then-commit-clause-all g c = λ start begun.
    rw c.in-Some-take.ensures.some
    (rw c.if-commit.true at (c.commit.ensures.committed start _ (c.loop.invariant.committed start begun)))

-- nothing was taken
pub loop-preserved-in_default : goal.loop-preserved-in_default
loop-preserved-in_default g c = record {
  inlet = c.in_default.ensures.ring ∙ c.loop.invariant.inlet;
  outlet = c.loop.invariant.outlet;
  committed = λ start begun. rw c.in_default.ensures.none.0 (c.loop.invariant.committed start begun);
  cleared = rw c.in_default.ensures.none.0 c.loop.invariant.cleared;
}
