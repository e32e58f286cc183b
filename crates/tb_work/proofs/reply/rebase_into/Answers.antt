use Rattle.std.proofs.Common.{arith, ◌+◌, rules}
use Rattle.std.proofs.lemmas.Grind.{common_steps}
use Rattle.tb_work.proofs.Words.{rise_at}
use Rattle.tb_work.proofs.reply.rebase_into.Goals as goal

pub overflow_sub-index : goal.overflow_sub-index
overflow_sub-index c =
    let at = rise_at c.args.offset (c.args.offset + c.args.count) c.args.failures.now c.loop-failure.failure-index
    (record { index = 0; code = 0 }) c.requires.rise c.loop-failure-test.true in
    omega (arith, at.0)

pub push-requires : goal.push-requires
push-requires c =
    let at = rise_at c.args.offset (c.args.offset + c.args.count) c.args.failures.now c.loop-failure.failure-index
    (record { index = 0; code = 0 }) c.requires.rise c.loop-failure-test.true in
    omega (arith, at.0, at.1, c.loop-failure.invariant.len, c.loop-failure.invariant.capacity, c.requires.fits)

pub loop-failure-init : goal.loop-failure-init
loop-failure-init c = search rules

pub loop-failure-smaller : goal.loop-failure-smaller
loop-failure-smaller c = search rules

pub loop-failure-preserved : goal.loop-failure-preserved
loop-failure-preserved c = grind (arith, common_steps)
