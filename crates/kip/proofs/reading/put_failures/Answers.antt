use Rattle.std.proofs.Common.{◌∙◌, arith}
use Rattle.kip.proofs.Words.{failure_bytes}
use Rattle.tb_layout.specs.declared.failure.Failure.{Failure}
use Rattle.kip.proofs.Written.{written_more}
use Rattle.kip.proofs.reading.put_failures.Goals as goal

-- what a loop reads outside the slice
abbrev none : Failure
none = record { index = 0; code = 0 }

pub loop-failure-preserved : goal.loop-failure-preserved
loop-failure-preserved c =
    let had = c.loop-failure.invariant in
    let put = c.put_failure.ensures in
    let more = written_more failure_bytes c.args.failures.now c.loop-failure.failure-index none
    c.loop-failure-test.true c.args.out.now had.1 had.2 put.put put.size in
    (omega (arith, had.0), more.0, more.1, put.same ∙ had.3)
