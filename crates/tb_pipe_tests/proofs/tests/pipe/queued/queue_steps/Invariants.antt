use Rattle.std.proofs.Common.{◌≡◌}
use Rattle.tb_submit.specs.clauses.Ends.{origin_of}
use Rattle.tb_pipe_tests.proofs.tests.pipe.queued.queue_steps.Given as goal

abbrev pub invariant-loop-step : goal.invariant-loop-step
invariant-loop-step g l =
    record {
      submitter : origin_of l.submitter ≡ origin_of l.initial.submitter;
      control : l.control.seat ≡ l.initial.control.seat;
    }
