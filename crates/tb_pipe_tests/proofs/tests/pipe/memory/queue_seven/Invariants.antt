use Rattle.std.proofs.Common.{◌≡◌}
use Rattle.tb_submit.specs.clauses.Ends.{origin_of}
use Rattle.tb_pipe_tests.proofs.tests.pipe.memory.queue_seven.Given as goal

abbrev pub invariant-loop-id : goal.invariant-loop-id
invariant-loop-id g l =
    record {
      submitter : origin_of l.submitter ≡ origin_of l.initial.submitter;
      control : l.control.seat ≡ l.initial.control.seat;
    }
