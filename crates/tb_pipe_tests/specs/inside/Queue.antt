-- Submitters of one queue.
use Rattle.std.specs.Prelude.{◌≡◌, List}
use Rattle.std.specs.List.{AllByRecursion}
use Rattle.tb_submit.specs.clauses.Ends.{SenderState, SubmitterState}

abbrev pub AreOf : SenderState → List SubmitterState → Type 0
AreOf control submitters =
    AllByRecursion (λ (submitter : SubmitterState). submitter.origin.seat.queue ≡ control.seat.queue) submitters
