use Rattle.std.proofs.Common.{rules}
use Rattle.tb_drive.proofs.Words.{IfErr-weaker, on_ok_weaker}
use Rattle.tb_drive.proofs.Refused.{final, none_final}
use Rattle.tb_drive.proofs.submitting.submit_once.Goals as goal

-- Found by the prover itself; on file since the check of an edit then costs less.
pub returns-then-queued-ge-QUEUED_MAX-clause-refusal : goal.returns-then-queued-ge-QUEUED_MAX-clause-refusal
returns-then-queued-ge-QUEUED_MAX-clause-refusal c = search rules

pub returns-clause-refused : goal.returns-clause-refused
returns-clause-refused g c =
    IfErr-weaker c.submit.result _ _ (λ refused. final c.args.submitter.now c.args.packet refused.1)
    c.submit.ensures.refusal

pub returns-clause-kept : goal.returns-clause-kept
returns-clause-kept g c =
    on_ok_weaker c.submit.result (none_final c.args.submitter.now c.args.packet) c.submit.ensures.admitted

pub returns-clause-refusal : goal.returns-clause-refusal
returns-clause-refusal g c = search rules
