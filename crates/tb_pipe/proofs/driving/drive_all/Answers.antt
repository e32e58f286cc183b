use Rattle.std.proofs.Common.{refl, rules}
use Rattle.tb_pipe.proofs.Words.{IfOk-weaker}
use Rattle.tb_pipe.proofs.driving.drive_all.Goals as goal

-- a `Ledger` is only itself
pub returns-clause-reported : goal.returns-clause-reported
returns-clause-reported g c =
    IfOk-weaker c.drive_over.result _ _ (λ finished goes.
    let said = goes c.args.opened.pipeline.start refl in rw said.1 at said.2) c.drive_over.ensures.reported

pub returns-clause-shares : goal.returns-clause-shares
returns-clause-shares g c = search rules
