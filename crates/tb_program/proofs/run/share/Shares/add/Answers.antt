use Rattle.std.proofs.Common.{ap, rules}
use Rattle.tb_program.proofs.Words.{packet_by}
use Rattle.tb_program.proofs.Sharing.{dealt_past}
use Rattle.tb_program.proofs.run.share.Shares.add.Goals as goal

pub returns-in_ok-push-in-Pulse-clause-packets : goal.returns-in_ok-push-in-Pulse-clause-packets
returns-in_ok-push-in-Pulse-clause-packets c =
    λ items dealt. dealt_past 0 _ items c.args.item (λ other least most. ap (packet_by other) c.in-Pulse.is) dealt

pub returns-in-Shut-clause-packets : goal.returns-in-Shut-clause-packets
returns-in-Shut-clause-packets c =
    λ items dealt. dealt_past 0 _ items c.args.item (λ other least most. ap (packet_by other) c.in-Shut.is) dealt

pub returns-in_err-push-in-Pulse-clause-moments : goal.returns-in_err-push-in-Pulse-clause-moments
returns-in_err-push-in-Pulse-clause-moments c = search rules

pub returns-in_ok-push-in-Pulse-clause-moments : goal.returns-in_ok-push-in-Pulse-clause-moments
returns-in_ok-push-in-Pulse-clause-moments c = search rules

pub returns-in-Shut-clause-moments : goal.returns-in-Shut-clause-moments
returns-in-Shut-clause-moments c = search rules
