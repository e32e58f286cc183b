-- Found by the prover itself; on file since the check of an edit then costs less.
use Rattle.std.proofs.Common.{rules}
use Rattle.tb_embed.proofs.senders.Senders.refusal.Goals as goal

pub returns-then-stopped : goal.returns-then-stopped
returns-then-stopped c = search rules

pub returns-then-submitter-self : goal.returns-then-submitter-self
returns-then-submitter-self c = search rules

pub returns-then-self-submitter : goal.returns-then-self-submitter
returns-then-self-submitter c = search rules

pub returns-else-self-submitter : goal.returns-else-self-submitter
returns-else-self-submitter c = search rules
