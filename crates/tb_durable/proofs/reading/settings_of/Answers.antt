-- Found by the prover itself; on file since the check of an edit then costs less.
use Rattle.std.proofs.Common.{rules}
use Rattle.tb_durable.proofs.reading.settings_of.Goals as goal

pub returns-in_default-clause-settings : goal.returns-in_default-clause-settings
returns-in_default-clause-settings c = search rules

pub returns-in_default-clause-opens : goal.returns-in_default-clause-opens
returns-in_default-clause-opens c = search rules

pub returns-in-Some-clause-settings : goal.returns-in-Some-clause-settings
returns-in-Some-clause-settings c = search rules

pub returns-in-Some-clause-opens : goal.returns-in-Some-clause-opens
returns-in-Some-clause-opens c = search rules

pub returns-in-None-clause-settings : goal.returns-in-None-clause-settings
returns-in-None-clause-settings c = search rules

pub returns-in-None-clause-opens : goal.returns-in-None-clause-opens
returns-in-None-clause-opens c = search rules

pub returns-in-Some-settings_in-clause-settings : goal.returns-in-Some-settings_in-clause-settings
returns-in-Some-settings_in-clause-settings c = search rules

pub returns-in-Some-settings_in-clause-opens : goal.returns-in-Some-settings_in-clause-opens
returns-in-Some-settings_in-clause-opens c = search rules

pub returns-in_default-settings_in-clause-opens : goal.returns-in_default-settings_in-clause-opens
returns-in_default-settings_in-clause-opens c = search rules
