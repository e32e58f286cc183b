use Rattle.tb_core.proofs.EachSubmitter.{pulses_are_the_controls}
use Rattle.tb_core.proofs.laws.pulses_are_the_controls.Goals as goal

pub returns : goal.returns
returns c = pulses_are_the_controls
