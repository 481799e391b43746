use Rattle.ev_probe.proofs.Inputs.{input_refused}
use Rattle.ev_probe.proofs.laws.refused_inputs.Goals as goal

pub returns : goal.returns
returns c = input_refused
