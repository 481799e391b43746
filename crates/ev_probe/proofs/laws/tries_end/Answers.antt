use Rattle.ev_probe.proofs.Four.{four_suffice}
use Rattle.ev_probe.proofs.laws.tries_end.Goals as goal

pub returns : goal.returns
returns c = four_suffice
