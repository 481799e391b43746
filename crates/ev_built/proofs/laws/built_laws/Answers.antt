use Rattle.ev_built.proofs.Taken.{taken_are_built}
use Rattle.ev_built.proofs.laws.built_laws.Goals as goal

pub returns : goal.returns
returns c = taken_are_built
