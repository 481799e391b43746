use Rattle.ev_grounds.proofs.Facts.{facts_tell}
use Rattle.ev_grounds.proofs.facts_of_paths.Goals as goal

pub returns : goal.returns
returns c = record { tell = λ e. facts_tell e }
