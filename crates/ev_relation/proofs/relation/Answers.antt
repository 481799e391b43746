use Rattle.ev_relation.proofs.Laws.{tells}
use Rattle.ev_relation.proofs.relation.Goals as goal

pub returns : goal.returns
returns c = record { tells = tells }
