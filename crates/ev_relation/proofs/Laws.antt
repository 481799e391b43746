-- What the relation says, for every image of today.
use Rattle.ev_relation.specs.Told.{StandsTells}
use Rattle.ev_relation.proofs.CodeFacts.{facts}
use Rattle.ev_relation.proofs.Tells as telling

pub tells : StandsTells
tells mode image built given left s m r p lt = telling.stands_tells mode image given built.accepted (facts mode image given built) left s m r p lt
