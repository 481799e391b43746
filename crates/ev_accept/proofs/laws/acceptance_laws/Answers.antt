use Rattle.ev_accept.proofs.Acceptance.{accepted_is_not_refused, refusal_is_unique, bound_is_small}
use Rattle.ev_accept.proofs.BoundLaws.{bound-unique}
use Rattle.ev_accept.proofs.laws.acceptance_laws.Goals as goal

pub returns : goal.returns
returns c = record { excludes = accepted_is_not_refused; refusal = refusal_is_unique; bound = bound-unique; small = bound_is_small }
