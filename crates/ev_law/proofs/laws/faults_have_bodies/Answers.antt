use Rattle.ev_law.proofs.Required.{body_faults_have_bodies, user_events_have_bodies}
use Rattle.ev_law.proofs.laws.faults_have_bodies.Goals as goal

pub returns : goal.returns
returns c = record { user = user_events_have_bodies; body = body_faults_have_bodies }
