use Rattle.ev_user.proofs.Deliver.{events_are_own, events_pass, events_are_deliverable, arrives_at_once, call_arrives, refusal_arrives}
use Rattle.ev_user.proofs.deliveries.Goals as goal

pub returns : goal.returns
returns c = record {
  own = events_are_own;
  gates = events_pass;
  deliverable = events_are_deliverable;
  arrives = arrives_at_once;
  call = call_arrives;
  refusal = refusal_arrives;
}
