use Rattle.ev_calls.proofs.Lists.{addresses_differ, lists_stay, empty_at_zero, first_elsewhere, queues_grow, queues_are_taken, lists_turn, lists_are_turned}
use Rattle.ev_calls.proofs.laws.list_laws.Goals as goal

pub returns : goal.returns
returns c = record {
  addresses = addresses_differ;
  stay = lists_stay;
  empty = empty_at_zero;
  first = first_elsewhere;
  grow = queues_grow;
  taken = queues_are_taken;
  turn = lists_turn;
  turned = lists_are_turned;
}
