use Rattle.ev_blocks.proofs.Falls.{edges_fall}
use Rattle.ev_blocks.proofs.CallFalls.{call_edges}
use Rattle.ev_blocks.proofs.edges.Goals as goal

pub returns : goal.returns
returns c = record { fall = λ mode. edges_fall mode; calls = λ mode layout. call_edges mode layout }
