use Rattle.ev_paths.proofs.CallEnds.{call_ends}
use Rattle.ev_paths.proofs.call_blocks.Goals as goal

pub returns : goal.returns
returns c = record { ends = λ fred layout. call_ends fred layout }
