use Rattle.ev_paths.proofs.BodyEnds.{body_ends, body_untold, item_offsets}
use Rattle.ev_paths.proofs.body_blocks.Goals as goal

pub returns : goal.returns
returns c = record { ends = λ fred layout. body_ends fred layout; cr2 = body_untold; offsets = item_offsets }
