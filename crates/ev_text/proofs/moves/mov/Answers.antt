use Rattle.ev_text.proofs.Surplus.{mov_nothing}
use Rattle.ev_text.proofs.moves.mov.Goals as goal

pub returns-in_default : goal.returns-in_default
returns-in_default c = mov_nothing c.args.operands.now c.in_default.ensures.cases
