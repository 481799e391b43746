use Rattle.ev_fred.proofs.Pages.{level_bits}
use Rattle.ev_fred.proofs.config.level_of.Goals as goal

pub returns-then-vector-lt32-clause-is : goal.returns-then-vector-lt32-clause-is
returns-then-vector-lt32-clause-is c = level_bits c.args.stklvls c.args.vector c.if-vector-lt32.true
