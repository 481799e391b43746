use Rattle.ev_part.proofs.Opening.{ret_elsewhere}
use Rattle.ev_part.proofs.forms.ret.Goals as goal

pub returns-then-not-is_main : goal.returns-then-not-is_main
returns-then-not-is_main c = λ text. ret_elsewhere text c.args.is_main _ c.if-not-is_main.true
