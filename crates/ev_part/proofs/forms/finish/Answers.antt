use Rattle.ev_part.proofs.Opening.{finish_elsewhere}
use Rattle.ev_part.proofs.forms.finish.Goals as goal

pub returns-then-is_main : goal.returns-then-is_main
returns-then-is_main c = λ text. finish_elsewhere text c.args.is_main _ c.if-is_main.true
