use Rattle.std.proofs.Common.{Some, None}
use Rattle.ev_part.proofs.Labelled.{label_said}
use Rattle.ev_part.proofs.operands.text_label.Goals as goal

pub returns-in-Some : goal.returns-in-Some
returns-in-Some c = label_said c.args.text.now c.args.token.now c.in_ok-name.name (Some c.in-Some.address) c.in_ok-name.ensures c.in-Some.ensures

pub returns-in-None : goal.returns-in-None
returns-in-None c = label_said c.args.text.now c.args.token.now c.in_ok-name.name None c.in_ok-name.ensures c.in-None.ensures
