use Rattle.std.proofs.Common.{◌∙◌, sym}
use Rattle.ev_script.proofs.LineLaws.{turn_forms, edge_forms, arrive_forms, accept_forms}
use Rattle.ev_script.proofs.line.line_of_word.Goals as goal

pub returns-in-Turn-clause-value : goal.returns-in-Turn-clause-value
returns-in-Turn-clause-value c = rw c.in-Turn.is (c.turn.ensures.value ∙ sym (turn_forms c.args.image.now.processors _ _))

pub returns-in-Edge-clause-value : goal.returns-in-Edge-clause-value
returns-in-Edge-clause-value c = rw c.in-Edge.is (c.edge.ensures.value ∙ sym (edge_forms c.args.image.now.processors _ _))

pub returns-in-Arrive-clause-value : goal.returns-in-Arrive-clause-value
returns-in-Arrive-clause-value c = rw c.in-Arrive.is (c.arrive.ensures.value ∙ sym (arrive_forms c.args.image.now.processors _ _))

pub returns-in-Accept-clause-value : goal.returns-in-Accept-clause-value
returns-in-Accept-clause-value c = rw c.in-Accept.is (c.accept.ensures.value ∙ sym (accept_forms c.args.image.now.processors _ _))
