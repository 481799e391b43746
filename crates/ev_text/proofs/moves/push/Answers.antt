use Rattle.std.proofs.Common.{sym}
use Rattle.ev_text.proofs.Surplus.{push_nothing, push_many, push_bad}
use Rattle.ev_text.proofs.moves.push.Goals as goal

pub returns-in_default : goal.returns-in_default
returns-in_default c = push_nothing c.args.operands.now c.in_default.ensures.cases

pub returns-then-not-is_shaped : goal.returns-then-not-is_shaped
returns-then-not-is_shaped c =
    push_bad c.args.operands.now c.in-Some.s.now c.in-Some.more.now c.kind_by_start-kind.result c.in-Some.ensures.cases.0 c.kind_by_start-kind.ensures
    (sym c.if-not-is_shaped.ensures)

pub returns : goal.returns
returns c =
    push_many c.args.operands.now c.in-Some.s.now c.in-Some.more.now c.kind_by_start-kind.result c.surplus_push.result c.in-Some.ensures.cases.0
    c.if-is_empty.ensures c.kind_by_start-kind.ensures (sym c.if-not-is_shaped.ensures) c.surplus_push.ensures
