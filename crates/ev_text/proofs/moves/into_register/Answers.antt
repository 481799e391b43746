use Rattle.std.proofs.Common.{sym}
use Rattle.ev_text.proofs.Surplus.{register_nothing, register_many, register_bad}
use Rattle.ev_text.proofs.moves.into_register.Goals as goal

pub returns-in_default : goal.returns-in_default
returns-in_default c = register_nothing c.args.d.now c.args.rest.now c.in_default.ensures.cases c.requires

pub returns-then-not-is_shaped : goal.returns-then-not-is_shaped
returns-then-not-is_shaped c =
    register_bad c.args.d.now c.args.rest.now c.in-Some.s.now c.in-Some.more.now c.kind_by_start-kind.result c.in-Some.ensures.cases.0 c.requires
    c.kind_by_start-kind.ensures (sym c.if-not-is_shaped.ensures)

pub returns : goal.returns
returns c =
    register_many c.args.d.now c.args.rest.now c.in-Some.s.now c.in-Some.more.now c.kind_by_start-kind.result c.surplus_move.result c.in-Some.ensures.cases.0
    c.if-is_empty.ensures c.requires c.kind_by_start-kind.ensures (sym c.if-not-is_shaped.ensures) c.surplus_move.ensures
