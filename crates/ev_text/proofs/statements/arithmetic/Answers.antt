use Rattle.std.proofs.Common.{sym}
use Rattle.ev_text.proofs.Surplus.{alu_nothing, alu_alone, alu_many}
use Rattle.ev_text.proofs.statements.arithmetic.Goals as goal

pub returns-in_default : goal.returns-in_default
returns-in_default c = alu_nothing c.args.operation c.args.operands.now c.in_default.ensures.cases

pub returns-in_default-split_first : goal.returns-in_default-split_first
returns-in_default-split_first c =
    alu_alone c.args.operation c.args.operands.now c.in-Some.d.now c.in-Some.rest.now c.in-Some.ensures.cases.0 c.in_default-split_first.ensures.cases

pub returns : goal.returns
returns c =
    alu_many c.args.operation c.args.operands.now c.in-Some.d.now c.in-Some.rest.now c.in-Some-split_first.s.now c.in-Some-split_first.more.now
    c.surplus_store.result
    c.in-Some.ensures.cases.0 c.in-Some-split_first.ensures.cases.0 c.if-is_empty.ensures (rw (sym c.kind_by_start.ensures) c.surplus_store.ensures)
