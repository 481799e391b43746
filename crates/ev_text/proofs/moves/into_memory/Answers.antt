use Rattle.std.proofs.Common.{sym}
use Rattle.ev_text.proofs.Surplus.{memory_nothing, memory_many}
use Rattle.ev_text.proofs.moves.into_memory.Goals as goal

pub returns-in_default : goal.returns-in_default
returns-in_default c = memory_nothing c.args.m.now c.args.rest.now c.in_default.ensures.cases c.requires.first c.requires.shaped

pub returns : goal.returns
returns c =
    memory_many c.args.m.now c.args.rest.now c.in-Some.s.now c.in-Some.more.now c.surplus_store.result c.in-Some.ensures.cases.0 c.if-is_empty.ensures
    c.requires.first c.requires.shaped (rw (sym c.kind_by_start.ensures) c.surplus_store.ensures)
