use Rattle.std.proofs.Common.{sym, ◌∙◌, arith}
use Rattle.ev_accept.proofs.MissingSides.{interrupt_past, interrupt_found, no_interrupt}
use Rattle.ev_accept.proofs.missing.missing_interrupt_side.Goals as goal

pub returns-in-Some : goal.returns-in-Some
returns-in-Some c =
    sym (interrupt_found c.args.image.now c.loop-n.n c.in-Some.side c.loop-n-test.true (sym c.missing_used_side.ensures ∙ c.in-Some.is)) ∙ c.loop-n.invariant

pub loop-n-preserved : goal.loop-n-preserved
loop-n-preserved c =
    sym (interrupt_past c.args.image.now c.loop-n.n c.loop-n-test.true (sym c.missing_used_side.ensures ∙ c.in_default.is)) ∙ c.loop-n.invariant

pub returns : goal.returns
returns c = sym (no_interrupt c.args.image.now c.loop-n.n (omega arith)) ∙ c.loop-n.invariant
