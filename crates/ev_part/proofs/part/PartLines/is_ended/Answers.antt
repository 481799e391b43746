use Rattle.std.proofs.Common.{◌≡◌, suc, ◌-◌, length, sym, subst, List, arith}
use Rattle.ev_part.specs.declared.line.BodyLine.{BodyLine}
use Rattle.ev_part.specs.PartItems.{PartView, ends_part, is_ended}
use Rattle.ev_part.proofs.Walks.{last_line}
use Rattle.ev_part.proofs.part.PartLines.is_ended.Goals as goal

pub returns-in-Some : goal.returns-in-Some
returns-in-Some c =
    let k : suc (length c.deref.result.now - 1) ≡ length c.deref.result.now = omega (arith, c.in-Some.ensures.item.3.0) in
    let e = last_line c.deref.result.now (length c.deref.result.now - 1) c.in-Some.line.now c.in-Some.line.now k c.in-Some.ensures.item.1 in
    rw (c.ends_part.ensures, sym c.self.view_is) (subst (λ (ls : List BodyLine). ends_part c.in-Some.line.now ≡ is_ended ls) c.deref.ensures.value e)
