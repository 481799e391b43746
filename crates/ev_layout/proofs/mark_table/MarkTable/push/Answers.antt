-- The index has the first mark of each address behind a push.
use Rattle.std.proofs.Common.{sym, subst}
use Rattle.ev_layout.specs.Index.{IsIndex}
use Rattle.ev_layout.proofs.Index.{grows, stays}
use Rattle.ev_layout.proofs.mark_table.MarkTable.push.Goals as goal

pub invariant_of-self-then-contains_key : goal.invariant_of-self-then-contains_key
invariant_of-self-then-contains_key c =
    subst (λ ms. IsIndex ms c.self.inside.index) (sym c.in_ok-push.ensures.items)
    (stays c.self.inside.marks.items c.self.inside.index c.args.address c.args.mark c.self.invariant (sym c.if-contains_key.ensures))

pub invariant_of-self-in-Ok : goal.invariant_of-self-in-Ok
invariant_of-self-in-Ok c =
    subst (λ ms. IsIndex ms c.insert.new.self) (sym c.in_ok-push.ensures.items)
    (grows c.self.inside.marks.items c.self.inside.index c.insert.new.self c.args.address c.args.mark c.self.invariant (sym c.if-contains_key.ensures)
    c.in-Ok.ensures.updates.0)
