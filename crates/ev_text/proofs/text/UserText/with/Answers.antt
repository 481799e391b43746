use Rattle.std.proofs.Common.{◌<◌, ◌≤◌, ◌+◌, sym, arith}
use Rattle.ev_asm.specs.Assembly.{size}
use Rattle.ev_text.proofs.TextLaws.{twice, too_large, grown, stands}
use Rattle.ev_text.proofs.text.UserText.with.Goals as goal

pub returns-then-has_label_of : goal.returns-then-has_label_of
returns-then-has_label_of c =
    rw (sym c.self.view_is) (twice c.self.inside.stmts.items c.self.inside.labels c.self.inside.size c.args.s c.self.invariant c.if-has_label_of.ensures)

pub returns-then-end-gt-TEXT_LIMIT : goal.returns-then-end-gt-TEXT_LIMIT
returns-then-end-gt-TEXT_LIMIT c =
    let l : 65520 < c.self.inside.size + size c.args.s = omega (arith, c.size.ensures.is) in
    rw (sym c.self.view_is) (too_large c.self.inside.stmts.items c.self.inside.labels c.self.inside.size c.args.s c.self.invariant c.if-has_label_of.ensures l)

pub invariant_of-result : goal.invariant_of-result
invariant_of-result c =
    let l : c.self.inside.size + size c.args.s ≤ 65520 = omega (arith, c.size.ensures.is) in
    rw (c.in-Ok-push.ensures.items, c.in-Ok.ensures, c.size.ensures.is)
    (stands c.self.inside.stmts.items c.self.inside.labels c.self.inside.size c.args.s c.self.invariant c.requires l)

pub returns-in-Ok-push : goal.returns-in-Ok-push
returns-in-Ok-push c =
    let l : c.self.inside.size + size c.args.s ≤ 65520 = omega (arith, c.size.ensures.is) in
    rw (sym c.self.view_is, c.in-Ok-push.ensures.items)
    (grown c.self.inside.stmts.items c.self.inside.labels c.self.inside.size c.args.s c.self.invariant c.if-has_label_of.ensures l)
