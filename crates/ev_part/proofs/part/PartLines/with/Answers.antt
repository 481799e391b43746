use Rattle.std.proofs.Common.{◌≡◌, ◌<◌, ◌≤◌, ◌+◌, sym, arith}
use Rattle.ev_part.specs.PartItems.{PartView, item_count}
use Rattle.ev_part.proofs.PartLaws.{twice, too_many, grown, stands}
use Rattle.ev_part.proofs.part.PartLines.with.Goals as goal

pub returns-then-is_given : goal.returns-then-is_given
returns-then-is_given c = rw (sym c.self.view_is) (twice _ c.self.inside.labels c.self.inside.next c.args.line c.self.invariant c.if-is_given.ensures)

pub returns-then-end-gt-ITEM_LIMIT : goal.returns-then-end-gt-ITEM_LIMIT
returns-then-end-gt-ITEM_LIMIT c =
    let l : 256 < c.self.inside.next + item_count c.args.line = omega (arith, c.item_count.ensures) in
    rw (sym c.self.view_is) (too_many _ c.self.inside.labels c.self.inside.next c.args.line c.self.invariant c.if-is_given.ensures l)

pub invariant_of-result : goal.invariant_of-result
invariant_of-result c =
    let l : c.self.inside.next + item_count c.args.line ≤ 256 = omega (arith, c.item_count.ensures) in
    rw (c.in-Ok-push.ensures.items, c.in-Ok.ensures, c.item_count.ensures)
    (stands _ c.self.inside.labels c.self.inside.next c.args.line c.self.invariant l)

pub returns-in-Ok-push : goal.returns-in-Ok-push
returns-in-Ok-push c =
    let l : c.self.inside.next + item_count c.args.line ≤ 256 = omega (arith, c.item_count.ensures) in
    rw (sym c.self.view_is, c.in-Ok-push.ensures.items)
    (grown _ c.self.inside.labels c.self.inside.next c.args.line c.self.invariant c.if-is_given.ensures l)
