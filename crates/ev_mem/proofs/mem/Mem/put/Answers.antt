use Rattle.std.proofs.Common.{◌≡◌, Some, ap, ◌∙◌}
use Rattle.ev_mem.specs.Mapped.{memory, slot_in}
use Rattle.ev_mem.specs.Access.{with_word}
use Rattle.ev_mem.proofs.Slots.{written}
use Rattle.ev_mem.proofs.mem.Mem.put.Goals as goal

pub returns : goal.returns
returns c =
    let e : slot_in c.self.inside.regions.items c.args.a ≡ Some c.args.i = cc (ap (λ m. slot_in m.regions c.args.a) c.self.view_is, c.requires.there) in
    written c.self.inside.regions.items c.self.inside.words.items c.args.a c.args.v c.args.i c.self.invariant.mapped c.requires.aligned e
    ∙ ap (λ m. with_word (memory m) c.args.a c.args.v) c.self.view_is
