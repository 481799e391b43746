use Rattle.std.proofs.Common.{◌+◌, ◌^◌, ◌≤◌, ap, arith, ◌∙◌}
use Rattle.ev_mem.specs.Mapped.{memory}
use Rattle.ev_mem.proofs.Slots.{none_past}
use Rattle.ev_mem.proofs.mem.Mem.word_after.Goals as goal

pub returns-in-None : goal.returns-in-None
returns-in-None c =
    let h : 2 ^ 64 ≤ c.args.a + c.args.distance = omega (arith, c.in-None.ensures {u = tt}) in
    none_past _ (c.args.a + c.args.distance) c.self.invariant.mapped h ∙ ap (λ m. (memory m).words (c.args.a + c.args.distance)) c.self.view_is
