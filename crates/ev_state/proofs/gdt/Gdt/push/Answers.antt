use Rattle.std.proofs.Common.{ap, ◌∙◌}
use Rattle.ev_state.specs.Descriptors.{base_of}
use Rattle.ev_state.proofs.Kept.{one_more}
use Rattle.ev_state.proofs.gdt.Gdt.push.Goals as goal

pub invariant_of-self : goal.invariant_of-self
invariant_of-self c = rw c.push.ensures.items
    (one_more _ _ _ c.self.invariant c.requires.low (ap (λ v. base_of v c.args.selector) c.self.view_is ∙ c.requires.once))
