use Rattle.std.proofs.Common.{◌∙◌}
use Rattle.ev_layout.specs.Marks.{marks_in}
use Rattle.ev_core.proofs.Parts.{visible_there}
use Rattle.ev_core.proofs.state.State.is_visible.Goals as goal

pub returns : goal.returns
returns c n s h =
    c.is_visible.ensures
    ∙ visible_there (marks_in c.args.places.now) _ _ n c.args.p s _ _ c.self.view_is h c.self.invariant.same c.requires c.index-cpu.ensures
    c.index-local.ensures
