use Rattle.std.proofs.Common.{◌<◌, ◌∙◌, ap, subst}
use Rattle.ev_core.specs.Run.{MachineView}
use Rattle.ev_core.specs.declared.machine.Machine.TheInside.{Inside}
use Rattle.ev_core.proofs.Parts.{read_local}
use Rattle.ev_core.proofs.Standing.{depth_is}
use Rattle.ev_core.proofs.machine.Machine.depth.Goals as goal

pub returns : goal.returns
returns c mode image s m so =
    let is = ap (λ (x : Inside). x.state) c.self-inside.view_is ∙ ap (λ (v : MachineView). v.parts) c.self.view_is in
    depth_is mode image s m _ so c.args.p (subst (λ k. c.args.p < k) so.at.shows.processors c.requires) _
    (read_local _ _ image.processors c.args.p s _ is so.at.shows c.self-inside.invariant.same c.requires c.index.ensures)
