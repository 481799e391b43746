use Rattle.std.proofs.Common.{◌<◌, ap, sym, ◌∙◌, subst, arith}
use Rattle.std.proofs.lemmas.Bool.{le-ltb}
use Rattle.std.specs.Prelude.{is_some}
use Rattle.ev_relation.proofs.Domains.{four_tasks}
use Rattle.ev_core.specs.Run.{MachineView}
use Rattle.ev_core.specs.declared.machine.Machine.TheInside.{Inside}
use Rattle.ev_core.proofs.Parts.{read_cpu}
use Rattle.ev_core.proofs.Standing.{has_is}
use Rattle.ev_core.proofs.machine.Machine.has_task.Goals as goal

pub returns-then-i-lt4 : goal.returns-then-i-lt4
returns-then-i-lt4 c mode image s m so none =
    let is = ap (λ (x : Inside). x.state) c.self-inside.view_is ∙ ap (λ (v : MachineView). v.parts) c.self.view_is in
    let within = subst (λ k. c.args.p < k) so.at.shows.processors c.requires.place in
    let cpu_is = read_cpu _ _ image.processors c.args.p s _ is so.at.shows c.requires.place c.index.ensures in
    c.is_some.ensures ∙ ap is_some c.task_base.ensures ∙ has_is mode image s m _ so c.args.p within none c.args.i c.if-i-lt4.true _ cpu_is

pub returns-else-i-lt4 : goal.returns-else-i-lt4
returns-else-i-lt4 c mode image s m so none =
    let within = subst (λ k. c.args.p < k) so.at.shows.processors c.requires.place in
    let few = four_tasks image so.can.image_is c.args.p within in
    let past = c.if-i-lt4.false in le-ltb c.args.i 4 (omega arith) ∙ sym (le-ltb c.args.i _ (omega arith))
