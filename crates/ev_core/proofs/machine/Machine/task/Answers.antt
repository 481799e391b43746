use Rattle.std.proofs.Common.{◌<◌, ◌+◌, ap, sym, ◌∙◌, subst}
use Rattle.std.specs.Prelude.{◌==◌, unwrap_or}
use Rattle.ev_abstract.specs.Machine as abstract
use Rattle.ev_mem.specs.Mapped.{memory}
use Rattle.ev_mem.specs.Memory.{Memory}
use Rattle.ev_listing.specs.AddressMap.{pcpu, task_words}
use Rattle.ev_state.specs.Processor.{Processor}
use Rattle.ev_core.specs.State.{Parts}
use Rattle.ev_core.specs.Run.{MachineView}
use Rattle.ev_core.specs.Task.{IsTaskView, saved_view}
use Rattle.ev_core.specs.declared.machine.Machine.TheInside.{Inside}
use Rattle.ev_core.proofs.Parts.{read_cpu}
use Rattle.ev_core.proofs.Standing.{base_is, running_is, waiting_is}
use Rattle.ev_core.proofs.machine.Machine.task.Goals as goal

pub returns-then-is_current : goal.returns-then-is_current
returns-then-is_current c mode image s m so none there =
    let is = ap (λ (x : Inside). x.state) c.self-inside.view_is ∙ ap (λ (v : MachineView). v.parts) c.self.view_is in
    let within = subst (λ k. c.args.p < k) so.at.shows.processors c.requires.place in
    let cpu_is = read_cpu _ _ image.processors c.args.p s _ is so.at.shows c.requires.place c.index-cpu.ensures in
    let memory_is = ap (λ (v : Parts). memory v.mem) is ∙ so.at.shows.memory in
    let base = c.unwrap_or-gs.ensures ∙ ap (λ o. unwrap_or o 0) (c.task_base.ensures ∙ base_is mode image s m _ so c.args.p within none c.args.i
    c.requires.task _ cpu_is there) in
    let current = ap (λ (w : Memory). w.words (pcpu c.args.p + 0x18) == task_words c.args.p c.args.i) (sym memory_is) ∙ sym c.is_current.ensures
    ∙ c.if-is_current.true in
    running_is mode image s m _ so c.args.p within none c.args.i c.requires.task _ cpu_is there current _
    (ap (λ (d : Processor). d.regs) c.cpu.view_is) (ap (λ (d : Processor). d.rip) c.cpu.view_is) (ap (λ (d : Processor). d.flags) c.cpu.view_is) base

pub returns : goal.returns
returns c mode image s m so none there =
    let is = ap (λ (x : Inside). x.state) c.self-inside.view_is ∙ ap (λ (v : MachineView). v.parts) c.self.view_is in
    let within = subst (λ k. c.args.p < k) so.at.shows.processors c.requires.place in
    let cpu_is = read_cpu _ _ image.processors c.args.p s _ is so.at.shows c.requires.place c.index-cpu.ensures in
    let memory_is = ap (λ (v : Parts). memory v.mem) is ∙ so.at.shows.memory in
    let base = c.unwrap_or-gs.ensures ∙ ap (λ o. unwrap_or o 0) (c.task_base.ensures ∙ base_is mode image s m _ so c.args.p within none c.args.i
    c.requires.task _ cpu_is there) in
    let current = ap (λ (w : Memory). w.words (pcpu c.args.p + 0x18) == task_words c.args.p c.args.i) (sym memory_is) ∙ sym c.is_current.ensures
    ∙ c.if-is_current.false in
    let view = c.saved_task.ensures ∙ (λ j. saved_view (memory_is j).words (c.area_of.ensures j) c.unwrap_or-gs.result) in
    subst (λ v. IsTaskView v ((abstract.processor m c.args.p).tasks c.args.i)) (sym view)
    (waiting_is mode image s m _ so c.args.p within none c.args.i c.requires.task _ cpu_is there current _ base)
