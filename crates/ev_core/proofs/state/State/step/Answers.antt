use Rattle.std.proofs.Common.{◌∙◌, ◌<◌, ap, sym, subst, refl, length}
use Rattle.std.proofs.Math.ListN.{length-set}
use Rattle.ev_state.specs.Processor.{Processor}
use Rattle.ev_mem.specs.Mapped.{memory}
use Rattle.ev_layout.specs.Marks.{marks_in}
use Rattle.ev_core.specs.State.{Parts, Shows}
use Rattle.ev_core.specs.contracts.state.State.{the_view}
use Rattle.ev_core.proofs.Parts.{can_enter, can_deepen, read_cpu, moved_step, stepped_shows, stepped_frame, stepped_entry}
use Rattle.ev_core.proofs.state.State.step.Goals as goal

pub local_step-made-requires-clause-entries : goal.local_step-made-requires-clause-entries
local_step-made-requires-clause-entries g c = (can_enter _ _ c.args.p _ c.self.view_is c.requires.place c.requires.can c.index_mut-cpu.ensures.value).0

pub local_step-made-requires-clause-code : goal.local_step-made-requires-clause-code
local_step-made-requires-clause-code g c = (can_enter _ _ c.args.p _ c.self.view_is c.requires.place c.requires.can c.index_mut-cpu.ensures.value).1

pub local_step-made-requires-clause-depth : goal.local_step-made-requires-clause-depth
local_step-made-requires-clause-depth g c =
    can_deepen _ _ c.args.p _ c.self.view_is c.self.invariant.same c.requires.place c.requires.can c.index_mut-local.ensures.value

pub returns-clause-shows : goal.returns-clause-shows
returns-clause-shows g c n s h tells =
    let hv : Shows n (the_view c.self.inside) s = subst (λ v. Shows n v s) (sym c.self.view_is) h in
    let lc : c.args.p < length c.self.inside.cpus.items = subst (λ (v : Parts). c.args.p < length v.cpus) (sym c.self.view_is) c.requires.place in
    stepped_shows n c.args.p s _ (the_view c.self.inside) _ c.local_step-made.new.cpu c.local_step-made.new.local (memory c.local_step-made.new.mem)
    c.local_step-made.result
    hv tells (subst (λ k. c.args.p < k) hv.processors lc) (c.self.invariant.same ∙ hv.processors)
    (moved_step _ _ _ n c.args.p s _ _ _ _ _ _ c.self.view_is h c.self.invariant.same c.requires.place c.index_mut-cpu.ensures.value
    c.index_mut-local.ensures.value c.local_step-made.ensures)
    refl c.act.ensures.sent (length-set c.self.inside.cpus.items c.args.p _ ∙ hv.processors) refl c.count.ensures

pub returns-clause-frame : goal.returns-clause-frame
returns-clause-frame g c n s h =
    c.frame_of-frame.ensures
    ∙ stepped_frame n c.args.p s _ c.local_step-made.new.cpu c.local_step-made.new.local (memory c.local_step-made.new.mem) c.local_step-made.result
    (moved_step _ _ _ n c.args.p s _ _ _ _ _ _ c.self.view_is h c.self.invariant.same c.requires.place c.index_mut-cpu.ensures.value
    c.index_mut-local.ensures.value c.local_step-made.ensures)

pub returns-clause-entry : goal.returns-clause-entry
returns-clause-entry g c n s h =
    stepped_entry n c.args.p s (marks_in c.args.places.now) _ _
    c.local_step-made.new.cpu c.local_step-made.new.local (memory c.local_step-made.new.mem) c.local_step-made.result
    c.mark_at-mark.ensures (ap (λ (d : Processor). d.rip)
    (c.cpu.view_is ∙ read_cpu _ _ n c.args.p s _ c.self.view_is h c.requires.place c.index_mut-cpu.ensures.value))
    (moved_step _ _ _ n c.args.p s _ _ _ _ _ _ c.self.view_is h c.self.invariant.same c.requires.place c.index_mut-cpu.ensures.value
    c.index_mut-local.ensures.value c.local_step-made.ensures)
