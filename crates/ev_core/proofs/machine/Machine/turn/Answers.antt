use Rattle.std.proofs.Common.{◌<◌, ◌+◌, ◌++◌, ◌∙◌, ap, sym, subst, length, arith}
use Rattle.std.specs.Prelude.{◌^◌}
use Rattle.ev_abstract.specs.Run.{run}
use Rattle.ev_core.specs.Run.{MachineView, IsRun, IsStandingAs}
use Rattle.ev_core.specs.contracts.machine.Machine.{the_view}
use Rattle.ev_core.proofs.Standing.{lt, tell, few_frames, edges_tell, can_step_after}
use Rattle.ev_core.proofs.Turns.{last_tells, turn_made, as_run, run_more, turn_entry, turn_frames}
use Rattle.ev_core.proofs.machine.Machine.turn.Goals as goal

pub step-shown-requires-clause-can : goal.step-shown-requires-clause-can
step-shown-requires-clause-can g c =
    let h = c.self.invariant in
    let within = subst (λ (v : MachineView). c.args.p < length v.parts.cpus) (sym c.self.view_is) c.requires.place in
    can_step_after _ h c.args.p within 1024 _ (c.settle.ensures.settled _ _ h.so.at.shows (edges_tell _ h c.args.p within))

pub keep-requires : goal.keep-requires
keep-requires g c =
    let h = c.self.invariant in
    let within = subst (λ (v : MachineView). c.args.p < length v.parts.cpus) (sym c.self.view_is) c.requires.place in
    let e = ap length (c.settle.ensures.frames _ _ h.so.at.shows (edges_tell _ h c.args.p within)) in
    let few = few_frames _ h c.args.p within 1024 in
    omega arith

pub returns-clause-turns : goal.returns-clause-turns
returns-clause-turns g c mode image s m so =
    let here : IsStandingAs mode image s m (the_view c.self.inside) = subst (λ v. IsStandingAs mode image s m v) (sym c.self.view_is) so in
    let within : c.args.p < image.processors = subst (λ k. c.args.p < k) so.at.shows.processors c.requires.place in
    let tells = tell mode image s m _ here c.args.p within in
    let shows = c.settle.ensures.settled _ _ here.at.shows tells in
    let edges = c.settle.ensures.frames _ _ here.at.shows tells in
    let few = subst (λ (v : MachineView). v.parts.totals.steps < 2 ^ 62) (sym c.self.view_is) c.requires.count in
    turn_made mode image s m _ here c.args.p within few _ _
    (c.step-shown.ensures.shows _ _ shows (last_tells mode image s m _ here c.args.p within))
    (c.step-shown.ensures.entry _ _ shows) (c.keep.ensures ∙ (λ k. edges k ++ c.step-shown.ensures.frame _ _ shows k))

pub invariant_of-self : goal.invariant_of-self
invariant_of-self g c =
    let h = c.self.invariant in
    let within = subst (λ (v : MachineView). c.args.p < length v.parts.cpus) (sym c.self.view_is) c.requires.place in
    let tells = edges_tell _ h c.args.p within in
    let shows = c.settle.ensures.settled _ _ h.so.at.shows tells in
    let edges = c.settle.ensures.frames _ _ h.so.at.shows tells in
    let few = subst (λ (v : MachineView). v.parts.totals.steps < 2 ^ 62) (sym c.self.view_is) c.requires.count in
    let made = turn_made h.mode h.image h.system h.machine _ h.so c.args.p (lt _ h c.args.p within) few
    (record { entry = c.step-shown.result.entry; frames = c.keep.new.frames }) _
    (c.step-shown.ensures.shows _ _ shows (last_tells h.mode h.image h.system h.machine _ h.so c.args.p (lt _ h c.args.p within)))
    (c.step-shown.ensures.entry _ _ shows) (c.keep.ensures ∙ (λ k. edges k ++ c.step-shown.ensures.frame _ _ shows k)) in
    record { mode = h.mode; image = h.image; system = _; machine = _; so = made.so }

pub returns-clause-run : goal.returns-clause-run
returns-clause-run g c mode image script h =
    let r : IsRun mode image script (the_view c.self.inside) = subst (λ v. IsRun mode image script v) (sym c.self.view_is) h in
    let within = subst (λ (v : MachineView). c.args.p < length v.parts.cpus) (sym c.self.view_is) c.requires.place in
    run_more mode image script _ r c.args.p within _
    (returns-clause-turns g c mode image _ (run image script) (as_run mode image script _ h c.args.p c.requires.place)).so.at.shows

pub returns-clause-entry : goal.returns-clause-entry
returns-clause-entry g c mode image script h =
    turn_entry mode image script _ h c.args.p c.requires.place _
    (returns-clause-turns g c mode image _ (run image script) (as_run mode image script _ h c.args.p c.requires.place)).entry

pub returns-clause-frames : goal.returns-clause-frames
returns-clause-frames g c mode image script h =
    turn_frames mode image script _ h c.args.p c.requires.place _
    (returns-clause-turns g c mode image _ (run image script) (as_run mode image script _ h c.args.p c.requires.place)).frames

pub returns-clause-cost : goal.returns-clause-cost
returns-clause-cost g c = record {
  made = c.settle.ensures.cost.made + 1;
  few = let f = c.settle.ensures.cost.few in omega arith;
  counted = let f = c.settle.ensures.cost.counted in omega arith;
  totals = let f = c.settle.ensures.cost.totals in let w = ap (λ (v : MachineView). v.parts.totals.steps) c.self.view_is in omega arith;
}

pub returns-clause-least : goal.returns-clause-least
returns-clause-least g c = let f = c.settle.ensures.cost.counted in omega arith
