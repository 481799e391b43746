use Rattle.std.proofs.Common.{◌≡◌, ◌<◌, ◌≤◌, ◌+◌, ◌^◌, arith, ap}
use Rattle.ev_state.specs.Processor.{Processor}
use Rattle.ev_mem.specs.Mapped.{memory}
use Rattle.ev_idt.proofs.Places.{idt_fits, tss_fits, tss_stays}
use Rattle.ev_idt.proofs.delivery.deliver_idt.Goals as goal

pub gate_at-gate-requires : goal.gate_at-gate-requires
gate_at-gate-requires c =
    let same : c.cpu.inside.idt ≡ c.args.cpu.now.idt = ap (λ (p : Processor). p.idt) c.cpu.view_is in
    let fits : c.args.cpu.now.idt + 4096 ≤ 2 ^ 64 = idt_fits c.args.cpu.now (memory c.args.mem.now) c.requires.tables in
    omega arith

pub through_gate-requires-clause-tss : goal.through_gate-requires-clause-tss
through_gate-requires-clause-tss c =
    let same : c.note_fault.new.self.tss ≡ c.args.cpu.now.tss = tss_stays c.args.cpu.now c.note_fault.new.self c.args.e.now c.note_fault.ensures in
    let fits : c.args.cpu.now.tss + 84 < 2 ^ 64 = tss_fits c.args.cpu.now (memory c.args.mem.now) c.requires.tables in
    omega arith
