use Rattle.std.proofs.Common.{◌≡◌, Option, None, sym, ap, ◌∙◌}
use Rattle.ev_event.specs.declared.event.Event.{Event}
use Rattle.ev_state.specs.Processor.{Processor}
use Rattle.ev_mem.specs.Mapped.{memory}
use Rattle.ev_proc.specs.ProcessorStep.{fault}
use Rattle.ev_state.specs.Msr.{written, Msrs}
use Rattle.ev_proc.specs.ProcessorStep.{after_write}
use Rattle.ev_proc.proofs.Specials.{with_msrs}
use Rattle.ev_proc.proofs.model_specific.write_processor_msr.Goals as goal

pub returns-in-Err-clause-is : goal.returns-in-Err-clause-is
returns-in-Err-clause-is c = λ a nmi.
    let o : written c.args.cpu.now.msrs c.args.n c.args.v ≡ None = ap (λ (p : Processor). written p.msrs c.args.n c.args.v) (sym c.cpu.view_is)
    ∙ c.in-Err.ensures.err in
    let unchanged : c.write_msr.new.self ≡ c.args.cpu.now.msrs = c.in-Err.ensures.unchanged ∙ ap (λ (p : Processor). p.msrs) c.cpu.view_is in
    c.fault.ensures.is a nmi
    ∙ ap (λ (p : Processor). fault (with_msrs p c.write_msr.new.self) a (memory c.args.mem.now) nmi c.gp.result) c.cpu.view_is
    ∙ ap (λ (x : Msrs). fault (with_msrs c.args.cpu.now x) a (memory c.args.mem.now) nmi c.gp.result) unchanged
    ∙ ap (λ (e : Event). fault c.args.cpu.now a (memory c.args.mem.now) nmi e) c.gp.ensures
    ∙ ap (λ (x : Option Msrs). after_write c.args.cpu.now a (memory c.args.mem.now) nmi c.args.next x) (sym o)
