use Rattle.std.proofs.Common.{◌≡◌, ◌^◌, ℕ, Ok, Err, ap, ◌∙◌}
use Rattle.ev_event.specs.declared.event.Event.{Event}
use Rattle.ev_state.specs.Processor.{Processor, register, with_register}
use Rattle.ev_mem.specs.Mapped.{memory}
use Rattle.ev_proc.specs.ProcessorStep.{fault, ran}
use Rattle.std.proofs.Common.{◌/◌}
use Rattle.ev_exec.specs.Exec.{at_next}
use Rattle.ev_state.specs.Msr.{msr, or_gp}
use Rattle.ev_proc.specs.ProcessorStep.{low32}
use Rattle.ev_proc.proofs.Specials.{read_some, read_none, is_rdmsr}
use Rattle.ev_proc.proofs.model_specific.rdmsr.Goals as goal

pub returns-in-Ok-clause-is : goal.returns-in-Ok-clause-is
returns-in-Ok-clause-is c = λ a nmi.
    let o : Ok c.in-Ok.v ≡ or_gp (msr c.args.cpu.now.msrs (low32 (register c.args.cpu.now 1))) =
    c.in-Ok.ensures ∙ ap (λ (p : Processor). or_gp (msr p.msrs c.low_half-n.result)) c.cpu.view_is
    ∙ ap (λ (n : ℕ). or_gp (msr c.args.cpu.now.msrs n)) c.low_half-n.ensures in
    let went : c.go_on.new.cpu ≡ at_next (with_register (with_register c.args.cpu.now 0 (low32 c.in-Ok.v)) 2 (c.in-Ok.v / 2 ^ 32)) c.args.next =
    c.go_on.ensures ∙ ap (λ (p : Processor). at_next p c.args.next) c.set_halves.ensures in
    ap (λ (p : Processor). ran p a (memory c.args.mem.now).words nmi) went
    ∙ read_some c.args.cpu.now a (memory c.args.mem.now) nmi c.args.next (msr c.args.cpu.now.msrs (low32 (register c.args.cpu.now 1))) c.in-Ok.v o
    ∙ is_rdmsr c.args.cpu.now a (memory c.args.mem.now) nmi c.args.next

pub returns-in-Err-clause-is : goal.returns-in-Err-clause-is
returns-in-Err-clause-is c = λ a nmi.
    let o : Err c.in-Err.field-0 ≡ or_gp (msr c.args.cpu.now.msrs (low32 (register c.args.cpu.now 1))) =
    c.in-Err.ensures ∙ ap (λ (p : Processor). or_gp (msr p.msrs c.low_half-n.result)) c.cpu.view_is
    ∙ ap (λ (n : ℕ). or_gp (msr c.args.cpu.now.msrs n)) c.low_half-n.ensures in
    c.fault.ensures.is a nmi ∙ ap (λ (e : Event). fault c.args.cpu.now a (memory c.args.mem.now) nmi e) c.gp.ensures
    ∙ read_none c.args.cpu.now a (memory c.args.mem.now) nmi c.args.next (msr c.args.cpu.now.msrs (low32 (register c.args.cpu.now 1))) c.in-Err.field-0 o
    ∙ is_rdmsr c.args.cpu.now a (memory c.args.mem.now) nmi c.args.next
