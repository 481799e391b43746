use Rattle.std.proofs.Common.{ℕ, sym, ap, ◌∙◌}
use Rattle.ev_mem.specs.Mapped.{memory}
use Rattle.ev_proc.specs.ProcessorStep.{write_msr}
use Rattle.ev_proc.proofs.model_specific.write_msr.Goals as goal

pub returns-in-2059-clause-is : goal.returns-in-2059-clause-is
returns-in-2059-clause-is c = λ nmi.
    c.end_interrupt.ensures.is nmi ∙ ap (λ (n : ℕ). write_msr c.args.cpu.now c.args.apic.now (memory c.args.mem.now) nmi c.args.next n c.args.v)
    (sym c.in-2059.is)
