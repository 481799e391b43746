use Rattle.std.proofs.Common.{◌≡◌, ℕ, ap, ◌∙◌}
use Rattle.ev_state.specs.Processor.{Processor}
use Rattle.ev_mem.specs.Mapped.{memory}
use Rattle.ev_proc.specs.ProcessorStep.{delivering}
use Rattle.ev_proc.proofs.boundary.deliver_at_boundary.Goals as goal

pub returns-clause-is : goal.returns-clause-is
returns-clause-is c = λ a nmi.
    let same : c.cpu.inside.rip ≡ c.args.cpu.now.rip = ap (λ (p : Processor). p.rip) c.cpu.view_is in
    c.deliver.ensures.is a nmi ∙ ap (λ (x : ℕ). delivering c.args.cpu.now a (memory c.args.mem.now) nmi c.args.e.now x) same
