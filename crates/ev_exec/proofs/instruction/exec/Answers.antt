use Rattle.std.proofs.Common.{ap, ◌∙◌}
use Rattle.ev_isa.specs.declared.instruction.Ins.{Ins}
use Rattle.ev_mem.specs.Mapped.{memory}
use Rattle.ev_exec.specs.Exec.{exec}
use Rattle.ev_exec.specs.After.{after}
use Rattle.ev_exec.proofs.instruction.exec.Goals as goal

pub returns-in-ReadCr2 : goal.returns-in-ReadCr2
returns-in-ReadCr2 c =
    ap (λ (i : Ins). after c.args.cpu.now (memory c.args.mem.now) (exec c.args.cpu.now (memory c.args.mem.now) i c.args.next)) c.in-ReadCr2.is
    ∙ c.read_cr2.ensures (memory c.args.mem.now)

pub returns-in-WriteCr2 : goal.returns-in-WriteCr2
returns-in-WriteCr2 c =
    ap (λ (i : Ins). after c.args.cpu.now (memory c.args.mem.now) (exec c.args.cpu.now (memory c.args.mem.now) i c.args.next)) c.in-WriteCr2.is
    ∙ c.write_cr2.ensures (memory c.args.mem.now)
