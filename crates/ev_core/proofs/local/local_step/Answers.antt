-- The step's entry is told of the instruction that was decoded for the step.
use Rattle.std.proofs.Common.{rules}
use Rattle.ev_mem.specs.Mapped.{memory}
use Rattle.ev_proc.specs.ProcessorStep.{instruction_at}
use Rattle.ev_core.proofs.local.local_step.Goals as goal

pub returns : goal.returns
returns c =
    let same = c.without_length-instruction.ensures (instruction_at (memory c.args.mem.now).words c.args.cpu.now.rip) c.instruction_at-decoded.ensures in
    search rules
