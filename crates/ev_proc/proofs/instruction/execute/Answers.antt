use Rattle.ev_mem.specs.Mapped.{memory}
use Rattle.ev_proc.specs.Conditions.{left}
use Rattle.ev_exec.specs.Exec.{exec}
use Rattle.ev_proc.proofs.Raised.{exec_raises}
use Rattle.ev_proc.proofs.Executions.{raised_event, raised_to}
use Rattle.ev_proc.proofs.instruction.execute.Goals as goal

pub fault-requires-clause-event : goal.fault-requires-clause-event
fault-requires-clause-event c = raised_event c.args.cpu.now c.exec.new.cpu (memory c.args.mem.now) (memory c.exec.new.mem) c.in-Raise.e
    (exec c.args.cpu.now (memory c.args.mem.now) c.args.i.now c.args.next) c.in-Raise.ensures
    (exec_raises c.args.cpu.now (memory c.args.mem.now) c.args.i.now c.args.next)

pub returns-in-Raise-clause-is : goal.returns-in-Raise-clause-is
returns-in-Raise-clause-is c = λ nmi.
    raised_to (left c.fault.new.cpu c.args.apic.now (memory c.fault.new.mem) nmi c.fault.result) c.args.cpu.now c.exec.new.cpu c.args.apic.now
    (memory c.args.mem.now) (memory c.exec.new.mem) nmi c.args.next c.args.i.now c.in-Raise.e
    (exec c.args.cpu.now (memory c.args.mem.now) c.args.i.now c.args.next) c.in-Raise.ensures (c.fault.ensures.is c.args.apic.now nmi)
