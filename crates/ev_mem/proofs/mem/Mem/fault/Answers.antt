use Rattle.std.proofs.Common.{sym, ◌∙◌}
use Rattle.ev_mem.specs.Memory.{present_in}
use Rattle.ev_mem.specs.Mapped.{memory}
use Rattle.ev_mem.specs.Access.{access_of}
use Rattle.ev_mem.proofs.Spans.{fault_held, fault_unheld}
use Rattle.ev_mem.proofs.mem.Mem.fault.Goals as goal

pub returns-in-Some : goal.returns-in-Some
returns-in-Some c =
    c.fault_in.ensures ∙ sym (fault_held c.args.self.now (access_of c.args.who c.args.write) c.args.a c.in-Some.span c.in-Some.ensures)

pub returns-in-None : goal.returns-in-None
returns-in-None c =
    sym (fault_unheld c.args.self.now (access_of c.args.who c.args.write) c.args.a c.in-None.ensures ∙ c.absent.ensures (present_in (memory c.args.self.now)))
