use Rattle.std.proofs.Common.{None, sym}
use Rattle.ev_mem.proofs.Spans.{slot_is}
use Rattle.ev_mem.proofs.mem.Mem.slot.Goals as goal

pub returns-in-None-clause-is : goal.returns-in-None-clause-is
returns-in-None-clause-is c = sym (slot_is c.args.self.now.regions c.args.a None c.in-None.ensures)
