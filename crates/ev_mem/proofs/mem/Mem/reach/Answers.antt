use Rattle.std.proofs.Common.{refl, sym, ◌∙◌}
use Rattle.ev_mem.specs.Memory.{present_in}
use Rattle.ev_mem.specs.Mapped.{memory}
use Rattle.ev_mem.specs.Access.{access_of}
use Rattle.ev_mem.proofs.Spans.{fault_held, fault_unheld}
use Rattle.ev_mem.proofs.mem.Mem.reach.Goals as goal

pub returns-in-Some-fault_in-clause-err : goal.returns-in-Some-fault_in-clause-err
returns-in-Some-fault_in-clause-err c =
    (refl, fault_held c.args.self.now (access_of c.args.who c.args.write) c.args.a c.in-Some.span c.in-Some.ensures ∙ sym c.in-Some-fault_in.ensures)

pub returns-in-None-fault_in-clause-ok : goal.returns-in-None-fault_in-clause-ok
returns-in-None-fault_in-clause-ok c = (
  fault_held c.args.self.now (access_of c.args.who c.args.write) c.args.a c.in-Some.span c.in-Some.ensures ∙ sym c.in-None-fault_in.ensures,
  c.place.ensures.is,
  c.place.ensures.within,
)

pub returns-in-None-clause-err : goal.returns-in-None-clause-err
returns-in-None-clause-err c = (
  refl,
  fault_unheld c.args.self.now (access_of c.args.who c.args.write) c.args.a c.in-None.ensures ∙ c.absent-code.ensures (present_in (memory c.args.self.now)),
)
