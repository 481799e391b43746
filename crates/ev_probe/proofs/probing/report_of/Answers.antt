use Rattle.std.proofs.Common.{◌∙◌, ap, sym}
use Rattle.ev_event.specs.declared.event.Event.{Event}
use Rattle.ev_mem.specs.Mapped.{memory}
use Rattle.ev_probe.specs.declared.line.Op.{Op}
use Rattle.ev_probe.specs.ProbeLine.{event_of}
use Rattle.ev_probe.specs.Told.{told}
use Rattle.ev_probe.specs.Answer.{told_from}
use Rattle.ev_probe.proofs.Processors.{deliverable, entries, is_delivery, vector_fits}
use Rattle.ev_probe.proofs.Same.{line_told}
use Rattle.ev_probe.proofs.probing.report_of.Goals as goal

pub event_of-event-requires : goal.event_of-event-requires
event_of-event-requires c = vector_fits c.args.l.now c.requires

pub delivered-requires-clause-entries : goal.delivered-requires-clause-entries
delivered-requires-clause-entries c =
    entries c.args.l.now c.cpu_of-cpu.result (memory c.in_ok-mem.mem) c.cpu_of-cpu.ensures c.in_ok-mem.ensures.tables

pub delivered-requires-clause-event : goal.delivered-requires-clause-event
delivered-requires-clause-event c =
    deliverable c.args.l.now c.cpu_of-cpu.result c.event_of-event.result c.requires (sym c.is_return.ensures ∙ c.if-is_return.false) c.cpu_of-cpu.ensures
    c.event_of-event.ensures.is c.event_of-event.ensures.short

pub returns-then-is_return : goal.returns-then-is_return
returns-then-is_return c =
    line_told c.args.l.now c.cpu_of-cpu.result (memory c.in_ok-mem.mem) (told c.returned.result) c.requires c.cpu_of-cpu.ensures c.in_ok-mem.ensures.alike
    (c.returned.ensures (event_of c.args.l.now.values))

pub returns : goal.returns
returns c =
    let op = is_delivery c.args.l.now.op (sym c.is_return.ensures ∙ c.if-is_return.false) in
    line_told c.args.l.now c.cpu_of-cpu.result (memory c.in_ok-mem.mem) (told c.delivered.result) c.requires c.cpu_of-cpu.ensures c.in_ok-mem.ensures.alike
    (c.delivered.ensures
    ∙ ap (λ (e : Event). told_from Op.Deliver c.cpu_of-cpu.result (memory c.in_ok-mem.mem) e) c.event_of-event.ensures.is
    ∙ ap (λ (x : Op). told_from x c.cpu_of-cpu.result (memory c.in_ok-mem.mem) (event_of c.args.l.now.values)) (sym op))
