use Rattle.std.proofs.Common.{◌≡◌, ℕ, ap, ◌∙◌}
use Rattle.ev_state.specs.Processor.{Processor, register, selector}
use Rattle.ev_state.specs.Outcome.{Outcome}
use Rattle.ev_mem.specs.Mapped.{memory}
use Rattle.ev_proc.specs.ProcessorStep.{ran, after_outcome}
use Rattle.ev_fred.specs.FredDelivery.{lkgs}
use Rattle.ev_proc.proofs.Returned.{met_entries, met_exception, lkgs_again}
use Rattle.ev_proc.proofs.Specials.{is_lkgs}
use Rattle.ev_proc.proofs.returns.lkgs.Goals as goal

-- the selector that the code reads
selector_is : (c : Processor) (r s : ℕ) → r ≡ register c s → selector r ≡ selector (register c s)
selector_is c r s h = ap (λ (x : ℕ). selector x) h

pub fault-requires-clause-entries : goal.fault-requires-clause-entries
fault-requires-clause-entries c = met_entries c.args.cpu.now c.lkgs.new.cpu (memory c.args.mem.now) c.in-Err.e
    (lkgs c.args.cpu.now (memory c.args.mem.now).words (selector c.reg.result)) (c.in-Err.ensures (memory c.args.mem.now).words)
    (lkgs_again c.args.cpu.now (memory c.args.mem.now).words (selector c.reg.result)) c.requires.entries

pub fault-requires-clause-event : goal.fault-requires-clause-event
fault-requires-clause-event c = met_exception c.args.cpu.now c.lkgs.new.cpu (memory c.args.mem.now) c.in-Err.e
    (lkgs c.args.cpu.now (memory c.args.mem.now).words (selector c.reg.result)) (c.in-Err.ensures (memory c.args.mem.now).words)
    (lkgs_again c.args.cpu.now (memory c.args.mem.now).words (selector c.reg.result))

pub returns-in-Ok-clause-is : goal.returns-in-Ok-clause-is
returns-in-Ok-clause-is c = λ a nmi.
    ap (λ (p : Processor). ran p a (memory c.args.mem.now).words nmi) c.go_on.ensures
    ∙ ap (λ (o : Outcome). after_outcome a (memory c.args.mem.now) nmi c.args.next o) (c.in-Ok.ensures (memory c.args.mem.now).words)
    ∙ ap (λ (s : ℕ). after_outcome a (memory c.args.mem.now) nmi c.args.next (lkgs c.args.cpu.now (memory c.args.mem.now).words s))
    (selector_is c.args.cpu.now c.reg.result c.args.s c.reg.ensures)
    ∙ is_lkgs c.args.cpu.now a (memory c.args.mem.now) nmi c.args.next c.args.s

pub returns-in-Err-clause-is : goal.returns-in-Err-clause-is
returns-in-Err-clause-is c = λ a nmi.
    c.fault.ensures.is a nmi
    ∙ ap (λ (o : Outcome). after_outcome a (memory c.args.mem.now) nmi c.args.next o) (c.in-Err.ensures (memory c.args.mem.now).words)
    ∙ ap (λ (s : ℕ). after_outcome a (memory c.args.mem.now) nmi c.args.next (lkgs c.args.cpu.now (memory c.args.mem.now).words s))
    (selector_is c.args.cpu.now c.reg.result c.args.s c.reg.ensures)
    ∙ is_lkgs c.args.cpu.now a (memory c.args.mem.now) nmi c.args.next c.args.s
