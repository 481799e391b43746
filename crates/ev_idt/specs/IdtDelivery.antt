-- IDT event delivery and the instructions that go with it (SDM volume 3, 6.12 to 6.14; volume 2, IRET, SYSCALL, SYSRET, SWAPGS).
use Rattle.std.specs.Prelude.{ℕ, ◌+◌, ◌-◌, ◌*◌, ◌%◌, Bool, true, false, not, ◌&&◌, ◌||◌, nat_lt, ◌==◌, if◌then◌else◌, List, [], ◌∷◌, ◌++◌, length, reverse, Option, Some, None, bit_and}
use Rattle.ev_isa.specs.Word.{NatMap, is_canonical}
use Rattle.ev_isa.specs.Flags.{modelled}
use Rattle.ev_event.specs.declared.event.EventType.{EventType}
use Rattle.ev_event.specs.declared.event.Event.{Event}
use Rattle.ev_event.specs.declared.event.EventType.TheVariants.{SoftInt, Int3}
use Rattle.ev_event.specs.Event.{gp}
use Rattle.ev_state.specs.Processor.{Processor, is_user, register, with_register, rsp, with_rsp, gs_exchanged, selector, interrupts_on, with_interrupts}
use Rattle.ev_mem.specs.Memory.{Memory, view}
use Rattle.ev_effect.specs.Frame.{addresses, first_event}
use Rattle.ev_gate.specs.declared.gate.Gate.{Gate}
use Rattle.ev_gate.specs.Gate.{gate_at}
use Rattle.ev_event.specs.Event.{has_error_code, is_hardware, is_nmi_type}
use Rattle.ev_state.specs.Outcome.{Outcome, Went, Met, with_cr2, below, frame_written, words_at}
use Rattle.ev_gate.specs.Tss.{rsp0_at, ist_at}

-- the event of a type 4 or 6 whose gate is closed to user code is #GP
abbrev pub is_gated : EventType → Bool
is_gated SoftInt = true
is_gated Int3 = true
is_gated _ = false

-- the stack that a gate leads to: its IST stack, or RSP0 on a change of privilege, or the old one; aligned down to 16
abbrev pub new_rsp : Processor → NatMap ℕ → Gate → ℕ
new_rsp c words g = let a : ℕ = (if not (g.ist == 0) then ist_at words c.tss g.ist else (if is_user c then rsp0_at words c.tss else rsp c)) in a - a % 16

-- the words of the frame, from the lowest up
abbrev pub idt_frame : Processor → Event → List ℕ
idt_frame c e = (if is_hardware e.kind && has_error_code e.vector then e.error ∷ [] else []) ++ c.rip ∷ c.cs ∷ c.flags ∷ rsp c ∷ c.ss ∷ []

-- the processor at the offset of the gate, with RSP at the frame; an interrupt gate clears IF, and a trap gate keeps it
abbrev pub in_handler : Processor → Gate → EventType → ℕ → Processor
in_handler c g kind frame = record (with_rsp c frame) {
  rip = g.offset;
  cs = g.selector;
  ss = if is_user c then 0 else c.ss;
  cpl = 0;
  flags = with_interrupts c.flags (interrupts_on c && g.trap);
  nmi_blocked = c.nmi_blocked || is_nmi_type kind;
  sti_blocked = false;
}

-- a delivery through a gate
abbrev pub through_gate : Processor → Memory → Event → Gate → Outcome
through_gate c m e g =
    let frame : List ℕ = idt_frame c e in
    let a : ℕ = below (new_rsp c m.words g) (length frame) in
    frame_written c (in_handler c g e.kind a) m.words a frame (first_event (view m false) true (reverse (addresses a (length frame))))

-- Delivery of an event. RIP is the one that is saved.
unfoldable pub idt_delivery : Processor → Memory → Event → Outcome
idt_delivery c m e =
    let g : Gate = gate_at m.words c.idt e.vector in
    if is_gated e.kind && is_user c && nat_lt g.dpl 3 then Met c (gp (8 * e.vector + 2)) else through_gate (with_cr2 c e) m e g

-- ---- returns

-- whether CS and SS are ones that IRETQ takes
abbrev pub is_return : ℕ → ℕ → Bool
is_return cs ss = ((cs == 0x33) && (ss == 0x2b)) || ((cs == 0x10) && ((ss == 0x18) || (ss == 0)))

-- what an IRETQ restores from its five words
abbrev pub returned : Processor → ℕ → ℕ → ℕ → ℕ → ℕ → Processor
returned c rip cs flags rsp ss = record (with_rsp c rsp) {
  rip = rip;
  cs = cs;
  flags = modelled flags;
  ss = ss;
  cpl = if cs == 0x33 then 3 else
      0;
  sti_blocked = false;
}

-- IRETQ with its five words
abbrev pub iret_words : Processor → NatMap ℕ → List ℕ → Outcome
iret_words c words (rip ∷ cs ∷ flags ∷ rsp ∷ ss ∷ []) =
    if is_canonical rip && is_return (selector cs) (selector ss) then Went (returned c rip (selector cs) flags rsp (selector ss)) words 0 else Met c (gp 0)
iret_words c words _ = Met c (gp 0)

-- IRETQ by words that can be read, or the event of the first that cannot
abbrev pub iret_after : Processor → NatMap ℕ → List ℕ → Option Event → Outcome
iret_after c words as' None = iret_words c words (words_at words as')
iret_after c words as' (Some e) = Met (with_cr2 c e) e

-- IRETQ ends the blocking of NMIs, also where it raises a fault
unfoldable pub iretq : Processor → Memory → Outcome
iretq c m = let as' : List ℕ = addresses (rsp c) 5 in
    iret_after (record c { nmi_blocked = false }) m.words as' (first_event (view m false) false as')

-- SYSCALL: RFLAGS loses the bits of FMASK. RIP is that of the next instruction.
abbrev pub masked : ℕ → ℕ → ℕ
masked flags mask = modelled (flags - bit_and flags mask)

-- SYSCALL (SDM volume 2, "SYSCALL"): no stack is touched
unfoldable pub syscall_idt : Processor → Processor
syscall_idt c = record (with_register (with_register c 1 c.rip) 11 c.flags) {
  rip = c.msrs.lstar;
  cs = 0x10;
  ss = 0x18;
  cpl = 0;
  flags = masked c.flags c.msrs.fmask;
  sti_blocked = false;
}

-- SYSRET with REX.W (SDM volume 2, "SYSRET"): #GP(0) in ring 0 where RCX is not canonical
unfoldable pub sysretq : Processor → NatMap ℕ → Outcome
sysretq c words =
    if is_canonical (register c 1)
    then Went (record c { rip = register c 1; flags = modelled (register c 11); cs = 0x33; ss = 0x2b; cpl = 3; sti_blocked = false }) words 0
    else Met c (gp 0)

-- SWAPGS
abbrev pub swapgs : Processor → Processor
swapgs c = gs_exchanged c
