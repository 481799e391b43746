-- One step of a processor: the choice at the boundary, and then one delivery, or one instruction together with the delivery of its fault
-- (SDM volume 3, 6.9 and 6.15 for priorities and double faults; FRED specification).
use Rattle.std.specs.Prelude.{ℕ, zero, suc, ◌+◌, ◌*◌, ◌/◌, ◌%◌, ◌^◌, Bool, true, false, not, ◌&&◌, ◌==◌, if◌then◌else◌, length, Option, Some, None}
use Rattle.ev_isa.specs.Word.{NatMap, bit}
use Rattle.ev_isa.specs.declared.instruction.Ins.{Ins}
use Rattle.ev_isa.specs.declared.instruction.Ins.TheVariants.{IntN, Int3, Int1, Syscall, Sysretq, Iretq, Eretu, Erets, Rdmsr, Wrmsr, Swapgs, Lkgs}
use Rattle.ev_isa.specs.Instruction.{user_may}
use Rattle.ev_isa.specs.Spelling.{spelling}
use Rattle.ev_isa.specs.Reading.{reading}
use Rattle.ev_event.specs.declared.event.EventType.{EventType}
use Rattle.ev_event.specs.declared.event.Event.{Event}
use Rattle.ev_event.specs.declared.event.EventType.TheVariants.{SoftInt, Other}
use Rattle.ev_event.specs.Event.{ud, gp, pf, exception, software, nmi_event, interrupt_event}
use Rattle.ev_state.specs.Msr.{Msrs, msr, written}
use Rattle.ev_state.specs.Processor.{Processor, is_user, register, with_register, selector, interrupts_on}
use Rattle.ev_apic.specs.declared.apic.Apic.{Apic}
use Rattle.ev_apic.specs.Apic.{next_vector, begun, ended}
use Rattle.ev_apic.specs.declared.send.Send.{Send}
use Rattle.ev_mem.specs.Memory.{Memory, page_fault, code_bytes}
use Rattle.ev_event.specs.declared.double_fault.Combined.{Combined}
use Rattle.ev_event.specs.declared.double_fault.Combined.TheVariants.{Serial, Shutdown}
use Rattle.ev_event.specs.DoubleFault.{combine}
use Rattle.ev_state.specs.Outcome.{Outcome, Went, Met}
use Rattle.ev_idt.specs.IdtDelivery.{idt_delivery, iretq, syscall_idt, sysretq, swapgs}
use Rattle.ev_fred.specs.FredDelivery.{fred_delivery, eretu, erets, lkgs}
use Rattle.ev_exec.specs.Exec.{Executed, Raise, Special, exec, at_next}
use Rattle.ev_apic.specs.Send.{sent}
use Rattle.ev_event.specs.declared.boundary.Next.{Next}
use Rattle.ev_event.specs.declared.boundary.Next.TheVariants.{Interrupt}
use Rattle.ev_event.specs.Boundary.{first_of}
use Rattle.ev_proc.specs.declared.stepped.Stepped.{Stepped}

-- CR4.FRED, bit 32
abbrev pub has_fred : Processor → Bool
has_fred c = bit 32 c.cr4

-- the processor, its local APIC, the words of memory and the NMI latch after a step, and what the step was
pub record After : Type 0 where
  pub cpu : Processor
  pub apic : Apic
  pub words : NatMap ℕ
  pub nmi : Bool
  pub step : Stepped

-- ---- a delivery, with the deliveries of the events that it meets

-- #DF, whose error code is 0
abbrev pub double_fault : Event
double_fault = exception 8 0 0

-- one try to deliver an event, which is nested where it was met during a delivery
abbrev pub try : Processor → Memory → Event → Bool → Outcome
try c m e nested = if has_fred c then fred_delivery c m e nested else idt_delivery c m e

-- what comes of a delivery: the processor, the words, the event that was delivered in the end and its frame; None is shutdown
abbrev pub Arrival : Type 0
Arrival = Processor × NatMap ℕ × Option (Event × ℕ)

-- At most so many tries (no chain has more than four: INT n, #GP, #PF, #DF). The first saves the RIP of c, each later one `rip`.
unfoldable pub deliveries : ℕ → Processor → ℕ → Memory → Event → Bool → Arrival
deliveries zero c rip m e nested = (c, m.words, None)
deliveries (suc n) c rip m e nested = elim (try c m e nested) [
  | Went c' words a ↦ (c', words, Some (e, a))
  | Met c' e' ↦ elim (combine e e') [
    | Serial ↦ deliveries n (record c' { rip = rip }) rip m e' true
    | Combined.Double ↦ deliveries n (record c' { rip = rip }) rip m double_fault true
    | Shutdown ↦ (c', m.words, None)
  ]
]

-- the step that a delivery was, or the shutdown in its place
abbrev pub act_of : Option (Event × ℕ) → Stepped
act_of None = Stepped.Shutdown
act_of (Some d) = Stepped.Delivered d.0 (Some d.1)

-- what comes of a delivery, with the local APIC and the latch as they are then
abbrev pub after_arrival : Apic → Bool → Arrival → After
after_arrival a nmi r = record { cpu = r.0; apic = a; words = r.1; nmi = nmi; step = act_of r.2 }

-- the delivery of an event that saves `rip`; what it meets saves the RIP of c
abbrev pub delivering : Processor → Apic → Memory → Bool → Event → ℕ → After
delivering c a m nmi e rip = after_arrival a nmi (deliveries 4 (record c { rip = rip }) c.rip m e false)

-- ---- instructions

-- the instruction was made without an event
abbrev pub ran : Processor → Apic → NatMap ℕ → Bool → After
ran c a words nmi = record { cpu = c; apic = a; words = words; nmi = nmi; step = Stepped.Ran }

-- a fault saves the RIP of its instruction
abbrev pub fault : Processor → Apic → Memory → Bool → Event → After
fault c a m nmi e = delivering c a m nmi e c.rip

-- a return
abbrev pub after_return : Apic → Memory → Bool → Outcome → After
after_return a m nmi (Went c words frame) = ran c a words nmi
after_return a m nmi (Met c e) = fault c a m nmi e

-- an instruction that goes on to the next
abbrev pub after_outcome : Apic → Memory → Bool → ℕ → Outcome → After
after_outcome a m nmi next (Went c words frame) = ran (at_next c next) a words nmi
after_outcome a m nmi next (Met c e) = fault c a m nmi e

-- the low half of a register
abbrev pub low32 : ℕ → ℕ
low32 n = n % 2 ^ 32

-- RDMSR: EAX and EDX
abbrev pub after_read : Processor → Apic → Memory → Bool → ℕ → Option ℕ → After
after_read c a m nmi next None = fault c a m nmi (gp 0)
after_read c a m nmi next (Some v) = ran (at_next (with_register (with_register c 0 (low32 v)) 2 (v / 2 ^ 32)) next) a m.words nmi

-- WRMSR of an MSR, which takes the value or is #GP(0)
abbrev pub after_write : Processor → Apic → Memory → Bool → ℕ → Option Msrs → After
after_write c a m nmi next None = fault c a m nmi (gp 0)
after_write c a m nmi next (Some msrs) = ran (at_next (record c { msrs = msrs }) next) a m.words nmi

-- a write to the interrupt command register sends, or is #GP(0)
abbrev pub after_send : Processor → Apic → Memory → Bool → ℕ → Option Send → After
after_send c a m nmi next None = fault c a m nmi (gp 0)
after_send c a m nmi next (Some s) = record { cpu = at_next c next; apic = a; words = m.words; nmi = nmi; step = Stepped.Sent s }

-- WRMSR of a value: 80BH is the EOI register, which takes 0 alone, and 830H the interrupt command
abbrev pub write_msr : Processor → Apic → Memory → Bool → ℕ → ℕ → ℕ → After
write_msr c a m nmi next n v =
    if n == 0x80b then (if v == 0 then ran (at_next c next) (ended a) m.words nmi else fault c a m nmi (gp 0))
    else (if n == 0x830 then after_send c a m nmi next (sent v)
    else after_write c a m nmi next (written c.msrs n v))

-- SYSCALL
abbrev pub system_call : Processor → Apic → Memory → Bool → ℕ → After
system_call c a m nmi next =
    if has_fred c then delivering c a m nmi (software Other 1 2) next
    else record { cpu = syscall_idt (record c { rip = next }); apic = a; words = m.words; nmi = nmi; step = Stepped.Delivered (software Other 1 2) None }

-- the instructions that `exec` leaves
unfoldable pub special : Processor → Apic → Memory → Bool → ℕ → Ins → After
special c a m nmi next Int1 = delivering c a m nmi (software EventType.Int1 1 1) next
special c a m nmi next Int3 = delivering c a m nmi (software EventType.Int3 3 1) next
special c a m nmi next (IntN n) = delivering c a m nmi (software SoftInt n 2) next
special c a m nmi next Syscall = system_call c a m nmi next
special c a m nmi next Sysretq = if has_fred c then fault c a m nmi ud else after_return a m nmi (sysretq c m.words)
special c a m nmi next Swapgs = if has_fred c then fault c a m nmi ud else ran (at_next (swapgs c) next) a m.words nmi
special c a m nmi next Iretq = after_return a m nmi (iretq c m)
special c a m nmi next Eretu = if has_fred c then after_return a m nmi (eretu c m) else fault c a m nmi ud
special c a m nmi next Erets = if has_fred c then after_return a m nmi (erets c m) else fault c a m nmi ud
special c a m nmi next (Lkgs s) = after_outcome a m nmi next (lkgs c m.words (selector (register c s)))
special c a m nmi next Rdmsr = after_read c a m nmi next (msr c.msrs (low32 (register c 1)))
special c a m nmi next Wrmsr = write_msr c a m nmi next (low32 (register c 1)) (low32 (register c 0) + 2 ^ 32 * low32 (register c 2))
special c a m nmi next _ = fault c a m nmi ud

-- what `exec` made of an instruction
abbrev pub after_exec : Processor → Apic → Memory → Bool → ℕ → Ins → Executed → After
after_exec c a m nmi next i (Executed.Done c' words) = ran c' a words nmi
after_exec c a m nmi next i (Raise e) = fault c a m nmi e
after_exec c a m nmi next i Special = special c a m nmi next i

-- what was read at RIP. At CPL 3 only the user instructions are decoded.
abbrev pub executed : Processor → Apic → Memory → Bool → Option Ins → After
executed c a m nmi None = fault c a m nmi ud
executed c a m nmi (Some i) =
    if is_user c && not (user_may i) then fault c a m nmi ud
    else after_exec c a m nmi (c.rip + length (spelling i)) i (exec c m i (c.rip + length (spelling i)))

-- the instruction that memory has at RIP
abbrev pub instruction_at : NatMap ℕ → ℕ → Option Ins
instruction_at words rip = reading (code_bytes words rip)

-- the instruction at RIP, or the page fault of its fetch
abbrev pub fetched : Processor → Apic → Memory → Bool → Option ℕ → After
fetched c a m nmi None = executed c a m nmi (instruction_at m.words c.rip)
fetched c a m nmi (Some code) = fault c a m nmi (pf code c.rip)

-- ---- the boundary

-- what comes first at the boundary before the next instruction
unfoldable pub next_of : Processor → Apic → Bool → Next
next_of c a nmi = first_of (record {
  debug = false;
  nmi = nmi;
  nmi_blocked = c.nmi_blocked;
  sti_blocked = c.sti_blocked;
  if_set = interrupts_on c;
  vector = next_vector a;
})

-- A step by that choice: a delivery takes the NMI from the latch, or the vector from those requested.
abbrev pub step_by : Processor → Apic → Memory → Bool → Next → After
step_by c a m nmi Next.Nmi = delivering c a m false nmi_event c.rip
step_by c a m nmi (Interrupt v) = delivering c (begun a v) m nmi (interrupt_event v) c.rip
step_by c a m nmi _ = fetched c a m nmi (page_fault m (record { user = is_user c; write = false; fetch = true }) c.rip)

-- One step of a processor.
unfoldable pub step : Processor → Apic → Memory → Bool → After
step c a m nmi = step_by c a m nmi (next_of c a nmi)
