-- What a step asks of the tables and of the code, and what its calls leave. Own.
use Rattle.std.specs.Prelude.{◌≡◌, ◌≢◌, ◌<◌, ◌+◌, true, false, ℕ, Bool, length, Option, Some, None}
use Rattle.ev_isa.specs.Word.{is_canonical}
use Rattle.ev_isa.specs.Instruction.{is_instruction}
use Rattle.ev_isa.specs.Spelling.{spelling}
use Rattle.ev_isa.specs.declared.instruction.Ins.{Ins}
use Rattle.ev_event.specs.declared.event.EventType.TheVariants.{Hardware, Other}
use Rattle.ev_event.specs.declared.event.Event.{Event}
use Rattle.ev_state.specs.Processor.{Processor, is_user}
use Rattle.ev_mem.specs.Memory.{Memory, page_fault}
use Rattle.ev_apic.specs.declared.apic.Apic.{Apic}
use Rattle.ev_idt.specs.Tables.{HasTables}
use Rattle.ev_proc.specs.declared.stepped.Stepped.{Stepped}
use Rattle.ev_proc.specs.ProcessorStep.{After, Arrival, has_fred, instruction_at}

-- without FRED, the IDT and the TSS stand in memory
pub record HasEntries (c : Processor) (m : Memory) : Type 0 where
  pub tables : has_fred c ≡ false → HasTables c m

-- The instruction at RIP, where it can be fetched, ends at a canonical address. So it is wherever the code's regions end far enough below the
-- addresses that aren't canonical.
pub record IsInCode (c : Processor) (m : Memory) : Type 0 where
  pub ends : (i : Ins) → page_fault m (record { user = is_user c; write = false; fetch = true }) c.rip ≡ None → instruction_at m.words c.rip ≡ Some i
      → is_canonical (c.rip + length (spelling i)) ≡ true

-- what was decoded of the instruction that memory has at RIP: it with its length, or none
abbrev pub IsDecoded : Option Ins → Option (Ins × ℕ) → Type 0
IsDecoded o None = o ≡ None
IsDecoded o (Some d) = (o ≡ Some d.0) × (is_instruction d.0 ≡ true) × (d.1 ≡ length (spelling d.0))

-- an event that can be delivered: the type of SYSCALL is one for FRED alone
pub record IsDeliverable (c : Processor) (e : Event) : Type 0 where
  pub short : e.length < 16
  pub kind : has_fred c ≡ false → e.kind ≢ Other

-- a hardware exception, which has no length
pub record IsException (e : Event) : Type 0 where
  pub kind : e.kind ≡ Hardware
  pub no_length : e.length ≡ 0

-- what a step leaves
abbrev pub left : Processor → Apic → Memory → Bool → Stepped → After
left c a m nmi s = record { cpu = c; apic = a; words = m.words; nmi = nmi; step = s }

-- an arrival that leaves the processor and memory as they are here
abbrev pub arrived : Processor → Memory → Option (Event × ℕ) → Arrival
arrived c m d = (c, m.words, d)
