-- What is proved of the tables in memory, as the contract of this crate states it.
use Rattle.std.specs.Prelude.{◌≡◌, ◌<◌, ◌≤◌, ◌+◌, true, ℕ}
use Rattle.ev_isa.specs.Word.{NatMap, is_aligned}
use Rattle.ev_isa.specs.declared.mode.Mode.{Mode}
use Rattle.ev_isa.specs.declared.mode.Mode.TheVariants.{Idt}
use Rattle.ev_body.specs.declared.image.Image.{Image}
use Rattle.ev_body.specs.WellFormed.{IsImage}
use Rattle.ev_state.specs.Processor.{Processor}
use Rattle.ev_mem.specs.Memory.{Memory}
use Rattle.ev_gate.specs.Gate.{gate_at}
use Rattle.ev_gate.specs.Tss.{ist_at}
use Rattle.ev_idt.specs.Tables.{HasTables}
use Rattle.ev_listing.specs.AddressMap.{pcpu, idt_base, stack_top}
use Rattle.ev_concrete.specs.Opening.{gate, listings, code_of, opening_word, regions}

-- words of memory that are those of the opening's IDT, from its base on
abbrev pub HoldsIdt : Mode → Image → NatMap ℕ → Type 0
HoldsIdt mode image words = (a : ℕ) → is_aligned a ≡ true → idt_base ≤ a → a < idt_base + 0x1000
    → words a ≡ opening_word (code_of (listings mode image)) mode image a

-- Each gate there is the opening's: its offset is the vector's entry, or that of the NMI code; IST 1 for NMIs, 2 for double faults, else none; and user code
-- may go through that of INT 3 alone.
abbrev pub GatesStand : Type 0
GatesStand = (mode : Mode) (image : Image) (words : NatMap ℕ) → IsImage image → HoldsIdt mode image words → (v : ℕ) → v < 256
    → gate_at words idt_base v ≡ gate v

-- The TSS of a processor whose two words are the opening's names the stack of NMIs in IST 1, and that of double faults in IST 2.
abbrev pub IsOpening : Mode → Image → NatMap ℕ → ℕ → Type 0
IsOpening mode image words a = words a ≡ opening_word (code_of (listings mode image)) mode image a

-- so the stacks of NMIs and double faults are those of the address map
abbrev pub StacksStand : Type 0
StacksStand = (mode : Mode) (image : Image) (words : NatMap ℕ) (p : ℕ) → IsImage image → p < image.processors
    → IsOpening mode image words (pcpu p + 0x428) → IsOpening mode image words (pcpu p + 0x430)
    → (ist_at words (pcpu p + 0x404) 1 ≡ stack_top p 4) × (ist_at words (pcpu p + 0x404) 2 ≡ stack_top p 5)

-- The IDT and the TSS of a processor of the image stand in memory, where its words from the IDT's base on are those of the opening.
abbrev pub TablesStand : Type 0
TablesStand = (image : Image) (m : Memory) (c : Processor) (p : ℕ) → IsImage image → p < image.processors → m.regions ≡ regions image
    → HoldsIdt Idt image m.words → c.idt ≡ idt_base → c.tss ≡ pcpu p + 0x404 → HasTables c m
