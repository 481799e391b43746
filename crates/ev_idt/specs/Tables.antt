-- What a delivery needs of the IDT and the TSS (SDM volume 3, 6.14 and 7.7; that a handler's selector is 10H is own).
use Rattle.std.specs.Prelude.{◌≡◌, ◌<◌, true, false, ℕ, ◌+◌, ◌*◌, ◌%◌, ◌++◌, None, Ok}
use Rattle.std.specs.Int.{w64, to_le_bytes}
use Rattle.ev_isa.specs.Word.{is_canonical}
use Rattle.ev_gate.specs.Gate.{gate_in, read_gate}
use Rattle.ev_state.specs.Processor.{Processor}
use Rattle.ev_mem.specs.Memory.{Memory, page_fault, data_access}

-- the kernel can read the word at an address
pub record IsReadable (m : Memory) (a : ℕ) : Type 0 where
  pub canonical : is_canonical a ≡ true
  pub mapped : page_fault m (data_access false false) a ≡ None

-- two words are the gate of a handler
pub record IsHandler (low high : ℕ) : Type 0 where
  pub valid : read_gate (to_le_bytes w64 low ++ to_le_bytes w64 high) ≡ Ok (gate_in low high)
  pub present : (gate_in low high).present ≡ true
  pub selector : (gate_in low high).selector ≡ 0x10
  pub canonical : is_canonical (gate_in low high).offset ≡ true

-- the 512 words of the IDT, and those of the TSS from RSP0 to IST7
pub record HasTables (c : Processor) (m : Memory) : Type 0 where
  pub idt_aligned : c.idt % 16 ≡ 0
  pub tss_aligned : c.tss % 8 ≡ 4
  pub idt_mapped : (k : ℕ) → k < 512 → IsReadable m (c.idt + 8 * k)
  pub tss_mapped : (k : ℕ) → k < 11 → IsReadable m (c.tss + 4 + 8 * k)
  pub handlers : (v : ℕ) → v < 256 → IsHandler (m.words (c.idt + 16 * v)) (m.words (c.idt + 16 * v + 8))
