-- What memory has to hold for deliveries and returns on a bare processor: the IDT, the TSS and the stacks. Own.
use Rattle.std.specs.Prelude.{◌≡◌, ◌<◌, ◌≤◌, ℕ, ◌+◌, ◌-◌, ◌*◌, Bool, false, List, ◌∷◌, filter}
use Rattle.ev_isa.specs.Word.{NatMap}
use Rattle.ev_mem.specs.declared.region.Region.{Region}
use Rattle.ev_mem.specs.declared.region.RegionKind.TheVariants.{Kernel}
use Rattle.ev_mem.specs.Memory.{Memory, data_access, page_fault}
use Rattle.ev_state.specs.Processor.{Processor}
use Rattle.ev_idt.specs.Tables.{HasTables}
use Rattle.ev_listing.specs.AddressMap.{pcpu, idt_base, stack_top}
use Rattle.ev_concrete.specs.Opening.{idt_word, region, stack_regions}
use Rattle.ev_probe.specs.Probe.{is_mapped}

-- the regions of the area of processor 0, of the IDT, and of the stacks whose bit in `bad` is clear
abbrev pub few_regions : ℕ → List Region
few_regions bad = region (pcpu 0) 0x10000 Kernel ∷ region idt_base 0x1000 Kernel ∷ filter (is_mapped bad) (stack_regions 0)

-- a place of the IDT, and the places of the TSS that name stacks
abbrev pub IsInIdt : ℕ → Type 0
IsInIdt a = (idt_base ≤ a) × (a < idt_base + 0x1000)

abbrev pub IsInTss : ℕ → Type 0
IsInTss a = (pcpu 0 + 0x408 ≤ a) × (a < pcpu 0 + 0x460)

-- a place of a stack of processor 0, or of the gap below one
abbrev pub IsInStacks : ℕ → Type 0
IsInStacks a = (stack_top 0 0 - 0x4000 ≤ a) × (a < stack_top 0 6)

-- the words of the IDT up to word n are those of the opening
abbrev pub HoldsGates : ℕ → NatMap ℕ → Type 0
HoldsGates n words = (k : ℕ) → k < n → words (idt_base + 8 * k) ≡ idt_word k

-- the words of the TSS that name stacks are those of the opening
pub record HoldsStacks (words : NatMap ℕ) : Type 0 where
  pub rsp0 : words (pcpu 0 + 0x408) ≡ stack_top 0 0
  pub ist1 : words (pcpu 0 + 0x428) ≡ stack_top 0 4
  pub ist2 : words (pcpu 0 + 0x430) ≡ stack_top 0 5

-- Two memories are alike for deliveries and returns: both have the opening's IDT and TSS, and among the stacks the kernel's accesses have the same page
-- faults and the words are the same.
pub record AreAlike (m n : Memory) : Type 0 where
  pub faults : (a : ℕ) → IsInStacks a → (write : Bool) → page_fault m (data_access false write) a ≡ page_fault n (data_access false write) a
  pub words : (a : ℕ) → IsInStacks a → m.words a ≡ n.words a
  pub gates : HoldsGates 512 m.words
  pub same_gates : HoldsGates 512 n.words
  pub stacks : HoldsStacks m.words
  pub same_stacks : HoldsStacks n.words

-- a processor whose IDT and TSS are those of the opening finds them
abbrev pub FindsTables : Memory → Type 0
FindsTables m = (c : Processor) → c.idt ≡ idt_base → c.tss ≡ pcpu 0 + 0x404 → HasTables c m
