-- Gates of the IDT (SDM volume 3, 6.14.1).
use Rattle.std.specs.Prelude.{ℕ, ◌≡◌, ◌<◌, ◌+◌, ◌*◌, ◌/◌, ◌%◌, ◌^◌, Bool, not, ◌||◌, nat_lt, ◌==◌, if◌then◌else◌, List, [], ◌∷◌, ◌++◌, length, take, drop, get_or, Result, Ok, Err}
use Rattle.std.specs.Int.{w16, w32, w64, to_le_bytes, from_le_bytes}
use Rattle.ev_isa.specs.Word.{NatMap, bit, bit_if}
use Rattle.ev_gate.specs.declared.gate.Gate.{Gate}
use Rattle.ev_gate.specs.declared.gate.GateFault.{GateFault}
use Rattle.ev_gate.specs.declared.gate.GateFault.TheVariants.{Short, BadType, Reserved}

-- the fields within their widths
abbrev pub IsGate : Gate → Type 0
IsGate g = (g.offset < 2 ^ 64) × (g.selector < 2 ^ 16) × (g.ist < 8) × (g.dpl < 4)

-- the byte that holds the type (EH, or FH for a trap gate), the DPL and the present bit
abbrev pub kind_byte : Gate → ℕ
kind_byte g = 14 + bit_if 0 g.trap + 32 * g.dpl + bit_if 7 g.present

-- the 16 bytes of a gate
unfoldable pub gate_bytes : Gate → List ℕ
gate_bytes g =
    to_le_bytes w16 (g.offset % 2 ^ 16) ++ to_le_bytes w16 g.selector ++ g.ist ∷ kind_byte g
    ∷ to_le_bytes w16 (g.offset / 2 ^ 16 % 2 ^ 16) ++ to_le_bytes w32 (g.offset / 2 ^ 32) ++ 0 ∷ 0 ∷ 0 ∷ 0 ∷ []

-- the gate in two words, where its type and reserved bits are right
unfoldable pub gate_in : ℕ → ℕ → Gate
gate_in low high = record {
  offset = low % 2 ^ 16 + 2 ^ 16 * (low / 2 ^ 48) + 2 ^ 32 * (high % 2 ^ 32);
  selector = low / 2 ^ 16 % 2 ^ 16;
  ist = low / 2 ^ 32 % 8;
  trap = bit 40 low;
  dpl = low / 2 ^ 45 % 4;
  present = bit 47 low;
}

-- bits 7:3 of byte 4, bit 4 of byte 5, and the last four bytes
abbrev pub has_reserved : List ℕ → Bool
has_reserved bytes = not (get_or bytes 4 0 / 8 == 0) || bit 4 (get_or bytes 5 0) || not (from_le_bytes w32 (drop 12 bytes) == 0)

-- what 16 bytes read as, or why they are no gate
unfoldable pub read_gate : List ℕ → Result Gate GateFault
read_gate bytes =
    if nat_lt (length bytes) 16 then Err Short
    else (if not (get_or bytes 5 0 / 2 % 8 == 7) then Err BadType
    else (if has_reserved bytes then Err Reserved
    else Ok (gate_in (from_le_bytes w64 bytes) (from_le_bytes w64 (drop 8 bytes)))))

-- the gate of a vector in the table that stands in memory at this address
abbrev pub gate_at : NatMap ℕ → ℕ → ℕ → Gate
gate_at words idt vector = gate_in (words (idt + 16 * vector)) (words (idt + 16 * vector + 8))

-- The laws of both directions. A gate stands in the two words that its bytes make:
abbrev pub GateInWords : Type 0
GateInWords = (g : Gate) → IsGate g → gate_in (from_le_bytes w64 (gate_bytes g)) (from_le_bytes w64 (drop 8 (gate_bytes g))) ≡ g

-- reading what was written gives the gate,
abbrev pub GateIsRead : Type 0
GateIsRead = (g : Gate) → IsGate g → read_gate (gate_bytes g) ≡ Ok g

-- and what was read is within the widths, and writing it gives the bytes.
abbrev pub GateIsWritten : Type 0
GateIsWritten =
    (bytes : List ℕ) (g : Gate) → ((i : ℕ) → get_or bytes i 0 < 256) → read_gate bytes ≡ Ok g → IsGate g × (gate_bytes g ≡ take 16 bytes)
