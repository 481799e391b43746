-- A gate as bytes and back, and bytes that are no gate.
use Rattle.std.specs.Prelude.{◌≡◌, refl, ℕ, List, [], ◌∷◌, true, false, Ok, Err, length, take, set}
use Rattle.ev_gate.specs.Gate.{gate_bytes, gate_in, read_gate}
use Rattle.ev_gate.specs.Tss.{read_tss, tss_bytes}
use Rattle.ev_gate.specs.declared.gate.Gate.{Gate}
use Rattle.ev_gate.specs.declared.gate.GateFault.{GateFault}
use Rattle.ev_gate.specs.declared.tss.Tss.{Tss}

stub_gate : Gate
stub_gate = record { offset = 0xffffffff81002340; selector = 0x10; ist = 1; trap = false; dpl = 0; present = true }

stub_bytes : List ℕ
stub_bytes = 0x40 ∷ 0x23 ∷ 0x10 ∷ 0x00 ∷ 0x01 ∷ 0x8e ∷ 0x00 ∷ 0x81 ∷ 0xff ∷ 0xff ∷ 0xff ∷ 0xff ∷ 0x00 ∷ 0x00 ∷ 0x00 ∷ 0x00 ∷ []

written_gate : gate_bytes stub_gate ≡ stub_bytes
unfolding gate_bytes stub_gate stub_bytes
written_gate = refl

gate_read : read_gate stub_bytes ≡ Ok stub_gate
unfolding read_gate gate_in stub_gate stub_bytes
gate_read = refl

-- byte 5 is 8CH, a call gate
bad_type : read_gate (set stub_bytes 5 0x8c) ≡ Err GateFault.BadType
unfolding read_gate stub_bytes
bad_type = refl

-- a reserved bit of byte 4
reserved_bit : read_gate (set stub_bytes 4 0x81) ≡ Err GateFault.Reserved
unfolding read_gate stub_bytes
reserved_bit = refl

too_short : read_gate (take 15 stub_bytes) ≡ Err GateFault.Short
unfolding read_gate stub_bytes
too_short = refl

-- the stacks of a TSS
stacks : Tss
stacks = record { rsp0 = 0xffffc90000004000; ist = 0xffffc90000014000 ∷ 0xffffc90000018000 ∷ 0 ∷ 0 ∷ 0 ∷ 0 ∷ 7 ∷ [] }

stacks_read : read_tss (tss_bytes stacks) ≡ Ok stacks
unfolding read_tss stacks
stacks_read = refl

tss_length : length (tss_bytes stacks) ≡ 104
unfolding stacks
tss_length = refl
