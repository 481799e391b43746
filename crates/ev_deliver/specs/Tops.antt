-- Where a delivery's frame ends: the top of a task's stack, below the body that it interrupts, or the top of its own stack.
use Rattle.std.specs.Prelude.{◌≡◌, ◌≢◌, ℕ, ◌-◌, ◌%◌, ◌^◌, ◌<◌, ◌≤◌, true, false, ◌&&◌, ◌==◌, nat_lt, get_or}
use Rattle.ev_isa.specs.Word.{NatMap}
use Rattle.ev_event.specs.declared.event.Event.{Event}
use Rattle.ev_event.specs.Event.{is_hardware}
use Rattle.ev_state.specs.Processor.{Processor, is_user, rsp}
use Rattle.ev_fred.specs.FredDelivery.{new_level, frame_top}
use Rattle.ev_idt.specs.IdtDelivery.{new_rsp}
use Rattle.ev_gate.specs.Tss.{rsp0_at, ist_at}
use Rattle.ev_concrete.specs.Opening.{gate}

-- under FRED: RSP of level 0 from a task, but for a double fault;
abbrev pub FredFromTask : Type 0
FredFromTask = (c : Processor) (e : Event) → is_user c ≡ true → (is_hardware e.kind && (e.vector == 8)) ≡ false
    → frame_top c (new_level c e false) ≡ get_or c.msrs.rsp 0 0

-- 40H bytes below RSP, at a multiple of 40H, from the kernel at no lower level;
abbrev pub FredFromBody : Type 0
FredFromBody = (c : Processor) (e : Event) (t : ℕ) → is_user c ≡ false → nat_lt c.level (new_level c e false) ≡ false → c.msrs.config ≡ 0xffffffff81000040
    → rsp c ≡ t - 0xc0 → t % 64 ≡ 0 → 0x100 ≤ t → t < 2 ^ 64 → frame_top c (new_level c e false) ≡ t - 0x100

-- RSP of the new level from a lower one
abbrev pub FredToLevel : Type 0
FredToLevel = (c : Processor) (e : Event) → is_user c ≡ false → nat_lt c.level (new_level c e false) ≡ true
    → frame_top c (new_level c e false) ≡ get_or c.msrs.rsp (new_level c e false) 0

-- under IDT: RSP0 from a task, RSP from the kernel at a multiple of 10H, and for NMIs IST 1
abbrev pub IdtFromTask : Type 0
IdtFromTask = (c : Processor) (words : NatMap ℕ) (v t : ℕ) → is_user c ≡ true → v ≢ 2 → v ≢ 8 → rsp0_at words c.tss ≡ t → t % 16 ≡ 0
    → new_rsp c words (gate v) ≡ t

-- from a body
abbrev pub IdtFromBody : Type 0
IdtFromBody = (c : Processor) (words : NatMap ℕ) (v t : ℕ) → is_user c ≡ false → v ≢ 2 → v ≢ 8 → rsp c ≡ t - 0xb0 → t % 16 ≡ 0 → 0x100 ≤ t
    → new_rsp c words (gate v) ≡ t - 0xb0

-- from a body of an NMI
abbrev pub IdtFromNmiBody : Type 0
IdtFromNmiBody = (c : Processor) (words : NatMap ℕ) (v t : ℕ) → is_user c ≡ false → v ≢ 2 → v ≢ 8 → rsp c ≡ t - 0x118 → t % 16 ≡ 0 → 0x120 ≤ t
    → new_rsp c words (gate v) ≡ t - 0x120

-- of an NMI
abbrev pub IdtOfNmi : Type 0
IdtOfNmi = (c : Processor) (words : NatMap ℕ) (t : ℕ) → ist_at words c.tss 1 ≡ t → t % 16 ≡ 0 → new_rsp c words (gate 2) ≡ t
