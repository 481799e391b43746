-- What comes first at a boundary (SDM volume 3, 6.9; that NMI, too, waits at the boundary after STI is own).
use Rattle.std.specs.Prelude.{ℕ, not, ◌&&◌, if◌then◌else◌, Option, Some, None}
use Rattle.ev_event.specs.declared.boundary.Boundary.{Boundary}
use Rattle.ev_event.specs.declared.boundary.Next.{Next}
use Rattle.ev_event.specs.declared.boundary.Next.TheVariants.{Debug, Nmi, Interrupt, Instruction}

abbrev pub interrupt_or_instruction : Option ℕ → Next
interrupt_or_instruction None = Instruction
interrupt_or_instruction (Some v) = Interrupt v

unfoldable pub first_of : Boundary → Next
first_of b =
    if b.debug then Debug
    else (if b.nmi && not b.nmi_blocked && not b.sti_blocked then Nmi
    else (if b.if_set && not b.sti_blocked then interrupt_or_instruction b.vector else Instruction))
