-- The return frame of an NMI under IDT: who knows its words; what stands on the bodies; and the NMI latch of the abstract machine by that of the hardware.
-- Own.
use Rattle.std.specs.Prelude.{◌≡◌, ◌≢◌, ℕ, Bool, true, false}
use Rattle.ev_isa.specs.Word.{NatMap}
use Rattle.ev_isa.specs.declared.mode.Mode.{Mode}
use Rattle.ev_isa.specs.declared.mode.Mode.TheVariants.{Idt, Fred}
use Rattle.ev_state.specs.Processor.{Processor}
use Rattle.ev_activation.specs.Seat.{Kind, NmiFromTask, NmiFromBody}

-- where the frame's words are: in the NMI code's own block, and so they are where no NMI stands
pub data Frame : Type 0 where
  Held : Frame

-- what they say else
abbrev pub FrameIs : ℕ → Frame → Processor → NatMap ℕ → Type 0
FrameIs p Held w words = Unit {0}

-- the block of an NMI's activation knows the frame exactly where nobody else is said to
abbrev pub KnowsIf : Bool → Frame → Type 0
KnowsIf true f = f ≡ Held
KnowsIf false f = f ≢ Held

-- of a kind of activation: under IDT that of an NMI
abbrev pub IfIdt : Mode → Type 0 → Type 0
IfIdt Idt P = P
IfIdt Fred P = Unit {0}

-- by the activation's kind
abbrev pub Knows : Mode → Kind → Bool → Frame → Type 0
Knows mode NmiFromTask known f = IfIdt mode (KnowsIf known f)
Knows mode NmiFromBody known f = IfIdt mode (KnowsIf known f)
Knows mode κ known f = Unit {0}

-- what the frame says, by the activation's kind
abbrev pub Leads : Mode → ℕ → Kind → Frame → Processor → NatMap ℕ → Type 0
Leads mode p NmiFromTask f w words = IfIdt mode (FrameIs p f w words)
Leads mode p NmiFromBody f w words = IfIdt mode (FrameIs p f w words)
Leads mode p κ f w words = Unit {0}

-- what stands on the bodies: nothing
pub data Layer : Type 0 where
  Plain : Layer

-- the abstract latch by the hardware's, and whether NMIs are blocked: `nmi` says that an NMI's body is among the bodies
abbrev pub LatchIs : Layer → Frame → (nmi latch blocked abstract_latch : Bool) → Type 0
LatchIs Plain Held nmi latch blocked x = (x ≡ latch) × (blocked ≡ nmi)

-- an NMI that the hardware holds may cost the edges of an inner NMI
abbrev pub inner_edges : Bool → ℕ
inner_edges true = 31
inner_edges false = 0
