-- Kinds of activations, told from the contexts that they stand for, and where each stands: its stack, and how much of that is in use above its frame. Own.
use Rattle.std.specs.Prelude.{ℕ, ◌+◌, ◌-◌, ◌==◌, if◌then◌else◌, List, [], ◌∷◌, Option, Some, None, slice_get}
use Rattle.ev_isa.specs.declared.mode.Mode.{Mode}
use Rattle.ev_isa.specs.declared.mode.Mode.TheVariants.{Idt, Fred}
use Rattle.ev_body.specs.declared.body.Body.{Body}
use Rattle.ev_body.specs.declared.image.Image.{Image}
use Rattle.ev_body.specs.Bodies.{key_number}
use Rattle.ev_abstract.specs.Context.{BodyContext}
use Rattle.ev_listing.specs.AddressMap.{stack_top}

-- what began an activation, and what it interrupted
pub data Kind : Type 0 where
  SystemCall FromTask FromBody NmiFromTask NmiFromBody : Kind

-- a stack of the processor, and so many bytes of it above the frame
pub record Seat : Type 0 where
  pub stack : ℕ
  pub used : ℕ

-- the number of the key of a context's body
abbrev pub key_by : Option Body → ℕ
key_by None = 0
key_by (Some b) = key_number b.key

abbrev pub key_at : Image → BodyContext → ℕ
key_at image b = key_by (slice_get image.bodies b.body)

-- the kind of the activation of a context, by its body's key and by what stands below it
abbrev pub kind_from : ℕ → List BodyContext → Kind
kind_from key [] = if key == 0x100 then SystemCall else (if key == 2 then NmiFromTask else FromTask)
kind_from key (d ∷ ds) = if key == 2 then NmiFromBody else FromBody

abbrev pub kind_of : Image → BodyContext → List BodyContext → Kind
kind_of image b below = kind_from (key_at image b) below

-- From the top of a frame down to the top of the next one on the same stack: FRED takes 40H below the saved area and clears six bits of RSP, IDT clears four;
-- the NMI code keeps two copies of its frame.
abbrev pub nmi_room : Mode → ℕ
nmi_room Fred = 0x100
nmi_room Idt = 0x120

abbrev pub plain_room : Mode → ℕ
plain_room Fred = 0x100
plain_room Idt = 0xb0

abbrev pub room : Mode → Kind → ℕ
room mode NmiFromTask = nmi_room mode
room mode NmiFromBody = nmi_room mode
room mode κ = plain_room mode

abbrev pub room_of : Mode → Image → List BodyContext → ℕ
room_of mode image [] = 0
room_of mode image (b ∷ below) = room mode (kind_of image b below)

-- An NMI of a task takes the NMI stack under IDT, and the task's under FRED.
abbrev pub nmi_seat : Mode → ℕ → Seat
nmi_seat Idt r = record { stack = 4; used = 0 }
nmi_seat Fred r = record { stack = r; used = 0 }

abbrev pub seat_by : Mode → Kind → ℕ → Seat → ℕ → Seat
seat_by mode NmiFromTask r s n = nmi_seat mode r
seat_by mode NmiFromBody r s n = record { stack = 4; used = 0 }
seat_by mode FromBody r s n = record { stack = s.stack; used = s.used + n }
seat_by mode κ r s n = record { stack = r; used = 0 }

-- the seat of the last of the contexts, where the task to which they return has number r
abbrev pub seat_of : Mode → Image → ℕ → List BodyContext → Seat
seat_of mode image r [] = record { stack = r; used = 0 }
seat_of mode image r (b ∷ below) = seat_by mode (kind_of image b below) r (seat_of mode image r below) (room_of mode image below)

-- the top of the frame there
abbrev pub top_at : ℕ → Seat → ℕ
top_at p σ = stack_top p σ.stack - σ.used
