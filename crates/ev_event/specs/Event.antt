-- Events (FRED specification, event types; SDM volume 3, table 6-1).
use Rattle.std.specs.Prelude.{ℕ, Bool, true, false, [], ◌∷◌}
use Rattle.ev_isa.specs.Word.{members}
use Rattle.ev_event.specs.declared.event.Event.{Event}
use Rattle.ev_event.specs.declared.event.EventType.{EventType}
use Rattle.ev_event.specs.declared.event.EventType.TheVariants.{External, Nmi, Hardware, SoftInt, Int1, Int3, Other}

-- the number of an event type in a FRED frame
unfoldable pub type_number : EventType → ℕ
type_number External = 0
type_number Nmi = 2
type_number Hardware = 3
type_number SoftInt = 4
type_number Int1 = 5
type_number Int3 = 6
type_number Other = 7

-- a hardware exception with its error code, and with the address of a page fault
abbrev pub exception : ℕ → ℕ → ℕ → Event
exception vector error info = record { kind = Hardware; vector = vector; error = error; info = info; length = 0 }

-- invalid opcode, stack-segment fault, general protection, page fault, alignment check
abbrev pub ud : Event
ud = exception 6 0 0

-- stack-segment fault, with its error code
abbrev pub ss : ℕ → Event
ss error = exception 12 error 0

-- general protection
abbrev pub gp : ℕ → Event
gp error = exception 13 error 0

-- page fault: its error code, and the address that CR2 and FRED's frame tell
abbrev pub pf : ℕ → ℕ → Event
pf error address = exception 14 error address

-- alignment check
abbrev pub ac : Event
ac = exception 17 0 0

-- what an instruction itself raises, with its type, vector and length
abbrev pub software : EventType → ℕ → ℕ → Event
software kind vector length = record { kind = kind; vector = vector; error = 0; info = 0; length = length }

-- NMI, and the interrupt of a vector
abbrev pub nmi_event : Event
nmi_event = record { kind = Nmi; vector = 2; error = 0; info = 0; length = 0 }

-- the external interrupt of a vector
abbrev pub interrupt_event : ℕ → Event
interrupt_event v = record { kind = External; vector = v; error = 0; info = 0; length = 0 }

-- the vectors of hardware exceptions that have an error code
abbrev pub has_error_code : ℕ → Bool
has_error_code v = members (8 ∷ 10 ∷ 11 ∷ 12 ∷ 13 ∷ 14 ∷ 17 ∷ 21 ∷ []) v

-- the type of hardware exceptions
abbrev pub is_hardware : EventType → Bool
is_hardware Hardware = true
is_hardware _ = false

-- the type of NMIs
abbrev pub is_nmi_type : EventType → Bool
is_nmi_type Nmi = true
is_nmi_type _ = false
