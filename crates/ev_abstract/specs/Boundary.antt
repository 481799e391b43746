-- What a processor does next (SDM volume 3, 6.9 for the priorities and 10.8.3 for the classes of vectors).
use Rattle.std.specs.Prelude.{ℕ, ◌/◌, Bool, true, false, not, ◌&&◌, nat_lt, if◌then◌else◌, List, [], ◌∷◌, Option, Some, None, slice_get, ◌==◌}
use Rattle.std.specs.List.{list_any, list_all}
use Rattle.ev_isa.specs.Word.{NatSet, greatest_below}
use Rattle.ev_body.specs.declared.body.Body.{Body}
use Rattle.ev_body.specs.declared.image.Image.{Image}
use Rattle.ev_body.specs.Bodies.{key_number}
use Rattle.ev_abstract.specs.Context.{BodyContext}
use Rattle.ev_abstract.specs.Machine.{Processor}

-- whether the body has the key of this number
abbrev pub has_key : ℕ → Option Body → Bool
has_key key None = false
has_key key (Some b) = key_number b.key == key

-- whether the context is one of an NMI body
abbrev pub is_nmi_body : Image → BodyContext → Bool
is_nmi_body image c = has_key 2 (slice_get image.bodies c.body)

-- whether interrupts are open: the last context is a task, or a body with IF on
abbrev pub open_to_interrupts : List BodyContext → Bool
open_to_interrupts [] = true
open_to_interrupts (c ∷ below) = c.interrupts

-- whether a vector's class exceeds the class in service
abbrev pub outranks : ℕ → Option ℕ → Bool
outranks vector None = true
outranks vector (Some class) = nat_lt class (vector / 16)

-- the pending vectors whose class exceeds every class in service
abbrev pub deliverable : Processor → NatSet
deliverable x v = x.pending v && list_all (λ c. outranks v c.service) x.bodies

-- What a processor does at a boundary: it takes an NMI or an interrupt, or goes on.
pub data Choice : Type 0 where
  Nmi : Choice
  Interrupt : (vector : ℕ) → Choice
  Next : Choice  -- the next instruction or item of the last context

-- the interrupt, if there is one to take
abbrev pub interrupt_or_next : Option ℕ → Choice
interrupt_or_next None = Next
interrupt_or_next (Some v) = Interrupt v

-- the choice where no NMI comes: the greatest vector that may come, where interrupts are open
abbrev pub maskable : Processor → Choice
maskable x = if open_to_interrupts x.bodies then interrupt_or_next (greatest_below 256 (deliverable x)) else Next

-- An NMI comes first, unless one of its bodies stands; then interrupts.
unfoldable pub choice : Image → Processor → Choice
choice image x = if x.nmi && not (list_any (is_nmi_body image) x.bodies) then Nmi else maskable x
