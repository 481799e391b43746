-- The laws of the runs of accepted images. Own.
use Rattle.std.specs.Prelude.{◌≡◌, ◌⊎◌, ℕ, ◌/◌, ◌≤◌, ◌<◌, Bool, true, false, ◌||◌, nat_lt, List, ◌∷◌, ◌++◌, length, Option, Some, None, is_some, slice_get}
use Rattle.std.specs.List.{list_any, list_all}
use Rattle.ev_isa.specs.declared.instruction.Cond.{Cond}
use Rattle.ev_body.specs.declared.key.Key.TheVariants.{Irq, Bp, Pf, Nmi}
use Rattle.ev_body.specs.declared.item.Item.TheVariants.{Jcc}
use Rattle.ev_body.specs.declared.body.Body.{Body}
use Rattle.ev_body.specs.declared.image.Image.{Image}
use Rattle.ev_event.specs.declared.event.Event.{Event}
use Rattle.ev_effect.specs.Task.{Task}
use Rattle.ev_body.specs.declared.key.Side.{Side}
use Rattle.ev_body.specs.declared.key.Side.TheVariants.{User, Kernel}
use Rattle.ev_body.specs.Bodies.{body_items, first_body, key_number}
use Rattle.ev_body.specs.WellFormed.{IsImage}
use Rattle.ev_abstract.specs.Context.{BodyContext}
use Rattle.ev_abstract.specs.Machine.{Machine, processor, opening}
use Rattle.ev_abstract.specs.Accepted.{IsAccepted}
use Rattle.ev_abstract.specs.Chain.{is_nmi, bodies_of, has_item, is_breakpoint, is_user_access}
use Rattle.ev_abstract.specs.Delivery.{event_key}
use Rattle.ev_isa.specs.Pages.{UserMemory}
use Rattle.ev_abstract.specs.UserCode.{Raises, user_step}
use Rattle.ev_abstract.specs.Claims.{standing_bodies}
use Rattle.ev_abstract.specs.Rules.{if_at, in_function}
use Rattle.ev_abstract.specs.Script.{is_line, IsScript}
use Rattle.ev_abstract.specs.declared.script_line.Line.{Line}
use Rattle.ev_abstract.specs.Run.{line_step, run}
use Rattle.ev_law.specs.Legal.{Legal, awaits_nmi, numbers, read_at, runs_calls}

-- ---- the invariant

-- it holds at the opening, and every line of a script keeps it
abbrev pub OpeningIsLegal : Type 0
OpeningIsLegal = (image : Image) → Legal image (opening image)

abbrev pub LinesKeepLegal : Type 0
LinesKeepLegal = (image : Image) (m : Machine) (l : Line) → IsImage image → IsAccepted image
    → is_line image l ≡ true → Legal image m → Legal image (line_step image m l).0

-- so it holds after every script
abbrev pub RunsAreLegal : Type 0
RunsAreLegal = (image : Image) (script : List Line) → IsImage image → IsAccepted image
    → IsScript image script → Legal image (run image script)

-- ---- what follows of chains

-- the bound of `ev_abstract`'s claims is at most `nest`
abbrev pub NestIsEnough : Type 0
NestIsEnough = (image : Image) (script : List Line) (p : ℕ) → IsImage image → IsAccepted image
    → IsScript image script → length (standing_bodies (processor (run image script) p)) ≤ image.nest

-- ---- what follows of each vector

-- one that is pending or in the mail has a body of either side, so that its delivery enters one
abbrev pub VectorsHaveBodies : Type 0
VectorsHaveBodies = (image : Image) (script : List Line) (p v : ℕ) → IsImage image → IsAccepted image
    → IsScript image script
    → ((processor (run image script) p).pending v || (processor (run image script) p).mail v) ≡ true
    → (is_some (first_body 0 image.bodies v User) ≡ true)
    × (is_some (first_body 0 image.bodies v Kernel) ≡ true)

-- and so does an NMI that is latched or in the mail
abbrev pub NmisHaveBodies : Type 0
NmisHaveBodies = (image : Image) (script : List Line) (p : ℕ) → IsImage image → IsAccepted image
    → IsScript image script → awaits_nmi (processor (run image script) p) ≡ true
    → (is_some (first_body 0 image.bodies (key_number Nmi) User) ≡ true)
    × (is_some (first_body 0 image.bodies (key_number Nmi) Kernel) ≡ true)

-- ---- what follows of faults

-- whether some body runs on the event from the side
abbrev pub has_body_for : Image → Side → Event → Bool
has_body_for image side e = is_some (first_body 0 image.bodies (event_key e.kind e.vector) side)

-- what user code raises has a body
abbrev pub UserEventsHaveBodies : Type 0
UserEventsHaveBodies = (image : Image) (memory : UserMemory) (t : Task) (saved : ℕ) (e : Event)
    → IsImage image → IsAccepted image → user_step memory t ≡ Raises saved e → has_body_for image User e ≡ true

-- and so has what an item of a body raises: a breakpoint, or a page fault
abbrev pub BodyFaultsHaveBodies : Type 0
BodyFaultsHaveBodies = (image : Image) (n : ℕ) (b : Body) → IsImage image → IsAccepted image
    → slice_get image.bodies n ≡ Some b
    → (has_item is_breakpoint b ≡ true → is_some (first_body 0 image.bodies (key_number Bp) Kernel) ≡ true)
    × (has_item is_user_access b ≡ true → is_some (first_body 0 image.bodies (key_number Pf) Kernel) ≡ true)

-- ---- what follows of each context

-- whether the class in service of another context is lower
abbrev pub is_lower : ℕ → BodyContext → Bool
is_lower class c = lower c.service
  where
    lower : Option ℕ → Bool
    lower None = true
    lower (Some k) = nat_lt k class

-- whether an NMI body is among the contexts
abbrev pub has_nmi : Image → List BodyContext → Bool
has_nmi image cs = list_any (λ (b : Body). is_nmi b.key) (bodies_of image (numbers cs))

-- A context and those below it. It is at an item of its body, in a function while it runs calls, with IF
-- and flags as the rules say; what it has in service is its own interrupt, above all that is in service
-- below; no NMI body stands on another, and on one stand bodies of bp and pf alone.
pub record Follows (image : Image) (c : BodyContext) (below : List BodyContext) : Type 0 where
  pub body : Body
  pub is_body : slice_get image.bodies c.body ≡ Some body
  pub place : c.place < length (body_items body)
  pub interrupts : c.interrupts ≡ if_at body (read_at body c.place)
  pub flags : (cond : Cond) (n : ℕ) → slice_get (body_items body) c.place ≡ Some (Jcc cond n)
      → is_some c.flags ≡ true
  pub service : (class : ℕ) → c.service ≡ Some class
      → (v : ℕ) × (body.key ≡ Irq v) × (class ≡ v / 16)
  pub in_service : (v : ℕ) → body.key ≡ Irq v → c.interrupts ≡ true
      → c.service ≡ Some (v / 16)
  pub runs : runs_calls c.calls ≡ in_function body c.place
  pub falls : (class : ℕ) → c.service ≡ Some class → list_all (is_lower class) below ≡ true
  pub one_nmi : is_nmi body.key ≡ true → has_nmi image below ≡ false
  pub on_nmi : has_nmi image below ≡ true → (body.key ≡ Bp) ⊎ (body.key ≡ Pf)

-- of each context on a processor, after every script
abbrev pub ContextsFollow : Type 0
ContextsFollow = (image : Image) (script : List Line) (p : ℕ) (c : BodyContext)
    (above below : List BodyContext) → IsImage image → IsAccepted image → IsScript image script
    → (processor (run image script) p).bodies ≡ above ++ c ∷ below → Follows image c below
