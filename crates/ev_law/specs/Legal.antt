-- The invariant of runs of accepted images: what holds of the bodies on a processor, of its vectors and of
-- its calls after every line of a script. Own.
use Rattle.std.specs.Prelude.{◌≡◌, ℕ, ◌/◌, ◌≤◌, ◌<◌, Bool, true, false, not, ◌&&◌, ◌||◌, ◌==◌, if◌then◌else◌, List, [], ◌∷◌, length, take, map, Option, Some, None, slice_get}
use Rattle.std.specs.List.{list_any, list_all}
use Rattle.ev_isa.specs.Word.{NatSet}
use Rattle.ev_isa.specs.Flags.{Status}
use Rattle.ev_body.specs.declared.key.Key.{Key}
use Rattle.ev_body.specs.declared.key.Key.TheVariants.{Irq, Nmi}
use Rattle.ev_body.specs.declared.item.Item.{Item}
use Rattle.ev_body.specs.declared.item.Item.TheVariants.{Jcc}
use Rattle.ev_body.specs.declared.body.Part.{Part}
use Rattle.ev_body.specs.declared.body.Body.{Body}
use Rattle.ev_body.specs.declared.image.Image.{Image}
use Rattle.ev_body.specs.Bodies.{body_items}
use Rattle.ev_abstract.specs.Context.{CallId, BodyContext}
use Rattle.ev_abstract.specs.Machine.{Processor, Machine, processor}
use Rattle.ev_abstract.specs.CrossCall.{take_place, record_of}
use Rattle.ev_abstract.specs.Chain.{is_legal, bodies_of}
use Rattle.ev_abstract.specs.Rules.{if_at, in_function, is_inner, is_eoi, is_call_handler, is_used}

-- ---- a context at its place

-- whether the body's `eoi` stands before item i
abbrev pub is_eoi_behind : Body → ℕ → Bool
is_eoi_behind b i = list_any is_eoi (take i (body_items b))

-- the class of an interrupt's key
unfoldable pub class_of : Key → Option ℕ
class_of (Irq v) = Some (v / 16)
class_of _ = None

-- the class in service at item i: that of the body's own interrupt, until its `eoi`
abbrev pub served : Body → ℕ → Option ℕ
served b i = if is_eoi_behind b i then None else class_of b.key

-- the item at which IF and the class in service are read: in a function that of the body's `take`
abbrev pub read_at : Body → ℕ → ℕ
read_at b i = if in_function b i then take_place 0 (body_items b) else i

-- flags are known where the next item is a conditional jump
unfoldable pub has_flags_for : Option Item → Option Status → Bool
has_flags_for (Some (Jcc cond n)) None = false
has_flags_for _ _ = true

-- whether calls are left to run
abbrev pub runs_calls : List CallId → Bool
runs_calls [] = false
runs_calls (k ∷ ks) = true

-- A context of a body stands at one of its items, in a function exactly while it has calls to run.
-- IF and the class in service are what the rules read off the place.
pub record IsAt (b : Body) (c : BodyContext) : Type 0 where
  pub place : c.place < length (body_items b)
  pub interrupts : c.interrupts ≡ if_at b (read_at b c.place)
  pub flags : has_flags_for (slice_get (body_items b) c.place) c.flags ≡ true
  pub service : c.service ≡ served b (read_at b c.place)
  pub runs : runs_calls c.calls ≡ in_function b c.place

-- ---- a context on others

-- the numbers of the contexts' bodies
abbrev pub numbers : List BodyContext → List ℕ
numbers cs = map (λ (c : BodyContext). c.body) cs

-- whether a body at its place isn't inner and has not done its `eoi`
abbrev pub serves_at : ℕ → Option Body → Bool
serves_at place None = false
serves_at place (Some b) = not (is_inner b) && not (is_eoi_behind b (read_at b place))

-- the same of a context
abbrev pub is_outer_before_eoi : Image → BodyContext → Bool
is_outer_before_eoi image c = serves_at c.place (slice_get image.bodies c.body)

-- The body is legal on those below. Under a body that isn't inner no body is inner, and none has done its
-- `eoi`.
pub record IsOver (image : Image) (b : Body) (below : List BodyContext) : Type 0 where
  pub legal : is_legal (b ∷ bodies_of image (numbers below)) ≡ true
  pub outer : is_inner b ≡ false → list_all (is_outer_before_eoi image) below ≡ true

-- A context on those below it; the calls that it still has to run are known ones.
pub record IsLegalOn (image : Image) (known : CallId → Bool) (c : BodyContext)
    (below : List BodyContext) : Type 0 where
  pub body : Body
  pub is_body : slice_get image.bodies c.body ≡ Some body
  pub at : IsAt body c
  pub over : IsOver image body below
  pub calls : list_all known c.calls ≡ true

-- each context, the last one first
abbrev pub AreLegal : Image → (CallId → Bool) → List BodyContext → Type 0
AreLegal image known [] = Unit {0}
AreLegal image known (c ∷ below) = IsLegalOn image known c below × AreLegal image known below

-- ---- a processor and the machine

-- the vector is an interrupt's and no exception's, and some body has its key or sends it
pub record IsInterrupt (image : Image) (v : ℕ) : Type 0 where
  pub from : 32 ≤ v
  pub to : v < 256
  pub used : is_used image (Irq v) ≡ true

-- the vectors of a set are such
pub record AreVectors (image : Image) (s : NatSet) : Type 0 where
  pub each : (v : ℕ) → s v ≡ true → IsInterrupt image v

-- whether an NMI is latched or in the mail
abbrev pub awaits_nmi : Processor → Bool
awaits_nmi x = x.nmi || x.mail_nmi

-- a processor's bodies are legal, its vectors interrupts', its NMIs used, and its queued calls known
pub record IsLegalProcessor (image : Image) (known : CallId → Bool) (x : Processor) : Type 0 where
  pub bodies : AreLegal image known x.bodies
  pub pending : AreVectors image x.pending
  pub mail : AreVectors image x.mail
  pub nmi : awaits_nmi x ≡ true → is_used image Nmi ≡ true
  pub queue : list_all known x.queue ≡ true

-- whether the body has the function
abbrev pub has_function : ℕ → Body → Bool
has_function func b = list_any (λ (part : Part). part.func == func) b.parts

-- whether each body that takes calls has the function (where some body has it, there is one such body)
unfoldable pub declares : Image → ℕ → Bool
declares image func =
    list_all (λ (b : Body). not (is_call_handler b) || has_function func b) image.bodies

-- whether the record of a call names a function that can run
abbrev pub knows : Image → Machine → CallId → Bool
knows image m k = declares image (record_of m k).func

-- the invariant: each processor is legal
pub record Legal (image : Image) (m : Machine) : Type 0 where
  pub each : (p : ℕ) → IsLegalProcessor image (knows image m) (processor m p)
