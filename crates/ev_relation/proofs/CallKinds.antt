-- Kinds of activations: that of a system call, and of another event of a task, stands on the task alone; those and that of an event of a body are no NMI's.
use Rattle.std.proofs.Common.{◌≡◌, ℕ, suc, ◌+◌, ◌*◌, Bool, true, false, List, [], ◌∷◌, length, Option, Some, None, refl, ap, ◌∙◌, arith, ◌≤◌}
use Rattle.std.specs.Prelude.{◌==◌, ◌||◌, if◌then◌else◌, slice_get}
use Rattle.std.specs.List.{list_any}
use Rattle.std.proofs.lemmas.Bool.{eqb-true}
use Rattle.ev_body.specs.declared.body.Body.{Body}
use Rattle.ev_body.specs.declared.image.Image.{Image}
use Rattle.ev_body.specs.Bodies.{key_number}
use Rattle.ev_abstract.specs.Boundary.{has_key, is_nmi_body}
use Rattle.ev_abstract.specs.Context.{BodyContext}
use Rattle.ev_concrete.specs.LiveWords.{area_bytes}
use Rattle.ev_activation.specs.Seat.{Kind, SystemCall, FromTask, FromBody, NmiFromTask, NmiFromBody, Seat, plain_room, room, key_by, key_at, kind_from, kind_of, seat_by, seat_of, room_of}
use Rattle.ev_isa.specs.Word.{NatMap}
use Rattle.ev_isa.specs.declared.mode.Mode.{Mode}
use Rattle.ev_isa.specs.declared.mode.Mode.TheVariants.{Idt, Fred}
use Rattle.ev_effect.specs.Task.{Task}
use Rattle.ev_state.specs.Processor.{Processor}
use Rattle.ev_mem.specs.Memory.{Memory}
use Rattle.ev_symbolic.specs.Agrees.{Env}
use Rattle.ev_blocks.specs.Shapes.{Origin, UserCode, KernelCode}
use Rattle.ev_blocks.specs.Blocks.{Spot}
use Rattle.ev_user.specs.Tasks.{RunsTask}
use Rattle.ev_relation.specs.Nmi.{Frame, Knows, Leads}
use Rattle.ev_relation.specs.Filling.{Filling}
use Rattle.ev_relation.specs.Active.{OverTask, OverBody, Saved, SavedBody, SavedOf, Leaving, Means, Active, level_in}
use Rattle.ev_relation.specs.Relation.{Beneath, keeps_cr2, body_edges, chained, switches_at, Chain}
use Rattle.ev_relation.proofs.Domains.{with_cr2}

-- those of an activation over a task, but for NMIs
abbrev pub is_over_task : Kind → Bool
is_over_task SystemCall = true
is_over_task FromTask = true
is_over_task κ = false

-- that of an activation over a body
abbrev pub is_over_body : Kind → Bool
is_over_body FromBody = true
is_over_body κ = false

-- all but those of NMIs
abbrev pub is_plain_kind : Kind → Bool
is_plain_kind NmiFromTask = false
is_plain_kind NmiFromBody = false
is_plain_kind κ = true

pub plain_over : (κ : Kind) → is_over_task κ ≡ true → is_plain_kind κ ≡ true
plain_over SystemCall h = refl
plain_over FromTask h = refl
plain_over FromBody h = let clash : false ≡ true = h in absurd (cc)
plain_over NmiFromTask h = let clash : false ≡ true = h in absurd (cc)
plain_over NmiFromBody h = let clash : false ≡ true = h in absurd (cc)

-- what the event of an activation interrupted
abbrev pub origin_of : Kind → Origin
origin_of SystemCall = UserCode
origin_of FromTask = UserCode
origin_of NmiFromTask = UserCode
origin_of FromBody = KernelCode
origin_of NmiFromBody = KernelCode

-- its CS
abbrev pub cs_of : Origin → ℕ
cs_of UserCode = 0x33
cs_of KernelCode = 0x10

-- what stands beneath an activation stands with the CR2 that it has
pub over_any : (mode : Mode) (image : Image) (C : Processor → Type 0) (b : Bool) (w : Processor) → Beneath mode image b C w → C w
over_any mode image C true w h = h
over_any mode image C false w h = h w.cr2

-- and one with another CR2 stands where it does
pub beneath_as : (mode : Mode) (image : Image) (b : Bool) (C D : Processor → Type 0) (w : Processor)
    → ((v : Processor) → v.rip ≡ w.rip → C v → D v) → Beneath mode image b C w → Beneath mode image b D w
beneath_as mode image true C D w k h = k w refl h
beneath_as mode image false C D w k h = λ a. k (record w { cr2 = a }) refl (h a)

pub stands_alone : (image : Image) (b : BodyContext) (below : List BodyContext) → is_over_task (kind_of image b below) ≡ true → below ≡ []
stands_alone image b [] h = refl
stands_alone image b (d ∷ ds) h = pick (key_at image b == 2) h
  where
    pick : (t : Bool) → is_over_task (if t then NmiFromBody else FromBody) ≡ true → (d ∷ ds) ≡ []
    pick true k = absurd (let clash : false ≡ true = k in cc)
    pick false k = absurd (let clash : false ≡ true = k in cc)

-- over no body an activation is a task's, or an NMI's
abbrev alone_by : (call nmi : Bool) → Kind
alone_by call nmi = if call then SystemCall else (if nmi then NmiFromTask else FromTask)

pub stands_on_body : (image : Image) (b : BodyContext) → is_over_body (kind_of image b []) ≡ true → ⊥
stands_on_body image b h = pick (key_at image b == 0x100) (key_at image b == 2) h
  where
    pick : (call nmi : Bool) → is_over_body (alone_by call nmi) ≡ true → ⊥
    pick true nmi k = let clash : false ≡ true = k in cc
    pick false true k = let clash : false ≡ true = k in cc
    pick false false k = let clash : false ≡ true = k in cc

pub stands_on_task : (image : Image) (b : BodyContext) → is_plain_kind (kind_of image b []) ≡ true → is_over_task (kind_of image b []) ≡ true
stands_on_task image b h = pick (key_at image b == 0x100) (key_at image b == 2) h
  where
    pick : (call nmi : Bool) → is_plain_kind (alone_by call nmi) ≡ true → is_over_task (alone_by call nmi) ≡ true
    pick true nmi k = refl
    pick false true k = k
    pick false false k = refl

-- the key of an NMI makes it one
other_key : (key : ℕ) (below : List BodyContext) → is_plain_kind (kind_from key below) ≡ true → (key == 2) ≡ false
other_key key [] h = pick (key == 0x100) refl h
  where
    plain : (t : Bool) → is_plain_kind (if t then NmiFromTask else FromTask) ≡ true → t ≡ false
    plain true k = let clash : false ≡ true = k in absurd (cc)
    plain false k = refl

    pick : (t : Bool) → (key == 0x100) ≡ t → is_plain_kind (if t then SystemCall else (if key == 2 then NmiFromTask else FromTask)) ≡ true → (key == 2) ≡ false
    pick true q k = ap (λ n. n == 2) (eqb-true key 0x100 q)
    pick false q k = plain (key == 2) k
other_key key (d ∷ ds) h = plain (key == 2) h
  where
    plain : (t : Bool) → is_plain_kind (if t then NmiFromBody else FromBody) ≡ true → t ≡ false
    plain true k = let clash : false ≡ true = k in absurd (cc)
    plain false k = refl

no_nmi : (o : Option Body) (below : List BodyContext) → is_plain_kind (kind_from (key_by o) below) ≡ true → has_key 2 o ≡ false
no_nmi None below h = refl
no_nmi (Some b) below h = other_key (key_number b.key) below h

pub plain_no_nmi : (image : Image) (b : BodyContext) → is_over_task (kind_of image b []) ≡ true → list_any (is_nmi_body image) (b ∷ []) ≡ false
plain_no_nmi image b h = ap (λ t. t || false) (no_nmi (slice_get image.bodies b.body) [] (plain_over (kind_of image b []) h))

-- ---- contexts of which none is an NMI's

abbrev pub ArePlain : Image → List BodyContext → Type 0
ArePlain image [] = Unit {0}
ArePlain image (b ∷ below) = (is_plain_kind (kind_of image b below) ≡ true) × ArePlain image below

pub none_nmi : (image : Image) (bs : List BodyContext) → ArePlain image bs → list_any (is_nmi_body image) bs ≡ false
none_nmi image [] h = refl
none_nmi image (b ∷ below) h =
    ap (λ t. t || list_any (is_nmi_body image) below) (no_nmi (slice_get image.bodies b.body) below h.0) ∙ none_nmi image below h.1

-- the seats of these lie on the task's stack, one below the other
abbrev pub seat_under : Mode → (r n : ℕ) → Seat
seat_under mode r n = record { stack = r; used = plain_room mode * n }

-- below another one it leaves the saved area at the top
pub area_under : (mode : Mode) (r n : ℕ) → area_bytes mode ≤ (seat_under mode r (suc n)).used
area_under Fred r n = omega arith
area_under Idt r n = omega arith

pub plain_seat : (mode : Mode) (image : Image) (r : ℕ) (b : BodyContext) (below : List BodyContext) → ArePlain image (b ∷ below)
    → seat_of mode image r (b ∷ below) ≡ seat_under mode r (length below)
plain_seat mode image r b [] h = first (kind_of image b []) h.0 refl
  where
    none : 0 ≡ plain_room mode * 0
    none = omega arith

    first : (κ : Kind) → is_plain_kind κ ≡ true → kind_of image b [] ≡ κ
        → seat_by mode κ r (seat_of mode image r []) (room_of mode image []) ≡ seat_under mode r 0
    first SystemCall h q = ap (λ n. record { stack = r; used = n }) none
    first FromTask h q = ap (λ n. record { stack = r; used = n }) none
    first FromBody h q = ap (λ n. record { stack = r; used = n }) none
    first NmiFromTask h q = let clash : false ≡ true = h in absurd (cc)
    first NmiFromBody h q = let clash : false ≡ true = h in absurd (cc)
plain_seat mode image r b (d ∷ ds) h = on_body (plain_seat mode image r d ds h.1) (key_at image b == 2) h.0
  where
    room_is : (κ : Kind) → is_plain_kind κ ≡ true → room mode κ ≡ plain_room mode
    room_is SystemCall h = refl
    room_is FromTask h = refl
    room_is FromBody h = refl
    room_is NmiFromTask h = let clash : false ≡ true = h in absurd (cc)
    room_is NmiFromBody h = let clash : false ≡ true = h in absurd (cc)

    more : (mode : Mode) (n : ℕ) → plain_room mode * n + plain_room mode ≡ plain_room mode * suc n
    more Fred n = omega arith
    more Idt n = omega arith

    on_body : seat_of mode image r (d ∷ ds) ≡ seat_under mode r (length ds) → (t : Bool) → is_plain_kind (if t then NmiFromBody else FromBody) ≡ true
        → seat_by mode (if t then NmiFromBody else FromBody) r (seat_of mode image r (d ∷ ds)) (room_of mode image (d ∷ ds))
        ≡ seat_under mode r (suc (length ds))
    on_body q true k = let clash : false ≡ true = k in absurd (cc)
    on_body q false k =
        ap (λ (σ : Seat). record { stack = σ.stack; used = σ.used + room mode (kind_of image d ds) }) q
        ∙ ap (λ n. record { stack = r; used = plain_room mode * length ds + n }) (room_is (kind_of image d ds) h.1.0)
        ∙ ap (λ n. record { stack = r; used = n }) (more mode (length ds))

-- ---- what depends on the kind alone

pub means_by : (mode : Mode) (image : Image) (κ : Kind) → is_over_task κ ≡ true → (spot : Spot) (e : Env) (w : Processor) (b : BodyContext)
    (g : Option Filling) (m : NatMap ℕ)
    → OverTask mode image mode spot e w b g m → Means mode image κ spot e w b g m
means_by mode image SystemCall a spot e w b g m h = h
means_by mode image FromTask a spot e w b g m h = h
means_by mode image FromBody a spot e w b g m h = let clash : false ≡ true = a in absurd (cc)
means_by mode image NmiFromTask a spot e w b g m h = let clash : false ≡ true = a in absurd (cc)
means_by mode image NmiFromBody a spot e w b g m h = let clash : false ≡ true = a in absurd (cc)

pub means_of : (mode : Mode) (image : Image) (κ : Kind) → is_over_task κ ≡ true → (spot : Spot) (e : Env) (w : Processor) (b : BodyContext)
    (g : Option Filling) (m : NatMap ℕ)
    → Means mode image κ spot e w b g m → OverTask mode image mode spot e w b g m
means_of mode image SystemCall a spot e w b g m h = h
means_of mode image FromTask a spot e w b g m h = h
means_of mode image FromBody a spot e w b g m h = let clash : false ≡ true = a in absurd (cc)
means_of mode image NmiFromTask a spot e w b g m h = absurd h
means_of mode image NmiFromBody a spot e w b g m h = absurd h

-- only an NMI's knows of a frame
pub plain_knows : (mode : Mode) (κ : Kind) (f : Frame) → is_plain_kind κ ≡ true → (known : Bool) → Knows mode κ known f
plain_knows mode SystemCall f a known = tt
plain_knows mode FromTask f a known = tt
plain_knows mode FromBody f a known = tt
plain_knows mode NmiFromTask f a known = let clash : false ≡ true = a in absurd (cc)
plain_knows mode NmiFromBody f a known = let clash : false ≡ true = a in absurd (cc)

pub knows_nothing : (mode : Mode) (κ : Kind) (f : Frame) → is_over_task κ ≡ true → (known : Bool) → Knows mode κ known f
knows_nothing mode κ f a known = plain_knows mode κ f (plain_over κ a) known

-- no variable of an NMI's activation means anything yet
pub means_plain : (mode : Mode) (image : Image) (κ : Kind) (spot : Spot) (e : Env) (w : Processor) (b : BodyContext) (g : Option Filling) (m : NatMap ℕ)
    → Means mode image κ spot e w b g m → is_plain_kind κ ≡ true
means_plain mode image SystemCall spot e w b g m h = refl
means_plain mode image FromTask spot e w b g m h = refl
means_plain mode image FromBody spot e w b g m h = refl
means_plain mode image NmiFromTask spot e w b g m h = absurd h
means_plain mode image NmiFromBody spot e w b g m h = absurd h

pub level_of : (mode : Mode) (κ : Kind) (w : Processor) → is_over_task κ ≡ true → level_in mode κ w ≡ w.level
level_of mode SystemCall w a = refl
level_of mode FromTask w a = refl
level_of mode FromBody w a = refl
level_of mode NmiFromTask w a = refl
level_of mode NmiFromBody w a = let clash : false ≡ true = a in absurd (cc)

-- the chain of one activation
pub over_kind : (mode : Mode) (image : Image) (p left r to : ℕ) (t : Task) (f : Frame) (sw : Bool) (g : Option Filling) (w : Processor) (b : BodyContext)
    (c : Processor)
    (m : Memory)
    (κ : Kind) → is_over_task κ ≡ true → RunsTask mode image p to t w
    → Active mode image p left κ (record { stack = r; used = 0 }) f sw g w b c m
    → Beneath mode image (keeps_cr2 mode image κ)
    (λ v. Chain mode image p (body_edges mode image) r to t f (chained mode image sw []) [] [] [] v m) w
    × Leads mode p κ f w m.words
    × Active mode image p left κ (seat_by mode κ r (seat_of mode image r []) (room_of mode image [])) f (switches_at mode image sw []) g w b c m
over_kind mode image p left r to t f sw g w b c m SystemCall a task act = (λ n. (with_cr2 mode image p to t w n task, refl, refl, refl), tt, act)
over_kind mode image p left r to t f sw g w b c m FromTask a task act = (λ n. (with_cr2 mode image p to t w n task, refl, refl, refl), tt, act)
over_kind mode image p left r to t f sw g w b c m FromBody a task act = let clash : false ≡ true = a in absurd (cc)
over_kind mode image p left r to t f sw g w b c m NmiFromTask a task act = let clash : false ≡ true = a in absurd (cc)
over_kind mode image p left r to t f sw g w b c m NmiFromBody a task act = let clash : false ≡ true = a in absurd (cc)

-- ---- what gives back the processor to which it returns, and what the exit means

pub saved_task : (mode : Mode) (image : Image) (κ : Kind) → is_over_task κ ≡ true → (e : Env) (w : Processor) → SavedOf mode image (origin_of κ) e w
    → Saved mode image e.var w
saved_task mode image SystemCall a e w s = s
saved_task mode image FromTask a e w s = s
saved_task mode image FromBody a e w s = let clash : false ≡ true = a in absurd (cc)
saved_task mode image NmiFromTask a e w s = let clash : false ≡ true = a in absurd (cc)
saved_task mode image NmiFromBody a e w s = let clash : false ≡ true = a in absurd (cc)

pub saved_body : (mode : Mode) (image : Image) (κ : Kind) → is_over_body κ ≡ true → (e : Env) (w : Processor) → SavedOf mode image (origin_of κ) e w
    → SavedBody mode image e w
saved_body mode image FromBody a e w s = s
saved_body mode image SystemCall a e w s = let clash : false ≡ true = a in absurd (cc)
saved_body mode image FromTask a e w s = let clash : false ≡ true = a in absurd (cc)
saved_body mode image NmiFromTask a e w s = let clash : false ≡ true = a in absurd (cc)
saved_body mode image NmiFromBody a e w s = let clash : false ≡ true = a in absurd (cc)

pub leaves_task : (mode : Mode) (image : Image) (κ : Kind) → is_over_task κ ≡ true → (spot : Spot) (e : Env) (w : Processor) (b : BodyContext)
    (g : Option Filling) (m : NatMap ℕ)
    → (Leaving mode image UserCode e w b → OverTask mode image mode spot e w b g m) → Leaving mode image (origin_of κ) e w b → Means mode image κ spot e w b g m
leaves_task mode image SystemCall a spot e w b g m k l = k l
leaves_task mode image FromTask a spot e w b g m k l = k l
leaves_task mode image FromBody a spot e w b g m k l = let clash : false ≡ true = a in absurd (cc)
leaves_task mode image NmiFromTask a spot e w b g m k l = let clash : false ≡ true = a in absurd (cc)
leaves_task mode image NmiFromBody a spot e w b g m k l = let clash : false ≡ true = a in absurd (cc)

pub leaves_body : (mode : Mode) (image : Image) (κ : Kind) → is_over_body κ ≡ true → (spot : Spot) (e : Env) (w : Processor) (b : BodyContext)
    (g : Option Filling) (m : NatMap ℕ)
    → (Leaving mode image KernelCode e w b → OverBody mode image mode spot e w b g m) → Leaving mode image (origin_of κ) e w b
    → Means mode image κ spot e w b g m
leaves_body mode image FromBody a spot e w b g m k l = k l
leaves_body mode image SystemCall a spot e w b g m k l = let clash : false ≡ true = a in absurd (cc)
leaves_body mode image FromTask a spot e w b g m k l = let clash : false ≡ true = a in absurd (cc)
leaves_body mode image NmiFromTask a spot e w b g m k l = let clash : false ≡ true = a in absurd (cc)
leaves_body mode image NmiFromBody a spot e w b g m k l = let clash : false ≡ true = a in absurd (cc)

-- what an activation over a task and one over a body mean, by what its event interrupted
abbrev pub OverOf : Mode → Image → Origin → Mode → Spot → Env → Processor → BodyContext → Option Filling → NatMap ℕ → Type 0
OverOf mode image UserCode m spot e w b g words = OverTask mode image m spot e w b g words
OverOf mode image KernelCode m spot e w b g words = OverBody mode image m spot e w b g words

pub means_as : (mode : Mode) (image : Image) (κ : Kind) → is_plain_kind κ ≡ true → (spot : Spot) (e : Env) (w : Processor) (b : BodyContext)
    (g : Option Filling) (m : NatMap ℕ)
    → OverOf mode image (origin_of κ) mode spot e w b g m → Means mode image κ spot e w b g m
means_as mode image SystemCall a spot e w b g m h = h
means_as mode image FromTask a spot e w b g m h = h
means_as mode image FromBody a spot e w b g m h = h
means_as mode image NmiFromTask a spot e w b g m h = let clash : false ≡ true = a in absurd (cc)
means_as mode image NmiFromBody a spot e w b g m h = let clash : false ≡ true = a in absurd (cc)

pub over_as : (mode : Mode) (image : Image) (κ : Kind) (spot : Spot) (e : Env) (w : Processor) (b : BodyContext) (g : Option Filling) (m : NatMap ℕ)
    → Means mode image κ spot e w b g m → OverOf mode image (origin_of κ) mode spot e w b g m
over_as mode image SystemCall spot e w b g m h = h
over_as mode image FromTask spot e w b g m h = h
over_as mode image FromBody spot e w b g m h = h
over_as mode image NmiFromTask spot e w b g m h = absurd h
over_as mode image NmiFromBody spot e w b g m h = absurd h

-- those of one origin
pub of_task : (κ : Kind) → is_plain_kind κ ≡ true → origin_of κ ≡ UserCode → is_over_task κ ≡ true
of_task SystemCall a q = refl
of_task FromTask a q = refl
of_task FromBody a q = let clash : KernelCode ≡ UserCode = q in absurd (cc)
of_task NmiFromTask a q = a
of_task NmiFromBody a q = a

pub of_body : (κ : Kind) → is_plain_kind κ ≡ true → origin_of κ ≡ KernelCode → is_over_body κ ≡ true
of_body SystemCall a q = let clash : UserCode ≡ KernelCode = q in absurd (cc)
of_body FromTask a q = let clash : UserCode ≡ KernelCode = q in absurd (cc)
of_body FromBody a q = refl
of_body NmiFromTask a q = a
of_body NmiFromBody a q = a

-- the stack level of one that is no NMI's is that of what it interrupted
pub plain_level : (mode : Mode) (κ : Kind) (w : Processor) → is_plain_kind κ ≡ true → level_in mode κ w ≡ w.level
plain_level mode SystemCall w a = refl
plain_level mode FromTask w a = refl
plain_level mode FromBody w a = refl
plain_level mode NmiFromTask w a = refl
plain_level mode NmiFromBody w a = let clash : false ≡ true = a in absurd (cc)
