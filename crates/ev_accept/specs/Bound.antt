-- The greatest length of a legal chain as a formula: greatest values over the bodies, with no chain. Own.
-- A *room* is the greatest number of bodies of some kinds that can stand on one another.
use Rattle.std.specs.Prelude.{ℕ, zero, suc, ◌+◌, ◌-◌, ◌/◌, max, Bool, true, false, ◌&&◌, ◌==◌, if◌then◌else◌, List, [], ◌∷◌}
use Rattle.ev_body.specs.declared.key.Key.{Key}
use Rattle.ev_body.specs.declared.key.Key.TheVariants.{Bp, Pf, Irq}
use Rattle.ev_body.specs.declared.key.Side.TheVariants.{User, Kernel}
use Rattle.ev_body.specs.declared.body.Body.{Body}
use Rattle.ev_body.specs.Bodies.{covers}
use Rattle.ev_abstract.specs.Chain.{has_item, is_breakpoint, is_user_access, is_sti, is_nmi}

-- the greatest value of the bodies that pass, or 0 where none does
abbrev pub greatest : (Body → Bool) → (Body → ℕ) → List Body → ℕ
greatest test value [] = 0
greatest test value (b ∷ bs) = max (if test b then value b else 0) (greatest test value bs)

-- whether the key is that of breakpoints
unfoldable pub is_bp : Key → Bool
is_bp Bp = true
is_bp _ = false

-- whether the key is that of page faults
unfoldable pub is_pf : Key → Bool
is_pf Pf = true
is_pf _ = false

-- whether the key is the interrupt of a vector of the class
unfoldable pub is_class : ℕ → Key → Bool
is_class class (Irq v) = v / 16 == class
is_class class _ = false

-- the least class of an interrupt that may start on this key
unfoldable pub least_class : Key → ℕ
least_class (Irq v) = suc (v / 16)
least_class _ = 0

-- whether the body has the kernel side and a key of the kind
abbrev pub is_on_kernel : (Key → Bool) → Body → Bool
is_on_kernel test b = test b.key && covers b.side Kernel

-- of page faults
unfoldable pub pf_room : List Body → ℕ
pf_room bodies = greatest (is_on_kernel is_pf) (λ b. 1) bodies

-- of page faults on this body, where the room of page faults is given; and that of the image's bodies
abbrev pub access_by : ℕ → Body → ℕ
access_by pf b = if has_item is_user_access b then pf else 0

abbrev pub access_room : List Body → Body → ℕ
access_room bodies b = access_by (pf_room bodies) b

-- of breakpoints, each with a page fault on top
unfoldable pub bp_room : List Body → ℕ
bp_room bodies = greatest (is_on_kernel is_bp) (λ b. suc (access_room bodies b)) bodies

-- of breakpoints and page faults on this body, where both rooms are given
abbrev pub faults_by : ℕ → ℕ → Body → ℕ
faults_by bp pf b = max (if has_item is_breakpoint b then bp else 0) (access_by pf b)

-- the same of the image's bodies
unfoldable pub fault_room : List Body → Body → ℕ
fault_room bodies b = faults_by (bp_room bodies) (pf_room bodies) b

-- of an NMI, with faults on top
unfoldable pub nmi_room : List Body → ℕ
nmi_room bodies = greatest (is_on_kernel is_nmi) (λ b. suc (fault_room bodies b)) bodies

-- on this body where no NMI stands below: faults and then an NMI, or so many bodies by interrupts
abbrev pub open_by : ℕ → ℕ → ℕ → Body → ℕ
open_by faults nmi up b = max (faults + nmi) (if has_item is_sti b then up else 0)

-- the same of the image's bodies
unfoldable pub open_room : List Body → ℕ → Body → ℕ
open_room bodies up b = open_by (fault_room bodies b) (nmi_room bodies) up b

-- of interrupts of the class and those above, where the room of those above is given
unfoldable pub class_room : List Body → ℕ → ℕ → ℕ
class_room bodies class up =
    max up (greatest (is_on_kernel (is_class class)) (λ b. suc (open_room bodies up b)) bodies)

-- of interrupts of the n greatest of the 16 classes
unfoldable pub irq_room : List Body → ℕ → ℕ
irq_room bodies zero = 0
irq_room bodies (suc n) = class_room bodies (15 - n) (irq_room bodies n)

-- on a body that stands on user code: on one of an NMI faults alone
unfoldable pub entry_room : List Body → Body → ℕ
entry_room bodies b =
    if is_nmi b.key then fault_room bodies b else open_room bodies (irq_room bodies (16 - least_class b.key)) b

-- whether the body has the user side
abbrev pub is_on_user : Body → Bool
is_on_user b = covers b.side User

-- the greatest length of a legal chain
unfoldable pub bound_of : List Body → ℕ
bound_of bodies = greatest is_on_user (λ b. suc (entry_room bodies b)) bodies
