-- Symbolic states, and what a block is: its code, its opening, and the ground that it stands on.
use Rattle.std.specs.Prelude.{ℕ, ◌+◌, ◌-◌, ◌%◌, Bool, true, false, ◌&&◌, ◌==◌, nat_lt, nat_le, if◌then◌else◌, List, [], ◌∷◌, get_or, Option, Some, None}
use Rattle.ev_isa.specs.declared.instruction.Ins.{Ins}
use Rattle.ev_symbolic.specs.Value.{M, V, K, P, X, B, F, Fact, v_eq}

-- a place: a base and an offset modulo 2^64
pub record Loc : Type 0 where
  pub tag : ℕ
  pub off : ℕ

-- the base of a stack's words: the top of the activation's frame
abbrev pub top_tag : ℕ
top_tag = 16

-- the base that is 0, of absolute addresses
abbrev pub absolute_tag : ℕ
absolute_tag = 1000

abbrev pub absolute : ℕ → Loc
absolute a = record { tag = absolute_tag; off = a }

-- a word that is known
pub record Word : Type 0 where
  pub at : Loc
  pub val : V

pub record SS : Type 0 where
  pub regs : List V
  pub rip : Loc
  pub flags : F
  pub gs : V  -- the GS base
  pub kernel_gs : V
  pub selector : V  -- what the register GS holds
  pub cr2 : Option V  -- where it is told
  pub rsp0 : V  -- RSP of level 0
  pub blocked : Bool  -- the blocking by STI
  pub words : List Word  -- newest first

-- a window of memory: offsets lo to lo + len of a base, modulo 2^64
pub record Win : Type 0 where
  pub tag : ℕ
  pub lo : ℕ
  pub len : ℕ

-- a line of a listing
pub record Line : Type 0 where
  pub at : Loc
  pub ins : Ins
  pub next : Loc

-- a value that selects a descriptor, the selector in it, and the descriptor's base
pub record Descriptor : Type 0 where
  pub value : V
  pub selector : V
  pub base : V

-- what a block takes for granted, beside its opening
pub record Ground : Type 0 where
  pub known : List Win  -- where its known words lie: nobody else writes here
  pub own : List Win  -- what it writes itself, of the known
  pub shared : List Win  -- what it may write and others too: never known
  pub text : List Win  -- the code that it may jump to
  pub facts : List Fact
  pub descriptors : List Descriptor
  pub tops : List V  -- what RSP of a level may be set to
  pub fred : Bool

pub record Block : Type 0 where
  pub ground : Ground
  pub lines : List Line
  pub opening : SS
  pub steps : ℕ

-- whether a place lies in a window, and whether it is a word's
abbrev pub is_within : Win → Loc → Bool
is_within w l = (w.tag == l.tag) && (nat_lt l.off M && nat_lt ((l.off + (M - w.lo)) % M) w.len)

abbrev pub in_one : Win → Loc → Bool
in_one w l = is_within w l && (l.off % 8 == 0)

abbrev pub in_win : List Win → Loc → Bool
in_win [] l = false
in_win (w ∷ ws) l = if in_one w l then true else in_win ws l

-- the same for code, which need not be aligned
abbrev pub in_text : List Win → Loc → Bool
in_text [] l = false
in_text (w ∷ ws) l = if is_within w l then true else in_text ws l

abbrev pub loc_eq : Loc → Loc → Bool
loc_eq a b = (a.tag == b.tag) && (a.off == b.off)

-- the place that a value names
abbrev pub loc_of : V → Option Loc
loc_of (K n) = Some (absolute n)
loc_of (P t o) = Some (record { tag = t; off = o })
loc_of (X i) = None
loc_of (B o a b) = None

abbrev pub shift : Loc → ℕ → Loc
shift l n = record { tag = l.tag; off = (l.off + n) % M }

abbrev pub find : Loc → List Word → Option V
find l [] = None
find l (w ∷ ws) = if loc_eq w.at l then Some w.val else find l ws

abbrev pub without : Loc → List Word → List Word
without l [] = []
without l (w ∷ ws) = if loc_eq w.at l then without l ws else (w ∷ without l ws)

-- a word written, newest first
abbrev pub write : Loc → V → List Word → List Word
write l v ws = record { at = l; val = v } ∷ without l ws

abbrev pub sreg : SS → ℕ → V
sreg s r = get_or s.regs r (K 0)

-- below the top of the activation's frame, by at most so many bytes: asked of RSP, so that a delivery writes below what is live
abbrev pub is_on_stack : ℕ → V → Bool
is_on_stack n (P t o) = (t == top_tag) && (nat_lt o M && nat_le (M - n) o)
is_on_stack n v = false

abbrev pub is_listed : V → List V → Bool
is_listed v [] = false
is_listed v (w ∷ ws) = if v_eq w v then true else is_listed v ws

abbrev pub descriptor_of : V → List Descriptor → Option Descriptor
descriptor_of v [] = None
descriptor_of v (d ∷ ds) = if v_eq d.value v then Some d else descriptor_of v ds
