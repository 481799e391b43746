-- Intervals of the kernel's memory, by the part of the address map that they lie in, and windows of activations that are such intervals.
-- Two intervals of different parts are apart by their parts alone; so only those of one part are ever compared.
use Rattle.std.specs.Prelude.{◌≡◌, ◌≢◌, ℕ, ◌+◌, ◌*◌, ◌%◌, ◌<◌, ◌≤◌, Bool, true, false, ◌&&◌, ◌||◌, ◌==◌, nat_le, if◌then◌else◌, List, [], ◌∷◌}
use Rattle.ev_isa.specs.Pages.{KernelWord}
use Rattle.ev_mem.specs.declared.region.Region.{Region}
use Rattle.ev_mem.specs.Memory.{place_in}
use Rattle.ev_symbolic.specs.Value.{M}
use Rattle.ev_symbolic.specs.State.{Win}
use Rattle.ev_symbolic.specs.Agrees.{Env}

-- The areas of processors, the tables (of bodies, the IDT, the page map, the cells), the words of tasks, the stacks, and code.
pub data Part : Type 0 where
  Areas Tables Tasks Stacks Codes : Part

-- len bytes from an offset of a part on, of processor p and, in it, of task or stack n
pub record Span : Type 0 where
  pub part : Part
  pub p : ℕ
  pub n : ℕ
  pub lo : ℕ
  pub len : ℕ

-- How many processors and numbers a part has, and the bytes of each; a stack's part is the 4000H bytes below its top.
abbrev pub processors : Part → ℕ
processors Tables = 1
processors Codes = 1
processors _ = 32

abbrev pub numbers : Part → ℕ
numbers Tasks = 4
numbers Stacks = 7
numbers _ = 1

abbrev pub bytes : Part → ℕ
bytes Areas = 0x10000
bytes Tables = 0x40000
bytes Tasks = 0x40
bytes Stacks = 0x4000
bytes Codes = 0x7f000000

-- its first address
abbrev pub origin : Part → ℕ → ℕ → ℕ
origin Areas p n = 0xffff888000000000 + 0x10000 * p
origin Tables p n = 0xffff888000800000
origin Tasks p n = 0xffff888000840000 + 0x40 * (4 * p + n)
origin Stacks p n = 0xffffc90000000000 + 0x100000 * p + 0x4000 * n
origin Codes p n = 0xffffffff81000000

abbrev pub start : Span → ℕ
start s = origin s.part s.p s.n + s.lo

pub record IsSpan (s : Span) : Type 0 where
  pub processor : s.p < processors s.part
  pub number : s.n < numbers s.part
  pub fits : s.lo + s.len ≤ bytes s.part

pub record InSpan (s : Span) (a : ℕ) : Type 0 where
  pub from : start s ≤ a
  pub to : a < start s + s.len

abbrev pub part_eq : Part → Part → Bool
part_eq Areas Areas = true
part_eq Tables Tables = true
part_eq Tasks Tasks = true
part_eq Stacks Stacks = true
part_eq Codes Codes = true
part_eq a b = false

-- why two intervals of one part are apart
pub data Differ (s t : Span) : Type 0 where
  OtherProcessor : s.p ≢ t.p → Differ s t
  OtherNumber : s.n ≢ t.n → Differ s t
  Before : s.lo + s.len ≤ t.lo → Differ s t
  Behind : t.lo + t.len ≤ s.lo → Differ s t

-- a test for intervals that are apart by their parts, or by offsets that are numerals
abbrev pub plainly_apart : Span → Span → Bool
plainly_apart s t = if part_eq s.part t.part then (nat_le (s.lo + s.len) t.lo || nat_le (t.lo + t.len) s.lo) else true

abbrev pub DifferUnless : Bool → Span → Span → Type 0
DifferUnless true s t = Unit {0}
DifferUnless false s t = Differ s t

-- nothing is to be shown where the test computes to true
abbrev pub Apart : Span → Span → Type 0
Apart s t = DifferUnless (plainly_apart s t) s t

abbrev pub ApartFrom : Span → List Span → Type 0
ApartFrom s [] = Unit {0}
ApartFrom s (t ∷ ts) = Apart s t × ApartFrom s ts

abbrev pub AllApart : List Span → List Span → Type 0
AllApart [] ts = Unit {0}
AllApart (s ∷ ss) ts = ApartFrom s ts × AllApart ss ts

-- a window of an activation is an interval
pub record Located (e : Env) (w : Win) (s : Span) : Type 0 where
  pub small : w.lo < M
  pub starts : (e.base w.tag + w.lo) % M ≡ start s
  pub len : w.len ≤ s.len
  pub is : IsSpan s

abbrev pub AllLocated : Env → List Win → List Span → Type 0
AllLocated e [] [] = Unit {0}
AllLocated e (w ∷ ws) (s ∷ ss) = Located e w s × AllLocated e ws ss
AllLocated e _ _ = ⊥

-- The same for the windows of one activation, where those of one base need no proof: their places differ where their offsets do.
abbrev pub ApartUnless : Bool → Span → Span → Type 0
ApartUnless true s t = Unit {0}
ApartUnless false s t = Apart s t

abbrev pub OthersFrom : Win → Span → List Win → List Span → Type 0
OthersFrom w s [] [] = Unit {0}
OthersFrom w s (x ∷ xs) (t ∷ ts) = ApartUnless (w.tag == x.tag) s t × OthersFrom w s xs ts
OthersFrom w s _ _ = ⊥

abbrev pub OthersApart : List Win → List Span → List Win → List Span → Type 0
OthersApart [] [] xs ts = Unit {0}
OthersApart (w ∷ ws) (s ∷ ss) xs ts = OthersFrom w s xs ts × OthersApart ws ss xs ts
OthersApart _ _ xs ts = ⊥

-- words of the kernel, for these regions
abbrev pub IsCovered : List Region → Span → Type 0
IsCovered regions s = (a : ℕ) → InSpan s a → place_in regions a ≡ KernelWord

abbrev pub AllCovered : List Region → List Span → Type 0
AllCovered regions [] = Unit {0}
AllCovered regions (s ∷ ss) = IsCovered regions s × AllCovered regions ss

-- offsets that are multiples of 8
abbrev pub all_aligned : List Win → List Span → Bool
all_aligned [] [] = true
all_aligned (w ∷ ws) (s ∷ ss) = (w.lo % 8 == 0) && ((s.lo % 8 == 0) && all_aligned ws ss)
all_aligned _ _ = false
