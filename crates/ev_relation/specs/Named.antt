-- Words of memory that have a name: what others than one activation read or write. Each has an address, and some belong to a processor. Own.
use Rattle.std.specs.Prelude.{◌≡◌, ◌≢◌, ◌⊎◌, Bool, true, false, not, ◌&&◌, ℕ, ◌+◌, ◌*◌, ◌-◌, ◌%◌, ◌<◌, ◌≤◌, List, [], ◌∷◌, Option, Some, None}
use Rattle.ev_isa.specs.Word.{NatMap}
use Rattle.ev_mem.specs.Memory.{page_map}
use Rattle.ev_listing.specs.AddressMap.{pcpu, slot_offset, record_address, cells_base, stack_top, stack_bytes}
use Rattle.ev_abstract.specs.Context.{BodyContext, CallId}
use Rattle.ev_activation.specs.Seat.{Seat, top_at}
use Rattle.ev_user.specs.Sees.{IsPageWord, IsUserWord}

-- The words of a processor's area: SYSCALL's RSP, the top of the running task's stack and its words, the reschedule mark, the port of `log`, the head of the
-- queue of calls, the stack's top in the TSS, slots, and a word of a call record, at an offset. Then shared cells, presence of pages, behind which comes
-- a word that is no page's, and words of user code.
pub data Named : Type 0 where
  UserRsp Top Current Mark Port Head TssTop : (p : ℕ) → Named
  Slot : (p k : ℕ) → Named
  RecordWord : (p k offset : ℕ) → Named
  CellAt : (k : ℕ) → Named
  PageBit : (i : ℕ) → Named
  UserWord : (a : ℕ) → Named

-- where each stands
abbrev pub address_of : Named → ℕ
address_of (UserRsp p) = pcpu p + 8
address_of (Top p) = pcpu p + 0x10
address_of (Current p) = pcpu p + 0x18
address_of (Mark p) = pcpu p + 0x20
address_of (Port p) = pcpu p + 0x28
address_of (Head p) = pcpu p + 0x30
address_of (TssTop p) = pcpu p + 0x408
address_of (Slot p k) = pcpu p + slot_offset k
address_of (RecordWord p k o) = record_address p k + o
address_of (CellAt k) = cells_base + 8 * k
address_of (PageBit i) = page_map + 8 * i
address_of (UserWord a) = a

-- the processor that a word belongs to, where no other one writes it: those of calls belong to all
abbrev pub owner : Named → Option ℕ
owner (UserRsp p) = Some p
owner (Top p) = Some p
owner (Current p) = Some p
owner (Mark p) = Some p
owner (Port p) = Some p
owner (TssTop p) = Some p
owner (Slot p k) = Some p
owner _ = None

-- names within their bounds
abbrev pub IsName : Named → Type 0
IsName (UserRsp p) = p < 32
IsName (Top p) = p < 32
IsName (Current p) = p < 32
IsName (Mark p) = p < 32
IsName (Port p) = p < 32
IsName (Head p) = p < 32
IsName (TssTop p) = p < 32
IsName (Slot p k) = (p < 32) × (k < 64)
IsName (RecordWord p k o) = (p < 32) × (k < 8) × (o < 0x40) × (o % 8 ≡ 0)
IsName (CellAt k) = k < 256
IsName (PageBit i) = i ≤ 256
IsName (UserWord a) = IsUserWord a

-- those that are ever written: all but the text
abbrev pub IsWritten : Named → Type 0
IsWritten (UserWord a) = IsPageWord a
IsWritten x = IsName x

-- ---- which of the machines' components they are

-- the words by which the kernel names tasks, with the mark that asks for another one
abbrev pub is_task_word : Named → Bool
is_task_word (Top p) = true
is_task_word (Current p) = true
is_task_word (Mark p) = true
is_task_word (TssTop p) = true
is_task_word x = false

-- those of calls
abbrev pub is_call_word : Named → Bool
is_call_word (Head p) = true
is_call_word (RecordWord p k o) = true
is_call_word x = false

-- those that blocks of an activation know; the mark is known in exits alone, where no body stands on them
abbrev pub is_private : Named → Bool
is_private (UserRsp p) = true
is_private (Top p) = true
is_private (Current p) = true
is_private (TssTop p) = true
is_private x = false

-- slots
abbrev pub is_slot : Named → Bool
is_slot (Slot p k) = true
is_slot x = false

-- shared cells
abbrev pub is_cell : Named → Bool
is_cell (CellAt k) = true
is_cell x = false

-- presence of pages
abbrev pub is_page_bit : Named → Bool
is_page_bit (PageBit i) = true
is_page_bit x = false

-- words of user code
abbrev pub is_user_word : Named → Bool
is_user_word (UserWord a) = true
is_user_word x = false

-- whether no name is such
abbrev pub have_none : (Named → Bool) → List Named → Bool
have_none f [] = true
have_none f (x ∷ xs) = not (f x) && have_none f xs

-- an address outside an interval
abbrev pub Outside : (lo hi a : ℕ) → Type 0
Outside lo hi a = (a < lo) ⊎ (hi ≤ a)

-- an address that is in no word of these names
abbrev pub NotNamed : List Named → ℕ → Type 0
NotNamed [] a = Unit {0}
NotNamed (x ∷ xs) a = Outside (address_of x) (address_of x + 8) a × NotNamed xs a

-- each of a list
abbrev pub AreWritten : List Named → Type 0
AreWritten [] = Unit {0}
AreWritten (x ∷ xs) = IsWritten x × AreWritten xs

-- none of these words is processor q's
abbrev pub NoneOf : ℕ → List Named → Type 0
NoneOf q [] = Unit {0}
NoneOf q (x ∷ xs) = (owner x ≢ Some q) × NoneOf q xs

-- the words of a call record
abbrev pub record_names : (p k : ℕ) → List Named
record_names p k =
    RecordWord p k 0 ∷ RecordWord p k 8 ∷ RecordWord p k 0x10 ∷ RecordWord p k 0x18 ∷ RecordWord p k 0x20 ∷ RecordWord p k 0x28 ∷ RecordWord p k 0x30
    ∷ RecordWord p k 0x38 ∷ []

-- those of records among the names are of these calls
abbrev pub AreOf : (CallId → Bool) → List Named → Type 0
AreOf mine [] = Unit {0}
AreOf mine (RecordWord p k o ∷ xs) = (mine (record { from = p; site = k }) ≡ true) × AreOf mine xs
AreOf mine (x ∷ xs) = AreOf mine xs

-- A task knows none of the words, and an activation no other than its own private ones: whether what stands on these contexts may write words of the names.
abbrev pub UnknownTo : List BodyContext → List Named → Type 0
UnknownTo [] names = Unit {0}
UnknownTo (b ∷ below) names = have_none is_private names ≡ true

-- What a step of p writes, whose activation has this seat: words of its stack below the top of its frame, and words of these names.
abbrev pub Changes : ℕ → Seat → List Named → NatMap ℕ → NatMap ℕ → Type 0
Changes p σ names m n = (a : ℕ) → Outside (stack_top p σ.stack - stack_bytes) (top_at p σ) a → NotNamed names a → n a ≡ m a
