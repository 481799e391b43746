-- The pages that user code sees, and the page faults on them (SDM volume 3, 4.7 for the error code; the addresses are own).
use Rattle.std.specs.Prelude.{ℕ, ◌+◌, ◌-◌, ◌*◌, ◌/◌, ◌^◌, Bool, true, false, ◌&&◌, nat_lt, nat_le, if◌then◌else◌, List, drop, Option, Some, None}
use Rattle.std.specs.Int.{w64, from_le_bytes}
use Rattle.ev_isa.specs.Word.{NatMap, NatSet, bit_if}

-- Where an address lies, as user code sees it.
pub data Place : Type 0 where
  Text : Place
  Page : ℕ → Place
  KernelWord : Place  -- a word of the kernel
  Lower : Place  -- any other address of the lower half
  Upper : Place  -- any other address of the upper half

-- user text begins here, and has 64 KiB
abbrev pub text_base : ℕ
text_base = 0x400000

-- the data pages begin here, 256 of 4 KiB
abbrev pub page_base : ℕ
page_base = 0x10000000

-- the place of an address for user code, which sees no difference between the kernel's words and the rest of the upper half
unfoldable pub place_of : ℕ → Place
place_of a =
    if nat_le text_base a && nat_lt a (text_base + 0x10000) then Text
    else (if nat_le page_base a && nat_lt a (page_base + 0x1000 * 256) then Page ((a - page_base) / 0x1000)
    else (if nat_lt a (2 ^ 63) then Lower else Upper))

-- what an access is, as a page fault's error code tells it
pub record Access : Type 0 where
  pub user : Bool
  pub write : Bool
  pub fetch : Bool

-- the error code: bits 0 present, 1 write, 2 user, 4 fetch
abbrev pub fault_code : Access → Bool → ℕ
fault_code a present = bit_if 0 present + bit_if 1 a.write + bit_if 2 a.user + bit_if 4 a.fetch

-- a page fault of this error code under a condition
abbrev pub fault_if : Bool → ℕ → Option ℕ
fault_if b code = if b then Some code else None

-- The error code of the page fault of an access at a place, if it has one. The text can be read and executed, a present page read and written,
-- the kernel's words belong to the kernel, and for user code the whole upper half is present and supervisor.
unfoldable pub fault_at : NatSet → Access → Place → Option ℕ
fault_at present a Text = fault_if a.write (fault_code a true)
fault_at present a (Page i) = if present i then fault_if a.fetch (fault_code a true) else Some (fault_code a false)
fault_at present a KernelWord = fault_if a.user (fault_code a true)
fault_at present a Lower = Some (fault_code a false)
fault_at present a Upper = Some (fault_code a a.user)

-- What code sees of memory: the error code of the page fault of a read or a write at an address, if it has one, and the words.
pub record View : Type 0 where
  pub fault : (write : Bool) → ℕ → Option ℕ
  pub words : NatMap ℕ

-- what user code reads and writes
pub record UserMemory : Type 0 where
  pub text : List ℕ
  pub present : NatSet
  pub words : NatMap ℕ  -- the words of the text and of the data pages, by address

-- the word of the text at an address; the unused rest of the text holds 0
unfoldable pub text_word : List ℕ → ℕ → ℕ
text_word text a = from_le_bytes w64 (drop (a - text_base) text)

-- a word of user code in the beginning: text, or 0
unfoldable pub word_at_start : List ℕ → ℕ → Place → ℕ
word_at_start text a Text = text_word text a
word_at_start text a _ = 0

-- user memory at the start: the text, and pages of 0
abbrev pub words_at_start : List ℕ → NatMap ℕ
words_at_start text a = word_at_start text a (place_of a)
