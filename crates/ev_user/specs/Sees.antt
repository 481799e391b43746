-- Memory in which the processor's user code sees what the abstract machine's sees. Own.
use Rattle.std.specs.Prelude.{◌≡◌, ◌⊎◌, ℕ, ◌+◌, ◌-◌, ◌*◌, ◌/◌, ◌<◌, ◌≤◌, true, if◌then◌else◌, Option, Some, None}
use Rattle.ev_isa.specs.Word.{NatMap, NatSet, put_at, is_aligned}
use Rattle.ev_isa.specs.Pages.{text_base, page_base, UserMemory}
use Rattle.ev_body.specs.declared.image.Image.{Image}
use Rattle.ev_mem.specs.Memory.{Memory, page_map}
use Rattle.ev_concrete.specs.Opening.{regions}
use Rattle.ev_fetch.specs.Claims.{HoldsText}
use Rattle.ev_user.specs.Words.{HoldsWords}

-- addresses of the data pages
abbrev pub IsPageWord : ℕ → Type 0
IsPageWord a = (page_base ≤ a) × (a < page_base + 0x1000 * 256)

-- words of the text and of the data pages
abbrev pub IsUserWord : ℕ → Type 0
IsUserWord a = (is_aligned a ≡ true)
    × (((text_base ≤ a) × (a < text_base + 0x10000)) ⊎ IsPageWord a)

-- The words agree, and are below 2^64; those of the text are the image's, and the page map has 1
-- exactly at the pages that are present.
pub record Sees (image : Image) (u : UserMemory) (m : Memory) : Type 0 where
  pub regions_are : m.regions ≡ regions image
  pub text_is : u.text ≡ image.text
  pub holds : HoldsText image.text m.words
  pub words : (a : ℕ) → IsUserWord a → m.words a ≡ u.words a
  pub held : HoldsWords u.words
  pub pages : (i : ℕ) → i < 256 → m.words (page_map + 8 * i) ≡ (if u.present i then 1 else 0)

-- ---- what a step writes: one word, with its address, or none

-- the words with it
abbrev pub with_write : NatMap ℕ → Option (ℕ × ℕ) → NatMap ℕ
with_write words None = words
with_write words (Some w) = put_at words w.0 w.1

-- it is a word of a data page that is present
abbrev pub IsWrite : NatSet → Option (ℕ × ℕ) → Type 0
IsWrite present None = Unit {0}
IsWrite present (Some w) =
    (is_aligned w.0 ≡ true) × IsPageWord w.0 × (present ((w.0 - page_base) / 0x1000) ≡ true)

-- user memory with it
abbrev pub user_written : UserMemory → Option (ℕ × ℕ) → UserMemory
user_written u w = record u { words = with_write u.words w }

-- and memory
abbrev pub written : Memory → Option (ℕ × ℕ) → Memory
written m w = record m { words = with_write m.words w }
