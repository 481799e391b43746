-- What the regions and the text of a memory keep, and its words at first. Own.
use Rattle.std.specs.Prelude.{◌≡◌, ◌<◌, ◌≤◌, ◌⊎◌, ℕ, ◌+◌, ◌-◌, ◌*◌, ◌%◌, ◌^◌, Bool, true, false, if◌then◌else◌, List, [], ◌∷◌, length, drop, map, sum_by, count_by, All, Any, flat_map}
use Rattle.std.specs.Int.{w64, from_le_bytes}
use Rattle.ev_isa.specs.Word.{NatMap, is_canonical, is_aligned, numbers_from}
use Rattle.ev_mem.specs.declared.region.RegionKind.{RegionKind}
use Rattle.ev_mem.specs.declared.region.RegionKind.TheVariants.{Text, Page, Kernel}
use Rattle.ev_mem.specs.declared.region.Region.{Region}
use Rattle.ev_mem.specs.Memory.{page_map}
use Rattle.ev_mem.specs.Mapped.{is_within}

-- the region of user text
abbrev pub is_text : RegionKind → Bool
is_text Text = true
is_text _ = false

-- a region of a data page
abbrev pub is_page : RegionKind → Bool
is_page (Page i) = true
is_page _ = false

-- every address of the one lies below every address of the other
abbrev pub AreApart : Region → Region → Type 0
AreApart r s = (r.base + 8 * r.words ≤ s.base) ⊎ (s.base + 8 * s.words ≤ r.base)

-- no two regions overlap
abbrev pub AllApart : List Region → Type 0
AllApart [] = Unit {0}
AllApart (r ∷ rs) = All (AreApart r) rs × AllApart rs

-- all addresses of the region and the one after it are canonical
abbrev pub IsCanonicalRegion : Region → Type 0
IsCanonicalRegion r = (a : ℕ) → r.base ≤ a → a ≤ r.base + 8 * r.words → is_canonical a ≡ true

-- the text and the pages lie in the lower half, and the kernel's words in the upper half
abbrev pub IsInHalf : RegionKind → ℕ → ℕ → Type 0
IsInHalf Kernel base end = 2 ^ 63 ≤ base
IsInHalf _ base end = end ≤ 2 ^ 63

-- the number of a data page is below 256
abbrev pub HasPageNumber : RegionKind → Type 0
HasPageNumber (Page i) = i < 256
HasPageNumber _ = Unit {0}

-- a kernel region that begins with the page map's 256 words
abbrev pub HoldsPageMap : Region → Type 0
HoldsPageMap r = (r.base ≡ page_map) × (256 ≤ r.words) × (r.kind ≡ Kernel)

-- how many words of user text the regions have
abbrev pub words_of_text : List Region → ℕ
words_of_text rs = sum_by (λ (r : Region). if is_text r.kind then r.words else 0) rs

-- what is asked of the regions of memory, and of the text that it begins with
pub record AreRegions (regions : List Region) (text : List ℕ) : Type 0 where
  pub apart : AllApart regions
  pub one_text : count_by (λ (r : Region). is_text r.kind) regions ≤ 1
  pub aligned : All (λ (r : Region). r.base % 8 ≡ 0) regions
  pub canonical : All IsCanonicalRegion regions
  pub in_half : All (λ (r : Region). IsInHalf r.kind r.base (r.base + 8 * r.words)) regions
  pub page_numbers : All (λ (r : Region). HasPageNumber r.kind) regions
  pub page_map_held : Any (λ (r : Region). is_page r.kind ≡ true) regions → Any HoldsPageMap regions
  pub text_fits : length text ≤ 8 * words_of_text regions

-- a word of a region at first: eight bytes of the text, little-endian, or 0. The text's last word is filled up by 0.
abbrev pub first_by : RegionKind → List ℕ → ℕ → ℕ
first_by Text text offset = from_le_bytes w64 (drop offset text)
first_by _ text offset = 0

-- the word at an address in the beginning
abbrev pub first_in : List Region → List ℕ → NatMap ℕ
first_in [] text a = 0
first_in (r ∷ rs) text a = if is_within r a then first_by r.kind text (a - r.base) else first_in rs text a

-- a memory's words at first, which stand at multiples of 8
unfoldable pub first_words : List Region → List ℕ → NatMap ℕ
first_words rs text a = if is_aligned a then first_in rs text a else 0

-- the same words, one region after another
abbrev pub words_of_region : List ℕ → Region → List ℕ
words_of_region text r = map (λ (k : ℕ). first_by r.kind text (8 * k)) (numbers_from 0 r.words)

-- the words of all regions in the beginning
abbrev pub all_first_words : List Region → List ℕ → List ℕ
all_first_words rs text = flat_map (words_of_region text) rs
