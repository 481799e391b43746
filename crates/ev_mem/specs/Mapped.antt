-- The words of each region, one region after another, and the memory that they are. Own.
use Rattle.std.specs.Prelude.{◌≡◌, ◌<◌, ℕ, ◌+◌, ◌-◌, ◌*◌, ◌/◌, ◌%◌, ◌^◌, Bool, ◌&&◌, nat_lt, nat_le, if◌then◌else◌, List, [], ◌∷◌, Option, Some, None, length, get_or, sum_by, All}
use Rattle.std.specs.Option.{option_map}
use Rattle.ev_isa.specs.Word.{NatMap, is_aligned}
use Rattle.ev_mem.specs.declared.region.Region.{Region}
use Rattle.ev_mem.specs.Memory.{Memory}

-- Memory as the program keeps it: the words of the regions, one region behind another.
pub record MappedWords : Type 0 where
  pub regions : List Region
  pub words : List ℕ

-- whether an address lies in a region
abbrev pub is_within : Region → ℕ → Bool
is_within r a = nat_le r.base a && nat_lt a (r.base + 8 * r.words)

-- how many words the regions have
abbrev pub words_in : List Region → ℕ
words_in rs = sum_by (λ (r : Region). r.words) rs

-- the place of an address among the words
abbrev pub slot_in : List Region → ℕ → Option ℕ
slot_in [] a = None
slot_in (r ∷ rs) a = if is_within r a then Some ((a - r.base) / 8) else option_map (λ (i : ℕ). r.words + i) (slot_in rs a)

-- the word of this number, or 0 where there is none
abbrev pub word_by : List ℕ → Option ℕ → ℕ
word_by ws None = 0
word_by ws (Some i) = get_or ws i 0

-- words stand at multiples of 8
abbrev pub word_in : MappedWords → NatMap ℕ
word_in m a = if is_aligned a then word_by m.words (slot_in m.regions a) else 0

-- the memory that these words are
unfoldable pub memory : MappedWords → Memory
memory m = record { regions = m.regions; words = λ a. word_in m a }

-- a region begins at a word and ends within the address space
abbrev pub IsPlaced : Region → Type 0
IsPlaced r = (r.base % 8 ≡ 0) × (r.base + 8 * r.words < 2 ^ 64)

-- what mapped words keep
pub record AreMapped (regions : List Region) (words : List ℕ) : Type 0 where
  pub whole : length words ≡ words_in regions
  pub placed : All IsPlaced regions
