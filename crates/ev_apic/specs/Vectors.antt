-- Sets of vectors as four words: vector v is bit v % 64 of word v / 64 (SDM volume 3, 10.8.4, after x2APIC).
use Rattle.std.specs.Prelude.{ℕ, ◌≡◌, ◌<◌, true, false, length, Option, Some, None, ◌+◌, ◌-◌, ◌/◌, ◌%◌, ◌^◌, Bool, List, get_or, set}
use Rattle.ev_isa.specs.Word.{NatSet, bit, bit_if, greatest_below, put_at}

-- the vectors of the words
abbrev pub vectors_of : List ℕ → NatSet
vectors_of ws v = bit (v % 64) (get_or ws (v / 64) 0)

-- the word with bit k as the flag says
abbrev pub with_bit : ℕ → ℕ → Bool → ℕ
with_bit w k b = w - bit_if k (bit k w) + bit_if k b

-- the words with vector v in the set or out of it
unfoldable pub with_vector : List ℕ → ℕ → Bool → List ℕ
with_vector ws v b = set ws (v / 64) (with_bit (get_or ws (v / 64) 0) (v % 64) b)

-- what it is to be the greatest number of a set below n, and to be none
abbrev pub IsGreatestBelow : ℕ → NatSet → Option ℕ → Type 0
IsGreatestBelow n s None = (u : ℕ) → u < n → s u ≡ false
IsGreatestBelow n s (Some v) = (v < n) × (s v ≡ true) × ((u : ℕ) → v < u → u < n → s u ≡ false)

-- the law of `greatest_below`
abbrev pub GreatestIsGreatest : Type 0
GreatestIsGreatest = (n : ℕ) (s : NatSet) → IsGreatestBelow n s (greatest_below n s)

-- and of one vector put into words or taken out
abbrev pub WithVectorPuts : Type 0
WithVectorPuts =
    (ws : List ℕ) (v : ℕ) (b : Bool) → length ws ≡ 4 → ((i : ℕ) → get_or ws i 0 < 2 ^ 64) → v < 256
    → ((u : ℕ) → vectors_of (with_vector ws v b) u ≡ put_at (vectors_of ws) v b u) × (length (with_vector ws v b) ≡ 4)
    × ((i : ℕ) → get_or (with_vector ws v b) i 0 < 2 ^ 64)
