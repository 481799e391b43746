-- 64-bit words, addresses, maps and sets. Own, but for what is said at a definition.
use Rattle.std.specs.Prelude.{ℕ, ℤ, zero, suc, List, [], ◌∷◌, Option, Some, None, ◌+◌, ◌-◌, ◌/◌, ◌%◌, ◌^◌, Bool, true, false, ◌||◌, ◌==◌, if◌then◌else◌}
use Rattle.std.specs.Int.{w64, cast_unsigned}

-- a number modulo 2 ^ 64
abbrev pub wrap : ℕ → ℕ
wrap n = n % 2 ^ 64

-- a signed number as a 64-bit word (SDM volume 2, 2.2.1.3 and 2.2.1.5: 32-bit displacements and immediates are sign-extended)
abbrev pub sign_extend : ℤ → ℕ
sign_extend z = cast_unsigned w64 z

-- an address and a displacement, modulo 2 ^ 64
abbrev pub displaced : ℕ → ℤ → ℕ
displaced a z = wrap (a + sign_extend z)

-- bit k of a number
abbrev pub bit : ℕ → ℕ → Bool
bit k n = n / 2 ^ k % 2 == 1

-- a word with bit k alone where the flag is on
abbrev pub bit_if : ℕ → Bool → ℕ
bit_if k b = if b then 2 ^ k else 0

-- bits 63 to 47 are equal (SDM volume 1, 3.3.7.1)
abbrev pub is_canonical : ℕ → Bool
is_canonical a = (a / 2 ^ 47 == 0) || (a / 2 ^ 47 == 2 ^ 17 - 1)

-- the address of a word
abbrev pub is_aligned : ℕ → Bool
is_aligned a = a % 8 == 0

-- A map gives a value at each number, and a set tells of each number whether it is in it.
abbrev pub NatMap : Type 0 → Type 0
NatMap X = ℕ → X

-- a set of numbers
abbrev pub NatSet : Type 0
NatSet = ℕ → Bool

-- the map with the value x at k
abbrev pub put_at : {X : Type 0} → NatMap X → ℕ → X → NatMap X
put_at m k x i = elim (i == k) [ true ↦ x | false ↦ m i ]

-- the numbers in either set
abbrev pub union : NatSet → NatSet → NatSet
union s t i = s i || t i

-- the empty set
abbrev pub no_numbers : NatSet
no_numbers i = false

-- the greatest number below n that is in the set
abbrev pub greatest_below : ℕ → NatSet → Option ℕ
greatest_below zero s = None
greatest_below (suc n) s = elim (s n) [ true ↦ Some n | false ↦ greatest_below n s ]

-- a set and a map that lists name: the numbers of the list, and the value of the first pair with that number, else 0
abbrev pub members : List ℕ → NatSet
members [] i = false
members (n ∷ ns) i = (i == n) || members ns i

-- the map of these pairs, which is 0 elsewhere
abbrev pub values : List (ℕ × ℕ) → NatMap ℕ
values [] i = 0
values (e ∷ es) i = if i == e.0 then e.1 else values es i

-- the numbers from n on, so many
abbrev pub numbers_from : ℕ → ℕ → List ℕ
numbers_from n zero = []
numbers_from n (suc k) = n ∷ numbers_from (suc n) k
