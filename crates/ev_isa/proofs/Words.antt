-- A word that was read from bytes is written as these bytes.
use Rattle.std.proofs.Common.{◌≡◌, ℕ, ◌+◌, ◌<◌, ◌≤◌, List, ◌++◌, length, take, drop, get_or, arith, ap, ◌∙◌, sym, inl, inr, length-drop}
use Rattle.std.proofs.Math.Seq.{take-add}
use Rattle.std.proofs.lemmas.Bool.{cases_lt}
use Rattle.std.proofs.lemmas.List.{drop-drop, get_or-drop, get_or-take, get_or_past, length-take}
use Rattle.std.proofs.lemmas.Nat.{le_bytes_8}
use Rattle.std.specs.Int.{w64, from_le_bytes, to_le_bytes}

-- the first eight bytes make the number
first_eight : (xs : List ℕ) → from_le_bytes w64 xs ≡ from_le_bytes w64 (take 8 xs)
first_eight xs =
    omega (
      arith,
      get_or-take 8 xs 0 0 (omega arith),
      get_or-take 8 xs 1 0 (omega arith),
      get_or-take 8 xs 2 0 (omega arith),
      get_or-take 8 xs 3 0 (omega arith),
      get_or-take 8 xs 4 0 (omega arith),
      get_or-take 8 xs 5 0 (omega arith),
      get_or-take 8 xs 6 0 (omega arith),
      get_or-take 8 xs 7 0 (omega arith),
    )

small_part : (xs : List ℕ) → ((i : ℕ) → get_or xs i 0 < 256) → length (take 8 xs) ≡ 8 → (i : ℕ) → get_or (take 8 xs) i 0 < 256
small_part xs small len i = elim (cases_lt i 8) [
  | inl below ↦ omega (arith, small i, get_or-take 8 xs i 0 below)
  | inr above ↦ omega (arith, get_or_past (take 8 xs) i 0 (omega arith))
]

-- the bytes of the word that stands at a place
pub word_back : (n : ℕ) (bytes : List ℕ) → ((i : ℕ) → get_or bytes i 0 < 256) → n + 8 ≤ length bytes
    → to_le_bytes w64 (from_le_bytes w64 (drop n bytes)) ≡ take 8 (drop n bytes)
word_back n bytes small h =
    let len : length (take 8 (drop n bytes)) ≡ 8 = omega (arith, length-take 8 (drop n bytes), length-drop n bytes) in
    le_bytes_8 (take 8 (drop n bytes)) (from_le_bytes w64 (drop n bytes)) len
    (small_part (drop n bytes) (λ i. omega (arith, small (n + i), get_or-drop n bytes i 0)) len) (first_eight (drop n bytes))

-- and of more bytes from there on
pub words_back : (n m : ℕ) (bytes : List ℕ) → ((i : ℕ) → get_or bytes i 0 < 256) → n + 8 ≤ length bytes
    → take (8 + m) (drop n bytes) ≡ to_le_bytes w64 (from_le_bytes w64 (drop n bytes)) ++ take m (drop (n + 8) bytes)
words_back n m bytes small h =
    take-add 8 m (drop n bytes) ∙ ap (λ (xs : List ℕ). xs ++ take m (drop 8 (drop n bytes))) (sym (word_back n bytes small h))
    ∙ ap (λ (xs : List ℕ). to_le_bytes w64 (from_le_bytes w64 (drop n bytes)) ++ take m xs) (drop-drop 8 n bytes)
