-- The highest set bit of a word, by the number of its leading zeros.
use Rattle.std.proofs.Common.{◌≡◌, ◌<◌, ◌≤◌, ℕ, suc, ◌+◌, ◌-◌, ◌*◌, ◌/◌, ◌%◌, ◌^◌, ◌==◌, false, List, get_or, Option, Some, None, SomeIff, arith, ap, inl, inr, ◌∙◌, sym}
use Rattle.std.proofs.Math.Nat.{zero-div, div-eq_of_lt, div-eq_of_lt-le}
use Rattle.std.proofs.Math.Pow.{pow_mono}
use Rattle.std.proofs.lemmas.Nat.{leading_top}
use Rattle.std.proofs.lemmas.Bool.{cases_eq, cases_lt}
use Rattle.std.specs.Int.Count.{count_leading_zeros, leading_of_zero}
use Rattle.ev_isa.specs.Word.{bit}
use Rattle.ev_apic.specs.Vectors.{IsGreatestBelow, vectors_of}

pub no_bit : (k : ℕ) → bit k 0 ≡ false
no_bit k = ap (λ (n : ℕ). n % 2 == 1) (zero-div (2 ^ k))

pub top_bit : (w j : ℕ) → 2 ^ j ≤ w → w < 2 ^ suc j → j < 64 → IsGreatestBelow 64 (λ k. bit k w) (Some j)
top_bit w j low high h = (
  h,
  ap (λ (n : ℕ). n % 2 == 1) (div-eq_of_lt-le {k = 1} (2 ^ j) (omega arith) (omega arith)),
  λ u over below. let up = pow_mono {i = suc j} {j = u} over in ap (λ (n : ℕ). n % 2 == 1) (div-eq_of_lt {n = w} {m = 2 ^ u} (omega arith)),
)

-- a word's highest set bit stands behind its leading zeros
pub highest_law : (w : ℕ) → w < 2 ^ 64 → 0 < w → (j : ℕ) → count_leading_zeros 64 w + suc j ≡ 64 → IsGreatestBelow 64 (λ k. bit k w) (Some j)
highest_law w fits some j e =
    let top = leading_top 64 w some fits in
    let same : top.0 ≡ j = omega (arith, top.1, e) in
    rw (sym same) (top_bit w top.0 top.2 top.3 (omega (arith, top.1)))

-- 0 has none
pub no_highest : (w : ℕ) → w ≡ 0 → IsGreatestBelow 64 (λ k. bit k w) None
no_highest w e = λ u below. rw e (no_bit u)

-- so it is told by their number, which is 64 for 0 alone
pub highest_is : (w : ℕ) → w < 2 ^ 64 → (o : Option ℕ) → SomeIff o (count_leading_zeros 64 w ≤ 63) (63 - count_leading_zeros 64 w)
    → IsGreatestBelow 64 (λ k. bit k w) o
highest_is w fits None h = no_highest w (elim (cases_lt 0 w) [
  | inl some ↦ absurd (h (let top = leading_top 64 w some fits in omega (arith, top.1)))
  | inr none ↦ omega arith
])
highest_is w fits (Some j) h =
    highest_law w fits (elim (cases_eq w 0) [
      | inl none ↦ let all : count_leading_zeros 64 w ≡ 64 = rw none (leading_of_zero 64) in absurd (omega (arith, all, h.0))
      | inr some ↦ omega arith
    ]) j (omega (arith, h.0, h.1))

-- the greatest vector of four words is the highest set bit of the last word that has one
pub in_word : (ws : List ℕ) (n k : ℕ) → n < 4 → IsGreatestBelow 64 (λ u. bit u (get_or ws n 0)) (Some k)
    → ((u : ℕ) → 64 * suc n ≤ u → u < 256 → vectors_of ws u ≡ false) → IsGreatestBelow 256 (vectors_of ws) (Some (64 * n + k))
in_word ws n k hn g above = (
  omega (arith, g.0),
  word (64 * n + k) (omega (arith, g.0)) ∙ ap (λ (b : ℕ). bit b (get_or ws n 0)) (omega (arith, g.0)) ∙ g.1,
  λ u over below. elim (cases_lt u (64 * suc n)) [
    | inl under ↦ word u (omega (arith, g.0)) ∙ g.2 (u % 64) (omega (arith, g.0)) (omega arith)
    | inr far ↦ above u far below
  ],
)
  where
    word : (u : ℕ) → u / 64 ≡ n → vectors_of ws u ≡ bit (u % 64) (get_or ws n 0)
    word u e = ap (λ (i : ℕ). bit (u % 64) (get_or ws i 0)) e

-- a word without set bits has no vector
pub not_in_word : (ws : List ℕ) (n : ℕ) → IsGreatestBelow 64 (λ u. bit u (get_or ws n 0)) None
    → ((u : ℕ) → 64 * suc n ≤ u → u < 256 → vectors_of ws u ≡ false) → (u : ℕ) → 64 * n ≤ u → u < 256 → vectors_of ws u ≡ false
not_in_word ws n none above u from below = elim (cases_lt u (64 * suc n)) [
  | inl under ↦ ap (λ (i : ℕ). bit (u % 64) (get_or ws i 0)) (the (u / 64 ≡ n) (omega arith)) ∙ none (u % 64) (omega arith)
  | inr far ↦ above u far below
]
  where
    the : (X : Type 0) → X → X
    the X x = x
