-- One bit of a word, set and cleared.
use Rattle.std.proofs.Common.{◌≡◌, ◌<◌, ◌≤◌, ◌≢◌, ℕ, zero, suc, max, ◌-◌, ◌*◌, ◌/◌, ◌%◌, ◌^◌, bit_and, bit_or, Bool, true, false, ◌||◌, ◌==◌, refl, arith, inl, inr, ap, ◌∙◌, sym}
use Rattle.std.proofs.Math.Nat.{mul-le-mul_left}
use Rattle.std.proofs.lemmas.Bool.{cases_eq}
use Rattle.std.specs.Int.{w64, bit_not, bit_at}
use Rattle.std.proofs.lemmas.Nat.{or_disjoint, or_lt, and-not, and_comm, one_shl, pow_below, div-add-mod'}
use Rattle.std.proofs.lemmas.Nat.Bits.{and_pow, bit_at-lt, bit_at_or, bit_at-pow_same, bit_at-pow_other, bit_at_set_same, bit_at_set_other, bit_at_clear_same, bit_at_clear_other, same_from_bits}
use Rattle.ev_isa.specs.Word.{bit, bit_if}
use Rattle.ev_isa.proofs.Bits.{flag_at, flag_of}
use Rattle.ev_apic.specs.Vectors.{with_bit}

-- the bit as a number
bit_is : (k n : ℕ) → bit_if k (bit k n) ≡ bit_at n k * 2 ^ k
bit_is k n =
    let flag = flag_of (n / 2 ^ k % 2) (omega arith) in
    flag_at k (bit k n) ∙ ap (λ (x : ℕ). 2 ^ k * x) flag ∙ omega arith

pub clear_bit : (n k : ℕ) → n < 2 ^ 64 → k < 64 → bit_and n (bit_not w64 (1 * 2 ^ k % 2 ^ 64)) ≡ with_bit n k false
clear_bit n k hn hk =
    rw (one_shl k 64 hk, and_comm n (2 ^ 64 - 1 - 2 ^ k))
    (omega (arith, and-not 64 (2 ^ k) n (pow_below k 64 hk) hn, and_comm (2 ^ k) n, and_pow n k, bit_is k n))

or_same : (n k : ℕ) → bit_at n k ≡ 1 → (i : ℕ) → bit_at (bit_or n (2 ^ k)) i ≡ bit_at n i
or_same n k one i = bit_at_or n (2 ^ k) i ∙ elim (cases_eq i k) [
  | inl e ↦ rw (e, one, bit_at-pow_same k) refl
  | inr ne ↦ rw (bit_at-pow_other k i ne) (omega arith)
]

-- a set bit is part of the number
low_part : (n k : ℕ) → bit_at n k ≡ 1 → 2 ^ k ≤ n
low_part n k one =
    let some : 1 ≤ n / 2 ^ k = elim (cases_eq (n / 2 ^ k) 0) [ inl none ↦ absurd (omega (arith, one, none)) | inr more ↦ omega (arith, more) ] in
    omega (arith, mul-le-mul_left (2 ^ k) some, div-add-mod' n (2 ^ k))

pub or_bit : (n k : ℕ) → k < 64 → bit_or n (1 * 2 ^ k % 2 ^ 64) ≡ with_bit n k true
or_bit n k hk =
    rw (one_shl k 64 hk) (elim (cases_eq (bit_at n k) 0) [
      | inl clear ↦
          let none : bit_if k (bit k n) ≡ 0 = bit_is k n ∙ ap (λ (x : ℕ). x * 2 ^ k) clear ∙ omega arith in
          or_disjoint n (2 ^ k) (and_pow n k ∙ rw clear (omega arith)) ∙ omega (arith, none)
      | inr set ↦
          let one : bit_at n k ≡ 1 = omega (arith, bit_at-lt n k, set) in
          let same : bit_or n (2 ^ k) ≡ n = same_from_bits (bit_or n (2 ^ k)) n (or_same n k one) in
          let part : bit_if k (bit k n) ≡ 2 ^ k = bit_is k n ∙ ap (λ (x : ℕ). x * 2 ^ k) one ∙ omega arith in
          omega (arith, same, part, low_part n k one)
    ])

-- the bits of a word with one bit set or cleared
pub bit_same : (n k : ℕ) (b : Bool) → n < 2 ^ 64 → k < 64 → bit k (with_bit n k b) ≡ b
bit_same n k true hn hk = ap (λ (x : ℕ). bit k x) (sym (or_bit n k hk)) ∙ rw (bit_at_set_same w64 n k hk) refl
bit_same n k false hn hk = ap (λ (x : ℕ). bit k x) (sym (clear_bit n k hn hk)) ∙ rw (bit_at_clear_same w64 n k hk) refl

pub bit_other : (n k j : ℕ) (b : Bool) → n < 2 ^ 64 → k < 64 → j < 64 → j ≢ k → bit j (with_bit n k b) ≡ bit j n
bit_other n k j true hn hk hj ne = ap (λ (x : ℕ). bit j x) (sym (or_bit n k hk)) ∙ rw (bit_at_set_other w64 n k hk j ne) refl
bit_other n k j false hn hk hj ne = ap (λ (x : ℕ). bit j x) (sym (clear_bit n k hn hk)) ∙ rw (bit_at_clear_other w64 n k hk j hj ne) refl

pub with_bit_fits : (n k : ℕ) (b : Bool) → n < 2 ^ 64 → k < 64 → with_bit n k b < 2 ^ 64
with_bit_fits n k true hn hk = rw (sym (or_bit n k hk), one_shl k 64 hk) (or_lt 64 n (2 ^ k) hn (pow_below k 64 hk))
with_bit_fits n k false hn hk = omega arith

-- the bits of two words together
max_test : (p q : ℕ) → p < 2 → q < 2 → (max p q == 1) ≡ ((p == 1) || (q == 1))
max_test zero zero hp hq = refl
max_test zero (suc zero) hp hq = refl
max_test (suc zero) zero hp hq = refl
max_test (suc zero) (suc zero) hp hq = refl
max_test p (suc (suc q)) hp hq = absurd (omega arith)
max_test (suc (suc p)) q hp hq = absurd (omega arith)

pub bit_of_or : (a b j : ℕ) → bit j (bit_or a b) ≡ (bit j a || bit j b)
bit_of_or a b j = rw (bit_at_or a b j) (max_test (bit_at a j) (bit_at b j) (bit_at-lt a j) (bit_at-lt b j))
