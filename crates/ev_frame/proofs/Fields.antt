-- Fields of a word, put together by `|` and taken out again.
use Rattle.std.proofs.Common.{◌≡◌, ◌<◌, ℕ, zero, suc, ◌+◌, ◌*◌, ◌/◌, ◌%◌, ◌^◌, bit_or, refl, arith, ap, sym, ◌∙◌}
use Rattle.std.proofs.Math.Nat.{pow-suc}
use Rattle.std.proofs.lemmas.Nat.{or_shifted, or_comm, shr-shr, div-add-mod'}
use Rattle.ev_isa.specs.Word.{bit, bit_if}
use Rattle.ev_isa.proofs.Bits.{flag_at, flag_of}

-- a field above the bits of a number, and one below those of a multiple
pub or_above : (k a b : ℕ) → a < 2 ^ k → b * 2 ^ k < 2 ^ 64 → bit_or a (b * 2 ^ k % 2 ^ 64) ≡ a + b * 2 ^ k
or_above k a b ha hb =
    let whole : b * 2 ^ k % 2 ^ 64 ≡ b * 2 ^ k = omega arith in
    rw (whole, or_comm a (b * 2 ^ k), or_shifted b k a ha) (omega arith)

pub or_below : (k a b : ℕ) → a % 2 ^ k ≡ 0 → b < 2 ^ k → bit_or a b ≡ a + b
or_below k a b ha hb =
    let whole : a ≡ a / 2 ^ k * 2 ^ k = omega (arith, div-add-mod' a (2 ^ k)) in
    ap (λ (n : ℕ). bit_or n b) whole ∙ or_shifted (a / 2 ^ k) k b hb ∙ ap (λ (n : ℕ). n + b) (sym whole)

pub four_pow : (v : ℕ) → 4 ^ v ≡ 2 ^ (2 * v)
four_pow zero = refl
four_pow (suc v) =
    let two : 2 * suc v ≡ suc (suc (2 * v)) = omega arith in
    rw two (omega (arith, four_pow v, pow-suc 4 v, pow-suc 2 (suc (2 * v)), pow-suc 2 (2 * v)))

-- two bits of a word as a number
pub two_bits : (n k : ℕ) → n / 2 ^ k % 2 ^ 2 ≡ bit_if 1 (bit (k + 1) n) + bit_if 0 (bit k n)
two_bits n k =
    let low = flag_of (n / 2 ^ k % 2) (omega arith) in
    let high = flag_of (n / 2 ^ (k + 1) % 2) (omega arith) in
    let above : n / 2 ^ (k + 1) ≡ n / 2 ^ k / 2 = sym (shr-shr n k 1) in
    omega (arith, low, high, above, flag_at 1 (bit (k + 1) n))
