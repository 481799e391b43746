-- A word of RFLAGS is read back as the flags that it was made of.
use Rattle.std.proofs.Common.{◌≡◌, ℕ, ◌+◌, ◌*◌, ◌/◌, ◌%◌, ◌^◌, ◌<◌, Bool, true, false, refl, ap, ◌∙◌, arith}
use Rattle.std.specs.Prelude.{◌==◌, if◌then◌else◌}
use Rattle.ev_isa.specs.Word.{bit}
use Rattle.ev_isa.specs.Flags.{Flags, flags_word, flags_of}

abbrev digit : Bool → ℕ
digit b = if b then 1 else 0

-- each bit by itself, over plain numbers: for all at once omega has too many quotients
digit_0 : (c z s i o a : ℕ) → c < 2 → z < 2 → s < 2 → i < 2 → o < 2 → a < 2 → (2 + c + 64 * z + 128 * s + 512 * i + 2048 * o + 262144 * a) % 2 ≡ c
digit_0 c z s i o a hc hz hs hi ho ha = omega arith

digit_6 : (c z s i o a : ℕ) → c < 2 → z < 2 → s < 2 → i < 2 → o < 2 → a < 2 → (2 + c + 64 * z + 128 * s + 512 * i + 2048 * o + 262144 * a) / 64 % 2 ≡ z
digit_6 c z s i o a hc hz hs hi ho ha = omega arith

digit_7 : (c z s i o a : ℕ) → c < 2 → z < 2 → s < 2 → i < 2 → o < 2 → a < 2 → (2 + c + 64 * z + 128 * s + 512 * i + 2048 * o + 262144 * a) / 128 % 2 ≡ s
digit_7 c z s i o a hc hz hs hi ho ha = omega arith

digit_9 : (c z s i o a : ℕ) → c < 2 → z < 2 → s < 2 → i < 2 → o < 2 → a < 2 → (2 + c + 64 * z + 128 * s + 512 * i + 2048 * o + 262144 * a) / 512 % 2 ≡ i
digit_9 c z s i o a hc hz hs hi ho ha = omega arith

digit_11 : (c z s i o a : ℕ) → c < 2 → z < 2 → s < 2 → i < 2 → o < 2 → a < 2 → (2 + c + 64 * z + 128 * s + 512 * i + 2048 * o + 262144 * a) / 2048 % 2 ≡ o
digit_11 c z s i o a hc hz hs hi ho ha = omega arith

digit_18 : (c z s i o a : ℕ) → c < 2 → z < 2 → s < 2 → i < 2 → o < 2 → a < 2 → (2 + c + 64 * z + 128 * s + 512 * i + 2048 * o + 262144 * a) / 262144 % 2 ≡ a
digit_18 c z s i o a hc hz hs hi ho ha = omega arith

small : (b : Bool) → digit b < 2
small true = omega arith
small false = omega arith

digit_is : (b : Bool) → (digit b == 1) ≡ b
digit_is true = refl
digit_is false = refl

times : (n : ℕ) (b : Bool) → (if b then n else 0) ≡ n * digit b
times n true = omega arith
times n false = omega arith

parts : (f : Flags) → flags_word f ≡ 2 + digit f.status.carry + 64 * digit f.status.zero + 128 * digit f.status.sign + 512 * digit f.interrupts + 2048
    * digit f.status.overflow + 262144 * digit f.alignment
unfolding flags_word
parts f =
    let z = times 64 f.status.zero in
    let s = times 128 f.status.sign in
    let i = times 512 f.interrupts in
    let o = times 2048 f.status.overflow in
    let a = times 262144 f.alignment in
    omega arith

pub flags_back : (f : Flags) → flags_of (flags_word f) ≡ f
unfolding flags_of
flags_back f =
    let c = small f.status.carry in
    let z = small f.status.zero in
    let s = small f.status.sign in
    let i = small f.interrupts in
    let o = small f.status.overflow in
    let a = small f.alignment in
    let pc : bit 0 (flags_word f) ≡ f.status.carry = ap (λ n. n / 2 ^ 0 % 2 == 1) (parts f) ∙ ap (λ n. n == 1) (bit_0 _ ∙ digit_0 _ _ _ _ _ _ c z s i o a)
    ∙ digit_is f.status.carry in
    let pz : bit 6 (flags_word f) ≡ f.status.zero = ap (λ n. n / 2 ^ 6 % 2 == 1) (parts f) ∙ ap (λ n. n == 1) (digit_6 _ _ _ _ _ _ c z s i o a)
    ∙ digit_is f.status.zero in
    let ps : bit 7 (flags_word f) ≡ f.status.sign = ap (λ n. n / 2 ^ 7 % 2 == 1) (parts f) ∙ ap (λ n. n == 1) (digit_7 _ _ _ _ _ _ c z s i o a)
    ∙ digit_is f.status.sign in
    let pi : bit 9 (flags_word f) ≡ f.interrupts = ap (λ n. n / 2 ^ 9 % 2 == 1) (parts f) ∙ ap (λ n. n == 1) (digit_9 _ _ _ _ _ _ c z s i o a)
    ∙ digit_is f.interrupts in
    let po : bit 11 (flags_word f) ≡ f.status.overflow = ap (λ n. n / 2 ^ 11 % 2 == 1) (parts f) ∙ ap (λ n. n == 1) (digit_11 _ _ _ _ _ _ c z s i o a)
    ∙ digit_is f.status.overflow in
    let pa : bit 18 (flags_word f) ≡ f.alignment = ap (λ n. n / 2 ^ 18 % 2 == 1) (parts f) ∙ ap (λ n. n == 1) (digit_18 _ _ _ _ _ _ c z s i o a)
    ∙ digit_is f.alignment in
    λ j. record { status = record { carry = pc j; zero = pz j; sign = ps j; overflow = po j }; interrupts = pi j; alignment = pa j }
  where
    bit_0 : (n : ℕ) → n / 2 ^ 0 % 2 ≡ n % 2
    bit_0 n = omega arith
