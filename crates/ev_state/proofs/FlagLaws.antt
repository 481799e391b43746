-- RFLAGS as flags and as a word.
use Rattle.std.proofs.Common.{◌≡◌, ℕ, ◌+◌, ◌*◌, ◌/◌, ◌%◌, ◌<◌, Bool, true, false, ◌==◌, arith, refl, sym, ap, ◌∙◌}
use Rattle.ev_isa.specs.Word.{bit, bit_if}
use Rattle.ev_isa.specs.Flags.{Flags, flags_word, flags_of, modelled}

-- a word with these bits
abbrev word : ℕ → ℕ → ℕ → ℕ → ℕ → ℕ → ℕ
word c z s i o a = 2 + c + 64 * z + 128 * s + 512 * i + 2048 * o + 262144 * a

bit_0 : (c z s i o a : ℕ) → c < 2 → word c z s i o a / 1 % 2 ≡ c
bit_0 c z s i o a hc = omega arith

bit_6 : (c z s i o a : ℕ) → c < 2 → z < 2 → word c z s i o a / 64 % 2 ≡ z
bit_6 c z s i o a hc hz = omega arith

bit_7 : (c z s i o a : ℕ) → c < 2 → z < 2 → s < 2 → word c z s i o a / 128 % 2 ≡ s
bit_7 c z s i o a hc hz hs = omega arith

bit_9 : (c z s i o a : ℕ) → c < 2 → z < 2 → s < 2 → i < 2 → word c z s i o a / 512 % 2 ≡ i
bit_9 c z s i o a hc hz hs hi = omega arith

bit_11 : (c z s i o a : ℕ) → c < 2 → z < 2 → s < 2 → i < 2 → o < 2 → word c z s i o a / 2048 % 2 ≡ o
bit_11 c z s i o a hc hz hs hi ho = omega arith

bit_18 : (c z s i o a : ℕ) → c < 2 → z < 2 → s < 2 → i < 2 → o < 2 → a < 2 → word c z s i o a / 262144 % 2 ≡ a
bit_18 c z s i o a hc hz hs hi ho ha = omega arith

-- a flag as a bit
abbrev number : Bool → ℕ
number true = 1
number false = 0

small : (b : Bool) → number b < 2
small true = omega arith
small false = omega arith

is_one : (b : Bool) → (number b == 1) ≡ b
is_one true = refl
is_one false = refl

times : (k : ℕ) (b : Bool) → bit_if k b ≡ bit_if k true * number b
times k true = omega arith
times k false = omega arith

word_is : (f : Flags) → flags_word f ≡ word (number f.status.carry) (number f.status.zero) (number f.status.sign) (number f.interrupts)
    (number f.status.overflow) (number f.alignment)
unfolding flags_word
word_is f = omega (
  arith,
  times 0 f.status.carry,
  times 6 f.status.zero,
  times 7 f.status.sign,
  times 9 f.interrupts,
  times 11 f.status.overflow,
  times 18
      f.alignment,
)

abbrev flags : Bool → Bool → Bool → Bool → Bool → Bool → Flags
flags c z s i o a = record { status = record { carry = c; zero = z; sign = s; overflow = o }; interrupts = i; alignment = a }

joined : (c z s i o a c' z' s' i' o' a' : Bool) → c ≡ c' → z ≡ z' → s ≡ s' → i ≡ i' → o ≡ o' → a ≡ a' → flags c z s i o a ≡ flags c' z' s' i' o' a'
joined c z s i o a c' z' s' i' o' a' hc hz hs hi ho ha = cc

-- flags go into a word and come back
pub flags_of-flags_word : (f : Flags) → flags_of (flags_word f) ≡ f
unfolding flags_of
flags_of-flags_word f =
    let c : number f.status.carry < 2 = small f.status.carry in
    let z : number f.status.zero < 2 = small f.status.zero in
    let s : number f.status.sign < 2 = small f.status.sign in
    let i : number f.interrupts < 2 = small f.interrupts in
    let o : number f.status.overflow < 2 = small f.status.overflow in
    let a : number f.alignment < 2 = small f.alignment in
    let w : flags_word f ≡ word (number f.status.carry) (number f.status.zero) (number f.status.sign) (number f.interrupts) (number f.status.overflow)
    (number f.alignment) = word_is f in
    let at_0 : bit 0 (flags_word f) ≡ f.status.carry = ap (bit 0) w ∙ ap (λ (n : ℕ). n == 1) (bit_0 _ _ _ _ _ _ c) ∙ is_one f.status.carry in
    let at_6 : bit 6 (flags_word f) ≡ f.status.zero = ap (bit 6) w ∙ ap (λ (n : ℕ). n == 1) (bit_6 _ _ _ _ _ _ c z) ∙ is_one f.status.zero in
    let at_7 : bit 7 (flags_word f) ≡ f.status.sign = ap (bit 7) w ∙ ap (λ (n : ℕ). n == 1) (bit_7 _ _ _ _ _ _ c z s) ∙ is_one f.status.sign in
    let at_9 : bit 9 (flags_word f) ≡ f.interrupts = ap (bit 9) w ∙ ap (λ (n : ℕ). n == 1) (bit_9 _ _ _ _ _ _ c z s i) ∙ is_one f.interrupts in
    let at_11 : bit 11 (flags_word f) ≡ f.status.overflow = ap (bit 11) w ∙ ap (λ (n : ℕ). n == 1) (bit_11 _ _ _ _ _ _ c z s i o) ∙ is_one f.status.overflow in
    let at_18 : bit 18 (flags_word f) ≡ f.alignment = ap (bit 18) w ∙ ap (λ (n : ℕ). n == 1) (bit_18 _ _ _ _ _ _ c z s i o a) ∙ is_one f.alignment in
    joined _ _ _ _ _ _ _ _ _ _ _ _ at_0 at_6 at_7 at_9 at_11 at_18

-- modelled bits are modelled as they are
pub modelled-modelled : (w : ℕ) → modelled (modelled w) ≡ modelled w
modelled-modelled w = ap flags_word (flags_of-flags_word (flags_of w))

pub modelled-flags_word : (f : Flags) → modelled (flags_word f) ≡ flags_word f
modelled-flags_word f = ap flags_word (flags_of-flags_word f)

-- a word of modelled bits is that of its flags
pub flags_word-flags_of : (w : ℕ) → w ≡ modelled w → flags_word (flags_of w) ≡ w
flags_word-flags_of w h = sym h

pub kept : (w : ℕ) (f : Flags) → w ≡ flags_word f → w ≡ modelled w
kept w f h = h ∙ sym (modelled-flags_word f) ∙ ap modelled (sym h)
