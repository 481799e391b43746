-- The words of CS and SS: the fields put together, and taken out again.
use Rattle.std.proofs.Common.{◌≡◌, ◌<◌, ℕ, ◌+◌, ◌*◌, ◌/◌, ◌%◌, ◌^◌, bit_or, refl, arith}
use Rattle.ev_isa.specs.Word.{bit, bit_if}
use Rattle.ev_isa.proofs.Bits.{flag_at, flag_of}
use Rattle.ev_frame.specs.declared.frame.Frame64.{Frame64}
use Rattle.ev_frame.specs.Frame.{ss_word}
use Rattle.ev_frame.proofs.Fields.{or_above}

-- the word of SS as the code puts it together
pub ss_is : (s a b c v k d e f l : ℕ) → s < 2 ^ 16 → a < 2 → b < 2 → c < 2 → v < 2 ^ 8 → k < 16 → d < 2 → e < 2 → f < 2 → l < 16
    → bit_or (bit_or (bit_or (bit_or
    (bit_or (bit_or (bit_or (bit_or (bit_or s (a * 2 ^ 16 % 2 ^ 64)) (b * 2 ^ 17 % 2 ^ 64)) (c * 2 ^ 18 % 2 ^ 64)) (v * 2 ^ 32 % 2 ^ 64))
    (k * 2 ^ 48 % 2 ^ 64)) (d * 2 ^ 56 % 2 ^ 64)) (e * 2 ^ 57 % 2 ^ 64)) (f * 2 ^ 58 % 2 ^ 64)) (l * 2 ^ 60 % 2 ^ 64)
    ≡ s + a * 2 ^ 16 + b * 2 ^ 17 + c * 2 ^ 18 + v * 2 ^ 32 + k * 2 ^ 48 + d * 2 ^ 56 + e * 2 ^ 57 + f * 2 ^ 58 + l * 2 ^ 60
ss_is s a b c v k d e f l hs ha hb hc hv hk hd he hf hl =
    rw (
      or_above 16 s a (omega arith) (omega arith),
      or_above 17 (s + a * 2 ^ 16) b (omega arith) (omega arith),
      or_above 18 (s + a * 2 ^ 16 + b * 2 ^ 17) c (omega arith) (omega arith),
      or_above 32 (s + a * 2 ^ 16 + b * 2 ^ 17 + c * 2 ^ 18) v (omega arith) (omega arith),
      or_above 48 (s + a * 2 ^ 16 + b * 2 ^ 17 + c * 2 ^ 18 + v * 2 ^ 32) k (omega arith) (omega arith),
      or_above 56 (s + a * 2 ^ 16 + b * 2 ^ 17 + c * 2 ^ 18 + v * 2 ^ 32 + k * 2 ^ 48) d (omega arith) (omega arith),
      or_above 57 (s + a * 2 ^ 16 + b * 2 ^ 17 + c * 2 ^ 18 + v * 2 ^ 32 + k * 2 ^ 48 + d * 2 ^ 56) e (omega arith) (omega arith),
      or_above 58 (s + a * 2 ^ 16 + b * 2 ^ 17 + c * 2 ^ 18 + v * 2 ^ 32 + k * 2 ^ 48 + d * 2 ^ 56 + e * 2 ^ 57) f (omega arith) (omega arith),
      or_above 60 (s + a * 2 ^ 16 + b * 2 ^ 17 + c * 2 ^ 18 + v * 2 ^ 32 + k * 2 ^ 48 + d * 2 ^ 56 + e * 2 ^ 57 + f * 2 ^ 58) l (omega arith) (omega arith),
    ) refl

-- the word of SS with its flags as numbers
pub ss_word_is : (f : Frame64)
    → f.ss + bit_if 0 f.sti * 2 ^ 16 + bit_if 0 f.software * 2 ^ 17 + bit_if 0 f.nmi * 2 ^ 18 + f.vector * 2 ^ 32 + f.kind * 2 ^ 48 + bit_if 0 f.enclave * 2
    ^ 56
    + bit_if 0 f.long * 2 ^ 57 + bit_if 0 f.nested * 2 ^ 58 + f.length * 2 ^ 60
    ≡ ss_word f
ss_word_is f = omega (arith, flag_at 16 f.sti, flag_at 17 f.software, flag_at 18 f.nmi, flag_at 56 f.enclave, flag_at 57 f.long, flag_at 58 f.nested)

-- the parts of the words
pub record CsParts (w s l t : ℕ) : Type 0 where
  pub fits : w < 2 ^ 64
  pub selector : w % 2 ^ 16 ≡ s
  pub level : w / 2 ^ 16 % 4 ≡ l
  pub wfe : w / 2 ^ 18 % 2 ≡ t
  pub stray : w / 2 ^ 19 ≡ 0

pub cs_parts : (w s l t : ℕ) → s < 2 ^ 16 → l < 4 → t < 2 → w ≡ s + 2 ^ 16 * l + 2 ^ 18 * t → CsParts w s l t
cs_parts w s l t hs hl ht e = record { fits = omega arith; selector = omega arith; level = omega arith; wfe = omega arith; stray = omega arith }

pub record SsParts (w s a b c v k d e f l : ℕ) : Type 0 where
  pub fits : w < 2 ^ 64
  pub selector : w % 2 ^ 16 ≡ s
  pub sti : w / 2 ^ 16 % 2 ≡ a
  pub software : w / 2 ^ 17 % 2 ≡ b
  pub nmi : w / 2 ^ 18 % 2 ≡ c
  pub low_stray : w / 2 ^ 19 % 2 ^ 13 ≡ 0
  pub vector : w / 2 ^ 32 % 2 ^ 8 ≡ v
  pub middle_stray : w / 2 ^ 40 % 2 ^ 8 ≡ 0
  pub kind : w / 2 ^ 48 % 2 ^ 4 ≡ k
  pub high_stray : w / 2 ^ 52 % 2 ^ 4 ≡ 0
  pub enclave : w / 2 ^ 56 % 2 ≡ d
  pub long : w / 2 ^ 57 % 2 ≡ e
  pub nested : w / 2 ^ 58 % 2 ≡ f
  pub last_stray : w / 2 ^ 59 % 2 ≡ 0
  pub length : w / 2 ^ 60 ≡ l

pub ss_parts : (w s a b c v k d e f l : ℕ) → s < 2 ^ 16 → a < 2 → b < 2 → c < 2 → v < 2 ^ 8 → k < 16 → d < 2 → e < 2 → f < 2 → l < 16
    → w ≡ s + a * 2 ^ 16 + b * 2 ^ 17 + c * 2 ^ 18 + v * 2 ^ 32 + k * 2 ^ 48 + d * 2 ^ 56 + e * 2 ^ 57 + f * 2 ^ 58 + l * 2 ^ 60 → SsParts w s a b c v k d e f l
ss_parts w s a b c v k d e f l hs ha hb hc hv hk hd he hf hl h = record {
  fits = omega arith;
  selector = omega arith;
  sti = omega arith;
  software = omega arith;
  nmi = omega arith;
  low_stray = omega arith;
  vector = omega arith;
  middle_stray = omega arith;
  kind = omega arith;
  high_stray = omega arith;
  enclave = omega arith;
  long = omega arith;
  nested = omega arith;
  last_stray = omega arith;
  length = omega arith;
}

-- the word by its parts
pub cs_back : (w : ℕ) → w / 2 ^ 19 ≡ 0 → w % 2 ^ 16 + 2 ^ 16 * (w / 2 ^ 16 % 4) + bit_if 18 (bit 18 w) ≡ w
cs_back w h = omega (arith, flag_at 18 (bit 18 w), flag_of (w / 2 ^ 18 % 2) (omega arith))

pub ss_back : (w : ℕ) → w / 2 ^ 19 % 2 ^ 13 ≡ 0 → w / 2 ^ 40 % 2 ^ 8 ≡ 0 → w / 2 ^ 52 % 2 ^ 4 ≡ 0 → w / 2 ^ 59 % 2 ≡ 0
    → w % 2 ^ 16 + bit_if 16 (bit 16 w) + bit_if 17 (bit 17 w) + bit_if 18 (bit 18 w) + 2 ^ 32 * (w / 2 ^ 32 % 2 ^ 8) + 2 ^ 48 * (w / 2 ^ 48 % 2 ^ 4)
    + bit_if 56 (bit 56 w)
    + bit_if 57 (bit 57 w) + bit_if 58 (bit 58 w) + 2 ^ 60 * (w / 2 ^ 60)
    ≡ w
ss_back w low middle high last =
    let a = flag_of (w / 2 ^ 16 % 2) (omega arith) in
    let b = flag_of (w / 2 ^ 17 % 2) (omega arith) in
    let c = flag_of (w / 2 ^ 18 % 2) (omega arith) in
    let d = flag_of (w / 2 ^ 56 % 2) (omega arith) in
    let e = flag_of (w / 2 ^ 57 % 2) (omega arith) in
    let f = flag_of (w / 2 ^ 58 % 2) (omega arith) in
    omega (
      arith,
      a,
      b,
      c,
      d,
      e,
      f,
      flag_at 16 (bit 16 w),
      flag_at 17 (bit 17 w),
      flag_at 18 (bit 18 w),
      flag_at 56 (bit 56 w),
      flag_at 57
          (bit 57 w),
      flag_at 58 (bit 58 w),
    )
