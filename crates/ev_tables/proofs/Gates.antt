-- The two words of each gate of the opening's IDT are a handler's.
use Rattle.std.proofs.Common.{◌≡◌, ℕ, zero, suc, ◌+◌, ◌-◌, ◌*◌, ◌/◌, ◌%◌, ◌^◌, ◌<◌, ◌≤◌, Bool, true, false, List, [], ◌∷◌, ◌++◌, length, take, drop, get_or, Ok, refl, ap, sym, ◌∙◌, arith}
use Rattle.std.specs.Prelude.{◌==◌, ◌||◌, if◌then◌else◌}
use Rattle.std.specs.Int.{w64, to_le_bytes, from_le_bytes}
use Rattle.std.proofs.lemmas.Bool.{eq-eqb}
use Rattle.ev_isa.specs.Word.{is_canonical}
use Rattle.ev_isa.proofs.Bits.{flag_at, flag_small}
use Rattle.ev_isa.proofs.Words.{word_back, words_back}
use Rattle.ev_gate.specs.declared.gate.Gate.{Gate}
use Rattle.ev_gate.specs.Gate.{IsGate, gate_bytes, gate_in, kind_byte, read_gate}
use Rattle.ev_gate.proofs.GateLaws.{in_words, is_read}
use Rattle.ev_idt.specs.Tables.{IsHandler}
use Rattle.ev_listing.specs.AddressMap.{nmi_entry, vector_stub}
use Rattle.ev_concrete.specs.Opening.{gate, idt_word}

-- ---- addresses of the upper half

or_true : (b : Bool) → (b || true) ≡ true
or_true true = refl
or_true false = refl

pub upper_canonical : (a : ℕ) → 0xffff800000000000 ≤ a → a < 2 ^ 64 → is_canonical a ≡ true
upper_canonical a h k =
    ap (λ b. (a / 2 ^ 47 == 0) || b) (eq-eqb (a / 2 ^ 47) (2 ^ 17 - 1) (let e : a / 140737488355328 ≡ 131071 = omega arith in e)) ∙ or_true (a / 2 ^ 47 == 0)

-- ---- the fields of the gates

if_below : (t : Bool) (x y n : ℕ) → x < n → y < n → (if t then x else y) < n
if_below true x y n h k = h
if_below false x y n h k = k

if_from : (t : Bool) (x y n : ℕ) → n ≤ x → n ≤ y → n ≤ (if t then x else y)
if_from true x y n h k = h
if_from false x y n h k = k

offset_from : (v : ℕ) → 0xffffffff81002000 ≤ (gate v).offset
offset_from v = if_from (v == 2) nmi_entry (vector_stub v) 0xffffffff81002000 (omega arith) (omega arith)

offset_below : (v : ℕ) → v < 256 → (gate v).offset < 2 ^ 64
offset_below v h = if_below (v == 2) nmi_entry (vector_stub v) (2 ^ 64) (omega arith) (omega arith)

fields_fit : (v : ℕ) → v < 256 → IsGate (gate v)
fields_fit v h = (
  offset_below v h,
  omega arith,
  if_below (v == 2) 1 (if v == 8 then 2 else 0) 8 (omega arith) (if_below (v == 8) 2 0 8 (omega arith) (omega arith)),
  if_below (v == 3) 3 0 4 (omega arith) (omega arith),
)

-- ---- the bytes of a gate

abbrev AreBytes : List ℕ → Type 0
AreBytes [] = Unit {0}
AreBytes (x ∷ xs) = (x < 256) × AreBytes xs

byte_small : (xs : List ℕ) → AreBytes xs → (i : ℕ) → get_or xs i 0 < 256
byte_small [] h i = omega arith
byte_small (x ∷ xs) h zero = h.0
byte_small (x ∷ xs) h (suc i) = byte_small xs h.1 i

kind_small : (g : Gate) → g.dpl < 4 → kind_byte g < 256
kind_small g h =
    let t = flag_small g.trap in
    let p = flag_small g.present in
    omega (arith, flag_at 7 g.present)

bytes_small : (g : Gate) → IsGate g → (i : ℕ) → get_or (gate_bytes g) i 0 < 256
unfolding gate_bytes
bytes_small g h i =
    let k : kind_byte g < 256 = kind_small g h.3 in
    byte_small (gate_bytes g) (
      omega arith,
      (
        omega arith,
        (
          omega arith,
          (
            omega arith,
            (
              omega arith,
              (
                k,
                (
                  omega arith,
                  (omega arith, (omega arith, (omega arith, (omega arith, (omega arith, (omega arith, (omega arith, (omega arith, (omega arith, tt))))))))),
                ),
              ),
            ),
          ),
        ),
      ),
    )
    i

bytes_long : (g : Gate) → length (gate_bytes g) ≡ 16
unfolding gate_bytes
bytes_long g = refl

bytes_whole : (g : Gate) → take 16 (gate_bytes g) ≡ gate_bytes g
unfolding gate_bytes
bytes_whole g = refl

-- sixteen bytes are those of their two words
two_words : (bytes : List ℕ) → ((i : ℕ) → get_or bytes i 0 < 256) → length bytes ≡ 16
    → to_le_bytes w64 (from_le_bytes w64 bytes) ++ to_le_bytes w64 (from_le_bytes w64 (drop 8 bytes)) ≡ take 16 bytes
two_words bytes small long =
    ap (λ (xs : List ℕ). to_le_bytes w64 (from_le_bytes w64 bytes) ++ xs) (word_back 8 bytes small (omega arith))
    ∙ sym (words_back 0 8 bytes small (omega arith))

-- ---- the words of a gate

low_is : (v : ℕ) → idt_word (2 * v) ≡ from_le_bytes w64 (gate_bytes (gate v))
unfolding idt_word
low_is v =
    let half : 2 * v / 2 ≡ v = omega arith in
    let even : 2 * v % 2 ≡ 0 = omega arith in
    rw (half, even) refl

high_is : (v : ℕ) → idt_word (2 * v + 1) ≡ from_le_bytes w64 (drop 8 (gate_bytes (gate v)))
unfolding idt_word
high_is v =
    let half : (2 * v + 1) / 2 ≡ v = omega arith in
    let odd : (2 * v + 1) % 2 ≡ 1 = omega arith in
    rw (half, odd) refl

pub gate_is : (v : ℕ) → v < 256 → gate_in (idt_word (2 * v)) (idt_word (2 * v + 1)) ≡ gate v
gate_is v h = ap (λ (x : ℕ). gate_in x (idt_word (2 * v + 1))) (low_is v) ∙ ap (gate_in (from_le_bytes w64 (gate_bytes (gate v)))) (high_is v)
    ∙ in_words (gate v) (fields_fit v h)

bytes_are : (v : ℕ) → v < 256 → to_le_bytes w64 (idt_word (2 * v)) ++ to_le_bytes w64 (idt_word (2 * v + 1)) ≡ gate_bytes (gate v)
bytes_are v h =
    ap (λ (x : ℕ). to_le_bytes w64 x ++ to_le_bytes w64 (idt_word (2 * v + 1))) (low_is v)
    ∙ ap (λ (x : ℕ). to_le_bytes w64 (from_le_bytes w64 (gate_bytes (gate v))) ++ to_le_bytes w64 x) (high_is v)
    ∙ two_words (gate_bytes (gate v)) (bytes_small (gate v) (fields_fit v h)) (bytes_long (gate v))
    ∙ bytes_whole (gate v)

pub handler : (v : ℕ) → v < 256 → IsHandler (idt_word (2 * v)) (idt_word (2 * v + 1))
handler v h =
    let same : gate_in (idt_word (2 * v)) (idt_word (2 * v + 1)) ≡ gate v = gate_is v h in
    record {
      valid = ap read_gate (bytes_are v h) ∙ is_read (gate v) (fields_fit v h) ∙ ap (λ (g : Gate). Ok g) (sym same);
      present = ap (λ (g : Gate). g.present) same;
      selector = ap (λ (g : Gate). g.selector) same;
      canonical = ap (λ (g : Gate). is_canonical g.offset) same ∙ upper_canonical (gate v).offset (let from = offset_from v in omega arith) (offset_below v h);
    }
