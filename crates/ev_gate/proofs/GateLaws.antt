-- The laws of gates and their bytes.
use Rattle.std.proofs.Common.{◌≡◌, ◌<◌, ◌≤◌, ℕ, suc, ◌+◌, ◌*◌, ◌/◌, ◌%◌, ◌^◌, Bool, true, false, not, ◌||◌, nat_lt, ◌==◌, List, [], ◌∷◌, ◌++◌, length, map, take, drop, get_or, Ok, Err, refl, arith, ap, ◌∙◌, sym, if◌then◌else◌}
use Rattle.std.proofs.lemmas.Bool.{eqb-true, eqb-false, ltb-false, le-ltb}
use Rattle.std.proofs.lemmas.List.{get_or-drop}
use Rattle.std.proofs.lemmas.List.FromFn.{fill_by_all}
use Rattle.std.proofs.lemmas.List.{get_or-take, length-take}
use Rattle.std.specs.List.{range_with_len}
use Rattle.std.specs.Int.{w16, w32, w64, to_le_bytes, from_le_bytes}
use Rattle.ev_isa.specs.Word.{bit, bit_if}
use Rattle.ev_isa.proofs.Bits.{flag_at, flag_is, flag_of, flag_small}
use Rattle.ev_gate.specs.declared.gate.Gate.{Gate}
use Rattle.ev_gate.specs.declared.gate.GateFault.TheVariants.{Short, BadType, Reserved}
use Rattle.ev_gate.specs.Gate.{IsGate, gate_bytes, gate_in, kind_byte, read_gate, has_reserved, GateInWords, GateIsRead, GateIsWritten}

-- the two words of the bytes
low_word : (n s i k : ℕ) → s < 2 ^ 16 → i < 256 → k < 256
    → from_le_bytes w64 (to_le_bytes w16 (n % 2 ^ 16) ++ to_le_bytes w16 s ++ i ∷ k ∷ to_le_bytes w16 (n / 2 ^ 16 % 2 ^ 16) ++ to_le_bytes w32 (n / 2 ^ 32)
    ++ 0 ∷ 0 ∷ 0 ∷ 0 ∷ [])
    ≡ n % 2 ^ 16 + 2 ^ 16 * s + 2 ^ 32 * i + 2 ^ 40 * k + 2 ^ 48 * (n / 2 ^ 16 % 2 ^ 16)
low_word n s i k hs hi hk = omega arith

high_word : (n s i k : ℕ) → n < 2 ^ 64
    → from_le_bytes w64 (drop 8 (to_le_bytes w16 (n % 2 ^ 16) ++ to_le_bytes w16 s ++ i ∷ k ∷ to_le_bytes w16 (n / 2 ^ 16 % 2 ^ 16) ++ to_le_bytes w32
    (n / 2 ^ 32) ++ 0 ∷ 0 ∷ 0 ∷ 0 ∷ []))
    ≡ n / 2 ^ 32
high_word n s i k hn = omega arith

-- the parts of the low word, and of the type byte in it
record LowParts (low a s i k c : ℕ) : Type 0 where
  first : low % 2 ^ 16 ≡ a
  selector : low / 2 ^ 16 % 2 ^ 16 ≡ s
  ist : low / 2 ^ 32 % 8 ≡ i
  trap : low / 2 ^ 40 % 2 ≡ k % 2
  dpl : low / 2 ^ 45 % 4 ≡ k / 32 % 4
  present : low / 2 ^ 47 % 2 ≡ k / 128 % 2
  second : low / 2 ^ 48 ≡ c

low_parts : (low a s i k c : ℕ) → a < 2 ^ 16 → s < 2 ^ 16 → i < 8 → k < 256 → c < 2 ^ 16
    → low ≡ a + 2 ^ 16 * s + 2 ^ 32 * i + 2 ^ 40 * k + 2 ^ 48 * c → LowParts low a s i k c
low_parts low a s i k c ha hs hi hk hc e = record {
  first = omega arith;
  selector = omega arith;
  ist = omega arith;
  trap = omega arith;
  dpl = omega arith;
  present = omega arith;
  second = omega arith;
}

-- the gate of two words whose parts are its fields
made : (g : Gate) (low high a c : ℕ) → LowParts low a g.selector g.ist (kind_byte g) c
    → g.offset ≡ a + 2 ^ 16 * c + 2 ^ 32 * (high % 2 ^ 32) → g.dpl < 4 → gate_in low high ≡ g
unfolding gate_in
made g low high a c p e hd =
    let t = flag_small g.trap in
    let q = flag_small g.present in
    let z = flag_at 7 g.present in
    let offset : low % 2 ^ 16 + 2 ^ 16 * (low / 2 ^ 48) + 2 ^ 32 * (high % 2 ^ 32) ≡ g.offset = omega (arith, p.first, p.second) in
    let trap : bit 40 low ≡ g.trap = flag_is _ g.trap (omega (arith, p.trap)) in
    let dpl : low / 2 ^ 45 % 4 ≡ g.dpl = omega (arith, p.dpl) in
    let present : bit 47 low ≡ g.present = flag_is _ g.present (omega (arith, p.present)) in
    rw (offset, p.selector, p.ist, trap, dpl, present) refl

-- the parts of a gate's type byte
record KindParts (k t d p : ℕ) : Type 0 where
  small : k < 256
  kind : k / 2 % 8 ≡ 7
  clear : k / 2 ^ 4 % 2 ≡ 0

kind_parts : (k t d p : ℕ) → t < 2 → d < 4 → p < 2 → k ≡ 14 + t + 32 * d + 128 * p → KindParts k t d p
kind_parts k t d p ht hd hp e = record { small = omega arith; kind = omega arith; clear = omega arith }

of_gate : (g : Gate) → g.dpl < 4 → KindParts (kind_byte g) (bit_if 0 g.trap) g.dpl (bit_if 0 g.present)
of_gate g h = kind_parts _ (bit_if 0 g.trap) g.dpl (bit_if 0 g.present) (flag_small g.trap) h (flag_small g.present) (omega (arith, flag_at 7 g.present))

pub in_words : GateInWords
unfolding gate_bytes
in_words g h =
    let k : ℕ = kind_byte g in
    let kind = of_gate g h.3 in
    let low = low_word g.offset g.selector g.ist k h.1 (omega arith) kind.small in
    let high = high_word g.offset g.selector g.ist k h.0 in
    let parts = low_parts _ (g.offset % 2 ^ 16) g.selector g.ist k (g.offset / 2 ^ 16 % 2 ^ 16) (omega arith) h.1 h.2 kind.small (omega arith) low in
    let whole : g.offset ≡ g.offset % 2 ^ 16 + 2 ^ 16 * (g.offset / 2 ^ 16 % 2 ^ 16) + 2 ^ 32 * (g.offset / 2 ^ 32 % 2 ^ 32) = omega arith in
    made g _ _ (g.offset % 2 ^ 16) (g.offset / 2 ^ 16 % 2 ^ 16) parts (rw high whole) h.3

-- bytes of a gate's form
record IsForm (bytes : List ℕ) : Type 0 where
  long : 16 ≤ length bytes
  kind : get_or bytes 5 0 / 2 % 8 ≡ 7
  ist : get_or bytes 4 0 / 8 ≡ 0
  clear : get_or bytes 5 0 / 2 ^ 4 % 2 ≡ 0
  last : from_le_bytes w32 (drop 12 bytes) ≡ 0

passes : (bytes : List ℕ) → IsForm bytes → read_gate bytes ≡ Ok (gate_in (from_le_bytes w64 bytes) (from_le_bytes w64 (drop 8 bytes)))
unfolding read_gate
passes bytes f =
    let t : nat_lt (length bytes) 16 ≡ false = le-ltb (length bytes) 16 f.long in
    let r : has_reserved bytes ≡ false = rw (f.ist, f.clear, f.last) refl in
    rw (t, f.kind, r) refl

form_of : (g : Gate) → IsGate g → IsForm (gate_bytes g)
unfolding gate_bytes
form_of g h =
    let kind = of_gate g h.3 in
    record { long = omega arith; kind = kind.kind; ist = omega arith; clear = kind.clear; last = refl }

pub is_read : GateIsRead
is_read g h = passes (gate_bytes g) (form_of g h) ∙ ap (λ (x : Gate). Ok x) (in_words g h)

-- what the tests of a read said
tests : (a b c : Bool) (x g : Gate) → (if a then Err Short else (if not b then Err BadType else (if c then Err Reserved else Ok x))) ≡ Ok g
    → (a ≡ false) × (b ≡ true) × (c ≡ false) × (x ≡ g)
tests true b c x g e = cc
tests false true true x g e = cc
tests false true false x g e = (refl, refl, refl, cc)
tests false false c x g e = cc

none_reserved : (x y z : Bool) → (not x || y || not z) ≡ false → (x ≡ true) × (y ≡ false) × (z ≡ true)
none_reserved true false true e = (refl, refl, refl)
none_reserved true false false e = cc
none_reserved true true z e = cc
none_reserved false y z e = cc

accepted : (bytes : List ℕ) (g : Gate) → read_gate bytes ≡ Ok g → IsForm bytes × (gate_in (from_le_bytes w64 bytes) (from_le_bytes w64 (drop 8 bytes)) ≡ g)
unfolding read_gate
accepted bytes g e =
    let t = tests (nat_lt (length bytes) 16) (get_or bytes 5 0 / 2 % 8 == 7) (has_reserved bytes)
    (gate_in (from_le_bytes w64 bytes) (from_le_bytes w64 (drop 8 bytes))) g e in
    let r = none_reserved (get_or bytes 4 0 / 8 == 0) (bit 4 (get_or bytes 5 0)) (from_le_bytes w32 (drop 12 bytes) == 0) t.2 in
    let odd = eqb-false (get_or bytes 5 0 / 2 ^ 4 % 2) 1 r.1 in (
      record {
        long = ltb-false (length bytes) 16 t.0;
        kind = eqb-true (get_or bytes 5 0 / 2 % 8) 7 t.1;
        ist = eqb-true (get_or bytes 4 0 / 8) 0 r.0;
        clear = omega (arith, odd);
        last = eqb-true (from_le_bytes w32 (drop 12 bytes)) 0 r.2;
      },
      t.3,
    )

-- the numbers in the parts of the bytes
abbrev two : List ℕ → ℕ → ℕ
two bytes i = get_or bytes i 0 + 256 * get_or bytes (suc i) 0

abbrev four : List ℕ → ℕ → ℕ
four bytes i = two bytes i + 2 ^ 16 * two bytes (suc (suc i))

low_of : (bytes : List ℕ)
    → from_le_bytes w64 bytes ≡ two bytes 0 + 2 ^ 16 * two bytes 2 + 2 ^ 32 * get_or bytes 4 0 + 2 ^ 40 * get_or bytes 5 0 + 2 ^ 48 * two bytes 6
low_of bytes = omega arith

high_of : (bytes : List ℕ) → ((i : ℕ) → get_or bytes i 0 < 256) → from_le_bytes w64 (drop 8 bytes) % 2 ^ 32 ≡ four bytes 8
high_of bytes small =
    omega (arith, get_or-drop 8 bytes 0 0, get_or-drop 8 bytes 1 0, get_or-drop 8 bytes 2 0, get_or-drop 8 bytes 3 0, small 8, small 9, small 10, small 11)

-- the gate in the bytes, by its parts
abbrev gate_of : List ℕ → Gate
gate_of bytes = record {
  offset = two bytes 0 + 2 ^ 16 * two bytes 6 + 2 ^ 32 * four bytes 8;
  selector = two bytes 2;
  ist = get_or bytes 4 0;
  trap = get_or bytes 5 0 % 2 == 1;
  dpl = get_or bytes 5 0 / 32 % 4;
  present = get_or bytes 5 0 / 128 % 2 == 1;
}

parts_of : (bytes : List ℕ) → ((i : ℕ) → get_or bytes i 0 < 256) → IsForm bytes
    → gate_in (from_le_bytes w64 bytes) (from_le_bytes w64 (drop 8 bytes)) ≡ gate_of bytes
unfolding gate_in
parts_of bytes small f =
    let p = low_parts (from_le_bytes w64 bytes) (two bytes 0) (two bytes 2) (get_or bytes 4 0) (get_or bytes 5 0) (two bytes 6)
    (omega (arith, small 0, small 1)) (omega (arith, small 2, small 3)) (omega (arith, f.ist)) (small 5) (omega (arith, small 6, small 7)) (low_of bytes) in
    rw (p.first, p.second, high_of bytes small, p.selector, p.ist, p.trap, p.dpl, p.present) refl

record OffsetParts (n a c d : ℕ) : Type 0 where
  first : n % 2 ^ 16 ≡ a
  second : n / 2 ^ 16 % 2 ^ 16 ≡ c
  high : n / 2 ^ 32 ≡ d

offset_parts : (n a c d : ℕ) → a < 2 ^ 16 → c < 2 ^ 16 → n ≡ a + 2 ^ 16 * c + 2 ^ 32 * d → OffsetParts n a c d
offset_parts n a c d ha hc e = record { first = omega arith; second = omega arith; high = omega arith }

record TwoParts (n a b : ℕ) : Type 0 where
  low : n % 256 ≡ a
  high : n / 256 % 256 ≡ b

two_parts : (n a b : ℕ) → a < 256 → b < 256 → n ≡ a + 256 * b → TwoParts n a b
two_parts n a b ha hb e = record { low = omega arith; high = omega arith }

record FourParts (n a b c d : ℕ) : Type 0 where
  first : n % 256 ≡ a
  second : n / 256 % 256 ≡ b
  third : n / 2 ^ 16 % 256 ≡ c
  fourth : n / 2 ^ 24 % 256 ≡ d

four_parts : (n a b c d : ℕ) → a < 256 → b < 256 → c < 256 → d < 256 → n ≡ a + 256 * b + 2 ^ 16 * (c + 256 * d) → FourParts n a b c d
four_parts n a b c d ha hb hc hd e = record { first = omega arith; second = omega arith; third = omega arith; fourth = omega arith }

-- the type byte by its parts
kind_back : (k : ℕ) → k < 256 → k / 2 % 8 ≡ 7 → k / 2 ^ 4 % 2 ≡ 0 → 14 + bit_if 0 (k % 2 == 1) + 32 * (k / 32 % 4) + bit_if 7 (k / 128 % 2 == 1) ≡ k
kind_back k small kind clear =
    let t = flag_of (k % 2) (omega arith) in
    let p = flag_of (k / 128 % 2) (omega arith) in
    omega (arith, t, p, flag_at 7 (k / 128 % 2 == 1))

written : (bytes : List ℕ) → ((i : ℕ) → get_or bytes i 0 < 256) → IsForm bytes
    → gate_bytes (gate_of bytes) ≡ map (λ k. get_or bytes k 0) (range_with_len 0 16)
unfolding gate_bytes
written bytes small f =
    let o = offset_parts ((gate_of bytes).offset) (two bytes 0) (two bytes 6) (four bytes 8) (omega (arith, small 0, small 1))
    (omega (arith, small 6, small 7)) refl in
    let a = two_parts (two bytes 0) _ _ (small 0) (small 1) refl in
    let s = two_parts (two bytes 2) _ _ (small 2) (small 3) refl in
    let c = two_parts (two bytes 6) _ _ (small 6) (small 7) refl in
    let d = four_parts (four bytes 8) _ _ _ _ (small 8) (small 9) (small 10) (small 11) refl in
    let last = get_or-drop 12 bytes in
    let z0 : get_or bytes 12 0 ≡ 0 = omega (arith, f.last, last 0 0) in
    let z1 : get_or bytes 13 0 ≡ 0 = omega (arith, f.last, last 1 0) in
    let z2 : get_or bytes 14 0 ≡ 0 = omega (arith, f.last, last 2 0) in
    let z3 : get_or bytes 15 0 ≡ 0 = omega (arith, f.last, last 3 0) in
    rw (
      kind_back (get_or bytes 5 0) (small 5) f.kind f.clear,
      o.first,
      o.second,
      o.high,
      a.low,
      a.high,
      s.low,
      s.high,
      c.low,
      c.high,
      d.first,
      d.second,
      d.third,
      d.fourth,
      z0,
      z1,
      z2,
      z3,
    ) refl

fits : (bytes : List ℕ) → ((i : ℕ) → get_or bytes i 0 < 256) → IsForm bytes → IsGate (gate_of bytes)
fits bytes small f = (
  omega (arith, small 0, small 1, small 6, small 7, small 8, small 9, small 10, small 11),
  omega (arith, small 2, small 3),
  omega (arith, f.ist),
  omega arith,
)

first_bytes : (bytes : List ℕ) → 16 ≤ length bytes → map (λ k. get_or bytes k 0) (range_with_len 0 16) ≡ take 16 bytes
first_bytes bytes h =
    sym (fill_by_all (λ k. get_or bytes k 0) (take 16 bytes) 16 0 (omega (arith, length-take 16 bytes)) (λ k below. get_or-take 16 bytes k 0 below))

pub is_written : GateIsWritten
is_written bytes g small e =
    let a = accepted bytes g e in
    let same : g ≡ gate_of bytes = sym a.1 ∙ parts_of bytes small a.0 in
    rw same (fits bytes small a.0, written bytes small a.0 ∙ first_bytes bytes a.0.long)
