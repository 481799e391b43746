-- The readers of fields take what they spell.
use Rattle.std.proofs.Common.{◌≡◌, ℕ, ℤ, pos, zero, suc, ◌+◌, ◌*◌, ◌/◌, ◌%◌, ◌^◌, ◌<◌, ◌≤◌, Bool, true, false, ◌&&◌, cond, ltb, List, [], ◌∷◌, ◌++◌, length, take, drop, Result, Ok, Err, refl, sym, ap, subst, arith, if◌then◌else◌, ◌==◌, inl, inr, Fits, ◌-◌}
use Rattle.std.specs.Int.{w32, w64, from_le_bytes, to_le_bytes, cast_signed}
use Rattle.std.specs.Int.RustNames.{FitsSigned}
use Rattle.std.proofs.lemmas.Bool.{cases_lt, ltb-true, ltb-false, le-ltb, eqb-true, eq-eqb}
use Rattle.std.proofs.lemmas.List.{take_all, drop_all, take-append-drop, length-append, length-take, get_or-drop, get_or-take, get_or_past, take-append-le, drop-append-le}
use Rattle.std.proofs.lemmas.Nat.{le_bytes_4, le_bytes_8}
use Rattle.std.proofs.lemmas.Int.{of_z-to_z}
use Rattle.std.proofs.Math.Facts.{sfits_to_z}
use Rattle.ev_isa.specs.Spelling.{four_bytes, modrm, memory, absolute}
use Rattle.ev_code.specs.declared.fault.DecodeFault.{DecodeFault}
use Rattle.ev_code.specs.declared.fault.DecodeFault.TheVariants.{Short}
use Rattle.ev_code.specs.Reader.{Read, immediate_at, word_at, count_at, register_at, sib_at, displacement_at, memory_at, absolute_at, reg_field, rm_field}
use Rattle.ev_code.proofs.Parts.{tail, IsBytes, IsField, IsLive, Extends, done, stop, choose, field, next, live, no_bytes, bytes_cons}

IsBytes-drop : (n : ℕ) (bytes : List ℕ) → IsBytes bytes → IsBytes (drop n bytes)
IsBytes-drop n bytes h i = rw get_or-drop (h (n + i))

IsBytes-take : (n : ℕ) (bytes : List ℕ) → IsBytes bytes → IsBytes (take n bytes)
IsBytes-take n bytes h i =
    elim (cases_lt i n) [
      | inl lt ↦ rw (get_or-take n bytes i 0 lt) (h i)
      | inr le ↦ rw (get_or_past (take n bytes) i 0 (omega (arith, length-take n bytes))) (omega arith)
    ]

guard_ok : {A : Type 0} (b : Bool) (x y : A) → (let u : Result A DecodeFault = cond b (Err Short) (Ok x) in u) ≡ Ok y → (b ≡ false) × (x ≡ y)
guard_ok true x y e = absurd cc
guard_ok false x y e = (refl, cc)

guard_short : {A : Type 0} (b : Bool) (x : A) → (let u : Result A DecodeFault = cond b (Err Short) (Ok x) in u) ≡ Err Short → b ≡ true
guard_short true x e = refl
guard_short false x e = absurd cc

-- ---- numbers: n bytes that make a value, and that the value is spelled by

pub record IsNumber {X : Type 0} (n : ℕ) (W : X → Type 0) (text : X → List ℕ) (value : List ℕ → X) : Type 0 where
  pub back : (bytes : List ℕ) → length bytes ≡ n → IsBytes bytes → text (value bytes) ≡ bytes
  pub fits : (bytes : List ℕ) → length bytes ≡ n → IsBytes bytes → W (value bytes)

abbrev number_at : {X : Type 0} → ℕ → (List ℕ → X) → List ℕ → Read X
number_at n value bytes = cond (ltb (length bytes) n) (Err Short) (Ok (value (take n bytes), drop n bytes))

stable_by : {X : Type 0} (n : ℕ) (value : List ℕ → X) (bytes more : List ℕ) (t : Bool) → ltb (length bytes) n ≡ t
    → Extends {X = X} more (cond t (Err Short) (Ok (value (take n bytes), drop n bytes))) (number_at n value (bytes ++ more))
stable_by n value bytes more true e = tt
stable_by n value bytes more false e =
    let le : n ≤ length bytes = ltb-false _ _ e in
    let long : ltb (length (bytes ++ more)) n ≡ false = le-ltb _ _ (omega (arith, length-append bytes more)) in
    rw (long, take-append-le n bytes more le, drop-append-le n bytes more le) refl

unfoldable pub zeros : ℕ → List ℕ
zeros zero = []
zeros (suc n) = 0 ∷ zeros n

length-zeros : (n : ℕ) → length (zeros n) ≡ n
unfolding zeros
length-zeros zero = refl
length-zeros (suc n) = ap (λ k. suc k) (length-zeros n)

pub bytes_zeros : (n : ℕ) → IsBytes (zeros n)
unfolding zeros
bytes_zeros zero = no_bytes
bytes_zeros (suc n) = bytes_cons 0 (zeros n) (omega arith) (bytes_zeros n)

long_enough : (n : ℕ) (bytes : List ℕ) → length bytes ≡ n → ltb (length bytes) n ≡ false
long_enough n bytes e = le-ltb _ _ (omega arith)

whole_taken : {X : Type 0} (n : ℕ) (value : List ℕ → X) (bytes : List ℕ) → length bytes ≡ n → number_at n value bytes ≡ Ok (value bytes, [])
whole_taken n value bytes e = rw (long_enough n bytes e, take_all n bytes (omega arith), drop_all n bytes (omega arith)) refl

live_number : {X : Type 0} (n : ℕ) (value : List ℕ → X) (bytes : List ℕ) → length bytes < n → IsLive {X = X} (λ more. number_at n value (bytes ++ more))
live_number n value bytes lt =
    let all : length (bytes ++ zeros (n - length bytes)) ≡ n = omega (arith, length-append bytes (zeros (n - length bytes)), length-zeros (n - length bytes)) in
    record {
      bytes = zeros (n - length bytes);
      value = value (bytes ++ zeros (n - length bytes));
      are_bytes = bytes_zeros (n - length bytes);
      taken = whole_taken n value (bytes ++ zeros (n - length bytes)) all;
    }

pub number_field : {X : Type 0} (n : ℕ) (W : X → Type 0) (text : X → List ℕ) (value : List ℕ → X) → IsNumber n W text value → IsField W text (number_at n value)
number_field {X = X} n W text value number = record {
  stable = λ bytes more. stable_by n value bytes more (ltb (length bytes) n) refl;
  trim = λ bytes short. live_number n value bytes (ltb-true _ _ (guard_short (ltb (length bytes) n) (value (take n bytes), drop n bytes) short));
  takes = λ v bytes e are t.
      let g = guard_ok (ltb (length bytes) n) (value (take n bytes), drop n bytes) e t in
      let le : n ≤ length bytes = ltb-false _ _ g.0 in
      let len : length (take n bytes) ≡ n = omega (arith, length-take n bytes) in
      let front = IsBytes-take n bytes are in
      subst (λ (d : X × List ℕ). W d.0 × (bytes ≡ text d.0 ++ d.1) × IsBytes d.1) g.1
      (number.fits (take n bytes) len front, rw (number.back (take n bytes) len front) (sym (take-append-drop n bytes)), IsBytes-drop n bytes are);
}

abbrev pub signed_value : List ℕ → ℤ
signed_value bytes = cast_signed w32 (from_le_bytes w32 bytes)

four_are : (bytes : List ℕ) → IsBytes bytes → from_le_bytes w32 bytes < 2 ^ 32
four_are bytes are = omega (arith, are 0, are 1, are 2, are 3)

eight_are : (bytes : List ℕ) → IsBytes bytes → from_le_bytes w64 bytes < 2 ^ 64
eight_are bytes are = omega (arith, are 0, are 1, are 2, are 3, are 4, are 5, are 6, are 7)

signed_number : IsNumber 4 (FitsSigned w32) four_bytes signed_value
unfolding four_bytes
signed_number = record {
  back = λ bytes len are. rw (of_z-to_z w32 (from_le_bytes w32 bytes) (four_are bytes are)) (le_bytes_4 bytes _ len are refl);
  fits = λ bytes len are. sfits_to_z (fits_of (four_are bytes are));
}
  where
    fits_of : {n : ℕ} → n < 2 ^ 32 → Fits w32 n
    fits_of h = record { fits = h }

wide_number : IsNumber 8 (λ n. n < 2 ^ 64) (to_le_bytes w64) (from_le_bytes w64)
wide_number = record { back = λ bytes len are. le_bytes_8 bytes _ len are refl; fits = λ bytes len are. eight_are bytes are }

pub immediate_field : IsField (FitsSigned w32) four_bytes immediate_at
unfolding immediate_at
immediate_field = number_field 4 (FitsSigned w32) four_bytes signed_value signed_number

pub word_field : IsField (λ n. n < 2 ^ 64) (to_le_bytes w64) word_at
unfolding word_at
word_field = number_field 8 (λ n. n < 2 ^ 64) (to_le_bytes w64) (from_le_bytes w64) wide_number

-- ---- a shift's count

abbrev pub is_count : ℕ → Bool
is_count n = ltb 0 n && ltb n 64

pub count_field : IsField (λ n. (is_count n ≡ true) × (n < 256)) (λ n. n ∷ []) count_at
unfolding count_at
count_field =
    next _ _ _ _ _ 1 (omega arith) (live _ [] 1 refl refl)
    (λ x. choose _ _ _ _ (is_count x) _ _ (λ t. done _ _ _ _ x (λ v. ((t, v.1), λ bytes. refl))) (λ t. stop _ _ _ _))

-- ---- registers

modrm_back : (rex m : ℕ) → m < 256 → m ≡ 64 * (m / 64) + 8 * ((8 * (rex / 4 % 2) + m / 8 % 8) % 8) + (8 * (rex % 2) + m % 8) % 8
modrm_back rex m h = omega arith

pub register_field : (rex upper : ℕ) → upper < 32 → IsField (λ r. (r < 16) × (r / 8 ≡ rex % 2)) (λ r. (8 * upper + r % 8) ∷ []) (register_at rex upper)
unfolding register_at
register_field rex upper h =
    next _ _ _ _ _ (8 * upper) (omega arith) (live _ [] (rm_field rex (8 * upper)) refl (rw (eq-eqb (8 * upper / 8) upper (omega arith)) refl))
    (λ x. choose _ _ _ _ (x / 8 == upper) _ _
    (λ t. let e : x / 8 ≡ upper = eqb-true _ _ t in
    done _ _ _ _ (rm_field rex x) (λ v. (
      (omega arith, omega arith),
      λ bytes. let k : x ≡ 8 * upper + (8 * (rex % 2) + x % 8) % 8 = omega arith in
          ap (λ (y : ℕ). y ∷ bytes) k,
    )))
    (λ t. stop _ _ _ _))

-- ---- displacements

pub sib_field : (sib : ℕ) → sib < 256 → IsField (FitsSigned w32) (λ n. sib ∷ four_bytes n) (sib_at sib)
unfolding sib_at immediate_at zeros
sib_field sib h =
    next _ _ _ _ _ sib h (live _ (0 ∷ 0 ∷ 0 ∷ 0 ∷ []) (pos 0) refl (rw (eq-eqb sib sib refl) refl))
    (λ x. choose _ _ _ _ (x == sib) _ _
    (λ t. let e : x ≡ sib = eqb-true _ _ t in tail _ _ _ _ _ _ _ immediate_field (λ v n w. (w, λ bytes. ap (λ (y : ℕ). y ∷ four_bytes n ++ bytes) e)))
    (λ t. stop _ _ _ _))

abbrev pub sib_if : Bool → List ℕ
sib_if b = if b then 0x24 ∷ [] else []

pub displacement_field : (m : ℕ) → IsField (λ n. FitsSigned w32 n × (m / 64 ≡ 2)) (λ n. sib_if (m % 8 == 4) ++ four_bytes n) (displacement_at m)
unfolding displacement_at
displacement_field m =
    choose _ _ _ _ (m / 64 == 2) _ _
    (λ t. let e : m / 64 ≡ 2 = eqb-true _ _ t in by e (m % 8 == 4))
    (λ t. stop _ _ _ _)
  where
    by : m / 64 ≡ 2 → (b : Bool) → IsField (λ n. FitsSigned w32 n × (m / 64 ≡ 2)) (λ n. sib_if b ++ four_bytes n) (λ bytes. if b then sib_at 0x24 bytes else
        immediate_at bytes)
    by e true = tail _ _ _ _ _ _ _ (sib_field 0x24 (omega arith)) (λ v n w. ((w, e), λ bytes. refl))
    by e false = tail _ _ _ _ _ _ _ immediate_field (λ v n w. ((w, e), λ bytes. refl))

-- ---- memory operands

pub record IsMemory (rex : ℕ) (e : ℕ × ℕ × ℤ) : Type 0 where
  pub reg : e.0 < 16
  pub base : e.1 < 16
  pub fits : FitsSigned w32 e.2
  pub high_reg : e.0 / 8 ≡ rex / 4 % 2
  pub high_base : e.1 / 8 ≡ rex % 2

memory_back : (rex m : ℕ) (n : ℤ) (bytes : List ℕ) → m < 256 → m / 64 ≡ 2 → m ∷ (sib_if (m % 8 == 4) ++ four_bytes n) ++ bytes ≡ memory (reg_field rex m)
    (rm_field rex m) n ++ bytes
memory_back rex m n bytes h e =
    let k : m ≡ modrm 2 (reg_field rex m) (rm_field rex m) = omega arith in
    let l : m % 8 ≡ rm_field rex m % 8 = omega arith in
    ap (λ (d : ℕ × ℕ). d.0 ∷ (sib_if (d.1 == 4) ++ four_bytes n) ++ bytes) (λ i. (k i, l i))

pub memory_field : (rex : ℕ) → IsField (IsMemory rex) (λ e. memory e.0 e.1 e.2) (memory_at rex)
unfolding memory_at displacement_at immediate_at zeros
memory_field rex =
    next _ _ _ _ _ 0x80 (omega arith) (live _ (0 ∷ 0 ∷ 0 ∷ 0 ∷ []) (reg_field rex 0x80, rm_field rex 0x80, pos 0) refl refl)
    (λ x. field _ _ _ _ _ _ _ _ (displacement_field x)
    (λ n. done _ _ _ _ (reg_field rex x, rm_field rex x, n)
    (λ v. (
      record { reg = omega arith; base = omega arith; fits = v.1.0; high_reg = omega arith; high_base = omega arith },
      λ bytes. memory_back rex x n
          bytes v.0.1 v.1.1,
    )))
    (λ n. live _ [] (reg_field rex x, rm_field rex x, n) refl refl))

pub and_true : (a b : Bool) → (a && b) ≡ true → (a ≡ true) × (b ≡ true)
and_true true b h = (refl, h)
and_true false b h = absurd cc

pub absolute_field : (rex : ℕ) → IsField (λ e. (e.0 < 16) × FitsSigned w32 e.1 × (e.0 / 8 ≡ rex / 4 % 2)) (λ e. absolute e.0 e.1) (absolute_at rex)
unfolding absolute_at sib_at immediate_at zeros
absolute_field rex =
    next _ _ _ _ _ 4 (omega arith) (live _ (0x25 ∷ 0 ∷ 0 ∷ 0 ∷ 0 ∷ []) (reg_field rex 4, pos 0) refl refl)
    (λ x. choose _ _ _ _ ((x / 64 == 0) && (x % 8 == 4)) _ _
    (λ t. let h = and_true (x / 64 == 0) (x % 8 == 4) t in
    let top : x / 64 ≡ 0 = eqb-true _ _ h.0 in
    let low : x % 8 ≡ 4 = eqb-true _ _ h.1 in
    field _ _ _ _ _ _ _ _ (sib_field 0x25 (omega arith))
    (λ n. done _ _ _ _ (reg_field rex x, n)
    (λ v. (
      (omega arith, v.1, omega arith),
      λ bytes. let k : x ≡ modrm 0 (reg_field rex x) 4 = omega arith in
          ap (λ (y : ℕ). y ∷ 0x25 ∷ four_bytes n ++ bytes) k,
    )))
    (λ n. live _ [] (reg_field rex x, n) refl refl))
    (λ t. stop _ _ _ _))
