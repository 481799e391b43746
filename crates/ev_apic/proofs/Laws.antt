-- The laws of sets of vectors and of the local APIC.
use Rattle.std.proofs.Common.{◌≡◌, ◌<◌, ◌≢◌, ℕ, zero, suc, ◌/◌, ◌%◌, ◌^◌, bit_or, Bool, ◌&&◌, nat_lt, List, [], ◌∷◌, length, get_or, set, Option, Some, None, refl, arith, ap, ◌∙◌, sym, inl, inr, get_or-set_same, get_or-set_other}
use Rattle.std.proofs.Math.ListN.{length-set}
use Rattle.std.proofs.lemmas.Bool.{cases_eq, cases_lt, eq-eqb, ne_eqb, ltb-true, ltb-false, lt-ltb, and_parts, and_cases, and_from, both_ways}
use Rattle.std.proofs.Math.Bool.{or-false}
use Rattle.ev_isa.specs.Word.{bit, put_at}
use Rattle.ev_apic.specs.declared.apic.Apic.{Apic}
use Rattle.ev_apic.specs.Apic.{requested, priority_class, next_vector, IsNextVector, NextIsGreatest, AcceptedSetsBits}
use Rattle.ev_apic.specs.Inbox.{united, UnitedIsUnion}
use Rattle.ev_apic.specs.Vectors.{vectors_of, with_bit, with_vector, IsGreatestBelow, WithVectorPuts}
use Rattle.ev_apic.proofs.Bits.{bit_same, bit_other, bit_of_or, with_bit_fits}
use Rattle.ev_apic.proofs.Greatest.{greatest_law, of_class}

at_same : (m : ℕ → Bool) (k i : ℕ) (x : Bool) → i ≡ k → put_at m k x i ≡ x
at_same m k i x e = rw (eq-eqb i k e, put_at) refl

at_other : (m : ℕ → Bool) (k i : ℕ) (x : Bool) → i ≢ k → put_at m k x i ≡ m i
at_other m k i x e = rw (ne_eqb i k e, put_at) refl

put : (ws : List ℕ) (v : ℕ) (b : Bool) → length ws ≡ 4 → ((i : ℕ) → get_or ws i 0 < 2 ^ 64) → v < 256 → (u : ℕ)
    → vectors_of (with_vector ws v b) u ≡ put_at (vectors_of ws) v b u
unfolding with_vector
put ws v b len fits hv u =
    let x : ℕ = with_bit (get_or ws (v / 64) 0) (v % 64) b in
    elim (cases_eq (u / 64) (v / 64)) [
      | inl same ↦
          let word : get_or (set ws (v / 64) x) (u / 64) 0 ≡ x = rw same (get_or-set_same ws (v / 64) x 0 (omega arith)) in
          ap (λ (n : ℕ). bit (u % 64) n) word ∙ elim (cases_eq (u % 64) (v % 64)) [
            | inl e ↦ rw e (bit_same (get_or ws (v / 64) 0) (v % 64) b (fits (v / 64)) (omega arith)) ∙ sym (at_same (vectors_of ws) v u b (omega arith))
            | inr ne ↦
                bit_other (get_or ws (v / 64) 0) (v % 64) (u % 64) b (fits (v / 64)) (omega arith) (omega arith) ne
                ∙ ap (λ (n : ℕ). bit (u % 64) (get_or ws n 0)) (sym same)
                ∙ sym (at_other (vectors_of ws) v u b (λ e. ne (ap (λ (n : ℕ). n % 64) e)))
          ]
      | inr ne ↦
          ap (λ (n : ℕ). bit (u % 64) n) (get_or-set_other ws (v / 64) (u / 64) x 0 ne)
          ∙ sym (at_other (vectors_of ws) v u b (λ e. ne (ap (λ (n : ℕ). n / 64) e)))
    ]

pub puts : WithVectorPuts
unfolding with_vector
puts ws v b len fits hv =
    let x : ℕ = with_bit (get_or ws (v / 64) 0) (v % 64) b in (
      put ws v b len fits hv,
      length-set ws (v / 64) x ∙ len,
      λ i. elim (cases_eq i (v / 64)) [
        | inl e ↦ rw (e, get_or-set_same ws (v / 64) x 0 (omega arith)) (with_bit_fits (get_or ws (v / 64) 0) (v % 64) b (fits (v / 64)) (omega arith))
        | inr ne ↦ rw (get_or-set_other ws (v / 64) i x 0 ne) (fits i)
      ],
    )

together : (xs ys : List ℕ) (i : ℕ) → length xs ≡ length ys → get_or (united xs ys) i 0 ≡ bit_or (get_or xs i 0) (get_or ys i 0)
together [] [] i e = refl
together [] (y ∷ ys) i e = absurd (omega arith)
together (x ∷ xs) [] i e = absurd (omega arith)
together (x ∷ xs) (y ∷ ys) zero e = refl
together (x ∷ xs) (y ∷ ys) (suc i) e = together xs ys i (omega arith)

as_long : (xs ys : List ℕ) → length xs ≡ length ys → length (united xs ys) ≡ length xs
as_long [] ys e = refl
as_long (x ∷ xs) [] e = refl
as_long (x ∷ xs) (y ∷ ys) e = ap (λ (n : ℕ). suc n) (as_long xs ys (omega arith))

pub unites : UnitedIsUnion
unites xs ys e = (
  λ v. ap (λ (n : ℕ). bit (v % 64) n) (together xs ys (v / 64) e) ∙ bit_of_or (get_or xs (v / 64) 0) (get_or ys (v / 64) 0)
      (v % 64),
  as_long xs ys e,
)

is_next : (a : Apic) (o : Option ℕ) → IsGreatestBelow 256 (of_class (priority_class a) (vectors_of a.irr)) o → IsNextVector a o
is_next a None h = λ u below requests.
    elim (and_cases (vectors_of a.irr u) (nat_lt (priority_class a) (u / 16)) (h u below)) [
      | inl none ↦ cc
      | inr low ↦ ltb-false (priority_class a)
          (u / 16) low
    ]
is_next a (Some v) h =
    let both = and_parts (vectors_of a.irr v) (nat_lt (priority_class a) (v / 16)) h.1 in (
      h.0,
      both.0,
      ltb-true (priority_class a) (v / 16) both.1,
      λ u below requests high. elim (cases_lt v u) [
        | inl over ↦
            let none = h.2 u over below in
            let one = and_from (vectors_of a.irr u) (nat_lt (priority_class a) (u / 16)) requests (lt-ltb (priority_class a) (u / 16) high) in
            absurd (both_ways (vectors_of a.irr u && nat_lt (priority_class a) (u / 16)) none one)
        | inr under ↦ under
      ],
    )

pub next : NextIsGreatest
unfolding next_vector
next a = is_next a (next_vector a) (greatest_law 256 (of_class (priority_class a) (vectors_of a.irr)))

pub accepts : AcceptedSetsBits
accepts a word bits u len hw = elim (cases_eq (u / 64) word) [
  | inl same ↦
      let w : get_or (set a.irr word (bit_or (get_or a.irr word 0) bits)) (u / 64) 0 ≡ bit_or (get_or a.irr (u / 64) 0) bits =
      rw same (get_or-set_same a.irr word (bit_or (get_or a.irr word 0) bits) 0 (omega arith)) in
      ap (λ (n : ℕ). bit (u % 64) n) w ∙ bit_of_or (get_or a.irr (u / 64) 0) bits (u % 64) ∙ sym (rw (eq-eqb (u / 64) word same) refl)
  | inr ne ↦
      ap (λ (n : ℕ). bit (u % 64) n) (get_or-set_other a.irr word (u / 64) (bit_or (get_or a.irr word 0) bits) 0 ne)
      ∙ sym (rw (ne_eqb (u / 64) word ne) (or-false (requested a u)))
]
