-- The greatest vector of a set.
use Rattle.std.proofs.Common.{◌≡◌, ◌<◌, ◌≤◌, ℕ, zero, suc, ◌/◌, Bool, true, false, ◌&&◌, nat_lt, Option, Some, None, refl, arith, ap, sym, inl, inr}
use Rattle.std.proofs.lemmas.Bool.{le-ltb, lt-ltb, cases_order, cases_lt, and_from, and_left, and_right}
use Rattle.ev_isa.specs.Word.{NatSet, greatest_below}
use Rattle.ev_apic.specs.declared.apic.Apic.{Apic}
use Rattle.ev_apic.specs.Apic.{priority_class, next_vector}
use Rattle.ev_apic.specs.Vectors.{vectors_of, IsGreatestBelow, GreatestIsGreatest}

-- the number n is not in the set
one_more : (n : ℕ) (s : NatSet) (o : Option ℕ) → s n ≡ false → IsGreatestBelow n s o → IsGreatestBelow (suc n) s o
one_more n s None e h = λ u below. elim (cases_order u n) [ inl same ↦ rw same e | inr (inl under) ↦ h u under | inr (inr over) ↦ absurd (omega arith) ]
one_more n s (Some v) e h = (
  omega (arith, h.0),
  h.1,
  λ u above below. elim (cases_order u n) [
    | inl same ↦ rw same e
    | inr (inl under) ↦ h.2 u above under
    | inr (inr over) ↦ absurd
        (omega arith)
  ],
)

at : (n : ℕ) (s : NatSet) (b : Bool) → s n ≡ b → IsGreatestBelow n s (greatest_below n s)
    → IsGreatestBelow (suc n) s (elim b [ true ↦ Some n | false ↦ greatest_below n s ])
at n s true e h = (omega arith, e, λ u above below. absurd (omega arith))
at n s false e h = one_more n s (greatest_below n s) e h

pub greatest_law : GreatestIsGreatest
greatest_law zero s = λ u below. absurd (omega arith)
greatest_law (suc n) s = at n s (s n) refl (greatest_law n s)

-- there is one
same : (n : ℕ) (s : NatSet) (o p : Option ℕ) → IsGreatestBelow n s o → IsGreatestBelow n s p → o ≡ p
same n s None None h k = refl
same n s None (Some w) h k = let a = h w k.0 in let b = k.1 in cc
same n s (Some v) None h k = let a = k v h.0 in let b = h.1 in cc
same n s (Some v) (Some w) h k = elim (cases_order v w) [
  | inl e ↦ ap (λ (x : ℕ). Some x) e
  | inr (inl under) ↦ let a = h.2 w under k.0 in let b = k.1 in cc
  | inr (inr over) ↦ let a = k.2 v over h.0 in let b = h.1 in cc
]

pub greatest_is : (n : ℕ) (s : NatSet) (o : Option ℕ) → IsGreatestBelow n s o → greatest_below n s ≡ o
greatest_is n s o h = same n s (greatest_below n s) o (greatest_law n s) h

-- the greatest number of a class above c is the greatest number, where that is of such a class
abbrev pub of_class : ℕ → NatSet → NatSet
of_class c s v = s v && nat_lt c (v / 16)

pub above : (n : ℕ) (s : NatSet) (c v : ℕ) → greatest_below n s ≡ Some v → c < v / 16 → greatest_below n (of_class c s) ≡ Some v
above n s c v e h =
    let g : IsGreatestBelow n s (Some v) = rw e at (greatest_law n s) in
    greatest_is n (of_class c s) (Some v) (
      g.0,
      and_from (s v) (nat_lt c (v / 16)) g.1 (lt-ltb c (v / 16) h),
      λ u over below. and_left (s u)
          (nat_lt c (u / 16)) (g.2 u over below),
    )

pub not_above : (n : ℕ) (s : NatSet) (c v : ℕ) → greatest_below n s ≡ Some v → v / 16 ≤ c → greatest_below n (of_class c s) ≡ None
not_above n s c v e h =
    let g : IsGreatestBelow n s (Some v) = rw e at (greatest_law n s) in
    greatest_is n (of_class c s) None (λ u below. elim (cases_lt v u) [
      | inl over ↦ and_left (s u) (nat_lt c (u / 16)) (g.2 u over below)
      | inr under ↦ and_right (s u) (nat_lt c (u / 16)) (le-ltb c (u / 16) (omega arith))
    ])

pub none_above : (n : ℕ) (s : NatSet) (c : ℕ) → greatest_below n s ≡ None → greatest_below n (of_class c s) ≡ None
none_above n s c e =
    let g : IsGreatestBelow n s None = rw e at (greatest_law n s) in
    greatest_is n (of_class c s) None (λ u below. and_left (s u) (nat_lt c (u / 16)) (g u below))

-- the choice of a vector
pub next_some : (a : Apic) (c v : ℕ) → c ≡ priority_class a → Some v ≡ greatest_below 256 (vectors_of a.irr) → c < v / 16 → Some v ≡ next_vector a
unfolding next_vector
next_some a c v e g h = sym (above 256 (vectors_of a.irr) (priority_class a) v (sym g) (rw (sym e) h))

pub next_low : (a : Apic) (c v : ℕ) → c ≡ priority_class a → Some v ≡ greatest_below 256 (vectors_of a.irr) → v / 16 ≤ c → None ≡ next_vector a
unfolding next_vector
next_low a c v e g h = sym (not_above 256 (vectors_of a.irr) (priority_class a) v (sym g) (rw (sym e) h))

pub next_none : (a : Apic) → None ≡ greatest_below 256 (vectors_of a.irr) → None ≡ next_vector a
unfolding next_vector
next_none a g = sym (none_above 256 (vectors_of a.irr) (priority_class a) (sym g))
