-- What the values of a line keep.
use Rattle.std.proofs.Common.{◌≡◌, ℕ, ◌+◌, ◌-◌, ◌<◌, ◌≤◌, ◌⊎◌, ⊎_elim, inl, inr, Bool, true, false, not, ◌&&◌, ◌||◌, ◌==◌, List, [], ◌∷◌, refl, arith, eqb-true}
use Rattle.std.specs.Prelude.{nat_le, nat_lt, bit_or}
use Rattle.std.specs.List.{list_any}
use Rattle.std.proofs.lemmas.Bool.{leb-true, ltb-true}
use Rattle.ev_isa.specs.Word.{bit, is_aligned, is_canonical}
use Rattle.ev_isa.specs.Flags.{modelled}
use Rattle.ev_isa.specs.declared.mode.Mode.{Mode}
use Rattle.ev_listing.specs.AddressMap.{stack_top}
use Rattle.ev_probe.specs.declared.line.Op.{Op}
use Rattle.ev_probe.specs.declared.line.Values.{Values}
use Rattle.ev_probe.specs.ProbeLine.{is_allowed, is_event, is_kind, is_on_some_stack, is_on_stack, is_return, is_stack_pointer, stack_numbers}

pub split : (x y : Bool) → (x && y) ≡ true → (x ≡ true) × (y ≡ true)
split true y h = (refl, h)
split false y h = absurd cc

-- an address so many bytes or more below the top of a stack whose bit in `bad` is clear
pub record IsOnStack (room bad a n : ℕ) : Type 0 where
  pub number : n < 7
  pub low : stack_top 0 n - 0x2000 ≤ a
  pub high : a + room ≤ stack_top 0 n
  pub mapped : bit n bad ≡ false

is_not : (t : Bool) → not t ≡ true → t ≡ false
is_not true h = absurd cc
is_not false h = refl

on_stack_by : (room bad a n : ℕ) → n < 7 → (is_on_stack room a n && not (bit n bad)) ≡ true → IsOnStack room bad a n
on_stack_by room bad a n l h =
    let s = split (is_on_stack room a n) (not (bit n bad)) h in
    let p = split (nat_le (stack_top 0 n - 0x2000) a) (nat_le (a + room) (stack_top 0 n)) s.0 in
    record { number = l; low = leb-true _ _ p.0; high = leb-true _ _ p.1; mapped = is_not (bit n bad) s.1 }

abbrev AllSmall : List ℕ → Type 0
AllSmall [] = Unit {0}
AllSmall (n ∷ ns) = (n < 7) × AllSmall ns

some_of : (room bad a : ℕ) (ns : List ℕ) → AllSmall ns → list_any (λ n. is_on_stack room a n && not (bit n bad)) ns ≡ true → (n : ℕ) × IsOnStack room bad a n
some_of room bad a [] s h = absurd cc
some_of room bad a (n ∷ ns) s h = by (some_of room bad a ns s.1) (is_on_stack room a n && not (bit n bad)) refl h
  where
    by : (list_any (λ k. is_on_stack room a k && not (bit k bad)) ns ≡ true → (k : ℕ) × IsOnStack room bad a k)
        → (t : Bool) → (is_on_stack room a n && not (bit n bad)) ≡ t → (t || list_any (λ k. is_on_stack room a k && not (bit k bad)) ns) ≡ true
        → (k : ℕ) × IsOnStack room bad a k
    by rest true e g = (n, on_stack_by room bad a n s.0 e)
    by rest false e g = rest g

pub on_some_stack : (room bad a : ℕ) → is_on_some_stack room bad a ≡ true → (n : ℕ) × IsOnStack room bad a n
on_some_stack room bad a h = some_of room bad a stack_numbers
    (omega arith, (omega arith, (omega arith, (omega arith, (omega arith, (omega arith, (omega arith, tt))))))) h

-- the values of a line, by what is tested of them
pub record AreValues (mode : Mode) (op : Op) (v : Values) : Type 0 where
  pub kind : is_kind mode op v.kind ≡ true
  pub vector : v.vector < 256
  pub canonical : is_canonical v.rip ≡ true
  pub level : v.level < 4
  pub sti : v.sti ≤ 1
  pub nmi : v.nmi ≤ 1
  pub bad : v.bad < 0x80
  pub stack : is_stack_pointer op v ≡ true

pub are_values : (mode : Mode) (op : Op) (v : Values) → is_allowed mode op v ≡ true → AreValues mode op v
unfolding is_allowed
are_values mode op v h =
    let s8 = split _ (is_stack_pointer op v) h in
    let s7 = split _ (nat_lt v.bad 0x80) s8.0 in
    let s6 = split _ (nat_le v.nmi 1) s7.0 in
    let s5 = split _ (nat_le v.sti 1) s6.0 in
    let s4 = split _ (nat_lt v.level 4) s5.0 in
    let s3 = split _ (bit_or v.flags 2 == modelled v.flags) s4.0 in
    let s2 = split _ (is_canonical v.rip) s3.0 in
    let s1 = split (is_kind mode op v.kind) (is_event v) s2.0 in
    let e1 = split _ _ s1.1 in
    let e0 = split _ _ e1.0 in
    record {
      kind = s1.0;
      vector = ltb-true _ _ e0.0;
      canonical = s2.1;
      level = ltb-true _ _ s4.1;
      sti = leb-true _ _ s5.1;
      nmi = leb-true _ _ s6.1;
      bad = ltb-true _ _ s7.1;
      stack = s8.1;
    }

pub either : (x y : Bool) → (x || y) ≡ true → (x ≡ true) ⊎ (y ≡ true)
either true y h = inl refl
either false y h = inr h

-- the privilege level is 0 or 3
pub ring : (op : Op) (v : Values) → is_stack_pointer op v ≡ true → (v.cpl ≡ 0) ⊎ (v.cpl ≡ 3)
unfolding is_stack_pointer
ring Op.Deliver v h =
    ⊎_elim (λ k. inr (eqb-true v.cpl 3 k)) (λ k. inl (eqb-true v.cpl 0 (split (v.cpl == 0) _ k).0)) (either (v.cpl == 3) _ h)
ring Op.Iretq v h = inl (eqb-true v.cpl 0 (split (v.cpl == 0) _ (split _ _ h).0).0)
ring Op.Eretu v h = inl (eqb-true v.cpl 0 (split (v.cpl == 0) _ (split _ _ h).0).0)
ring Op.Erets v h = inl (eqb-true v.cpl 0 (split (v.cpl == 0) _ (split _ _ h).0).0)

-- the stack pointer of a delivery
pub delivery_stack : (v : Values) → is_stack_pointer Op.Deliver v ≡ true → ((v.cpl == 3) ≡ true) ⊎ ((n : ℕ) × IsOnStack 0 0 v.rsp n)
unfolding is_stack_pointer
delivery_stack v h = ⊎_elim (λ k. inl k) (λ k. inr (on_some_stack 0 0 v.rsp (split (v.cpl == 0) _ k).1)) (either (v.cpl == 3) _ h)

-- and of a return
pub record IsReturnStack (v : Values) : Type 0 where
  pub aligned : is_aligned v.rsp ≡ true
  pub number : ℕ
  pub on : IsOnStack 64 v.bad v.rsp number

return_by : (v : Values) → ((v.cpl == 0) && is_aligned v.rsp && is_on_some_stack 64 v.bad v.rsp) ≡ true → IsReturnStack v
return_by v h =
    let s = split _ (is_on_some_stack 64 v.bad v.rsp) h in
    let a = split (v.cpl == 0) (is_aligned v.rsp) s.0 in
    let n = on_some_stack 64 v.bad v.rsp s.1 in
    record { aligned = a.1; number = n.0; on = n.1 }

pub return_stack : (op : Op) (v : Values) → is_return op ≡ true → is_stack_pointer op v ≡ true → IsReturnStack v
unfolding is_return is_stack_pointer
return_stack Op.Deliver v r h = absurd cc
return_stack Op.Iretq v r h = return_by v h
return_stack Op.Eretu v r h = return_by v h
return_stack Op.Erets v r h = return_by v h

-- a privilege level is small
pub ring_small : (cpl : ℕ) → (cpl ≡ 0) ⊎ (cpl ≡ 3) → cpl < 256
ring_small cpl h = ⊎_elim (λ k. omega arith) (λ k. omega arith) h
