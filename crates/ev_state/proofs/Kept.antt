-- The RSPs of stack levels, and descriptors that are one more.
use Rattle.std.proofs.Common.{◌≡◌, ◌<◌, ◌^◌, ◌==◌, ℕ, zero, suc, Bool, true, false, not, ◌&&◌, ◌||◌, List, [], ◌∷◌, ◌++◌, set, refl, sym, ap, ◌∙◌, Option, Some, None, arith, if◌then◌else◌}
use Rattle.std.specs.List.{list_all, list_any}
use Rattle.std.proofs.lemmas.List.Folds.{list_all-append, list_any-append}
use Rattle.std.proofs.lemmas.Bool.{lt-ltb}
use Rattle.std.proofs.lemmas.Bool.Decides.{nat_tests}
use Rattle.ev_state.specs.Msr.{AreMsrs, is_level_rsp}
use Rattle.ev_state.specs.Descriptors.{AreDescriptors, base_of, stand_once}

both : (a b : Bool) → a ≡ true → b ≡ true → (a && b) ≡ true
both a b h k = ap (λ x. x && b) h ∙ k

front : (a b : Bool) → (a && b) ≡ true → a ≡ true
front true b h = refl
front false b h = cc

back : (a b : Bool) → (a && b) ≡ true → b ≡ true
back true b h = h
back false b h = cc

list_all-set : (p : ℕ → Bool) (xs : List ℕ) (i v : ℕ) → list_all p xs ≡ true → p v ≡ true → list_all p (set xs i v) ≡ true
list_all-set p [] i v h k = h
list_all-set p (x ∷ xs) zero v h k = both (p v) (list_all p xs) k (back (p x) (list_all p xs) h)
list_all-set p (x ∷ xs) (suc i) v h k = both (p x) (list_all p (set xs i v)) (front (p x) (list_all p xs) h)
    (list_all-set p xs i v (back (p x) (list_all p xs) h) k)

-- a stack level's RSP is written
pub with_rsp : {lstar gs kernel_gs config : ℕ} {rsp : List ℕ} (i v : ℕ) → AreMsrs lstar gs kernel_gs config rsp → true ≡ is_level_rsp v
    → AreMsrs lstar gs kernel_gs config (set rsp i v)
with_rsp {rsp = rsp} i v m h = record {
  lstar_canonical = m.lstar_canonical;
  gs_canonical = m.gs_canonical;
  kernel_gs_canonical = m.kernel_gs_canonical;
  config_canonical = m.config_canonical;
  config_free = m.config_free;
  level_rsps = list_all-set is_level_rsp rsp i v m.level_rsps (sym h);
}

-- a selector that has no descriptor stands on none
split : (b : Bool) (x : ℕ) (o : Option ℕ) → (if b then Some x else o) ≡ None → (b ≡ false) × (o ≡ None)
split true x o h = cc
split false x o h = (refl, h)

swapped : (a b : ℕ) → (a == b) ≡ (b == a)
swapped a b = grind (arith, nat_tests)

neither : (a b : Bool) → not a ≡ true → b ≡ false → not (a || (b || false)) ≡ true
neither true b h k = cc
neither false true h k = cc
neither false false h k = refl

once_more : (es : List (ℕ × ℕ)) (s v : ℕ) → stand_once es ≡ true → base_of es s ≡ None → stand_once (es ++ (s, v) ∷ []) ≡ true
once_more [] s v h k = refl
once_more (e ∷ es) s v h k =
    let p : (ℕ × ℕ) → Bool = λ (d : ℕ × ℕ). d.0 == e.0 in
    let q : ((e.0 == s) ≡ false) × (base_of es s ≡ None) = split (e.0 == s) e.1 (base_of es s) k in
    let front_is : not (list_any p (es ++ (s, v) ∷ [])) ≡ true
    = rw (list_any-append p es ((s, v) ∷ [])) (neither (list_any p es) (s == e.0) (front _ _ h) (swapped s e.0 ∙ q.0)) in
    both _ _ front_is (once_more es s v (back _ _ h) q.1)

pub one_more : (es : List (ℕ × ℕ)) (s v : ℕ) → AreDescriptors es → v < 2 ^ 32 → base_of es s ≡ None → AreDescriptors (es ++ (s, v) ∷ [])
one_more es s v d l k = record {
  low = rw list_all-append (both _ _ d.low (both _ _ (lt-ltb v (2 ^ 32) l) refl));
  once = once_more es s v d.once k;
}
