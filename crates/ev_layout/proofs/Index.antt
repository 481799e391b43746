-- The index has the first mark of each address, also when a mark goes behind the others.
use Rattle.std.proofs.Common.{◌≡◌, ℕ, ◌==◌, nat_eq, cond, Bool, true, false, List, [], ◌∷◌, ◌++◌, Option, Some, None, is_some, refl, ap, sym, ◌∙◌}
use Rattle.std.proofs.lemmas.Bool.{eqb-true}
use Rattle.std.specs.HashMap.{HashMap, get}
use Rattle.ev_concrete.specs.ConcreteRun.{mark_at}
use Rattle.ev_listing.specs.Marks as listed
use Rattle.ev_layout.specs.declared.mark.Mark.{Mark}
use Rattle.ev_layout.specs.Index.{first_mark, IsIndex}
use Rattle.ev_layout.specs.Marks.{mark_of, listed}

-- the first mark, or that of one more entry
unfoldable or_last : Option Mark → ℕ → Mark → ℕ → Option Mark
or_last (Some x) a m q = Some x
or_last None a m q = cond (a == q) (Some m) None

behind : (ms : List (ℕ × Mark)) (a : ℕ) (m : Mark) (q : ℕ) → first_mark (ms ++ (a, m) ∷ []) q ≡ or_last (first_mark ms q) a m q
unfolding first_mark or_last
behind [] a m q = refl
behind (e ∷ es) a m q = pick (e.0 == q) (first_mark es q) (behind es a m q)
  where
    pick : (b : Bool) (r : Option Mark) {o : Option Mark} → o ≡ or_last r a m q → cond b (Some e.1) o ≡ or_last (cond b (Some e.1) r) a m q
    pick true r h = refl
    pick false r h = h

no_more : (o : Option Mark) (a : ℕ) (m : Mark) (q : ℕ) → (a == q ≡ true → is_some o ≡ true) → or_last o a m q ≡ o
unfolding or_last
no_more (Some x) a m q h = refl
no_more None a m q h = pick (a == q) h
  where
    pick : (b : Bool) → (b ≡ true → false ≡ true) → cond b (Some m) None ≡ None
    pick true k = absurd (let e = k refl in cc)
    pick false k = refl

-- a further mark of an address changes nothing
pub stays : {S : Type 0} (ms : List (ℕ × Mark)) (index : HashMap ℕ Mark S) (a : ℕ) (m : Mark) → IsIndex ms index → is_some (get nat_eq index a) ≡ true
    → IsIndex (ms ++ (a, m) ∷ []) index
stays ms index a m h some q =
    h q ∙ sym (behind ms a m q ∙ no_more (first_mark ms q) a m q (λ e. ap is_some (ap (first_mark ms) (sym (eqb-true a q e)) ∙ sym (h a)) ∙ some))

last_one : (o : Option Mark) (a : ℕ) (m : Mark) (q : ℕ) → (a == q ≡ true → o ≡ None) → or_last o a m q ≡ cond (a == q) (Some m) o
unfolding or_last
last_one None a m q h = refl
last_one (Some x) a m q h = pick (a == q) h
  where
    pick : (b : Bool) → (b ≡ true → Some x ≡ None) → Some x ≡ cond b (Some m) (Some x)
    pick true k = absurd (let e = k refl in cc)
    pick false k = refl

none_is : {X : Type 0} (o : Option X) → is_some o ≡ false → o ≡ None
none_is None h = refl
none_is (Some x) h = absurd (cc)

-- the first mark of an address goes into the index
pub grows : {S : Type 0} (ms : List (ℕ × Mark)) (index new : HashMap ℕ Mark S) (a : ℕ) (m : Mark) → IsIndex ms index → is_some (get nat_eq index a) ≡ false
    → ((q : ℕ) → get nat_eq new q ≡ cond (nat_eq a q) (Some m) (get nat_eq index q)) → IsIndex (ms ++ (a, m) ∷ []) new
grows ms index new a m h none puts q =
    puts q ∙ ap (λ (o : Option Mark). cond (a == q) (Some m) o) (h q)
    ∙ sym (behind ms a m q ∙ last_one (first_mark ms q) a m q (λ e. ap (first_mark ms) (sym (eqb-true a q e)) ∙ sym (h a) ∙ none_is (get nat_eq index a) none))

-- the mark of an instruction, by its first mark
unfoldable pub mark_by : Option Mark → listed.Mark
mark_by None = listed.Never
mark_by (Some m) = mark_of m

pub at_first : (ms : List (ℕ × Mark)) (q : ℕ) → mark_at (listed ms) q ≡ mark_by (first_mark ms q)
unfolding first_mark mark_by
at_first [] q = refl
at_first (e ∷ es) q = pick (e.0 == q) (first_mark es q) (at_first es q)
  where
    pick : (b : Bool) (r : Option Mark) {x : listed.Mark} → x ≡ mark_by r → cond b (mark_of e.1) x ≡ mark_by (cond b (Some e.1) r)
    pick true r h = refl
    pick false r h = h
