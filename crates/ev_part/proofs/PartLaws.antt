-- A part with a line more: its labels, its items, and what is refused.
use Rattle.std.proofs.Common.{◌≡◌, ℕ, suc, ◌+◌, ◌<◌, ◌≤◌, Bool, true, false, not, List, [], ◌∷◌, ◌++◌, Option, Some, None, Result, Ok, Err, refl, sym, ap, ◌∙◌, subst, arith, nat_lt}
use Rattle.std.specs.Prelude.{is_some, ◌||◌, if◌then◌else◌}
use Rattle.std.specs.List.{list_any}
use Rattle.ev_io.specs.declared.cause.Cause.{Cause}
use Rattle.ev_io.specs.declared.cause.Cause.TheVariants as Cause
use Rattle.ev_asm.specs.Assembly.{Places, Name, is_name, place}
use Rattle.ev_line.specs.Operands.{has_label}
use Rattle.ev_asm.specs.LabelTable.{found}
use Rattle.ev_text.specs.UserText.{unless}
use Rattle.ev_part.specs.declared.line.BodyLine.{BodyLine}
use Rattle.ev_part.specs.declared.line.BodyLine.TheVariants.{Here, Does, Jumps}
use Rattle.ev_part.specs.PartItems.{PartView, labels_from, labels_of, count_items, next_item, is_second_here, item_count, part_grown}
use Rattle.ev_part.specs.PartStands.{IsPart, AreSmall, gives_again, label_given}

found_by : (b : Bool) (k : ℕ) (o : Option ℕ) (r : Bool) → is_some o ≡ r → is_some (let u : Option ℕ = elim b [ true ↦ Some k | false ↦ o ] in u) ≡ (b || r)
found_by true k o r h = refl
found_by false k o r h = h

-- a label is found exactly where it stands among the labels
pub found_there : (labels : Places) (name : Name) → is_some (found labels name) ≡ has_label labels name
found_there [] name = refl
found_there (e ∷ es) name = found_by (is_name e.0 name) e.1 (found es name) (has_label es name) (found_there es name)

place_by : (b : Bool) (k n : ℕ) (o : Option ℕ) → (let u : Option ℕ = elim b [ true ↦ Some k | false ↦ o ] in u) ≡ Some n → (p : ℕ) → (o ≡ Some n → p ≡ n)
    → (if b then k else p) ≡ n
place_by true k n o h p go = let g : k ≡ n = cc in g
place_by false k n o h p go = go h

-- the place of a label that is found, and of one that isn't
pub place_found : (labels : Places) (name : Name) (n : ℕ) → found labels name ≡ Some n → place labels name ≡ n
place_found [] name n h = absurd cc
place_found (e ∷ es) name n h = place_by (is_name e.0 name) e.1 n (found es name) h (place es name) (place_found es name n)

lost_by : (b : Bool) (k : ℕ) (o : Option ℕ) → (let u : Option ℕ = elim b [ true ↦ Some k | false ↦ o ] in u) ≡ None → (p : ℕ) → (o ≡ None → p ≡ 0)
    → (if b then k else p) ≡ 0
lost_by true k o h p go = absurd cc
lost_by false k o h p go = go h

pub place_lost : (labels : Places) (name : Name) → found labels name ≡ None → place labels name ≡ 0
place_lost [] name h = refl
place_lost (e ∷ es) name h = lost_by (is_name e.0 name) e.1 (found es name) h (place es name) (place_lost es name)

-- ---- a line more

again : (p : PartView) (l : BodyLine) → gives_again (labels_of p) l ≡ is_second_here p l
unfolding is_second_here
again p (Here name) = found_there (labels_of p) name
again p (Does i) = refl
again p (Jumps cond name) = refl

pub count_more : (ls : List BodyLine) (l : BodyLine) → count_items (ls ++ l ∷ []) ≡ count_items ls + item_count l
count_more [] (Here name) = omega arith
count_more [] (Does i) = omega arith
count_more [] (Jumps cond name) = omega arith
count_more (Here name ∷ ls) l = count_more ls l
count_more (Does i ∷ ls) l = omega (arith, count_more ls l)
count_more (Jumps cond name ∷ ls) l = omega (arith, count_more ls l)

labels_more : (n : ℕ) (ls : List BodyLine) (l : BodyLine) → labels_from n (ls ++ l ∷ []) ≡ labels_from n ls ++ label_given (n + count_items ls) l
labels_more n [] (Here name) = let e : n ≡ n + 0 = omega arith in ap (λ (k : ℕ). (name, k) ∷ []) e
labels_more n [] (Does i) = refl
labels_more n [] (Jumps cond name) = refl
labels_more n (Here name ∷ ls) l = ap (λ (k : Places). (name, n) ∷ k) (labels_more n ls l)
labels_more n (Does i ∷ ls) l =
    let e : suc n + count_items ls ≡ n + suc (count_items ls) = omega arith in
    labels_more (suc n) ls l ∙ ap (λ (k : ℕ). labels_from (suc n) ls ++ label_given k l) e
labels_more n (Jumps cond name ∷ ls) l =
    let e : suc n + count_items ls ≡ n + suc (count_items ls) = omega arith in
    labels_more (suc n) ls l ∙ ap (λ (k : ℕ). labels_from (suc n) ls ++ label_given k l) e

pub nothing_stands : (func : Option ℕ) (first : ℕ) → first ≤ 256 → IsPart (record { func = func; first = first; lines = [] }) [] first
nothing_stands func first l = record { given = refl; count = omega arith; few = l }

pub twice : (p : PartView) (labels : Places) (n : ℕ) (l : BodyLine) → IsPart p labels n → true ≡ gives_again labels l → part_grown p l ≡ Err Cause.Double
unfolding part_grown
twice p labels n l t h =
    let e : is_second_here p l ≡ true = sym (again p l) ∙ sym (h ∙ ap (λ (k : Places). gives_again k l) t.given) in
    rw (part_grown, e) refl

fresh : (p : PartView) (labels : Places) (n : ℕ) (l : BodyLine) → IsPart p labels n → false ≡ gives_again labels l → is_second_here p l ≡ false
fresh p labels n l t h = sym (again p l) ∙ sym (h ∙ ap (λ (k : Places). gives_again k l) t.given)

pub too_many : (p : PartView) (labels : Places) (n : ℕ) (l : BodyLine) → IsPart p labels n → false ≡ gives_again labels l → 256 < n + item_count l
    → part_grown p l ≡ Err Cause.Limit
unfolding part_grown
too_many p labels n l t h k =
    let e = fresh p labels n l t h in
    let g : nat_lt 256 (next_item p + item_count l) ≡ true = let m : 256 < next_item p + item_count l = omega (arith, t.count) in grind arith in
    rw (part_grown, e, g) refl

pub grown : (p : PartView) (labels : Places) (n : ℕ) (l : BodyLine) → IsPart p labels n → false ≡ gives_again labels l → n + item_count l ≤ 256
    → part_grown p l ≡ Ok (record p { lines = p.lines ++ l ∷ [] })
unfolding part_grown
grown p labels n l t h k =
    let e = fresh p labels n l t h in
    let g : nat_lt 256 (next_item p + item_count l) ≡ false = let m : next_item p + item_count l ≤ 256 = omega (arith, t.count) in grind arith in
    rw (part_grown, e, g) refl

pub stands : (p : PartView) (labels : Places) (n : ℕ) (l : BodyLine) → IsPart p labels n → n + item_count l ≤ 256 →
    IsPart (record p { lines = p.lines ++ l ∷ [] }) (labels ++ label_given n l) (n + item_count l)
stands p labels n l t k = record {
  given = rw (t.given, t.count) (sym (labels_more p.first p.lines l));
  count = omega (arith, count_more p.lines l, t.count);
  few = k;
}

-- ---- labels are few

small_by : (b : Bool) (k p : ℕ) → k ≤ 256 → p ≤ 256 → (if b then k else p) ≤ 256
small_by true k p h g = h
small_by false k p h g = g

labels_small : (n : ℕ) (ls : List BodyLine) → n + count_items ls ≤ 256 → AreSmall (labels_from n ls)
labels_small n [] h = λ name. omega arith
labels_small n (Here name ∷ ls) h = λ q. small_by (is_name name q) n (place (labels_from n ls) q) (omega arith) (labels_small n ls h q)
labels_small n (Does i ∷ ls) h = labels_small (suc n) ls (omega arith)
labels_small n (Jumps cond name ∷ ls) h = labels_small (suc n) ls (omega arith)

pub part_small : (p : PartView) (labels : Places) (n : ℕ) → IsPart p labels n → AreSmall labels
part_small p labels n t = rw t.given (labels_small p.first p.lines (omega (arith, t.count, t.few)))
