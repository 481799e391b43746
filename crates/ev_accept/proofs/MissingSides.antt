-- A search for a missing side through lists one behind the other.
use Rattle.std.proofs.Common.{◌≡◌, refl, sym, ◌∙◌, ap, ℕ, suc, ◌+◌, ◌-◌, ◌<◌, ◌≤◌, Bool, true, false, cond, List, [], ◌∷◌, ◌++◌, Option, Some, None, find, flat_map, filter, append_assoc, arith}
use Rattle.std.specs.Option.{option_or}
use Rattle.std.proofs.lemmas.List.Folds.{find-append}
use Rattle.ev_body.specs.declared.key.Key.{Key}
use Rattle.ev_body.specs.declared.key.Key.TheVariants.{Nmi, Bp, Pf, Irq}
use Rattle.ev_body.specs.declared.key.Side.{Side}
use Rattle.ev_body.specs.declared.image.Image.{Image}
use Rattle.ev_body.specs.Bodies.{filled_keys}
use Rattle.ev_abstract.specs.Chain.{is_breakpoint, is_user_access}
use Rattle.ev_abstract.specs.Rules.{is_used, both_sides, irq_keys, missing, required, missing_refusal, missing_body}
use Rattle.ev_accept.specs.Missing.{user_sides, fault_side, used_sides, interrupt_sides, required_sides}

-- one vector more
pub sides_of_next : (image : Image) (v n : ℕ) → interrupt_sides image v (suc n) ≡ used_sides image (Irq v) ++ interrupt_sides image (suc v) n
unfolding interrupt_sides
sides_of_next image v n = by (is_used image (Irq v))
  where
    by : (b : Bool) → flat_map both_sides (cond b (Irq v ∷ filter (is_used image) (irq_keys (suc v) n)) (filter (is_used image) (irq_keys (suc v) n)))
        ≡ cond b (both_sides (Irq v)) [] ++ flat_map both_sides (filter (is_used image) (irq_keys (suc v) n))
    by true = refl
    by false = refl

pub no_sides_left : (image : Image) (v : ℕ) → interrupt_sides image v 0 ≡ []
unfolding interrupt_sides
no_sides_left image v = refl

-- the search goes on where none is missing, and ends where one is
pub found_in_front : (test : Key × Side → Bool) (xs ys : List (Key × Side)) (r : Key × Side) → find test xs ≡ Some r → find test (xs ++ ys) ≡ Some r
found_in_front test xs ys r e = find-append test xs ys ∙ ap (λ o. option_or o (find test ys)) e

pub found_behind : (test : Key × Side → Bool) (xs ys : List (Key × Side)) → find test xs ≡ None → find test (xs ++ ys) ≡ find test ys
found_behind test xs ys e = find-append test xs ys ∙ ap (λ o. option_or o (find test ys)) e

-- the search through the sides that must have a body, list by list
pub required_search : (image : Image) → find (missing image) (required_sides image)
    ≡ option_or (find (missing image) (user_sides filled_keys)) (option_or (find (missing image) (fault_side image is_breakpoint Bp))
    (option_or (find (missing image) (fault_side image is_user_access Pf)) (option_or (find (missing image) (used_sides image Nmi))
    (find (missing image) (interrupt_sides image 0x20 0xe0)))))
unfolding required_sides
required_search image =
    find-append (missing image) (user_sides filled_keys) (fault_side image is_breakpoint Bp ++ (faults ++ (used ++ interrupts)))
    ∙ ap (option_or (find (missing image) (user_sides filled_keys)))
    (find-append (missing image) (fault_side image is_breakpoint Bp) (faults ++ (used ++ interrupts))
    ∙ ap (option_or (find (missing image) (fault_side image is_breakpoint Bp))) (find-append (missing image) faults (used ++ interrupts)
    ∙ ap (option_or (find (missing image) faults)) (find-append (missing image) used interrupts)))
  where
    faults : List (Key × Side)
    faults = fault_side image is_user_access Pf

    used : List (Key × Side)
    used = used_sides image Nmi

    interrupts : List (Key × Side)
    interrupts = interrupt_sides image 0x20 0xe0

pub or_found : (o rest : Option (Key × Side)) (r : Key × Side) → o ≡ Some r → option_or o rest ≡ Some r
or_found o rest r e = ap (λ x. option_or x rest) e

pub or_past : (o rest : Option (Key × Side)) → o ≡ None → option_or o rest ≡ rest
or_past o rest e = ap (λ x. option_or x rest) e

-- the sides that must have a body are those of five lists
pub required_are : (image : Image) → required_sides image ≡ required image
unfolding required_sides interrupt_sides
required_are image =
    sym (five (user_sides filled_keys) (fault_side image is_breakpoint Bp) (fault_side image is_user_access Pf) (used_sides image Nmi)
    (interrupt_sides image 0x20 0xe0))
  where
    five : (a b c d e : List (Key × Side)) → (((a ++ b) ++ c) ++ d) ++ e ≡ a ++ (b ++ (c ++ (d ++ e)))
    five a b c d e = simp append_assoc

-- one vector of the interrupts
next_interrupt : (image : Image) (n : ℕ) → n < 0xe0
    → interrupt_sides image (0x20 + n) (0xe0 - n) ≡ used_sides image (Irq (0x20 + n)) ++ interrupt_sides image (0x20 + (n + 1)) (0xe0 - (n + 1))
next_interrupt image n h =
    let left : 0xe0 - n ≡ suc (0xe0 - (n + 1)) = omega arith in
    let next : suc (0x20 + n) ≡ 0x20 + (n + 1) = omega arith in
    ap (interrupt_sides image (0x20 + n)) left ∙ sides_of_next image (0x20 + n) (0xe0 - (n + 1))
    ∙ ap (λ v. used_sides image (Irq (0x20 + n)) ++ interrupt_sides image v (0xe0 - (n + 1))) next

pub interrupt_past : (image : Image) (n : ℕ) → n < 0xe0 → find (missing image) (used_sides image (Irq (0x20 + n))) ≡ None
    → find (missing image) (interrupt_sides image (0x20 + n) (0xe0 - n)) ≡ find (missing image) (interrupt_sides image (0x20 + (n + 1)) (0xe0 - (n + 1)))
interrupt_past image n h e =
    ap (find (missing image)) (next_interrupt image n h)
    ∙ found_behind (missing image) (used_sides image (Irq (0x20 + n))) (interrupt_sides image (0x20 + (n + 1)) (0xe0 - (n + 1))) e

pub interrupt_found : (image : Image) (n : ℕ) (r : Key × Side) → n < 0xe0 → find (missing image) (used_sides image (Irq (0x20 + n))) ≡ Some r
    → find (missing image) (interrupt_sides image (0x20 + n) (0xe0 - n)) ≡ Some r
interrupt_found image n r h e =
    ap (find (missing image)) (next_interrupt image n h)
    ∙ found_in_front (missing image) (used_sides image (Irq (0x20 + n))) (interrupt_sides image (0x20 + (n + 1)) (0xe0 - (n + 1))) r e

pub no_interrupt : (image : Image) (n : ℕ) → 0xe0 ≤ n → find (missing image) (interrupt_sides image (0x20 + n) (0xe0 - n)) ≡ None
no_interrupt image n h =
    let left : 0xe0 - n ≡ 0 = omega arith in
    ap (λ k. find (missing image) (interrupt_sides image (0x20 + n) k)) left ∙ ap (find (missing image)) (no_sides_left image (0x20 + n))

pub missing_by_sides : (image : Image) → missing_refusal (find (missing image) (required_sides image)) ≡ missing_body image
unfolding missing_body
missing_by_sides image = ap (λ rs. missing_refusal (find (missing image) rs)) (required_are image)
