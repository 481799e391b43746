-- The bodies of accepted images have spellings.
use Rattle.std.proofs.Common.{◌≡◌, ℕ, suc, Bool, true, false, not, ◌&&◌, ◌||◌, List, [], ◌∷◌, ◌++◌, length, Option, Some, None, refl, ap, ◌∙◌}
use Rattle.std.specs.Prelude.{if◌then◌else◌, flat_map, nat_le}
use Rattle.std.specs.List.{list_all, list_any}
use Rattle.std.proofs.lemmas.List.{append-nil}
use Rattle.ev_body.specs.declared.item.Item.{Item}
use Rattle.ev_body.specs.declared.item.Item.TheVariants.{Finish, Ret}
use Rattle.ev_body.specs.declared.body.Part.{Part}
use Rattle.ev_body.specs.declared.body.Body.{Body}
use Rattle.ev_body.specs.declared.image.Image.{Image}
use Rattle.ev_body.specs.declared.key.Side.TheVariants.{User, Kernel}
use Rattle.ev_body.specs.Bodies.{body_items, covers}
use Rattle.ev_body.specs.WellFormed.{IsImage, is_body, are_parts, has_operands, has_no_parts, ends_with, is_ret, is_finish}
use Rattle.ev_abstract.specs.Rules.{first_item_from, refusal_at, first_refused, first_some, rules, missing_body, slot_rule, register_rule, flag_rule, if_rule, eoi_rule, fault_rule, nmi_rule, call_rule, breaks_slots, is_take, is_call_handler, failing_call}
use Rattle.ev_abstract.specs.Accepted.{IsAccepted}
use Rattle.ev_abstract.specs.declared.refusal.Refusal.{Refusal}
use Rattle.ev_abstract.specs.declared.refusal.Refusal.TheVariants.{SlotRule, CallRule}
use Rattle.ev_symbolic.proofs.Values.{and_left, and_right}
use Rattle.ev_fetch.specs.Spelled.{has_spelling}
use Rattle.ev_fetch.specs.Claims.{AcceptedAreSpelled}
use Rattle.ev_fetch.proofs.Regions.{and_both, Each}
use Rattle.ev_fetch.proofs.AllSpelled.{bodies_are_spelled}

-- ---- accepted images

none_of : (rs : List (Option Refusal)) → first_some rs ≡ None → Each (λ r. r ≡ None) rs
none_of [] h = tt
none_of (None ∷ rs) h = (refl, none_of rs h)
none_of (Some r ∷ rs) h = absurd (cc)

-- a rule that refuses no body
abbrev FailNowhere : (ℕ → Body → Option ℕ) → ℕ → List Body → Type 0
FailNowhere fails n [] = Unit {0}
FailNowhere fails n (b ∷ bs) = (fails n b ≡ None) × FailNowhere fails (suc n) bs

nowhere : (name : ℕ → ℕ → Refusal) (fails : ℕ → Body → Option ℕ) (n : ℕ) (bs : List Body) → first_refused name fails n bs ≡ None → FailNowhere fails n bs
nowhere name fails n [] h = tt
nowhere name fails n (b ∷ bs) h = pick (fails n b) refl h (nowhere name fails (suc n) bs)
  where
    pick : (o : Option ℕ) → fails n b ≡ o → refusal_at name n o (first_refused name fails (suc n) bs) ≡ None
        → (first_refused name fails (suc n) bs ≡ None → FailNowhere fails (suc n) bs)
        → (fails n b ≡ None) × FailNowhere fails (suc n) bs
    pick None q r k = (q, k r)
    pick (Some i) q r k = absurd (cc)

no_item : (test : Item → Bool) (i : ℕ) (items : List Item) → first_item_from i (λ i item. test item) items ≡ None
    → list_all (λ item. not (test item)) items ≡ true
no_item test i [] h = refl
no_item test i (item ∷ items) h = pick (test item) h (no_item test (suc i) items)
  where
    pick : (t : Bool) → (if t then Some i else first_item_from (suc i) (λ i item. test item) items) ≡ None
        → (first_item_from (suc i) (λ i item. test item) items ≡ None → list_all (λ item. not (test item)) items ≡ true)
        → (not t && list_all (λ item. not (test item)) items) ≡ true
    pick true q k = absurd (cc)
    pick false q k = k q

takes : (image : Image) (n : ℕ) (b : Body) → failing_call image n b ≡ None → is_call_handler b ≡ true → list_any is_take b.items ≡ true
takes image n b h q = by (is_call_handler b) (list_any is_take b.items) (covers b.side User && covers b.side Kernel) _ h q
  where
    by : (c x y : Bool) (rest : Option ℕ) → (if c && (not x || not y) then Some 0 else rest) ≡ None → c ≡ true → x ≡ true
    by true true y rest h q = refl
    by true false y rest h q = absurd (cc)
    by false x y rest h q = absurd (cc)

ret_finish : (item : Item) → is_ret item ≡ true → is_finish item ≡ false
unfolding is_ret is_finish
ret_finish Ret h = refl
ret_finish Finish h = absurd (cc)
ret_finish _ h = refl

-- the main part has no `finish`
main_finish : (items : List Item) → ends_with is_ret items ≡ true → list_any is_finish items ≡ false
unfolding ends_with
main_finish [] h = absurd (cc)
main_finish (item ∷ []) h = ap (λ t. t || false) (ret_finish item h)
main_finish (item ∷ next ∷ items) h =
    let front = and_left (not (is_ret item) && not (is_finish item)) _ h in
    let here = and_right (not (is_ret item)) (not (is_finish item)) front in
    let rest = and_right (not (is_ret item) && not (is_finish item)) _ h in
    ap (λ t. t || list_any is_finish (next ∷ items)) (is_false (is_finish item) here) ∙ main_finish (next ∷ items) rest
  where
    is_false : (t : Bool) → not t ≡ true → t ≡ false
    is_false true h = absurd (cc)
    is_false false h = refl

any_first : (test : Item → Bool) (xs ys : List Item) → list_any test xs ≡ true → list_any test (xs ++ ys) ≡ true
any_first test [] ys h = absurd (cc)
any_first test (x ∷ xs) ys h = pick (test x) h (any_first test xs ys)
  where
    pick : (t : Bool) → (t || list_any test xs) ≡ true → (list_any test xs ≡ true → list_any test (xs ++ ys) ≡ true) → (t || list_any test (xs ++ ys)) ≡ true
    pick true q k = refl
    pick false q k = k q

alone : (xs : List Item) (parts : List Part) → has_no_parts parts ≡ true → xs ++ flat_map (λ (part : Part). part.items) parts ≡ xs
alone xs [] h = append-nil xs
alone xs (part ∷ parts) h = absurd (cc)

-- a body with a `finish` is the call handler, which has a `take`
finish_takes : (image : Image) (bytes n : ℕ) (b : Body) → is_body bytes b ≡ true → failing_call image n b ≡ None → list_any is_finish (body_items b) ≡ true
    → list_any is_take (body_items b) ≡ true
finish_takes image bytes n b h q f =
    let h6 = and_left _ (nat_le (length (body_items b)) 256) h in
    let h5 = and_left _ (are_parts bytes (length b.items) b.parts) h6 in
    let parts = and_right _ (has_no_parts b.parts || is_call_handler b) h5 in
    let h4 = and_left _ (has_no_parts b.parts || is_call_handler b) h5 in
    let h3 = and_left _ (list_all (has_operands bytes 0 (length b.items)) b.items) h4 in
    let ends = and_right _ (ends_with is_ret b.items) h3 in
    by (has_no_parts b.parts) (is_call_handler b) refl refl parts ends
  where
    by : (x y : Bool) → has_no_parts b.parts ≡ x → is_call_handler b ≡ y → (x || y) ≡ true → ends_with is_ret b.items ≡ true
        → list_any is_take (body_items b) ≡ true
    by true y p c r ends = absurd (let none : list_any is_finish (body_items b) ≡ false = ap (list_any is_finish) (alone b.items b.parts p)
        ∙ main_finish b.items ends in cc)
    by false true p c r ends = any_first is_take b.items (flat_map (λ (part : Part). part.items) b.parts) (takes image n b q c)
    by false false p c r ends = absurd (cc)

each_spelled : (image : Image) (bytes n : ℕ) (bs : List Body) → list_all (is_body bytes) bs ≡ true
    → FailNowhere (λ n b. first_item_from 0 (λ i item. breaks_slots image.processors item) (body_items b)) n bs → FailNowhere (failing_call image) n bs
    → list_all (has_spelling image.processors) bs ≡ true
each_spelled image bytes n [] h s c = refl
each_spelled image bytes n (b ∷ bs) h s c = and_both _ _
    (and_both _ _ (no_item (breaks_slots image.processors) 0 (body_items b) s.0)
    (by (list_any is_take (body_items b)) (list_any is_finish (body_items b)) (finish_takes image bytes n b (and_left _ _ h) c.0)))
    (each_spelled image bytes (suc n) bs (and_right (is_body bytes b) _ h) s.1 c.1)
  where
    by : (x y : Bool) → (y ≡ true → x ≡ true) → (x || not y) ≡ true
    by true y k = refl
    by false true k = k refl
    by false false k = refl

-- the rules on numbers and calls
rules_spelled : (image : Image) → IsImage image → rules image ≡ None → list_all (has_spelling image.processors) image.bodies ≡ true
unfolding rules
rules_spelled image is h =
    let none = none_of (missing_body image ∷ slot_rule image ∷ register_rule image ∷ flag_rule image ∷ if_rule image ∷ eoi_rule image ∷ fault_rule image
    ∷ nmi_rule image ∷ call_rule image ∷ []) h in
    each_spelled image (length image.text) 0 image.bodies is.bodies_given.1
    (nowhere SlotRule (λ n b. first_item_from 0 (λ i item. breaks_slots image.processors item) (body_items b)) 0 image.bodies none.1.0)
    (nowhere CallRule (failing_call image) 0 image.bodies none.1.1.1.1.1.1.1.1.0)

pub accepted_spelling : (image : Image) → IsImage image → IsAccepted image → list_all (has_spelling image.processors) image.bodies ≡ true
accepted_spelling image is accepted = rules_spelled image is accepted.1.kept

pub accepted_are_spelled : AcceptedAreSpelled
accepted_are_spelled mode image is accepted = bodies_are_spelled mode image is (accepted_spelling image is accepted)
