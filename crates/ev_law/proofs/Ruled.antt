-- What the rules and the grammar say of each body of an accepted image, at each of its items.
use Rattle.std.specs.Prelude.{◌≡◌, refl, ℕ, zero, suc, ◌+◌, ◌≤◌, ◌<◌, ◌⊎◌, Bool, true, false, not, ◌&&◌, ◌||◌, nat_le, ◌==◌, if◌then◌else◌, List, [], ◌∷◌, length, take, Option, Some, None, slice_get}
use Rattle.std.specs.List.{list_any, list_all}
use Rattle.std.proofs.Common.{arith, ap, sym, ◌∙◌, subst, inl, inr}
use Rattle.std.proofs.lemmas.Bool.{and_parts, or_parts, not-false, and_from, or_from, false_from_ne_true, eqb-true, eq-eqb, leb-true, leb-false, le-leb, lt-leb}
use Rattle.std.proofs.lemmas.List.{take-append-le}
use Rattle.ev_body.specs.declared.key.Key.{Key}
use Rattle.ev_body.specs.declared.key.Side.TheVariants.{User, Kernel}
use Rattle.ev_body.specs.declared.item.Item.{Item}
use Rattle.ev_body.specs.declared.item.Item.TheVariants.{Send, Call, Take, Finish, Ret}
use Rattle.ev_body.specs.declared.body.Part.{Part}
use Rattle.ev_body.specs.declared.body.Body.{Body}
use Rattle.ev_body.specs.declared.image.Image.{Image}
use Rattle.ev_body.specs.Bodies.{body_items, key_number, covers, function_start}
use Rattle.ev_body.specs.WellFormed.{IsImage, is_body, is_key, are_parts, has_operands, is_sendable, is_word, has_no_parts, ends_with, is_ret, is_finish, is_apart, are_apart}
use Rattle.ev_abstract.specs.CrossCall.{take_place}
use Rattle.ev_abstract.specs.Rules.{first_item_from, refusal_at, first_refused, first_some, rules, missing_body, slot_rule, register_rule, flag_rule, if_rule, eoi_rule, fault_rule, nmi_rule, call_rule, breaks_slots, breaks_registers, breaks_flags, breaks_if, breaks_eoi, breaks_calls, failing_eoi, failing_call, or_first, jump_target, in_function, item_before, leaves_flags, is_take, is_eoi, is_irq, is_call_handler, is_function, is_inner, is_for_outer}
use Rattle.ev_abstract.specs.declared.refusal.Refusal.{Refusal}
use Rattle.ev_abstract.specs.declared.refusal.Refusal.TheVariants.{SlotRule, RegisterRule, FlagRule, IfRule, EoiRule, NmiRule, CallRule}
use Rattle.ev_law.specs.Legal.{has_function, declares, is_eoi_behind}
use Rattle.ev_law.proofs.Lists.{all_at}
use Rattle.ev_law.proofs.Parts.{items_of, get_split, total, goes_in, starts_in, no_finish_in, leads_in, part_ends, parts_go_on, parts_no_ret, eoi_before_ret, parts_lead, parts_operands, parts_start, before, start_leaves, take_first, take_found}

-- a body of an accepted image
pub record IsRuled (image : Image) (b : Body) : Type 0 where
  pub starts : 0 < length b.items
  pub goes_on : (i : ℕ) (item : Item) → slice_get (body_items b) i ≡ Some item → is_ret item ≡ false → is_finish item ≡ false
      → (suc i < length (body_items b)) × (in_function b (suc i) ≡ in_function b i)
  pub leads : (i : ℕ) (item : Item) (n : ℕ) → slice_get (body_items b) i ≡ Some item → jump_target item ≡ Some n
      → (n < length (body_items b)) × (in_function b n ≡ in_function b i)
  pub flags : (i : ℕ) (item : Item) → slice_get (body_items b) i ≡ Some item → breaks_flags b i item ≡ false
  pub switch : (i : ℕ) (item : Item) → slice_get (body_items b) i ≡ Some item → breaks_if b i item ≡ false
  pub eoi : (i : ℕ) (item : Item) → slice_get (body_items b) i ≡ Some item → breaks_eoi b i item ≡ false
  -- a function stands in a body with a `take`
  pub part : (i : ℕ) → i < length (body_items b) → in_function b i ≡ true
      → (take_place 0 (body_items b) < length b.items) × (slice_get (body_items b) (take_place 0 (body_items b)) ≡ Some Take)
  -- a body has one `take`
  pub first : (i : ℕ) → slice_get (body_items b) i ≡ Some Take → list_any is_take (take i (body_items b)) ≡ false
  pub take : (i : ℕ) → slice_get (body_items b) i ≡ Some Take
      → (take_place 0 (body_items b) ≡ i) × (in_function b i ≡ false) × (is_call_handler b ≡ true)
  pub finish : (i : ℕ) → slice_get (body_items b) i ≡ Some Finish → in_function b i ≡ true
  -- before the `ret` of an interrupt's body stands its `eoi`
  pub ret : (i : ℕ) → slice_get (body_items b) i ≡ Some Ret
      → (in_function b i ≡ false) × (is_irq b.key ≡ true → is_eoi_behind b i ≡ true)
  pub func : (func : ℕ) → list_any (λ (part : Part). part.func == func) b.parts ≡ true
      → (function_start b func < length (body_items b)) × (in_function b (function_start b func) ≡ true)
      × (leaves_flags (item_before b (function_start b func)) ≡ false)
  pub sends : (i to : ℕ) (key : Key) → slice_get (body_items b) i ≡ Some (Send to key) → is_sendable key ≡ true
  pub calls : (i site to func s : ℕ) → slice_get (body_items b) i ≡ Some (Call site to func s) → declares image func ≡ true
  pub slots : (i : ℕ) (item : Item) → slice_get (body_items b) i ≡ Some item → breaks_slots image.processors item ≡ false
  pub registers : (i : ℕ) (item : Item) → slice_get (body_items b) i ≡ Some item → breaks_registers b item ≡ false
  pub operands : (i : ℕ) (item : Item) → slice_get (body_items b) i ≡ Some item
      → (low : ℕ) × (high : ℕ) × (has_operands (length image.text) low high item ≡ true)
  pub key : is_key b.key ≡ true

-- ---- a rule that refuses nothing

-- a test that no item passes, from number k on
no_item : (test : ℕ → Item → Bool) (k i : ℕ) (item : Item) (items : List Item) → first_item_from k test items ≡ None → slice_get items i ≡ Some item
    → test (k + i) item ≡ false
no_item test k i item [] h e = absurd (cc)
no_item test k i item (x ∷ xs) h e = pick (test k x) refl h (λ j r q. no_item test (suc k) j item xs r q) i e
  where
    pick : (t : Bool) → test k x ≡ t → (if t then Some k else first_item_from (suc k) test xs) ≡ None
        → ((j : ℕ) → first_item_from (suc k) test xs ≡ None → slice_get xs j ≡ Some item → test (suc k + j) item ≡ false)
        → (i : ℕ) → slice_get (x ∷ xs) i ≡ Some item → test (k + i) item ≡ false
    pick true q r next i e = absurd (cc)
    pick false q r next zero e = let same : x ≡ item = cc in let z : k + 0 ≡ k = omega arith in rw z (subst (λ y. test k y ≡ false) same q)
    pick false q r next (suc i) e = let z : k + suc i ≡ suc k + i = omega arith in rw z (next i r e)

pub no_item_of : (test : ℕ → Item → Bool) (i : ℕ) (item : Item) (items : List Item) → first_item_from 0 test items ≡ None
    → slice_get items i ≡ Some item → test i item ≡ false
no_item_of test i item items h e = let z : 0 + i ≡ i = omega arith in subst (λ k. test k item ≡ false) z (no_item test 0 i item items h e)

-- a rule that refuses no body, at the body of number i from n on
nowhere : (name : ℕ → ℕ → Refusal) (fails : ℕ → Body → Option ℕ) (n i : ℕ) (b : Body) (bs : List Body) → first_refused name fails n bs ≡ None
    → slice_get bs i ≡ Some b → fails (n + i) b ≡ None
nowhere name fails n i b [] h e = absurd (cc)
nowhere name fails n i b (x ∷ xs) h e = pick (fails n x) refl h (λ j r q. nowhere name fails (suc n) j b xs r q) i e
  where
    pick : (o : Option ℕ) → fails n x ≡ o → refusal_at name n o (first_refused name fails (suc n) xs) ≡ None
        → ((j : ℕ) → first_refused name fails (suc n) xs ≡ None → slice_get xs j ≡ Some b → fails (suc n + j) b ≡ None)
        → (i : ℕ) → slice_get (x ∷ xs) i ≡ Some b → fails (n + i) b ≡ None
    pick (Some k) q r next i e = absurd (cc)
    pick None q r next zero e = let same : x ≡ b = cc in let z : n + 0 ≡ n = omega arith in rw z (subst (λ y. fails n y ≡ None) same q)
    pick None q r next (suc i) e = let z : n + suc i ≡ suc n + i = omega arith in rw z (next i r e)

-- a rule of items, at an item
at_item : (name : ℕ → ℕ → Refusal) (test : Body → ℕ → Item → Bool) (bs : List Body) (n : ℕ) (b : Body)
    → first_refused name (λ n b. first_item_from 0 (test b) (body_items b)) 0 bs ≡ None → slice_get bs n ≡ Some b
    → (i : ℕ) (item : Item) → slice_get (body_items b) i ≡ Some item → test b i item ≡ false
at_item name test bs n b h e i item k =
    no_item_of (test b) i item (body_items b) (nowhere name (λ n b. first_item_from 0 (test b) (body_items b)) 0 n b bs h e) k

abbrev All : List (Option Refusal) → Type 0
All [] = Unit {0}
All (r ∷ rs) = (r ≡ None) × All rs

none_of : (rs : List (Option Refusal)) → first_some rs ≡ None → All rs
none_of [] h = tt
none_of (None ∷ rs) h = (refl, none_of rs h)
none_of (Some r ∷ rs) h = absurd (cc)

eoi_items : (o : Option ℕ) (t : Bool) → or_first o t ≡ None → o ≡ None
eoi_items None t h = refl
eoi_items (Some i) t h = absurd (cc)

eoi_there : (o : Option ℕ) (t : Bool) → or_first o t ≡ None → t ≡ false
eoi_there None true h = absurd (cc)
eoi_there None false h = refl
eoi_there (Some i) t h = absurd (cc)

-- ---- items of the main part and of functions

sends_in : (bytes low high to : ℕ) (key : Key) → has_operands bytes low high (Send to key) ≡ true → is_sendable key ≡ true
unfolding has_operands
sends_in bytes low high to key h = (and_parts (is_word to) (is_sendable key) h).1

parts_send : (bytes n : ℕ) (parts : List Part) (j to : ℕ) (key : Key) → are_parts bytes n parts ≡ true
    → slice_get (items_of parts) j ≡ Some (Send to key) → is_sendable key ≡ true
parts_send bytes n [] j to key h e = absurd (cc)
parts_send bytes n (part ∷ rest) j to key h e =
    let p = part_ends bytes n part rest h in
    step (get_split part.items (items_of rest) j (Send to key) e) p.1 (λ k q. parts_send bytes (n + length part.items) rest k to key p.2 q)
  where
    step : ((j < length part.items) × (slice_get part.items j ≡ Some (Send to key)))
        ⊎ ((k : ℕ) × (j ≡ length part.items + k) × (slice_get (items_of rest) k ≡ Some (Send to key)))
        → list_all (has_operands bytes n (n + length part.items)) part.items ≡ true
        → ((k : ℕ) → slice_get (items_of rest) k ≡ Some (Send to key) → is_sendable key ≡ true) → is_sendable key ≡ true
    step (inl a) ops next =
        sends_in bytes n (n + length part.items) to key (all_at (has_operands bytes n (n + length part.items)) part.items j (Send to key) ops a.1)
    step (inr a) ops next = next a.0 a.2

outside : (b : Body) (i : ℕ) → i < length b.items → in_function b i ≡ false
outside b i l = lt-leb (length b.items) i l

inside : (b : Body) (i : ℕ) → length b.items ≤ i → in_function b i ≡ true
inside b i l = le-leb (length b.items) i l

take_rule : (image : Image) (n : ℕ) (b : Body) (i : ℕ) → breaks_calls image n b i Take ≡ false
    → (is_call_handler b ≡ true) × (in_function b i ≡ false) × (list_any is_take (take i b.items) ≡ false)
unfolding breaks_calls
take_rule image n b i h =
    let p = or_parts (not (is_call_handler b) || in_function b i) _ h in
    let q = or_parts (not (is_call_handler b)) (in_function b i) p.0 in (not-false _ q.0, q.1, p.1)

call_rule_at : (image : Image) (n : ℕ) (b : Body) (i site to func s : ℕ) → breaks_calls image n b i (Call site to func s) ≡ false
    → is_function image func ≡ true
unfolding breaks_calls
call_rule_at image n b i site to func s h = not-false _ (or_parts _ (not (is_function image func)) h).1

-- what CallRule says of a body
call_parts : (image : Image) (n : ℕ) (b : Body) → failing_call image n b ≡ None
    → (is_call_handler b ≡ true → (list_any is_take b.items ≡ true) × (covers b.side User ≡ true))
    × (first_item_from 0 (breaks_calls image n b) (body_items b) ≡ None)
call_parts image n b h = by (is_call_handler b) (list_any is_take b.items) (covers b.side User) (covers b.side Kernel) h
  where
    by : (c x y z : Bool) → (if c && (not x || not (y && z)) then Some 0 else first_item_from 0 (breaks_calls image n b) (body_items b)) ≡ None
        → (c ≡ true → (x ≡ true) × (y ≡ true)) × (first_item_from 0 (breaks_calls image n b) (body_items b) ≡ None)
    by true true true true h = (λ q. (refl, refl), h)
    by true true true false h = absurd (cc)
    by true true false z h = absurd (cc)
    by true false y z h = absurd (cc)
    by false x y z h = (λ q. absurd (cc), h)

-- one body, from the grammar and CallRule
module _ (image : Image) (bytes n : ℕ) (b : Body) (ends : ends_with is_ret b.items ≡ true) (ops : list_all (has_operands bytes 0 (length b.items)) b.items
    ≡ true) (parts : are_parts bytes (length b.items) b.parts ≡ true) where
  split : (i : ℕ) (item : Item) → slice_get (body_items b) i ≡ Some item
      → ((i < length b.items) × (slice_get b.items i ≡ Some item)) ⊎ ((k : ℕ) × (i ≡ length b.items + k) × (slice_get (items_of b.parts) k ≡ Some item))
  split i item k = get_split b.items (items_of b.parts) i item k

  goes_on_at : (i : ℕ) (item : Item) → slice_get (body_items b) i ≡ Some item → is_ret item ≡ false → is_finish item ≡ false
      → (suc i < length (body_items b)) × (in_function b (suc i) ≡ in_function b i)
  goes_on_at i item k r f = step (split i item k)
    where
      step : ((i < length b.items) × (slice_get b.items i ≡ Some item)) ⊎ ((k : ℕ) × (i ≡ length b.items + k) × (slice_get (items_of b.parts) k ≡ Some item))
          → (suc i < length (body_items b)) × (in_function b (suc i) ≡ in_function b i)
      step (inl a) = let l : suc i < length b.items = goes_in is_ret b.items i item ends a.1 r in let z = total b.items (items_of b.parts) in
          (omega (arith, l, z), outside b (suc i) l ∙ sym (outside b i a.0))
      step (inr a) =
          let l : suc a.0 < length (items_of b.parts) = parts_go_on bytes (length b.items) b.parts a.0 item parts a.2 f in
          let q : i ≡ length b.items + a.0 = a.1 in
          let z = total b.items (items_of b.parts) in
          let lo : length b.items ≤ i = omega (arith, q) in
          let hi : length b.items ≤ suc i = omega (arith, lo) in
          (omega (arith, l, q, z), inside b (suc i) hi ∙ sym (inside b i lo))

  leads_at : (i : ℕ) (item : Item) (t : ℕ) → slice_get (body_items b) i ≡ Some item → jump_target item ≡ Some t
      → (t < length (body_items b)) × (in_function b t ≡ in_function b i)
  leads_at i item t k j = step (split i item k)
    where
      step : ((i < length b.items) × (slice_get b.items i ≡ Some item)) ⊎ ((k : ℕ) × (i ≡ length b.items + k) × (slice_get (items_of b.parts) k ≡ Some item))
          → (t < length (body_items b)) × (in_function b t ≡ in_function b i)
      step (inl a) =
          let l : t < length b.items = (leads_in bytes 0 (length b.items) item t (all_at (has_operands bytes 0 (length b.items)) b.items i item ops a.1)
          j).1 in
          let z = total b.items (items_of b.parts) in
          (omega (arith, l, z), outside b t l ∙ sym (outside b i a.0))
      step (inr a) =
          let l = parts_lead bytes (length b.items) b.parts a.0 item t parts a.2 j in
          let lo : length b.items ≤ t = l.0 in
          let hi : t < length b.items + length (items_of b.parts) = l.1 in
          let q : i ≡ length b.items + a.0 = a.1 in let z = total b.items (items_of b.parts) in let here : length b.items ≤ i = omega (arith, q) in
          (omega (arith, hi, z), inside b t lo ∙ sym (inside b i here))

  operands_at : (i : ℕ) (item : Item) → slice_get (body_items b) i ≡ Some item
      → (low : ℕ) × (high : ℕ) × (has_operands bytes low high item ≡ true)
  operands_at i item k = step (split i item k)
    where
      step : ((i < length b.items) × (slice_get b.items i ≡ Some item))
          ⊎ ((k : ℕ) × (i ≡ length b.items + k) × (slice_get (items_of b.parts) k ≡ Some item))
          → (low : ℕ) × (high : ℕ) × (has_operands bytes low high item ≡ true)
      step (inl a) = (0, length b.items, all_at (has_operands bytes 0 (length b.items)) b.items i item ops a.1)
      step (inr a) = parts_operands bytes (length b.items) b.parts a.0 item parts a.2

  sends_at : (i to : ℕ) (key : Key) → slice_get (body_items b) i ≡ Some (Send to key) → is_sendable key ≡ true
  sends_at i to key k = step (split i (Send to key) k)
    where
      step : ((i < length b.items) × (slice_get b.items i ≡ Some (Send to key)))
          ⊎ ((k : ℕ) × (i ≡ length b.items + k) × (slice_get (items_of b.parts) k ≡ Some (Send to key)))
          → is_sendable key ≡ true
      step (inl a) = sends_in bytes 0 (length b.items) to key (all_at (has_operands bytes 0 (length b.items)) b.items i (Send to key) ops a.1)
      step (inr a) = parts_send bytes (length b.items) b.parts a.0 to key parts a.2

  finish_at : (i : ℕ) → slice_get (body_items b) i ≡ Some Finish → in_function b i ≡ true
  finish_at i k = step (split i Finish k)
    where
      step : ((i < length b.items) × (slice_get b.items i ≡ Some Finish))
          ⊎ ((k : ℕ) × (i ≡ length b.items + k) × (slice_get (items_of b.parts) k ≡ Some Finish))
          → in_function b i ≡ true
      step (inl a) = absurd (no_finish_in b.items i ends a.1)
      step (inr a) = let q : i ≡ length b.items + a.0 = a.1 in inside b i (omega (arith, q))

  ret_at : (is_irq b.key && not (list_any is_eoi b.items)) ≡ false → (i : ℕ) → slice_get (body_items b) i ≡ Some Ret
      → (in_function b i ≡ false) × (is_irq b.key ≡ true → list_any is_eoi (take i (body_items b)) ≡ true)
  ret_at rule i k = step (split i Ret k)
    where
      has_one : (t e : Bool) → (t && not e) ≡ false → t ≡ true → e ≡ true
      has_one true true h q = refl
      has_one true false h q = absurd (cc)
      has_one false e h q = absurd (cc)

      step : ((i < length b.items) × (slice_get b.items i ≡ Some Ret))
          ⊎ ((k : ℕ) × (i ≡ length b.items + k) × (slice_get (items_of b.parts) k ≡ Some Ret))
          → (in_function b i ≡ false) × (is_irq b.key ≡ true → list_any is_eoi (take i (body_items b)) ≡ true)
      step (inl a) = let l : i < length b.items = a.0 in (
        outside b i a.0,
        λ q. ap (list_any is_eoi) (take-append-le i b.items (items_of b.parts) (omega (arith, l)))
            ∙ eoi_before_ret b.items i ends a.1 (has_one (is_irq b.key) (list_any is_eoi b.items) rule q),
      )
      step (inr a) = absurd (parts_no_ret bytes (length b.items) b.parts a.0 parts a.2)

  part_at : (has_no_parts b.parts || (key_number b.key == 0xfb)) ≡ true → (is_call_handler b ≡ true → list_any is_take b.items ≡ true) → (i : ℕ)
      → i < length (body_items b) → in_function b i ≡ true
      → (take_place 0 (body_items b) < length b.items) × (slice_get (body_items b) (take_place 0 (body_items b)) ≡ Some Take)
  part_at own takes i l f = step (has_no_parts b.parts) refl own
    where
      none : (ps : List Part) → has_no_parts ps ≡ true → items_of ps ≡ []
      none [] h = refl
      none (p ∷ ps) h = absurd (cc)

      step : (t : Bool) → has_no_parts b.parts ≡ t → (t || is_call_handler b) ≡ true
          → (take_place 0 (body_items b) < length b.items) × (slice_get (body_items b) (take_place 0 (body_items b)) ≡ Some Take)
      step true q r =
          absurd (let z = total b.items (items_of b.parts) in let n : length (items_of b.parts) ≡ 0 = ap length (none b.parts q) in
          let lo : length b.items ≤ i = leb-true (length b.items) i f in omega (arith, l, z, n, lo))
      step false q r =
          let f = take_found 0 b.items (items_of b.parts) (takes r) in
          let at : take_place 0 (body_items b) ≡ 0 + f.0 = f.1 in
          let same : f.0 ≡ take_place 0 (body_items b) = omega (arith, at) in
          subst (λ k. (k < length b.items) × (slice_get (body_items b) k ≡ Some Take)) same (f.2, f.3)

  first_at : (i : ℕ) → (is_call_handler b ≡ true) × (in_function b i ≡ false) × (list_any is_take (take i b.items) ≡ false)
      → list_any is_take (take i (body_items b)) ≡ false
  first_at i rule =
      let l : i < length b.items = leb-false (length b.items) i rule.1 in
      let le : i ≤ length b.items = omega (arith, l) in
      ap (list_any is_take) (take-append-le i b.items (items_of b.parts) le) ∙ rule.2

  take_at : (i : ℕ) → (is_call_handler b ≡ true) × (in_function b i ≡ false) × (list_any is_take (take i b.items) ≡ false)
      → slice_get (body_items b) i ≡ Some Take
      → (take_place 0 (body_items b) ≡ i) × (in_function b i ≡ false) × (is_call_handler b ≡ true)
  take_at i rule k =
      let q : take_place 0 (body_items b) ≡ 0 + i = take_first 0 (body_items b) i k (first_at i rule) in
      (omega (arith, q), rule.1, rule.0)

  func_at : (func : ℕ) → list_any (λ (part : Part). part.func == func) b.parts ≡ true
      → (function_start b func < length (body_items b)) × (in_function b (function_start b func) ≡ true)
      × (leaves_flags (item_before b (function_start b func)) ≡ false)
  func_at func k =
      let l = parts_start bytes (length b.items) b.parts func parts k in
      let lo : length b.items ≤ function_start b func = l.0 in
      let hi : function_start b func < length b.items + length (items_of b.parts) = l.1 in
      let z = total b.items (items_of b.parts) in
      (omega (arith, hi, z), inside b (function_start b func) lo, same (function_start b func) (start_leaves bytes b.items b.parts func ends parts k))
    where
      same : (i : ℕ) → leaves_flags (before bytes (body_items b) i) ≡ false → leaves_flags (item_before b i) ≡ false
      same zero h = h
      same (suc i) h = h

-- ---- one body takes calls

all_from : (test : Body → Bool) (bs : List Body) → ((n : ℕ) (b : Body) → slice_get bs n ≡ Some b → test b ≡ true) → list_all test bs ≡ true
all_from test [] h = refl
all_from test (b ∷ bs) h = and_from _ _ (h 0 b refl) (all_from test bs (λ n c e. h (suc n) c e))

not_two : (x y u v w : Bool) → (not x || not ((u && v) || w)) ≡ true → x ≡ true → u ≡ true → (not y || v) ≡ true → y ≡ true → ⊥
not_two true true true true w h a b c d = absurd (cc)
not_two true true true false w h a b c d = absurd (cc)
not_two true true false v w h a b c d = absurd (cc)
not_two true false u v w h a b c d = absurd (cc)
not_two false y u v w h a b c d = absurd (cc)

no_other : (func : ℕ) (b : Body) (bs : List Body) → is_call_handler b ≡ true → covers b.side User ≡ true → list_all (is_apart b) bs ≡ true
    → list_all (λ (c : Body). not (is_call_handler c) || covers c.side User) bs ≡ true
    → (list_any (λ (c : Body). is_call_handler c && has_function func c) bs ≡ false)
    × (list_all (λ (c : Body). not (is_call_handler c) || has_function func c) bs ≡ true)
no_other func b [] h u apart cover = (refl, refl)
no_other func b (c ∷ cs) h u apart cover =
    let a = and_parts (is_apart b c) _ apart in
    let v = and_parts (not (is_call_handler c) || covers c.side User) _ cover in
    let rest = no_other func b cs h u a.1 v.1 in
    let no_handler : is_call_handler c ≡ false = false_from_ne_true (is_call_handler c) (λ q.
    (let k : key_number b.key ≡ 0xfb = eqb-true _ _ h in let l : key_number c.key ≡ 0xfb = eqb-true _ _ q in
    not_two _ (is_call_handler c) (covers b.side User) (covers c.side User) _ a.0 (eq-eqb (key_number b.key) (key_number c.key) (omega (arith, k, l))) u v.0
    q)) in
    (or_from _ _ (ap (λ t. t && has_function func c) no_handler) rest.0, and_from _ _ (ap (λ t. not t || has_function func c) no_handler) rest.1)

one_handler : (func : ℕ) (bs : List Body) → are_apart bs ≡ true → list_all (λ (c : Body). not (is_call_handler c) || covers c.side User) bs ≡ true
    → list_any (λ (c : Body). is_call_handler c && has_function func c) bs ≡ true
    → list_all (λ (c : Body). not (is_call_handler c) || has_function func c) bs ≡ true
one_handler func [] apart cover has = refl
one_handler func (b ∷ bs) apart cover has =
    let a = and_parts (list_all (is_apart b) bs) _ apart in
    let v = and_parts (not (is_call_handler b) || covers b.side User) _ cover in
    step (is_call_handler b) (has_function func b) refl v.0 has (λ h u. no_other func b bs h u a.0 v.1) (one_handler func bs a.1 v.1)
  where
    step : (x y : Bool) → is_call_handler b ≡ x → (not x || covers b.side User) ≡ true
        → ((x && y) || list_any (λ (c : Body). is_call_handler c && has_function func c) bs) ≡ true
        → (is_call_handler b ≡ true → covers b.side User ≡ true → (list_any (λ (c : Body). is_call_handler c && has_function func c) bs ≡ false)
        × (list_all (λ (c : Body). not (is_call_handler c) || has_function func c) bs ≡ true))
        → (list_any (λ (c : Body). is_call_handler c && has_function func c) bs ≡ true
        → list_all (λ (c : Body). not (is_call_handler c) || has_function func c) bs ≡ true)
        → ((not x || y) && list_all (λ (c : Body). not (is_call_handler c) || has_function func c) bs) ≡ true
    step true true q u h none next = (none q u).1
    step true false q u h none next = absurd (let z = (none q u).0 in cc)
    step false y q u h none next = next h

-- ---- together

module _ (image : Image) (is : IsImage image) (kept : rules image ≡ None) where
  all_rules : All (missing_body image ∷ slot_rule image ∷ register_rule image ∷ flag_rule image ∷ if_rule image ∷ eoi_rule image ∷ fault_rule image
      ∷ nmi_rule image ∷ call_rule image ∷ [])
  unfolding rules
  all_rules =
      none_of (missing_body image ∷ slot_rule image ∷ register_rule image ∷ flag_rule image ∷ if_rule image ∷ eoi_rule image ∷ fault_rule image
      ∷ nmi_rule image ∷ call_rule image ∷ []) kept

  pub call_rule_of : (n : ℕ) (b : Body) → slice_get image.bodies n ≡ Some b → failing_call image n b ≡ None
  call_rule_of n b e =
      let z : 0 + n ≡ n = omega arith in subst (λ k. failing_call image k b ≡ None) z
      (nowhere CallRule (failing_call image) 0 n b image.bodies all_rules.1.1.1.1.1.1.1.1.0 e)

  -- what CallRule and NmiRule say of an item
  pub keeps_call_rule : (n : ℕ) (b : Body) → slice_get image.bodies n ≡ Some b → (i : ℕ) (item : Item) → slice_get (body_items b) i ≡ Some item
      → breaks_calls image n b i item ≡ false
  keeps_call_rule n b e i item k = no_item_of (breaks_calls image n b) i item (body_items b) (call_parts image n b (call_rule_of n b e)).1 k

  pub keeps_nmi_rule : (n : ℕ) (b : Body) → slice_get image.bodies n ≡ Some b → (i : ℕ) (item : Item) → slice_get (body_items b) i ≡ Some item
      → (is_inner b && is_for_outer item) ≡ false
  keeps_nmi_rule n b e = at_item NmiRule (λ b i item. is_inner b && is_for_outer item) image.bodies n b all_rules.1.1.1.1.1.1.1.0 e

  -- a body that takes calls serves user code
  pub handler_serves_users : (n : ℕ) (b : Body) → slice_get image.bodies n ≡ Some b → is_call_handler b ≡ true → covers b.side User ≡ true
  handler_serves_users n b e q = ((call_parts image n b (call_rule_of n b e)).0 q).1

  declared : (func : ℕ) → is_function image func ≡ true → declares image func ≡ true
  unfolding declares
  declared func h = one_handler func image.bodies is.bodies_given.2
      (all_from (λ (c : Body). not (is_call_handler c) || covers c.side User) image.bodies
      (λ n b e. covered (is_call_handler b) (covers b.side User) (handler_serves_users n b e))) h
    where
      covered : (x y : Bool) → (x ≡ true → y ≡ true) → (not x || y) ≡ true
      covered true y h = h refl
      covered false y h = refl

  pub body_ruled : (n : ℕ) (b : Body) → slice_get image.bodies n ≡ Some b → IsRuled image b
  body_ruled n b e =
      let bytes : ℕ = length image.text in
      let h7 : is_body bytes b ≡ true = all_at (is_body bytes) image.bodies n b is.bodies_given.1 e in
      let h6 = and_parts _ (nat_le (length (body_items b)) 256) h7 in
      let h5 = and_parts _ (are_parts bytes (length b.items) b.parts) h6.0 in
      let h4 = and_parts _ (has_no_parts b.parts || (key_number b.key == 0xfb)) h5.0 in
      let h3 = and_parts _ (list_all (has_operands bytes 0 (length b.items)) b.items) h4.0 in
      let h2 = and_parts _ (ends_with is_ret b.items) h3.0 in
      let h1 = and_parts (is_key b.key) _ h2.0 in
      let call = call_parts image n b (call_rule_of n b e) in
      record {
        starts = starts_in is_ret b.items h2.1;
        goes_on = λ i item k r f. goes_on_at image bytes n b h2.1 h3.1 h5.1 i item k r f;
        leads = λ i item m k r. leads_at image bytes n b h2.1 h3.1 h5.1 i item m k r;
        flags = at_item FlagRule breaks_flags image.bodies n b all_rules.1.1.1.0 e;
        switch = at_item IfRule breaks_if image.bodies n b all_rules.1.1.1.1.0 e;
        eoi = λ i item k. no_item_of (breaks_eoi b) i item (body_items b)
            (eoi_items _ _ (nowhere EoiRule (λ n b. failing_eoi b) 0 n b image.bodies all_rules.1.1.1.1.1.0 e)) k;
        part = λ i l f. part_at image bytes n b h2.1 h3.1 h5.1 h4.1 (λ q. (call.0 q).0) i l f;
        take = λ i k. take_at image bytes n b h2.1 h3.1 h5.1 i (take_rule image n b i (keeps_call_rule n b e i Take k)) k;
        first = λ i k. first_at image bytes n b h2.1 h3.1 h5.1 i (take_rule image n b i (keeps_call_rule n b e i Take k));
        finish = λ i k. finish_at image bytes n b h2.1 h3.1 h5.1 i k;
        ret = λ i k. ret_at image bytes n b h2.1 h3.1 h5.1
            (eoi_there _ _ (nowhere EoiRule (λ n b. failing_eoi b) 0 n b image.bodies all_rules.1.1.1.1.1.0 e)) i k;
        func = λ func k. func_at image bytes n b h2.1 h3.1 h5.1 func k;
        sends = λ i to key k. sends_at image bytes n b h2.1 h3.1 h5.1 i to key k;
        calls = λ i site to func s k. declared func
            (call_rule_at image n b i site to func s (no_item_of (breaks_calls image n b) i (Call site to func s) (body_items b) call.1 k));
        slots = at_item SlotRule (λ b i item. breaks_slots image.processors item) image.bodies n b all_rules.1.0 e;
        registers = at_item RegisterRule (λ b i item. breaks_registers b item) image.bodies n b all_rules.1.1.0 e;
        operands = λ i item k. operands_at image bytes n b h2.1 h3.1 h5.1 i item k;
        key = h1.0;
      }
