-- The items of a main part and of function parts behind it.
use Rattle.std.specs.Prelude.{◌≡◌, refl, ℕ, zero, suc, ◌+◌, ◌≤◌, ◌<◌, ◌⊎◌, Bool, true, false, not, ◌&&◌, ◌||◌, nat_lt, nat_le, ◌==◌, if◌then◌else◌, List, [], ◌∷◌, ◌++◌, length, take, Option, Some, None, slice_get, flat_map}
use Rattle.std.specs.List.{list_any, list_all}
use Rattle.std.proofs.Common.{arith, ap, sym, ◌∙◌, subst, inl, inr, length-append, append_assoc}
use Rattle.std.proofs.lemmas.Bool.{and_parts, or_parts, ltb-true, leb-true}
use Rattle.ev_body.specs.declared.item.Item.{Item}
use Rattle.ev_body.specs.declared.item.Item.TheVariants.{Jcc, Goto, Take, Finish, Ret}
use Rattle.ev_body.specs.declared.body.Part.{Part}
use Rattle.ev_body.specs.Bodies.{first_item}
use Rattle.ev_body.specs.WellFormed.{are_parts, has_operands, ends_with, is_ret, is_finish, is_body_cond}
use Rattle.ev_abstract.specs.CrossCall.{take_place}
use Rattle.ev_abstract.specs.Rules.{jump_target, leaves_flags, is_take, is_eoi}
use Rattle.ev_law.proofs.Lists.{all_at}

abbrev pub items_of : List Part → List Item
items_of parts = flat_map (λ (part : Part). part.items) parts

pub get_split : (xs ys : List Item) (j : ℕ) (x : Item) → slice_get (xs ++ ys) j ≡ Some x
    → ((j < length xs) × (slice_get xs j ≡ Some x)) ⊎ ((k : ℕ) × (j ≡ length xs + k) × (slice_get ys k ≡ Some x))
get_split [] ys j x h = inr (j, omega arith, h)
get_split (y ∷ xs) ys zero x h = inl (omega arith, h)
get_split (y ∷ xs) ys (suc j) x h = step (get_split xs ys j x h)
  where
    step : ((j < length xs) × (slice_get xs j ≡ Some x)) ⊎ ((k : ℕ) × (j ≡ length xs + k) × (slice_get ys k ≡ Some x))
        → ((suc j < suc (length xs)) × (slice_get xs j ≡ Some x)) ⊎ ((k : ℕ) × (suc j ≡ suc (length xs) + k) × (slice_get ys k ≡ Some x))
    step (inl a) = let l : j < length xs = a.0 in inl (omega (arith, l), a.1)
    step (inr a) = let q : j ≡ length xs + a.0 = a.1 in inr (a.0, omega (arith, q), a.2)

pub get_front : (xs ys : List Item) (j : ℕ) (x : Item) → slice_get xs j ≡ Some x → slice_get (xs ++ ys) j ≡ Some x
get_front [] ys j x h = absurd (cc)
get_front (y ∷ xs) ys zero x h = h
get_front (y ∷ xs) ys (suc j) x h = get_front xs ys j x h

pub total : (xs ys : List Item) → length (xs ++ ys) ≡ length xs + length ys
total xs ys = length-append xs ys

-- ---- a part's end

pub goes_in : (test : Item → Bool) (items : List Item) (i : ℕ) (item : Item) → ends_with test items ≡ true → slice_get items i ≡ Some item
    → test item ≡ false → suc i < length items
unfolding ends_with
goes_in test [] i item h e r = absurd (cc)
goes_in test (x ∷ []) zero item h e r = absurd (let same : x ≡ item = cc in let k : test item ≡ true = subst (λ y. test y ≡ true) same h in cc)
goes_in test (x ∷ []) (suc i) item h e r = absurd (cc)
goes_in test (x ∷ y ∷ ys) zero item h e r = omega arith
goes_in test (x ∷ y ∷ ys) (suc i) item h e r =
    let k : suc i < length (y ∷ ys) = goes_in test (y ∷ ys) i item (and_parts (not (is_ret x) && not (is_finish x)) _ h).1 e r in omega arith

pub starts_in : (test : Item → Bool) (items : List Item) → ends_with test items ≡ true → 0 < length items
unfolding ends_with
starts_in test [] h = absurd (cc)
starts_in test (x ∷ xs) h = omega arith

finish_no_ret : is_ret Finish ≡ true → ⊥
unfolding is_ret
finish_no_ret h = absurd (let k : false ≡ true = h in cc)

finish_is : not (is_finish Finish) ≡ true → ⊥
unfolding is_finish
finish_is h = absurd (let k : false ≡ true = h in cc)

-- the main part has no `finish`
pub no_finish_in : (items : List Item) (i : ℕ) → ends_with is_ret items ≡ true → slice_get items i ≡ Some Finish → ⊥
unfolding ends_with
no_finish_in [] i h e = cc
no_finish_in (x ∷ []) zero h e = let same : x ≡ Finish = cc in finish_no_ret (subst (λ y. is_ret y ≡ true) same h)
no_finish_in (x ∷ []) (suc i) h e = absurd (cc)
no_finish_in (x ∷ y ∷ ys) zero h e = let same : x ≡ Finish = cc in
    finish_is (subst (λ z. not (is_finish z) ≡ true) same (and_parts (not (is_ret x)) _ (and_parts _ (ends_with is_ret (y ∷ ys)) h).0).1)
no_finish_in (x ∷ y ∷ ys) (suc i) h e = no_finish_in (y ∷ ys) i (and_parts (not (is_ret x) && not (is_finish x)) _ h).1 e

pub leads_in : (bytes low high : ℕ) (item : Item) (n : ℕ) → has_operands bytes low high item ≡ true → jump_target item ≡ Some n
    → (low ≤ n) × (n < high)
unfolding has_operands jump_target
leads_in bytes low high (Jcc cond k) n h e =
    let same : k ≡ n = cc in let p = and_parts _ (nat_lt k high) h in let q = and_parts (is_body_cond cond) (nat_le low k) p.0 in
    subst (λ z. (low ≤ z) × (z < high)) same (leb-true low k q.1, ltb-true k high p.1)
leads_in bytes low high (Goto k) n h e =
    let same : k ≡ n = cc in let p = and_parts (nat_le low k) (nat_lt k high) h in
    subst (λ z. (low ≤ z) × (z < high)) same (leb-true low k p.0, ltb-true k high p.1)
leads_in bytes low high _ n h e = absurd (cc)

pub get_behind : (xs ys : List Item) (j k : ℕ) → j ≡ length xs + k → slice_get (xs ++ ys) j ≡ slice_get ys k
get_behind [] ys j k e = ap (slice_get ys) (let z : j ≡ k = omega arith in z)
get_behind (x ∷ xs) ys zero k e = absurd (omega arith)
get_behind (x ∷ xs) ys (suc j) k e = get_behind xs ys j k (omega arith)

last_of : (test : Item → Bool) (items : List Item) → ends_with test items ≡ true
    → (k : ℕ) × (x : Item) × (length items ≡ suc k) × (slice_get items k ≡ Some x) × (test x ≡ true)
unfolding ends_with
last_of test [] h = absurd (cc)
last_of test (x ∷ []) h = (0, x, refl, refl, h)
last_of test (x ∷ y ∷ ys) h = let f = last_of test (y ∷ ys) (and_parts (not (is_ret x) && not (is_finish x)) _ h).1 in
    let n : length (y ∷ ys) ≡ suc f.0 = f.2 in (suc f.0, f.1, ap suc n, f.3, f.4)

last_is : (items : List Item) → ends_with is_finish items ≡ true
    → (k : ℕ) × (x : Item) × (length items ≡ suc k) × (slice_get items k ≡ Some x) × (is_finish x ≡ true)
last_is items h = last_of is_finish items h

finish_leaves : (x : Item) → is_finish x ≡ true → leaves_flags (Some x) ≡ false
unfolding is_finish leaves_flags
finish_leaves Finish h = refl
finish_leaves _ h = absurd (cc)

ret_leaves : (x : Item) → is_ret x ≡ true → leaves_flags (Some x) ≡ false
unfolding is_ret leaves_flags
ret_leaves Ret h = refl
ret_leaves _ h = absurd (cc)

-- a part that ends with `finish` has no `ret`
ret_no_finish : is_finish Ret ≡ true → ⊥
unfolding is_finish
ret_no_finish h = cc

pub no_ret_in : (items : List Item) (i : ℕ) → ends_with is_finish items ≡ true → slice_get items i ≡ Some Ret → ⊥
unfolding ends_with is_ret
no_ret_in [] i h e = cc
no_ret_in (x ∷ []) zero h e = let same : x ≡ Ret = cc in ret_no_finish (subst (λ y. is_finish y ≡ true) same h)
no_ret_in (x ∷ []) (suc i) h e = absurd (cc)
no_ret_in (x ∷ y ∷ ys) zero h e = let same : x ≡ Ret = cc in
    let z = subst (λ q. not (is_ret q) && not (is_finish q) && ends_with is_finish (y ∷ ys) ≡ true) same h in absurd (cc)
no_ret_in (x ∷ y ∷ ys) (suc i) h e = no_ret_in (y ∷ ys) i (and_parts (not (is_ret x) && not (is_finish x)) _ h).1 e

-- before the `ret` that ends a part stand all its other items
no_eoi : is_eoi Ret ≡ true → ⊥
unfolding is_eoi
no_eoi h = cc

pub eoi_before_ret : (items : List Item) (i : ℕ) → ends_with is_ret items ≡ true → slice_get items i ≡ Some Ret → list_any is_eoi items ≡ true
    → list_any is_eoi (take i items) ≡ true
unfolding ends_with is_ret
eoi_before_ret [] i h e k = absurd (cc)
eoi_before_ret (x ∷ []) zero h e k = let same : x ≡ Ret = cc in
    absurd (no_eoi (subst (λ y. is_eoi y ≡ true) same (sym (or_false (is_eoi x)) ∙ k)))
  where
    or_false : (b : Bool) → (b || false) ≡ b
    or_false true = refl
    or_false false = refl
eoi_before_ret (x ∷ []) (suc i) h e k = absurd (cc)
eoi_before_ret (x ∷ y ∷ ys) zero h e k = let same : x ≡ Ret = cc in
    let z = subst (λ q. not (is_ret q) && not (is_finish q) && ends_with is_ret (y ∷ ys) ≡ true) same h in absurd (cc)
eoi_before_ret (x ∷ y ∷ ys) (suc i) h e k =
    pick (is_eoi x) k (λ q. eoi_before_ret (y ∷ ys) i (and_parts (not (is_ret x) && not (is_finish x)) _ h).1 e q)
  where
    pick : (t : Bool) → (t || list_any is_eoi (y ∷ ys)) ≡ true → (list_any is_eoi (y ∷ ys) ≡ true → list_any is_eoi (take i (y ∷ ys)) ≡ true)
        → (t || list_any is_eoi (take i (y ∷ ys))) ≡ true
    pick true q later = refl
    pick false q later = later q

-- ---- function parts, from number n on

module _ (bytes : ℕ) where
  pub part_ends : (n : ℕ) (part : Part) (rest : List Part) → are_parts bytes n (part ∷ rest) ≡ true
      → (ends_with is_finish part.items ≡ true) × (list_all (has_operands bytes n (n + length part.items)) part.items ≡ true)
      × (are_parts bytes (n + length part.items) rest ≡ true)
  part_ends n part rest h =
      let h1 = and_parts _ (are_parts bytes (n + length part.items) rest) h in
      let h2 = and_parts _ (list_all (has_operands bytes n (n + length part.items)) part.items) h1.0 in
      ((and_parts (nat_lt part.func 8) _ h2.0).1, h2.1, h1.1)

  pub parts_go_on : (n : ℕ) (parts : List Part) (j : ℕ) (item : Item) → are_parts bytes n parts ≡ true → slice_get (items_of parts) j ≡ Some item
      → is_finish item ≡ false → suc j < length (items_of parts)
  parts_go_on n [] j item h e f = absurd (cc)
  parts_go_on n (part ∷ rest) j item h e f =
      let p = part_ends n part rest h in
      step (get_split part.items (items_of rest) j item e) p.0 (λ k q. parts_go_on (n + length part.items) rest k item p.2 q f)
    where
      step : ((j < length part.items) × (slice_get part.items j ≡ Some item))
          ⊎ ((k : ℕ) × (j ≡ length part.items + k) × (slice_get (items_of rest) k ≡ Some item))
          → ends_with is_finish part.items ≡ true → ((k : ℕ) → slice_get (items_of rest) k ≡ Some item → suc k < length (items_of rest))
          → suc j < length (part.items ++ items_of rest)
      step (inl a) ends next =
          let l : suc j < length part.items = goes_in is_finish part.items j item ends a.1 f in
          let t = total part.items (items_of rest) in omega (arith, l, t)
      step (inr a) ends next =
          let q : j ≡ length part.items + a.0 = a.1 in
          let l : suc a.0 < length (items_of rest) = next a.0 a.2 in
          let t = total part.items (items_of rest) in omega (arith, l, q, t)

  pub parts_lead : (n : ℕ) (parts : List Part) (j : ℕ) (item : Item) (t : ℕ) → are_parts bytes n parts ≡ true
      → slice_get (items_of parts) j ≡ Some item → jump_target item ≡ Some t → (n ≤ t) × (t < n + length (items_of parts))
  parts_lead n [] j item t h e f = absurd (cc)
  parts_lead n (part ∷ rest) j item t h e f =
      let p = part_ends n part rest h in
      step (get_split part.items (items_of rest) j item e) p.1 (λ k q. parts_lead (n + length part.items) rest k item t p.2 q f)
    where
      step : ((j < length part.items) × (slice_get part.items j ≡ Some item))
          ⊎ ((k : ℕ) × (j ≡ length part.items + k) × (slice_get (items_of rest) k ≡ Some item))
          → list_all (has_operands bytes n (n + length part.items)) part.items ≡ true
          → ((k : ℕ) → slice_get (items_of rest) k ≡ Some item → (n + length part.items ≤ t) × (t < n + length part.items + length (items_of rest)))
          → (n ≤ t) × (t < n + length (part.items ++ items_of rest))
      step (inl a) ops next =
          let l = leads_in bytes n (n + length part.items) item t (all_at (has_operands bytes n (n + length part.items)) part.items j item ops a.1) f in
          let z = total part.items (items_of rest) in let u : t < n + length part.items = l.1 in (l.0, omega (arith, u, z))
      step (inr a) ops next =
          let l = next a.0 a.2 in
          let lo : n + length part.items ≤ t = l.0 in
          let hi : t < n + length part.items + length (items_of rest) = l.1 in
          let z = total part.items (items_of rest) in (omega (arith, lo), omega (arith, hi, z))

  -- the operands of an item of a part
  pub parts_operands : (n : ℕ) (parts : List Part) (j : ℕ) (item : Item) → are_parts bytes n parts ≡ true → slice_get (items_of parts) j ≡ Some item
      → (low : ℕ) × (high : ℕ) × (has_operands bytes low high item ≡ true)
  parts_operands n [] j item h e = absurd (cc)
  parts_operands n (part ∷ rest) j item h e =
      let p = part_ends n part rest h in
      step (get_split part.items (items_of rest) j item e) p.1 (λ k q. parts_operands (n + length part.items) rest k item p.2 q)
    where
      step : ((j < length part.items) × (slice_get part.items j ≡ Some item))
          ⊎ ((k : ℕ) × (j ≡ length part.items + k) × (slice_get (items_of rest) k ≡ Some item))
          → list_all (has_operands bytes n (n + length part.items)) part.items ≡ true
          → ((k : ℕ) → slice_get (items_of rest) k ≡ Some item → (low : ℕ) × (high : ℕ) × (has_operands bytes low high item ≡ true))
          → (low : ℕ) × (high : ℕ) × (has_operands bytes low high item ≡ true)
      step (inl a) ops next =
          (n, n + length part.items, all_at (has_operands bytes n (n + length part.items)) part.items j item ops a.1)
      step (inr a) ops next = next a.0 a.2

  -- no function part has a `ret`
  pub parts_no_ret : (n : ℕ) (parts : List Part) (j : ℕ) → are_parts bytes n parts ≡ true → slice_get (items_of parts) j ≡ Some Ret → ⊥
  parts_no_ret n [] j h e = cc
  parts_no_ret n (part ∷ rest) j h e =
      let p = part_ends n part rest h in
      step (get_split part.items (items_of rest) j Ret e) p.0 (λ k q. parts_no_ret (n + length part.items) rest k p.2 q)
    where
      step : ((j < length part.items) × (slice_get part.items j ≡ Some Ret))
          ⊎ ((k : ℕ) × (j ≡ length part.items + k) × (slice_get (items_of rest) k ≡ Some Ret))
          → ends_with is_finish part.items ≡ true → ((k : ℕ) → slice_get (items_of rest) k ≡ Some Ret → ⊥) → ⊥
      step (inl a) ends next = no_ret_in part.items j ends a.1
      step (inr a) ends next = next a.0 a.2

  -- whether a function is among the parts
  pub parts_start : (n : ℕ) (parts : List Part) (func : ℕ) → are_parts bytes n parts ≡ true
      → list_any (λ (part : Part). part.func == func) parts ≡ true
      → (n ≤ first_item n parts func) × (first_item n parts func < n + length (items_of parts))
  parts_start n [] func h k = absurd (cc)
  parts_start n (part ∷ rest) func h k =
      let p = part_ends n part rest h in
      step (part.func == func) k p.0 (λ q. parts_start (n + length part.items) rest func p.2 q)
    where
      step : (t : Bool) → (t || list_any (λ (part : Part). part.func == func) rest) ≡ true → ends_with is_finish part.items ≡ true
          → (list_any (λ (part : Part). part.func == func) rest ≡ true → (n + length part.items ≤ first_item (n + length part.items) rest func)
          × (first_item (n + length part.items) rest func < n + length part.items + length (items_of rest)))
          → (n ≤ (if t then n else first_item (n + length part.items) rest func))
          × ((if t then n else first_item (n + length part.items) rest func) < n + length (part.items ++ items_of rest))
      step true q ends next = let l = starts_in is_finish part.items ends in let z = total part.items (items_of rest) in (omega arith, omega (arith, l, z))
      step false q ends next = let l = next q in let lo : n + length part.items ≤ first_item (n + length part.items) rest func = l.0 in
          let hi : first_item (n + length part.items) rest func < n + length part.items + length (items_of rest) = l.1 in
          let z = total part.items (items_of rest) in (omega (arith, lo), omega (arith, hi, z))

  -- ---- what stands before a function's start

  abbrev pub before : List Item → ℕ → Option Item
  before items zero = None
  before items (suc i) = slice_get items i

  -- the front ends with an item that leaves no flags
  abbrev Closed : List Item → Type 0
  Closed front = (rest : List Item) → leaves_flags (before (front ++ rest) (length front)) ≡ false

  closed_then : (front items : List Item) → ends_with is_finish items ≡ true → Closed (front ++ items)
  closed_then front items h rest =
      let f = last_is items h in
      let n : length items ≡ suc f.0 = f.2 in
      let t = total front items in
      let len : length (front ++ items) ≡ suc (length front + f.0) = omega (arith, t, n) in
      let at : slice_get ((front ++ items) ++ rest) (length front + f.0) ≡ Some f.1 = get_front (front ++ items) rest (length front + f.0) f.1
      (get_behind front items (length front + f.0) f.0 refl ∙ f.3) in
      subst (λ k. leaves_flags (before ((front ++ items) ++ rest) k) ≡ false) (sym len) (subst (λ o. leaves_flags o ≡ false) (sym at) (finish_leaves f.1 f.4))

  main_closed : (items : List Item) → ends_with is_ret items ≡ true → Closed items
  main_closed items h rest =
      let f = last_of is_ret items h in
      let len : length items ≡ suc f.0 = f.2 in
      subst (λ k. leaves_flags (before (items ++ rest) k) ≡ false) (sym len) (subst (λ o. leaves_flags o ≡ false) (sym (get_front items rest f.0 f.1 f.3))
      (ret_leaves f.1 f.4))

  before_start : (front : List Item) (parts : List Part) (func : ℕ) → Closed front → are_parts bytes (length front) parts ≡ true
      → list_any (λ (part : Part). part.func == func) parts ≡ true
      → leaves_flags (before (front ++ items_of parts) (first_item (length front) parts func)) ≡ false
  before_start front [] func closed h k = absurd (cc)
  before_start front (part ∷ rest) func closed h k =
      let p = part_ends (length front) part rest h in
      let t = total front part.items in
      step (part.func == func) k (λ q.
      let r : are_parts bytes (length (front ++ part.items)) rest ≡ true = subst (λ n. are_parts bytes n rest ≡ true) (sym t) p.2 in
      let a = before_start (front ++ part.items) rest func (closed_then front part.items p.0) r q in
      subst (λ n. leaves_flags (before (front ++ (part.items ++ items_of rest)) (first_item n rest func)) ≡ false) t
      (subst (λ xs. leaves_flags (before xs (first_item (length (front ++ part.items)) rest func)) ≡ false) (append_assoc front part.items (items_of rest))
      a))
    where
      step : (t : Bool) → (t || list_any (λ (part : Part). part.func == func) rest) ≡ true
          → (list_any (λ (part : Part). part.func == func) rest ≡ true
          → leaves_flags (before (front ++ (part.items ++ items_of rest)) (first_item (length front + length part.items) rest func)) ≡ false)
          → leaves_flags (before (front ++ (part.items ++ items_of rest))
          (if t then length front else first_item (length front + length part.items) rest func)) ≡ false
      step true q next = closed (part.items ++ items_of rest)
      step false q next = next q

  pub start_leaves : (items : List Item) (parts : List Part) (func : ℕ) → ends_with is_ret items ≡ true → are_parts bytes (length items) parts ≡ true
      → list_any (λ (part : Part). part.func == func) parts ≡ true
      → leaves_flags (before (items ++ items_of parts) (first_item (length items) parts func)) ≡ false
  start_leaves items parts func h k q = before_start items parts func (main_closed items h) k q

-- ---- `take`

take_skips : (k : ℕ) (x : Item) (xs : List Item) → is_take x ≡ false → take_place k (x ∷ xs) ≡ take_place (suc k) xs
unfolding is_take
take_skips k Take xs h = absurd (cc)
take_skips k _ xs h = refl

is_the_take : (x : Item) → is_take x ≡ true → x ≡ Take
unfolding is_take
is_the_take Take h = refl
is_the_take _ h = absurd (cc)

pub take_first : (k : ℕ) (xs : List Item) (i : ℕ) → slice_get xs i ≡ Some Take → list_any is_take (take i xs) ≡ false → take_place k xs ≡ k + i
take_first k [] i e h = absurd (cc)
take_first k (y ∷ ys) zero e h = let same : y ≡ Take = cc in ap (λ z. take_place k (z ∷ ys)) same ∙ (let z : k ≡ k + 0 = omega arith in z)
take_first k (y ∷ ys) (suc i) e h =
    let p = or_parts (is_take y) _ h in take_skips k y ys p.0 ∙ take_first (suc k) ys i e p.1 ∙ (let z : suc k + i ≡ k + suc i = omega arith in z)

pub take_found : (k : ℕ) (xs ys : List Item) → list_any is_take xs ≡ true
    → (i : ℕ) × (take_place k (xs ++ ys) ≡ k + i) × (i < length xs) × (slice_get (xs ++ ys) i ≡ Some Take)
take_found k [] ys h = absurd (cc)
take_found k (x ∷ xs) ys h = step (is_take x) refl h (take_found (suc k) xs ys)
  where
    step : (t : Bool) → is_take x ≡ t → (t || list_any is_take xs) ≡ true
        → (list_any is_take xs ≡ true → (i : ℕ) × (take_place (suc k) (xs ++ ys) ≡ suc k + i) × (i < length xs) × (slice_get (xs ++ ys) i ≡ Some Take))
        → (i : ℕ) × (take_place k (x ∷ (xs ++ ys)) ≡ k + i) × (i < suc (length xs)) × (slice_get (x ∷ (xs ++ ys)) i ≡ Some Take)
    step true q r next =
        let same : x ≡ Take = is_the_take x q in
        (0, ap (λ z. take_place k (z ∷ (xs ++ ys))) same ∙ (let z : k ≡ k + 0 = omega arith in z), omega arith, ap Some same)
    step false q r next =
        let f = next r in
        let l : f.0 < length xs = f.2 in (
          suc f.0,
          take_skips k x (xs ++ ys) q ∙ f.1 ∙ (let z : suc k + f.0 ≡ k + suc f.0 = omega arith in
              z),
          omega (arith, l),
          f.3,
        )
