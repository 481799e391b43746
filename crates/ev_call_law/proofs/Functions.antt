-- In which function an item stands: the next item and a jump's target stand in the same one.
use Rattle.std.specs.Prelude.{◌≡◌, refl, ℕ, zero, suc, not, ◌+◌, ◌≤◌, ◌<◌, ◌⊎◌, Bool, true, false, ◌&&◌, ◌||◌, nat_le, ◌==◌, if◌then◌else◌, List, [], ◌∷◌, length, Some, None, slice_get}
use Rattle.std.specs.List.{list_any, list_all}
use Rattle.std.proofs.Common.{arith, ap, sym, ◌∙◌, subst, inl, inr}
use Rattle.std.proofs.lemmas.Bool.{and_parts, eqb-true, false_from_ne_true, lt-ltb, le-ltb, lt-leb}
use Rattle.ev_body.specs.declared.item.Item.{Item}
use Rattle.ev_body.specs.declared.item.Item.TheVariants.{Ret}
use Rattle.ev_body.specs.declared.body.Part.{Part}
use Rattle.ev_body.specs.declared.body.Body.{Body}
use Rattle.ev_body.specs.declared.image.Image.{Image}
use Rattle.ev_body.specs.Bodies.{body_items, function_start, first_item}
use Rattle.ev_body.specs.WellFormed.{IsImage, is_body, are_parts, has_operands, ends_with, is_ret, is_finish}
use Rattle.ev_abstract.specs.Rules.{in_function, jump_target}
use Rattle.ev_call_law.specs.Calls.{part_at, function_at}
use Rattle.ev_law.proofs.Lists.{all_at}
use Rattle.ev_law.proofs.Parts.{items_of, get_split, goes_in, starts_in, leads_in, part_ends, parts_lead, parts_start}
use Rattle.ev_law.proofs.Ruled.{IsRuled}

-- what is within a part, and what is behind it
here_at : (n : ℕ) (part : Part) (rest : List Part) (i : ℕ) → i < n + length part.items → part_at n (part ∷ rest) i ≡ Some part.func
here_at n part rest i l = ap (λ (t : Bool). if t then Some part.func else part_at (n + length part.items) rest i) (lt-ltb i (n + length part.items) l)

behind_at : (n : ℕ) (part : Part) (rest : List Part) (i : ℕ) → n + length part.items ≤ i
    → part_at n (part ∷ rest) i ≡ part_at (n + length part.items) rest i
behind_at n part rest i l = ap (λ (t : Bool). if t then Some part.func else part_at (n + length part.items) rest i) (le-ltb i (n + length part.items) l)

ret_no_finish : is_finish Ret ≡ true → ⊥
unfolding is_finish
ret_no_finish h = absurd (let k : false ≡ true = h in cc)

ret_is : not (is_ret Ret) ≡ true → ⊥
unfolding is_ret
ret_is h = absurd (let k : false ≡ true = h in cc)

no_ret_in : (items : List Item) (i : ℕ) → ends_with is_finish items ≡ true → slice_get items i ≡ Some Ret → ⊥
unfolding ends_with
no_ret_in [] i h e = cc
no_ret_in (x ∷ []) zero h e = let same : x ≡ Ret = cc in ret_no_finish (subst (λ y. is_finish y ≡ true) same h)
no_ret_in (x ∷ []) (suc i) h e = absurd (cc)
no_ret_in (x ∷ y ∷ ys) zero h e = let same : x ≡ Ret = cc in
    ret_is (subst (λ z. not (is_ret z) ≡ true) same (and_parts (not (is_ret x)) _ (and_parts _ (ends_with is_finish (y ∷ ys)) h).0).0)
no_ret_in (x ∷ y ∷ ys) (suc i) h e = no_ret_in (y ∷ ys) i (and_parts (not (is_ret x) && not (is_finish x)) _ h).1 e

module _ (bytes : ℕ) where
  part_next : (n : ℕ) (parts : List Part) (j : ℕ) (item : Item) → are_parts bytes n parts ≡ true → slice_get (items_of parts) j ≡ Some item
      → is_finish item ≡ false → (i : ℕ) → i ≡ n + j → part_at n parts (suc i) ≡ part_at n parts i
  part_next n [] j item h e f i q = refl
  part_next n (part ∷ rest) j item h e f i q =
      let p = part_ends bytes n part rest h in
      step (get_split part.items (items_of rest) j item e) p.0 (λ k g r. part_next (n + length part.items) rest k item p.2 g f i r)
    where
      step : ((j < length part.items) × (slice_get part.items j ≡ Some item))
          ⊎ ((k : ℕ) × (j ≡ length part.items + k) × (slice_get (items_of rest) k ≡ Some item))
          → ends_with is_finish part.items ≡ true
          → ((k : ℕ) → slice_get (items_of rest) k ≡ Some item → i ≡ n + length part.items + k
          → part_at (n + length part.items) rest (suc i) ≡ part_at (n + length part.items) rest i)
          → part_at n (part ∷ rest) (suc i) ≡ part_at n (part ∷ rest) i
      step (inl a) ends next =
          let l : suc j < length part.items = goes_in is_finish part.items j item ends a.1 f in
          here_at n part rest (suc i) (omega (arith, l, q)) ∙ sym (here_at n part rest i (omega (arith, l, q)))
      step (inr a) ends next =
          let r : j ≡ length part.items + a.0 = a.1 in
          behind_at n part rest (suc i) (omega (arith, r, q)) ∙ next a.0 a.2 (omega (arith, r, q)) ∙ sym (behind_at n part rest i (omega (arith, r, q)))

  part_leads : (n : ℕ) (parts : List Part) (j : ℕ) (item : Item) (t : ℕ) → are_parts bytes n parts ≡ true
      → slice_get (items_of parts) j ≡ Some item → jump_target item ≡ Some t → (i : ℕ) → i ≡ n + j → part_at n parts t ≡ part_at n parts i
  part_leads n [] j item t h e f i q = refl
  part_leads n (part ∷ rest) j item t h e f i q =
      let p = part_ends bytes n part rest h in
      step (get_split part.items (items_of rest) j item e) p.1 (λ k g. parts_lead bytes (n + length part.items) rest k item t p.2 g f)
      (λ k g r. part_leads (n + length part.items) rest k item t p.2 g f i r)
    where
      step : ((j < length part.items) × (slice_get part.items j ≡ Some item))
          ⊎ ((k : ℕ) × (j ≡ length part.items + k) × (slice_get (items_of rest) k ≡ Some item))
          → list_all (has_operands bytes n (n + length part.items)) part.items ≡ true
          → ((k : ℕ) → slice_get (items_of rest) k ≡ Some item → (n + length part.items ≤ t) × (t < n + length part.items + length (items_of rest)))
          → ((k : ℕ) → slice_get (items_of rest) k ≡ Some item → i ≡ n + length part.items + k
          → part_at (n + length part.items) rest t ≡ part_at (n + length part.items) rest i)
          → part_at n (part ∷ rest) t ≡ part_at n (part ∷ rest) i
      step (inl a) ops lead next =
          let l = leads_in bytes n (n + length part.items) item t (all_at (has_operands bytes n (n + length part.items)) part.items j item ops a.1) f in
          let g : j < length part.items = a.0 in here_at n part rest t l.1 ∙ sym (here_at n part rest i (omega (arith, g, q)))
      step (inr a) ops lead next =
          let r : j ≡ length part.items + a.0 = a.1 in
          behind_at n part rest t (lead a.0 a.2).0 ∙ next a.0 a.2 (omega (arith, r, q)) ∙ sym (behind_at n part rest i (omega (arith, r, q)))

  -- a function has no `ret`
  part_no_ret : (n : ℕ) (parts : List Part) (j : ℕ) → are_parts bytes n parts ≡ true → slice_get (items_of parts) j ≡ Some Ret → ⊥
  part_no_ret n [] j h e = cc
  part_no_ret n (part ∷ rest) j h e =
      let p = part_ends bytes n part rest h in
      step (get_split part.items (items_of rest) j Ret e) p.0 (λ k g. part_no_ret (n + length part.items) rest k p.2 g)
    where
      step : ((j < length part.items) × (slice_get part.items j ≡ Some Ret))
          ⊎ ((k : ℕ) × (j ≡ length part.items + k) × (slice_get (items_of rest) k ≡ Some Ret))
          → ends_with is_finish part.items ≡ true → ((k : ℕ) → slice_get (items_of rest) k ≡ Some Ret → ⊥) → ⊥
      step (inl a) ends next = no_ret_in part.items j ends a.1
      step (inr a) ends next = next a.0 a.2

  part_start : (n : ℕ) (parts : List Part) (func : ℕ) → are_parts bytes n parts ≡ true → list_any (λ (part : Part). part.func == func) parts ≡ true
      → part_at n parts (first_item n parts func) ≡ Some func
  part_start n [] func h k = absurd (cc)
  part_start n (part ∷ rest) func h k =
      let p = part_ends bytes n part rest h in
      step (part.func == func) refl k p.0 (λ q. parts_start bytes (n + length part.items) rest func p.2 q)
      (λ q. part_start (n + length part.items) rest func p.2 q)
    where
      step : (t : Bool) → (part.func == func) ≡ t → (t || list_any (λ (part : Part). part.func == func) rest) ≡ true → ends_with is_finish part.items ≡ true
          → (list_any (λ (part : Part). part.func == func) rest ≡ true → (n + length part.items ≤ first_item (n + length part.items) rest func)
          × (first_item (n + length part.items) rest func < n + length part.items + length (items_of rest)))
          → (list_any (λ (part : Part). part.func == func) rest ≡ true
          → part_at (n + length part.items) rest (first_item (n + length part.items) rest func) ≡ Some func)
          → part_at n (part ∷ rest) (if t then n else first_item (n + length part.items) rest func) ≡ Some func
      step true e q ends within next = let l = starts_in is_finish part.items ends in
          here_at n part rest n (omega (arith, l)) ∙ ap Some (eqb-true part.func func e)
      step false e q ends within next = behind_at n part rest (first_item (n + length part.items) rest func) (within q).0 ∙ next q

-- a body whose items stand in functions as they should
pub record IsParted (b : Body) : Type 0 where
  pub next : (i : ℕ) (item : Item) → slice_get (body_items b) i ≡ Some item → is_ret item ≡ false → is_finish item ≡ false
      → function_at b (suc i) ≡ function_at b i
  pub leads : (i : ℕ) (item : Item) (n : ℕ) → slice_get (body_items b) i ≡ Some item → jump_target item ≡ Some n → function_at b n ≡ function_at b i
  pub ret : (i : ℕ) → slice_get (body_items b) i ≡ Some Ret → in_function b i ≡ false
  pub start : (func : ℕ) → list_any (λ (part : Part). part.func == func) b.parts ≡ true → function_at b (function_start b func) ≡ Some func

pub no_function : (b : Body) (i : ℕ) → in_function b i ≡ false → function_at b i ≡ None
no_function b i q = ap (λ (t : Bool). if t then part_at (length b.items) b.parts i else None) q

pub some_function : (b : Body) (i : ℕ) → in_function b i ≡ true → function_at b i ≡ part_at (length b.items) b.parts i
some_function b i q = ap (λ (t : Bool). if t then part_at (length b.items) b.parts i else None) q

module _ (image : Image) (is : IsImage image) (ruled : (n : ℕ) (b : Body) → slice_get image.bodies n ≡ Some b → IsRuled image b) where
  parts_are : (n : ℕ) (b : Body) → slice_get image.bodies n ≡ Some b → are_parts (length image.text) (length b.items) b.parts ≡ true
  parts_are n b e =
      let bytes : ℕ = length image.text in
      let h7 : is_body bytes b ≡ true = all_at (is_body bytes) image.bodies n b is.bodies_given.1 e in
      let h6 = and_parts _ (nat_le (length (body_items b)) 256) h7 in (and_parts _ (are_parts bytes (length b.items) b.parts) h6.0).1

  -- two items both in the main part or both in functions
  same_function : (b : Body) (i n : ℕ) → in_function b n ≡ in_function b i
      → (in_function b i ≡ true → part_at (length b.items) b.parts n ≡ part_at (length b.items) b.parts i) → function_at b n ≡ function_at b i
  same_function b i n same parts = pick (in_function b i) refl
    where
      pick : (t : Bool) → in_function b i ≡ t → function_at b n ≡ function_at b i
      pick true q = some_function b n (same ∙ q) ∙ parts q ∙ sym (some_function b i q)
      pick false q = no_function b n (same ∙ q) ∙ sym (no_function b i q)

  -- an item in a function, by its number among those of the parts
  behind_main : (b : Body) (i : ℕ) (item : Item) → slice_get (body_items b) i ≡ Some item → in_function b i ≡ true
      → (j : ℕ) × (i ≡ length b.items + j) × (slice_get (items_of b.parts) j ≡ Some item)
  behind_main b i item e q = step (get_split b.items (items_of b.parts) i item e)
    where
      step : ((i < length b.items) × (slice_get b.items i ≡ Some item)) ⊎ ((k : ℕ) × (i ≡ length b.items + k) × (slice_get (items_of b.parts) k ≡ Some item))
          → (j : ℕ) × (i ≡ length b.items + j) × (slice_get (items_of b.parts) j ≡ Some item)
      step (inl a) = absurd (let no : in_function b i ≡ false = lt-leb (length b.items) i a.0 in cc)
      step (inr a) = a

  pub body_parted : (n : ℕ) (b : Body) → slice_get image.bodies n ≡ Some b → IsParted b
  body_parted n b e = record {
    next = λ i item k r f. same_function b i (suc i) ((ruled n b e).goes_on i item k r f).1 (λ q.
        (let s = behind_main b i item k q in part_next (length image.text) (length b.items) b.parts s.0 item (parts_are n b e) s.2 f i s.1));
    leads = λ i item t k j. same_function b i t ((ruled n b e).leads i item t k j).1 (λ q.
        (let s = behind_main b i item k q in part_leads (length image.text) (length b.items) b.parts s.0 item t (parts_are n b e) s.2 j i s.1));
    ret = λ i k. false_from_ne_true (in_function b i) (λ q. (let s = behind_main b i Ret k q in
        part_no_ret (length image.text) (length b.items) b.parts s.0 (parts_are n b e) s.2));
    start = λ func has. some_function b (function_start b func) ((ruled n b e).func func has).1
        ∙ part_start (length image.text) (length b.items) b.parts func (parts_are n b e) has;
  }
