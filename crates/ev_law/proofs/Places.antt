-- A context at an item of a ruled body, and where it stands after the item.
use Rattle.std.specs.Prelude.{◌≡◌, refl, ℕ, zero, suc, ◌≤◌, ◌<◌, ◌⊎◌, Bool, true, false, not, ◌&&◌, ◌||◌, nat_lt, nat_le, ◌==◌, if◌then◌else◌, List, [], ◌∷◌, length, take, drop, Option, Some, None, is_some, slice_get, flat_map}
use Rattle.std.specs.Bool.{beq}
use Rattle.std.specs.List.{list_any}
use Rattle.std.proofs.Common.{arith, ap, sym, ◌∙◌, subst, inl, inr, length-append}
use Rattle.std.proofs.lemmas.Bool.{or_parts, or_left, or_right, not-false, eq-eqb, ltb-false, leb-false, lt-ltb, lt-leb}
use Rattle.std.proofs.lemmas.List.{take-append-le}
use Rattle.ev_isa.specs.Flags.{Status}
use Rattle.ev_isa.specs.declared.instruction.Cond.{Cond}
use Rattle.ev_body.specs.declared.item.Item.{Item}
use Rattle.ev_body.specs.declared.item.Item.TheVariants.{Jcc, Goto, Sti, Cli, Eoi, Take, Finish}
use Rattle.ev_body.specs.declared.body.Part.{Part}
use Rattle.ev_body.specs.declared.body.Body.{Body}
use Rattle.ev_body.specs.declared.image.Image.{Image}
use Rattle.ev_body.specs.Bodies.{body_items, function_start}
use Rattle.ev_body.specs.WellFormed.{is_ret, is_finish}
use Rattle.ev_abstract.specs.Context.{BodyContext}
use Rattle.ev_abstract.specs.CrossCall.{take_place}
use Rattle.ev_abstract.specs.Chain.{is_sti}
use Rattle.ev_abstract.specs.Rules.{breaks_flags, breaks_if, breaks_eoi, is_bad_eoi, is_crossed, is_inner, is_irq, in_function, jump_target, leads_to, is_target, item_before, leaves_flags, if_after, if_along, if_at, is_eoi}
use Rattle.ev_law.specs.Legal.{IsAt, has_flags_for, runs_calls, served, is_eoi_behind, class_of, read_at}
use Rattle.ev_law.proofs.Lists.{none_at}
use Rattle.ev_law.proofs.Ruled.{IsRuled, no_item_of}

-- ---- one more item in front

or_assoc : (a b c : Bool) → (a || (b || c)) ≡ ((a || b) || c)
or_assoc true b c = refl
or_assoc false b c = refl

or_false : (a : Bool) → (a || false) ≡ a
or_false true = refl
or_false false = refl

any_more : (test : Item → Bool) (xs : List Item) (n : ℕ) (x : Item) → slice_get xs n ≡ Some x
    → list_any test (take (suc n) xs) ≡ (list_any test (take n xs) || test x)
any_more test [] n x e = absurd (cc)
any_more test (y ∷ ys) zero x e = let same : y ≡ x = cc in or_false (test y) ∙ ap test same
any_more test (y ∷ ys) (suc n) x e = ap (λ t. test y || t) (any_more test ys n x e) ∙ or_assoc (test y) (list_any test (take n ys)) (test x)

along_more : (on : Bool) (xs : List Item) (n : ℕ) (x : Item) → slice_get xs n ≡ Some x
    → if_along on (take (suc n) xs) ≡ if_after (if_along on (take n xs)) x
along_more on [] n x e = absurd (cc)
along_more on (y ∷ ys) zero x e = let same : y ≡ x = cc in ap (if_after on) same
along_more on (y ∷ ys) (suc n) x e = along_more (if_after on y) ys n x e

pub any_found : (test : Item → Bool) (xs : List Item) (n : ℕ) → list_any test (take n xs) ≡ true
    → (e : ℕ) × (x : Item) × (e < n) × (slice_get xs e ≡ Some x) × (test x ≡ true)
any_found test xs zero h = absurd (cc)
any_found test [] (suc n) h = absurd (cc)
any_found test (y ∷ ys) (suc n) h = pick (test y) refl h (any_found test ys n)
  where
    pick : (t : Bool) → test y ≡ t → (t || list_any test (take n ys)) ≡ true
        → (list_any test (take n ys) ≡ true → (e : ℕ) × (x : Item) × (e < n) × (slice_get ys e ≡ Some x) × (test x ≡ true))
        → (e : ℕ) × (x : Item) × (e < suc n) × (slice_get (y ∷ ys) e ≡ Some x) × (test x ≡ true)
    pick true q r k = (0, y, omega arith, refl, q)
    pick false q r k = let f = k r in let lt : f.0 < n = f.2 in (suc f.0, f.1, omega (arith, lt), f.3, f.4)

pub any_here : (test : Item → Bool) (xs : List Item) (n e : ℕ) (x : Item) → e < n → slice_get xs e ≡ Some x → test x ≡ true
    → list_any test (take n xs) ≡ true
any_here test xs zero e x l q t = absurd (omega arith)
any_here test [] (suc n) e x l q t = absurd (cc)
any_here test (y ∷ ys) (suc n) zero x l q t = let same : y ≡ x = cc in or_left (test y) _ (ap test same ∙ t)
any_here test (y ∷ ys) (suc n) (suc e) x l q t = let k : e < n = omega arith in or_right (test y) _ (any_here test ys n e x k q t)

-- ---- IF is off behind an `eoi`

stays_off : (x : Item) → is_sti x ≡ false → if_after false x ≡ false
unfolding is_sti if_after
stays_off Sti h = absurd (cc)
stays_off _ h = refl

pub off_along : (xs : List Item) (n : ℕ) → list_any is_sti xs ≡ false → if_along false (take n xs) ≡ false
off_along xs zero h = refl
off_along [] (suc n) h = refl
off_along (y ∷ ys) (suc n) h = let k = or_parts (is_sti y) _ h in subst (λ t. if_along t (take n ys) ≡ false) (sym (stays_off y k.0)) (off_along ys n k.1)

off_from : (on : Bool) (xs : List Item) (e n : ℕ) → e ≤ n → if_along on (take e xs) ≡ false → list_any is_sti (drop e xs) ≡ false
    → if_along on (take n xs) ≡ false
off_from on xs zero n l h k = rw h (off_along xs n k)
off_from on xs (suc e) zero l h k = absurd (omega arith)
off_from on [] (suc e) (suc n) l h k = h
off_from on (y ∷ ys) (suc e) (suc n) l h k = let m : e ≤ n = omega arith in off_from (if_after on y) ys e n m h k

eoi_is_good : (b : Body) (e : ℕ) (x : Item) → is_eoi x ≡ true → breaks_eoi b e x ≡ false → is_bad_eoi b e ≡ false
unfolding is_eoi breaks_eoi
eoi_is_good b e Eoi t h = h
eoi_is_good b e _ t h = absurd (cc)

front : (b : Body) (n : ℕ) → n ≤ length b.items → take n (body_items b) ≡ take n b.items
front b n l = take-append-le n b.items (flat_map (λ (part : Part). part.items) b.parts) l

module _ (image : Image) (b : Body) (ruled : IsRuled image b) where
  eoi_parts : (e : ℕ) (x : Item) → slice_get (body_items b) e ≡ Some x → is_eoi x ≡ true
      → (if_at b e ≡ false) × (list_any is_sti (drop e b.items) ≡ false) × (is_crossed b e ≡ false)
  eoi_parts e x q t =
      let h = eoi_is_good b e x t (ruled.eoi e x q) in
      let h5 = or_parts _ (is_crossed b e) h in
      let h4 = or_parts _ (list_any is_sti (drop e b.items)) h5.0 in
      let h3 = or_parts _ (if_at b e) h4.0 in
      (h3.1, h4.1, h5.1)

  -- an `eoi` stands in the main part of an interrupt's body, and none before it
  pub first_eoi : (e : ℕ) → slice_get (body_items b) e ≡ Some Eoi → (is_irq b.key ≡ true) × (in_function b e ≡ false) × (is_eoi_behind b e ≡ false)
  unfolding is_eoi
  first_eoi e q =
      let h = eoi_is_good b e Eoi refl (ruled.eoi e Eoi q) in
      let h5 = or_parts _ (is_crossed b e) h in
      let h4 = or_parts _ (list_any is_sti (drop e b.items)) h5.0 in
      let h3 = or_parts _ (if_at b e) h4.0 in
      let h2 = or_parts _ (list_any is_eoi (take e b.items)) h3.0 in
      let h1 = or_parts (not (is_irq b.key)) (in_function b e) h2.0 in
      let l : e < length b.items = leb-false (length b.items) e h1.1 in
      (not-false (is_irq b.key) h1.0, h1.1, ap (list_any is_eoi) (front b e (omega (arith, l))) ∙ h2.1)

  pub on_before_eoi : (n : ℕ) → n ≤ length b.items → if_at b n ≡ true → is_eoi_behind b n ≡ false
  on_before_eoi n l on = pick (is_eoi_behind b n) refl
    where
      pick : (t : Bool) → is_eoi_behind b n ≡ t → t ≡ false
      pick false q = refl
      pick true q = absurd (
          let f = any_found is_eoi (body_items b) n q in
          let lt : f.0 < n = f.2 in
          let le : f.0 ≤ n = omega (arith, lt) in
          let le' : f.0 ≤ length b.items = omega (arith, lt, l) in
          let parts = eoi_parts f.0 f.1 f.3 f.4 in
          let here : if_along false (take f.0 b.items) ≡ false = sym (ap (if_along false) (front b f.0 le')) ∙ parts.0 in
          let off : if_at b n ≡ false = ap (if_along false) (front b n l) ∙ off_from false b.items f.0 n le here parts.1 in cc)

-- ---- where IF and the class are read

read_main : (b : Body) (i : ℕ) → in_function b i ≡ false → read_at b i ≡ i
read_main b i h = ap (λ (t : Bool). if t then take_place 0 (body_items b) else i) h

read_function : (b : Body) (i : ℕ) → in_function b i ≡ true → read_at b i ≡ take_place 0 (body_items b)
read_function b i h = ap (λ (t : Bool). if t then take_place 0 (body_items b) else i) h

pub read_within : (image : Image) (b : Body) → IsRuled image b → (i : ℕ) → i < length (body_items b) → read_at b i ≤ length b.items
read_within image b ruled i l = pick (in_function b i) refl
  where
    pick : (t : Bool) → in_function b i ≡ t → (if t then take_place 0 (body_items b) else i) ≤ length b.items
    pick true q = let k : take_place 0 (body_items b) < length b.items = (ruled.part i l q).0 in omega (arith, k)
    pick false q = let k : i < length b.items = leb-false (length b.items) i q in omega (arith, k)

function_if : (b : Body) (i : ℕ) (x : Item) (on : Bool) → in_function b i ≡ true → breaks_if b i x ≡ false → if_after on x ≡ on
unfolding breaks_if if_after
function_if b i Sti on f h = absurd (let p = or_parts (is_inner b) (in_function b i) (or_parts (is_inner b || in_function b i) _ h).0 in let q = p.1 in cc)
function_if b i Cli on f h = absurd (let p = or_parts (is_inner b) (in_function b i) (or_parts (is_inner b || in_function b i) _ h).0 in let q = p.1 in cc)
function_if b i _ on f h = refl

function_eoi : (b : Body) (i : ℕ) (x : Item) → in_function b i ≡ true → breaks_eoi b i x ≡ false → is_eoi x ≡ false
unfolding breaks_eoi is_eoi
function_eoi b i Eoi f h = absurd (
    let h5 = or_parts _ (is_crossed b i) h in
    let h4 = or_parts _ (list_any is_sti (drop i b.items)) h5.0 in
    let h3 = or_parts _ (if_at b i) h4.0 in
    let h2 = or_parts _ (list_any is_eoi (take i b.items)) h3.0 in
    let h1 = or_parts (not (is_irq b.key)) (in_function b i) h2.0 in
    let q = h1.1 in cc)
function_eoi b i _ f h = refl

-- ---- flags

pub has_flags : (o : Option Item) (f : Option Status) → ((cond : Cond) (k : ℕ) → o ≡ Some (Jcc cond k) → is_some f ≡ true) → has_flags_for o f ≡ true
unfolding has_flags_for
has_flags (Some (Jcc cond k)) None h = absurd (let x : false ≡ true = h cond k refl in cc)
has_flags _ _ h = refl

pub flags_are_known : (cond : Cond) (k : ℕ) (f : Option Status) → has_flags_for (Some (Jcc cond k)) f ≡ true → is_some f ≡ true
unfolding has_flags_for
flags_are_known cond k None h = absurd (cc)
flags_are_known cond k (Some s) h = refl

leads_false : (item : Item) (n : ℕ) (test : ℕ → Bool) → jump_target item ≡ Some n → leads_to item test ≡ false → test n ≡ false
unfolding jump_target
leads_false (Jcc cond k) n test e h = let same : k ≡ n = cc in subst (λ z. test z ≡ false) same h
leads_false (Goto k) n test e h = let same : k ≡ n = cc in subst (λ z. test z ≡ false) same h
leads_false _ n test e h = absurd (cc)

-- what the flag rule says of a conditional jump
flag_rule_at : (b : Body) (i : ℕ) (cond : Cond) (k : ℕ) → breaks_flags b i (Jcc cond k) ≡ false
    → (leaves_flags (item_before b i) ≡ true) × (is_target b i ≡ false)
unfolding breaks_flags
flag_rule_at b i cond k h = let p = or_parts (not (leaves_flags (item_before b i))) (is_target b i) h in (not-false _ p.0, p.1)

no_item_leaves : leaves_flags None ≡ true → false ≡ true
unfolding leaves_flags
no_item_leaves h = h

-- ---- after an item

-- a jump is no `eoi`
jump_no_eoi : (item : Item) (n : ℕ) → jump_target item ≡ Some n → is_eoi item ≡ false
unfolding jump_target is_eoi
jump_no_eoi Eoi n h = absurd (cc)
jump_no_eoi _ n h = refl

same_if : (b : Body) (i : ℕ) (item : Item) (n : ℕ) → jump_target item ≡ Some n → breaks_if b i item ≡ false → if_at b i ≡ if_at b n
unfolding jump_target breaks_if
same_if b i (Jcc cond k) n e h = let same : k ≡ n = cc in equal (if_at b i) (if_at b k) h ∙ ap (if_at b) same
  where
    equal : (x y : Bool) → not (beq x y) ≡ false → x ≡ y
    equal true true h = refl
    equal false false h = refl
    equal true false h = absurd (cc)
    equal false true h = absurd (cc)
same_if b i (Goto k) n e h = let same : k ≡ n = cc in equal (if_at b i) (if_at b k) h ∙ ap (if_at b) same
  where
    equal : (x y : Bool) → not (beq x y) ≡ false → x ≡ y
    equal true true h = refl
    equal false false h = refl
    equal true false h = absurd (cc)
    equal false true h = absurd (cc)
same_if b i _ n e h = absurd (cc)

pub both_ways : (x y : Bool) → (x ≡ true → y ≡ true) → (y ≡ true → x ≡ true) → x ≡ y
both_ways true y f g = sym (f refl)
both_ways false true f g = g refl
both_ways false false f g = refl

served_when : (b : Body) (i n : ℕ) → is_eoi_behind b i ≡ is_eoi_behind b n → served b i ≡ served b n
served_when b i n e = ap (λ (t : Bool). if t then None else class_of b.key) e

take_no_ret : is_ret Take ≡ false
unfolding is_ret
take_no_ret = refl

take_no_finish : is_finish Take ≡ false
unfolding is_finish
take_no_finish = refl

take_if : (on : Bool) → if_after on Take ≡ on
unfolding if_after
take_if on = refl

take_eoi : (o : Option ℕ) → (if is_eoi Take then None else o) ≡ o
unfolding is_eoi
take_eoi o = refl

take_leaves : leaves_flags (Some Take) ≡ true → ⊥
unfolding leaves_flags
take_leaves h = absurd (let k : false ≡ true = h in cc)

module _ (image : Image) (b : Body) (ruled : IsRuled image b) where
  -- what is read one item on
  read_next : (i : ℕ) (item : Item) → slice_get (body_items b) i ≡ Some item → in_function b (suc i) ≡ in_function b i
      → (if_after (if_at b (read_at b i)) item ≡ if_at b (read_at b (suc i)))
      × ((if is_eoi item then None else served b (read_at b i)) ≡ served b (read_at b (suc i)))
  read_next i item e same = pick (in_function b i) refl
    where
      eoi : (t : Bool) → is_eoi item ≡ t → (if t then None else served b i) ≡ served b (suc i)
      eoi true q = sym (ap (λ (t : Bool). if t then None else class_of b.key) (any_more is_eoi (body_items b) i item e ∙ or_right _ (is_eoi item) q))
      eoi false q = served_when b i (suc i) (sym (any_more is_eoi (body_items b) i item e ∙ ap (λ t. is_eoi_behind b i || t) q ∙ or_false _))

      pick : (t : Bool) → in_function b i ≡ t
          → (if_after (if_at b (read_at b i)) item ≡ if_at b (read_at b (suc i)))
          × ((if is_eoi item then None else served b (read_at b i)) ≡ served b (read_at b (suc i)))
      pick true q =
          let t = take_place 0 (body_items b) in
          let r : read_at b i ≡ t = read_function b i q in let r' : read_at b (suc i) ≡ t = read_function b (suc i) (same ∙ q) in (
            function_if b i item (if_at b (read_at b i)) q (ruled.switch i item e) ∙ ap (if_at b) (r ∙ sym r'),
            ap (λ (t : Bool). if t then None else served b (read_at b i)) (function_eoi b i item q (ruled.eoi i item e)) ∙ ap (served b) (r ∙ sym r'),
          )
      pick false q =
          let r : read_at b i ≡ i = read_main b i q in let r' : read_at b (suc i) ≡ suc i = read_main b (suc i) (same ∙ q) in (
            ap (λ k. if_after (if_at b k) item) r ∙ sym (along_more false (body_items b) i item e) ∙ ap (if_at b) (sym r'),
            ap (λ k. if is_eoi item then None else served b k) r ∙ eoi (is_eoi item) refl ∙ ap (served b) (sym r'),
          )

  next_flags : (i : ℕ) (item : Item) (f : Option Status) → slice_get (body_items b) i ≡ Some item
      → (leaves_flags (Some item) ≡ true → is_some f ≡ true) → has_flags_for (slice_get (body_items b) (suc i)) f ≡ true
  next_flags i item f e fl = has_flags (slice_get (body_items b) (suc i)) f
      (λ cond k q. fl (subst (λ o. leaves_flags o ≡ true) e (flag_rule_at b (suc i) cond k (ruled.flags (suc i) (Jcc cond k) q)).0))

  -- a context one item on
  pub onward_at : (c d : BodyContext) (item : Item) → IsAt b c → slice_get (body_items b) c.place ≡ Some item → is_ret item ≡ false
      → is_finish item ≡ false → d.calls ≡ c.calls
      → d.place ≡ suc c.place → d.interrupts ≡ if_after c.interrupts item → (leaves_flags (Some item) ≡ true → is_some d.flags ≡ true)
      → d.service ≡ (if is_eoi item then None else c.service) → IsAt b d
  onward_at c d item at e r f ks p on fl sv =
      let g = ruled.goes_on c.place item e r f in
      let n = read_next c.place item e g.1 in
      record {
        place = rw p (g.0);
        interrupts = on ∙ ap (λ t. if_after t item) at.interrupts ∙ n.0 ∙ ap (λ k. if_at b (read_at b k)) (sym p);
        flags = rw p (next_flags c.place item d.flags e fl);
        service = sv ∙ ap (λ s. if is_eoi item then None else s) at.service ∙ n.1 ∙ ap (λ k. served b (read_at b k)) (sym p);
        runs = ap runs_calls ks ∙ at.runs ∙ sym g.1 ∙ ap (in_function b) (sym p);
      }

  -- no jump crosses the `eoi`
  eoi_stays : (i : ℕ) (item : Item) (n : ℕ) → slice_get (body_items b) i ≡ Some item → jump_target item ≡ Some n
      → is_eoi_behind b i ≡ is_eoi_behind b n
  eoi_stays i item n e j = both_ways (is_eoi_behind b i) (is_eoi_behind b n) forth back
    where
      crossed : (f : ℕ) → is_crossed b f ≡ false → ((nat_lt i f && nat_lt f n) || (nat_lt f i && nat_le n f)) ≡ false
      crossed f h = leads_false item n (λ n. (nat_lt i f && nat_lt f n) || (nat_lt f i && nat_le n f)) j
          (no_item_of (λ j item. leads_to item (λ n. (nat_lt j f && nat_lt f n) || (nat_lt f j && nat_le n f))) i item (body_items b) (none _ h) e)
        where
          none : (o : Option ℕ) → is_some o ≡ false → o ≡ None
          none None h = refl
          none (Some k) h = absurd (cc)

      forth : is_eoi_behind b i ≡ true → is_eoi_behind b n ≡ true
      forth h =
          let f = any_found is_eoi (body_items b) i h in
          let lt : f.0 < i = f.2 in
          let c = (or_parts (nat_lt i f.0 && nat_lt f.0 n) _ (crossed f.0 (eoi_parts image b ruled f.0 f.1 f.3 f.4).2)).1 in
          let l : f.0 < n = leb-false n f.0 (subst (λ t. (t && nat_le n f.0) ≡ false) (lt-ltb f.0 i lt) c) in
          any_here is_eoi (body_items b) n f.0 f.1 l f.3 f.4

      back : is_eoi_behind b n ≡ true → is_eoi_behind b i ≡ true
      back h =
          let f = any_found is_eoi (body_items b) n h in
          let lt : f.0 < n = f.2 in
          let c = (or_parts (nat_lt i f.0 && nat_lt f.0 n) _ (crossed f.0 (eoi_parts image b ruled f.0 f.1 f.3 f.4).2)).0 in
          let d : nat_lt i f.0 ≡ false = second (nat_lt i f.0) (nat_lt f.0 n) c (lt-ltb f.0 n lt) in
          let le : f.0 ≤ i = ltb-false i f.0 d in
          let ne : f.0 ≡ i → ⊥ = λ q. (let s : Some f.1 ≡ Some item = sym f.3 ∙ ap (slice_get (body_items b)) q ∙ e in let same : f.1 ≡ item = cc in
          let no = jump_no_eoi item n j in let t = f.4 in cc) in
          let l : f.0 < i = omega (arith, le, ne) in
          any_here is_eoi (body_items b) i f.0 f.1 l f.3 f.4
        where
          second : (x y : Bool) → (x && y) ≡ false → y ≡ true → x ≡ false
          second true y h k = absurd (cc)
          second false y h k = refl

  read_jump : (i : ℕ) (item : Item) (n : ℕ) → slice_get (body_items b) i ≡ Some item → jump_target item ≡ Some n → in_function b n ≡ in_function b i
      → (if_at b (read_at b i) ≡ if_at b (read_at b n)) × (served b (read_at b i) ≡ served b (read_at b n))
  read_jump i item n e j same = pick (in_function b i) refl
    where
      pick : (t : Bool) → in_function b i ≡ t → (if_at b (read_at b i) ≡ if_at b (read_at b n)) × (served b (read_at b i) ≡ served b (read_at b n))
      pick true q = let r : read_at b i ≡ read_at b n = read_function b i q ∙ sym (read_function b n (same ∙ q)) in (ap (if_at b) r, ap (served b) r)
      pick false q =
          let r : read_at b i ≡ i = read_main b i q in let r' : read_at b n ≡ n = read_main b n (same ∙ q) in (
            ap (if_at b) r ∙ same_if b i item n j (ruled.switch i item e) ∙ ap (if_at b) (sym r'),
            ap (served b) r ∙ served_when b i n (eoi_stays i item n e j)
                ∙ ap (served b) (sym r'),
          )

  pub jump_at : (c d : BodyContext) (item : Item) (n : ℕ) → IsAt b c → slice_get (body_items b) c.place ≡ Some item → jump_target item ≡ Some n
      → d.calls ≡ c.calls
      → d.place ≡ n → d.interrupts ≡ c.interrupts → d.service ≡ c.service → IsAt b d
  jump_at c d item n at e j ks p on sv =
      let g = ruled.leads c.place item n e j in
      let r = read_jump c.place item n e j g.1 in
      record {
        place = rw p (g.0);
        interrupts = on ∙ at.interrupts ∙ r.0 ∙ ap (λ k. if_at b (read_at b k)) (sym p);
        flags = rw p (has_flags (slice_get (body_items b) n) d.flags (λ cond k q. absurd (
            let no : (n == n) ≡ false = leads_false item n (λ m. m == n) j
            (none_at (λ item. leads_to item (λ m. m == n)) (body_items b) c.place item (flag_rule_at b n cond k (ruled.flags n (Jcc cond k) q)).1 e) in
            let yes : (n == n) ≡ true = eq-eqb n n refl in cc)));
        service = sv ∙ at.service ∙ r.1 ∙ ap (λ k. served b (read_at b k)) (sym p);
        runs = ap runs_calls ks ∙ at.runs ∙ sym g.1 ∙ ap (in_function b) (sym p);
      }

  -- a body at its start
  pub start_at : (c : BodyContext) → c.calls ≡ [] → c.place ≡ 0 → c.interrupts ≡ false → c.service ≡ class_of b.key → IsAt b c
  start_at c ks p on sv =
      let s = ruled.starts in
      let t = length-append b.items (flat_map (λ (part : Part). part.items) b.parts) in
      let r : read_at b 0 ≡ 0 = read_main b 0 (lt-leb (length b.items) 0 s) in
      record {
        place = rw p (omega (arith, s, t));
        interrupts = on ∙ ap (if_at b) (sym r) ∙ ap (λ k. if_at b (read_at b k)) (sym p);
        flags = rw p (has_flags (slice_get (body_items b) 0) c.flags (λ cond k q. absurd (
            let h : false ≡ true = no_item_leaves (flag_rule_at b 0 cond k (ruled.flags 0 (Jcc cond k) q)).0 in cc)));
        service = sv ∙ ap (served b) (sym r) ∙ ap (λ k. served b (read_at b k)) (sym p);
        runs = ap runs_calls ks ∙ sym (lt-leb (length b.items) 0 s) ∙ ap (in_function b) (sym p);
      }

  -- ---- functions

  -- IF and the class behind the `take`
  after_take_reads : (i : ℕ) → slice_get (body_items b) i ≡ Some Take → in_function b i ≡ false
      → (if_at b i ≡ if_at b (read_at b (suc i))) × (served b i ≡ served b (read_at b (suc i))) × (suc i < length (body_items b))
      × (in_function b (suc i) ≡ false)
  after_take_reads i e f =
      let g = ruled.goes_on i Take e take_no_ret take_no_finish in
      let n = read_next i Take e g.1 in
      let r : read_at b i ≡ i = read_main b i f in (
        sym (take_if (if_at b i)) ∙ ap (λ k. if_after (if_at b k) Take) (sym r) ∙ n.0,
        ap (served b) (sym r) ∙ sym (take_eoi (served b (read_at b i)))
            ∙ n.1,
        g.0,
        g.1 ∙ f,
      )

  -- from the `take`, or from the end of a function: the start of a function
  pub function_at : (c d : BodyContext) (func : ℕ) → IsAt b c
      → (slice_get (body_items b) c.place ≡ Some Take) ⊎ (slice_get (body_items b) c.place ≡ Some Finish)
      → list_any (λ (part : Part). part.func == func) b.parts ≡ true → runs_calls d.calls ≡ true → d.place ≡ function_start b func
      → d.interrupts ≡ c.interrupts → d.service ≡ c.service → IsAt b d
  function_at c d func at from has ks p on sv =
      let u = ruled.func func has in
      let r : read_at b c.place ≡ read_at b (function_start b func) = at_take from ∙ sym (read_function b (function_start b func) u.1) in
      record {
        place = rw p (u.0);
        interrupts = on ∙ at.interrupts ∙ ap (if_at b) r ∙ ap (λ k. if_at b (read_at b k)) (sym p);
        flags = rw p (has_flags (slice_get (body_items b) (function_start b func)) d.flags (λ cond k q. absurd (
            let h = (flag_rule_at b (function_start b func) cond k (ruled.flags (function_start b func) (Jcc cond k) q)).0 in let g = u.2 in cc)));
        service = sv ∙ at.service ∙ ap (served b) r ∙ ap (λ k. served b (read_at b k)) (sym p);
        runs = ks ∙ sym u.1 ∙ ap (in_function b) (sym p);
      }
    where
      at_take : (slice_get (body_items b) c.place ≡ Some Take) ⊎ (slice_get (body_items b) c.place ≡ Some Finish)
          → read_at b c.place ≡ take_place 0 (body_items b)
      at_take (inl e) = let t = ruled.take c.place e in read_main b c.place t.1 ∙ sym t.0
      at_take (inr e) = read_function b c.place (ruled.finish c.place e)

  -- and behind the `take`
  pub behind_take_at : (c d : BodyContext) → IsAt b c
      → (slice_get (body_items b) c.place ≡ Some Take) ⊎ (slice_get (body_items b) c.place ≡ Some Finish) → d.calls ≡ []
      → d.place ≡ suc (take_place 0 (body_items b)) → d.interrupts ≡ c.interrupts → d.service ≡ c.service → IsAt b d
  behind_take_at c d at from ks p on sv =
      let t = at_take from in
      let f : in_function b (take_place 0 (body_items b)) ≡ false = (ruled.take (take_place 0 (body_items b)) t.1).1 in
      let a = after_take_reads (take_place 0 (body_items b)) t.1 f in
      record {
        place = rw p (a.2);
        interrupts = on ∙ at.interrupts ∙ ap (if_at b) t.0 ∙ a.0 ∙ ap (λ k. if_at b (read_at b k)) (sym p);
        flags = rw p (next_flags (take_place 0 (body_items b)) Take d.flags t.1 (λ h. absurd (take_leaves h)));
        service = sv ∙ at.service ∙ ap (served b) t.0 ∙ a.1 ∙ ap (λ k. served b (read_at b k)) (sym p);
        runs = ap runs_calls ks ∙ sym a.3 ∙ ap (in_function b) (sym p);
      }
    where
      at_take : (slice_get (body_items b) c.place ≡ Some Take) ⊎ (slice_get (body_items b) c.place ≡ Some Finish)
          → (read_at b c.place ≡ take_place 0 (body_items b)) × (slice_get (body_items b) (take_place 0 (body_items b)) ≡ Some Take)
      at_take (inl e) =
          let t = ruled.take c.place e in (read_main b c.place t.1 ∙ sym t.0, subst (λ k. slice_get (body_items b) k ≡ Some Take) (sym t.0) e)
      at_take (inr e) = let f = ruled.finish c.place e in (read_function b c.place f, (ruled.part c.place at.place f).1)
