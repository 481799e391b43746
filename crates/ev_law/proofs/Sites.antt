-- The calls of a site stand in one body, which isn't inner; and such a body stands once at most among the contexts of a processor. So of contexts that stand on
-- each other one at most is at a call of a site.
use Rattle.std.specs.Prelude.{◌≡◌, refl, ℕ, ◌<◌, ◌/◌, Bool, true, false, not, ◌&&◌, nat_le, ◌≤◌, List, [], ◌∷◌, take, Option, Some, None, slice_get}
use Rattle.std.specs.List.{list_any, list_all}
use Rattle.std.proofs.Common.{arith, ap, sym, ◌∙◌, subst, ⊎_elim}
use Rattle.std.proofs.lemmas.Bool.{and_parts, or_parts, or_from, not-false, false_from_ne_true, eqb-true, ltb-true}
use Rattle.std.proofs.lemmas.Bool.Decides.{leb_tells}
use Rattle.ev_body.specs.declared.key.Key.{Key}
use Rattle.ev_body.specs.declared.key.Key.TheVariants.{Irq, Bp, Pf, Nmi}
use Rattle.ev_body.specs.declared.key.Side.{Side}
use Rattle.ev_body.specs.declared.key.Side.TheVariants.{Kernel}
use Rattle.ev_body.specs.declared.item.Item.{Item}
use Rattle.ev_body.specs.declared.item.Item.TheVariants.{Call, Wait}
use Rattle.ev_body.specs.declared.body.Body.{Body}
use Rattle.ev_body.specs.declared.image.Image.{Image}
use Rattle.ev_body.specs.Bodies.{body_items, covers}
use Rattle.ev_body.specs.WellFormed.{IsImage}
use Rattle.ev_abstract.specs.Context.{CallId, BodyContext}
use Rattle.ev_abstract.specs.Chain.{is_legal, is_nmi, is_sti, is_below, has_item, may_start, bodies_of, cons_body}
use Rattle.ev_abstract.specs.Rules.{rules, is_inner_key, is_inner, is_for_outer, is_call_at, is_function, breaks_calls}
use Rattle.ev_abstract.specs.Run.{item_at}
use Rattle.ev_law.specs.Legal.{AreLegal, IsLegalOn, numbers}
use Rattle.ev_law.proofs.Delivery.{any_somewhere}
use Rattle.ev_law.proofs.Lists.{any_at, any_before}
use Rattle.ev_law.proofs.Ruled.{keeps_call_rule, keeps_nmi_rule}

-- whether an item is one of the site's calls
abbrev pub some_call_at : ℕ → Option Item → Bool
some_call_at site None = false
some_call_at site (Some item) = is_call_at site item

-- whether a context stands at one
abbrev pub stands_at_call : Image → ℕ → BodyContext → Bool
stands_at_call image site c = some_call_at site (item_at (slice_get image.bodies c.body) c.place)

-- ---- one body has the calls of a site

is_the_call : (site : ℕ) (item : Item) → is_call_at site item ≡ true → (to : ℕ) × (func : ℕ) × (s : ℕ) × (item ≡ Call site to func s)
unfolding is_call_at
is_the_call site (Call site' to func s) h = let e : site ≡ site' = eqb-true site site' h in (to, func, s, ap (λ k. Call k to func s) (sym e))
is_the_call site _ h = absurd (cc)

not_before : (image : Image) (n : ℕ) (b : Body) (i site to func s : ℕ) → breaks_calls image n b i (Call site to func s) ≡ false
    → list_any (has_item (is_call_at site)) (take n image.bodies) ≡ false
unfolding breaks_calls
not_before image n b i site to func s h =
    (or_parts _ (list_any (has_item (is_call_at site)) (take n image.bodies)) (or_parts _ (not (is_function image func)) h).0).1

-- ---- a body that isn't inner stands on others only where it is an interrupt's, of a higher class than theirs

outer_starts : (key : Key) (side : Side) (c : Body) (below : List Body) → is_inner_key key side ≡ false → covers side Kernel ≡ true
    → may_start key c below ≡ true
    → (v : ℕ) × (key ≡ Irq v) × (list_all (λ (d : Body). is_below v d.key && not (is_nmi d.key)) (c ∷ below) ≡ true)
unfolding is_inner_key may_start
outer_starts Bp side c below inner over h = absurd (cc)
outer_starts Pf side c below inner over h = absurd (cc)
outer_starts (Irq v) side c below inner over h = (v, refl, (and_parts (has_item is_sti c) _ h).1)
outer_starts Nmi side c below inner over h = absurd (cc)
outer_starts _ side c below inner over h = absurd (cc)

not_below_itself : (key : Key) (v : ℕ) → key ≡ Irq v → is_below v key ≡ true → ⊥
unfolding is_below
not_below_itself key v e h =
    let l : v / 16 < v / 16 = ltb-true (v / 16) (v / 16) (subst (λ k. is_below v k ≡ true) e h) in omega (arith, l)

legal_parts : (b c : Body) (below : List Body) → is_legal (b ∷ c ∷ below) ≡ true
    → (covers b.side Kernel ≡ true) × (may_start b.key c below ≡ true)
unfolding is_legal
legal_parts b c below h = let k = and_parts (covers b.side Kernel) _ (and_parts _ (is_legal (c ∷ below)) h).0 in (k.0, k.1)

module _ (image : Image) (is : IsImage image) (kept : rules image ≡ None) where
  -- so two bodies with calls of a site are one
  one_before : (n k : ℕ) (b d : Body) (i j site : ℕ) (x y : Item) → k < n → slice_get image.bodies n ≡ Some b → slice_get (body_items b) i ≡ Some x
      → is_call_at site x ≡ true → slice_get image.bodies k ≡ Some d → slice_get (body_items d) j ≡ Some y → is_call_at site y ≡ true → ⊥
  one_before n k b d i j site x y l hb hi hx hd hj hy =
      let c = is_the_call site x hx in
      let rule : breaks_calls image n b i (Call site c.0 c.1 c.2) ≡ false
      = subst (λ z. breaks_calls image n b i z ≡ false) c.3 (keeps_call_rule image is kept n b hb i x hi) in
      let none = not_before image n b i site c.0 c.1 c.2 rule in
      let some = any_before (has_item (is_call_at site)) image.bodies n k d l hd (any_at (is_call_at site) (body_items d) j y hj hy) in
      let clash : true ≡ false = sym some ∙ none in cc

  pub one_body : (n k : ℕ) (b d : Body) (i j site : ℕ) (x y : Item) → slice_get image.bodies n ≡ Some b → slice_get (body_items b) i ≡ Some x
      → is_call_at site x ≡ true → slice_get image.bodies k ≡ Some d → slice_get (body_items d) j ≡ Some y → is_call_at site y ≡ true → n ≡ k
  one_body n k b d i j site x y hb hi hx hd hj hy =
      ⊎_elim (λ (e : (nat_le n k ≡ true) × (n ≤ k)).
      ⊎_elim (λ (f : (nat_le k n ≡ true) × (k ≤ n)). let u = e.1 in let v = f.1 in omega (arith, u, v))
      (λ f. absurd (one_before k n d b j i site y x f.1 hd hj hy hb hi hx)) (leb_tells k n))
      (λ e. absurd (one_before n k b d i j site x y e.1 hb hi hx hd hj hy)) (leb_tells n k)

  -- and it isn't inner
  pub callers_outer : (n : ℕ) (b : Body) (i site : ℕ) (x : Item) → slice_get image.bodies n ≡ Some b → slice_get (body_items b) i ≡ Some x
      → is_call_at site x ≡ true → is_inner b ≡ false
  unfolding is_for_outer
  callers_outer n b i site x hb hi hx =
      let c = is_the_call site x hx in
      let rule : (is_inner b && is_for_outer (Call site c.0 c.1 c.2)) ≡ false
      = subst (λ z. (is_inner b && is_for_outer z) ≡ false) c.3 (keeps_nmi_rule image is kept n b hb i x hi) in
      false_from_ne_true (is_inner b) (λ e. let clash : true ≡ false = sym (ap (λ t. t && true) e) ∙ rule in cc)

  module _ (known : CallId → Bool) where
    -- the item at which a legal context stands, of its body
    item_there : (c : BodyContext) (below : List BodyContext) (l : IsLegalOn image known c below) (site : ℕ) → stands_at_call image site c ≡ true
        → (x : Item) × (slice_get (body_items l.body) c.place ≡ Some x) × (is_call_at site x ≡ true)
    item_there c below l site h = by_item (slice_get (body_items l.body) c.place) refl
        (subst (λ (o : Option Body). some_call_at site (item_at o c.place) ≡ true) l.is_body h)
      where
        by_item : (o : Option Item) → slice_get (body_items l.body) c.place ≡ o → some_call_at site o ≡ true
            → (x : Item) × (slice_get (body_items l.body) c.place ≡ Some x) × (is_call_at site x ≡ true)
        by_item None e t = absurd (cc)
        by_item (Some x) e t = (x, e, t)

    -- none of the contexts on whose bodies an interrupt's body came stands at a call of it
    none_beneath : (n : ℕ) (b : Body) (i site v : ℕ) (x : Item) → slice_get image.bodies n ≡ Some b → slice_get (body_items b) i ≡ Some x
        → is_call_at site x ≡ true → b.key ≡ Irq v → (cs : List BodyContext) → AreLegal image known cs
        → list_all (λ (d : Body). is_below v d.key && not (is_nmi d.key)) (bodies_of image (numbers cs)) ≡ true
        → list_any (stands_at_call image site) cs ≡ false
    none_beneath n b i site v x hb hi hx key [] l low = refl
    none_beneath n b i site v x hb hi hx key (c ∷ cs) l low =
        let here : bodies_of image (numbers (c ∷ cs)) ≡ l.0.body ∷ bodies_of image (numbers cs)
        = ap (λ (o : Option Body). cons_body o (bodies_of image (numbers cs))) l.0.is_body in
        let k = and_parts (is_below v l.0.body.key && not (is_nmi l.0.body.key)) _
        (subst (λ bs. list_all (λ (d : Body). is_below v d.key && not (is_nmi d.key)) bs ≡ true) here low) in
        or_from (stands_at_call image site c) (list_any (stands_at_call image site) cs)
        (false_from_ne_true (stands_at_call image site c) (λ t.
        let y = item_there c cs l.0 site t in
        let same : n ≡ c.body = one_body n c.body b l.0.body i c.place site x y.0 hb hi hx l.0.is_body y.1 y.2 in
        let one : b ≡ l.0.body = let q : Some b ≡ Some l.0.body = sym hb ∙ ap (slice_get image.bodies) same ∙ l.0.is_body in cc in
        not_below_itself b.key v key (subst (λ (d : Body). is_below v d.key ≡ true) (sym one) (and_parts (is_below v l.0.body.key) _ k.0).0)))
        (none_beneath n b i site v x hb hi hx key cs l.1 k.1)

    -- below a body with a call of a site no context stands at one
    pub none_calls_below : (c : BodyContext) (below : List BodyContext) (l : AreLegal image known (c ∷ below)) (site i : ℕ) (x : Item)
        → slice_get (body_items l.0.body) i ≡ Some x → is_call_at site x ≡ true → list_any (stands_at_call image site) below ≡ false
    none_calls_below c [] l site i x hi hx = refl
    none_calls_below c (d ∷ below) l site i x hi hx =
        let here : bodies_of image (numbers (d ∷ below)) ≡ l.1.0.body ∷ bodies_of image (numbers below)
        = ap (λ (o : Option Body). cons_body o (bodies_of image (numbers below))) l.1.0.is_body in
        let parts = legal_parts l.0.body l.1.0.body (bodies_of image (numbers below))
        (subst (λ bs. is_legal (l.0.body ∷ bs) ≡ true) here l.0.over.legal) in
        let z = outer_starts l.0.body.key l.0.body.side l.1.0.body (bodies_of image (numbers below))
        (callers_outer c.body l.0.body i site x l.0.is_body hi hx) parts.0 parts.1 in
        none_beneath c.body l.0.body i site z.0 x l.0.is_body hi hx z.1 (d ∷ below) l.1
        (subst (λ bs. list_all (λ (e : Body). is_below z.0 e.key && not (is_nmi e.key)) bs ≡ true) (sym here) z.2)

    -- of contexts that stand on each other one at most stands at a call of a site
    pub none_calls_beneath : (c : BodyContext) (below : List BodyContext) → AreLegal image known (c ∷ below) → (site : ℕ)
        → stands_at_call image site c ≡ true → list_any (stands_at_call image site) below ≡ false
    none_calls_beneath c below l site h = let x = item_there c below l.0 site h in none_calls_below c below l site c.place x.0 x.1 x.2

    -- none below a `wait` for the site, whose body calls it
    pub none_calls_below_wait : (c : BodyContext) (below : List BodyContext) (l : AreLegal image known (c ∷ below)) (site : ℕ)
        → slice_get (body_items l.0.body) c.place ≡ Some (Wait site) → list_any (stands_at_call image site) below ≡ false
    unfolding breaks_calls
    none_calls_below_wait c below l site hi =
        let some : has_item (is_call_at site) l.0.body ≡ true
        = not-false _ (keeps_call_rule image is kept c.body l.0.body l.0.is_body c.place (Wait site) hi) in
        let x = any_somewhere (is_call_at site) (body_items l.0.body) some in
        none_calls_below c below l site x.0 x.1 x.2 x.3
