-- What the invariant says of each context.
use Rattle.std.specs.Prelude.{◌≡◌, refl, ℕ, ◌/◌, ◌⊎◌, Bool, true, false, not, ◌&&◌, if◌then◌else◌, nat_lt, List, [], ◌∷◌, ◌++◌, Option, Some, None, slice_get}
use Rattle.std.specs.List.{list_any, list_all}
use Rattle.std.proofs.Common.{ap, sym, ◌∙◌, subst, inl, inr}
use Rattle.std.proofs.lemmas.Bool.{and_parts, and_from, or_from, not-true}
use Rattle.ev_body.specs.declared.key.Key.{Key}
use Rattle.ev_body.specs.declared.key.Key.TheVariants.{Irq, Bp, Pf, Nmi}
use Rattle.ev_body.specs.declared.key.Side.TheVariants.{Kernel}
use Rattle.ev_body.specs.declared.body.Body.{Body}
use Rattle.ev_body.specs.declared.image.Image.{Image}
use Rattle.ev_body.specs.Bodies.{body_items, covers}
use Rattle.ev_body.specs.WellFormed.{IsImage}
use Rattle.ev_body.specs.declared.item.Item.TheVariants.{Eoi, Ret}
use Rattle.ev_abstract.specs.Accepted.{IsAccepted}
use Rattle.ev_abstract.specs.CrossCall.{take_place}
use Rattle.ev_abstract.specs.Rules.{is_irq}
use Rattle.ev_abstract.specs.Context.{CallId, BodyContext}
use Rattle.ev_abstract.specs.Machine.{Machine}
use Rattle.ev_abstract.specs.Run.{run}
use Rattle.ev_abstract.specs.Chain.{is_legal, is_nmi, is_sti, is_below, has_item, may_start, bodies_of, cons_body}
use Rattle.ev_law.specs.Legal.{AreLegal, IsLegalOn, numbers, class_of, served, is_eoi_behind, has_flags_for, read_at, knows}
use Rattle.ev_law.specs.Laws.{is_lower, has_nmi, Follows, ContextsFollow}
use Rattle.ev_law.proofs.Ruled.{IsRuled, body_ruled}
use Rattle.ev_law.proofs.Places.{first_eoi, flags_are_known, on_before_eoi, read_within}
use Rattle.ev_law.proofs.Runs.{runs_are_legal}

-- ---- chains of bodies

-- what may stand on another body, where a body that stands there may start
next_may : (b c : Body) (below : List Body) → is_legal (b ∷ c ∷ below) ≡ true → may_start b.key c below ≡ true
unfolding is_legal
next_may b c below h = (and_parts (covers b.side Kernel) _ (and_parts _ (is_legal (c ∷ below)) h).0).1

none_nmi : (bs : List Body) → list_all (λ (b : Body). not (is_nmi b.key)) bs ≡ true → list_any (λ (b : Body). is_nmi b.key) bs ≡ false
none_nmi [] h = refl
none_nmi (b ∷ bs) h = let k = and_parts (not (is_nmi b.key)) _ h in or_from _ _ (not-true _ k.0) (none_nmi bs k.1)

below_nmi : (v : ℕ) (bs : List Body) → list_all (λ (b : Body). is_below v b.key && not (is_nmi b.key)) bs ≡ true
    → list_any (λ (b : Body). is_nmi b.key) bs ≡ false
below_nmi v [] h = refl
below_nmi v (b ∷ bs) h =
    let k = and_parts _ (list_all (λ (b : Body). is_below v b.key && not (is_nmi b.key)) bs) h in
    or_from _ _ (not-true _ (and_parts (is_below v b.key) _ k.0).1) (below_nmi v bs k.1)

start_nmi : (k : Key) (c : Body) (below : List Body) → is_nmi k ≡ true → may_start k c below ≡ true
    → list_any (λ (b : Body). is_nmi b.key) (c ∷ below) ≡ false
unfolding may_start is_nmi
start_nmi Nmi c below n h = none_nmi (c ∷ below) h
start_nmi _ c below n h = absurd (cc)

start_on_nmi : (k : Key) (c : Body) (below : List Body) → list_any (λ (b : Body). is_nmi b.key) (c ∷ below) ≡ true → may_start k c below ≡ true
    → (k ≡ Bp) ⊎ (k ≡ Pf)
unfolding may_start
start_on_nmi Bp c below n h = inl refl
start_on_nmi Pf c below n h = inr refl
start_on_nmi (Irq v) c below n h =
    absurd (let no : list_any (λ (b : Body). is_nmi b.key) (c ∷ below) ≡ false = below_nmi v (c ∷ below) (and_parts (has_item is_sti c) _ h).1 in cc)
start_on_nmi Nmi c below n h = absurd (let no : list_any (λ (b : Body). is_nmi b.key) (c ∷ below) ≡ false = none_nmi (c ∷ below) h in cc)
start_on_nmi _ c below n h = absurd (cc)

start_irq : (k : Key) (v : ℕ) (c : Body) (below : List Body) → k ≡ Irq v → may_start k c below ≡ true
    → list_all (λ (b : Body). is_below v b.key && not (is_nmi b.key)) (c ∷ below) ≡ true
unfolding may_start
start_irq k v c below e h = (and_parts (has_item is_sti c) _ (subst (λ k. may_start k c below ≡ true) e h)).1

class_is : (k : Key) (class : ℕ) → class_of k ≡ Some class → (v : ℕ) × (k ≡ Irq v) × (class ≡ v / 16)
unfolding class_of
class_is (Irq v) class h = (v, refl, cc)
class_is _ class h = absurd (cc)

of_irq : (v : ℕ) → class_of (Irq v) ≡ Some (v / 16)
unfolding class_of
of_irq v = refl

lower_key : (v : ℕ) (k : Key) (class j : ℕ) → is_below v k ≡ true → class ≡ v / 16 → class_of k ≡ Some j → nat_lt j class ≡ true
unfolding is_below class_of
lower_key v (Irq w) class j h e q = let same : w / 16 ≡ j = cc in subst (λ n. nat_lt n class ≡ true) same (subst (λ n. nat_lt (w / 16) n ≡ true) (sym e) h)
lower_key v _ class j h e q = absurd (cc)

served_is : (b : Body) (i class : ℕ) → served b i ≡ Some class → class_of b.key ≡ Some class
served_is b i class h = pick (is_eoi_behind b i) h
  where
    pick : (t : Bool) → (if t then None else class_of b.key) ≡ Some class → class_of b.key ≡ Some class
    pick true q = absurd (cc)
    pick false q = q

-- at `ret`, behind its `eoi`, a context has no interrupt in service
no_class : (k : Key) → is_irq k ≡ false → class_of k ≡ None
unfolding is_irq class_of
no_class (Irq v) h = absurd (cc)
no_class _ h = refl

pub ret_serves_none : (image : Image) → IsImage image → IsAccepted image → (known : CallId → Bool) (c : BodyContext) (below : List BodyContext)
    → (l : IsLegalOn image known c below) → slice_get (body_items l.body) c.place ≡ Some Ret → c.service ≡ None
ret_serves_none image is accepted known c below l h =
    let r = (body_ruled image is accepted.1.kept c.body l.body l.is_body).ret c.place h in
    l.at.service ∙ ap (λ (t : Bool). served l.body (if t then take_place 0 (body_items l.body) else c.place)) r.0 ∙ by_key (is_irq l.body.key) refl r.1
  where
    by_key : (t : Bool) → is_irq l.body.key ≡ t → (is_irq l.body.key ≡ true → is_eoi_behind l.body c.place ≡ true) → served l.body c.place ≡ None
    by_key true q behind = ap (λ (t : Bool). if t then None else class_of l.body.key) (behind q)
    by_key false q behind = ap (λ o. if is_eoi_behind l.body c.place then None else o) (no_class l.body.key q) ∙ either (is_eoi_behind l.body c.place)
      where
        none : Option ℕ
        none = None

        either : (t : Bool) → (if t then none else none) ≡ none
        either true = refl
        either false = refl

-- and at the `eoi` it has its interrupt's
some_class : (k : Key) → is_irq k ≡ true → (class : ℕ) × (class_of k ≡ Some class)
unfolding is_irq class_of
some_class (Irq v) h = (v / 16, refl)
some_class _ h = absurd (cc)

pub eoi_serves : (image : Image) → IsImage image → IsAccepted image → (known : CallId → Bool) (c : BodyContext) (below : List BodyContext)
    → (l : IsLegalOn image known c below) → slice_get (body_items l.body) c.place ≡ Some Eoi → (class : ℕ) × (c.service ≡ Some class)
eoi_serves image is accepted known c below l h =
    let e = first_eoi image l.body (body_ruled image is accepted.1.kept c.body l.body l.is_body) c.place h in
    let k = some_class l.body.key e.0 in (
      k.0,
      l.at.service ∙ ap (λ (t : Bool). served l.body (if t then take_place 0 (body_items l.body) else c.place)) e.1
          ∙ ap (λ (t : Bool). if t then None else class_of l.body.key) e.2 ∙ k.1,
    )

-- ---- a context

bodies_here : (image : Image) (known : CallId → Bool) (c : BodyContext) (below : List BodyContext) (l : IsLegalOn image known c below)
    → bodies_of image (numbers (c ∷ below)) ≡ l.body ∷ bodies_of image (numbers below)
bodies_here image known c below l = ap (λ (o : Option Body). cons_body o (bodies_of image (numbers below))) l.is_body

lower_here : (image : Image) (known : CallId → Bool) (v class : ℕ) (below : List BodyContext) → AreLegal image known below → class ≡ v / 16
    → list_all (λ (b : Body). is_below v b.key && not (is_nmi b.key)) (bodies_of image (numbers below)) ≡ true
    → list_all (is_lower class) below ≡ true
lower_here image known v class [] l e h = refl
lower_here image known v class (c ∷ below) l e h =
    let k = and_parts (is_below v l.0.body.key && not (is_nmi l.0.body.key)) _
    (subst (λ bs. list_all (λ (b : Body). is_below v b.key && not (is_nmi b.key)) bs ≡ true) (bodies_here image known c below l.0) h) in
    and_from _ _ (pick c.service refl (and_parts (is_below v l.0.body.key) _ k.0).0) (lower_here image known v class below l.1 e k.1)
  where
    pick : (o : Option ℕ) → c.service ≡ o → is_below v l.0.body.key ≡ true → is_lower class c ≡ true
    pick None q b = rw q refl
    pick (Some j) q b = rw q (lower_key v l.0.body.key class j b e (served_is l.0.body (read_at l.0.body c.place) j (sym l.0.at.service ∙ q)))

module _ (image : Image) (known : CallId → Bool) (ruled : (n : ℕ) (b : Body) → slice_get image.bodies n ≡ Some b → IsRuled image b) where
  may_here : (c d : BodyContext) (below : List BodyContext) (l : IsLegalOn image known c (d ∷ below)) (k : IsLegalOn image known d below)
      → may_start l.body.key k.body (bodies_of image (numbers below)) ≡ true
  may_here c d below l k =
      next_may l.body k.body (bodies_of image (numbers below)) (subst (λ bs. is_legal (l.body ∷ bs) ≡ true) (bodies_here image known d below k) l.over.legal)

  falls_here : (c : BodyContext) (below : List BodyContext) (l : AreLegal image known (c ∷ below)) (class v : ℕ) → l.0.body.key ≡ Irq v
      → class ≡ v / 16 → list_all (is_lower class) below ≡ true
  falls_here c [] l class v k e = refl
  falls_here c (d ∷ below) l class v k e = lower_here image known v class (d ∷ below) l.1 e
      (subst (λ bs. list_all (λ (b : Body). is_below v b.key && not (is_nmi b.key)) bs ≡ true) (sym (bodies_here image known d below l.1.0))
      (start_irq l.0.body.key v l.1.0.body (bodies_of image (numbers below)) k (may_here c d below l.0 l.1.0)))

  one_here : (c : BodyContext) (below : List BodyContext) (l : AreLegal image known (c ∷ below)) → is_nmi l.0.body.key ≡ true
      → has_nmi image below ≡ false
  one_here c [] l n = refl
  one_here c (d ∷ below) l n = subst (λ bs. list_any (λ (b : Body). is_nmi b.key) bs ≡ false) (sym (bodies_here image known d below l.1.0))
      (start_nmi l.0.body.key l.1.0.body (bodies_of image (numbers below)) n (may_here c d below l.0 l.1.0))

  on_here : (c : BodyContext) (below : List BodyContext) (l : AreLegal image known (c ∷ below)) → has_nmi image below ≡ true
      → (l.0.body.key ≡ Bp) ⊎ (l.0.body.key ≡ Pf)
  on_here c [] l n = absurd (cc)
  on_here c (d ∷ below) l n = start_on_nmi l.0.body.key l.1.0.body (bodies_of image (numbers below))
      (subst (λ bs. list_any (λ (b : Body). is_nmi b.key) bs ≡ true) (bodies_here image known d below l.1.0) n) (may_here c d below l.0 l.1.0)

  pub follows : (c : BodyContext) (below : List BodyContext) → AreLegal image known (c ∷ below) → Follows image c below
  follows c below l =
      let b : Body = l.0.body in
      let at = l.0.at in record {
        body = b;
        is_body = l.0.is_body;
        place = at.place;
        interrupts = at.interrupts;
        flags = λ cond n e. flags_are_known cond n c.flags (subst (λ o. has_flags_for o c.flags ≡ true) e at.flags);
        service = λ class e. class_is b.key class (served_is b (read_at b c.place) class (sym at.service ∙ e));
        in_service = λ v k on. at.service
            ∙ ap (λ (t : Bool). if t then None else class_of b.key)
            (on_before_eoi image b (ruled c.body b l.0.is_body) (read_at b c.place) (read_within image b (ruled c.body b l.0.is_body) c.place at.place)
            (sym at.interrupts ∙ on)) ∙ ap class_of k ∙ of_irq v;
        runs = at.runs;
        falls = λ class e. (let s = class_is b.key class (served_is b (read_at b c.place) class (sym at.service ∙ e)) in
            falls_here c below l class s.0 s.1 s.2);
        one_nmi = one_here c below l;
        on_nmi = on_here c below l;
      }

  at_suffix : (above below : List BodyContext) (c : BodyContext) → AreLegal image known (above ++ c ∷ below) → AreLegal image known (c ∷ below)
  at_suffix [] below c l = l
  at_suffix (d ∷ above) below c l = at_suffix above below c l.1

pub contexts_follow : ContextsFollow
contexts_follow image script p c above below is accepted s e =
    let m : Machine = run image script in
    let known = knows image m in
    let ruled = body_ruled image is accepted.1.kept in
    follows image known ruled c below (at_suffix image known ruled above below c
    (subst (AreLegal image known) e (((runs_are_legal image script is accepted s).each p).bodies)))
