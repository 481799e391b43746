-- A delivery: the new body is at its start, and legal on those below.
use Rattle.std.specs.Prelude.{◌≡◌, refl, ℕ, zero, suc, ◌+◌, ◌/◌, ◌≤◌, ◌<◌, Bool, true, false, not, ◌&&◌, ◌||◌, nat_lt, nat_le, ◌==◌, if◌then◌else◌, List, [], ◌∷◌, Option, Some, None, is_none, slice_get}
use Rattle.std.specs.List.{list_any, list_all}
use Rattle.std.proofs.Common.{arith, ap, sym, ◌∙◌, subst, inl, inr}
use Rattle.std.proofs.lemmas.Bool.{and_parts, and_from, or_parts, or_cases, or_right, not-true, not_from_false, eqb-true, ltb-true, leb-true}
use Rattle.ev_event.specs.declared.event.Event.{Event}
use Rattle.ev_event.specs.declared.event.EventType.TheVariants.{Int3}
use Rattle.ev_event.specs.Event.{pf, software, nmi_event, interrupt_event}
use Rattle.ev_body.specs.declared.key.Key.{Key}
use Rattle.ev_body.specs.declared.key.Key.TheVariants.{Nmi, Bp, Pf, Irq}
use Rattle.ev_body.specs.declared.key.Side.{Side}
use Rattle.ev_body.specs.declared.key.Side.TheVariants.{User, Kernel}
use Rattle.ev_body.specs.declared.item.Item.{Item}
use Rattle.ev_body.specs.declared.item.Item.TheVariants.{Sti}
use Rattle.ev_body.specs.declared.body.Body.{Body}
use Rattle.ev_body.specs.declared.image.Image.{Image}
use Rattle.ev_body.specs.Bodies.{body_items, key_number, covers, first_body}
use Rattle.ev_body.specs.WellFormed.{is_key}
use Rattle.ev_abstract.specs.Context.{CallId, BodyContext}
use Rattle.ev_abstract.specs.Machine.{Processor}
use Rattle.ev_abstract.specs.Boundary.{has_key, is_nmi_body, outranks, open_to_interrupts}
use Rattle.ev_abstract.specs.Chain.{has_item, is_breakpoint, is_user_access, is_sti, is_nmi, is_below, may_start, is_legal, bodies_of, cons_body}
use Rattle.ev_abstract.specs.Delivery.{event_key, service_of, body_at_start, side_of, entered, delivered}
use Rattle.ev_abstract.specs.Rules.{breaks_if, is_inner, is_inner_key, if_at, in_function}
use Rattle.ev_law.specs.Legal.{IsOver, IsLegalOn, AreLegal, IsLegalProcessor, class_of, served, is_eoi_behind, serves_at, is_outer_before_eoi, numbers, read_at}
use Rattle.ev_law.proofs.Ruled.{IsRuled}
use Rattle.ev_law.proofs.Places.{start_at, on_before_eoi, off_along, read_within}

-- ---- a body by its key's number

first_found : (k : ℕ) (bs : List Body) (key : ℕ) (side : Side) (n : ℕ) → first_body k bs key side ≡ Some n
    → (i : ℕ) × (n ≡ k + i) × ((b : Body) → slice_get bs i ≡ Some b → (key_number b.key ≡ key) × (covers b.side side ≡ true))
first_found k [] key side n h = absurd (cc)
first_found k (x ∷ xs) key side n h = pick (key_number x.key == key && covers x.side side) refl h (first_found (suc k) xs key side n)
  where
    pick : (t : Bool) → (key_number x.key == key && covers x.side side) ≡ t → (if t then Some k else first_body (suc k) xs key side) ≡ Some n
        → (first_body (suc k) xs key side ≡ Some n → (i : ℕ) × (n ≡ suc k + i)
        × ((b : Body) → slice_get xs i ≡ Some b → (key_number b.key ≡ key) × (covers b.side side ≡ true)))
        → (i : ℕ) × (n ≡ k + i) × ((b : Body) → slice_get (x ∷ xs) i ≡ Some b → (key_number b.key ≡ key) × (covers b.side side ≡ true))
    pick true q r next = (
      0,
      (let same : k ≡ n = cc in omega arith),
      λ b e. (let same : x ≡ b = cc in let p = and_parts (key_number x.key == key) _ q in
          subst (λ (y : Body). (key_number y.key ≡ key) × (covers y.side side ≡ true)) same (eqb-true _ _ p.0, p.1)),
    )
    pick false q r next = let f = next r in let e : n ≡ suc k + f.0 = f.1 in (suc f.0, omega (arith, e), f.2)

irq_bounds : (v : ℕ) → is_key (Irq v) ≡ true → (32 ≤ v) × (v < 256)
unfolding is_key
irq_bounds v h = let p = and_parts (nat_le 0x20 v) (nat_lt v 0x100) h in (leb-true 0x20 v p.0, ltb-true v 0x100 p.1)

is_nmi_key : (k : Key) → is_key k ≡ true → key_number k ≡ 2 → is_nmi k ≡ true
unfolding key_number is_nmi
is_nmi_key Nmi h e = refl
is_nmi_key (Irq v) h e = absurd (let p = irq_bounds v h in let l : 32 ≤ v = p.0 in omega (arith, l))
is_nmi_key _ h e = absurd (omega arith)

is_bp_key : (k : Key) → is_key k ≡ true → key_number k ≡ 3 → k ≡ Bp
unfolding key_number
is_bp_key Bp h e = refl
is_bp_key (Irq v) h e = absurd (let p = irq_bounds v h in let l : 32 ≤ v = p.0 in omega (arith, l))
is_bp_key _ h e = absurd (omega arith)

is_pf_key : (k : Key) → is_key k ≡ true → key_number k ≡ 14 → k ≡ Pf
unfolding key_number
is_pf_key Pf h e = refl
is_pf_key (Irq v) h e = absurd (let p = irq_bounds v h in let l : 32 ≤ v = p.0 in omega (arith, l))
is_pf_key _ h e = absurd (omega arith)

is_irq_key : (k : Key) (v : ℕ) → is_key k ≡ true → 32 ≤ v → v < 256 → key_number k ≡ v → k ≡ Irq v
unfolding key_number
is_irq_key (Irq w) v h l u e = ap Irq e
is_irq_key _ v h l u e = absurd (omega arith)

from_nmi : (k : Key) → is_nmi k ≡ true → k ≡ Nmi
unfolding is_nmi
from_nmi Nmi h = refl
from_nmi _ h = absurd (cc)

-- the numbers of the keys whose user side every image has
abbrev pub user_numbers : List ℕ
user_numbers = 0x100 ∷ 1 ∷ 3 ∷ 6 ∷ 12 ∷ 13 ∷ 14 ∷ 17 ∷ []

-- an event that is no interrupt, of one of these keys
unfoldable pub is_fault : Event → Bool
is_fault e =
    is_none (service_of e.kind e.vector) && (nat_lt (event_key e.kind e.vector) 32 || (event_key e.kind e.vector == 0x100))
    && list_any (λ n. n == event_key e.kind e.vector) user_numbers

fault_class : (k : Key) (n : ℕ) → is_key k ≡ true → key_number k ≡ n → (nat_lt n 32 || (n == 0x100)) ≡ true → class_of k ≡ None
unfolding key_number class_of
fault_class (Irq v) n h e q = absurd (elim (or_cases (nat_lt n 32) (n == 0x100) q) [
  | inl a ↦ (let p = irq_bounds v h in let l : 32 ≤ v = p.0 in let u = ltb-true n 32 a in omega (arith, l, u))
  | inr a ↦ (let p = irq_bounds v h in let l : v < 256 = p.1 in let u = eqb-true n 0x100 a in omega (arith, l, u))
])
fault_class _ n h e q = refl

class_of_nmi : class_of Nmi ≡ None
unfolding class_of
class_of_nmi = refl

class_of_bp : class_of Bp ≡ None
unfolding class_of
class_of_bp = refl

class_of_pf : class_of Pf ≡ None
unfolding class_of
class_of_pf = refl

class_of_irq : (v : ℕ) → class_of (Irq v) ≡ Some (v / 16)
unfolding class_of
class_of_irq v = refl

not_nmi : (k : Key) → (key_number k == 2) ≡ false → not (is_nmi k) ≡ true
unfolding key_number is_nmi
not_nmi Nmi h = absurd (cc)
not_nmi _ h = refl

outer_not_nmi : (k : Key) (side : Side) → is_inner_key k side ≡ false → not (is_nmi k) ≡ true
unfolding is_inner_key is_nmi
outer_not_nmi Nmi side h = absurd (cc)
outer_not_nmi _ side h = refl

outranked : (v : ℕ) (k : Key) → outranks v (class_of k) ≡ true → is_below v k ≡ true
unfolding class_of is_below
outranked v (Irq w) h = h
outranked v _ h = refl

-- ---- IF on: the body has an `sti`, so it isn't inner

pub any_somewhere : (test : Item → Bool) (xs : List Item) → list_any test xs ≡ true
    → (e : ℕ) × (x : Item) × (slice_get xs e ≡ Some x) × (test x ≡ true)
any_somewhere test [] h = absurd (cc)
any_somewhere test (y ∷ ys) h = pick (test y) refl h (any_somewhere test ys)
  where
    pick : (t : Bool) → test y ≡ t → (t || list_any test ys) ≡ true
        → (list_any test ys ≡ true → (e : ℕ) × (x : Item) × (slice_get ys e ≡ Some x) × (test x ≡ true))
        → (e : ℕ) × (x : Item) × (slice_get (y ∷ ys) e ≡ Some x) × (test x ≡ true)
    pick true q r k = (0, y, refl, q)
    pick false q r k = let f = k r in (suc f.0, f.1, f.2, f.3)

pub any_whole : (test : Item → Bool) (xs : List Item) (e : ℕ) (x : Item) → slice_get xs e ≡ Some x → test x ≡ true → list_any test xs ≡ true
any_whole test [] e x q t = absurd (cc)
any_whole test (y ∷ ys) zero x q t = let same : y ≡ x = cc in ap (λ z. test z || list_any test ys) same ∙ ap (λ z. z || list_any test ys) t
any_whole test (y ∷ ys) (suc e) x q t = or_right (test y) _ (any_whole test ys e x q t)

sti_outer : (b : Body) (e : ℕ) (x : Item) → is_sti x ≡ true → breaks_if b e x ≡ false → is_inner b ≡ false
unfolding is_sti breaks_if
sti_outer b e Sti t h = (or_parts (is_inner b) _ ((or_parts (is_inner b || in_function b e) _ h).0)).0
sti_outer b e _ t h = absurd (cc)

on_outer : (image : Image) (b : Body) → IsRuled image b → (i : ℕ) → if_at b i ≡ true → (has_item is_sti b ≡ true) × (is_inner b ≡ false)
on_outer image b ruled i on = pick (has_item is_sti b) refl
  where
    pick : (t : Bool) → has_item is_sti b ≡ t → (t ≡ true) × (is_inner b ≡ false)
    pick true q = let f = any_somewhere is_sti (body_items b) q in (refl, sti_outer b f.0 f.1 f.3 (ruled.switch f.0 f.1 f.2))
    pick false q = absurd (let off : if_at b i ≡ false = off_along (body_items b) i q in cc)

-- ---- a delivery

-- each body that an event may start here is legal, and serves what the event puts in service
pub record CanCome (image : Image) (below : List BodyContext) (e : Event) : Type 0 where
  pub serves : (n : ℕ) (b : Body) → slice_get image.bodies n ≡ Some b → key_number b.key ≡ event_key e.kind e.vector
      → service_of e.kind e.vector ≡ class_of b.key
  pub over : (n : ℕ) (b : Body) → slice_get image.bodies n ≡ Some b → key_number b.key ≡ event_key e.kind e.vector
      → covers b.side (side_of below) ≡ true → IsOver image b below

pub delivered_records : (image : Image) (p : ℕ) (x : Processor) (e : Event) → (delivered image p x e).0.records ≡ x.records
unfolding delivered
delivered_records image p x e = pick (first_body 0 image.bodies (event_key e.kind e.vector) (side_of x.bodies))
  where
    with : (n : ℕ) (o : Option Body) → slice_get image.bodies n ≡ o → (entered p x e (side_of x.bodies) (Some n) image.bodies).0.records ≡ x.records
    with n None q = rw q refl
    with n (Some b) q = rw q refl

    pick : (o : Option ℕ) → (entered p x e (side_of x.bodies) o image.bodies).0.records ≡ x.records
    pick None = refl
    pick (Some n) = with n (slice_get image.bodies n) refl

module _ (image : Image) (known : CallId → Bool) (ruled : (n : ℕ) (b : Body) → slice_get image.bodies n ≡ Some b → IsRuled image b) where
  pub delivered_legal : (p : ℕ) (x : Processor) (e : Event) → IsLegalProcessor image known x → CanCome image x.bodies e
      → IsLegalProcessor image known (delivered image p x e).0
  unfolding delivered
  delivered_legal p x e is can = pick (first_body 0 image.bodies (event_key e.kind e.vector) (side_of x.bodies)) refl
    where
      with : (n : ℕ) (o : Option Body) → slice_get image.bodies n ≡ o
          → ((b : Body) → slice_get image.bodies n ≡ Some b → (key_number b.key ≡ event_key e.kind e.vector) × (covers b.side (side_of x.bodies) ≡ true))
          → IsLegalProcessor image known (entered p x e (side_of x.bodies) (Some n) image.bodies).0
      with n None q f = rw q is
      with n (Some b) q f = rw q (record {
        bodies = (
          record {
            body = b;
            is_body = q;
            at = start_at image b (ruled n b q) (body_at_start n (side_of x.bodies) e) refl refl refl (can.serves n b q (f b q).0);
            over = can.over n b q (f b q).0 (f b q).1;
            calls = refl;
          },
          is.bodies,
        );
        pending = is.pending;
        mail = is.mail;
        nmi = is.nmi;
        queue = is.queue;
      })

      pick : (o : Option ℕ) → first_body 0 image.bodies (event_key e.kind e.vector) (side_of x.bodies) ≡ o
          → IsLegalProcessor image known (entered p x e (side_of x.bodies) o image.bodies).0
      pick None q = is
      pick (Some n) q =
          let f = first_found 0 image.bodies (event_key e.kind e.vector) (side_of x.bodies) n q in
          let same : f.0 ≡ n = (let g : n ≡ 0 + f.0 = f.1 in omega (arith, g)) in
          with n (slice_get image.bodies n) refl (subst (λ k. (b : Body) → slice_get image.bodies k ≡ Some b → (key_number b.key ≡ event_key e.kind e.vector)
          × (covers b.side (side_of x.bodies) ≡ true)) same f.2)

  -- ---- what may come

  bodies_here : (c : BodyContext) (below : List BodyContext) (l : IsLegalOn image known c below)
      → bodies_of image (numbers (c ∷ below)) ≡ l.body ∷ bodies_of image (numbers below)
  bodies_here c below l = ap (λ (o : Option Body). cons_body o (bodies_of image (numbers below))) l.is_body

  -- on a body: the new one has the kernel side and may start there
  over_body : (b : Body) (c : BodyContext) (below : List BodyContext) (l : IsLegalOn image known c below) → covers b.side Kernel ≡ true
      → may_start b.key l.body (bodies_of image (numbers below)) ≡ true
      → (is_inner b ≡ false → list_all (is_outer_before_eoi image) (c ∷ below) ≡ true) → IsOver image b (c ∷ below)
  unfolding is_legal
  over_body b c below l side may outer = record {
    legal = rw (bodies_here c below l) (and_from _ _ (and_from _ _ side may) (l.over.legal));
    outer = outer;
  }

  -- on the task
  over_task : (b : Body) → covers b.side User ≡ true → IsOver image b []
  unfolding is_legal
  over_task b side = record { legal = side; outer = λ h. refl }

  inner_bp : (b : Body) → b.key ≡ Bp → covers b.side Kernel ≡ true → is_inner b ≡ true
  unfolding is_inner_key
  inner_bp b k side = ap (λ key. is_inner_key key b.side) k ∙ side

  inner_pf : (b : Body) → b.key ≡ Pf → covers b.side Kernel ≡ true → is_inner b ≡ true
  unfolding is_inner_key
  inner_pf b k side = ap (λ key. is_inner_key key b.side) k ∙ side

  inner_nmi : (b : Body) → b.key ≡ Nmi → is_inner b ≡ true
  unfolding is_inner_key
  inner_nmi b k = ap (λ key. is_inner_key key b.side) k

  -- ---- NMI

  no_nmi : (below : List BodyContext) → AreLegal image known below → list_any (is_nmi_body image) below ≡ false
      → list_all (λ (d : Body). not (is_nmi d.key)) (bodies_of image (numbers below)) ≡ true
  no_nmi [] l h = refl
  no_nmi (c ∷ below) l h =
      let p = or_parts (is_nmi_body image c) _ h in
      let k : (key_number l.0.body.key == 2) ≡ false = subst (λ o. has_key 2 o ≡ false) l.0.is_body p.0 in
      rw (bodies_here c below l.0) (and_from _ _ (not_nmi l.0.body.key k) (no_nmi below l.1 p.1))

  may_start_nmi : (b : Body) (below : List Body) (k : Key) → k ≡ Nmi → list_all (λ (d : Body). not (is_nmi d.key)) (b ∷ below) ≡ true
      → may_start k b below ≡ true
  unfolding may_start
  may_start_nmi b below k e h = rw e h

  key_of : (n : ℕ) (b : Body) → slice_get image.bodies n ≡ Some b → is_key b.key ≡ true
  key_of n b q = (ruled n b q).key

  pub nmi_can_come : (below : List BodyContext) → AreLegal image known below → list_any (is_nmi_body image) below ≡ false
      → CanCome image below nmi_event
  nmi_can_come [] l h = record {
    serves = λ n b q k. sym (ap class_of (from_nmi b.key (is_nmi_key b.key (key_of n b q) k)) ∙ class_of_nmi);
    over = λ n b q k side. over_task b side;
  }
  nmi_can_come (c ∷ below) l h = record {
    serves = λ n b q k. sym (ap class_of (from_nmi b.key (is_nmi_key b.key (key_of n b q) k)) ∙ class_of_nmi);
    over = λ n b q k side. (let key : b.key ≡ Nmi = from_nmi b.key (is_nmi_key b.key (key_of n b q) k) in
        over_body b c below l.0 side
        (may_start_nmi l.0.body _ b.key key (subst (λ bs. list_all (λ (d : Body). not (is_nmi d.key)) bs ≡ true) (bodies_here c below l.0)
        (no_nmi (c ∷ below) l h)))
        (λ i. absurd (let j = inner_nmi b key in cc)));
  }

  -- ---- interrupts

  served_here : (b : Body) (i : ℕ) → not (is_eoi_behind b i) ≡ true → served b i ≡ class_of b.key
  served_here b i h = ap (λ (t : Bool). if t then None else class_of b.key) (not-true _ h)

  all_below : (v : ℕ) (below : List BodyContext) → AreLegal image known below → list_all (is_outer_before_eoi image) below ≡ true
      → list_all (λ (c : BodyContext). outranks v c.service) below ≡ true
      → list_all (λ (d : Body). is_below v d.key && not (is_nmi d.key)) (bodies_of image (numbers below)) ≡ true
  all_below v [] l outer ranks = refl
  all_below v (c ∷ below) l outer ranks =
      let o = and_parts (is_outer_before_eoi image c) _ outer in
      let r = and_parts (outranks v c.service) _ ranks in
      let b = l.0.body in
      let s : (not (is_inner b) && not (is_eoi_behind b (read_at b c.place))) ≡ true = subst (λ o. serves_at c.place o ≡ true) l.0.is_body o.0 in
      let t = and_parts (not (is_inner b)) _ s in
      let class : c.service ≡ class_of b.key = l.0.at.service ∙ served_here b (read_at b c.place) t.1 in
      rw (bodies_here c below l.0) (and_from _ _
      (and_from _ _ (outranked v b.key (subst (λ o. outranks v o ≡ true) class r.0)) (outer_not_nmi b.key b.side (not-true _ t.0)))
      (all_below v below l.1 o.1 r.1))

  may_start_irq : (b : Body) (below : List Body) (k : Key) (v : ℕ) → k ≡ Irq v → has_item is_sti b ≡ true
      → list_all (λ (d : Body). is_below v d.key && not (is_nmi d.key)) (b ∷ below) ≡ true → may_start k b below ≡ true
  unfolding may_start
  may_start_irq b below k v e s h = rw e (and_from _ _ s h)

  -- a context with IF on, and those below it, are outer and before their `eoi`
  all_outer : (c : BodyContext) (below : List BodyContext) (l : AreLegal image known (c ∷ below)) → c.interrupts ≡ true
      → (has_item is_sti (l.0.body) ≡ true) × (list_all (is_outer_before_eoi image) (c ∷ below) ≡ true)
  all_outer c below l on =
      let b = l.0.body in
      let r : IsRuled image b = ruled c.body b l.0.is_body in
      let at : if_at b (read_at b c.place) ≡ true = sym l.0.at.interrupts ∙ on in
      let o = on_outer image b r (read_at b c.place) at in
      let e : is_eoi_behind b (read_at b c.place) ≡ false = on_before_eoi image b r (read_at b c.place) (read_within image b r c.place l.0.at.place) at in (
        o.0,
        and_from _ _ (subst (λ o. serves_at c.place o ≡ true) (sym l.0.is_body) (and_from _ _ (not_from_false _ o.1) (not_from_false _ e)))
            (l.0.over.outer o.1),
      )

  pub interrupt_can_come : (v : ℕ) (below : List BodyContext) → AreLegal image known below → 32 ≤ v → v < 256 → open_to_interrupts below ≡ true
      → list_all (λ (c : BodyContext). outranks v c.service) below ≡ true
      → CanCome image below (interrupt_event v)
  interrupt_can_come v [] l lo hi on ranks = record {
    serves = λ n b q k. sym (ap class_of (is_irq_key b.key v (key_of n b q) lo hi k) ∙ class_of_irq v);
    over = λ n b q k side. over_task b side;
  }
  interrupt_can_come v (c ∷ below) l lo hi on ranks = record {
    serves = λ n b q k. sym (ap class_of (is_irq_key b.key v (key_of n b q) lo hi k) ∙ class_of_irq v);
    over = λ n b q k side. (let o = all_outer c below l on in
        over_body b c below l.0 side
        (may_start_irq l.0.body _ b.key v (is_irq_key b.key v (key_of n b q) lo hi k) o.0
        (subst (λ bs. list_all (λ (d : Body). is_below v d.key && not (is_nmi d.key)) bs ≡ true) (bodies_here c below l.0)
        (all_below v (c ∷ below) l o.1 ranks)))
        (λ i. o.1));
  }

  -- ---- exceptions

  may_start_bp : (b : Body) (below : List Body) (k : Key) → k ≡ Bp → has_item is_breakpoint b ≡ true → may_start k b below ≡ true
  unfolding may_start
  may_start_bp b below k e h = rw e h

  may_start_pf : (b : Body) (below : List Body) (k : Key) → k ≡ Pf → has_item is_user_access b ≡ true → may_start k b below ≡ true
  unfolding may_start
  may_start_pf b below k e h = rw e h

  pub breakpoint_can_come : (c : BodyContext) (below : List BodyContext) (l : IsLegalOn image known c below) → has_item is_breakpoint l.body ≡ true
      → CanCome image (c ∷ below) (software Int3 3 1)
  breakpoint_can_come c below l has = record {
    serves = λ n b q k. sym (ap class_of (is_bp_key b.key (key_of n b q) k) ∙ class_of_bp);
    over = λ n b q k side. (let key = is_bp_key b.key (key_of n b q) k in
        over_body b c below l side (may_start_bp l.body _ b.key key has) (λ i. absurd (let j = inner_bp b key side in cc)));
  }

  pub page_fault_can_come : (c : BodyContext) (below : List BodyContext) (l : IsLegalOn image known c below) (code a : ℕ)
      → has_item is_user_access l.body ≡ true → CanCome image (c ∷ below) (pf code a)
  page_fault_can_come c below l code a has = record {
    serves = λ n b q k. sym (ap class_of (is_pf_key b.key (key_of n b q) k) ∙ class_of_pf);
    over = λ n b q k side. (let key = is_pf_key b.key (key_of n b q) k in
        over_body b c below l side (may_start_pf l.body _ b.key key has) (λ i. absurd (let j = inner_pf b key side in cc)));
  }

  pub fault_can_come : (e : Event) → is_fault e ≡ true → CanCome image [] e
  unfolding is_fault
  fault_can_come e h =
      let front = and_parts (is_none (service_of e.kind e.vector) && (nat_lt (event_key e.kind e.vector) 32 || (event_key e.kind e.vector == 0x100)))
      (list_any (λ n. n == event_key e.kind e.vector) user_numbers) h in
      let p = and_parts (is_none (service_of e.kind e.vector)) _ front.0 in record {
        serves = λ n b q k. none (service_of e.kind e.vector) p.0 ∙ sym (fault_class b.key _ (key_of n b q) k p.1);
        over = λ n b q k side. over_task b side;
      }
    where
      none : (o : Option ℕ) → is_none o ≡ true → o ≡ None
      none None h = refl
      none (Some k) h = absurd (cc)
