-- The interrupt that comes next: the local APIC's, and the abstract machine's choice.
use Rattle.std.proofs.Common.{◌≡◌, ℕ, zero, suc, ◌+◌, ◌/◌, ◌<◌, ◌≤◌, Bool, true, false, ◌&&◌, ◌||◌, List, [], ◌∷◌, Option, Some, None, refl, sym, ap, ◌∙◌, arith, ⊎_elim, ◌⊎◌, inl, inr, subst}
use Rattle.std.specs.Prelude.{◌==◌, nat_lt, max}
use Rattle.std.specs.List.{list_any, list_all}
use Rattle.std.proofs.lemmas.Bool.{ltb-true, ltb-false, lt-ltb, le-ltb, eq-eqb, eqb-true, eqb-false, ne_eqb}
use Rattle.ev_isa.specs.Word.{NatSet, put_at, greatest_below, numbers_from}
use Rattle.ev_symbolic.proofs.Values.{and_left, and_right}
use Rattle.ev_apic.specs.declared.apic.Apic.{Apic}
use Rattle.ev_apic.specs.Apic.{begun, ended, without, class_of, priority_class, next_vector}
use Rattle.ev_apic.specs.Vectors.{vectors_of, IsGreatestBelow}
use Rattle.ev_apic.proofs.Greatest.{greatest_law}
use Rattle.ev_apic.proofs.Laws.{puts}
use Rattle.std.proofs.lemmas.Bool.Decides.{eqb_tells}
use Rattle.ev_relation.proofs.Maps.{at_same, at_other}
use Rattle.ev_abstract.specs.Boundary.{outranks, deliverable}
use Rattle.ev_abstract.specs.Context.{BodyContext}
use Rattle.ev_abstract.specs.Machine as abstract
use Rattle.ev_isa.specs.declared.mode.Mode.{Mode}
use Rattle.ev_body.specs.declared.image.Image.{Image}
use Rattle.ev_relation.specs.Relation.{ApicIs, serves}
use Rattle.ev_law.specs.Laws.{is_lower}

-- ---- sets and lists

same_greatest : (n : ℕ) (s t : NatSet) → ((v : ℕ) → v < n → s v ≡ t v) → greatest_below n s ≡ greatest_below n t
same_greatest zero s t h = refl
same_greatest (suc n) s t h = ap (λ b. elim b [ true ↦ Some n | false ↦ greatest_below n s ]) (h n (omega arith))
    ∙ ap (λ o. elim (t n) [ true ↦ Some n | false ↦ o ]) (same_greatest n s t (λ v lt. h v (omega arith)))

-- a number that passes a test
any_number : (test : ℕ → Bool) (n a v : ℕ) → a ≤ v → v < a + n → test v ≡ true → list_any test (numbers_from a n) ≡ true
any_number test zero a v l m h = let z : ⊥ = omega arith in absurd z
any_number test (suc n) a v l m h = pick (v == a) refl (λ k. any_number test n (suc a) v k (omega arith) h)
  where
    or_later : (x y : Bool) → y ≡ true → (x || y) ≡ true
    or_later true y e = refl
    or_later false y e = e

    pick : (b : Bool) → (v == a) ≡ b → (suc a ≤ v → list_any test (numbers_from (suc a) n) ≡ true)
        → (test a || list_any test (numbers_from (suc a) n)) ≡ true
    pick true e later = ap (λ b. b || list_any test (numbers_from (suc a) n)) (sym (ap test (eqb-true v a e)) ∙ h)
    pick false e later = or_later (test a) _ (later (let d = eqb-false v a e in omega arith))

-- and the number that one does
number_of_any : (test : ℕ → Bool) (n a : ℕ) → list_any test (numbers_from a n) ≡ true → (v : ℕ) × (v < a + n) × (test v ≡ true)
number_of_any test zero a h = absurd (cc)
number_of_any test (suc n) a h = pick (test a) refl (λ k. number_of_any test n (suc a) k)
  where
    pick : (b : Bool) → test a ≡ b → (list_any test (numbers_from (suc a) n) ≡ true → (v : ℕ) × (v < suc a + n) × (test v ≡ true))
        → (v : ℕ) × (v < a + suc n) × (test v ≡ true)
    pick true q later = (a, (let z : a < a + suc n = omega arith in z), q)
    pick false q later =
        let r = later (sym (ap (λ b. b || list_any test (numbers_from (suc a) n)) q) ∙ h) in
        let l = r.1 in (r.0, (let z : r.0 < a + suc n = omega arith in z), r.2)

module _ (mode : Mode) (image : Image) where
  abbrev has : ℕ → BodyContext → Bool
  has class b = serves mode image class b.service

  -- a vector that outranks each context outranks each class that one has in service
  outranks_each : (v class : ℕ) (bs : List BodyContext) → list_all (λ (b : BodyContext). outranks v b.service) bs ≡ true → list_any (has class) bs ≡ true
      → class < v / 16
  outranks_each v class [] all any = absurd (cc)
  outranks_each v class (b ∷ bs) all any = pick b.service refl (outranks_each v class bs (and_right (outranks v b.service) _ all))
    where
      pick : (o : Option ℕ) → b.service ≡ o → (list_any (has class) bs ≡ true → class < v / 16) → class < v / 16
      pick None q later = later (sym (ap (λ o. serves mode image class o || list_any (has class) bs) q) ∙ any)
      pick (Some k) q later = here (k == class) refl
        where
          here : (t : Bool) → (k == class) ≡ t → class < v / 16
          here true e =
              let l : k < v / 16 = ltb-true k (v / 16) (sym (ap (outranks v) q) ∙ and_left (outranks v b.service) _ all) in
              let same : k ≡ class = eqb-true k class e in omega arith
          here false e =
              later (sym (ap (λ o. serves mode image class o || list_any (has class) bs) q ∙ ap (λ t. t || list_any (has class) bs) e) ∙ any)

  -- a class that a context has in service, and the vector doesn't outrank
  pub record Served (v : ℕ) (bs : List BodyContext) : Type 0 where
    pub class : ℕ
    pub high : v / 16 ≤ class
    pub has_it : list_any (has class) bs ≡ true

  -- where it doesn't outrank all of them, there is one
  outranked : (v : ℕ) (bs : List BodyContext) → list_all (λ (b : BodyContext). outranks v b.service) bs ≡ false → Served v bs
  outranked v [] all = absurd (cc)
  outranked v (b ∷ bs) all = pick b.service refl (outranked v bs)
    where
      or_right : (x y : Bool) → y ≡ true → (x || y) ≡ true
      or_right true y h = refl
      or_right false y h = h

      beyond : outranks v b.service ≡ true → (list_all (λ (b : BodyContext). outranks v b.service) bs ≡ false → Served v bs) → Served v (b ∷ bs)
      beyond h later =
          let r = later (sym (ap (λ t. t && list_all (λ (b : BodyContext). outranks v b.service) bs) h) ∙ all) in record {
            class = r.class;
            high = r.high;
            has_it = or_right (has r.class b) (list_any (has r.class) bs) r.has_it;
          }

      pick : (o : Option ℕ) → b.service ≡ o → (list_all (λ (b : BodyContext). outranks v b.service) bs ≡ false → Served v bs) → Served v (b ∷ bs)
      pick None q later = beyond (ap (outranks v) q) later
      pick (Some k) q later = here (nat_lt k (v / 16)) refl
        where
          here : (t : Bool) → nat_lt k (v / 16) ≡ t → Served v (b ∷ bs)
          here true e = beyond (ap (outranks v) q ∙ e) later
          here false e = record {
            class = k;
            high = ltb-false k (v / 16) e;
            has_it = ap (λ o. serves mode image k o || list_any (has k) bs) q ∙ ap (λ t. t || list_any (has k) bs) (eq-eqb k k refl);
          }

  -- ---- the next vector

  -- The APIC of a processor delivers next what the abstract machine does, where each vector that is pending is an interrupt's.
  module _ (a : Apic) (x : abstract.Processor) (is : ApicIs mode image a x.pending x.bodies) (interrupts : (v : ℕ) → x.pending v ≡ true → 32 ≤ v) where
    all_outranked : ℕ → Bool
    all_outranked v = list_all (λ (b : BodyContext). outranks v b.service) x.bodies

    priority : priority_class a ≡ class_of (greatest_below 256 (vectors_of a.isr))
    priority = ap (λ n. max (n / 16) (class_of (greatest_below 256 (vectors_of a.isr)))) is.tpr ∙ lowest (class_of (greatest_below 256 (vectors_of a.isr)))
      where
        lowest : (n : ℕ) → max (0 / 16) n ≡ n
        lowest n = omega arith

    -- the class of the greatest vector in service decides
    by_greatest : (o : Option ℕ) → IsGreatestBelow 256 (vectors_of a.isr) o → (v : ℕ) → 32 ≤ v → nat_lt (class_of o) (v / 16) ≡ all_outranked v
    unfolding all_outranked
    by_greatest None none v big = lt-ltb 0 (v / 16) (let z : 0 < v / 16 = omega arith in z) ∙ sym (pick (all_outranked v) refl)
      where
        pick : (t : Bool) → all_outranked v ≡ t → all_outranked v ≡ true
        pick true q = q
        pick false q =
            let r = outranked v x.bodies q in
            let u = number_of_any (λ v. vectors_of a.isr v && (v / 16 == r.class)) 256 0 (is.service r.class ∙ r.has_it) in
            let clash : true ≡ false = sym (and_left (vectors_of a.isr u.0) _ u.2) ∙ none u.0 u.1 in absurd (cc)
    by_greatest (Some g) top v big = pick (all_outranked v) refl
      where
        pick : (t : Bool) → all_outranked v ≡ t → nat_lt (g / 16) (v / 16) ≡ all_outranked v
        pick true q = lt-ltb (g / 16) (v / 16) (outranks_each v (g / 16) x.bodies q (sym (is.service (g / 16))
            ∙ any_number (λ v. vectors_of a.isr v && (v / 16 == g / 16)) 256 0 g (omega arith) top.0
            (ap (λ t. t && (g / 16 == g / 16)) top.1 ∙ eq-eqb (g / 16) (g / 16) refl))) ∙ sym q
        pick false q =
            let r = outranked v x.bodies q in
            let u = number_of_any (λ v. vectors_of a.isr v && (v / 16 == r.class)) 256 0 (is.service r.class ∙ r.has_it) in
            let held : vectors_of a.isr u.0 ≡ true = and_left (vectors_of a.isr u.0) _ u.2 in
            let class : u.0 / 16 ≡ r.class = eqb-true (u.0 / 16) r.class (and_right (vectors_of a.isr u.0) _ u.2) in
            let below : u.0 ≤ g = under u.0 u.1 held (nat_lt g u.0) refl in
            let high = r.high in
            le-ltb (g / 16) (v / 16) (let z : v / 16 ≤ g / 16 = omega arith in z) ∙ sym q
          where
            under : (u : ℕ) → u < 256 → vectors_of a.isr u ≡ true → (t : Bool) → nat_lt g u ≡ t → u ≤ g
            under u lt h true e = let clash : true ≡ false = sym h ∙ top.2 u (ltb-true g u e) lt in absurd (cc)
            under u lt h false e = ltb-false g u e

    pub next_is : next_vector a ≡ greatest_below 256 (deliverable x)
    unfolding next_vector all_outranked
    next_is = same_greatest 256 _ _ (λ v lt. by_pending v lt (x.pending v) refl)
      where
        by_pending : (v : ℕ) → v < 256 → (t : Bool) → x.pending v ≡ t → (vectors_of a.irr v && nat_lt (priority_class a) (v / 16)) ≡ deliverable x v
        by_pending v lt true q =
            ap (λ t. t && nat_lt (priority_class a) (v / 16)) (is.pending v lt ∙ q)
            ∙ ap (λ n. nat_lt n (v / 16)) priority
            ∙ by_greatest (greatest_below 256 (vectors_of a.isr)) (greatest_law 256 (vectors_of a.isr)) v (interrupts v q)
            ∙ sym (ap (λ t. t && all_outranked v) q)
        by_pending v lt false q = ap (λ t. t && nat_lt (priority_class a) (v / 16)) (is.pending v lt ∙ q) ∙ sym (ap (λ t. t && all_outranked v) q)

  -- ---- a vector that begins

  -- a set with one number more, under a test
  or_left : (x y : Bool) → x ≡ true → (x || y) ≡ true
  or_left true y h = refl
  or_left false y h = absurd (cc)

  or_right : (x y : Bool) → y ≡ true → (x || y) ≡ true
  or_right true y h = refl
  or_right false y h = h

  alike : (x y : Bool) → (x ≡ true → y ≡ true) → (y ≡ true → x ≡ true) → x ≡ y
  alike true y f g = sym (f refl)
  alike false true f g = g refl
  alike false false f g = refl

  any_more : (s : NatSet) (test : ℕ → Bool) (v : ℕ) → v < 256
      → list_any (λ u. put_at s v true u && test u) (numbers_from 0 256) ≡ (test v || list_any (λ u. s u && test u) (numbers_from 0 256))
  any_more s test v lt = alike _ _ (λ h. from (number_of_any (λ u. put_at s v true u && test u) 256 0 h)) to
    where
      from : (u : ℕ) × (u < 0 + 256) × ((put_at s v true u && test u) ≡ true) → (test v || list_any (λ u. s u && test u) (numbers_from 0 256)) ≡ true
      from u = ⊎_elim (λ e. or_left (test v) _ (sym (ap test e.1) ∙ and_right (put_at s v true u.0) (test u.0) u.2))
          (λ e. or_right (test v) _ (any_number (λ u. s u && test u) 256 0 u.0 (omega arith) u.1
          (sym (ap (λ b. b && test u.0) (at_other s v u.0 true e.0)) ∙ u.2))) (eqb_tells u.0 v)

      there : (u : ℕ) × (u < 0 + 256) × ((s u && test u) ≡ true) → list_any (λ u. put_at s v true u && test u) (numbers_from 0 256) ≡ true
      there u = any_number (λ u. put_at s v true u && test u) 256 0 u.0 (omega arith) u.1
          (ap (λ b. b && test u.0) (⊎_elim (λ e. at_same s v u.0 true e.1) (λ e. at_other s v u.0 true e.0 ∙ and_left (s u.0) (test u.0) u.2)
          (eqb_tells u.0 v)) ∙ and_right (s u.0) (test u.0) u.2)

      to : (test v || list_any (λ u. s u && test u) (numbers_from 0 256)) ≡ true → list_any (λ u. put_at s v true u && test u) (numbers_from 0 256) ≡ true
      to h = pick (test v) refl
        where
          pick : (t : Bool) → test v ≡ t → list_any (λ u. put_at s v true u && test u) (numbers_from 0 256) ≡ true
          pick true q = any_number (λ u. put_at s v true u && test u) 256 0 v (omega arith) lt (ap (λ b. b && test v) (at_same s v v true refl) ∙ q)
          pick false q = there (number_of_any (λ u. s u && test u) 256 0 (sym (ap (λ b. b || list_any (λ u. s u && test u) (numbers_from 0 256)) q) ∙ h))

  same_any : (f g : ℕ → Bool) (xs : List ℕ) → ((u : ℕ) → f u ≡ g u) → list_any f xs ≡ list_any g xs
  same_any f g [] h = refl
  same_any f g (x ∷ xs) h = ap (λ b. b || list_any f xs) (h x) ∙ ap (λ b. g x || b) (same_any f g xs h)

  -- The vector is no longer pending, and a context has its class in service.
  pub begun_is : (a : Apic) (set : NatSet) (bs : List BodyContext) (v : ℕ) (b : BodyContext) → ApicIs mode image a set bs → v < 256 → b.service ≡ Some (v / 16)
      → list_all (λ (d : BodyContext). outranks v d.service) bs ≡ true
      → ApicIs mode image (begun a v) (put_at set v false) (b ∷ bs)
  begun_is a set bs v b is lt hb above =
      let out = puts a.irr v false is.irr.four is.irr.small lt in
      let in' = puts a.isr v true is.isr.four is.isr.small lt in record {
        tpr = is.tpr;
        irr = record { four = out.1; small = out.2 };
        isr = record { four = in'.1; small = in'.2 };
        pending = λ u l. out.0 u ∙ ⊎_elim (λ e. at_same (vectors_of a.irr) v u false e.1 ∙ sym (at_same set v u false e.1))
            (λ e. at_other (vectors_of a.irr) v u false e.0 ∙ is.pending u l ∙ sym (at_other set v u false e.0)) (eqb_tells u v);
        service = λ class.
            same_any _ _ (numbers_from 0 256) (λ u. ap (λ b. b && (u / 16 == class)) (in'.0 u))
            ∙ any_more (vectors_of a.isr) (λ u. u / 16 == class) v lt
            ∙ ap (λ t. (v / 16 == class) || t) (is.service class)
            ∙ sym (ap (λ o. serves mode image class o || list_any (has class) bs) hb);
        single = λ u w lu lw hu hw e. ⊎_elim
            (λ q. ⊎_elim (λ r. q.1 ∙ sym r.1)
            (λ r. let low = lower w lw (sym (at_other (vectors_of a.isr) v w true r.0) ∙ sym (in'.0 w) ∙ hw) in let same = q.1 in absurd (omega arith))
            (eqb_tells w v))
            (λ q. let held = sym (at_other (vectors_of a.isr) v u true q.0) ∙ sym (in'.0 u) ∙ hu in ⊎_elim
            (λ r. let low = lower u lu held in let same = r.1 in absurd (omega arith))
            (λ r. is.single u w lu lw held (sym (at_other (vectors_of a.isr) v w true r.0) ∙ sym (in'.0 w) ∙ hw) e) (eqb_tells w v))
            (eqb_tells u v);
      }
    where
      -- the classes in service are below that of the vector
      lower : (u : ℕ) → u < 256 → vectors_of a.isr u ≡ true → u / 16 < v / 16
      lower u lu h = outranks_each v (u / 16) bs above (sym (is.service (u / 16))
          ∙ any_number (λ w. vectors_of a.isr w && (w / 16 == u / 16)) 256 0 u (omega arith) lu
          (ap (λ t. t && (u / 16 == u / 16)) h ∙ eq-eqb (u / 16) (u / 16) refl))

  -- ---- the end of an interrupt

  -- where all classes are lower, each is
  pub lower_each : (k class : ℕ) (bs : List BodyContext) → list_all (is_lower k) bs ≡ true → list_any (has class) bs ≡ true → class < k
  lower_each k class [] all any = absurd (cc)
  lower_each k class (b ∷ bs) all any = pick b.service refl (lower_each k class bs (and_right (is_lower k b) _ all))
    where
      lower_of : (o : Option ℕ) → b.service ≡ o → is_lower k (record b { service = o }) ≡ true
      lower_of o q = subst (λ o. is_lower k (record b { service = o }) ≡ true) q (and_left (is_lower k b) _ all)

      pick : (o : Option ℕ) → b.service ≡ o → (list_any (has class) bs ≡ true → class < k) → class < k
      pick None q later = later (sym (ap (λ o. serves mode image class o || list_any (has class) bs) q) ∙ any)
      pick (Some j) q later = here (j == class) refl
        where
          here : (t : Bool) → (j == class) ≡ t → class < k
          here true e =
              let l : j < k = ltb-true j k (lower_of (Some j) q) in
              let same : j ≡ class = eqb-true j class e in omega arith
          here false e =
              later (sym (ap (λ o. serves mode image class o || list_any (has class) bs) q ∙ ap (λ t. t || list_any (has class) bs) e) ∙ any)

  -- The last context's class, which is above those of the others, is no longer in service.
  pub ended_is : (a : Apic) (set : NatSet) (b d : BodyContext) (bs : List BodyContext) (k : ℕ) → ApicIs mode image a set (b ∷ bs) → b.service ≡ Some k
      → d.service ≡ None → ((class : ℕ) → list_any (has class) bs ≡ true → class < k) → ApicIs mode image (ended a) set (d ∷ bs)
  ended_is a set b d bs k is hb hd above = by_greatest_of (greatest_below 256 (vectors_of a.isr)) (greatest_law 256 (vectors_of a.isr))
    where
      -- a vector of a class in service
      of_class : (class : ℕ) → list_any (has class) (b ∷ bs) ≡ true → (u : ℕ) × (u < 0 + 256) × ((vectors_of a.isr u && (u / 16 == class)) ≡ true)
      of_class class h = number_of_any (λ u. vectors_of a.isr u && (u / 16 == class)) 256 0 (is.service class ∙ h)

      served_by : (class : ℕ) → list_any (has class) (b ∷ bs) ≡ ((k == class) || list_any (has class) bs)
      served_by class = ap (λ o. serves mode image class o || list_any (has class) bs) hb

      own : (u : ℕ) × (u < 0 + 256) × ((vectors_of a.isr u && (u / 16 == k)) ≡ true)
      own = of_class k (served_by k ∙ ap (λ t. t || list_any (has k) bs) (eq-eqb k k refl))

      -- a vector in service has that class or a lower one
      no_higher : (u : ℕ) → u < 256 → vectors_of a.isr u ≡ true → (u / 16 ≡ k) ⊎ (list_any (has (u / 16)) bs ≡ true)
      no_higher u lu h = pick (k == u / 16) refl (sym (served_by (u / 16)) ∙ sym (is.service (u / 16))
          ∙ any_number (λ w. vectors_of a.isr w && (w / 16 == u / 16)) 256 0 u (omega arith) lu
          (ap (λ t. t && (u / 16 == u / 16)) h ∙ eq-eqb (u / 16) (u / 16) refl))
        where
          pick : (t : Bool) → (k == u / 16) ≡ t → ((k == u / 16) || list_any (has (u / 16)) bs) ≡ true → (u / 16 ≡ k) ⊎ (list_any (has (u / 16)) bs ≡ true)
          pick true q e = inl (sym (eqb-true k (u / 16) q))
          pick false q e = inr (sym (ap (λ t. t || list_any (has (u / 16)) bs) q) ∙ e)

      by_greatest_of : (o : Option ℕ) → IsGreatestBelow 256 (vectors_of a.isr) o → ApicIs mode image (record a { isr = without a.isr o }) set (d ∷ bs)
      by_greatest_of None top =
          let clash : true ≡ false = sym (and_left (vectors_of a.isr own.0) _ own.2) ∙ top own.0 own.1 in absurd (cc)
      by_greatest_of (Some g) top =
          let put = puts a.isr g false is.isr.four is.isr.small top.0 in record {
            tpr = is.tpr;
            irr = is.irr;
            isr = record { four = put.1; small = put.2 };
            pending = is.pending;
            service = λ class.
                same_any _ _ (numbers_from 0 256) (λ u. ap (λ t. t && (u / 16 == class)) (put.0 u))
                ∙ alike _ _ (λ h. left class (number_of_any (λ u. put_at (vectors_of a.isr) g false u && (u / 16 == class)) 256 0 h)) (right class)
                ∙ sym (ap (λ o. serves mode image class o || list_any (has class) bs) hd);
            single = λ u w lu lw hu hw e. is.single u w lu lw (was u (sym (put.0 u) ∙ hu)).0 (was w (sym (put.0 w) ∙ hw)).0 e;
          }
        where
          -- what is left was in service, and isn't the greatest
          was : (u : ℕ) → put_at (vectors_of a.isr) g false u ≡ true → (vectors_of a.isr u ≡ true) × (u ≡ g → ⊥)
          was u h = ⊎_elim (λ e. let clash : false ≡ true = sym (at_same (vectors_of a.isr) g u false e.1) ∙ h in absurd (cc))
              (λ e. (sym (at_other (vectors_of a.isr) g u false e.0) ∙ h, e.1)) (eqb_tells u g)

          -- the greatest has class k
          class_of_top : g / 16 ≡ k
          class_of_top =
              let held : vectors_of a.isr own.0 ≡ true = and_left (vectors_of a.isr own.0) _ own.2 in
              let class : own.0 / 16 ≡ k = eqb-true (own.0 / 16) k (and_right (vectors_of a.isr own.0) _ own.2) in
              let below : own.0 ≤ g = under own.0 own.1 held (nat_lt g own.0) refl in
              ⊎_elim (λ e. e) (λ e. let low = above (g / 16) e in absurd (omega arith)) (no_higher g top.0 top.1)
            where
              under : (u : ℕ) → u < 256 → vectors_of a.isr u ≡ true → (t : Bool) → nat_lt g u ≡ t → u ≤ g
              under u lt h true e = let clash : true ≡ false = sym h ∙ top.2 u (ltb-true g u e) lt in absurd (cc)
              under u lt h false e = ltb-false g u e

          left : (class : ℕ) → (u : ℕ) × (u < 0 + 256) × ((put_at (vectors_of a.isr) g false u && (u / 16 == class)) ≡ true) → list_any (has class) bs ≡ true
          left class u =
              let w = was u.0 (and_left (put_at (vectors_of a.isr) g false u.0) _ u.2) in
              let c : u.0 / 16 ≡ class = eqb-true (u.0 / 16) class (and_right (put_at (vectors_of a.isr) g false u.0) _ u.2) in
              ⊎_elim (λ e. absurd (w.1 (is.single u.0 g u.1 top.0 w.0 top.1 (e ∙ sym class_of_top)))) (λ e. subst (λ n. list_any (has n) bs ≡ true) c e)
              (no_higher u.0 u.1 w.0)

          right : (class : ℕ) → list_any (has class) bs ≡ true
              → list_any (λ u. put_at (vectors_of a.isr) g false u && (u / 16 == class)) (numbers_from 0 256) ≡ true
          right class h =
              let u = of_class class (or_right (has class b) (list_any (has class) bs) h) in
              let low = above class h in
              let c : u.0 / 16 ≡ class = eqb-true (u.0 / 16) class (and_right (vectors_of a.isr u.0) _ u.2) in
              let top_class = class_of_top in
              any_number (λ u. put_at (vectors_of a.isr) g false u && (u / 16 == class)) 256 0 u.0 (omega arith) u.1
              (ap (λ t. t && (u.0 / 16 == class)) (at_other (vectors_of a.isr) g u.0 false (ne_eqb u.0 g (λ e. let z : ⊥ = omega arith in z))) ∙ u.2)
