-- Machines that differ in what no law reads, and the machine with another last context.
use Rattle.std.specs.Prelude.{◌≡◌, refl, ℕ, Bool, true, false, ◌==◌, ◌||◌, nat_le, nat_lt, if◌then◌else◌, List, [], ◌∷◌, ◌++◌, Some, slice_get}
use Rattle.std.specs.List.{list_all}
use Rattle.std.proofs.Common.{arith, ap, sym, ◌∙◌, subst}
use Rattle.std.proofs.lemmas.Bool.{and_parts, and_from, eqb-true, eq-eqb, leb-true, ltb-true, or_left, or_right}
use Rattle.ev_isa.specs.Word.{NatSet, NatMap, put_at}
use Rattle.ev_isa.specs.Pages.{Place, Page}
use Rattle.ev_body.specs.declared.key.Key.{Key}
use Rattle.ev_body.specs.declared.key.Key.TheVariants.{Nmi, Irq}
use Rattle.ev_body.specs.declared.image.Image.{Image}
use Rattle.ev_body.specs.declared.body.Body.{Body}
use Rattle.ev_body.specs.declared.item.Item.{Item}
use Rattle.ev_body.specs.declared.item.Item.TheVariants.{Send, Kick}
use Rattle.ev_body.specs.Bodies.{key_number, body_items}
use Rattle.ev_abstract.specs.Chain.{has_item}
use Rattle.ev_abstract.specs.Rules.{is_used, sends}
use Rattle.ev_abstract.specs.Script.{has_body_of}
use Rattle.ev_law.proofs.Lists.{any_at, any_weaker}
use Rattle.ev_body.specs.WellFormed.{is_sendable}
use Rattle.ev_abstract.specs.Context.{BodyContext, CallId}
use Rattle.ev_abstract.specs.Machine.{Processor, Machine, CallRecord, Taken, processor, with_processor}
use Rattle.ev_abstract.specs.CrossCall.{record_of, with_record, in_state, with_queue, queued, all_taken}
use Rattle.ev_abstract.specs.ItemMeaning.{replace_last, with_context, with_cell, with_page, mailed, with_mail}
use Rattle.ev_law.specs.Legal.{AreLegal, AreVectors, IsInterrupt, IsLegalProcessor, awaits_nmi, Legal, declares, knows}

all_grown : (f g : CallId → Bool) → ((k : CallId) → f k ≡ true → g k ≡ true) → (ks : List CallId) → list_all f ks ≡ true → list_all g ks ≡ true
all_grown f g h [] l = refl
all_grown f g h (k ∷ ks) l = let p = and_parts (f k) _ l in and_from _ _ (h k p.0) (all_grown f g h ks p.1)

module _ (image : Image) where
  -- ---- more calls are known

  pub legal_grown : (f g : CallId → Bool) → ((k : CallId) → f k ≡ true → g k ≡ true) → (cs : List BodyContext) → AreLegal image f cs
      → AreLegal image g cs
  legal_grown f g h [] l = tt
  legal_grown f g h (c ∷ cs) l =
      (record { body = l.0.body; is_body = l.0.is_body; at = l.0.at; over = l.0.over; calls = all_grown f g h c.calls l.0.calls }, legal_grown f g h cs l.1)

  processor_grown : (f g : CallId → Bool) → ((k : CallId) → f k ≡ true → g k ≡ true) → (x : Processor) → IsLegalProcessor image f x
      → IsLegalProcessor image g x
  processor_grown f g h x l = record {
    bodies = legal_grown f g h x.bodies (l.bodies);
    pending = l.pending;
    mail = l.mail;
    nmi = l.nmi;
    queue = all_grown f g h x.queue l.queue;
  }

  pub record Grows (m n : Machine) : Type 0 where
    pub known : (k : CallId) → knows image m k ≡ true → knows image n k ≡ true

  pub calls_grown : (m n : Machine) → Grows m n → (ks : List CallId) → list_all (knows image m) ks ≡ true → list_all (knows image n) ks ≡ true
  calls_grown m n g ks l = all_grown (knows image m) (knows image n) g.known ks l

  -- another processor p
  put_grown : (m : Machine) (p : ℕ) (x : Processor) → Grows m (with_processor m p x) → Legal image m → IsLegalProcessor image (knows image m) x
      → Legal image (with_processor m p x)
  put_grown m p x g h k = record {
    each = λ q. processor_grown (knows image m) (knows image (with_processor m p x)) g.known
        (processor (with_processor m p x) q) (pick q (q == p));
  }
    where
      pick : (q : ℕ) (b : Bool) → IsLegalProcessor image (knows image m) (elim b as (λ y. Processor) [ true ↦ x | false ↦ m.processors q ])
      pick q true = k
      pick q false = h.each q

  same_records : (m : Machine) (p : ℕ) (x : Processor) → x.records ≡ (processor m p).records → Grows m (with_processor m p x)
  same_records m p x e = record { known = λ k h. pick k (k.from == p) refl h }
    where
      pick : (k : CallId) (b : Bool) → k.from == p ≡ b → knows image m k ≡ true
          → declares image ((elim b as (λ y. Processor) [ true ↦ x | false ↦ m.processors k.from ]).records k.site).func ≡ true
      pick k true q h = subst (λ r. declares image (r k.site).func ≡ true) (ap (λ n. (m.processors n).records) (eqb-true k.from p q) ∙ sym e) h
      pick k false q h = h

  pub put_legal : (m : Machine) (p : ℕ) (x : Processor) → x.records ≡ (processor m p).records → Legal image m
      → IsLegalProcessor image (knows image m) x → Legal image (with_processor m p x)
  put_legal m p x e h k = put_grown m p x (same_records m p x e) h k

  -- the second machine is legal if the first one is, has the same bodies, and knows no fewer calls
  pub record Alike (m n : Machine) : Type 0 where
    pub legal : Legal image m → Legal image n
    pub bodies : (q : ℕ) → (processor n q).bodies ≡ (processor m q).bodies
    pub grows : Grows m n

  pub alike_self : (m : Machine) → Alike m m
  alike_self m = record { legal = λ h. h; bodies = λ q. refl; grows = record { known = λ k h. h } }

  pub alike_then : (a b c : Machine) → Alike a b → Alike b c → Alike a c
  alike_then a b c f g = record {
    legal = λ h. g.legal (f.legal h);
    bodies = λ q. g.bodies q ∙ f.bodies q;
    grows = record { known = λ k h. g.grows.known k (f.grows.known k h) };
  }

  put_bodies : (m : Machine) (p : ℕ) (x : Processor) → x.bodies ≡ (processor m p).bodies → (q : ℕ)
      → (processor (with_processor m p x) q).bodies ≡ (processor m q).bodies
  put_bodies m p x e q = pick (q == p) refl
    where
      pick : (b : Bool) → q == p ≡ b → (elim b as (λ y. Processor) [ true ↦ x | false ↦ m.processors q ]).bodies ≡ (m.processors q).bodies
      pick true h = e ∙ ap (λ n. (m.processors n).bodies) (sym (eqb-true q p h))
      pick false h = refl

  pub put_alike : (m : Machine) (p : ℕ) (x : Processor) → x.bodies ≡ (processor m p).bodies → x.pending ≡ (processor m p).pending
      → x.records ≡ (processor m p).records
      → (AreVectors image (processor m p).mail → AreVectors image x.mail) → (Legal image m → awaits_nmi x ≡ true → is_used image Nmi ≡ true)
      → (Legal image m → list_all (knows image m) x.queue ≡ true)
      → Alike m (with_processor m p x)
  put_alike m p x e f r g n q = record {
    legal = λ h. put_legal m p x r h (record {
      bodies = rw e ((h.each p).bodies);
      pending = rw f ((h.each p).pending);
      mail = g (h.each p).mail;
      nmi = n h;
      queue = q h;
    });
    bodies = put_bodies m p x e;
    grows = same_records m p x r;
  }

  pub alike_cell : (m : Machine) (k v : ℕ) → Alike m (with_cell m k v)
  alike_cell m k v = record { legal = λ h. record { each = h.each }; bodies = λ q. refl; grows = record { known = λ k h. h } }

  pub alike_words : (m : Machine) (words : NatMap ℕ) → Alike m (record m { words = words })
  alike_words m words = record { legal = λ h. record { each = h.each }; bodies = λ q. refl; grows = record { known = λ k h. h } }

  pub alike_page : (m : Machine) (place : Place) (b : Bool) → Alike m (with_page m place b)
  alike_page m (Page i) b = record { legal = λ h. record { each = h.each }; bodies = λ q. refl; grows = record { known = λ k h. h } }
  alike_page m _ b = alike_self m

  -- a call's record with a function that can run, if its old one could
  pub alike_record : (m : Machine) (k : CallId) (r : CallRecord) → (knows image m k ≡ true → declares image r.func ≡ true)
      → Alike m (with_record m k r)
  alike_record m k r d = record {
    legal = λ h. put_grown m k.from x grows h
        (record {
          bodies = (h.each k.from).bodies;
          pending = (h.each k.from).pending;
          mail = (h.each k.from).mail;
          nmi = (h.each k.from).nmi;
          queue = (h.each k.from).queue;
        });
    bodies = put_bodies m k.from x refl;
    grows = grows;
  }
    where
      x : Processor
      x = record (processor m k.from) { records = put_at (processor m k.from).records k.site r }

      site : (s : ℕ) (b : Bool) → s == k.site ≡ b → declares image ((m.processors k.from).records s).func ≡ true
          → declares image (elim b as (λ y. CallRecord) [ true ↦ r | false ↦ (m.processors k.from).records s ]).func ≡ true
      site s true q h = d (subst (λ s. declares image ((m.processors k.from).records s).func ≡ true) (eqb-true s k.site q) h)
      site s false q h = h

      pick : (j : CallId) (b : Bool) → j.from == k.from ≡ b → knows image m j ≡ true
          → declares image ((elim b as (λ y. Processor) [
            | true ↦ record (processor m k.from) { records = put_at (processor m k.from).records k.site r }
            | false ↦ m.processors j.from
          ]).records j.site).func ≡ true
      pick j true q h =
          site j.site (j.site == k.site) refl (subst (λ n. declares image ((m.processors n).records j.site).func ≡ true) (eqb-true j.from k.from q) h)
      pick j false q h = h

      grows : Grows m (with_record m k r)
      grows = record { known = λ j h. pick j (j.from == k.from) refl h }

  pub alike_queue : (m : Machine) (p : ℕ) (queue : List CallId) → (Legal image m → list_all (knows image m) queue ≡ true)
      → Alike m (with_queue m p queue)
  alike_queue m p queue q = put_alike m p (record (processor m p) { queue = queue }) refl refl refl (λ v. v) (λ h. (h.each p).nmi) q

  known_then : (m : Machine) (k : CallId) (r : CallRecord) → declares image r.func ≡ true → knows image (with_record m k r) k ≡ true
  known_then m k r d = pick (k.from == k.from) refl
    where
      site : (b : Bool) → k.site == k.site ≡ b
          → declares image (elim b as (λ y. CallRecord) [ true ↦ r | false ↦ (m.processors k.from).records k.site ]).func ≡ true
      site true q = d
      site false q = absurd (let z = eq-eqb k.site k.site refl in cc)

      pick : (b : Bool) → k.from == k.from ≡ b
          → declares image ((elim b as (λ y. Processor) [
            | true ↦ record (processor m k.from) { records = put_at (processor m k.from).records k.site r }
            | false ↦ m.processors k.from
          ]).records k.site).func ≡ true
      pick true q = site (k.site == k.site) refl
      pick false q = absurd (let z = eq-eqb k.from k.from refl in cc)

  all_push : (f : CallId → Bool) (ks : List CallId) (k : CallId) → list_all f ks ≡ true → f k ≡ true → list_all f (ks ++ k ∷ []) ≡ true
  all_push f [] k h e = and_from _ _ e refl
  all_push f (j ∷ ks) k h e = let p = and_parts (f j) _ h in and_from _ _ p.0 (all_push f ks k p.1 e)

  pub alike_queued : (m : Machine) (k : CallId) (r : CallRecord) → declares image r.func ≡ true → Alike m (queued m k r)
  alike_queued m k r d = let n : Machine = with_record m k r in alike_then m n (queued m k r) (alike_record m k r (λ h. d))
      (alike_queue n r.to ((processor n r.to).queue ++ k ∷ []) (λ h. all_push (knows image n) (processor n r.to).queue k (h.each r.to).queue
      (known_then m k r d)))

  pub alike_taken : (m : Machine) (ks : List CallId) → Alike m (all_taken m ks)
  alike_taken m [] = alike_self m
  alike_taken m (k ∷ ks) = let n : Machine = with_record m k (in_state (record_of m k) Taken) in
      alike_then m n (all_taken n ks) (alike_record m k (in_state (record_of m k) Taken) (λ h. h)) (alike_taken n ks)

  -- ---- vectors

  pub put_vector : (s : NatSet) (v : ℕ) (t : Bool) → (t ≡ true → IsInterrupt image v) → AreVectors image s → AreVectors image (put_at s v t)
  put_vector s v t h k = record { each = λ w. pick w (w == v) refl }
    where
      pick : (w : ℕ) (b : Bool) → w == v ≡ b → (elim b as (λ y. Bool) [ true ↦ t | false ↦ s w ]) ≡ true → IsInterrupt image w
      pick w true q e = let same : w ≡ v = eqb-true w v q in subst (IsInterrupt image) (sym same) (h e)
      pick w false q e = k.each w e

  pub sendable_interrupt : (v : ℕ) → is_sendable (Irq v) ≡ true → is_used image (Irq v) ≡ true → IsInterrupt image v
  sendable_interrupt v h u =
      let p = and_parts (nat_le 0x20 v) (nat_lt v 0x100) h in record { from = leb-true 0x20 v p.0; to = ltb-true v 0x100 p.1; used = u }

  mailed_vectors : (x : Processor) (key : Key) → is_sendable key ≡ true → is_used image key ≡ true → AreVectors image x.mail
      → AreVectors image (mailed x key).mail
  unfolding key_number
  mailed_vectors x Nmi h u k = k
  mailed_vectors x (Irq v) h u k = put_vector x.mail v true (λ e. sendable_interrupt v h u) k
  mailed_vectors x _ h u k = absurd (cc)

  mailed_nmi : (x : Processor) (key : Key) → is_used image key ≡ true → (awaits_nmi x ≡ true → is_used image Nmi ≡ true)
      → awaits_nmi (mailed x key) ≡ true → is_used image Nmi ≡ true
  mailed_nmi x Nmi u k e = u
  mailed_nmi x _ u k e = k e

  pub mailed_same : (x : Processor) (key : Key)
      → ((mailed x key).bodies ≡ x.bodies) × ((mailed x key).pending ≡ x.pending) × ((mailed x key).records ≡ x.records) × ((mailed x key).queue ≡ x.queue)
  mailed_same x Nmi = (refl, refl, refl, refl)
  mailed_same x _ = (refl, refl, refl, refl)

  pub alike_mail : (m : Machine) (to : ℕ) (key : Key) → is_sendable key ≡ true → is_used image key ≡ true → Alike m (with_mail m to key)
  alike_mail m to key h u =
      let s = mailed_same (processor m to) key in put_alike m to (mailed (processor m to) key) s.0 s.1 s.2 (mailed_vectors (processor m to) key h u)
      (λ l. mailed_nmi (processor m to) key u (l.each to).nmi)
      (λ l. subst (λ ks. list_all (knows image m) ks ≡ true) (sym s.3) (l.each to).queue)

  pub alike_kick : (m : Machine) (to : ℕ) (b : Bool) → is_used image (Irq 0xfb) ≡ true → Alike m (if b then with_mail m to (Irq 0xfb) else m)
  alike_kick m to true u = alike_mail m to (Irq 0xfb) refl u
  alike_kick m to false u = alike_self m

  -- what a body has or sends is used
  pub used_by_body : (key : Key) → has_body_of image key ≡ true → is_used image key ≡ true
  used_by_body key h =
      any_weaker (λ (b : Body). key_number b.key == key_number key) (λ (b : Body). (key_number b.key == key_number key) || has_item (sends key) b)
      image.bodies
      (λ b e. or_left (key_number b.key == key_number key) (has_item (sends key) b) e) h

  pub used_by_item : (key : Key) (n i : ℕ) (b : Body) (item : Item) → slice_get image.bodies n ≡ Some b → slice_get (body_items b) i ≡ Some item
      → sends key item ≡ true → is_used image key ≡ true
  used_by_item key n i b item f e s =
      any_at (λ (c : Body). (key_number c.key == key_number key) || has_item (sends key) c) image.bodies n b f
      (or_right (key_number b.key == key_number key) (has_item (sends key) b) (any_at (sends key) (body_items b) i item e s))

  pub send_sends : (to : ℕ) (key : Key) → sends key (Send to key) ≡ true
  unfolding sends
  send_sends to key = eq-eqb (key_number key) (key_number key) refl

  pub kick_sends : (to s : ℕ) → sends (Irq 0xfb) (Kick to s) ≡ true
  unfolding sends key_number
  kick_sends to s = refl

  -- ---- another last context

  pub moved : (m : Machine) (p : ℕ) (c d : BodyContext) (below : List BodyContext) → Legal image m → (processor m p).bodies ≡ c ∷ below
      → AreLegal image (knows image m) (d ∷ below) → Legal image (with_context m p d)
  moved m p c d below h e k = put_legal m p (record (processor m p) { bodies = replace_last d (processor m p).bodies }) refl h
      (record {
        bodies = subst (λ bs. AreLegal image (knows image m) (replace_last d bs)) (sym e) k;
        pending = (h.each p).pending;
        mail = (h.each p).mail;
        nmi = (h.each p).nmi;
        queue = (h.each p).queue;
      })

  pub moved_bodies : (m : Machine) (p : ℕ) (c d : BodyContext) (below : List BodyContext) → (processor m p).bodies ≡ c ∷ below
      → (processor (with_context m p d) p).bodies ≡ d ∷ below
  moved_bodies m p c d below e = pick (p == p) refl
    where
      pick : (b : Bool) → p == p ≡ b
          → (elim b as (λ y. Processor) [ true ↦ record (processor m p) { bodies = replace_last d (processor m p).bodies } | false ↦ m.processors p ]).bodies
          ≡ d ∷ below
      pick true q = ap (replace_last d) e
      pick false q = absurd (grind arith)
