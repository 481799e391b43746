-- What a step's act leaves of a system.
use Rattle.std.proofs.Common.{◌≡◌, ℕ, zero, suc, ◌+◌, ◌<◌, ◌≤◌, Bool, true, false, not, List, [], ◌∷◌, set, length, Some, None, ap, refl, sym, ◌∙◌, subst, arith, ⊎_elim}
use Rattle.std.specs.Prelude.{◌==◌, if◌then◌else◌, slice_get}
use Rattle.std.specs.List.{filter}
use Rattle.std.proofs.lemmas.Bool.{eq-eqb}
use Rattle.std.proofs.lemmas.Bool.Decides.{eqb_tells, leb_tells}
use Rattle.ev_isa.specs.Word.{NatMap, put_at, numbers_from}
use Rattle.ev_apic.specs.Inbox.{mailed}
use Rattle.ev_apic.specs.declared.send.SendKey.{SendKey}
use Rattle.ev_apic.specs.declared.send.Target.{Target}
use Rattle.ev_apic.specs.declared.send.Target.TheVariants.{One, Myself, All, Others}
use Rattle.ev_trace.specs.FrameText.{Totals}
use Rattle.ev_proc.specs.declared.stepped.Stepped.{Stepped}
use Rattle.ev_concrete.specs.ConcreteRun.{System, acted, posted, targets, lower}
use Rattle.ev_concrete.specs.Depth.{bodies_on}
use Rattle.ev_relation.proofs.Standing.{posted_keeps}
use Rattle.ev_core.specs.Local.{counted, frame_by, is_target, after_act}
use Rattle.ev_core.specs.State.{local_of}

-- ---- maps

pub put_same : {X : Type 0} (m : NatMap X) (k : ℕ) (x : X) → put_at m k x k ≡ x
put_same m k x = ap (λ b. elim b [ true ↦ x | false ↦ m k ]) (eq-eqb k k refl)

pub differs : (i k : ℕ) → (i ≡ k → ⊥) → (i == k) ≡ false
differs i k h = ⊎_elim (λ p. absurd (h p.1)) (λ p. p.0) (eqb_tells i k)

pub put_other : {X : Type 0} (m : NatMap X) (k : ℕ) (x : X) (i : ℕ) → (i ≡ k → ⊥) → put_at m k x i ≡ m i
put_other m k x i h = ap (λ b. elim b [ true ↦ x | false ↦ m i ]) (differs i k h)

pub set_same : {X : Type 0} (xs : List X) (k : ℕ) (x : X) → k < length xs → slice_get (set xs k x) k ≡ Some x
set_same [] k x h = absurd (omega arith)
set_same (y ∷ ys) zero x h = refl
set_same (y ∷ ys) (suc k) x h = set_same ys k x (omega arith)

pub set_other : {X : Type 0} (xs : List X) (k : ℕ) (x : X) (i : ℕ) → (i ≡ k → ⊥) → slice_get (set xs k x) i ≡ slice_get xs i
set_other [] k x i h = refl
set_other (y ∷ ys) zero x zero h = absurd (h refl)
set_other (y ∷ ys) zero x (suc i) h = refl
set_other (y ∷ ys) (suc k) x zero h = refl
set_other (y ∷ ys) (suc k) x (suc i) h = set_other ys k x i (λ e. h (ap suc e))

-- a list that shows the first n places of a map shows those of the changed map
pub put_shown : {X : Type 0} (xs : List X) (m : NatMap X) (n k : ℕ) (x : X) → k < length xs → ((i : ℕ) → i < n → slice_get xs i ≡ Some (m i))
    → (i : ℕ) → i < n → slice_get (set xs k x) i ≡ Some (put_at m k x i)
put_shown xs m n k x h each i l =
    ⊎_elim (λ p. subst (λ j. slice_get (set xs k x) j ≡ Some (put_at m k x j)) (sym p.1) (set_same xs k x h ∙ ap (λ y. Some y) (sym (put_same m k x))))
    (λ p. set_other xs k x i p.1 ∙ each i l ∙ ap (λ y. Some y) (sym (put_other m k x i p.1))) (eqb_tells i k)

-- ---- mail

abbrev pub mailed_at : System → SendKey → ℕ → System
mailed_at s key t = record s { inboxes = put_at s.inboxes t (mailed (s.inboxes t) key) }

pub posted_below : (key : SendKey) (f : ℕ → Bool) (k a q : ℕ) (s : System) → q < a → (posted s key (filter f (numbers_from a k))).inboxes q ≡ s.inboxes q
posted_below key f zero a q s h = refl
posted_below key f (suc k) a q s h = pick (f a) (λ t. posted_below key f k (suc a) q t (omega arith))
  where
    pick : (b : Bool) → ((t : System) → (posted t key (filter f (numbers_from (suc a) k))).inboxes q ≡ t.inboxes q)
        → (posted s key (if b then a ∷ filter f (numbers_from (suc a) k) else filter f (numbers_from (suc a) k))).inboxes q ≡ s.inboxes q
    pick true rest = rest (mailed_at s key a) ∙ put_other s.inboxes a _ q (λ e. omega arith)
    pick false rest = rest s

pub posted_filter : (key : SendKey) (f : ℕ → Bool) (k a q : ℕ) (s : System) → a ≤ q → q < a + k
    → (posted s key (filter f (numbers_from a k))).inboxes q ≡ (if f q then mailed (s.inboxes q) key else s.inboxes q)
posted_filter key f zero a q s h l = absurd (omega arith)
posted_filter key f (suc k) a q s h l =
    ⊎_elim (λ p. here p.1 (f a) refl) (λ p. there p.1 (f a) (λ t. posted_filter key f k (suc a) q t (omega (arith, p.1)) (omega arith))) (eqb_tells q a)
  where
    here : q ≡ a → (b : Bool) → f a ≡ b → (posted s key (if b then a ∷ filter f (numbers_from (suc a) k) else filter f (numbers_from (suc a) k))).inboxes q
        ≡ (if f q then mailed (s.inboxes q) key else s.inboxes q)
    here e true t = posted_below key f k (suc a) q (mailed_at s key a) (omega arith) ∙ ap (put_at s.inboxes a (mailed (s.inboxes a) key)) e
        ∙ put_same s.inboxes a _
        ∙ sym (ap (λ b. if b then mailed (s.inboxes q) key else s.inboxes q) (ap f e ∙ t) ∙ ap (λ x. mailed (s.inboxes x) key) e)
    here e false t = posted_below key f k (suc a) q s (omega arith) ∙ sym (ap (λ b. if b then mailed (s.inboxes q) key else s.inboxes q) (ap f e ∙ t))

    there : (q ≡ a → ⊥) → (b : Bool)
        → ((t : System) → (posted t key (filter f (numbers_from (suc a) k))).inboxes q ≡ (if f q then mailed (t.inboxes q) key else t.inboxes q))
        → (posted s key (if b then a ∷ filter f (numbers_from (suc a) k) else filter f (numbers_from (suc a) k))).inboxes q
        ≡ (if f q then mailed (s.inboxes q) key else s.inboxes q)
    there d true rest = rest (mailed_at s key a) ∙ ap (λ x. if f q then mailed x key else x) (put_other s.inboxes a _ q d)
    there d false rest = rest s

pub all_numbers : (k a : ℕ) → numbers_from a k ≡ filter (λ q. true) (numbers_from a k)
all_numbers zero a = refl
all_numbers (suc k) a = ap (λ xs. a ∷ xs) (all_numbers k (suc a))

pub posted_one : (key : SendKey) (t q : ℕ) (s : System) → (posted s key (t ∷ [])).inboxes q ≡ (if q == t then mailed (s.inboxes q) key else s.inboxes q)
posted_one key t q s = ⊎_elim (λ p. same p.0 p.1)
    (λ p. put_other s.inboxes t _ q p.1 ∙ sym (ap (λ b. if b then mailed (s.inboxes q) key else s.inboxes q) p.0)) (eqb_tells q t)
  where
    same : (q == t) ≡ true → q ≡ t → (posted s key (t ∷ [])).inboxes q ≡ (if q == t then mailed (s.inboxes q) key else s.inboxes q)
    same b e = ap (put_at s.inboxes t (mailed (s.inboxes t) key)) e ∙ put_same s.inboxes t _
        ∙ sym (ap (λ c. if c then mailed (s.inboxes q) key else s.inboxes q) b ∙ ap (λ x. mailed (s.inboxes x) key) e)

pub eqb_swap : (a b : ℕ) → (a == b) ≡ (b == a)
eqb_swap a b = ⊎_elim (λ p. p.0 ∙ sym (eq-eqb b a (sym p.1))) (λ p. p.0 ∙ sym (differs b a (λ e. p.1 (sym e)))) (eqb_tells a b)

pub inbox_after : (n p q : ℕ) (key : SendKey) (target : Target) (s : System) → q < n
    → (posted s key (targets n p target)).inboxes q ≡ (if is_target target p q then mailed (s.inboxes q) key else s.inboxes q)
inbox_after n p q key (One t) s h =
    ⊎_elim (λ b. ap (λ c. (posted s key (if c then t ∷ [] else [])).inboxes q) b.0 ∙ posted_one key t q s
    ∙ ap (λ c. if c then mailed (s.inboxes q) key else s.inboxes q) (eqb_swap q t))
    (λ b. ap (λ c. (posted s key (if c then t ∷ [] else [])).inboxes q) b.0
    ∙ sym (ap (λ c. if c then mailed (s.inboxes q) key else s.inboxes q) (differs t q (λ e. omega (arith, b.1))))) (leb_tells (suc t) n)
inbox_after n p q key Myself s h = posted_one key p q s
inbox_after n p q key All s h = ap (λ ts. (posted s key ts).inboxes q) (all_numbers n 0) ∙ posted_filter key (λ x. true) n 0 q s (omega arith) (omega arith)
inbox_after n p q key Others s h = posted_filter key (λ x. not (x == p)) n 0 q s (omega arith) (omega arith)

-- ---- the act

pub own_after : (n p q : ℕ) (st : Stepped) (s : System) → q < n → local_of (acted n s p st).0 q ≡ after_act st p q (local_of s q)
own_after n p q (Stepped.Delivered e None) s h = refl
own_after n p q (Stepped.Delivered e (Some a)) s h = refl
own_after n p q Stepped.Ran s h = refl
own_after n p q Stepped.Shutdown s h = refl
own_after n p q (Stepped.Sent m) s h =
    ap (λ x. local_of x q) (posted_keeps s m.key (targets n p m.target)) ∙ ap (λ x. record (local_of s q) { inbox = x })
    (inbox_after n p q m.key m.target s h) ∙ into (is_target m.target p q)
  where
    into : (b : Bool) → record (local_of s q) { inbox = if b then mailed (s.inboxes q) m.key else s.inboxes q }
        ≡ (if b then record (local_of s q) { inbox = mailed (s.inboxes q) m.key } else local_of s q)
    into true = refl
    into false = refl

-- the rest of a system after an act
pub rest_after : (n p : ℕ) (st : Stepped) (s : System) → ((acted n s p st).0.cpus ≡ s.cpus) × ((acted n s p st).0.memory ≡ s.memory)
rest_after n p (Stepped.Delivered e None) s = (refl, refl)
rest_after n p (Stepped.Delivered e (Some a)) s = (refl, refl)
rest_after n p Stepped.Ran s = (refl, refl)
rest_after n p Stepped.Shutdown s = (refl, refl)
rest_after n p (Stepped.Sent m) s =
    (ap (λ x. x.cpus) (posted_keeps s m.key (targets n p m.target)), ap (λ x. x.memory) (posted_keeps s m.key (targets n p m.target)))

pub totals_after : (n p : ℕ) (st : Stepped) (s t : System) → s.totals ≡ record t.totals { steps = suc t.totals.steps }
    → (acted n s p st).0.totals ≡ counted t.totals st
totals_after n p (Stepped.Delivered e None) s t h = h
totals_after n p (Stepped.Delivered e (Some a)) s t h = ap (λ (x : Totals). record x { frames = suc x.frames; low = lower a x.low }) h
totals_after n p Stepped.Ran s t h = h
totals_after n p Stepped.Shutdown s t h = h
totals_after n p (Stepped.Sent m) s t h = ap (λ x. x.totals) (posted_keeps s m.key (targets n p m.target)) ∙ h

pub frames_after : (n p : ℕ) (st : Stepped) (s : System) → frame_by (s.cpus p) s.memory.words st ≡ (acted n s p st).1
frames_after n p (Stepped.Delivered e None) s = refl
frames_after n p (Stepped.Delivered e (Some a)) s = refl
frames_after n p Stepped.Ran s = refl
frames_after n p Stepped.Shutdown s = refl
frames_after n p (Stepped.Sent m) s = refl

-- the bodies stay
pub acted_bodies : (n p q : ℕ) (st : Stepped) (s : System) → bodies_on (acted n s p st).0 q ≡ bodies_on s q
acted_bodies n p q (Stepped.Delivered e None) s = refl
acted_bodies n p q (Stepped.Delivered e (Some a)) s = refl
acted_bodies n p q Stepped.Ran s = refl
acted_bodies n p q Stepped.Shutdown s = refl
acted_bodies n p q (Stepped.Sent m) s = ap (λ x. bodies_on x q) (posted_keeps s m.key (targets n p m.target))
