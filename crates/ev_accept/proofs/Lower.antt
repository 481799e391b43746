-- A legal chain is as long as the formula: from a body of the user side, one body after another that the formula counts.
use Rattle.std.proofs.Common.{◌≡◌, refl, sym, ◌∙◌, ap, ℕ, zero, suc, ◌+◌, ◌-◌, ◌/◌, ◌≤◌, ◌<◌, max, Bool, true, false, cond, not, ◌&&◌, ◌||◌, List, [], ◌∷◌, length, ◌⊎◌, inl, inr, arith}
use Rattle.std.specs.List.{list_all}
use Rattle.std.proofs.lemmas.Bool.{cond-true, cond-false, cases_Bool, cases_lt, and_parts, and_from, eqb-true, lt-ltb, not_from_false, false≢true, or_from, or_parts}
use Rattle.ev_body.specs.declared.key.Key.{Key}
use Rattle.ev_body.specs.declared.key.Key.TheVariants.{Nmi, Bp, Pf, Irq}
use Rattle.ev_body.specs.declared.key.Side.TheVariants.{User, Kernel}
use Rattle.ev_body.specs.declared.body.Body.{Body}
use Rattle.ev_body.specs.Bodies.{covers}
use Rattle.ev_abstract.specs.Chain.{has_item, is_breakpoint, is_user_access, is_sti, is_nmi, is_below, may_start, is_legal}
use Rattle.ev_accept.specs.Bound.{greatest, is_bp, is_pf, is_class, least_class, is_on_kernel, pf_room, access_room, bp_room, fault_room, nmi_room, open_room, class_room, irq_room, entry_room, is_on_user, bound_of}
use Rattle.ev_accept.proofs.Members.{In, At, greatest-at}
use Rattle.ev_accept.proofs.Upper.{any_nmi, first_class, AllIn, IsQuiet, AreQuiet, bound-over}

-- a legal chain of so many bodies
pub record Legal (bodies : List Body) (n : ℕ) : Type 0 where
  pub list : List Body
  pub members : AllIn bodies list
  pub legal : is_legal list ≡ true
  pub long : length list ≡ n

-- one that grew by faults alone
record Grown (bodies : List Body) (nmi : Bool) (n : ℕ) : Type 0 where
  list : List Body
  members : AllIn bodies list
  legal : is_legal list ≡ true
  long : length list ≡ n
  nmi_is : any_nmi list ≡ nmi

legal_at : {bodies : List Body} {m n : ℕ} → Legal bodies m → m ≡ n → Legal bodies n
legal_at l e = record { list = l.list; members = l.members; legal = l.legal; long = l.long ∙ e }

grown_at : {bodies : List Body} {nmi : Bool} {m n : ℕ} → Grown bodies nmi m → m ≡ n → Grown bodies nmi n
grown_at l e = record { list = l.list; members = l.members; legal = l.legal; long = l.long ∙ e; nmi_is = l.nmi_is }

grown_nmi : {bodies : List Body} {x y : Bool} {n : ℕ} → Grown bodies x n → x ≡ y → Grown bodies y n
grown_nmi l e = record { list = l.list; members = l.members; legal = l.legal; long = l.long; nmi_is = l.nmi_is ∙ e }

-- a chain as it stands
record Stands (bodies : List Body) (b : Body) (below : List Body) : Type 0 where
  members : AllIn bodies (b ∷ below)
  legal : is_legal (b ∷ below) ≡ true

push : (bodies : List Body) (k b : Body) (below : List Body) → In k bodies → covers k.side Kernel ≡ true → may_start k.key b below ≡ true
    → Stands bodies b below → Stands bodies k (b ∷ below)
unfolding is_legal
push bodies k b below m side may s = record {
  members = (m, s.members);
  legal = and_from (covers k.side Kernel && may_start k.key b below) (is_legal (b ∷ below))
      (and_from (covers k.side Kernel) (may_start k.key b below) side may) s.legal;
}

may-bp : (k : Key) (b : Body) (below : List Body) → is_bp k ≡ true → has_item is_breakpoint b ≡ true → (may_start k b below ≡ true) × (is_nmi k ≡ false)
unfolding is_bp may_start is_nmi
may-bp Bp b below e h = (h, refl)
may-bp _ b below e h = absurd (false≢true e)

may-pf : (k : Key) (b : Body) (below : List Body) → is_pf k ≡ true → has_item is_user_access b ≡ true → (may_start k b below ≡ true) × (is_nmi k ≡ false)
unfolding is_pf may_start is_nmi
may-pf Pf b below e h = (h, refl)
may-pf _ b below e h = absurd (false≢true e)

no_nmi : (bs : List Body) → any_nmi bs ≡ false → list_all (λ (c : Body). not (is_nmi c.key)) bs ≡ true
no_nmi [] h = refl
no_nmi (c ∷ cs) h =
    let p : (is_nmi c.key ≡ false) × (any_nmi cs ≡ false) = or_parts (is_nmi c.key) (any_nmi cs) h in
    and_from (not (is_nmi c.key)) (list_all (λ (x : Body). not (is_nmi x.key)) cs) (not_from_false (is_nmi c.key) p.0) (no_nmi cs p.1)

may-nmi : (k : Key) (b : Body) (below : List Body) → is_nmi k ≡ true → any_nmi (b ∷ below) ≡ false → may_start k b below ≡ true
unfolding is_nmi may_start
may-nmi Nmi b below e h = no_nmi (b ∷ below) h
may-nmi _ b below e h = absurd (false≢true e)

class_below : (v : ℕ) (k : Key) → least_class k ≤ v / 16 → is_below v k ≡ true
unfolding is_below least_class
class_below v (Irq w) h = lt-ltb (w / 16) (v / 16) h
class_below v _ h = refl

below_all : (v : ℕ) (bs : List Body) → any_nmi bs ≡ false → first_class bs ≤ v / 16 → list_all (λ (c : Body). is_below v c.key && not (is_nmi c.key)) bs
    ≡ true
below_all v [] h l = refl
below_all v (c ∷ cs) h l =
    let p : (is_nmi c.key ≡ false) × (any_nmi cs ≡ false) = or_parts (is_nmi c.key) (any_nmi cs) h in
    let one : least_class c.key ≤ v / 16 = omega arith in
    let others : first_class cs ≤ v / 16 = omega arith in
    and_from (is_below v c.key && not (is_nmi c.key)) (list_all (λ (x : Body). is_below v x.key && not (is_nmi x.key)) cs)
    (and_from (is_below v c.key) (not (is_nmi c.key)) (class_below v c.key one) (not_from_false (is_nmi c.key) p.0)) (below_all v cs p.1 others)

may-irq : (class : ℕ) (k : Key) (b : Body) (below : List Body) → is_class class k ≡ true → has_item is_sti b ≡ true → any_nmi (b ∷ below) ≡ false
    → first_class (b ∷ below) ≤ class
    → (may_start k b below ≡ true) × (is_nmi k ≡ false) × (least_class k ≡ suc class)
unfolding is_class may_start is_nmi least_class
may-irq class (Irq v) b below e sti clear l =
    let q : v / 16 ≡ class = eqb-true (v / 16) class e in
    let lower : first_class (b ∷ below) ≤ v / 16 = omega arith in (
      and_from (has_item is_sti b) (list_all (λ (c : Body). is_below v c.key && not (is_nmi c.key)) (b ∷ below)) sti (below_all v (b ∷ below) clear lower),
      refl,
      ap suc q,
    )
may-irq class _ b below e sti clear l = absurd (false≢true e)

-- ---- by faults

as_it_is : (bodies : List Body) (b : Body) (below : List Body) → Stands bodies b below → Grown bodies (any_nmi (b ∷ below)) (length (b ∷ below))
as_it_is bodies b below s = record { list = b ∷ below; members = s.members; legal = s.legal; long = refl; nmi_is = refl }

by_access : (bodies : List Body) (b : Body) (below : List Body) → Stands bodies b below → Grown bodies (any_nmi (b ∷ below))
    (access_room bodies b + length (b ∷ below))
unfolding pf_room
by_access bodies b below s = split (cases_Bool (has_item is_user_access b))
  where
    Goal : Type 0
    Goal = Grown bodies (any_nmi (b ∷ below)) (access_room bodies b + length (b ∷ below))

    none : access_room bodies b ≡ 0 → Grown bodies (any_nmi (b ∷ below)) (access_room bodies b + length (b ∷ below))
    none z = grown_at (as_it_is bodies b below s) (omega arith)

    some : has_item is_user_access b ≡ true → (pf_room bodies ≡ 0) ⊎ At (is_on_kernel is_pf) (λ x. 1) bodies (pf_room bodies)
        → Grown bodies (any_nmi (b ∷ below)) (access_room bodies b + length (b ∷ below))
    some h (inl z) = none (cond-true (has_item is_user_access b) (pf_room bodies) 0 h ∙ z)
    some h (inr a) =
        let p = and_parts (is_pf a.body.key) (covers a.body.side Kernel) a.passes in
        let may = may-pf a.body.key b below p.0 h in
        let one : access_room bodies b ≡ 1 = cond-true (has_item is_user_access b) (pf_room bodies) 0 h ∙ sym a.is in
        grown_nmi (grown_at (as_it_is bodies a.body (b ∷ below) (push bodies a.body b below a.member p.1 may.0 s)) (omega arith))
        (ap (λ (t : Bool). t || any_nmi (b ∷ below)) may.1)

    split : (has_item is_user_access b ≡ true) ⊎ (has_item is_user_access b ≡ false) → Grown bodies (any_nmi (b ∷ below))
        (access_room bodies b + length (b ∷ below))
    split (inl h) = some h (greatest-at (is_on_kernel is_pf) (λ x. 1) bodies)
    split (inr h) = none (cond-false (has_item is_user_access b) (pf_room bodies) 0 h)

by_faults : (bodies : List Body) (b : Body) (below : List Body) → Stands bodies b below → Grown bodies (any_nmi (b ∷ below))
    (fault_room bodies b + length (b ∷ below))
unfolding fault_room bp_room
by_faults bodies b below s = compared (cases_lt (access_room bodies b) (cond (has_item is_breakpoint b) (bp_room bodies) 0))
    (cases_Bool (has_item is_breakpoint b)) (greatest-at (is_on_kernel is_bp) (λ x. suc (access_room bodies x)) bodies)
  where
    compared : (access_room bodies b < cond (has_item is_breakpoint b) (bp_room bodies) 0)
        ⊎ (cond (has_item is_breakpoint b) (bp_room bodies) 0 ≤ access_room bodies b)
        → (has_item is_breakpoint b ≡ true) ⊎ (has_item is_breakpoint b ≡ false) → (bp_room bodies ≡ 0) ⊎ At (is_on_kernel is_bp)
        (λ x. suc (access_room bodies x)) bodies (bp_room bodies)
        → Grown bodies (any_nmi (b ∷ below)) (fault_room bodies b + length (b ∷ below))
    compared (inr l) h a = grown_at (by_access bodies b below s) (omega arith)
    compared (inl l) (inr h) a = let e : cond (has_item is_breakpoint b) (bp_room bodies) 0 ≡ 0 = cond-false (has_item is_breakpoint b) (bp_room bodies) 0
        h in absurd (omega arith)
    compared (inl l) (inl h) (inl z) =
        let e : cond (has_item is_breakpoint b) (bp_room bodies) 0 ≡ bp_room bodies = cond-true (has_item is_breakpoint b) (bp_room bodies) 0 h in
        absurd (omega arith)
    compared (inl l) (inl h) (inr a) =
        let p = and_parts (is_bp a.body.key) (covers a.body.side Kernel) a.passes in
        let may = may-bp a.body.key b below p.0 h in
        let e : cond (has_item is_breakpoint b) (bp_room bodies) 0 ≡ bp_room bodies = cond-true (has_item is_breakpoint b) (bp_room bodies) 0 h in
        let v : suc (access_room bodies a.body) ≡ bp_room bodies = a.is in
        let f : fault_room bodies b ≡ suc (access_room bodies a.body) = larger (cond (has_item is_breakpoint b) (bp_room bodies) 0) (access_room bodies b)
        (suc (access_room bodies a.body)) l (e ∙ sym v) in
        grown_nmi (grown_at (by_access bodies a.body (b ∷ below) (push bodies a.body b below a.member p.1 may.0 s))
        (sum (access_room bodies a.body) (fault_room bodies b) (length below) f)) (ap (λ (t : Bool). t || any_nmi (b ∷ below)) may.1)
      where
        larger : (x y z : ℕ) → y < x → x ≡ z → max x y ≡ z
        larger x y z l e = omega arith

        sum : (x y n : ℕ) → y ≡ suc x → x + suc (suc n) ≡ y + suc n
        sum x y n e = omega arith

-- ---- by an NMI on a chain without one

by_nmi : (bodies : List Body) (b : Body) (below : List Body) → Stands bodies b below → any_nmi (b ∷ below) ≡ false
    → Legal bodies (nmi_room bodies + length (b ∷ below))
unfolding nmi_room
by_nmi bodies b below s clear = some (greatest-at (is_on_kernel is_nmi) (λ x. suc (fault_room bodies x)) bodies)
  where
    some : (nmi_room bodies ≡ 0) ⊎ At (is_on_kernel is_nmi) (λ x. suc (fault_room bodies x)) bodies (nmi_room bodies)
        → Legal bodies (nmi_room bodies + length (b ∷ below))
    some (inl z) = record { list = b ∷ below; members = s.members; legal = s.legal; long = sum (nmi_room bodies) z }
      where
        sum : (n : ℕ) → n ≡ 0 → length (b ∷ below) ≡ n + length (b ∷ below)
        sum n z = omega arith
    some (inr a) =
        let p = and_parts (is_nmi a.body.key) (covers a.body.side Kernel) a.passes in
        let g = by_faults bodies a.body (b ∷ below) (push bodies a.body b below a.member p.1 (may-nmi a.body.key b below p.0 clear) s) in
        record { list = g.list; members = g.members; legal = g.legal; long = g.long ∙ sum (fault_room bodies a.body) (nmi_room bodies) (length below) a.is }
      where
        sum : (x y n : ℕ) → suc x ≡ y → x + suc (suc n) ≡ y + suc n
        sum x y n e = omega arith

by_both : (bodies : List Body) (b : Body) (below : List Body) → Stands bodies b below → any_nmi (b ∷ below) ≡ false
    → Legal bodies (fault_room bodies b + nmi_room bodies + length (b ∷ below))
unfolding is_legal
by_both bodies b below s clear =
    let g : Grown bodies (any_nmi (b ∷ below)) (fault_room bodies b + length (b ∷ below)) = by_faults bodies b below s in
    go g.list g.members g.legal g.long (g.nmi_is ∙ clear)
  where
    go : (list : List Body) → AllIn bodies list → is_legal list ≡ true → length list ≡ fault_room bodies b + length (b ∷ below) → any_nmi list ≡ false
        → Legal bodies (fault_room bodies b + nmi_room bodies + length (b ∷ below))
    go [] m l e c = absurd (false≢true l)
    go (d ∷ ds) m l e c = legal_at (by_nmi bodies d ds (record { members = m; legal = l }) c) (omega arith)

-- ---- by interrupts

by_all : (bodies : List Body) (up : ℕ) (b : Body) (below : List Body) → Stands bodies b below → any_nmi (b ∷ below) ≡ false
    → (has_item is_sti b ≡ true → Legal bodies (up + length (b ∷ below))) → Legal bodies (open_room bodies up b + length (b ∷ below))
unfolding open_room
by_all bodies up b below s clear more = compared (cases_lt (fault_room bodies b + nmi_room bodies) (cond (has_item is_sti b) up 0))
    (cases_Bool (has_item is_sti b))
  where
    compared : (fault_room bodies b + nmi_room bodies < cond (has_item is_sti b) up 0)
        ⊎ (cond (has_item is_sti b) up 0 ≤ fault_room bodies b + nmi_room bodies)
        → (has_item is_sti b ≡ true) ⊎ (has_item is_sti b ≡ false) → Legal bodies (open_room bodies up b + length (b ∷ below))
    compared (inr l) h = legal_at (by_both bodies b below s clear) (omega arith)
    compared (inl l) (inr h) = let e : cond (has_item is_sti b) up 0 ≡ 0 = cond-false (has_item is_sti b) up 0 h in absurd (omega arith)
    compared (inl l) (inl h) = let e : cond (has_item is_sti b) up 0 ≡ up = cond-true (has_item is_sti b) up 0 h in legal_at (more h) (omega arith)

by_irqs : (bodies : List Body) (n : ℕ) (b : Body) (below : List Body) → Stands bodies b below → any_nmi (b ∷ below) ≡ false → has_item is_sti b ≡ true
    → first_class (b ∷ below) + n ≤ 16
    → Legal bodies (irq_room bodies n + length (b ∷ below))
unfolding irq_room class_room
by_irqs bodies zero b below s clear sti l = record { list = b ∷ below; members = s.members; legal = s.legal; long = omega arith }
by_irqs bodies (suc n) b below s clear sti l =
    compared (cases_lt (irq_room bodies n) (greatest (is_on_kernel (is_class (15 - n))) value bodies))
    (greatest-at (is_on_kernel (is_class (15 - n))) value bodies)
    (λ (x : Body) (xs : List Body) (t : Stands bodies x xs) (c : any_nmi (x ∷ xs) ≡ false) (h : has_item is_sti x ≡ true) (u : first_class (x ∷ xs) + n ≤ 16).
    by_irqs bodies n x xs t c h u)
  where
    value : Body → ℕ
    value x = suc (open_room bodies (irq_room bodies n) x)

    Before : Type 0
    Before = (x : Body) (xs : List Body) → Stands bodies x xs → any_nmi (x ∷ xs) ≡ false → has_item is_sti x ≡ true → first_class (x ∷ xs) + n ≤ 16
        → Legal bodies (irq_room bodies n + length (x ∷ xs))

    sum : (o i g n : ℕ) → suc o ≡ g → i < g → o + suc (suc n) ≡ max i g + suc n
    sum o i g n e l = omega arith

    stay : (i g n : ℕ) → g ≤ i → i + suc n ≡ max i g + suc n
    stay i g n e = omega arith

    compared : (irq_room bodies n < greatest (is_on_kernel (is_class (15 - n))) value bodies)
        ⊎ (greatest (is_on_kernel (is_class (15 - n))) value bodies ≤ irq_room bodies n)
        → (greatest (is_on_kernel (is_class (15 - n))) value bodies ≡ 0) ⊎ At (is_on_kernel (is_class (15 - n))) value bodies
        (greatest (is_on_kernel (is_class (15 - n))) value bodies)
        → Before → Legal bodies (max (irq_room bodies n) (greatest (is_on_kernel (is_class (15 - n))) value bodies) + length (b ∷ below))
    compared (inr h) a before = legal_at (before b below s clear sti (omega arith))
        (stay (irq_room bodies n) (greatest (is_on_kernel (is_class (15 - n))) value bodies) (length below) h)
    compared (inl h) (inl z) before = absurd (omega arith)
    compared (inl h) (inr a) before =
        let p = and_parts (is_class (15 - n) a.body.key) (covers a.body.side Kernel) a.passes in
        let may = may-irq (15 - n) a.body.key b below p.0 sti clear (omega arith) in
        let t : Stands bodies a.body (b ∷ below) = push bodies a.body b below a.member p.1 may.0 s in
        let c : any_nmi (a.body ∷ b ∷ below) ≡ false = or_from (is_nmi a.body.key) (any_nmi (b ∷ below)) may.1 clear in
        let least : least_class a.body.key ≡ suc (15 - n) = may.2 in
        let up : first_class (a.body ∷ b ∷ below) + n ≤ 16 = omega arith in
        let v : suc (open_room bodies (irq_room bodies n) a.body) ≡ greatest (is_on_kernel (is_class (15 - n))) value bodies = a.is in
        legal_at (by_all bodies (irq_room bodies n) a.body (b ∷ below) t c (λ h. before a.body (b ∷ below) t c h up))
        (sum (open_room bodies (irq_room bodies n) a.body) (irq_room bodies n) (greatest (is_on_kernel (is_class (15 - n))) value bodies) (length below) v h)

-- ---- the whole

at_entry : (bodies : List Body) (b : Body) → In b bodies → IsQuiet b → covers b.side User ≡ true → Legal bodies (suc (entry_room bodies b))
unfolding entry_room is_legal least_class
at_entry bodies b m quiet side = by (is_nmi b.key) refl
  where
    s : Stands bodies b []
    s = record { members = (m, tt); legal = side }

    class : (k : Key) → b.key ≡ k → least_class k ≤ 16
    class (Irq v) e = let h : v < 256 = quiet.irq v e in omega arith
    class _ e = omega arith

    by : (t : Bool) → is_nmi b.key ≡ t → Legal bodies
        (suc (cond (is_nmi b.key) (fault_room bodies b) (open_room bodies (irq_room bodies (16 - least_class b.key)) b)))
    by true e =
        let g = by_faults bodies b [] s in
        let c : cond (is_nmi b.key) (fault_room bodies b) (open_room bodies (irq_room bodies (16 - least_class b.key)) b) ≡ fault_room bodies b
        = cond-true (is_nmi b.key) (fault_room bodies b) (open_room bodies (irq_room bodies (16 - least_class b.key)) b) e in
        record { list = g.list; members = g.members; legal = g.legal; long = g.long ∙ omega arith }
    by false e =
        let c : cond (is_nmi b.key) (fault_room bodies b) (open_room bodies (irq_room bodies (16 - least_class b.key)) b)
        ≡ open_room bodies (irq_room bodies (16 - least_class b.key)) b
        = cond-false (is_nmi b.key) (fault_room bodies b) (open_room bodies (irq_room bodies (16 - least_class b.key)) b) e in
        let n : any_nmi (b ∷ []) ≡ false = or_from (is_nmi b.key) false e refl in
        let k : least_class b.key ≤ 16 = class b.key refl in
        legal_at (by_all bodies (irq_room bodies (16 - least_class b.key)) b [] s n (λ h. by_irqs bodies (16 - least_class b.key) b [] s n h (omega arith)))
        (omega arith)

pub bound-reached : (bodies : List Body) → AreQuiet bodies → (u : Body) → In u bodies → covers u.side User ≡ true → Legal bodies (bound_of bodies)
unfolding bound_of
bound-reached bodies quiet u m side = some (greatest-at is_on_user (λ b. suc (entry_room bodies b)) bodies)
  where
    some : (bound_of bodies ≡ 0) ⊎ At is_on_user (λ b. suc (entry_room bodies b)) bodies (bound_of bodies) → Legal bodies (bound_of bodies)
    some (inl z) = let o : suc (entry_room bodies u) ≤ bound_of bodies = bound-over bodies u m side in
        absurd (none (bound_of bodies) (entry_room bodies u) z o)
      where
        none : (n e : ℕ) → n ≡ 0 → suc e ≤ n → ⊥
        none n e z o = omega arith
    some (inr a) = legal_at (at_entry bodies a.body a.member (quiet a.body a.member) a.passes) a.is
