-- No legal chain is longer than the formula: what can still stand on a chain falls with each body that starts.
use Rattle.std.proofs.Common.{◌≡◌, refl, sym, ◌∙◌, ap, ℕ, zero, suc, ◌+◌, ◌-◌, ◌/◌, ◌≤◌, ◌<◌, max, Bool, true, false, cond, not, ◌&&◌, ◌||◌, List, [], ◌∷◌, length, arith}
use Rattle.std.specs.List.{list_any, list_all}
use Rattle.std.proofs.lemmas.Bool.{cond-true, cond-false, and_parts, and_from, eq-eqb, ltb-true, not-true, false≢true, or_from}
use Rattle.ev_body.specs.declared.key.Key.{Key}
use Rattle.ev_body.specs.declared.key.Key.TheVariants.{Nmi, Bp, Pf, Irq}
use Rattle.ev_body.specs.declared.key.Side.TheVariants.{User, Kernel}
use Rattle.ev_body.specs.declared.body.Body.{Body}
use Rattle.ev_body.specs.Bodies.{covers}
use Rattle.ev_abstract.specs.Chain.{has_item, is_breakpoint, is_user_access, is_sti, is_nmi, is_below, may_start, is_legal}
use Rattle.ev_accept.specs.Bound.{greatest, is_bp, is_pf, is_class, least_class, is_on_kernel, pf_room, access_room, bp_room, fault_room, nmi_room, open_room, class_room, irq_room, entry_room, is_on_user, bound_of}
use Rattle.ev_accept.proofs.Members.{In, greatest-over}

-- what the rules give of a body: no `sti` in inner bodies, no faults of their own in those of breakpoints and page faults, vectors in range
pub record IsQuiet (b : Body) : Type 0 where
  pub bp : is_on_kernel is_bp b ≡ true → (has_item is_breakpoint b ≡ false) × (has_item is_sti b ≡ false)
  pub pf : is_on_kernel is_pf b ≡ true → (has_item is_breakpoint b ≡ false) × (has_item is_user_access b ≡ false) × (has_item is_sti b ≡ false)
  pub irq : (v : ℕ) → b.key ≡ Irq v → v < 256

abbrev pub AreQuiet : List Body → Type 0
AreQuiet bodies = (b : Body) → In b bodies → IsQuiet b

-- whether an NMI stands, and the least class that may start
abbrev pub any_nmi : List Body → Bool
any_nmi = list_any (λ (c : Body). is_nmi c.key)

abbrev pub first_class : List Body → ℕ
first_class [] = 0
first_class (c ∷ cs) = max (least_class c.key) (first_class cs)

unfoldable pub room_at : List Body → Bool → ℕ → Body → ℕ
room_at bodies true class b = fault_room bodies b
room_at bodies false class b = open_room bodies (irq_room bodies (16 - class)) b

-- how many bodies can still stand on a chain
abbrev pub room : List Body → List Body → ℕ
room bodies [] = 0
room bodies (b ∷ below) = room_at bodies (any_nmi (b ∷ below)) (first_class (b ∷ below)) b

abbrev pub later_nmi : List Body → Bool → ℕ
later_nmi bodies nmi = cond nmi 0 (nmi_room bodies)

pub room-least : (bodies : List Body) (nmi : Bool) (class : ℕ) (b : Body) → fault_room bodies b + later_nmi bodies nmi ≤ room_at bodies nmi class b
unfolding room_at open_room
room-least bodies true class b = omega arith
room-least bodies false class b = omega arith

pub room-most : (bodies : List Body) (nmi : Bool) (class : ℕ) (b : Body) → has_item is_sti b ≡ false → room_at bodies nmi class b ≤ fault_room bodies b +
    later_nmi bodies nmi
unfolding room_at open_room
room-most bodies true class b h = omega arith
room-most bodies false class b h =
    let e : cond (has_item is_sti b) (irq_room bodies (16 - class)) 0 ≡ 0 = cond-false (has_item is_sti b) (irq_room bodies (16 - class)) 0 h in
    omega arith

-- ---- irq_room grows

irq_room-step : (bodies : List Body) (m : ℕ) → irq_room bodies m ≤ irq_room bodies (suc m)
unfolding irq_room class_room
irq_room-step bodies m = omega arith

pub irq_room-grows : (bodies : List Body) (n k : ℕ) → irq_room bodies n ≤ irq_room bodies (k + n)
irq_room-grows bodies n zero = let e : irq_room bodies (0 + n) ≡ irq_room bodies n = ap (irq_room bodies) (omega arith) in omega arith
irq_room-grows bodies n (suc k) =
    let ih : irq_room bodies n ≤ irq_room bodies (k + n) = irq_room-grows bodies n k in
    let s : irq_room bodies (k + n) ≤ irq_room bodies (suc (k + n)) = irq_room-step bodies (k + n) in
    let e : irq_room bodies (suc k + n) ≡ irq_room bodies (suc (k + n)) = ap (irq_room bodies) (omega arith) in
    omega arith

pub irq_room-le : (bodies : List Body) (m n : ℕ) → m ≤ n → irq_room bodies m ≤ irq_room bodies n
irq_room-le bodies m n h =
    let e : irq_room bodies ((n - m) + m) ≡ irq_room bodies n = ap (irq_room bodies) (omega arith) in
    let g : irq_room bodies m ≤ irq_room bodies ((n - m) + m) = irq_room-grows bodies m (n - m) in
    omega arith

-- ---- one body more

pub fault-bp : (bodies : List Body) (b c : Body) → In b bodies → is_on_kernel is_bp b ≡ true → has_item is_breakpoint b ≡ false → has_item is_breakpoint c
    ≡ true
    → suc (fault_room bodies b) ≤ fault_room bodies c
unfolding fault_room bp_room
fault-bp bodies b c m k none some =
    let e : cond (has_item is_breakpoint b) (bp_room bodies) 0 ≡ 0 = cond-false (has_item is_breakpoint b) (bp_room bodies) 0 none in
    let f : cond (has_item is_breakpoint c) (bp_room bodies) 0 ≡ bp_room bodies = cond-true (has_item is_breakpoint c) (bp_room bodies) 0 some in
    let g : suc (access_room bodies b) ≤ greatest (is_on_kernel is_bp) (λ x. suc (access_room bodies x)) bodies
    = greatest-over (is_on_kernel is_bp) (λ x. suc (access_room bodies x)) b bodies m k in
    omega arith

pub fault-pf : (bodies : List Body) (b c : Body) → In b bodies → is_on_kernel is_pf b ≡ true → has_item is_breakpoint b ≡ false → has_item is_user_access b
    ≡ false
    → has_item is_user_access c ≡ true → suc (fault_room bodies b) ≤ fault_room bodies c
unfolding fault_room pf_room
fault-pf bodies b c m k none calm some =
    let e : cond (has_item is_breakpoint b) (bp_room bodies) 0 ≡ 0 = cond-false (has_item is_breakpoint b) (bp_room bodies) 0 none in
    let f : cond (has_item is_user_access b) (pf_room bodies) 0 ≡ 0 = cond-false (has_item is_user_access b) (pf_room bodies) 0 calm in
    let g : cond (has_item is_user_access c) (pf_room bodies) 0 ≡ pf_room bodies = cond-true (has_item is_user_access c) (pf_room bodies) 0 some in
    let h : 1 ≤ greatest (is_on_kernel is_pf) (λ x. 1) bodies = greatest-over (is_on_kernel is_pf) (λ x. 1) b bodies m k in
    omega arith

-- the same of whole chains, where no NMI starts
fall-fault : (bodies : List Body) (b c : Body) (below : List Body) → is_nmi b.key ≡ false → has_item is_sti b ≡ false → suc (fault_room bodies b) ≤ fault_room
    bodies c
    → suc (room bodies (b ∷ c ∷ below)) ≤ room bodies (c ∷ below)
fall-fault bodies b c below non calm h =
    let e : any_nmi (b ∷ c ∷ below) ≡ any_nmi (c ∷ below) = ap (λ t. t || any_nmi (c ∷ below)) non in
    let r : room_at bodies (any_nmi (b ∷ c ∷ below)) (first_class (b ∷ c ∷ below)) b ≡ room_at bodies (any_nmi (c ∷ below)) (first_class (b ∷ c ∷ below)) b
    = ap (λ t. room_at bodies t (first_class (b ∷ c ∷ below)) b) e in
    let u : room_at bodies (any_nmi (c ∷ below)) (first_class (b ∷ c ∷ below)) b ≤ fault_room bodies b + later_nmi bodies (any_nmi (c ∷ below))
    = room-most bodies (any_nmi (c ∷ below)) (first_class (b ∷ c ∷ below)) b calm in
    let l : fault_room bodies c + later_nmi bodies (any_nmi (c ∷ below)) ≤ room_at bodies (any_nmi (c ∷ below)) (first_class (c ∷ below)) c
    = room-least bodies (any_nmi (c ∷ below)) (first_class (c ∷ below)) c in
    by (room_at bodies (any_nmi (b ∷ c ∷ below)) (first_class (b ∷ c ∷ below)) b) (room_at bodies (any_nmi (c ∷ below)) (first_class (b ∷ c ∷ below)) b)
    (room_at bodies (any_nmi (c ∷ below)) (first_class (c ∷ below)) c) (later_nmi bodies (any_nmi (c ∷ below))) r u l
  where
    by : (x y z n : ℕ) → x ≡ y → y ≤ fault_room bodies b + n → fault_room bodies c + n ≤ z → suc x ≤ z
    by x y z n r u l = omega arith

none_nmi : (bs : List Body) → list_all (λ (c : Body). not (is_nmi c.key)) bs ≡ true → any_nmi bs ≡ false
none_nmi [] h = refl
none_nmi (c ∷ cs) h =
    let p : (not (is_nmi c.key) ≡ true) × (list_all (λ (x : Body). not (is_nmi x.key)) cs ≡ true) =
    and_parts (not (is_nmi c.key)) (list_all (λ (x : Body). not (is_nmi x.key)) cs) h in
    or_from (is_nmi c.key) (any_nmi cs) (not-true (is_nmi c.key) p.0) (none_nmi cs p.1)

room-true : (bodies : List Body) (t : Bool) (class : ℕ) (b : Body) → t ≡ true → room_at bodies t class b ≡ fault_room bodies b
unfolding room_at
room-true bodies t class b e = ap (λ (x : Bool). room_at bodies x class b) e

room-false : (bodies : List Body) (t : Bool) (class : ℕ) (b : Body) → t ≡ false → room_at bodies t class b ≡ open_room bodies (irq_room bodies (16 - class)) b
unfolding room_at
room-false bodies t class b e = ap (λ (x : Bool). room_at bodies x class b) e

open_room-sti : (bodies : List Body) (up : ℕ) (c : Body) → has_item is_sti c ≡ true → up ≤ open_room bodies up c
unfolding open_room
open_room-sti bodies up c sti = let f : cond (has_item is_sti c) up 0 ≡ up = cond-true (has_item is_sti c) up 0 sti in omega arith

nmi_room-over : (bodies : List Body) (b : Body) → In b bodies → is_on_kernel is_nmi b ≡ true → suc (fault_room bodies b) ≤ nmi_room bodies
unfolding nmi_room
nmi_room-over bodies b m k = greatest-over (is_on_kernel is_nmi) (λ x. suc (fault_room bodies x)) b bodies m k

irq_room-over : (bodies : List Body) (n : ℕ) (b : Body) → In b bodies → is_on_kernel (is_class (15 - n)) b ≡ true
    → suc (open_room bodies (irq_room bodies n) b) ≤ irq_room bodies (suc n)
unfolding irq_room class_room
irq_room-over bodies n b m k =
    let g : suc (open_room bodies (irq_room bodies n) b) ≤ greatest (is_on_kernel (is_class (15 - n))) (λ x. suc (open_room bodies (irq_room bodies n) x))
    bodies
    = greatest-over (is_on_kernel (is_class (15 - n))) (λ x. suc (open_room bodies (irq_room bodies n) x)) b bodies m k in
    omega arith

class-at : (class : ℕ) (v : ℕ) (k : Key) → k ≡ Irq v → v / 16 ≡ class → is_class class k ≡ true
unfolding is_class
class-at class v k e h = ap (is_class class) e ∙ eq-eqb (v / 16) class h

least-at : (v : ℕ) (k : Key) → k ≡ Irq v → (least_class k ≡ suc (v / 16)) × (is_nmi k ≡ false)
unfolding least_class is_nmi
least-at v k e = (ap least_class e, ap is_nmi e)

fall-nmi : (bodies : List Body) (b c : Body) (below : List Body) → In b bodies → is_on_kernel is_nmi b ≡ true → any_nmi (c ∷ below) ≡ false
    → suc (room bodies (b ∷ c ∷ below)) ≤ room bodies (c ∷ below)
fall-nmi bodies b c below m k non =
    let t : is_nmi b.key ≡ true = (and_parts (is_nmi b.key) (covers b.side Kernel) k).0 in
    let e : any_nmi (b ∷ c ∷ below) ≡ true = ap (λ t. t || any_nmi (c ∷ below)) t in
    let l : fault_room bodies c + later_nmi bodies (any_nmi (c ∷ below)) ≤ room_at bodies (any_nmi (c ∷ below)) (first_class (c ∷ below)) c
    = room-least bodies (any_nmi (c ∷ below)) (first_class (c ∷ below)) c in
    by (room_at bodies (any_nmi (b ∷ c ∷ below)) (first_class (b ∷ c ∷ below)) b) (room_at bodies (any_nmi (c ∷ below)) (first_class (c ∷ below)) c)
    (later_nmi bodies (any_nmi (c ∷ below)))
    (room-true bodies (any_nmi (b ∷ c ∷ below)) (first_class (b ∷ c ∷ below)) b e) (ap (later_nmi bodies) non) (nmi_room-over bodies b m k) l
  where
    by : (x z n : ℕ) → x ≡ fault_room bodies b → n ≡ nmi_room bodies → suc (fault_room bodies b) ≤ nmi_room bodies → fault_room bodies c + n ≤ z → suc x ≤ z
    by x z n e f g l = omega arith

-- all interrupts below stand in lower classes
below_class : (v : ℕ) (k : Key) → is_below v k ≡ true → least_class k ≤ v / 16
unfolding is_below least_class
below_class v (Irq w) h = ltb-true (w / 16) (v / 16) h
below_class v _ h = omega arith

pub all_below : (v : ℕ) (bs : List Body) → list_all (λ (c : Body). is_below v c.key && not (is_nmi c.key)) bs ≡ true → (any_nmi bs ≡ false)
    × (first_class bs ≤ v / 16)
all_below v [] h = (refl, omega arith)
all_below v (c ∷ cs) h =
    let p = and_parts (is_below v c.key && not (is_nmi c.key)) (list_all (λ (x : Body). is_below v x.key && not (is_nmi x.key)) cs) h in
    let q = and_parts (is_below v c.key) (not (is_nmi c.key)) p.0 in
    let ih : (any_nmi cs ≡ false) × (first_class cs ≤ v / 16) = all_below v cs p.1 in
    let l : least_class c.key ≤ v / 16 = below_class v c.key q.0 in
    (or_from (is_nmi c.key) (any_nmi cs) (not-true (is_nmi c.key) q.1) ih.0, omega arith)

fall-irq : (bodies : List Body) (v : ℕ) (b c : Body) (below : List Body) → In b bodies → v < 256 → b.key ≡ Irq v → covers b.side Kernel ≡ true
    → has_item is_sti c ≡ true
    → (any_nmi (c ∷ below) ≡ false) × (first_class (c ∷ below) ≤ v / 16) → suc (room bodies (b ∷ c ∷ below)) ≤ room bodies (c ∷ below)
fall-irq bodies v b c below m lt e side sti facts =
    let non : any_nmi (b ∷ c ∷ below) ≡ false = or_from (is_nmi b.key) (any_nmi (c ∷ below)) (least-at v b.key e).1 facts.0 in
    let class : least_class b.key ≡ suc (v / 16) = (least-at v b.key e).0 in
    let q : v / 16 ≤ 15 = omega arith in
    let n : ℕ = 15 - v / 16 in
    let top : 16 - first_class (b ∷ c ∷ below) ≡ n = tops (least_class b.key) (first_class (c ∷ below)) class facts.1 in
    let is : is_class (15 - n) b.key ≡ true = class-at (15 - n) v b.key e (omega arith) in
    let g : suc (open_room bodies (irq_room bodies n) b) ≤ irq_room bodies (suc n) =
    irq_room-over bodies n b m (and_from (is_class (15 - n) b.key) (covers b.side Kernel) is side) in
    let s : irq_room bodies (suc n) ≤ irq_room bodies (16 - first_class (c ∷ below)) = irq_room-le bodies (suc n) (16 - first_class (c ∷ below))
    (omega arith) in
    by (room_at bodies (any_nmi (b ∷ c ∷ below)) (first_class (b ∷ c ∷ below)) b) (room_at bodies (any_nmi (c ∷ below)) (first_class (c ∷ below)) c)
    (open_room bodies (irq_room bodies n) b) (irq_room bodies (suc n)) (irq_room bodies (16 - first_class (c ∷ below)))
    (room-false bodies (any_nmi (b ∷ c ∷ below)) (first_class (b ∷ c ∷ below)) b non ∙ ap (λ x. open_room bodies (irq_room bodies x) b) top) g s
    (open_room-sti bodies (irq_room bodies (16 - first_class (c ∷ below))) c sti)
    (room-false bodies (any_nmi (c ∷ below)) (first_class (c ∷ below)) c facts.0)
  where
    tops : (a f : ℕ) → a ≡ suc (v / 16) → f ≤ v / 16 → 16 - max a f ≡ 15 - v / 16
    tops a f h k = omega arith

    by : (x z o i j : ℕ) → x ≡ o → suc o ≤ i → i ≤ j → j ≤ open_room bodies j c → z ≡ open_room bodies j c → suc x ≤ z
    by x z o i j a g s l w = omega arith

-- a body that may start takes at least one place
pub falls : (bodies : List Body) → AreQuiet bodies → (b c : Body) (below : List Body) → In b bodies → covers b.side Kernel ≡ true → may_start b.key c below
    ≡ true
    → suc (room bodies (b ∷ c ∷ below)) ≤ room bodies (c ∷ below)
unfolding may_start is_bp is_pf is_nmi
falls bodies quiet b c below m side may = by b.key refl may
  where
    by : (k : Key) → b.key ≡ k → may_start k c below ≡ true → suc (room bodies (b ∷ c ∷ below)) ≤ room bodies (c ∷ below)
    by Bp e h =
        let k : is_on_kernel is_bp b ≡ true = and_from (is_bp b.key) (covers b.side Kernel) (ap is_bp e) side in
        let q = (quiet b m).bp k in
        fall-fault bodies b c below (ap is_nmi e) q.1 (fault-bp bodies b c m k q.0 h)
    by Pf e h =
        let k : is_on_kernel is_pf b ≡ true = and_from (is_pf b.key) (covers b.side Kernel) (ap is_pf e) side in
        let q = (quiet b m).pf k in
        fall-fault bodies b c below (ap is_nmi e) q.2 (fault-pf bodies b c m k q.0 q.1 h)
    by Nmi e h = fall-nmi bodies b c below m (and_from (is_nmi b.key) (covers b.side Kernel) (ap is_nmi e) side) (none_nmi (c ∷ below) h)
    by (Irq v) e h =
        let p = and_parts (has_item is_sti c) (list_all (λ (x : Body). is_below v x.key && not (is_nmi x.key)) (c ∷ below)) h in
        fall-irq bodies v b c below m ((quiet b m).irq v e) e side p.0 (all_below v (c ∷ below) p.1)
    by _ e h = absurd (false≢true h)

abbrev pub AllIn : List Body → List Body → Type 0
AllIn bodies [] = Unit {0}
AllIn bodies (b ∷ bs) = In b bodies × AllIn bodies bs

alone : (bodies : List Body) (b : Body) → room bodies (b ∷ []) ≡ entry_room bodies b
unfolding entry_room room_at
alone bodies b = same (is_nmi b.key) refl
  where
    max0 : (n : ℕ) → max n 0 ≡ n
    max0 n = omega arith

    same : (t : Bool) → is_nmi b.key ≡ t → room bodies (b ∷ []) ≡ entry_room bodies b
    same true e = ap (λ (t : Bool). room_at bodies (t || false) (max (least_class b.key) 0) b) e
        ∙ sym (cond-true (is_nmi b.key) (fault_room bodies b) (open_room bodies (irq_room bodies (16 - least_class b.key)) b) e)
    same false e = ap (λ (t : Bool). room_at bodies (t || false) (max (least_class b.key) 0) b) e
        ∙ ap (λ (n : ℕ). open_room bodies (irq_room bodies (16 - n)) b) (max0 (least_class b.key))
        ∙ sym (cond-false (is_nmi b.key) (fault_room bodies b) (open_room bodies (irq_room bodies (16 - least_class b.key)) b) e)

pub bound-over : (bodies : List Body) (b : Body) → In b bodies → covers b.side User ≡ true → suc (entry_room bodies b) ≤ bound_of bodies
unfolding bound_of
bound-over bodies b m h = greatest-over is_on_user (λ x. suc (entry_room bodies x)) b bodies m h

-- the first body has entry_room, and later ones take from it
pub length-bounded : (bodies : List Body) → AreQuiet bodies → (bs : List Body) → AllIn bodies bs → is_legal bs ≡ true
    → length bs + room bodies bs ≤ bound_of bodies
unfolding is_legal
length-bounded bodies quiet [] m h = absurd (false≢true h)
length-bounded bodies quiet (b ∷ []) m h =
    let g : suc (entry_room bodies b) ≤ bound_of bodies = bound-over bodies b m.0 h in
    let e : room bodies (b ∷ []) ≡ entry_room bodies b = alone bodies b in
    one (room bodies (b ∷ [])) (entry_room bodies b) e g
  where
    one : (x y : ℕ) → x ≡ y → suc y ≤ bound_of bodies → 1 + x ≤ bound_of bodies
    one x y e g = omega arith
length-bounded bodies quiet (b ∷ c ∷ below) m h =
    let p = and_parts (covers b.side Kernel && may_start b.key c below) (is_legal (c ∷ below)) h in
    let q = and_parts (covers b.side Kernel) (may_start b.key c below) p.0 in
    let ih : length (c ∷ below) + room bodies (c ∷ below) ≤ bound_of bodies = length-bounded bodies quiet (c ∷ below) m.1 p.1 in
    let f : suc (room bodies (b ∷ c ∷ below)) ≤ room bodies (c ∷ below) = falls bodies quiet b c below m.0 q.0 q.1 in
    more (length below) (room bodies (b ∷ c ∷ below)) (room bodies (c ∷ below)) f ih
  where
    more : (n x y : ℕ) → suc x ≤ y → suc n + y ≤ bound_of bodies → suc (suc n) + x ≤ bound_of bodies
    more n x y f g = omega arith
