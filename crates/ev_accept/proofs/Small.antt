-- The bound is at most 20: interrupts have 14 classes.
use Rattle.std.proofs.Common.{◌≡◌, refl, sym, ◌∙◌, ap, ℕ, zero, suc, ◌+◌, ◌-◌, ◌/◌, ◌≤◌, ◌<◌, max, Bool, true, false, cond, ◌&&◌, leb, ltb, List, ◌⊎◌, inl, inr, arith, length}
use Rattle.std.proofs.lemmas.Bool.{and_parts, eqb-true, leb-true, false≢true, cases_lt}
use Rattle.ev_body.specs.declared.key.Key.{Key}
use Rattle.ev_body.specs.declared.key.Key.TheVariants.{Irq}
use Rattle.ev_body.specs.declared.key.Side.TheVariants.{Kernel}
use Rattle.ev_body.specs.declared.body.Body.{Body}
use Rattle.ev_body.specs.declared.image.Image.{Image}
use Rattle.ev_body.specs.Bodies.{covers}
use Rattle.ev_body.specs.WellFormed.{is_key, IsImage}
use Rattle.ev_abstract.specs.Chain.{is_nmi}
use Rattle.ev_accept.specs.Bound.{greatest, is_class, least_class, is_on_kernel, fault_room, open_room, class_room, irq_room, entry_room, is_on_user, bound_of}
use Rattle.ev_accept.proofs.Members.{In, At, greatest-at}
use Rattle.ev_accept.proofs.Facts.{all_at}
use Rattle.ev_accept.proofs.BoundLaws.{keys_of, most, fault_room-small, open_room-small, irq_room-small}

FromTwo : List Body → Type 0
FromTwo bodies = (b : Body) → In b bodies → (v : ℕ) → b.key ≡ Irq v → 32 ≤ v

no_such_key : (class : ℕ) (k : Key) → class < 2 → ((v : ℕ) → k ≡ Irq v → 32 ≤ v) → is_class class k ≡ true → ⊥
unfolding is_class
no_such_key class (Irq v) l f h = let e : v / 16 ≡ class = eqb-true (v / 16) class h in let g : 32 ≤ v = f v refl in omega arith
no_such_key class _ l f h = false≢true h

no_room : (bodies : List Body) → FromTwo bodies → (class up : ℕ) → class < 2 → class_room bodies class up ≡ up
unfolding class_room FromTwo
no_room bodies two class up l = by (greatest-at (is_on_kernel (is_class class)) (λ b. suc (open_room bodies up b)) bodies)
  where
    by : (greatest (is_on_kernel (is_class class)) (λ b. suc (open_room bodies up b)) bodies ≡ 0)
        ⊎ At (is_on_kernel (is_class class)) (λ b. suc (open_room bodies up b)) bodies
        (greatest (is_on_kernel (is_class class)) (λ b. suc (open_room bodies up b)) bodies)
        → max up (greatest (is_on_kernel (is_class class)) (λ b. suc (open_room bodies up b)) bodies) ≡ up
    by (inl z) = omega arith
    by (inr a) = absurd (no_such_key class a.body.key l (two a.body a.member) (and_parts (is_class class a.body.key) (covers a.body.side Kernel) a.passes).0)

irq_room-suc : (bodies : List Body) (n : ℕ) → irq_room bodies (suc n) ≡ class_room bodies (15 - n) (irq_room bodies n)
unfolding irq_room
irq_room-suc bodies n = refl

at_most : (bodies : List Body) → FromTwo bodies → (n : ℕ) → n ≤ 16 → irq_room bodies n ≤ 19
at_most bodies two zero l = let s : irq_room bodies 0 ≤ 0 + 5 = irq_room-small bodies 0 in omega arith
at_most bodies two (suc n) l = by (cases_lt n 14) (at_most bodies two n (omega arith))
  where
    by : (n < 14) ⊎ (14 ≤ n) → irq_room bodies n ≤ 19 → irq_room bodies (suc n) ≤ 19
    by (inl h) ih = let s : irq_room bodies (suc n) ≤ suc n + 5 = irq_room-small bodies (suc n) in omega arith
    by (inr h) ih =
        let e : irq_room bodies (suc n) ≡ class_room bodies (15 - n) (irq_room bodies n) = irq_room-suc bodies n in
        let f : class_room bodies (15 - n) (irq_room bodies n) ≡ irq_room bodies n = no_room bodies two (15 - n) (irq_room bodies n) (omega arith) in
        omega arith

entry_at_most : (bodies : List Body) → FromTwo bodies → (b : Body) → entry_room bodies b ≤ 19
unfolding entry_room
entry_at_most bodies two b =
    let f : fault_room bodies b ≤ 2 = fault_room-small bodies b in
    let i : irq_room bodies (16 - least_class b.key) ≤ 19 = at_most bodies two (16 - least_class b.key) (omega arith) in
    let o : open_room bodies (irq_room bodies (16 - least_class b.key)) b ≤ max 5 19 = open_room-small bodies (irq_room bodies (16 - least_class b.key)) b 19
    i in
    either (is_nmi b.key) (fault_room bodies b) (open_room bodies (irq_room bodies (16 - least_class b.key)) b) (omega arith) (omega arith)
  where
    either : (t : Bool) (x y : ℕ) → x ≤ 19 → y ≤ 19 → cond t x y ≤ 19
    either true x y h k = h
    either false x y h k = k

from_two : (k : Key) → is_key k ≡ true → (v : ℕ) → k ≡ Irq v → 32 ≤ v
unfolding is_key
from_two k h v e =
    let f : (leb 0x20 v && ltb v 0x100) ≡ true = sym (ap is_key e) ∙ h in
    leb-true 32 v (and_parts (leb 0x20 v) (ltb v 0x100) f).0

pub bound-at-most-20 : (image : Image) → IsImage image → bound_of image.bodies ≤ 20
unfolding bound_of FromTwo
bound-at-most-20 image is =
    most is_on_user (λ b. suc (entry_room image.bodies b)) image.bodies 20 (λ b. let e : entry_room image.bodies b ≤ 19 = entry_at_most image.bodies two b in
    omega arith)
  where
    two : (b : Body) → In b image.bodies → (v : ℕ) → b.key ≡ Irq v → 32 ≤ v
    two b m v e = from_two b.key (all_at (λ (c : Body). is_key c.key) b image.bodies (keys_of (length image.text) image.bodies is.bodies_given.1) m) v e
