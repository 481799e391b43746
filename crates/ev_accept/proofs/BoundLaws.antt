-- The formula is the bound of an image that keeps the rules; bounds are unique and at most 20.
use Rattle.std.proofs.Common.{◌≡◌, refl, ◌∙◌, ap, ℕ, zero, suc, ◌+◌, ◌-◌, ◌≤◌, max, Bool, true, false, cond, not, ◌||◌, ◌&&◌, eqb, leb, List, [], ◌∷◌, length, None, ◌⊎◌, inl, inr, arith}
use Rattle.std.specs.List.{list_all}
use Rattle.std.proofs.lemmas.Bool.{and_parts, and_from, false≢true}
use Rattle.ev_body.specs.declared.body.Body.{Body}
use Rattle.ev_body.specs.declared.image.Image.{Image}
use Rattle.ev_body.specs.Bodies.{body_items, key_number}
use Rattle.ev_body.specs.WellFormed.{is_key, is_body, IsImage, is_user_only, is_user_side, ends_with, is_ret, has_operands, has_no_parts, are_parts}
use Rattle.ev_abstract.specs.Chain.{has_item, is_breakpoint, is_user_access, is_sti, is_nmi, is_legal, bodies_of, IsBound}
use Rattle.ev_abstract.specs.Rules.{rules}
use Rattle.ev_accept.specs.Bound.{greatest, is_bp, is_pf, is_class, least_class, is_on_kernel, pf_room, access_room, bp_room, fault_room, nmi_room, open_room, class_room, irq_room, entry_room, is_on_user, bound_of}
use Rattle.ev_accept.proofs.Members.{At, greatest-at}
use Rattle.ev_accept.proofs.Upper.{AreQuiet, room, length-bounded}
use Rattle.ev_accept.proofs.Lower.{Legal, bound-reached}
use Rattle.ev_accept.proofs.Numbers.{Numbered, numbered, Bodied, bodied}
use Rattle.ev_accept.proofs.Facts.{on_user, kept_from, are_quiet}

pub keys_of : (bytes : ℕ) (bs : List Body) → list_all (is_body bytes) bs ≡ true → list_all (λ (b : Body). is_key b.key) bs ≡ true
keys_of bytes [] h = refl
keys_of bytes (b ∷ bs) h =
    let p = and_parts (is_body bytes b) (list_all (is_body bytes) bs) h in
    and_from (is_key b.key) (list_all (λ (c : Body). is_key c.key) bs)
    (front (is_key b.key) (not (is_user_only b.key) || is_user_side b.side) (ends_with is_ret b.items)
    (list_all (has_operands bytes 0 (length b.items)) b.items)
    (has_no_parts b.parts || eqb (key_number b.key) 0xfb) (are_parts bytes (length b.items) b.parts) (leb (length (body_items b)) 256) p.0)
    (keys_of bytes bs p.1)
  where
    front : (k a c d e f g : Bool) → (k && a && c && d && e && f && g) ≡ true → k ≡ true
    front true a c d e f g h = refl
    front false a c d e f g h = absurd (false≢true h)

pub bound-is : (image : Image) → IsImage image → rules image ≡ None → IsBound image (bound_of image.bodies)
bound-is image is h =
    let kept = kept_from image h in
    let quiet : AreQuiet image.bodies = are_quiet image kept.ifs kept.faults (keys_of (length image.text) image.bodies is.bodies_given.1) in
    let u = on_user image kept.bodies in
    let l : Legal image.bodies (bound_of image.bodies) = bound-reached image.bodies quiet u.body u.member u.side in
    let n : Numbered image l.list = numbered image l.list l.members in
    record {
      reached = (n.chain, record { bodies = n.within; legal = ap is_legal n.are ∙ l.legal }, n.long ∙ l.long);
      greatest = λ chain c.
          let b : Bodied image chain = bodied image chain c.bodies in
          shorter (length chain) (length (bodies_of image chain)) (room image.bodies (bodies_of image chain)) b.long
          (length-bounded image.bodies quiet (bodies_of image chain) b.members c.legal);
    }
  where
    shorter : (x y r : ℕ) → y ≡ x → y + r ≤ bound_of image.bodies → x ≤ bound_of image.bodies
    shorter x y r e h = omega arith

pub bound-unique : (image : Image) (m n : ℕ) → IsBound image m → IsBound image n → m ≡ n
bound-unique image m n a b =
    let x : length a.reached.0 ≤ n = b.greatest a.reached.0 a.reached.1 in
    let y : length b.reached.0 ≤ m = a.greatest b.reached.0 b.reached.1 in
    let p : length a.reached.0 ≡ m = a.reached.2 in
    let q : length b.reached.0 ≡ n = b.reached.2 in
    omega arith

-- ---- the formula is small

pub most : (test : Body → Bool) (value : Body → ℕ) (bs : List Body) (n : ℕ) → ((b : Body) → value b ≤ n) → greatest test value bs ≤ n
most test value bs n h = by (greatest-at test value bs)
  where
    by : (greatest test value bs ≡ 0) ⊎ At test value bs (greatest test value bs) → greatest test value bs ≤ n
    by (inl z) = omega arith
    by (inr a) = let l : value a.body ≤ n = h a.body in let e : value a.body ≡ greatest test value bs = a.is in omega arith

chosen : (b : Bool) (x n : ℕ) → x ≤ n → cond b x 0 ≤ n
chosen true x n h = h
chosen false x n h = omega arith

pub pf_room-small : (bodies : List Body) → pf_room bodies ≤ 1
unfolding pf_room
pf_room-small bodies = most (is_on_kernel is_pf) (λ b. 1) bodies 1 (λ b. omega arith)

pub access-small : (bodies : List Body) (b : Body) → access_room bodies b ≤ 1
access-small bodies b = chosen (has_item is_user_access b) (pf_room bodies) 1 (pf_room-small bodies)

pub bp_room-small : (bodies : List Body) → bp_room bodies ≤ 2
unfolding bp_room
bp_room-small bodies = most (is_on_kernel is_bp) (λ b. suc (access_room bodies b)) bodies 2 (λ b. let a : access_room bodies b ≤ 1 = access-small bodies b in
    omega arith)

pub fault_room-small : (bodies : List Body) (b : Body) → fault_room bodies b ≤ 2
unfolding fault_room
fault_room-small bodies b =
    let c : cond (has_item is_breakpoint b) (bp_room bodies) 0 ≤ 2 = chosen (has_item is_breakpoint b) (bp_room bodies) 2 (bp_room-small bodies) in
    let a : access_room bodies b ≤ 1 = access-small bodies b in
    omega arith

pub nmi_room-small : (bodies : List Body) → nmi_room bodies ≤ 3
unfolding nmi_room
nmi_room-small bodies = most (is_on_kernel is_nmi) (λ b. suc (fault_room bodies b)) bodies 3
    (λ b. let a : fault_room bodies b ≤ 2 = fault_room-small bodies b in omega arith)

pub open_room-small : (bodies : List Body) (up : ℕ) (b : Body) (n : ℕ) → up ≤ n → open_room bodies up b ≤ max 5 n
unfolding open_room
open_room-small bodies up b n h =
    let c : cond (has_item is_sti b) up 0 ≤ n = chosen (has_item is_sti b) up n h in
    let f : fault_room bodies b ≤ 2 = fault_room-small bodies b in
    let m : nmi_room bodies ≤ 3 = nmi_room-small bodies in
    omega arith

pub irq_room-small : (bodies : List Body) (n : ℕ) → irq_room bodies n ≤ n + 5
unfolding irq_room class_room
irq_room-small bodies zero = omega arith
irq_room-small bodies (suc n) =
    let ih : irq_room bodies n ≤ n + 5 = irq_room-small bodies n in
    let g : greatest (is_on_kernel (is_class (15 - n))) (λ b. suc (open_room bodies (irq_room bodies n) b)) bodies ≤ suc (n + 5)
    = most (is_on_kernel (is_class (15 - n))) (λ b. suc (open_room bodies (irq_room bodies n) b)) bodies (suc (n + 5))
    (λ b. let o : open_room bodies (irq_room bodies n) b ≤ max 5 (n + 5) = open_room-small bodies (irq_room bodies n) b (n + 5) ih in omega arith) in
    omega arith

pub entry_room-small : (bodies : List Body) (b : Body) → entry_room bodies b ≤ 21
unfolding entry_room
entry_room-small bodies b =
    let f : fault_room bodies b ≤ 2 = fault_room-small bodies b in
    let i : irq_room bodies (16 - least_class b.key) ≤ 16 - least_class b.key + 5 = irq_room-small bodies (16 - least_class b.key) in
    let o : open_room bodies (irq_room bodies (16 - least_class b.key)) b ≤ max 5 21 = open_room-small bodies (irq_room bodies (16 - least_class b.key)) b 21
    (omega arith) in
    either (is_nmi b.key) (fault_room bodies b) (open_room bodies (irq_room bodies (16 - least_class b.key)) b) (omega arith) (omega arith)
  where
    either : (t : Bool) (x y : ℕ) → x ≤ 21 → y ≤ 21 → cond t x y ≤ 21
    either true x y h k = h
    either false x y h k = k

pub bound-small : (bodies : List Body) → bound_of bodies ≤ 22
unfolding bound_of
bound-small bodies = most is_on_user (λ b. suc (entry_room bodies b)) bodies 22 (λ b. let a : entry_room bodies b ≤ 21 = entry_room-small bodies b in
    omega arith)
