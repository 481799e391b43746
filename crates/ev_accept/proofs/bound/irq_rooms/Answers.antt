use Rattle.std.proofs.Common.{◌≡◌, ◌≢◌, refl, ◌∙◌, ap, ℕ, zero, suc, ◌≤◌, ◌<◌, ◌+◌, ◌-◌, arith, List, [], ◌∷◌, length, get_or, set, ◌⊎◌, inl, inr, get_or-set_other, get_or-set_same}
use Rattle.std.proofs.lemmas.Bool.{cases_eq}
use Rattle.ev_body.specs.declared.body.Body.{Body}
use Rattle.ev_accept.specs.Bound.{class_room, irq_room}
use Rattle.ev_accept.proofs.BoundLaws.{irq_room-small}
use Rattle.std.proofs.lemmas.List.{length-set}
use Rattle.ev_accept.proofs.bound.irq_rooms.Goals as goal

row : (up : List ℕ) (n r v : ℕ) (p : ℕ → ℕ) → r ≡ n → r + 1 < length up → ((k : ℕ) → k < n + 1 → get_or up k 0 ≡ p k) → v ≡ p (n + 1) → (k : ℕ)
    → k < n + 1 + 1 → get_or (set up (r + 1) v) k 0 ≡ p k
row up n r v p e l before here k h = by (cases_eq k (r + 1))
  where
    by : (k ≡ r + 1) ⊎ (k ≡ r + 1 → ⊥) → get_or (set up (r + 1) v) k 0 ≡ p k
    by (inl same) = ap (λ (x : ℕ). get_or (set up (r + 1) v) x 0) same ∙ get_or-set_same up (r + 1) v 0 l ∙ here ∙ ap p (omega arith)
    by (inr other) = let lower : k < n + 1 = omega arith in let ne : k ≢ r + 1 = other in rw get_or-set_other (before k lower)

next : (bodies : List Body) (n m up : ℕ) → m ≡ n → up ≡ irq_room bodies n → class_room bodies (15 - m) up ≡ irq_room bodies (n + 1)
unfolding irq_room
next bodies n m up s e = let more : suc n ≡ n + 1 = omega arith in ap (λ (x : ℕ). class_room bodies (15 - x) up) s ∙ ap (class_room bodies (15 - n)) e
    ∙ ap (irq_room bodies) more

none : (bodies : List Body) → 0 ≡ irq_room bodies 0
unfolding irq_room
none bodies = refl

first : (bodies : List Body) (k : ℕ) → k < 1 → get_or (0 ∷ 0 ∷ 0 ∷ 0 ∷ 0 ∷ 0 ∷ 0 ∷ 0 ∷ 0 ∷ 0 ∷ 0 ∷ 0 ∷ 0 ∷ 0 ∷ 0 ∷ 0 ∷ 0 ∷ []) k 0 ≡ irq_room bodies k
first bodies zero h = none bodies
first bodies (suc k) h = absurd (omega arith)

pub loop-n-init : goal.loop-n-init
loop-n-init c = record { rows = first c.args.bodies.now; count = refl }

pub class_room-requires-clause-up : goal.class_room-requires-clause-up
class_room-requires-clause-up c =
    let e : c.from.result ≡ c.loop-n.n = c.from.ensures in
    let g : get_or c.loop-n.up c.from.result 0 ≡ irq_room c.args.bodies.now c.from.result = c.loop-n.invariant.rows c.from.result (omega arith) in
    let s : irq_room c.args.bodies.now c.from.result ≤ c.from.result + 5 = irq_room-small c.args.bodies.now c.from.result in
    omega arith

pub loop-n-preserved : goal.loop-n-preserved
loop-n-preserved c =
    let e : c.from.result ≡ c.loop-n.n = c.from.ensures in
    let g : get_or c.loop-n.up c.from.result 0 ≡ irq_room c.args.bodies.now c.from.result = c.loop-n.invariant.rows c.from.result (omega arith) in
    let l : c.from-in-loop-n.result + 1 < length c.loop-n.up = omega arith in
    let n : length (set c.loop-n.up (c.from-in-loop-n.result + 1) c.class_room.result) ≡ 17 = length-set c.loop-n.up (c.from-in-loop-n.result + 1)
    c.class_room.result ∙ c.loop-n.invariant.count in
    record {
      count = n;
      rows = row c.loop-n.up c.loop-n.n c.from-in-loop-n.result c.class_room.result (irq_room c.args.bodies.now) c.from-in-loop-n.ensures l
          c.loop-n.invariant.rows
          (c.class_room.ensures ∙ next c.args.bodies.now c.loop-n.n c.loop-n.n (get_or c.loop-n.up c.from.result 0) refl
          (g ∙ ap (irq_room c.args.bodies.now) e));
    }
