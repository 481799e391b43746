-- Which words of a stack are live: a word lies on one stack, and is live where it is in use there or in the saved area of that stack's task.
use Rattle.std.proofs.Common.{◌≡◌, ℕ, zero, suc, ◌+◌, ◌-◌, ◌<◌, ◌≤◌, Bool, true, false, ◌&&◌, not, List, [], ◌∷◌, length, map, refl, sym, ap, ◌∙◌, arith}
use Rattle.std.specs.Prelude.{◌||◌, nat_lt, nat_le, cond, filter, min}
use Rattle.std.specs.List.{list_any}
use Rattle.std.proofs.lemmas.Bool.{and_parts, leb-true, ltb-true}
use Rattle.ev_isa.specs.Word.{NatMap, numbers_from}
use Rattle.ev_isa.specs.declared.mode.Mode.{Mode}
use Rattle.ev_isa.specs.declared.mode.Mode.TheVariants.{Idt, Fred}
use Rattle.ev_body.specs.declared.image.Image.{Image}
use Rattle.ev_listing.specs.AddressMap.{stack_top, stack_bytes}
use Rattle.ev_concrete.specs.Opening.{tasks_of}
use Rattle.ev_concrete.specs.ConcreteRun.{System, Activation, interrupted}
use Rattle.ev_concrete.specs.LiveWords.{stands_on, standing, lowest, is_from, is_homeless, is_in_use, is_kept, is_live_on, is_live, area_bytes}

-- a word of stack n of p
pub record IsOnStack (p n a : ℕ) : Type 0 where
  pub from : stack_top p n ≤ a + stack_bytes
  pub to : a < stack_top p n

-- ---- tests

none_among : (test : ℕ → Bool) (i k : ℕ) → ((n : ℕ) → i ≤ n → n < i + k → test n ≡ false) → list_any test (numbers_from i k) ≡ false
none_among test i zero h = refl
none_among test i (suc k) h = ap (λ b. b || list_any test (numbers_from (suc i) k)) (h i (omega arith) (omega arith))
    ∙ none_among test (suc i) k (λ n l g. h n (omega arith) (omega arith))

-- what holds of no truth is false
untrue : (b : Bool) → (b ≡ true → ⊥) → b ≡ false
untrue true h = absurd (h refl)
untrue false h = refl

-- ---- from the lowest of numbers on

lower : (lo x y : ℕ) → lo ≤ x → lo ≤ y → lo ≤ min x y
lower lo x y h k = omega arith

AreFrom : ℕ → List ℕ → Type 0
AreFrom lo [] = Unit {0}
AreFrom lo (x ∷ xs) = (lo ≤ x) × AreFrom lo xs

from_least : (lo a x : ℕ) (xs : List ℕ) → lo ≤ x → AreFrom lo xs → is_from (lowest (x ∷ xs)) a ≡ true → lo ≤ a
unfolding AreFrom
from_least lo a x [] h k e = let l = leb-true x a e in omega arith
from_least lo a x (y ∷ ys) h k e = from_least lo a (min x y) ys (lower lo x y h k.0) k.1 e

from_lowest : (lo a : ℕ) (xs : List ℕ) → AreFrom lo xs → is_from (lowest xs) a ≡ true → lo ≤ a
unfolding AreFrom
from_lowest lo a [] k e = absurd (cc)
from_lowest lo a (x ∷ xs) k e = from_least lo a x xs k.0 k.1 e

-- ---- words in use lie on their stack

module _ (mode : Mode) (words : NatMap ℕ) (q k : ℕ) where
  on_it : (a : Activation) → stands_on mode words q k a ≡ true → stack_top q k - stack_bytes ≤ a.rsp
  on_it a h =
      let x = and_parts (not (is_homeless mode words a.rip) && nat_le (stack_top q k - stack_bytes) a.rsp) (nat_le a.rsp (stack_top q k)) h in
      leb-true (stack_top q k - stack_bytes) a.rsp (and_parts (not (is_homeless mode words a.rip)) (nat_le (stack_top q k - stack_bytes) a.rsp) x.0).1

  more_on_it : (a : Activation) (as' : List Activation) (b : Bool) → stands_on mode words q k a ≡ b
      → AreFrom (stack_top q k - stack_bytes) (map (λ (a : Activation). a.rsp) as')
      → AreFrom (stack_top q k - stack_bytes) (map (λ (a : Activation). a.rsp) (cond b (a ∷ as') as'))
  unfolding AreFrom
  more_on_it a as' true h k = (on_it a h, k)
  more_on_it a as' false h k = k

  all_on_it : (as' : List Activation) → AreFrom (stack_top q k - stack_bytes) (map (λ (a : Activation). a.rsp) (filter (stands_on mode words q k) as'))
  unfolding AreFrom
  all_on_it [] = tt
  all_on_it (a ∷ as') = more_on_it a (filter (stands_on mode words q k) as') (stands_on mode words q k a) refl (all_on_it as')

in_use_there : (mode : Mode) (s : System) (q k a : ℕ) → is_in_use mode s q k a ≡ true → IsOnStack q k a
in_use_there mode s q k a h =
    let on : List Activation = standing mode s q k in
    let x = and_parts (nat_lt a (stack_top q k) && is_from (lowest (map (λ (a : Activation). a.rsp) on)) a) _ h in
    let y = and_parts (nat_lt a (stack_top q k)) (is_from (lowest (map (λ (a : Activation). a.rsp) on)) a) x.0 in
    let from : stack_top q k - stack_bytes ≤ a
    = from_lowest (stack_top q k - stack_bytes) a _ (all_on_it mode s.memory.words q k (interrupted (s.cpus q) (s.activations q))) y.1 in
    record { from = omega arith; to = ltb-true a (stack_top q k) y.0 }

small_area : (mode : Mode) → area_bytes mode ≤ 0xc0
small_area Idt = omega arith
small_area Fred = omega arith

kept_there : (mode : Mode) (s : System) (q i a : ℕ) → is_kept mode s q i a ≡ true → IsOnStack q i a
kept_there mode s q i a h =
    let x = and_parts (nat_le (stack_top q i - area_bytes mode) a && nat_lt a (stack_top q i) && not
    (list_any (λ (a : Activation). nat_lt a.rsp (stack_top q i)) (standing mode s q i))) _ h in
    let y = and_parts (nat_le (stack_top q i - area_bytes mode) a && nat_lt a (stack_top q i)) _ x.0 in
    let z = and_parts (nat_le (stack_top q i - area_bytes mode) a) (nat_lt a (stack_top q i)) y.0 in
    let from = leb-true (stack_top q i - area_bytes mode) a z.0 in
    let few = small_area mode in
    record { from = omega arith; to = ltb-true a (stack_top q i) z.1 }

-- ---- a word lies on one stack

same_stack : (p n q k a : ℕ) → n < 7 → k < 7 → IsOnStack p n a → IsOnStack q k a → (q ≡ p) × (k ≡ n)
same_stack p n q k a hn hk h g =
    let a1 = h.from in let a2 = h.to in let b1 = g.from in let b2 = g.to in
    let same : q ≡ p = omega arith in (same, omega arith)

-- A word of stack n of p is not live where it isn't in use there, nor in the area that is kept of the stack's task.
pub not_live : (mode : Mode) (image : Image) (s : System) (p n a : ℕ) → ((q : ℕ) → q < image.processors → length (tasks_of image q) ≤ 4) → n < 7
    → IsOnStack p n a → is_in_use mode s p n a ≡ false → is_kept mode s p n a ≡ false → is_live mode image s a ≡ false
unfolding is_live
not_live mode image s p n a few hn on used kept =
    none_among (λ q. is_live_on mode s a (length (tasks_of image q)) q) 0 image.processors (λ q l lt. on_none q (omega arith))
  where
    none_used : (q k : ℕ) → k < 7 → is_in_use mode s q k a ≡ false
    none_used q k lt = untrue (is_in_use mode s q k a) (λ h.
        let e = same_stack p n q k a hn lt on (in_use_there mode s q k a h) in
        let there : is_in_use mode s q k a ≡ is_in_use mode s p n a = (λ i. is_in_use mode s (e.0 i) (e.1 i) a) in
        let clash : true ≡ false = sym h ∙ there ∙ used in cc)

    none_kept : (q k : ℕ) → k < 7 → is_kept mode s q k a ≡ false
    none_kept q k lt = untrue (is_kept mode s q k a) (λ h.
        let e = same_stack p n q k a hn lt on (kept_there mode s q k a h) in
        let there : is_kept mode s q k a ≡ is_kept mode s p n a = (λ i. is_kept mode s (e.0 i) (e.1 i) a) in
        let clash : true ≡ false = sym h ∙ there ∙ kept in cc)

    on_none : (q : ℕ) → q < image.processors → is_live_on mode s a (length (tasks_of image q)) q ≡ false
    on_none q lt =
        let four = few q lt in
        ap (λ b. b || list_any (λ i. is_kept mode s q i a) (numbers_from 0 (length (tasks_of image q))))
        (none_among (λ k. is_in_use mode s q k a) 0 7 (λ k l t. none_used q k (omega arith)))
        ∙ none_among (λ i. is_kept mode s q i a) 0 (length (tasks_of image q)) (λ i l t. none_kept q i (omega arith))
