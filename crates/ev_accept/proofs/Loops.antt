-- A loop that keeps the greatest value, at its end; and steps of the table of interrupts.
use Rattle.std.proofs.Common.{◌≡◌, refl, ap, ℕ, max, Bool, List, [], ◌∷◌, length, drop, arith}
use Rattle.ev_body.specs.declared.body.Body.{Body}
use Rattle.ev_accept.specs.Bound.{greatest}

-- the greatest value so far, and what is still to come
abbrev pub IsGreatestFrom : (Body → Bool) → (Body → ℕ) → List Body → ℕ → ℕ → Type 0
IsGreatestFrom test value bs i most = max most (greatest test value (drop i bs)) ≡ greatest test value bs

none_left : (test : Body → Bool) (value : Body → ℕ) (bs : List Body) → greatest test value (drop (length bs) bs) ≡ 0
none_left test value [] = refl
none_left test value (b ∷ bs) = none_left test value bs

pub greatest_all : (test : Body → Bool) (value : Body → ℕ) (bs : List Body) (i most : ℕ) → i ≡ length bs → IsGreatestFrom test value bs i most → most
    ≡ greatest test value bs
greatest_all test value bs i most e h =
    let n : greatest test value (drop (length bs) bs) ≡ 0 = none_left test value bs in
    let f : greatest test value (drop i bs) ≡ greatest test value (drop (length bs) bs) = ap (λ (k : ℕ). greatest test value (drop k bs)) e in
    omega arith
