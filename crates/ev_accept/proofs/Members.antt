-- Bodies of a list, and the greatest value over them.
use Rattle.std.proofs.Common.{◌≡◌, refl, sym, ◌∙◌, ap, ℕ, ◌≤◌, ◌<◌, max, Bool, true, false, cond, List, [], ◌∷◌, ◌⊎◌, inl, inr, arith}
use Rattle.std.proofs.lemmas.Bool.{cond-true}
use Rattle.ev_body.specs.declared.body.Body.{Body}
use Rattle.ev_accept.specs.Bound.{greatest}

abbrev pub In : Body → List Body → Type 0
In b [] = ⊥
In b (c ∷ bs) = (b ≡ c) ⊎ In b bs

pub greatest-over : (test : Body → Bool) (value : Body → ℕ) (b : Body) (bs : List Body) → In b bs → test b ≡ true → value b ≤ greatest test value bs
greatest-over test value b [] m h = absurd m
greatest-over test value b (c ∷ bs) (inl e) h =
    let t : test c ≡ true = ap test (sym e) ∙ h in
    let v : value b ≡ value c = ap value e in
    let w : cond (test c) (value c) 0 ≡ value c = cond-true (test c) (value c) 0 t in
    omega arith
greatest-over test value b (c ∷ bs) (inr m) h =
    let ih : value b ≤ greatest test value bs = greatest-over test value b bs m h in
    omega arith

-- a body at which the greatest value stands
pub record At (test : Body → Bool) (value : Body → ℕ) (bs : List Body) (n : ℕ) : Type 0 where
  pub body : Body
  pub member : In body bs
  pub passes : test body ≡ true
  pub is : value body ≡ n

pub greatest-at : (test : Body → Bool) (value : Body → ℕ) (bs : List Body) → (greatest test value bs ≡ 0) ⊎ At test value bs (greatest test value bs)
greatest-at test value [] = inl refl
greatest-at test value (c ∷ bs) = by (test c) refl (greatest-at test value bs)
  where
    Goal : ℕ → Type 0
    Goal n = (n ≡ 0) ⊎ At test value (c ∷ bs) n

    later : (x : ℕ) → (greatest test value bs ≡ 0) ⊎ At test value bs (greatest test value bs) → x ≤ greatest test value bs
        → (max x (greatest test value bs) ≡ 0) ⊎ At test value (c ∷ bs) (max x (greatest test value bs))
    later x (inl z) h = inl (omega arith)
    later x (inr a) h = inr (record { body = a.body; member = inr a.member; passes = a.passes; is = a.is ∙ omega arith })

    here : test c ≡ true → (x : ℕ) → x ≡ value c → greatest test value bs < x → (max x (greatest test value bs) ≡ 0) ⊎ At test value (c ∷ bs)
        (max x (greatest test value bs))
    here t x e h = inr (record { body = c; member = inl refl; passes = t; is = sym e ∙ omega arith })

    split : (b : Bool) (x : ℕ) → test c ≡ b → x ≡ cond b (value c) 0 → (greatest test value bs ≡ 0) ⊎ At test value bs (greatest test value bs)
        → (x ≤ greatest test value bs) ⊎ (greatest test value bs < x)
        → (max x (greatest test value bs) ≡ 0) ⊎ At test value (c ∷ bs) (max x (greatest test value bs))
    split b x t e r (inl h) = later x r h
    split true x t e r (inr h) = here t x e h
    split false x t e r (inr h) = absurd (omega arith)

    compared : (x y : ℕ) → (x ≤ y) ⊎ (y < x)
    compared x y = grind arith

    by : (b : Bool) → test c ≡ b → (greatest test value bs ≡ 0) ⊎ At test value bs (greatest test value bs)
        → (max (cond (test c) (value c) 0) (greatest test value bs) ≡ 0) ⊎ At test value (c ∷ bs) (max (cond (test c) (value c) 0) (greatest test value bs))
    by b t r = split b (cond (test c) (value c) 0) t (ap (λ (z : Bool). cond z (value c) 0) t) r
        (compared (cond (test c) (value c) 0) (greatest test value bs))
