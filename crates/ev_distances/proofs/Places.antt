-- Places of windows as numbers.
use Rattle.std.proofs.Common.{◌≡◌, ℕ, ◌+◌, ◌-◌, ◌%◌, ◌<◌, ◌≤◌, Bool, true, false, ◌&&◌, List, ◌∷◌, refl, sym, ap, ◌∙◌, arith, ◌⊎◌, inl, inr}
use Rattle.std.specs.Prelude.{◌==◌, nat_lt, if◌then◌else◌}
use Rattle.std.proofs.lemmas.Bool.{eqb-true, eq-eqb, ltb-true}
use Rattle.ev_symbolic.specs.Value.{M}
use Rattle.ev_symbolic.specs.State.{Loc, Win, is_within, in_one, in_win, loc_eq}
use Rattle.ev_symbolic.specs.Agrees.{Env, addr}
use Rattle.ev_symbolic.proofs.Values.{and_left, and_right}

-- what it is to lie in a window
pub record In (w : Win) (l : Loc) : Type 0 where
  pub tag : l.tag ≡ w.tag
  pub small : l.off < M
  pub near : (l.off + (M - w.lo)) % M < w.len

pub in_ok : (w : Win) (l : Loc) → is_within w l ≡ true → In w l
in_ok w l h =
    let r = and_right (w.tag == l.tag) _ h in
    record {
      tag = sym (eqb-true w.tag l.tag (and_left _ _ h));
      small = ltb-true l.off M (and_left _ _ r);
      near = ltb-true _ w.len (and_right (nat_lt l.off M) _ r);
    }

-- a word of a window
pub record InWord (w : Win) (l : Loc) : Type 0 where
  pub place : In w l
  pub multiple : l.off % 8 ≡ 0

pub word_ok : (w : Win) (l : Loc) → in_one w l ≡ true → InWord w l
word_ok w l h = record { place = in_ok w l (and_left (is_within w l) _ h); multiple = eqb-true (l.off % 8) 0 (and_right (is_within w l) _ h) }

-- which window
pub cases : (w : Win) (ws : List Win) (l : Loc) → in_win (w ∷ ws) l ≡ true → InWord w l ⊎ (in_win ws l ≡ true)
cases w ws l h = pick (in_one w l) refl h
  where
    pick : (b : Bool) → in_one w l ≡ b → (if b then true else in_win ws l) ≡ true → InWord w l ⊎ (in_win ws l ≡ true)
    pick true q r = inl (word_ok w l q)
    pick false q r = inr r

-- the address of a place in a window that doesn't wrap: its start and a distance
pub spot : (b off lo len start : ℕ) → off < M → lo < M → (b + lo) % M ≡ start → start + len ≤ M → (off + (M - lo)) % M < len
    → (b + off) % M ≡ start + (off + (M - lo)) % M
spot b off lo len start h1 h2 h3 h4 h5 = omega arith

same_off : (b o p : ℕ) → o < M → p < M → (b + o) % M ≡ (b + p) % M → o ≡ p
same_off b o p h k e = omega arith

-- two places of one base
pub one_base : (e : Env) (k l : Loc) → k.tag ≡ l.tag → k.off < M → l.off < M → loc_eq k l ≡ false → addr e k ≡ addr e l → ⊥
one_base e k l t i j ne h =
    let o : k.off ≡ l.off = same_off (e.base l.tag) k.off l.off i j (ap (λ t. (e.base t + k.off) % M) (sym t) ∙ h) in
    let z : loc_eq k l ≡ true = ap (λ b. b && (k.off == l.off)) (eq-eqb k.tag l.tag t) ∙ eq-eqb k.off l.off o in
    let y : true ≡ false = sym z ∙ ne in
    absurd (cc)
