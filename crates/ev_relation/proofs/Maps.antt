-- A map with another value at one number.
use Rattle.std.proofs.Common.{◌≡◌, ℕ, false, refl}
use Rattle.std.specs.Prelude.{◌==◌}
use Rattle.std.proofs.lemmas.Bool.{eq-eqb}
use Rattle.ev_isa.specs.Word.{NatMap, put_at}

pub at_same : {X : Type 0} (m : NatMap X) (k i : ℕ) (x : X) → i ≡ k → put_at m k x i ≡ x
at_same m k i x e = rw (eq-eqb i k e, put_at) refl

pub at_other : {X : Type 0} (m : NatMap X) (k i : ℕ) (x : X) → (i == k) ≡ false → put_at m k x i ≡ m i
at_other m k i x e = rw (e, put_at) refl
