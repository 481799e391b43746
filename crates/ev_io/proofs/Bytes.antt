-- Bytes that may be told.
use Rattle.std.proofs.Common.{◌≡◌, ℕ, ◌+◌, ◌∙◌, List, ◌++◌, Option, Some, None, refl, ap, sym, append_assoc, [], ◌∷◌, length-append, arith}
use Rattle.std.specs.Io.KnownBytes.{prepend_known, append_known}
use Rattle.ev_io.specs.Transfer.{Draws}

-- two pieces one after another
pub append_append : (o : Option (List ℕ)) (xs ys : List ℕ) → append_known (append_known o xs) ys ≡ append_known o (xs ++ ys)
append_append None xs ys = refl
append_append (Some os) xs ys = ap Some (append_assoc os xs ys)

pub prepend_prepend : (xs ys : List ℕ) (o : Option (List ℕ)) → prepend_known xs (prepend_known ys o) ≡ prepend_known (xs ++ ys) o
prepend_prepend xs ys None = refl
prepend_prepend xs ys (Some os) = ap Some (sym (append_assoc xs ys os))

pub prepend_nothing : (o : Option (List ℕ)) → prepend_known [] o ≡ o
prepend_nothing None = refl
prepend_nothing (Some os) = refl

pub prepend_first : (b : ℕ) (xs : List ℕ) (o : Option (List ℕ)) → prepend_known (b ∷ xs) o ≡ prepend_known (b ∷ []) (prepend_known xs o)
prepend_first b xs None = refl
prepend_first b xs (Some ys) = refl

pub draws_nothing : (n : ℕ) (o : Option (List ℕ)) → Draws n n o o
draws_nothing n o = ([], omega arith, sym (prepend_nothing o))

-- what a chunk drew behind k bytes, after what was drawn before
pub draws_more : (l k m n r : ℕ) (a b c : Option (List ℕ)) → Draws l (k + m) a b → Draws m n b c → r ≡ k + n → Draws l r a c
draws_more l k m n r a b c p q e = (p.0 ++ q.0, omega (arith, e, p.1, q.1, length-append p.0 q.0), p.2 ∙ ap (prepend_known p.0) q.2 ∙ prepend_prepend p.0 q.0 c)

-- bytes that were drawn one after another
pub draws_then : (l m n : ℕ) (a b c : Option (List ℕ)) → Draws l m a b → Draws m n b c → Draws l n a c
draws_then l m n a b c p q = (p.0 ++ q.0, omega (arith, p.1, q.1, length-append p.0 q.0), p.2 ∙ ap (prepend_known p.0) q.2 ∙ prepend_prepend p.0 q.0 c)
