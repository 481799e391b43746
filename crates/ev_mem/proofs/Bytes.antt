-- The bytes of three words. Own.
use Rattle.std.proofs.Common.{◌≡◌, ℕ, ◌+◌, [], ◌∷◌, ap, arith}
use Rattle.ev_isa.specs.Word.{NatMap}
use Rattle.ev_mem.specs.Memory.{bytes_on}
use Rattle.ev_mem.specs.Code.{bytes_of_words}

pub three_words : (words : NatMap ℕ) (a u v w : ℕ) → u ≡ words a → v ≡ words (a + 8) → w ≡ words (a + 16) → bytes_of_words (u ∷ v ∷ w ∷ []) ≡ bytes_on words a 3
three_words words a u v w p q r =
    let e : words (a + 16) ≡ words (a + 8 + 8) = ap words (omega arith) in
    rw (p, q, r, e)
