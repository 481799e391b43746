-- A flag as a bit of a word.
use Rattle.std.proofs.Common.{◌≡◌, ◌<◌, ◌+◌, ℕ, zero, suc, ◌*◌, ◌^◌, Bool, true, false, ◌==◌, refl, arith}
use Rattle.ev_isa.specs.Word.{bit_if}
use mir.Val.{bool_byte}

pub flag_small : (b : Bool) → bit_if 0 b < 2
flag_small true = omega arith
flag_small false = omega arith

pub flag_at : (k : ℕ) (b : Bool) → bit_if k b ≡ 2 ^ k * bit_if 0 b
flag_at k true = omega arith
flag_at k false = omega arith

-- a test for 1 gives the flag, and the flag gives the bit
pub flag_is : (x : ℕ) (b : Bool) → x ≡ bit_if 0 b → (x == 1) ≡ b
flag_is x true e = rw e refl
flag_is x false e = rw e refl

pub flag_of : (x : ℕ) → x < 2 → bit_if 0 (x == 1) ≡ x
flag_of zero h = refl
flag_of (suc zero) h = refl
flag_of (suc (suc x)) h = absurd (omega arith)

-- the number that a cast of a flag gives
pub flag_byte : (b : Bool) → bool_byte b ≡ bit_if 0 b
flag_byte true = refl
flag_byte false = refl
