-- Names hold letters, digits and `_` alone, so they are text.
use Rattle.std.proofs.Common.{◌≡◌, ℕ, zero, suc, ◌<◌, ◌≤◌, Bool, true, false, ◌&&◌, List, [], ◌∷◌, length, arith, refl}
use Rattle.std.specs.Prelude.{nat_le}
use Rattle.std.specs.List.{list_all}
use Rattle.std.specs.Str.{IsAscii}
use Rattle.std.proofs.lemmas.Bool.Decides.{nat_tests}
use Rattle.ev_line.specs.Names.{is_letter, is_name_byte, is_good_name}

pub both : (a b : Bool) → (a && b) ≡ true → (a ≡ true) × (b ≡ true)
both true b h = (refl, h)
both false b h = absurd cc

letter_small : (b : ℕ) → is_letter b ≡ true → b < 128
letter_small b h = grind (arith, nat_tests)

name_byte_small : (b : ℕ) → is_name_byte b ≡ true → b < 128
name_byte_small b h = grind (arith, nat_tests)

all_ascii : (w : List ℕ) → list_all is_name_byte w ≡ true → IsAscii w
all_ascii [] h i = omega arith
all_ascii (b ∷ bs) h zero = name_byte_small b (both (is_name_byte b) (list_all is_name_byte bs) h).0
all_ascii (b ∷ bs) h (suc i) = all_ascii bs (both (is_name_byte b) (list_all is_name_byte bs) h).1 i

-- a name is text of at most 31 bytes
pub name_is_ascii : (w : List ℕ) → is_good_name w ≡ true → IsAscii w
unfolding is_good_name
name_is_ascii [] h i = omega arith
name_is_ascii (b ∷ bs) h zero =
    letter_small b (both (is_letter b) (list_all is_name_byte bs) (both (is_letter b && list_all is_name_byte bs) (nat_le (length bs) 30) h).0).0
name_is_ascii (b ∷ bs) h (suc i) =
    all_ascii bs (both (is_letter b) (list_all is_name_byte bs) (both (is_letter b && list_all is_name_byte bs) (nat_le (length bs) 30) h).0).1 i

pub name_is_short : (w : List ℕ) → is_good_name w ≡ true → length w ≤ 31
unfolding is_good_name
name_is_short [] h = omega arith
name_is_short (b ∷ bs) h = short (length bs) (both (is_letter b && list_all is_name_byte bs) (nat_le (length bs) 30) h).1
  where
    short : (n : ℕ) → nat_le n 30 ≡ true → suc n ≤ 31
    short n h = grind (arith, nat_tests)
