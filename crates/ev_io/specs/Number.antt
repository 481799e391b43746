-- Numbers in text. Own.
use Rattle.std.specs.Prelude.{ℕ, ◌+◌, ◌-◌, ◌*◌, ◌^◌, Bool, not, ◌&&◌, ◌||◌, nat_lt, nat_le, ◌==◌, List, [], ◌∷◌, length, drop, slice_index, if◌then◌else◌, Option, Some, None}
use Rattle.std.specs.List.{list_all}

-- a byte between two others
abbrev pub is_between : ℕ → ℕ → ℕ → Bool
is_between low high b = nat_le low b && nat_le b high

-- the value of a character as a digit: no digit of any base has 99
unfoldable pub digit : ℕ → ℕ
digit b =
    if is_between 0x30 0x39 b then b - 0x30
    else (if is_between 0x41 0x5a b then b - 0x37
    else (if is_between 0x61 0x7a b then b - 0x57
    else 99))

-- one digit of the base or more
unfoldable pub is_digits : ℕ → List ℕ → Bool
is_digits base ds = nat_lt 0 (length ds) && list_all (λ b. nat_lt (digit b) base) ds

-- each digit counts by its place from the right
unfoldable pub value : ℕ → List ℕ → ℕ
value base [] = 0
value base (d ∷ ds) = digit d * base ^ length ds + value base ds

-- decimal digits, without a leading zero
unfoldable pub is_decimal : List ℕ → Bool
is_decimal text = is_digits 10 text && (length text == 1 || not (slice_index text 0 == 0x30))

-- after `0x`
unfoldable pub is_hexadecimal : List ℕ → Bool
is_hexadecimal text = slice_index text 0 == 0x30 && slice_index text 1 == 0x78 && is_digits 16 (drop 2 text)

-- a number where it is below 2^64
unfoldable pub below_word : ℕ → Option ℕ
below_word n = if nat_lt n (2 ^ 64) then Some n else None

-- `0`, or decimal digits without a leading zero, or `0x` and hexadecimal digits of either case; and below 2^64
unfoldable pub number_of : List ℕ → Option ℕ
number_of text =
    if is_decimal text then below_word (value 10 text)
    else (if is_hexadecimal text then below_word (value 16 (drop 2 text))
    else None)

-- the number that digits make
unfoldable pub digits_number : ℕ → List ℕ → Option ℕ
digits_number base ds = if is_digits base ds then below_word (value base ds) else None
