-- The number that digits make.
use Rattle.std.proofs.Common.{◌≡◌, ◌≢◌, ◌⊎◌, inl, inr, ℕ, ◌+◌, ◌*◌, ◌^◌, ◌<◌, ◌≤◌, if◌then◌else◌, Bool, true, false, ◌&&◌, ◌||◌, not, nat_lt, ◌==◌, List, [], ◌∷◌, ◌++◌, length, get_or, take, drop, slice_index, Option, Some, None, refl, ap, sym, ◌∙◌, append-nil, append_assoc, add-one, arith}
use Rattle.std.proofs.Math.Nat.{pow-succ', pow-zero, mul-le-mul_left}
use Rattle.std.proofs.lemmas.Bool.Decides.{nat_tests}
use Rattle.std.proofs.lemmas.List.{take_more, length_push, take-append-drop}
use Rattle.std.proofs.lemmas.List.Folds.{list_all_at, list_all_more}
use Rattle.std.specs.List.{list_all}
use Rattle.ev_io.specs.Number.{digit, is_digits, value, is_decimal, is_hexadecimal, below_word, number_of, digits_number}

-- one digit more
pub value_push : (base : ℕ) (xs : List ℕ) (d : ℕ) → value base (xs ++ d ∷ []) ≡ value base xs * base + digit d
unfolding value
value_push base [] d =
    let one : base ^ length {A = ℕ} [] ≡ 1 = pow-zero base in
    omega (arith, ap (λ p. digit d * p) one)
value_push base (x ∷ xs) d =
    let more = value_push base xs d in
    let power : base ^ length (xs ++ d ∷ []) ≡ base * base ^ length xs = ap (λ k. base ^ k) (length_push xs d ∙ add-one (length xs))
    ∙ pow-succ' base (length xs) in
    let place : digit x * base ^ length (xs ++ d ∷ []) ≡ digit x * (base * base ^ length xs) = ap (λ p. digit x * p) power in
    omega (arith, place, more)

pub value_more : (base i : ℕ) (ds : List ℕ) → i < length ds → value base (take (i + 1) ds) ≡ value base (take i ds) * base + digit (get_or ds i 0)
value_more base i ds h = ap (value base) (take_more ds i 0 h) ∙ value_push base (take i ds) (get_or ds i 0)

-- the digits behind make no number smaller
value_grows : (base : ℕ) (xs ys : List ℕ) → 1 ≤ base → value base xs ≤ value base (xs ++ ys)
value_grows base xs [] h = omega (arith, ap (value base) (append-nil xs))
value_grows base xs (y ∷ ys) h =
    let rest = value_grows base (xs ++ y ∷ []) ys h in
    let same = ap (value base) (append_assoc xs (y ∷ []) ys) in
    omega (arith, rest, same, value_push base xs y, mul-le-mul_left (value base xs) h)

both_false : (a b : Bool) → b ≡ false → (a && b) ≡ false
both_false true b e = e
both_false false b e = refl

choose : (c d : Bool) (x y : Option ℕ) → c ≡ d → (if c then x else y) ≡ (if d then x else y)
choose c d x y e = ap (λ v. if v then x else y) e

pub no_digits : (base : ℕ) (ds : List ℕ) → length ds ≡ 0 → digits_number base ds ≡ None
unfolding digits_number is_digits
no_digits base [] h = refl
no_digits base (x ∷ xs) h = absurd (omega (arith, h))

pub not_empty : (ds : List ℕ) (b : Bool) → b ≡ (length ds == 0) → b ≡ false → 0 < length ds
not_empty [] b e f = let no : true ≡ false = sym e ∙ f in cc
not_empty (d ∷ ds) b e f = omega arith

no_less : (a b : ℕ) → b ≤ a → nat_lt a b ≡ false
no_less a b h = grind (arith, nat_tests)

less : (a b : ℕ) → a < b → nat_lt a b ≡ true
less a b h = grind (arith, nat_tests)

pub bad_digit : (base i : ℕ) (ds : List ℕ) → i < length ds → base ≤ digit (get_or ds i 0) → digits_number base ds ≡ None
unfolding digits_number is_digits
bad_digit base i ds h k =
    choose (nat_lt 0 (length ds) && list_all (λ b. nat_lt (digit b) base) ds) false _ None
    (both_false (nat_lt 0 (length ds)) _ (list_all_at (λ b. nat_lt (digit b) base) ds i 0 h (no_less _ base k)))

pub digits_more : (base i : ℕ) (ds : List ℕ) → i < length ds → list_all (λ b. nat_lt (digit b) base) (take i ds) ≡ true → digit (get_or ds i 0) < base
    → list_all (λ b. nat_lt (digit b) base) (take (i + 1) ds) ≡ true
digits_more base i ds h all k =
    let p : ℕ → Bool = λ b. nat_lt (digit b) base in
    list_all_more p ds i 0 h ∙ ap (λ v. v && p (get_or ds i 0)) all ∙ less _ base k

too_large : (c : Bool) (n : ℕ) → 2 ^ 64 ≤ n → (if c then below_word n else None) ≡ None
unfolding below_word
too_large true n h = choose (nat_lt n (2 ^ 64)) false (Some n) None (no_less n (2 ^ 64) h)
too_large false n h = refl

pub large : (base : ℕ) (ds : List ℕ) → 2 ^ 64 ≤ value base ds → digits_number base ds ≡ None
unfolding digits_number
large base ds h = too_large (is_digits base ds) (value base ds) h

-- a number that is too large stays so
pub large_prefix : (base i : ℕ) (ds : List ℕ) → 1 ≤ base → 2 ^ 64 ≤ value base (take i ds) → digits_number base ds ≡ None
large_prefix base i ds h k =
    let grows = value_grows base (take i ds) (drop i ds) h in
    let same = ap (value base) (take-append-drop i ds) in
    large base ds (omega (arith, k, grows, same))

pub all_digits : (base : ℕ) (ds : List ℕ) → 0 < length ds → list_all (λ b. nat_lt (digit b) base) ds ≡ true → value base ds < 2 ^ 64
    → digits_number base ds ≡ Some (value base ds)
unfolding digits_number is_digits below_word
all_digits base ds some all small =
    let two : (nat_lt 0 (length ds) && list_all (λ b. nat_lt (digit b) base) ds) ≡ true =
    ap (λ v. v && list_all (λ b. nat_lt (digit b) base) ds) (less 0 (length ds) some) ∙ all in
    choose _ true _ None two ∙ choose _ true _ None (less (value base ds) (2 ^ 64) small)

-- ---- texts

same_test : (a b : ℕ) → a ≡ b → a == b ≡ true
same_test a b h = grind (arith, nat_tests)

other_test : (a b : ℕ) → a ≢ b → a == b ≡ false
other_test a b h = grind (arith, nat_tests)

with_true : (a b : Bool) → b ≡ true → (a && b) ≡ a
with_true true b e = e
with_true false b e = refl

or_true : (a b : Bool) → b ≡ true → (a || b) ≡ true
or_true true b e = refl
or_true false b e = e

no_form : (a b c : Bool) → b ≡ false → c ≡ true → (a && (b || not c)) ≡ false
no_form a b c e f = both_false a (b || not c) (ap (λ v. v || not c) e ∙ ap not f)

no_decimal : (text : List ℕ) → 2 ≤ length text → slice_index text 0 ≡ 0x30 → is_decimal text ≡ false
unfolding is_decimal
no_decimal text h z = no_form (is_digits 10 text) (length text == 1) (slice_index text 0 == 0x30) (other_test _ 1 (omega (arith, h))) (same_test _ 0x30 z)

no_hexadecimal : (text : List ℕ) → (slice_index text 0 ≢ 0x30) ⊎ (slice_index text 1 ≢ 0x78) → is_hexadecimal text ≡ false
unfolding is_hexadecimal
no_hexadecimal text (inl h) = ap (λ v. v && (slice_index text 1 == 0x78) && is_digits 16 (drop 2 text)) (other_test _ 0x30 h)
no_hexadecimal text (inr h) = ap (λ v. v && is_digits 16 (drop 2 text)) (both_false (slice_index text 0 == 0x30) _ (other_test _ 0x78 h))

pub hexadecimal : (text : List ℕ) → 2 ≤ length text → slice_index text 0 ≡ 0x30 → slice_index text 1 ≡ 0x78 → digits_number 16 (drop 2 text) ≡ number_of text
unfolding number_of digits_number is_hexadecimal
hexadecimal text h z x =
    let form : is_hexadecimal text ≡ is_digits 16 (drop 2 text) = ap (λ v. v && (slice_index text 1 == 0x78) && is_digits 16 (drop 2 text))
    (same_test _ 0x30 z) ∙ ap (λ v. v && is_digits 16 (drop 2 text)) (same_test _ 0x78 x) in
    sym (choose _ false _ _ (no_decimal text h z) ∙ choose _ _ _ None form)

pub no_number : (text : List ℕ) → 2 ≤ length text → slice_index text 0 ≡ 0x30 → slice_index text 1 ≢ 0x78 → number_of text ≡ None
unfolding number_of
no_number text h z x = choose _ false _ _ (no_decimal text h z) ∙ choose _ false _ None (no_hexadecimal text (inr x))

-- at most one byte, or no leading zero
decimal_form : (text : List ℕ) → (length text < 2) ⊎ (slice_index text 0 ≢ 0x30) → is_decimal text ≡ is_digits 10 text
unfolding is_decimal is_digits
decimal_form [] h = refl
decimal_form (a ∷ r) (inl h) = with_true (is_digits 10 (a ∷ r)) _ (ap (λ v. v || not (a == 0x30)) (same_test _ 1 (omega (arith, h))))
decimal_form (a ∷ r) (inr h) = with_true (is_digits 10 (a ∷ r)) _ (or_true (length (a ∷ r) == 1) _ (ap not (other_test a 0x30 h)))

one_byte : (text : List ℕ) → length text < 2 → slice_index text 1 ≢ 0x78
one_byte [] h = λ e. absurd (omega (arith, e))
one_byte (a ∷ []) h = λ e. absurd (omega (arith, e))
one_byte (a ∷ b ∷ r) h = absurd (omega (arith, h))

pub decimal : (text : List ℕ) → (length text < 2) ⊎ (slice_index text 0 ≢ 0x30) → digits_number 10 text ≡ number_of text
unfolding number_of digits_number
decimal text h = sym (choose _ _ _ _ (decimal_form text h) ∙ ap (λ y. if is_digits 10 text then below_word (value 10 text) else y)
    (choose _ false _ None (no_hexadecimal text (elim h [ inl p ↦ inr (one_byte text p) | inr p ↦ inl p ]))))
