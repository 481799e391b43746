-- A number below 2^64 is read from its decimal digits.
use Rattle.std.proofs.Common.{◌≡◌, ◌≢◌, ℕ, ◌+◌, ◌/◌, ◌%◌, ◌^◌, ◌<◌, ◌≤◌, ◌⊎◌, inl, inr, Bool, true, false, ◌&&◌, nat_lt, List, [], ◌∷◌, ◌++◌, length, Some, refl, ap, sym, ◌∙◌, arith}
use Rattle.std.specs.Prelude.{◌==◌, slice_index, decimal}
use Rattle.std.specs.List.{list_all}
use Rattle.std.proofs.lemmas.Bool.Decides.{nat_tests}
use Rattle.std.proofs.lemmas.List.Folds.{list_all-append}
use Rattle.std.proofs.lemmas.Fmt.{decimal_by_steps}
use Rattle.ev_io.specs.Number.{digit, value, number_of}
use Rattle.ev_io.proofs.Digits.{value_push, all_digits}
use Rattle.ev_io.proofs.Digits as digits
use Rattle.ev_io.proofs.TokenLaws.{spaceless}

digit_back : (k : ℕ) → k < 10 → digit (48 + k) ≡ k
unfolding digit
digit_back k h = grind (arith, nat_tests)

is_digit : (k : ℕ) → k < 10 → nat_lt (digit (48 + k)) 10 ≡ true
is_digit k h = rw (digit_back k h) (grind (arith, nat_tests))

nothing : value 10 [] ≡ 0
unfolding value
nothing = refl

space : (b : ℕ) → b == 0x20 ≡ true → nat_lt (digit b) 10 ≡ true → ⊥
unfolding digit
space b h k = let same : b ≡ 0x20 = grind (arith, nat_tests) in let no : nat_lt (digit 0x20) 10 ≡ true = ap (λ x. nat_lt (digit x) 10) (sym same) ∙ k in cc

abbrev pub are_digits : List ℕ → Bool
are_digits ds = list_all (λ b. nat_lt (digit b) 10) ds

-- what the digits of a number are
pub record IsDecimalOf (n : ℕ) (ds : List ℕ) : Type 0 where
  pub says : value 10 ds ≡ n
  pub digits : are_digits ds ≡ true
  pub some : 0 < length ds
  pub first : 1 ≤ n → slice_index ds 0 ≢ 48
  pub form : (length ds < 2) ⊎ (slice_index ds 0 ≢ 48)

last_digit : (ds : List ℕ) (k : ℕ) → k < 10 → are_digits ds ≡ true → are_digits (ds ++ (48 + k) ∷ []) ≡ true
last_digit ds k h all = list_all-append (λ b. nat_lt (digit b) 10) ds ((48 + k) ∷ []) ∙ ap (λ v. v && (nat_lt (digit (48 + k)) 10 && true)) all
    ∙ ap (λ v. v && true) (is_digit k h)

same_first : (ds : List ℕ) (d : ℕ) → 0 < length ds → slice_index (ds ++ d ∷ []) 0 ≡ slice_index ds 0
same_first [] d h = absurd (omega (arith, h))
same_first (x ∷ xs) d h = refl

some_push : (ds : List ℕ) (d : ℕ) → 0 < length (ds ++ d ∷ [])
some_push [] d = omega arith
some_push (x ∷ xs) d = omega arith

pub decimal_is : (n : ℕ) → n < 2 ^ 64 → IsDecimalOf n (decimal n)
decimal_is = decimal_by_steps IsDecimalOf one more
  where
    one : (n : ℕ) → n < 10 → IsDecimalOf n ((48 + n) ∷ [])
    one n h = record {
      says = value_push 10 [] (48 + n) ∙ omega (arith, nothing, digit_back n h);
      digits = ap (λ v. v && true) (is_digit n h);
      some = omega arith;
      first = λ k e. absurd (omega (arith, k, e));
      form = inl (omega arith);
    }

    more : (n : ℕ) (ds : List ℕ) → 10 ≤ n → IsDecimalOf (n / 10) ds → IsDecimalOf n (ds ++ (48 + n % 10) ∷ [])
    more n ds h d =
        let first : slice_index (ds ++ (48 + n % 10) ∷ []) 0 ≢ 48 = λ e. d.first (omega arith) (sym (same_first ds (48 + n % 10) d.some) ∙ e) in
        record {
          says = value_push 10 ds (48 + n % 10) ∙ omega (arith, d.says, digit_back (n % 10) (omega arith));
          digits = last_digit ds (n % 10) (omega arith) d.digits;
          some = some_push ds (48 + n % 10);
          first = λ k. first;
          form = inr first;
        }

-- the decimal text of a number is a number's, and reads as it
pub number_back : (n : ℕ) → n < 2 ^ 64 → number_of (decimal n) ≡ Some n
number_back n h =
    let d : IsDecimalOf n (decimal n) = decimal_is n h in
    sym (digits.decimal (decimal n) d.form) ∙ all_digits 10 (decimal n) d.some d.digits (omega (arith, d.says)) ∙ ap Some d.says

-- no digit is a space
pub no_space : (ds : List ℕ) → are_digits ds ≡ true → spaceless ds ≡ true
no_space [] h = refl
no_space (b ∷ bs) h = let p = both (nat_lt (digit b) 10) (are_digits bs) h in by (b == 0x20) refl p.0 (no_space bs p.1)
  where
    both : (x y : Bool) → (x && y) ≡ true → (x ≡ true) × (y ≡ true)
    both true y h = (refl, h)
    both false y h = absurd cc

    by : (e : Bool) → b == 0x20 ≡ e → nat_lt (digit b) 10 ≡ true → spaceless bs ≡ true → spaceless (b ∷ bs) ≡ true
    by true k p more = absurd (space b k p)
    by false k p more = rw k more
