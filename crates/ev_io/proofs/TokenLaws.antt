-- Tokens from the front, and the first byte that is no space.
use Rattle.std.proofs.Common.{◌≡◌, ℕ, ◌<◌, Bool, true, false, not, ◌&&◌, List, [], ◌∷◌, ◌++◌, length, Option, Some, None, refl, ap, arith}
use Rattle.std.specs.Prelude.{◌==◌}
use Rattle.std.specs.List.{find, filter, list_all, slice_split}
use Rattle.ev_io.specs.Tokens.{Token, pieces, tokens_of, is_passed_over, is_empty}

-- the first byte that is no space
abbrev pub first_said : List ℕ → Option ℕ
first_said text = find (λ b. not (b == 0x20)) text

-- whether a line whose first byte is this one is passed over
abbrev pub passed_by : Option ℕ → Bool
passed_by None = true
passed_by (Some b) = b == 0x23

pub passed_over : (text : List ℕ) → is_passed_over (tokens_of text) ≡ passed_by (first_said text)
unfolding is_passed_over tokens_of pieces
passed_over [] = refl
passed_over (b ∷ bs) = by (b == 0x20) refl (pieces bs) refl (passed_over bs)
  where
    by : (e : Bool) → b == 0x20 ≡ e → (ps : List Token) → pieces bs ≡ ps → is_passed_over (tokens_of bs) ≡ passed_by (first_said bs)
        → is_passed_over (tokens_of (b ∷ bs)) ≡ passed_by (first_said (b ∷ bs))
    by true h ps k more = rw h more
    by false h [] k more = rw (h, k) refl
    by false h (p ∷ ps) k more = rw (h, k) refl

-- the pieces are those of the library's split
pub split_pieces : (text : List ℕ) → slice_split (λ b. b == 0x20) text ≡ pieces text
unfolding pieces
split_pieces [] = refl
split_pieces (b ∷ bs) = by (b == 0x20) refl (split_pieces bs)
  where
    by : (e : Bool) → b == 0x20 ≡ e → slice_split (λ c. c == 0x20) bs ≡ pieces bs → slice_split (λ c. c == 0x20) (b ∷ bs) ≡ pieces (b ∷ bs)
    by true h more = rw (h, more) refl
    by false h more = rw (h, more) refl

-- ---- tokens that are joined by spaces

abbrev pub spaceless : List ℕ → Bool
spaceless t = list_all (λ b. not (b == 0x20)) t

no_space : (b : ℕ) (bs : List ℕ) → spaceless (b ∷ bs) ≡ true → (b == 0x20 ≡ false) × (spaceless bs ≡ true)
no_space b bs h = by (b == 0x20) h
  where
    by : (e : Bool) → (not e && spaceless bs) ≡ true → (e ≡ false) × (spaceless bs ≡ true)
    by true k = absurd cc
    by false k = (refl, k)

first_piece : (t rest : List ℕ) → spaceless t ≡ true → pieces (t ++ 0x20 ∷ rest) ≡ t ∷ pieces rest
unfolding pieces
first_piece [] rest h = refl
first_piece (b ∷ bs) rest h = let p = no_space b bs h in rw (p.0, first_piece bs rest p.1) refl

last_piece : (t : List ℕ) → spaceless t ≡ true → pieces t ≡ t ∷ []
unfolding pieces
last_piece [] h = refl
last_piece (b ∷ bs) h = let p = no_space b bs h in rw (p.0, last_piece bs p.1) refl

-- a token before a space, and the last one
pub first_token : (t rest : List ℕ) → 0 < length t → spaceless t ≡ true → tokens_of (t ++ 0x20 ∷ rest) ≡ t ∷ tokens_of rest
unfolding tokens_of
first_token [] rest l h = absurd (omega (arith, l))
first_token (b ∷ bs) rest l h = ap (λ (ps : List Token). filter (λ t. not (is_empty t)) ps) (first_piece (b ∷ bs) rest h)

pub last_token : (t : List ℕ) → 0 < length t → spaceless t ≡ true → tokens_of t ≡ t ∷ []
unfolding tokens_of
last_token [] l h = absurd (omega (arith, l))
last_token (b ∷ bs) l h = ap (λ (ps : List Token). filter (λ t. not (is_empty t)) ps) (last_piece (b ∷ bs) h)
