-- The tokens of a line. Own.
use Rattle.std.specs.Prelude.{ℕ, Bool, true, false, not, ◌==◌, List, [], ◌∷◌, filter, slice_index}

-- a token, as its bytes
abbrev pub Token : Type 0
Token = List ℕ

-- whether a list has nothing
abbrev pub is_empty : {X : Type 0} → List X → Bool
is_empty [] = true
is_empty (x ∷ xs) = false

-- a byte in front of the first of these pieces
abbrev pub onto_first : ℕ → List Token → List Token
onto_first b [] = (b ∷ []) ∷ []
onto_first b (t ∷ ts) = (b ∷ t) ∷ ts

-- the pieces between spaces
unfoldable pub pieces : List ℕ → List Token
pieces [] = [] ∷ []
pieces (b ∷ bs) = before_pieces (b == 0x20) b (pieces bs)
  where
    before_pieces : Bool → ℕ → List Token → List Token
    before_pieces true b ts = [] ∷ ts
    before_pieces false b ts = onto_first b ts

-- The tokens of a line are parted by one or more spaces. Spaces at either end mean nothing.
unfoldable pub tokens_of : List ℕ → List Token
tokens_of text = filter (λ t. not (is_empty t)) (pieces text)

-- a blank line, and one whose first token begins with `#`, is passed over
unfoldable pub is_passed_over : List Token → Bool
is_passed_over [] = true
is_passed_over (t ∷ ts) = slice_index t 0 == 0x23
