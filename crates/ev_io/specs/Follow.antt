-- Reading lines in turn: each follows what stands before it, or has its one cause. Own.
use Rattle.std.specs.Prelude.{◌≡◌, ℕ, ◌+◌, true, false, List, [], ◌∷◌, ◌++◌, length, Option, Some, None, Result, Ok, Err}
use Rattle.ev_io.specs.declared.cause.Cause.{Cause}
use Rattle.ev_io.specs.Tokens.{Token, tokens_of, is_passed_over}
use Rattle.ev_io.specs.InputLines.{ByteFault, TooLarge, TooLong, NotAscii, line_fault, text_of, lines_of, joined}
use Rattle.ev_io.specs.Lines.{Reading, IsPart}

-- the cause of a line whose bytes have a fault
abbrev pub cause_of : ByteFault → Cause
cause_of TooLarge = Cause.TooLarge
cause_of TooLong = Cause.TooLong
cause_of (NotAscii offset) = Cause.NotAscii

-- a line's tokens, unless it is passed over
unfoldable pub tokens_follow : {S : Type 0} → (S → List Token → Result S Cause) → S → List Token → Result S Cause
tokens_follow rule s ts = elim (is_passed_over ts) [ true ↦ Ok s | false ↦ rule s ts ]

-- A line behind so many bytes of the input: it follows what stands before it, or it has its one cause. A fault of its bytes comes first.
unfoldable pub line_follows : {S : Type 0} → (S → List Token → Result S Cause) → (before : ℕ) → S → (line : List ℕ) → Result S Cause
line_follows rule before s line = elim (line_fault before line) [
  | Some fault ↦ Err (cause_of fault)
  | None ↦ tokens_follow rule s (tokens_of (text_of line))
]

-- What stands after these lines, where n lines of so many bytes stand before them; or the number of the first line that doesn't follow, with its cause.
unfoldable pub read : {S : Type 0} → (S → List Token → Result S Cause) → (n before : ℕ) → S → List (List ℕ) → Result S (ℕ × Cause)
read rule n before s [] = Ok s
read rule n before s (line ∷ lines) = elim (line_follows rule before s line) [
  | Err cause ↦ Err (n + 1, cause)
  | Ok s' ↦ read rule (n + 1) (before + length line) s' lines
]

-- A reader that stood so before these bytes is behind lines that follow each other from what stood first: this stands behind them.
pub record Stands {S : Type 0} (rule : S → List Token → Result S Cause) (old : Reading) (first : S) (bytes : List ℕ) (now : Reading)
    (rest : Option (List ℕ)) (s : S) : Type 0 where
  pub passed : List (List ℕ)
  pub left : List ℕ
  pub to_come : rest ≡ Some left
  pub lines : lines_of bytes ≡ passed ++ lines_of left
  pub follow : read rule old.number old.gone first passed ≡ Ok s
  pub number : now.number ≡ old.number + length passed
  pub gone : now.gone ≡ old.gone + length (joined passed)

-- Bytes were drawn: lines that follow each other from what stood, and a part of the line behind them.
pub record FollowsPart {S : Type 0} (rule : S → List Token → Result S Cause) (old : Reading) (s : S) (bytes : List ℕ) (new : Reading)
    (rest : Option (List ℕ)) : Type 0 where
  pub passed : List (List ℕ)
  pub left : List ℕ
  pub to_come : rest ≡ Some left
  pub lines : lines_of bytes ≡ passed ++ lines_of (new.text ++ left)
  pub stands : S
  pub follow : read rule old.number old.gone s passed ≡ Ok stands
  pub part : IsPart (old.gone + length (joined passed)) new.text
