-- The lines of an input's bytes, the faults of their bytes, and the next line that isn't passed over. Own.
use Rattle.std.specs.Prelude.{◌≡◌, ℕ, ◌+◌, Bool, true, false, not, ◌&&◌, nat_le, ◌==◌, List, [], ◌∷◌, ◌++◌, length, filter, Option, Some, None, Result, Ok, Err}
use Rattle.ev_io.specs.declared.lines.LineFault.{LineFault}
use Rattle.ev_io.specs.Lines.{Reading, IsPart}
use Rattle.ev_io.specs.Tokens.{onto_first, tokens_of, is_passed_over}

-- ---- lines

-- The lines, each with the LF that ends it. The last may lack it.
unfoldable pub lines_of : List ℕ → List (List ℕ)
lines_of [] = []
lines_of (b ∷ bs) = before_line (b == 10) b (lines_of bs)
  where
    before_line : Bool → ℕ → List (List ℕ) → List (List ℕ)
    before_line true b ls = (b ∷ []) ∷ ls
    before_line false b ls = onto_first b ls

-- a line without its LF
unfoldable pub text_of : List ℕ → List ℕ
text_of line = filter (λ b. not (b == 10)) line

-- ---- faults of its bytes

-- NotAscii has the number of bytes of the line before the bad one
pub data ByteFault : Type 0 where
  TooLarge TooLong : ByteFault
  NotAscii : (offset : ℕ) → ByteFault

-- The fault of one byte, with so many bytes of the input before its line and so many of the line before it: the input is too large, or its line is
-- too long, or it isn't printable, in this order.
unfoldable pub byte_fault : ℕ → ℕ → ℕ → Option ByteFault
byte_fault before k b = elim (nat_le 8388608 (before + k)) [
  | true ↦ Some TooLarge
  | false ↦ elim (b == 10) [
    | true ↦ None
    | false ↦ elim (nat_le 4096 k) [
      | true ↦ Some TooLong
      | false ↦ elim (nat_le 0x20 b && nat_le b 0x7e) [ true ↦ None | false ↦ Some (NotAscii k) ]
    ]
  ]
]

-- the fault of the first byte that has one, in the bytes of a line from byte k on
unfoldable pub fault_from : ℕ → ℕ → List ℕ → Option ByteFault
fault_from before k [] = None
fault_from before k (b ∷ bs) = elim (byte_fault before k b) [
  | None ↦ fault_from before (k + 1) bs
  | Some fault ↦ Some fault
]

-- the fault of a line, behind so many bytes of the input
abbrev pub line_fault : ℕ → List ℕ → Option ByteFault
line_fault before line = fault_from before 0 line

-- the fault of a line of this number, as a reader answers it
abbrev pub fault_of : ℕ → ByteFault → LineFault
fault_of number TooLarge = LineFault.TooLarge number
fault_of number TooLong = LineFault.TooLong number
fault_of number (NotAscii offset) = LineFault.NotAscii number offset

-- ---- the next line that isn't passed over

-- A line's number, the number of bytes through it, its text, and the lines behind it; or the numbers of lines and of bytes where no line is left; or
-- a fault of the line of this number.
pub data Next : Type 0 where
  Says : (number gone : ℕ) (text : List ℕ) (behind : List (List ℕ)) → Next
  Ends : (number gone : ℕ) → Next
  Faulty : (number : ℕ) → ByteFault → Next

-- what comes of lines, where n lines of so many bytes stand before them
unfoldable pub next_said : ℕ → ℕ → List (List ℕ) → Next
next_said n before [] = Ends n before
next_said n before (line ∷ lines) = elim (line_fault before line) [
  | Some fault ↦ Faulty (n + 1) fault
  | None ↦ elim (is_passed_over (tokens_of (text_of line))) [
    | true ↦ next_said (n + 1) (before + length line) lines
    | false ↦ Says (n + 1) (before + length line) (text_of line) lines
  ]
]

-- the bytes of these lines
abbrev pub joined : List (List ℕ) → List ℕ
joined [] = []
joined (line ∷ lines) = line ++ joined lines

-- Bytes were drawn: lines that are passed over, and a part of the line behind them.
pub record DrawsPart (old : Reading) (bytes : List ℕ) (new : Reading) (rest : Option (List ℕ)) : Type 0 where
  pub passed : List (List ℕ)
  pub left : List ℕ
  pub to_come : rest ≡ Some left
  pub whole : bytes ≡ joined passed ++ (new.text ++ left)
  pub lines : lines_of bytes ≡ passed ++ lines_of (new.text ++ left)
  pub over : next_said old.number old.gone passed ≡ Ends new.number (old.gone + length (joined passed))
  pub part : IsPart (old.gone + length (joined passed)) new.text
  pub gone : new.gone ≡ old.gone + length (joined passed) + length new.text

-- a reader that stood so before these bytes answers what comes of their lines
abbrev pub Skips : Reading → List ℕ → Reading → Option (List ℕ) → Result (Option ℕ) LineFault → Type 0
Skips old bytes new rest (Ok (Some n)) = (left : List ℕ) × (rest ≡ Some left) × (new.number ≡ n)
    × (next_said old.number old.gone (lines_of bytes) ≡ Says n new.gone new.text (lines_of left))
Skips old bytes new rest (Ok None) = next_said old.number old.gone (lines_of bytes) ≡ Ends new.number new.gone
Skips old bytes new rest (Err LineFault.ReadFault) = DrawsPart old bytes new rest
Skips old bytes new rest (Err (LineFault.TooLarge n)) = next_said old.number old.gone (lines_of bytes) ≡ Faulty n TooLarge
Skips old bytes new rest (Err (LineFault.TooLong n)) = next_said old.number old.gone (lines_of bytes) ≡ Faulty n TooLong
Skips old bytes new rest (Err (LineFault.NotAscii n k)) = next_said old.number old.gone (lines_of bytes) ≡ Faulty n (NotAscii k)
