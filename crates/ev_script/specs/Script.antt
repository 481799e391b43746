-- Scripts: the lines of an input behind the line `script`, and behind them the line `end`. Own.
use Rattle.std.specs.Prelude.{◌≡◌, ℕ, ◌+◌, Bool, true, false, nat_le, List, [], ◌∷◌, ◌++◌, length, codes, Option, Some, None, Result, Ok, Err, MatchResult, Vec}
use Rattle.std.specs.Str.{bytes_eq}
use Rattle.ev_body.specs.KernelImage.{KernelImage}
use Rattle.ev_io.specs.declared.cause.Cause.{Cause}
use Rattle.ev_io.specs.declared.lines.LineFault.{LineFault}
use Rattle.ev_io.specs.Lines.{Reading}
use Rattle.ev_io.specs.Transfer.{Rose}
use Rattle.ev_io.specs.InputLines.{lines_of}
use Rattle.ev_io.specs.Tokens.{Token, is_empty}
use Rattle.ev_io.specs.Follow.{read, Stands, FollowsPart}
use Rattle.ev_abstract.specs.declared.script_line.Line.{Line}
use Rattle.ev_script.specs.declared.reading.Script.{Script}
use Rattle.ev_script.specs.declared.reading.ScriptFault.{ScriptFault}
use Rattle.ev_script.specs.ScriptLine.{line_of_tokens}

-- a script line behind so many others: first its own cause, then one line too many
unfoldable pub one_more : ℕ → Result Line Cause → Result (Option Line) Cause
one_more count (Err cause) = Err cause
one_more count (Ok line) = elim (nat_le 200000 count) [ true ↦ Err Cause.Limit | false ↦ Ok (Some line) ]

-- whether a line is the line `end`, which has no further token
unfoldable pub ends : List Token → Result Bool Cause
ends [] = Ok false
ends (t ∷ ts) = elim (bytes_eq t (codes "end")) [
  | true ↦ elim (is_empty ts) [ true ↦ Ok true | false ↦ Err Cause.Count ]
  | false ↦ Ok false
]

-- what a line says, by whether it is the line `end`
abbrev pub said_by : Result Bool Cause → ℕ → Result Line Cause → Result (Option Line) Cause
said_by (Err cause) count line = Err cause
said_by (Ok true) count line = Ok None
said_by (Ok false) count line = one_more count line

-- what a line says behind so many script lines: a script line, or the script's end
unfoldable pub said : KernelImage → ℕ → List Token → Result (Option Line) Cause
said image count ts = said_by (ends ts) count (line_of_tokens image ts)

-- the script lines so far, and whether the line `end` stands behind them
pub data Standing : Type 0 where
  Open Ended : List Line → Standing

-- what stands behind a script line or the end
abbrev pub stands : List Line → Option Line → Standing
stands script None = Ended script
stands script (Some line) = Open (script ++ line ∷ [])

-- the same, or the cause
abbrev pub then_stands : List Line → Result (Option Line) Cause → Result Standing Cause
then_stands script (Err cause) = Err cause
then_stands script (Ok line) = Ok (stands script line)

-- what a line that isn't passed over does: nothing follows the line `end`
unfoldable pub follows : KernelImage → Standing → List Token → Result Standing Cause
follows image (Open script) ts = then_stands script (said image (length script) ts)
follows image (Ended script) ts = Err Cause.AfterEnd

-- where no line `end` was read, NoEnd names the last of n lines
unfoldable pub whole : ℕ → Result Standing (ℕ × Cause) → Result (List Line) (ℕ × Cause)
whole n (Err refusal) = Err refusal
whole n (Ok (Ended script)) = Ok script
whole n (Ok (Open script)) = Err (n, Cause.NoEnd)

-- The script of these lines, where n lines of so many bytes of the input stand before them; or the first line that doesn't follow, with its cause.
unfoldable pub read_script : KernelImage → (n before : ℕ) → List (List ℕ) → Result (List Line) (ℕ × Cause)
read_script image n before lines = whole (n + length lines) (read (follows image) n before (Open []) lines)

-- a fault of the reader of lines, as a fault of the script
abbrev pub fault_of : LineFault → ScriptFault
fault_of LineFault.ReadFault = ScriptFault.Read
fault_of (LineFault.TooLarge n) = ScriptFault.BadLine n Cause.TooLarge
fault_of (LineFault.TooLong n) = ScriptFault.BadLine n Cause.TooLong
fault_of (LineFault.NotAscii n k) = ScriptFault.BadLine n Cause.NotAscii

-- A fault of a reader that stood so before these bytes: the first refusal of their script; or the source failed, and the lines before had none.
abbrev pub Refuses : KernelImage → Reading → List ℕ → Reading → Option (List ℕ) → ScriptFault → Type 0
Refuses image old bytes new rest (ScriptFault.BadLine n cause) = read_script image old.number old.gone (lines_of bytes) ≡ Err (n, cause)
Refuses image old bytes new rest ScriptFault.Read = FollowsPart (follows image) old (Open []) bytes new rest
Refuses image old bytes new rest ScriptFault.NoMemory = Unit {0}

-- the answer is the script of these bytes, or its first refusal
abbrev pub ReadsScript : KernelImage → Reading → List ℕ → Reading → Option (List ℕ) → Result Script ScriptFault → Type 0
ReadsScript image old bytes new rest r =
    MatchResult r (λ script. read_script image old.number old.gone (lines_of bytes) ≡ Ok script.lines.items) (Refuses image old bytes new rest)

-- the same up to the line `end`
abbrev pub ReadsToEnd : {A : Type 0} → KernelImage → Reading → List ℕ → Reading → Option (List ℕ) → Result (Vec Line A) ScriptFault → Type 0
ReadsToEnd image old bytes new rest r =
    MatchResult r (λ script. Stands (follows image) old (Open []) bytes new rest (Ended script.items)) (Refuses image old bytes new rest)

-- a fault of reading is counted, and with any other answer none is
abbrev pub CountsRead : {T : Type 0} → ℕ → ℕ → Result T ScriptFault → Type 0
CountsRead before now (Err ScriptFault.Read) = Rose before now
CountsRead before now _ = now ≡ before
