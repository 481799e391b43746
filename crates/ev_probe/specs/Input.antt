-- The input of a probe: one probe line, and beside it only lines that are passed over. Own.
use Rattle.std.specs.Prelude.{◌≡◌, ℕ, ◌+◌, List, length, Option, Some, None, Result, Ok, Err, MatchResult}
use Rattle.ev_io.specs.declared.cause.Cause.{Cause}
use Rattle.ev_io.specs.declared.lines.LineFault.{LineFault}
use Rattle.ev_io.specs.Lines.{Reading}
use Rattle.ev_io.specs.Transfer.{Rose}
use Rattle.ev_io.specs.InputLines.{lines_of}
use Rattle.ev_io.specs.Tokens.{Token}
use Rattle.ev_io.specs.Follow.{read, Stands, FollowsPart}
use Rattle.ev_line.specs.Operands.{then_make}
use Rattle.ev_abstract.specs.EntryText.{Text}
use Rattle.ev_probe.specs.declared.input.InputFault.{InputFault}
use Rattle.ev_probe.specs.declared.line.ProbeLine.{ProbeLine}
use Rattle.ev_probe.specs.declared.report.Report.{Report}
use Rattle.ev_probe.specs.ProbeLine.{probe_line}
use Rattle.ev_probe.specs.Told.{Told, told}
use Rattle.ev_probe.specs.Probe.{report_text}
use Rattle.ev_probe.specs.Answer.{told_of}

-- what a line that isn't passed over does: the first is the probe line, and nothing follows it
unfoldable pub follows : Option ProbeLine → List Token → Result (Option ProbeLine) Cause
follows None ts = then_make (λ l. Some l) (probe_line ts)
follows (Some l) ts = Err Cause.AfterEnd

-- where no probe line was read, NoEnd names the last of n lines
unfoldable pub whole : ℕ → Result (Option ProbeLine) (ℕ × Cause) → Result ProbeLine (ℕ × Cause)
whole n (Err refusal) = Err refusal
whole n (Ok None) = Err (n, Cause.NoEnd)
whole n (Ok (Some l)) = Ok l

-- the probe line of these lines, where n lines of so many bytes stand before them; or the first line that doesn't follow, with its cause
unfoldable pub read_line : (n before : ℕ) → List (List ℕ) → Result ProbeLine (ℕ × Cause)
read_line n before lines = whole (n + length lines) (read follows n before None lines)

-- what is made of a value, where there is one
abbrev pub then_told : {X Y Z : Type 0} → (X → Y) → Result X Z → Result Y Z
then_told f (Ok x) = Ok (f x)
then_told f (Err z) = Err z

-- what comes of the probe line of these lines
unfoldable pub read_told : (n before : ℕ) → List (List ℕ) → Result Told (ℕ × Cause)
read_told n before lines = then_told told_of (read_line n before lines)

-- The text that is printed for an input, or the first line that doesn't follow, with its cause. A fault of a line's bytes is its cause, and comes before
-- its grammar.
unfoldable pub input_text : List ℕ → Result Text (ℕ × Cause)
input_text bytes = then_told report_text (read_told 0 0 (lines_of bytes))

-- ---- a reader

-- a fault of the reader of lines, as a fault of the input
abbrev pub fault_of : LineFault → InputFault
fault_of LineFault.ReadFault = InputFault.Read
fault_of (LineFault.TooLarge n) = InputFault.BadLine n Cause.TooLarge
fault_of (LineFault.TooLong n) = InputFault.BadLine n Cause.TooLong
fault_of (LineFault.NotAscii n k) = InputFault.BadLine n Cause.NotAscii

-- A fault of a reader that stood so before these bytes: the first line that doesn't follow; or the source failed, and the lines before followed.
abbrev pub Refuses : Reading → List ℕ → Reading → Option (List ℕ) → InputFault → Type 0
Refuses old bytes new rest (InputFault.BadLine n cause) = read_line old.number old.gone (lines_of bytes) ≡ Err (n, cause)
Refuses old bytes new rest InputFault.Read = FollowsPart follows old None bytes new rest
Refuses old bytes new rest InputFault.NoMemory = Unit {0}

-- the answer is the probe line that stands behind these bytes' first lines, or a refusal
abbrev pub ReadsFirst : Reading → List ℕ → Reading → Option (List ℕ) → Result ProbeLine InputFault → Type 0
ReadsFirst old bytes new rest r = MatchResult r (λ l. Stands follows old None bytes new rest (Some l)) (Refuses old bytes new rest)

-- the answer is the probe line of these bytes, or a refusal
abbrev pub ReadsLine : Reading → List ℕ → Reading → Option (List ℕ) → Result ProbeLine InputFault → Type 0
ReadsLine old bytes new rest r =
    MatchResult r (λ l. read_line old.number old.gone (lines_of bytes) ≡ Ok l) (Refuses old bytes new rest)

-- the answer tells what comes of the probe line of these bytes, or is a refusal
abbrev pub ReadsProbe : Reading → List ℕ → Reading → Option (List ℕ) → Result Report InputFault → Type 0
ReadsProbe old bytes new rest r =
    MatchResult r (λ x. read_told old.number old.gone (lines_of bytes) ≡ Ok (told x)) (Refuses old bytes new rest)

-- a fault of reading is counted, and with any other answer none is
abbrev pub CountsRead : {T : Type 0} → ℕ → ℕ → Result T InputFault → Type 0
CountsRead before now (Err InputFault.Read) = Rose before now
CountsRead before now _ = now ≡ before
