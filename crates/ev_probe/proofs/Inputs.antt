-- The lines of a probe's input, one after another.
use Rattle.std.proofs.Common.{◌≡◌, ℕ, ◌+◌, ◌≤◌, List, length, Option, Some, None, Result, Ok, Err, refl, ap, sym, ◌∙◌, arith}
use Rattle.ev_io.specs.declared.cause.Cause.{Cause}
use Rattle.ev_io.specs.declared.lines.LineFault.{LineFault}
use Rattle.ev_io.specs.Lines as byte_lines
use Rattle.ev_io.specs.Lines.{Reading}
use Rattle.ev_io.specs.InputLines.{TooLarge, TooLong, NotAscii, lines_of, Ends, next_said, Skips}
use Rattle.ev_io.specs.Tokens.{Token, tokens_of}
use Rattle.ev_io.specs.Follow.{read, Stands}
use Rattle.ev_io.proofs.StandLaws.{stands_faulty, stands_last, stands_part, stands_refused}
use Rattle.ev_line.specs.Operands.{then_make}
use Rattle.ev_probe.specs.declared.line.ProbeLine.{ProbeLine}
use Rattle.ev_probe.specs.ProbeLine.{probe_line}
use Rattle.ev_probe.specs.Told.{Told}
use Rattle.ev_probe.specs.Probe.{report_text}
use Rattle.ev_probe.specs.Answer.{told_of}
use Rattle.ev_probe.specs.Input.{CountsRead, Refuses, fault_of, follows, input_text, read_line, read_told, then_told, whole}

-- ---- what a line does

pub follow_first : (ts : List Token) (l : ProbeLine) → probe_line ts ≡ Ok l → follows None ts ≡ Ok (Some l)
unfolding follows
follow_first ts l e = ap (then_make (λ x. Some x)) e

pub follow_bad : (ts : List Token) (cause : Cause) → probe_line ts ≡ Err cause → follows None ts ≡ Err cause
unfolding follows
follow_bad ts cause e = ap (then_make (λ x. Some x)) e

pub nothing_follows : (l : ProbeLine) (ts : List Token) → follows (Some l) ts ≡ Err Cause.AfterEnd
unfolding follows
nothing_follows l ts = refl

-- ---- the whole

refused : (n before : ℕ) (lines : List (List ℕ)) (m : ℕ) (cause : Cause) → read follows n before None lines ≡ Err (m, cause)
    → read_line n before lines ≡ Err (m, cause)
unfolding read_line whole
refused n before lines m cause e = ap (whole (n + length lines)) e

no_end : (n before : ℕ) (lines : List (List ℕ)) (m : ℕ) → read follows n before None lines ≡ Ok None → m ≡ n + length lines
    → read_line n before lines ≡ Err (m, Cause.NoEnd)
unfolding read_line whole
no_end n before lines m e k = ap (whole (n + length lines)) e ∙ ap (λ j. Err (j, Cause.NoEnd)) (sym k)

is_whole : (n before : ℕ) (lines : List (List ℕ)) (l : ProbeLine) → read follows n before None lines ≡ Ok (Some l) → read_line n before lines ≡ Ok l
unfolding read_line whole
is_whole n before lines l e = ap (whole (n + length lines)) e

-- a fault of the reader of lines, behind lines that follow
pub faulty : (old : Reading) (bytes : List ℕ) (now : Reading) (rest : Option (List ℕ)) (s : Option ProbeLine) (new : Reading) (rest' : Option (List ℕ))
    (x : LineFault) → (p : Stands follows old None bytes now rest s) → Skips now p.left new rest' (Err x) → Refuses old bytes new rest' (fault_of x)
faulty old bytes now rest s new rest' LineFault.ReadFault p k = stands_part follows old None bytes now rest s new rest' p k
faulty old bytes now rest s new rest' (LineFault.TooLarge n) p k =
    refused old.number old.gone (lines_of bytes) n Cause.TooLarge (stands_faulty follows old None bytes now rest s n TooLarge p k)
faulty old bytes now rest s new rest' (LineFault.TooLong n) p k =
    refused old.number old.gone (lines_of bytes) n Cause.TooLong (stands_faulty follows old None bytes now rest s n TooLong p k)
faulty old bytes now rest s new rest' (LineFault.NotAscii n m) p k =
    refused old.number old.gone (lines_of bytes) n Cause.NotAscii (stands_faulty follows old None bytes now rest s n (NotAscii m) p k)

-- a line that has a cause, behind lines that follow
pub bad_line : (old : Reading) (bytes : List ℕ) (now : Reading) (rest : Option (List ℕ)) (s : Option ProbeLine) (new : Reading) (rest' : Option (List ℕ))
    (n : ℕ) (cause : Cause) → (p : Stands follows old None bytes now rest s) → Skips now p.left new rest' (Ok (Some n))
    → follows s (tokens_of new.text) ≡ Err cause → read_line old.number old.gone (lines_of bytes) ≡ Err (n, cause)
bad_line old bytes now rest s new rest' n cause p k e =
    refused old.number old.gone (lines_of bytes) n cause (stands_refused follows old None bytes now rest s new rest' n cause p k e)

-- no line is left
pub last_line : (old : Reading) (bytes : List ℕ) (now : Reading) (rest : Option (List ℕ)) (new : Reading)
    → (p : Stands follows old None bytes now rest None) → next_said now.number now.gone (lines_of p.left) ≡ Ends new.number new.gone
    → read_line old.number old.gone (lines_of bytes) ≡ Err (new.number, Cause.NoEnd)
last_line old bytes now rest new p k =
    let last = stands_last follows old None bytes now rest None new p k in no_end old.number old.gone (lines_of bytes) new.number last.0 last.1

pub whole_line : (old : Reading) (bytes : List ℕ) (now : Reading) (rest : Option (List ℕ)) (l : ProbeLine) (new : Reading)
    → (p : Stands follows old None bytes now rest (Some l)) → next_said now.number now.gone (lines_of p.left) ≡ Ends new.number new.gone
    → read_line old.number old.gone (lines_of bytes) ≡ Ok l
whole_line old bytes now rest l new p k =
    is_whole old.number old.gone (lines_of bytes) l (stands_last follows old None bytes now rest (Some l) new p k).0

-- what is told of the line
pub told_line : (n before : ℕ) (lines : List (List ℕ)) (l : ProbeLine) (t : Told) → read_line n before lines ≡ Ok l → t ≡ told_of l
    → read_told n before lines ≡ Ok t
unfolding read_told
told_line n before lines l t h e = ap (then_told told_of) h ∙ ap (λ (x : Told). Ok x) (sym e)

-- ---- causes of faults of reading

-- the fault is counted behind lines that were read
pub read_counts : (U : Type 0) (x : LineFault) (a b c : ℕ) → b ≡ a → byte_lines.CountsRead {T = Option ℕ} b c (Err x)
    → CountsRead {T = U} a c (Err (fault_of x))
read_counts U LineFault.ReadFault a b c h k = omega (arith, h, k)
read_counts U (LineFault.TooLarge n) a b c h k = k ∙ h
read_counts U (LineFault.TooLong n) a b c h k = k ∙ h
read_counts U (LineFault.NotAscii n m) a b c h k = k ∙ h

-- ---- the text of an input

-- the text of what is read
pub input_prints : (bytes out : List ℕ) (t : Told) → out ≡ report_text t → read_told 0 0 (lines_of bytes) ≡ Ok t → input_text bytes ≡ Ok out
unfolding input_text
input_prints bytes out t e h = ap (then_told report_text) h ∙ ap (λ (x : List ℕ). Ok x) (sym e)

-- an input that is refused has no text
pub input_refused : (bytes : List ℕ) (refusal : ℕ × Cause) → read_line 0 0 (lines_of bytes) ≡ Err refusal → input_text bytes ≡ Err refusal
unfolding input_text read_told
input_refused bytes refusal h = ap (λ (x : Result ProbeLine (ℕ × Cause)). then_told report_text (then_told told_of x)) h
