-- What a line of a script says.
use Rattle.std.proofs.Common.{◌≡◌, ℕ, ◌<◌, ◌≤◌, Bool, true, false, List, [], ◌∷◌, ◌++◌, ◌+◌, length, take, Option, Some, None, Result, Ok, Err, refl, ap, sym, ◌∙◌, arith}
use Rattle.std.specs.Prelude.{nat_le}
use Rattle.std.specs.List.{list_all}
use Rattle.ev_line.proofs.NameLaws.{both}
use Rattle.std.proofs.lemmas.Bool.Decides.{nat_tests}
use Rattle.ev_body.specs.KernelImage.{KernelImage}
use Rattle.ev_io.specs.declared.cause.Cause.{Cause}
use Rattle.ev_io.specs.declared.lines.LineFault.{LineFault}
use Rattle.ev_io.specs.Lines as byte_lines
use Rattle.ev_io.specs.Lines.{Reading}
use Rattle.ev_io.specs.InputLines.{TooLarge, TooLong, NotAscii, lines_of, Ends, next_said, Skips}
use Rattle.ev_io.specs.Tokens.{Token, tokens_of}
use Rattle.ev_io.specs.Follow.{read, Stands}
use Rattle.ev_io.proofs.StandLaws.{stands_refused, stands_faulty, stands_last, stands_part}
use Rattle.ev_abstract.specs.Script.{IsScript, is_line}
use Rattle.ev_abstract.specs.declared.script_line.Line.{Line}
use Rattle.ev_script.specs.ScriptLine.{line_of_tokens}
use Rattle.ev_script.specs.Script.{ends, said_by, said, one_more, Standing, Open, Ended, then_stands, follows, whole, read_script, fault_of, Refuses, CountsRead}
use Rattle.ev_script.proofs.LineLaws.{first_tokens_tell}

pub first_tokens_end : (ts : List Token) → ends (take 6 ts) ≡ ends ts
unfolding ends
first_tokens_end [] = refl
first_tokens_end (t ∷ []) = refl
first_tokens_end (t ∷ u ∷ us) = refl

-- ---- what a line says

-- the first six tokens tell it
pub said_is : (image : KernelImage) (count : ℕ) (ts : List Token) (r : Result Bool Cause) (l : Result Line Cause) → r ≡ ends (take 6 ts)
    → l ≡ line_of_tokens image (take 6 ts)
    → said_by r count l ≡ said image count ts
unfolding said
said_is image count ts r l e f = ap (λ q. said_by q count l) (e ∙ first_tokens_end ts) ∙ ap (said_by (ends ts) count) (f ∙ first_tokens_tell image ts)

pub too_many : (count : ℕ) (line : Line) → 200000 ≤ count → Err Cause.Limit ≡ one_more count (Ok line)
unfolding one_more
too_many count line h = rw (one_more, full) refl
  where
    full : nat_le 200000 count ≡ true
    full = grind (arith, nat_tests)

pub few_enough : (count : ℕ) (line : Line) → count < 200000 → Ok (Some line) ≡ one_more count (Ok line)
unfolding one_more
few_enough count line h = rw (one_more, room) refl
  where
    room : nat_le 200000 count ≡ false
    room = grind (arith, nat_tests)

-- what the text says, where it and the number of lines are known by other names
pub said_at : (image : KernelImage) (m n : ℕ) (t u : List ℕ) (r : Result (Option Line) Cause) → m ≡ n → t ≡ u → r ≡ said image m (tokens_of t)
    → said image n (tokens_of u) ≡ r
said_at image m n t u r e f h = sym (h ∙ ap (λ k. said image k (tokens_of t)) e ∙ ap (λ x. said image n (tokens_of x)) f)

-- ---- what a line does

pub follow_more : (image : KernelImage) (script : List Line) (ts : List Token) (line : Line) → said image (length script) ts ≡ Ok (Some line)
    → follows image (Open script) ts ≡ Ok (Open (script ++ line ∷ []))
unfolding follows
follow_more image script ts line e = ap (then_stands script) e

pub follow_end : (image : KernelImage) (script : List Line) (ts : List Token) → said image (length script) ts ≡ Ok None
    → follows image (Open script) ts ≡ Ok (Ended script)
unfolding follows
follow_end image script ts e = ap (then_stands script) e

pub follow_bad : (image : KernelImage) (script : List Line) (ts : List Token) (cause : Cause) → said image (length script) ts ≡ Err cause
    → follows image (Open script) ts ≡ Err cause
unfolding follows
follow_bad image script ts cause e = ap (then_stands script) e

pub nothing_follows : (image : KernelImage) (script : List Line) (ts : List Token) → follows image (Ended script) ts ≡ Err Cause.AfterEnd
unfolding follows
nothing_follows image script ts = refl

-- ---- the whole

pub refused : (image : KernelImage) (n before : ℕ) (lines : List (List ℕ)) (m : ℕ) (cause : Cause)
    → read (follows image) n before (Open []) lines ≡ Err (m, cause) → read_script image n before lines ≡ Err (m, cause)
unfolding read_script whole
refused image n before lines m cause e = ap (whole (n + length lines)) e

pub no_end : (image : KernelImage) (n before : ℕ) (lines : List (List ℕ)) (script : List Line) (m : ℕ)
    → read (follows image) n before (Open []) lines ≡ Ok (Open script) → m ≡ n + length lines
    → read_script image n before lines ≡ Err (m, Cause.NoEnd)
unfolding read_script whole
no_end image n before lines script m e k = ap (whole (n + length lines)) e ∙ ap (λ j. Err (j, Cause.NoEnd)) (sym k)

pub is_whole : (image : KernelImage) (n before : ℕ) (lines : List (List ℕ)) (script : List Line)
    → read (follows image) n before (Open []) lines ≡ Ok (Ended script) → read_script image n before lines ≡ Ok script
unfolding read_script whole
is_whole image n before lines script e = ap (whole (n + length lines)) e

-- a fault of the reader of lines, behind lines that follow
pub faulty : (image : KernelImage) (old : Reading) (bytes : List ℕ) (now : Reading) (rest : Option (List ℕ)) (s : Standing) (new : Reading)
    (rest' : Option (List ℕ)) (x : LineFault)
    → (p : Stands (follows image) old (Open []) bytes now rest s) → Skips now p.left new rest' (Err x) → Refuses image old bytes new rest' (fault_of x)
faulty image old bytes now rest s new rest' LineFault.ReadFault p k = stands_part (follows image) old (Open []) bytes now rest s new rest' p k
faulty image old bytes now rest s new rest' (LineFault.TooLarge n) p k =
    refused image old.number old.gone (lines_of bytes) n Cause.TooLarge (stands_faulty (follows image) old (Open []) bytes now rest s n TooLarge p k)
faulty image old bytes now rest s new rest' (LineFault.TooLong n) p k =
    refused image old.number old.gone (lines_of bytes) n Cause.TooLong (stands_faulty (follows image) old (Open []) bytes now rest s n TooLong p k)
faulty image old bytes now rest s new rest' (LineFault.NotAscii n m) p k =
    refused image old.number old.gone (lines_of bytes) n Cause.NotAscii (stands_faulty (follows image) old (Open []) bytes now rest s n (NotAscii m) p k)

-- a line that has a cause, behind lines that follow
pub bad_line : (image : KernelImage) (old : Reading) (bytes : List ℕ) (now : Reading) (rest : Option (List ℕ)) (s : Standing) (new : Reading)
    (rest' : Option (List ℕ)) (n : ℕ) (cause : Cause)
    → (p : Stands (follows image) old (Open []) bytes now rest s) → Skips now p.left new rest' (Ok (Some n)) → follows image s (tokens_of new.text) ≡ Err cause
    → read_script image old.number old.gone (lines_of bytes) ≡ Err (n, cause)
bad_line image old bytes now rest s new rest' n cause p k e =
    refused image old.number old.gone (lines_of bytes) n cause (stands_refused (follows image) old (Open []) bytes now rest s new rest' n cause p k e)

-- no line is left, behind lines that follow
pub last_line : (image : KernelImage) (old : Reading) (bytes : List ℕ) (now : Reading) (rest : Option (List ℕ)) (script : List Line) (new : Reading)
    → (p : Stands (follows image) old (Open []) bytes now rest (Open script)) → next_said now.number now.gone (lines_of p.left) ≡ Ends new.number new.gone
    → read_script image old.number old.gone (lines_of bytes) ≡ Err (new.number, Cause.NoEnd)
last_line image old bytes now rest script new p k =
    let last = stands_last (follows image) old (Open []) bytes now rest (Open script) new p k in
    no_end image old.number old.gone (lines_of bytes) script new.number last.0 last.1

pub whole_script : (image : KernelImage) (old : Reading) (bytes : List ℕ) (now : Reading) (rest : Option (List ℕ)) (script : List Line) (new : Reading)
    → (p : Stands (follows image) old (Open []) bytes now rest (Ended script)) → next_said now.number now.gone (lines_of p.left) ≡ Ends new.number new.gone
    → read_script image old.number old.gone (lines_of bytes) ≡ Ok script
whole_script image old bytes now rest script new p k =
    is_whole image old.number old.gone (lines_of bytes) script (stands_last (follows image) old (Open []) bytes now rest (Ended script) new p k).0

-- ---- causes of faults of reading

-- the fault is counted behind lines that were read
pub read_counts : (U : Type 0) (x : LineFault) (a b c : ℕ) → b ≡ a → byte_lines.CountsRead {T = Option ℕ} b c (Err x)
    → CountsRead {T = U} a c (Err (fault_of x))
read_counts U LineFault.ReadFault a b c h k = omega (arith, h, k)
read_counts U (LineFault.TooLarge n) a b c h k = k ∙ h
read_counts U (LineFault.TooLong n) a b c h k = k ∙ h
read_counts U (LineFault.NotAscii n m) a b c h k = k ∙ h

pub more_formed : (image : KernelImage) (script : List Line) (line : Line) → IsScript image script → is_line image line ≡ true
    → IsScript image (script ++ line ∷ [])
more_formed image [] line h k = rw k refl
more_formed image (l ∷ ls) line h k = let b = both (is_line image l) (list_all (is_line image) ls) h in rw b.0 (more_formed image ls line b.1 k)
