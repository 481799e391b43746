-- What a sink takes, from one part of a command's answer to the whole.
use Rattle.std.proofs.Common.{◌≡◌, inl, inr, ℕ, true, Bool, List, Option, Some, refl, sym, subst, ap}
use Rattle.std.specs.Prelude.{Result, Ok, Err}
use Rattle.std.specs.List.{list_all}
use Rattle.ev_isa.specs.declared.mode.Mode.{Mode}
use Rattle.ev_abstract.specs.Accepted.{IsAcceptedWith}
use Rattle.ev_abstract.specs.EntryText.{Text}
use Rattle.ev_abstract.specs.declared.script_line.Line.{Line}
use Rattle.ev_body.specs.KernelImage.{KernelImage}
use Rattle.ev_built.specs.Built.{line_is_built}
use Rattle.ev_built.specs.RunTakes.{is_built}
use Rattle.ev_command.specs.declared.command.Command.{Command}
use Rattle.ev_command.specs.declared.command.Command.TheVariants.{Run, Asm, Check, Probe, Gen, Threads}
use Rattle.ev_concrete.specs.RunText.{run_text}
use Rattle.ev_image.specs.Reads.{Opened, opened}
use Rattle.ev_image.specs.declared.head.Head.TheVariants as Head
use Rattle.ev_io.specs.InputLines.{lines_of}
use Rattle.ev_io.specs.Lines.{Reading, coming}
use Rattle.ev_io.specs.declared.cause.Cause.{Cause}
use Rattle.ev_status.specs.declared.status.Status.{Status}
use Rattle.ev_status.specs.declared.status.Status.TheVariants.{Done, Usage, ReadFault, WriteFault, BadDocument, Refused, NotBuilt, NoMemory}
use Rattle.ev_probe.specs.Answer.{told_of}
use Rattle.ev_probe.specs.Input.{Refuses, input_text, read_line, read_told, then_told}
use Rattle.ev_probe.specs.Probe.{report_text}
use Rattle.ev_probe.specs.Told.{Told}
use Rattle.ev_probe.specs.declared.input.InputFault.{InputFault}
use Rattle.fredbox.specs.Comes.{Comes, Is, or_line, or_rule, or_not_built}
use Rattle.fredbox.specs.Answer.{SpeaksOfImage, comes, comes_of, modes_of, opened_comes, runs}
use Rattle.fredbox.specs.Broken.{BreaksOff, ScriptBreaks, nothing_read}
use Rattle.fredbox.specs.Faults.{input_status}
use Rattle.fredbox.specs.Taken.{Took, Wrote}

-- a text that was written
took_text : (old new : Option (List ℕ)) (come : Comes) (text : Text) (s : Status) → come Done text → Wrote old new text s → Took old new come s
took_text old new come text Done c w = (text, c, w)
took_text old new come text WriteFault c w = (text, c, w)
took_text old new come text NoMemory c w = w
took_text old new come text ReadFault c w = absurd w
took_text old new come text Usage c w = absurd w
took_text old new come text (BadDocument n cause) c w = absurd w
took_text old new come text (Refused refusal) c w = absurd w
took_text old new come text NotBuilt c w = absurd w

-- the run of a script that was read
pub ran_took : (old new : Option (List ℕ)) (mode : Option Mode) (frames : Bool) (image : KernelImage) (bound : ℕ) (script : Result (List Line) (ℕ × Cause))
    (lines : List Line) (s : Status) → is_built image ≡ true → IsAcceptedWith image bound → script ≡ Ok lines → list_all line_is_built lines ≡ true
    → Wrote old new (run_text image lines (modes_of mode) frames) s → Took old new (comes (Run mode frames) image script) s
ran_took old new mode frames image bound script lines s built accepted read all wrote =
    took_text old new (comes (Run mode frames) image script) text s
    (subst (λ b. or_not_built b (or_rule image (behind script)) Done text) (sym built) (inl (
      bound,
      accepted,
      subst (λ r. behind r bound Done text) (sym read)
          (subst (λ b. or_not_built b (runs mode frames image lines) Done text) (sym all) (refl, refl)),
    )))
    wrote
  where
    text : Text
    text = run_text image lines (modes_of mode) frames

    behind : Result (List Line) (ℕ × Cause) → ℕ → Comes
    behind r bound = or_line r (λ lines. or_not_built (list_all line_is_built lines) (runs mode frames image lines))

-- behind an image that was read
pub opened_took : (old new : Option (List ℕ)) (c : Command) (bytes : List ℕ) (o : Opened) (s : Status) → SpeaksOfImage c
    → opened 0 0 Head.Image (lines_of bytes) ≡ Ok o → Took old new (opened_comes c o) s → Took old new (comes_of c bytes) s
opened_took old new (Run mode frames) bytes o s h e k = subst (λ r. Took old new (or_line r (opened_comes (Run mode frames))) s) (sym e) k
opened_took old new Asm bytes o s h e k = subst (λ r. Took old new (or_line r (opened_comes Asm)) s) (sym e) k
opened_took old new Check bytes o s h e k = subst (λ r. Took old new (or_line r (opened_comes Check)) s) (sym e) k
opened_took old new Probe bytes o s h e k = absurd h
opened_took old new (Gen seed count) bytes o s h e k = absurd h
opened_took old new (Threads mode turns) bytes o s h e k = absurd h

-- the image that a reader stands behind
abbrev pub stands_behind : KernelImage → Reading → List ℕ → Opened
stands_behind image r left = record { image = image; lines = r.number; bytes = r.gone; behind = lines_of left }

-- where the source failed behind the image
pub script_broke : (c : Command) (bytes : List ℕ) (image : KernelImage) (old new : Reading) (left : List ℕ) (after : Option (List ℕ)) → SpeaksOfImage c
    → opened 0 0 Head.Image (lines_of bytes) ≡ Ok (stands_behind image old left) → ScriptBreaks c image old left new (coming new.chunk after)
    → BreaksOff c bytes after
script_broke (Run mode frames) bytes image old new left after h e b =
    inr (stands_behind image old left, e, old, left, record { number = refl; gone = refl; lines = refl }, new, b)
script_broke Asm bytes image old new left after h e b =
    inr (stands_behind image old left, e, old, left, record { number = refl; gone = refl; lines = refl }, new, b)
script_broke Check bytes image old new left after h e b =
    inr (stands_behind image old left, e, old, left, record { number = refl; gone = refl; lines = refl }, new, b)
script_broke Probe bytes image old new left after h e b = absurd h
script_broke (Gen seed count) bytes image old new left after h e b = absurd h
script_broke (Threads mode turns) bytes image old new left after h e b = absurd h

-- ---- a reader that has read nothing

pub fresh_coming : (r : Reading) (o : Option (List ℕ)) (bytes : List ℕ) → r ≡ nothing_read → o ≡ Some bytes → coming r.chunk o ≡ Some bytes
fresh_coming r o bytes h e = rw (h, e) refl

pub opened_from : (r new : Reading) (bytes left : List ℕ) (image : KernelImage) → r ≡ nothing_read
    → opened r.number r.gone Head.Image (lines_of bytes) ≡ Ok (stands_behind image new left)
    → opened 0 0 Head.Image (lines_of bytes) ≡ Ok (stands_behind image new left)
opened_from r new bytes left image h e = subst (λ (r : Reading). opened r.number r.gone Head.Image (lines_of bytes) ≡ Ok (stands_behind image new left)) h e

-- ---- a probe

told_text : (bytes : List ℕ) (t : Told) → read_told 0 0 (lines_of bytes) ≡ Ok t → input_text bytes ≡ Ok (report_text t)
unfolding input_text
told_text bytes t e = ap (then_told report_text) e

refused_text : (bytes : List ℕ) (n : ℕ) (cause : Cause) → read_line 0 0 (lines_of bytes) ≡ Err (n, cause) → input_text bytes ≡ Err (n, cause)
unfolding input_text read_told
refused_text bytes n cause e = ap (λ r. then_told report_text (then_told told_of r)) e

pub probe_took : (old new : Option (List ℕ)) (bytes : List ℕ) (r : Reading) (t : Told) (s : Status) → r ≡ nothing_read
    → read_told r.number r.gone (lines_of bytes) ≡ Ok t → Wrote old new (report_text t) s → Took old new (or_line (input_text bytes) (Is Done)) s
probe_took old new bytes r t s h e w =
    let read = told_text bytes t (subst (λ (r : Reading). read_told r.number r.gone (lines_of bytes) ≡ Ok t) h e) in
    subst (λ x. Took old new (or_line x (Is Done)) s) (sym read) (took_text old new (Is Done (report_text t)) (report_text t) s (refl, refl) w)

pub probe_refused : (o : Option (List ℕ)) (bytes : List ℕ) (r new : Reading) (rest : Option (List ℕ)) (fault : InputFault) → r ≡ nothing_read
    → Refuses r bytes new rest fault → Took o o (or_line (input_text bytes) (Is Done)) (input_status fault)
probe_refused o bytes r new rest (InputFault.BadLine n cause) h e =
    let refused = refused_text bytes n cause (subst (λ (r : Reading). read_line r.number r.gone (lines_of bytes) ≡ Err (n, cause)) h e) in
    subst (λ x. Took o o (or_line x (Is Done)) (BadDocument n cause)) (sym refused) ((refl, refl), refl)
probe_refused o bytes r new rest InputFault.Read h e = refl
probe_refused o bytes r new rest InputFault.NoMemory h e = refl
