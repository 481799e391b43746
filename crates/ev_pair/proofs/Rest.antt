-- What remains of a run's text.
use Rattle.std.proofs.Common.{◌≡◌, ℕ, Bool, List, [], ◌∷◌, ◌++◌, map, take, drop, length, get_or, ◌<◌, ◌≤◌, suc, zero, append_assoc, ap, refl, sym, ◌∙◌, subst, arith}
use Rattle.std.proofs.lemmas.List.{append-nil}
use Rattle.std.proofs.Math.Seq.{take-suc, drop-cons}
use Rattle.std.specs.Prelude.{Option}
use Rattle.ev_isa.specs.declared.mode.Mode.{Mode}
use Rattle.ev_body.specs.declared.image.Image.{Image}
use Rattle.ev_abstract.specs.Run.{run, line_step, entries_of}
use Rattle.ev_abstract.specs.declared.script_line.Line.{Line}
use Rattle.ev_abstract.specs.EntryText.{Text}
use Rattle.ev_abstract.proofs.Scripts.{run_of_two}
use Rattle.ev_concrete.specs.ConcreteRun.{marks_of, opening_system}
use Rattle.ev_concrete.specs.RunText.{ModeRun, side_after, line_text_of, script_text, run_text}
use Rattle.ev_core.proofs.Turns.{line_more}
use Rattle.ev_pair.specs.SideText.{side_at, shown_line, shown_end}
use Rattle.ev_io.proofs.Writes.{Wrote, none_yet}

abbrev sides : Image → List Line → List Mode → List ModeRun
sides image done modes = map (λ mode. side_at mode image done) modes

-- after lines that are done, of these lines and the end
pub rest_text : Bool → List Mode → Image → List Line → List Line → Text
rest_text frames modes image done rest = script_text image frames (run image done) (sides image done modes) rest

pub at_opening : (frames : Bool) (modes : List Mode) (image : Image) (script : List Line)
    → run_text image script modes frames ≡ rest_text frames modes image [] script
unfolding rest_text run_text
at_opening frames modes image script = refl

module _ (image : Image) (done : List Line) (l : Line) where
  sides_more : (modes : List Mode) → map (side_after image l) (sides image done modes) ≡ sides image (done ++ l ∷ []) modes
  sides_more [] = refl
  sides_more (mode ∷ modes) =
      let more = sym (line_more (marks_of mode image) image.processors (opening_system mode image) done l) in
      (λ i. record { mode = mode; marks = marks_of mode image; system = more i } ∷ sides_more modes i)

  run_more : (line_step image (run image done) l).0 ≡ run image (done ++ l ∷ [])
  run_more = sym (run_of_two image done (l ∷ []))

  rest_more : (frames : Bool) (modes : List Mode) (ls : List Line)
      → rest_text frames modes image done (l ∷ ls) ≡ line_text_of image frames (entries_of image done l) l (sides image done modes)
      ++ rest_text frames modes image (done ++ l ∷ []) ls
  unfolding rest_text
  rest_more frames modes ls =
      (λ i. line_text_of image frames (entries_of image done l) l (sides image done modes) ++ script_text image frames (run_more i) (sides_more modes i) ls)

  one_line : (frames : Bool) (mode : Mode) → line_text_of image frames (entries_of image done l) l (sides image done (mode ∷ []))
      ≡ shown_line frames mode image done l
  unfolding shown_line
  one_line frames mode = append-nil _

  both_lines : (frames : Bool) (a b : Mode)
      → line_text_of image frames (entries_of image done l) l (sides image done (a ∷ b ∷ [])) ≡ shown_line frames a image done l
      ++ shown_line frames b image done l
  unfolding shown_line
  both_lines frames a b = ap (λ t. shown_line frames a image done l ++ t) (append-nil (shown_line frames b image done l))

  pub one_more : (frames : Bool) (mode : Mode) (ls : List Line)
      → rest_text frames (mode ∷ []) image done (l ∷ ls) ≡ shown_line frames mode image done l ++ rest_text frames (mode ∷ []) image (done ++ l ∷ []) ls
  one_more frames mode ls = rest_more frames (mode ∷ []) ls ∙ ap (λ t. t ++ rest_text frames (mode ∷ []) image (done ++ l ∷ []) ls) (one_line frames mode)

  pub both_more : (frames : Bool) (a b : Mode) (ls : List Line)
      → rest_text frames (a ∷ b ∷ []) image done (l ∷ ls)
      ≡ shown_line frames a image done l ++ (shown_line frames b image done l ++ rest_text frames (a ∷ b ∷ []) image (done ++ l ∷ []) ls)
  both_more frames a b ls =
      rest_more frames (a ∷ b ∷ []) ls ∙ ap (λ t. t ++ rest_text frames (a ∷ b ∷ []) image (done ++ l ∷ []) ls) (both_lines frames a b)
      ∙ append_assoc (shown_line frames a image done l) (shown_line frames b image done l) (rest_text frames (a ∷ b ∷ []) image (done ++ l ∷ []) ls)

pub one_end : (frames : Bool) (mode : Mode) (image : Image) (script : List Line)
    → rest_text frames (mode ∷ []) image script [] ≡ shown_end frames mode image script
unfolding rest_text shown_end
one_end frames mode image script = append-nil _

pub both_ends : (frames : Bool) (a b : Mode) (image : Image) (script : List Line)
    → rest_text frames (a ∷ b ∷ []) image script [] ≡ shown_end frames a image script ++ shown_end frames b image script
unfolding rest_text shown_end
both_ends frames a b image script = ap (λ t. shown_end frames a image script ++ t) (append-nil (shown_end frames b image script))

-- ---- the lines before and from a place

pub from_place : {X : Type 0} (ls : List X) (i j : ℕ) (d : X) → j ≡ suc i → i < length ls → drop i ls ≡ get_or ls i d ∷ drop j ls
from_place ls i j d e lt = drop-cons ls i d lt ∙ ap (λ k. get_or ls i d ∷ drop k ls) (sym e)

pub up_to_place : (ls : List Line) (i j : ℕ) (d : Line) → j ≡ suc i → i < length ls → take j ls ≡ take i ls ++ get_or ls i d ∷ []
up_to_place ls i j d e lt = ap (λ k. take k ls) e ∙ take-suc ls i d lt

module _ (frames : Bool) (image : Image) (ls : List Line) (i j : ℕ) (d : Line) (e : j ≡ suc i) (lt : i < length ls) where
  pub one_place : (mode : Mode)
      → rest_text frames (mode ∷ []) image (take i ls) (drop i ls) ≡ shown_line frames mode image (take i ls) (get_or ls i d) ++ rest_text frames
      (mode ∷ []) image (take j ls) (drop j ls)
  one_place mode =
      ap (rest_text frames (mode ∷ []) image (take i ls)) (from_place ls i j d e lt) ∙ one_more image (take i ls) (get_or ls i d) frames mode (drop j ls)
      ∙ ap (λ done. shown_line frames mode image (take i ls) (get_or ls i d) ++ rest_text frames (mode ∷ []) image done (drop j ls))
      (sym (up_to_place ls i j d e lt))

  pub both_places : (a b : Mode)
      → rest_text frames (a ∷ b ∷ []) image (take i ls) (drop i ls)
      ≡ shown_line frames a image (take i ls) (get_or ls i d)
      ++ (shown_line frames b image (take i ls) (get_or ls i d) ++ rest_text frames (a ∷ b ∷ []) image (take j ls) (drop j ls))
  both_places a b =
      ap (rest_text frames (a ∷ b ∷ []) image (take i ls)) (from_place ls i j d e lt) ∙ both_more image (take i ls) (get_or ls i d) frames a b (drop j ls)
      ∙ ap (λ done. shown_line frames a image (take i ls) (get_or ls i d)
      ++ (shown_line frames b image (take i ls) (get_or ls i d) ++ rest_text frames (a ∷ b ∷ []) image done (drop j ls)))
      (sym (up_to_place ls i j d e lt))

pub all_done : {X : Type 0} (xs : List X) (i : ℕ) → length xs ≤ i → take i xs ≡ xs
all_done [] zero h = refl
all_done [] (suc i) h = refl
all_done (x ∷ xs) zero h = absurd (omega arith)
all_done (x ∷ xs) (suc i) h = ap (λ ys. x ∷ ys) (all_done xs i (omega arith))

pub none_there : {X : Type 0} (xs : List X) (i : ℕ) → length xs ≤ i → drop i xs ≡ []
none_there [] zero h = refl
none_there [] (suc i) h = refl
none_there (x ∷ xs) zero h = absurd (omega arith)
none_there (x ∷ xs) (suc i) h = none_there xs i (omega arith)

pub end_place : (frames : Bool) (modes : List Mode) (image : Image) (ls : List Line) (i : ℕ) → length ls ≤ i
    → rest_text frames modes image (take i ls) (drop i ls) ≡ rest_text frames modes image ls []
end_place frames modes image ls i h = (λ k. rest_text frames modes image (all_done ls i h k) (none_there ls i h k))

-- a text of which nothing is written yet
pub at_start : (frames : Bool) (modes : List Mode) (image : Image) (script : List Line) (old : Option Text)
    → Wrote old old (rest_text frames modes image [] script) (run_text image script modes frames)
at_start frames modes image script old = subst (λ t. Wrote old old t (run_text image script modes frames)) (at_opening frames modes image script)
    (none_yet old (run_text image script modes frames))
