-- A line of a script, what it shows, and what the end shows.
use Rattle.std.proofs.Common.{◌≡◌, ℕ, Bool, true, false, List, [], ◌++◌, ap, refl, sym, ◌∙◌, Option, Some, None}
use Rattle.std.specs.Io.KnownBytes.{append_known}
use Rattle.std.proofs.lemmas.List.{append-nil}
use Rattle.ev_isa.specs.declared.mode.Mode.{Mode}
use Rattle.ev_event.specs.declared.frame_note.FrameNote.{FrameNote}
use Rattle.ev_body.specs.declared.key.Key.{Key}
use Rattle.ev_body.specs.declared.image.Image.{Image}
use Rattle.ev_abstract.specs.Run.{run, line_step, entries_of}
use Rattle.ev_abstract.specs.declared.entry.Entry.{Entry}
use Rattle.ev_abstract.specs.declared.script_line.Line.{Line}
use Rattle.ev_abstract.specs.declared.script_line.Line.TheVariants.{Turn, Edge, Arrive, Accept}
use Rattle.ev_abstract.specs.EntryText.{Text, trace_text, all_end_lines}
use Rattle.ev_trace.specs.FrameText.{Totals, mode_text, totals_text}
use Rattle.ev_built.specs.Built.{line_is_built}
use Rattle.ev_concrete.specs.ConcreteRun.{marks_of, noted, concrete_line, concrete_run}
use Rattle.ev_concrete.specs.RunText.{shown_frames, settling}
use Rattle.ev_pair.specs.SideText.{side_at, shown_line, shown_end}

-- only turns, arrivals and acceptances are built today
pub no_stops : (l : Line) → line_is_built l ≡ true → ((p : ℕ) (key : Key) → l ≡ Arrive p key → ⊥) → ((p : ℕ) → l ≡ Accept p → ⊥) → ((p : ℕ) → l ≡ Turn p → ⊥)
    → ⊥
unfolding line_is_built
no_stops (Turn p) e arrival acceptance other = other p refl
no_stops (Edge p n) e arrival acceptance other = absurd (cc)
no_stops (Arrive p key) e arrival acceptance other = arrival p key refl
no_stops (Accept p) e arrival acceptance other = acceptance p refl

-- where nothing is shown, nothing is written
pub nothing_more : (old : Option Text) (text : Text) → text ≡ [] → old ≡ append_known old text
nothing_more None text e = refl
nothing_more (Some bs) text e = ap Some (sym (append-nil bs)) ∙ ap (append_known (Some bs)) (sym e)

-- an arrival shows nothing
pub arrival_shown : (frames : Bool) (mode : Mode) (image : Image) (done : List Line) (p : ℕ) (key : Key)
    → shown_line frames mode image done (Arrive p key) ≡ []
unfolding shown_line concrete_line line_step
arrival_shown false mode image done p key = refl
arrival_shown true mode image done p key = refl

-- nor does an acceptance of mail
pub acceptance_shown : (frames : Bool) (mode : Mode) (image : Image) (done : List Line) (p : ℕ) → shown_line frames mode image done (Accept p) ≡ []
unfolding shown_line concrete_line line_step
acceptance_shown false mode image done p = refl
acceptance_shown true mode image done p = refl

module _ (frames : Bool) (mode : Mode) (image : Image) where
  pub turn_shown : (done : List Line) (line : Line) (p : ℕ) (fs : List FrameNote) (es : List Entry) → line ≡ Turn p
      → fs ≡ (concrete_line (marks_of mode image) image.processors (concrete_run mode image done).0 (Turn p)).1 → es ≡ entries_of image done (Turn p)
      → shown_frames frames mode (noted p fs) ++ trace_text (mode_text mode) es ≡ shown_line frames mode image done line
  unfolding shown_line
  turn_shown done line p fs es is a b = (λ i. shown_frames frames mode (noted p (a i)) ++ trace_text (mode_text mode) (b i))
      ∙ ap (shown_line frames mode image done) (sym is)

  pub end_shown : (script : List Line) (t : Totals) → t ≡ (settling image (side_at mode image script)).0.totals
      → shown_frames frames mode (settling image (side_at mode image script)).1 ++ all_end_lines (mode_text mode) (run image script) 0 image.processors
      ++ totals_text (mode_text mode) t
      ≡ shown_end frames mode image script
  unfolding shown_end
  end_shown script t e =
      ap (λ x. shown_frames frames mode (settling image (side_at mode image script)).1 ++ all_end_lines (mode_text mode)
      (run image script) 0 image.processors ++ totals_text (mode_text mode) x) e
