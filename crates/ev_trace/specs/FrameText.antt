-- The text of frames and totals, and the word of a mode. Own.
use Rattle.std.specs.Prelude.{ℕ, List, [], ◌∷◌, map, flat_map, Option, Some, None, decimal, codes}
use Rattle.ev_isa.specs.declared.mode.Mode.{Mode}
use Rattle.ev_isa.specs.declared.mode.Mode.TheVariants.{Idt, Fred}
use Rattle.ev_event.specs.declared.frame_note.FrameNote.{FrameNote}
use Rattle.ev_abstract.specs.EntryText.{Text, hex, line_text}

-- the word before each line of a mode
abbrev pub mode_text : Mode → Text
mode_text Idt = codes "idt"
mode_text Fred = codes "fred"

-- a frame with the number of the processor that wrote it
abbrev pub Noted : Type 0
Noted = ℕ × FrameNote

-- the line of a frame: its address, and its words from the lowest up
abbrev pub frame_text : Text → Noted → Text
frame_text mode f = line_text mode (decimal f.0 ∷ codes "frame" ∷ hex f.1.address ∷ map hex f.1.words.items)

-- the lines of frames
abbrev pub frames_text : Text → List Noted → Text
frames_text mode fs = flat_map (frame_text mode) fs

-- of a run: its steps, the hardware frames that it wrote, and the lowest address of one
pub record Totals : Type 0 where
  pub steps : ℕ
  pub frames : ℕ
  pub low : Option ℕ

-- the lowest address of a frame, if there was one
abbrev pub low_text : Option ℕ → Text
low_text None = codes "none"
low_text (Some a) = hex a

-- the line of the totals
abbrev pub totals_text : Text → Totals → Text
totals_text mode t = line_text mode (codes "steps" ∷ decimal t.steps ∷ codes "frames" ∷ decimal t.frames ∷ codes "low" ∷ low_text t.low ∷ [])
