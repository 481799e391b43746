-- The text of a run in one or both modes. Own.
use Rattle.std.specs.Prelude.{Bool, if◌then◌else◌, List, [], ◌∷◌, ◌++◌, map}
use Rattle.ev_body.specs.declared.image.Image.{Image}
use Rattle.ev_abstract.specs.declared.entry.Entry.{Entry}
use Rattle.ev_abstract.specs.Machine.{Machine, opening}
use Rattle.ev_isa.specs.Word.{numbers_from}
use Rattle.ev_abstract.specs.declared.script_line.Line.{Line}
use Rattle.ev_abstract.specs.Run.{line_step}
use Rattle.ev_isa.specs.declared.mode.Mode.{Mode}
use Rattle.ev_concrete.specs.ConcreteRun.{Marks, System, noted, processor_of, marks_of, opening_system, concrete_line, all_settled}
use Rattle.ev_abstract.specs.EntryText.{Text, trace_text, all_end_lines}
use Rattle.ev_trace.specs.FrameText.{Noted, mode_text, frames_text, totals_text}

-- a mode with the marks of its code and the state of its machine
pub record ModeRun : Type 0 where
  pub mode : Mode
  pub marks : Marks
  pub system : System

-- a mode before the script
abbrev pub opened : Image → Mode → ModeRun
opened image mode = record { mode = mode; marks = marks_of mode image; system = opening_system mode image }

-- the text of frames, where they are asked for
abbrev pub shown_frames : Bool → Mode → List Noted → Text
shown_frames frames mode fs = if frames then frames_text (mode_text mode) fs else []

-- a mode after a line of the script
abbrev pub side_after : Image → Line → ModeRun → ModeRun
side_after image l s = record s { system = (concrete_line s.marks image.processors s.system l).0 }

-- the text of a script line, of each mode the frames and then the entries
abbrev pub line_text_of : Image → Bool → List Entry → Line → List ModeRun → Text
line_text_of image frames es l [] = []
line_text_of image frames es l (s ∷ ss) =
    shown_frames frames s.mode (noted (processor_of l) (concrete_line s.marks image.processors s.system l).1) ++ trace_text (mode_text s.mode) es
    ++ line_text_of image frames es l ss

-- a mode with every processor settled
abbrev pub settling : Image → ModeRun → System × List Noted
settling image s = all_settled s.marks image.processors s.system (numbers_from 0 image.processors)

-- the end of the text of each mode: the frames of settling, the tasks or `busy` of the abstract machine, the totals
abbrev pub end_text : Image → Bool → Machine → List ModeRun → Text
end_text image frames m [] = []
end_text image frames m (s ∷ ss) =
    shown_frames frames s.mode (settling image s).1 ++ all_end_lines (mode_text s.mode) m 0 image.processors ++ totals_text (mode_text s.mode)
    (settling image s).0.totals
    ++ end_text image frames m ss

-- the text of script lines and of the end
abbrev pub script_text : Image → Bool → Machine → List ModeRun → List Line → Text
script_text image frames m sides [] = end_text image frames m sides
script_text image frames m sides (l ∷ ls) =
    line_text_of image frames (line_step image m l).1 l sides ++ script_text image frames (line_step image m l).0 (map (side_after image l) sides) ls

-- the text of a run in these modes, with or without frames
unfoldable pub run_text : Image → List Line → List Mode → Bool → Text
run_text image script modes frames = script_text image frames (opening image) (map (opened image) modes) script
