-- The text of one mode's side of a run: of a line of the script, and of the end. Own.
use Rattle.std.specs.Prelude.{Bool, List, ◌++◌}
use Rattle.ev_isa.specs.declared.mode.Mode.{Mode}
use Rattle.ev_body.specs.declared.image.Image.{Image}
use Rattle.ev_abstract.specs.declared.script_line.Line.{Line}
use Rattle.ev_abstract.specs.Run.{run, entries_of}
use Rattle.ev_abstract.specs.EntryText.{Text, trace_text, all_end_lines}
use Rattle.ev_trace.specs.FrameText.{mode_text, totals_text}
use Rattle.ev_concrete.specs.ConcreteRun.{marks_of, noted, processor_of, concrete_line, concrete_run}
use Rattle.ev_concrete.specs.RunText.{ModeRun, shown_frames, settling}

-- the side of a mode after these lines
abbrev pub side_at : Mode → Image → List Line → ModeRun
side_at mode image done = record { mode = mode; marks = marks_of mode image; system = (concrete_run mode image done).0 }

-- what a line shows after those that are done: frames, where they are asked for, and entries
unfoldable pub shown_line : Bool → Mode → Image → List Line → Line → Text
shown_line frames mode image done line =
    shown_frames frames mode (noted (processor_of line) (concrete_line (marks_of mode image) image.processors (concrete_run mode image done).0 line).1)
    ++ trace_text (mode_text mode) (entries_of image done line)

-- what the end shows after a script: the frames of settling, where they are asked for, the states of processors, and the totals
unfoldable pub shown_end : Bool → Mode → Image → List Line → Text
shown_end frames mode image script =
    shown_frames frames mode (settling image (side_at mode image script)).1
    ++ all_end_lines (mode_text mode) (run image script) 0 image.processors
    ++ totals_text (mode_text mode) (settling image (side_at mode image script)).0.totals
