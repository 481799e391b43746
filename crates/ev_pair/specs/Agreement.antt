-- What the abstract machine says of a run's text, which the modes share. Own.
use Rattle.std.specs.Prelude.{◌≡◌, ℕ, zero, suc, true, false, List, [], ◌∷◌, ◌++◌, map, flat_map, length}
use Rattle.ev_isa.specs.Word.{numbers_from}
use Rattle.ev_isa.specs.declared.mode.Mode.{Mode}
use Rattle.ev_body.specs.declared.image.Image.{Image}
use Rattle.ev_abstract.specs.Machine.{Machine, Processor, processor, opening}
use Rattle.ev_abstract.specs.Run.{line_step}
use Rattle.ev_abstract.specs.declared.script_line.Line.{Line}
use Rattle.ev_abstract.specs.EntryText.{Text, line_text, entry_words, task_words, busy_words}
use Rattle.ev_trace.specs.FrameText.{Noted, mode_text, frames_text, totals_text}
use Rattle.ev_concrete.specs.ConcreteRun.{System, Marks, marks_of, noted, processor_of, concrete_line, opening_system, all_settled, settled_run}
use Rattle.ev_concrete.specs.RunText.{run_text}

-- ---- from the abstract machine alone: the words of each line of the text, in order

-- the words of the lines of tasks from number i on, so many
abbrev pub tasks_words : ℕ → Processor → ℕ → ℕ → List (List Text)
tasks_words p x i zero = []
tasks_words p x i (suc n) = task_words p i (x.tasks i) ∷ tasks_words p x (suc i) n

-- those of processor p at the end
abbrev pub end_words : ℕ → Processor → ℕ → List (List Text)
end_words p x zero = tasks_words p x 0 (suc (length x.waiting))
end_words p x (suc depth) = busy_words p (suc depth) ∷ []

-- those of the processors from p on
abbrev pub all_end_words : Machine → ℕ → ℕ → List (List Text)
all_end_words m p zero = []
all_end_words m p (suc n) = end_words p (processor m p) (length (processor m p).bodies) ++ all_end_words m (suc p) n

-- those of each line of a script, and of the end
abbrev pub words_from : Image → Machine → List Line → List (List (List Text))
words_from image m [] = all_end_words m 0 image.processors ∷ []
words_from image m (l ∷ ls) = map entry_words (line_step image m l).1 ∷ words_from image (line_step image m l).0 ls

abbrev pub shown_words : Image → List Line → List (List (List Text))
shown_words image script = words_from image (opening image) script

-- ---- from the concrete machine of a mode: the frames of each line of a script, and of settling at the end

abbrev pub frames_from : Marks → ℕ → System → List Line → List (List Noted)
frames_from marks n s [] = (all_settled marks n s (numbers_from 0 n)).1 ∷ []
frames_from marks n s (l ∷ ls) = noted (processor_of l) (concrete_line marks n s l).1 ∷ frames_from marks n (concrete_line marks n s l).0 ls

abbrev pub written_frames : Mode → Image → List Line → List (List Noted)
written_frames mode image script = frames_from (marks_of mode image) image.processors (opening_system mode image) script

-- ---- the text

-- lines of these words, each behind the mode's word
abbrev pub lines_text : Text → List (List Text) → Text
lines_text mode ws = flat_map (line_text mode) ws

-- the lines of frames before those of words, part by part
abbrev pub beside : Text → List (List Noted) → List (List (List Text)) → Text
beside mode [] wss = flat_map (lines_text mode) wss
beside mode (fs ∷ fss) [] = frames_text mode fs ++ beside mode fss []
beside mode (fs ∷ fss) (ws ∷ wss) = frames_text mode fs ++ lines_text mode ws ++ beside mode fss wss

-- Without frames, the lines before the totals are those of one abstract run, but for the mode's word.
abbrev pub ModesAgree : Type 0
ModesAgree = (image : Image) (script : List Line) (mode : Mode)
    → run_text image script (mode ∷ []) false ≡ flat_map (lines_text (mode_text mode)) (shown_words image script) ++ totals_text (mode_text mode)
    (settled_run mode image script).0.totals

-- With frames, a mode's own lines of frames stand before them, part by part.
abbrev pub FramesComeBefore : Type 0
FramesComeBefore = (image : Image) (script : List Line) (mode : Mode)
    → run_text image script (mode ∷ []) true
    ≡ beside (mode_text mode) (written_frames mode image script) (shown_words image script) ++ totals_text (mode_text mode)
    (settled_run mode image script).0.totals
