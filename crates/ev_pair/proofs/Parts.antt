-- The text of one mode, part by part.
use Rattle.std.proofs.Common.{◌≡◌, ℕ, zero, suc, true, false, List, [], ◌∷◌, ◌++◌, map, length, append_assoc, ap, refl, sym, ◌∙◌}
use Rattle.std.specs.Prelude.{flat_map}
use Rattle.std.proofs.lemmas.List.{append-nil}
use Rattle.ev_isa.specs.Word.{numbers_from}
use Rattle.ev_isa.specs.declared.mode.Mode.{Mode}
use Rattle.ev_body.specs.declared.image.Image.{Image}
use Rattle.ev_abstract.specs.Machine.{Machine, Processor, processor, opening}
use Rattle.ev_abstract.specs.Run.{line_step}
use Rattle.ev_abstract.specs.declared.entry.Entry.{Entry}
use Rattle.ev_abstract.specs.declared.script_line.Line.{Line}
use Rattle.ev_abstract.specs.EntryText.{Text, line_text, entry_words, task_words, busy_words, entry_text, trace_text, task_lines, end_lines, all_end_lines}
use Rattle.ev_trace.specs.FrameText.{Totals, mode_text, frames_text, totals_text}
use Rattle.ev_concrete.specs.ConcreteRun.{System, Marks, marks_of, noted, processor_of, concrete_line, concrete_lines, opening_system, all_settled}
use Rattle.ev_concrete.specs.RunText.{ModeRun, script_text, run_text}
use Rattle.ev_pair.specs.Agreement.{tasks_words, end_words, all_end_words, words_from, frames_from, lines_text, beside, ModesAgree, FramesComeBefore}

-- ---- lines as words

joined : (mode : Text) (xs ys : List (List Text)) → lines_text mode (xs ++ ys) ≡ lines_text mode xs ++ lines_text mode ys
joined mode [] ys = refl
joined mode (x ∷ xs) ys = ap (λ t. line_text mode x ++ t) (joined mode xs ys) ∙ sym (append_assoc (line_text mode x) (lines_text mode xs) (lines_text mode ys))

trace_is : (mode : Text) (es : List Entry) → trace_text mode es ≡ lines_text mode (map entry_words es)
trace_is mode [] = refl
trace_is mode (e ∷ es) = ap (λ t. entry_text mode e ++ t) (trace_is mode es)

tasks_are : (mode : Text) (p : ℕ) (x : Processor) (n i : ℕ) → task_lines mode p x i n ≡ lines_text mode (tasks_words p x i n)
tasks_are mode p x zero i = refl
tasks_are mode p x (suc n) i = ap (λ t. line_text mode (task_words p i (x.tasks i)) ++ t) (tasks_are mode p x n (suc i))

end_is : (mode : Text) (p : ℕ) (x : Processor) (depth : ℕ) → end_lines mode p x depth ≡ lines_text mode (end_words p x depth)
end_is mode p x zero = tasks_are mode p x (suc (length x.waiting)) 0
end_is mode p x (suc depth) = sym (append-nil (line_text mode (busy_words p (suc depth))))

ends_are : (mode : Text) (m : Machine) (n p : ℕ) → all_end_lines mode m p n ≡ lines_text mode (all_end_words m p n)
ends_are mode m zero p = refl
ends_are mode m (suc n) p =
    (λ i. end_is mode p (processor m p) (length (processor m p).bodies) i ++ ends_are mode m n (suc p) i)
    ∙ sym (joined mode (end_words p (processor m p) (length (processor m p).bodies)) (all_end_words m (suc p) n))

-- ---- a side's text

module _ (image : Image) (mode : Mode) (marks : Marks) where
  abbrev word : Text
  word = mode_text mode

  abbrev side : System → ModeRun
  side s = record { mode = mode; marks = marks; system = s }

  abbrev totals_after : System → List Line → Totals
  totals_after s ls = (all_settled marks image.processors (concrete_lines marks image.processors s ls).0 (numbers_from 0 image.processors)).0.totals

  without_frames : (ls : List Line) (m : Machine) (s : System)
      → script_text image false m (side s ∷ []) ls ≡ flat_map (lines_text word) (words_from image m ls) ++ totals_text word (totals_after s ls)
  without_frames [] m s =
      append-nil (all_end_lines word m 0 image.processors ++ totals_text word (totals_after s []))
      ∙ ap (λ t. t ++ totals_text word (totals_after s []))
      (ends_are word m image.processors 0 ∙ sym (append-nil (lines_text word (all_end_words m 0 image.processors))))
  without_frames (l ∷ ls) m s =
      let here = append-nil (trace_text word (line_step image m l).1) ∙ trace_is word (line_step image m l).1 in
      (λ i. here i ++ without_frames ls (line_step image m l).0 (concrete_line marks image.processors s l).0 i)
      ∙ sym (append_assoc (lines_text word (map entry_words (line_step image m l).1))
      (flat_map (lines_text word) (words_from image (line_step image m l).0 ls)) (totals_text word (totals_after s (l ∷ ls))))

  with_frames : (ls : List Line) (m : Machine) (s : System)
      → script_text image true m (side s ∷ []) ls ≡ beside word (frames_from marks image.processors s ls) (words_from image m ls) ++ totals_text word
      (totals_after s ls)
  with_frames [] m s =
      let frames = frames_text word (all_settled marks image.processors s (numbers_from 0 image.processors)).1 in
      let totals = totals_text word (totals_after s []) in
      append-nil (frames ++ all_end_lines word m 0 image.processors ++ totals) ∙ ap (λ t. frames ++ t ++ totals) (ends_are word m image.processors 0)
      ∙ ap (λ t. t ++ totals) (sym (append-nil (frames ++ lines_text word (all_end_words m 0 image.processors))))
  with_frames (l ∷ ls) m s =
      let frames = frames_text word (noted (processor_of l) (concrete_line marks image.processors s l).1) in
      let here = append-nil (frames ++ trace_text word (line_step image m l).1) ∙ ap (λ t. frames ++ t) (trace_is word (line_step image m l).1) in
      (λ i. here i ++ with_frames ls (line_step image m l).0 (concrete_line marks image.processors s l).0 i)
      ∙ sym (append_assoc (frames ++ lines_text word (map entry_words (line_step image m l).1))
      (beside word (frames_from marks image.processors (concrete_line marks image.processors s l).0 ls) (words_from image (line_step image m l).0 ls))
      (totals_text word (totals_after s (l ∷ ls))))

pub modes_agree : ModesAgree
unfolding run_text
modes_agree image script mode = without_frames image mode (marks_of mode image) script (opening image) (opening_system mode image)

pub frames_come_before : FramesComeBefore
unfolding run_text
frames_come_before image script mode = with_frames image mode (marks_of mode image) script (opening image) (opening_system mode image)
