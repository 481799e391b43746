-- What is promised of the frames of a run. Own.
use Rattle.std.specs.Prelude.{◌≡◌, ℕ, ◌<◌, ◌≤◌, List, ◌++◌}
use Rattle.ev_isa.specs.Word.{numbers_from}
use Rattle.ev_isa.specs.declared.mode.Mode.{Mode}
use Rattle.ev_body.specs.declared.image.Image.{Image}
use Rattle.ev_abstract.specs.declared.script_line.Line.{Line}
use Rattle.ev_concrete.specs.ConcreteRun.{marks_of, edges, all_settled, concrete_run}
use Rattle.ev_concrete.specs.LiveWords.{IsSafeStep}

-- No step of the run writes a frame over a word that was live just before it: neither one behind the lines that are done and any number of a processor's
-- edges, nor one at the end, where some processors were settled already.
pub record RunIsSafe (mode : Mode) (image : Image) (script : List Line) : Type 0 where
  pub lines : (done rest : List Line) → script ≡ done ++ rest → (p : ℕ) → p < image.processors → (k : ℕ)
      → IsSafeStep mode image (edges k (marks_of mode image) image.processors (concrete_run mode image done).0 p).0 p
  pub settling : (q : ℕ) → q ≤ image.processors → (p : ℕ) → p < image.processors → (k : ℕ)
      → IsSafeStep mode image (edges k (marks_of mode image) image.processors (all_settled (marks_of mode image) image.processors
      (concrete_run mode image script).0 (numbers_from 0 q)).0 p).0 p
