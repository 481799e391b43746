-- What is promised of a document's runs, whatever comes of the command. Own.
use Rattle.std.specs.Prelude.{◌≡◌, ℕ, true, List, Ok}
use Rattle.std.specs.List.{list_all}
use Rattle.ev_isa.specs.declared.mode.Mode.{Mode}
use Rattle.ev_body.specs.KernelImage.{KernelImage}
use Rattle.ev_abstract.specs.Accepted.{IsAccepted}
use Rattle.ev_abstract.specs.CallLaws.{KeepsCalls}
use Rattle.ev_abstract.specs.Run.{trace}
use Rattle.ev_abstract.specs.declared.script_line.Line.{Line}
use Rattle.ev_built.specs.Built.{line_is_built}
use Rattle.ev_built.specs.RunTakes.{is_built}
use Rattle.ev_image.specs.declared.head.Head.TheVariants as Head
use Rattle.ev_image.specs.Reads.{Opened, opened}
use Rattle.ev_io.specs.InputLines.{lines_of}
use Rattle.ev_pair.specs.Chains.{KeepsChains}
use Rattle.ev_pair.specs.Safety.{RunIsSafe}
use Rattle.ev_script.specs.Script.{read_script}

-- the bytes hold an accepted image and a script behind it, both of which `run` takes
pub record HoldsRun (bytes : List ℕ) (image : KernelImage) (script : List Line) : Type 0 where
  pub read : Opened
  pub opens : opened 0 0 Head.Image (lines_of bytes) ≡ Ok read
  pub image_is : read.image ≡ image
  pub script_is : read_script image read.lines read.bytes read.behind ≡ Ok script
  pub accepted : IsAccepted image
  pub built : is_built image ≡ true
  pub lines_built : list_all line_is_built script ≡ true

-- in either mode no frame of such a run holds a word that was live just before its step
abbrev pub FramesAreSafe : Type 0
FramesAreSafe = (bytes : List ℕ) (image : KernelImage) (script : List Line) → HoldsRun bytes image script
    → (mode : Mode) → RunIsSafe mode image script

-- behind each of its lines the bodies on a processor are a legal chain, no longer than the bound that `check` prints, and than `nest`
abbrev pub ChainsAreKept : Type 0
ChainsAreKept = (bytes : List ℕ) (image : KernelImage) (script : List Line) → HoldsRun bytes image script
    → KeepsChains image script

-- in the trace of such a run each call runs at most once, was queued before it ran, and ran before it is reported as done
abbrev pub CallsAreKept : Type 0
CallsAreKept = (bytes : List ℕ) (image : KernelImage) (script : List Line) → HoldsRun bytes image script
    → KeepsCalls (trace image script)
