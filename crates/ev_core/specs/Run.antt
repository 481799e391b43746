-- The machine as contracts see it, and what it is to be the run of a script. Own.
use Rattle.std.specs.Prelude.{◌≡◌, ℕ, ◌≤◌, ◌+◌, true, List}
use Rattle.std.specs.List.{list_all}
use Rattle.ev_isa.specs.Word.{NatMap}
use Rattle.ev_isa.specs.declared.mode.Mode.{Mode}
use Rattle.ev_body.specs.declared.image.Image.{Image}
use Rattle.ev_body.specs.WellFormed.{IsImage}
use Rattle.ev_abstract.specs.Machine.{Machine}
use Rattle.ev_abstract.specs.Script.{IsScript}
use Rattle.ev_abstract.specs.declared.script_line.Line.{Line}
use Rattle.ev_concrete.specs.ConcreteRun.{System, marks_of, concrete_run}
use Rattle.ev_built.specs.Built.{IsBuilt, line_is_built}
use Rattle.ev_relation.specs.Relation.{Stands}
use Rattle.ev_layout.specs.KeptCode.{KeptCode}
use Rattle.ev_layout.specs.Marks.{marks_in}
use Rattle.ev_core.specs.State.{Parts, Shows}

pub record MachineView : Type 0 where
  pub parts : Parts
  pub places : KeptCode

-- the machine of an image in a mode, in the state s
pub record IsAt (mode : Mode) (image : Image) (s : System) (v : MachineView) : Type 0 where
  pub marks : marks_in v.places ≡ marks_of mode image
  pub shows : Shows image.processors v.parts s

-- images with which machines run
pub record CanRun (image : Image) : Type 0 where
  pub image_is : IsImage image
  pub built : IsBuilt image

-- the machine is in the state to which the script leads from the opening
pub record IsRun (mode : Mode) (image : Image) (script : List Line) (v : MachineView) : Type 0 where
  pub can : CanRun image
  pub script_is : IsScript image script
  pub lines_built : list_all line_is_built script ≡ true
  pub at : IsAt mode image (concrete_run mode image script).0 v

-- the machine is in the state s, which stands for the state m of the abstract machine
pub record IsStandingAs (mode : Mode) (image : Image) (s : System) (m : Machine) (v : MachineView) : Type 0 where
  pub can : CanRun image
  pub at : IsAt mode image s v
  pub left : NatMap ℕ
  pub stands : Stands mode image left s m

-- it is in some such state
pub record IsStanding (v : MachineView) : Type 0 where
  pub mode : Mode
  pub image : Image
  pub system : System
  pub machine : Machine
  pub so : IsStandingAs mode image system machine v

-- so many steps were counted and made
pub record Costs (most before now : ℕ) (v w : MachineView) : Type 0 where
  pub made : ℕ
  pub few : made ≤ most
  pub counted : now ≡ before + made
  pub totals : w.parts.totals.steps ≡ v.parts.totals.steps + made
