-- Words for the documents of the worked examples, and for what their runs show.
use Rattle.std.specs.Prelude.{ℕ, List, [], ◌∷◌, false, flat_map, replicate, codes}
use Rattle.ev_isa.specs.Spelling.{spelling}
use Rattle.ev_isa.specs.declared.instruction.Ins.{Ins}
use Rattle.ev_isa.specs.declared.mode.Mode.{Mode}
use Rattle.ev_isa.specs.declared.mode.Mode.TheVariants.{Fred, Idt}
use Rattle.ev_body.specs.Bodies.{fill}
use Rattle.ev_body.specs.KernelImage.{KernelImage}
use Rattle.ev_body.specs.declared.body.Body.{Body}
use Rattle.ev_body.specs.declared.image.TaskSpec.{TaskSpec}
use Rattle.ev_body.specs.declared.item.Item.{Item}
use Rattle.ev_body.specs.declared.key.Key.{Key}
use Rattle.ev_body.specs.declared.key.Side.{Side}
use Rattle.ev_state.specs.Processor.{task_of}
use Rattle.ev_abstract.specs.EntryText.{Text, all_end_lines, line_text, task_words}
use Rattle.ev_abstract.specs.Run.{run}
use Rattle.ev_abstract.specs.declared.script_line.Line.{Line}
use Rattle.ev_abstract.specs.declared.script_line.Line.TheVariants.{Turn}
use Rattle.ev_concrete.specs.ConcreteRun.{settled_run}
use Rattle.ev_concrete.specs.RunText.{run_text}

-- a body without function parts
abbrev pub body : Key → Side → List Item → Body
body key side items = record { key = key; side = side; items = items; parts = [] }

-- a task that starts at an address with this GS base and with registers of 0
abbrev pub start_at : ℕ → ℕ → TaskSpec
start_at start gs = record { start = start; gs = gs; regs = replicate 16 0 }

-- one processor with one task at the beginning of the text
abbrev pub simple : ℕ → List Ins → List Body → KernelImage
simple nest text bodies = record {
  processors = 1;
  nest = nest;
  pages = [];
  cells = [];
  text = flat_map spelling text;
  tasks = (start_at 0x400000 0 ∷ []) ∷ [];
  bodies = fill bodies;
}

abbrev pub turns : ℕ → ℕ → List Line
turns p n = replicate n (Turn p)

-- the text of the tasks at the end of the abstract run
abbrev pub ends_of : KernelImage → List Line → Text
ends_of image script = all_end_lines (codes "idt") (run image script) 0 image.processors

-- the line of the task that runs on p at the end of the concrete run, as task i
abbrev pub user_line : Mode → KernelImage → List Line → ℕ → ℕ → Text
user_line mode image script p i = line_text [] (task_words p i (task_of ((settled_run mode image script).0.cpus p)))

-- the whole text of a run in both modes, without the frames
abbrev pub output_of : KernelImage → List Line → Text
output_of image script = run_text image script (Idt ∷ Fred ∷ []) false
