-- Scripts, and the run of the abstract machine. Own.
use Rattle.std.specs.Prelude.{ℕ, true, false, ◌||◌, List, [], ◌∷◌, ◌++◌, Option, Some, None, slice_get}
use Rattle.ev_isa.specs.Word.{put_at, union, no_numbers}
use Rattle.ev_abstract.specs.UserCode.{UserStep, Goes, Raises, user_step}
use Rattle.ev_body.specs.declared.key.Key.{Key}
use Rattle.ev_body.specs.declared.key.Key.TheVariants.{Nmi}
use Rattle.ev_body.specs.declared.item.Item.{Item}
use Rattle.ev_body.specs.declared.body.Body.{Body}
use Rattle.ev_body.specs.declared.image.Image.{Image}
use Rattle.ev_body.specs.Bodies.{body_items, key_number}
use Rattle.ev_abstract.specs.Context.{BodyContext}
use Rattle.ev_abstract.specs.declared.entry.Entry.{Entry}
use Rattle.ev_abstract.specs.Machine.{Processor, Machine, processor, with_processor, task, with_task, user_memory, opening}
use Rattle.ev_abstract.specs.Boundary.{Choice, Interrupt, Next, choice}
use Rattle.ev_abstract.specs.Delivery.{nmi_delivered, interrupt_delivered, task_event}
use Rattle.ev_abstract.specs.ItemMeaning.{Step, silent, item_step}
use Rattle.ev_abstract.specs.declared.script_line.Line.{Line}
use Rattle.ev_abstract.specs.declared.script_line.Line.TheVariants.{Turn, Edge, Arrive, Accept}

-- a delivery at p
abbrev pub delivery : Machine → ℕ → Processor × List Entry → Step
delivery m p r = (with_processor m p r.0, r.1)

-- a step of the task
abbrev pub task_step : Image → Machine → ℕ → UserStep → Step
task_step image m p (Goes t words) = silent (with_processor (record m { words = words }) p (with_task (processor m p) t))
task_step image m p (Raises saved e) = delivery m p (task_event image p (processor m p) saved e)

-- the item of a context: its body's item at its place
abbrev pub item_at : Option Body → ℕ → Option Item
item_at None n = None
item_at (Some b) n = slice_get (body_items b) n

-- the item at which a context stands, if there is one; in an accepted image there always is
abbrev pub item_or_nothing : Image → Machine → ℕ → BodyContext → Option Item → Step
item_or_nothing image m p c None = silent m
item_or_nothing image m p c (Some item) = item_step image m p c item

-- the next instruction or item of the last context
abbrev pub next_step : Image → Machine → ℕ → List BodyContext → Step
next_step image m p [] = task_step image m p (user_step (user_memory image m) (task (processor m p)))
next_step image m p (c ∷ below) = item_or_nothing image m p c (item_at (slice_get image.bodies c.body) c.place)

-- the step that was chosen at the boundary
abbrev pub chosen_step : Image → Machine → ℕ → Choice → Step
chosen_step image m p Choice.Nmi = delivery m p (nmi_delivered image p (processor m p))
chosen_step image m p (Interrupt v) = delivery m p (interrupt_delivered image p (processor m p) v)
chosen_step image m p Next = next_step image m p (processor m p).bodies

-- one step of processor p
unfoldable pub turn : Image → Machine → ℕ → Step
turn image m p = chosen_step image m p (choice image (processor m p))

-- an event arrives: an NMI at the latch, an interrupt among those pending
abbrev pub arrived : Processor → Key → Processor
arrived x Nmi = record x { nmi = true }
arrived x key = record x { pending = put_at x.pending (key_number key) true }

-- the mail moves to the pending vectors and the latch
abbrev pub accepted : Processor → Processor
accepted x = record x { pending = union x.pending x.mail; nmi = x.nmi || x.mail_nmi; mail = no_numbers; mail_nmi = false }

-- a line of a script
unfoldable pub line_step : Image → Machine → Line → Step
line_step image m (Turn p) = turn image m p
line_step image m (Edge p n) = silent m
line_step image m (Arrive p key) = silent (with_processor m p (arrived (processor m p) key))
line_step image m (Accept p) = silent (with_processor m p (accepted (processor m p)))

-- the machine after lines, and their entries in order
abbrev pub after : Image → Machine → List Line → Machine
after image m [] = m
after image m (l ∷ ls) = after image (line_step image m l).0 ls

-- the entries of these lines, one after another, from a machine on
abbrev pub entries_from : Image → Machine → List Line → List Entry
entries_from image m [] = []
entries_from image m (l ∷ ls) = (line_step image m l).1 ++ entries_from image (line_step image m l).0 ls

-- the run of a script from the opening
abbrev pub run : Image → List Line → Machine
run image script = after image (opening image) script

-- the entries of a whole script
abbrev pub trace : Image → List Line → List Entry
trace image script = entries_from image (opening image) script

-- the entries of one more line
abbrev pub entries_of : Image → List Line → Line → List Entry
entries_of image script line = (line_step image (run image script) line).1
