-- The images and script lines that the program can run today. Own.
use Rattle.std.specs.Prelude.{◌≡◌, Bool, true, false}
use Rattle.std.specs.List.{list_all}
use Rattle.ev_body.specs.declared.key.Key.{Key}
use Rattle.ev_body.specs.declared.key.Key.TheVariants.{Nmi, Irq}
use Rattle.ev_body.specs.declared.item.Item.{Item}
use Rattle.ev_body.specs.declared.item.Item.TheVariants.{Set, Copy, Alu, Jcc, Goto, Nop, Log, Cpu, Slot, Put, Cell, SetCell, AddCell, SwapCell, Uget, Uput, GetReg, SetReg, SetRip, Map, Unmap, Sti, Cli, Eoi, Send, Ret, Resched, Call, Kick, Wait, Take, Finish}
use Rattle.ev_body.specs.declared.body.Body.{Body}
use Rattle.ev_body.specs.declared.image.Image.{Image}
use Rattle.ev_body.specs.Bodies.{body_items}
use Rattle.ev_abstract.specs.Accepted.{IsAccepted}
use Rattle.ev_abstract.specs.declared.script_line.Line.{Line}
use Rattle.ev_abstract.specs.declared.script_line.Line.TheVariants.{Turn, Arrive, Accept}

-- all items but those that send an NMI
unfoldable pub is_built_item : Item → Bool
is_built_item (Set d n) = true
is_built_item (Copy d s) = true
is_built_item (Alu op d s) = true
is_built_item (Jcc cond n) = true
is_built_item (Goto n) = true
is_built_item Nop = true
is_built_item (Log s) = true
is_built_item (Cpu d) = true
is_built_item (Slot d k) = true
is_built_item (Put k s) = true
is_built_item (Cell d k) = true
is_built_item (SetCell k s) = true
is_built_item (AddCell k d) = true
is_built_item (SwapCell k d) = true
is_built_item (Uget d s) = true
is_built_item (Uput s t) = true
is_built_item (GetReg d r) = true
is_built_item (SetReg r s) = true
is_built_item (SetRip a) = true
is_built_item (Map s) = true
is_built_item (Unmap s) = true
is_built_item Sti = true
is_built_item Cli = true
is_built_item Resched = true
is_built_item Eoi = true
is_built_item (Send to (Irq v)) = true
is_built_item Item.Bp = true
is_built_item Ret = true
is_built_item (Call site to func s) = true
is_built_item (Kick to s) = true
is_built_item (Wait site) = true
is_built_item Take = true
is_built_item Finish = true
is_built_item _ = false

-- bodies of system calls, exceptions and interrupts, whose exit is the one of all bodies but those of NMIs
unfoldable pub is_built_key : Key → Bool
is_built_key Nmi = false
is_built_key _ = true

-- of such items, in its functions too
abbrev pub is_built_body : Body → Bool
is_built_body b = list_all is_built_item (body_items b)

-- an accepted image, of any number of processors and tasks, whose user code is any
pub record IsBuilt (image : Image) : Type 0 where
  pub accepted : IsAccepted image
  pub bodies : list_all is_built_body image.bodies ≡ true
  pub keys : list_all (λ (b : Body). is_built_key b.key) image.bodies ≡ true

-- turns, arrivals of interrupts, and mail that is accepted, of any processor
unfoldable pub line_is_built : Line → Bool
line_is_built (Turn p) = true
line_is_built (Arrive p (Irq v)) = true
line_is_built (Accept p) = true
line_is_built _ = false
