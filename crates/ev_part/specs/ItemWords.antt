-- The words of items. Own.
use Rattle.std.specs.Prelude.{List, [], ◌∷◌, codes, Option, Some, None, option_map}
use Rattle.ev_isa.specs.declared.instruction.Cond.{Cond}
use Rattle.ev_isa.specs.declared.instruction.Cond.TheVariants.{Z, Nz, C, Nc}
use Rattle.ev_body.specs.declared.item.Item.{Item}
use Rattle.ev_body.specs.declared.item.Item.TheVariants as Item
use Rattle.ev_io.specs.Tokens.{Token}
use Rattle.ev_text.specs.Words.{alu_word, named_in, or_then}
use Rattle.ev_part.specs.declared.words.ItemWord.{ItemWord}
use Rattle.ev_part.specs.declared.words.ItemWord.TheVariants as Word

-- the items without operands that stand anywhere in a part
unfoldable pub lone_item : Token → Option Item
lone_item t =
    named_in ((codes "nop", Item.Nop) ∷ (codes "sti", Item.Sti) ∷ (codes "cli", Item.Cli) ∷ (codes "eoi", Item.Eoi) ∷ (codes "bp", Item.Bp)
    ∷ (codes "take", Item.Take) ∷ []) t

-- jumps, and the end of a main part
unfoldable pub jump_item : Token → Option ItemWord
jump_item t =
    named_in ((codes "jz", Word.Jump (Some Z)) ∷ (codes "jnz", Word.Jump (Some Nz)) ∷ (codes "jc", Word.Jump (Some C))
    ∷ (codes "jnc", Word.Jump (Some Nc)) ∷ (codes "goto", Word.Jump None) ∷ (codes "ret", Word.Ret) ∷ []) t

-- locals, trace and user words
unfoldable pub local_item : Token → Option ItemWord
local_item t =
    named_in ((codes "set", Word.Set) ∷ (codes "copy", Word.Copy) ∷ (codes "log", Word.Log) ∷ (codes "cpu", Word.Cpu) ∷ (codes "uget", Word.Uget)
    ∷ (codes "uput", Word.Uput) ∷ []) t

-- slots, cells and pages
unfoldable pub shared_item : Token → Option ItemWord
shared_item t = named_in ((codes "slot", Word.Slot) ∷ (codes "put", Word.Put) ∷ (codes "cell", Word.Cell) ∷ (codes "map", Word.Map) ∷ []) t

-- interrupts sent to other processors, and cross calls
unfoldable pub call_item : Token → Option ItemWord
call_item t = named_in ((codes "send", Word.Send) ∷ (codes "call", Word.Call) ∷ (codes "kick", Word.Kick) ∷ (codes "wait", Word.Wait) ∷ []) t

-- the words of five letters and more
unfoldable pub long_item : Token → Option ItemWord
long_item t =
    named_in ((codes "unmap", Word.Unmap) ∷ (codes "getreg", Word.GetReg) ∷ (codes "setreg", Word.SetReg) ∷ (codes "setrip", Word.SetRip)
    ∷ (codes "finish", Word.Finish) ∷ (codes "setcell", Word.SetCell) ∷ (codes "addcell", Word.AddCell) ∷ (codes "swapcell", Word.SwapCell)
    ∷ (codes "resched", Word.Alone Item.Resched) ∷ []) t

-- the words of items that have operands, but for arithmetic and jumps
unfoldable pub operand_item : Token → Option ItemWord
operand_item t = or_then (local_item t) (or_then (shared_item t) (or_then (call_item t) (long_item t)))

-- the first word of an item
unfoldable pub item_word : Token → Option ItemWord
item_word t = or_then (option_map Word.Alu (alu_word t)) (or_then (option_map Word.Alone (lone_item t)) (or_then (jump_item t) (operand_item t)))
