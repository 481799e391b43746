-- The items of bodies: which operands stand behind each word. Own.
use Rattle.std.specs.Prelude.{Bool, true, false, List, [], ◌∷◌, Option, Some, None, Result}
use Rattle.ev_body.specs.declared.item.Item.{Item}
use Rattle.ev_body.specs.declared.item.Item.TheVariants as Item
use Rattle.ev_io.specs.Tokens.{Token}
use Rattle.ev_io.specs.declared.cause.Cause.{Cause}
use Rattle.ev_asm.specs.Assembly.{Places}
use Rattle.ev_line.specs.Operands.{Place, Register, Local, Number, Label, SentKey, TextLabel}
use Rattle.ev_line.specs.Forms.{Maker, Form, form, read_by}
use Rattle.ev_part.specs.declared.line.BodyLine.{BodyLine}
use Rattle.ev_part.specs.declared.line.BodyLine.TheVariants.{Does, Jumps}
use Rattle.ev_part.specs.declared.words.ItemWord.{ItemWord}
use Rattle.ev_part.specs.declared.words.ItemWord.TheVariants as Word
use Rattle.ev_part.specs.ItemWords.{item_word}

-- an item with these places, in a list of one
abbrev pub only : (places : List Place) → Maker places BodyLine → List (Form BodyLine)
only places made = form places made ∷ []

-- the forms of each word, where the text has these labels: `ret` stands in a main part alone, and `finish` in a function part alone
unfoldable pub item_forms : (text : Places) (is_main : Bool) → ItemWord → List (Form BodyLine)
item_forms text is_main Word.Set = only (Local ∷ Number ∷ []) (λ d n. Does (Item.Set d n))
item_forms text is_main Word.Copy = only (Local ∷ Local ∷ []) (λ d s. Does (Item.Copy d s))
item_forms text is_main (Word.Alu op) = only (Local ∷ Local ∷ []) (λ d s. Does (Item.Alu op d s))
item_forms text is_main (Word.Jump cond) = only (Label ∷ []) (λ name. Jumps cond name)
item_forms text is_main Word.Log = only (Local ∷ []) (λ s. Does (Item.Log s))
item_forms text is_main Word.Cpu = only (Local ∷ []) (λ d. Does (Item.Cpu d))
item_forms text is_main Word.Slot = only (Local ∷ Number ∷ []) (λ d k. Does (Item.Slot d k))
item_forms text is_main Word.Put = only (Number ∷ Local ∷ []) (λ k s. Does (Item.Put k s))
item_forms text is_main Word.Cell = only (Local ∷ Number ∷ []) (λ d k. Does (Item.Cell d k))
item_forms text is_main Word.SetCell = only (Number ∷ Local ∷ []) (λ k s. Does (Item.SetCell k s))
item_forms text is_main Word.AddCell = only (Number ∷ Local ∷ []) (λ k d. Does (Item.AddCell k d))
item_forms text is_main Word.SwapCell = only (Number ∷ Local ∷ []) (λ k d. Does (Item.SwapCell k d))
item_forms text is_main Word.Uget = only (Local ∷ Local ∷ []) (λ d s. Does (Item.Uget d s))
item_forms text is_main Word.Uput = only (Local ∷ Local ∷ []) (λ s t. Does (Item.Uput s t))
item_forms text is_main Word.GetReg = only (Local ∷ Register ∷ []) (λ d r. Does (Item.GetReg d r))
item_forms text is_main Word.SetReg = only (Register ∷ Local ∷ []) (λ r s. Does (Item.SetReg r s))
item_forms text is_main Word.SetRip = only (TextLabel text ∷ []) (λ a. Does (Item.SetRip a))
item_forms text is_main Word.Map = only (Local ∷ []) (λ s. Does (Item.Map s))
item_forms text is_main Word.Unmap = only (Local ∷ []) (λ s. Does (Item.Unmap s))
item_forms text is_main Word.Send = only (Number ∷ SentKey ∷ []) (λ p k. Does (Item.Send p k))
item_forms text is_main Word.Call = only (Number ∷ Number ∷ Number ∷ Local ∷ []) (λ k p f s. Does (Item.Call k p f s))
item_forms text is_main Word.Kick = only (Number ∷ Local ∷ []) (λ p s. Does (Item.Kick p s))
item_forms text is_main Word.Wait = only (Number ∷ []) (λ k. Does (Item.Wait k))
item_forms text is_main (Word.Alone i) = only [] (Does i)
item_forms text true Word.Ret = only [] (Does Item.Ret)
item_forms text false Word.Ret = []
item_forms text true Word.Finish = []
item_forms text false Word.Finish = only [] (Does Item.Finish)

-- the forms of an item's first token
unfoldable pub part_forms : (text : Places) (is_main : Bool) → Token → List (Form BodyLine)
part_forms text is_main w = elim (item_word w) [ None ↦ [] | Some word ↦ item_forms text is_main word ]

-- what the tokens of an item's line say
abbrev pub item_of : (text : Places) (is_main : Bool) → List Token → Result BodyLine Cause
item_of text is_main ts = read_by (part_forms text is_main) ts
