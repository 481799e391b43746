-- A line of a part that is read has its operands, and an item that ends a part ends a part of its kind.
use Rattle.std.proofs.Common.{◌≡◌, ℕ, Bool, true, false, List, [], ◌∷◌, Option, Some, None, Result, Ok, refl, sym, ◌∙◌, subst}
use Rattle.std.specs.Prelude.{codes}
use Rattle.std.proofs.lemmas.Bool.{and_from}
use Rattle.ev_isa.specs.declared.instruction.Cond.TheVariants.{Z, Nz, C, Nc}
use Rattle.ev_body.specs.WellFormed.{is_body_cond, is_ret, is_finish, has_operands}
use Rattle.ev_body.specs.declared.item.Item.{Item}
use Rattle.ev_io.specs.declared.cause.Cause.{Cause}
use Rattle.ev_io.specs.Tokens.{Token}
use Rattle.ev_asm.specs.Assembly.{Places}
use Rattle.ev_line.specs.Operands.{then_make}
use Rattle.ev_line.specs.Forms.{Form, read_by}
use Rattle.ev_text.specs.Words.{alu_word}
use Rattle.ev_text.proofs.Gives.{AllGive}
use Rattle.ev_text.proofs.WordLaws.{named_fits, either_fits, mapped_fits}
use Rattle.ev_part.specs.declared.line.BodyLine.{BodyLine}
use Rattle.ev_part.specs.declared.words.ItemWord.{ItemWord}
use Rattle.ev_part.specs.declared.words.ItemWord.TheVariants as Word
use Rattle.ev_part.specs.ItemWords.{lone_item, jump_item, local_item, shared_item, call_item, long_item, operand_item, item_word}
use Rattle.ev_part.specs.ItemForms.{item_forms, part_forms}
use Rattle.ev_part.specs.PartItems.{is_end}
use Rattle.ev_image.specs.LabelLine.{label_name, label_said}
use Rattle.ev_image.specs.Sections.{part_said}
use Rattle.ev_image.proofs.Kept.{LieInText, IsItem, IsLine, may_jump}
use Rattle.ev_image.proofs.Lists.{less, made_ok}
use Rattle.ev_image.proofs.Told.{line_gives}

-- ---- words

-- an item without operands that ends no part, whatever the part
pub record IsLone (i : Item) : Type 0 where
  pub operands : (bytes low high : ℕ) → has_operands bytes low high i ≡ true
  pub ends_none : is_end i ≡ false

-- a word whose jump, if it is one, has a condition of bodies, and whose item, if it has one alone, has no operands
abbrev IsFit : ItemWord → Type 0
IsFit (Word.Jump cond) = may_jump cond ≡ true
IsFit (Word.Alone i) = IsLone i
IsFit _ = Unit {0}

lone : (i : Item) → ((bytes low high : ℕ) → has_operands bytes low high i ≡ true) → is_end i ≡ false → IsLone i
lone i h k = record { operands = h; ends_none = k }

lone_is_lone : (t : Token) (i : Item) → lone_item t ≡ Some i → IsLone i
unfolding lone_item has_operands is_end
lone_is_lone t i h =
    named_fits IsLone
    ((codes "nop", Item.Nop) ∷ (codes "sti", Item.Sti) ∷ (codes "cli", Item.Cli) ∷ (codes "eoi", Item.Eoi) ∷ (codes "bp", Item.Bp) ∷ (codes "take", Item.Take)
    ∷ []) t i (
      lone Item.Nop (λ a b c. refl) refl,
      (
        lone Item.Sti (λ a b c. refl) refl,
        (
          lone Item.Cli (λ a b c. refl) refl,
          (
            lone Item.Eoi (λ a b c. refl) refl,
            (lone Item.Bp (λ a b c. refl) refl, (lone Item.Take (λ a b c. refl) refl, tt)),
          ),
        ),
      ),
    )
    h

jump_is_fit : (t : Token) (w : ItemWord) → jump_item t ≡ Some w → IsFit w
unfolding jump_item is_body_cond
jump_is_fit t w h =
    named_fits IsFit
    ((codes "jz", Word.Jump (Some Z)) ∷ (codes "jnz", Word.Jump (Some Nz)) ∷ (codes "jc", Word.Jump (Some C)) ∷ (codes "jnc", Word.Jump (Some Nc))
    ∷ (codes "goto", Word.Jump None) ∷ (codes "ret", Word.Ret) ∷ []) t w
    (refl, (refl, (refl, (refl, (refl, (tt, tt))))))
    h

local_is_fit : (t : Token) (w : ItemWord) → local_item t ≡ Some w → IsFit w
unfolding local_item
local_is_fit t w h =
    named_fits IsFit
    ((codes "set", Word.Set) ∷ (codes "copy", Word.Copy) ∷ (codes "log", Word.Log) ∷ (codes "cpu", Word.Cpu) ∷ (codes "uget", Word.Uget)
    ∷ (codes "uput", Word.Uput) ∷ []) t w (tt, (tt, (tt, (tt, (tt, (tt, tt)))))) h

shared_is_fit : (t : Token) (w : ItemWord) → shared_item t ≡ Some w → IsFit w
unfolding shared_item
shared_is_fit t w h =
    named_fits IsFit ((codes "slot", Word.Slot) ∷ (codes "put", Word.Put) ∷ (codes "cell", Word.Cell) ∷ (codes "map", Word.Map) ∷ []) t w
    (tt, (tt, (tt, (tt, tt)))) h

call_is_fit : (t : Token) (w : ItemWord) → call_item t ≡ Some w → IsFit w
unfolding call_item
call_is_fit t w h =
    named_fits IsFit ((codes "send", Word.Send) ∷ (codes "call", Word.Call) ∷ (codes "kick", Word.Kick) ∷ (codes "wait", Word.Wait) ∷ []) t w
    (tt, (tt, (tt, (tt, tt)))) h

long_is_fit : (t : Token) (w : ItemWord) → long_item t ≡ Some w → IsFit w
unfolding long_item has_operands is_end
long_is_fit t w h =
    named_fits IsFit
    ((codes "unmap", Word.Unmap) ∷ (codes "getreg", Word.GetReg) ∷ (codes "setreg", Word.SetReg) ∷ (codes "setrip", Word.SetRip)
    ∷ (codes "finish", Word.Finish) ∷ (codes "setcell", Word.SetCell) ∷ (codes "addcell", Word.AddCell) ∷ (codes "swapcell", Word.SwapCell)
    ∷ (codes "resched", Word.Alone Item.Resched) ∷ []) t w
    (tt, (tt, (tt, (tt, (tt, (tt, (tt, (tt, (lone Item.Resched (λ a b c. refl) refl, tt))))))))) h

word_fits : (t : Token) (w : ItemWord) → item_word t ≡ Some w → IsFit w
unfolding item_word operand_item
word_fits t w h =
    either_fits IsFit _ _ w (λ v. mapped_fits IsFit Word.Alu (alu_word t) v (λ op _. tt))
    (λ v. either_fits IsFit _ _ v (λ u. mapped_fits IsFit Word.Alone (lone_item t) u (lone_is_lone t))
    (λ u. either_fits IsFit _ _ u (jump_is_fit t)
    (λ x. either_fits IsFit _ _ x (local_is_fit t)
    (λ y. either_fits IsFit _ _ y (shared_is_fit t)
    (λ z. either_fits IsFit _ _ z (call_is_fit t) (long_is_fit t))))))
    h

-- ---- items

-- an item that ends no part
open_item : (bytes : ℕ) (main : Bool) (i : Item) → ((low high : ℕ) → has_operands bytes low high i ≡ true) → is_end i ≡ false → IsItem bytes main i
open_item bytes main i h k = record { operands = h; ends = λ e. absurd (let no : true ≡ false = sym e ∙ k in cc) }

forms_fit : (text : Places) (bytes : ℕ) (main : Bool) (w : ItemWord) → LieInText bytes text → IsFit w
    → AllGive (IsLine bytes main) (item_forms text main w)
unfolding item_forms has_operands is_end is_ret is_finish
forms_fit text bytes main Word.Set g f = (λ d a n b. open_item bytes main (Item.Set d n) (λ low high. and_from _ _ a b) refl, tt)
forms_fit text bytes main Word.Copy g f = (λ d a s b. open_item bytes main (Item.Copy d s) (λ low high. and_from _ _ a b) refl, tt)
forms_fit text bytes main (Word.Alu op) g f = (λ d a s b. open_item bytes main (Item.Alu op d s) (λ low high. and_from _ _ a b) refl, tt)
forms_fit text bytes main (Word.Jump cond) g f = (λ name a. f, tt)
forms_fit text bytes main Word.Log g f = (λ s a. open_item bytes main (Item.Log s) (λ low high. a) refl, tt)
forms_fit text bytes main Word.Cpu g f = (λ d a. open_item bytes main (Item.Cpu d) (λ low high. a) refl, tt)
forms_fit text bytes main Word.Slot g f = (λ d a k b. open_item bytes main (Item.Slot d k) (λ low high. and_from _ _ a b) refl, tt)
forms_fit text bytes main Word.Put g f = (λ k a s b. open_item bytes main (Item.Put k s) (λ low high. and_from _ _ a b) refl, tt)
forms_fit text bytes main Word.Cell g f = (λ d a k b. open_item bytes main (Item.Cell d k) (λ low high. and_from _ _ a b) refl, tt)
forms_fit text bytes main Word.SetCell g f = (λ k a s b. open_item bytes main (Item.SetCell k s) (λ low high. and_from _ _ a b) refl, tt)
forms_fit text bytes main Word.AddCell g f = (λ k a d b. open_item bytes main (Item.AddCell k d) (λ low high. and_from _ _ a b) refl, tt)
forms_fit text bytes main Word.SwapCell g f = (λ k a d b. open_item bytes main (Item.SwapCell k d) (λ low high. and_from _ _ a b) refl, tt)
forms_fit text bytes main Word.Uget g f = (λ d a s b. open_item bytes main (Item.Uget d s) (λ low high. and_from _ _ a b) refl, tt)
forms_fit text bytes main Word.Uput g f = (λ s a t b. open_item bytes main (Item.Uput s t) (λ low high. and_from _ _ a b) refl, tt)
forms_fit text bytes main Word.GetReg g f = (λ d a r b. open_item bytes main (Item.GetReg d r) (λ low high. and_from _ _ a (less r 16 b)) refl, tt)
forms_fit text bytes main Word.SetReg g f = (λ r a s b. open_item bytes main (Item.SetReg r s) (λ low high. and_from _ _ (less r 16 a) b) refl, tt)
forms_fit text bytes main Word.SetRip g f =
    (λ a b. open_item bytes main (Item.SetRip a) (λ low high. rw b.2 (g b.0 b.1)) refl, tt)
forms_fit text bytes main Word.Map g f = (λ s a. open_item bytes main (Item.Map s) (λ low high. a) refl, tt)
forms_fit text bytes main Word.Unmap g f = (λ s a. open_item bytes main (Item.Unmap s) (λ low high. a) refl, tt)
forms_fit text bytes main Word.Send g f = (λ p a k b. open_item bytes main (Item.Send p k) (λ low high. and_from _ _ a b) refl, tt)
forms_fit text bytes main Word.Call g f =
    (λ k a p b func c s d. open_item bytes main (Item.Call k p func s) (λ low high. and_from _ _ (and_from _ _ (and_from _ _ a b) c) d) refl, tt)
forms_fit text bytes main Word.Kick g f = (λ p a s b. open_item bytes main (Item.Kick p s) (λ low high. and_from _ _ a b) refl, tt)
forms_fit text bytes main Word.Wait g f = (λ k a. open_item bytes main (Item.Wait k) (λ low high. a) refl, tt)
forms_fit text bytes main (Word.Alone i) g f = (open_item bytes main i (λ low high. f.operands bytes low high) f.ends_none, tt)
forms_fit text bytes true Word.Ret g f = (record { operands = λ low high. refl; ends = λ e. refl }, tt)
forms_fit text bytes false Word.Ret g f = tt
forms_fit text bytes true Word.Finish g f = tt
forms_fit text bytes false Word.Finish g f = (record { operands = λ low high. refl; ends = λ e. refl }, tt)

item_fits : (text : Places) (bytes : ℕ) (main : Bool) (t : Token) → LieInText bytes text → AllGive (IsLine bytes main) (part_forms text main t)
unfolding part_forms
item_fits text bytes main t g = by (item_word t) refl
  where
    by : (o : Option ItemWord) → item_word t ≡ o
        → AllGive (IsLine bytes main) (let fs : List (Form BodyLine) = elim o [ None ↦ [] | Some word ↦ item_forms text main word ] in fs)
    by None e = tt
    by (Some word) e = forms_fit text bytes main word g (word_fits t word e)

-- a line of a part
pub line_told : (text : Places) (bytes : ℕ) (main : Bool) (ts : List Token) (l : BodyLine) → LieInText bytes text → part_said text main ts ≡ Ok l
    → IsLine bytes main l
unfolding part_said
line_told text bytes main [] l g h = absurd cc
line_told text bytes main (t ∷ ts) l g h = by (label_name t) h
  where
    by : (o : Option Token) → (let r : Result BodyLine Cause = elim o [
      | Some name ↦ then_make BodyLine.Here (label_said name ts)
      | None ↦ read_by (part_forms text main) (t ∷ ts)
    ] in r) ≡ Ok l → IsLine bytes main l
    by (Some name) h = let k = made_ok BodyLine.Here (label_said name ts) l h in subst (IsLine bytes main) k.2 tt
    by None h = line_gives (IsLine bytes main) (part_forms text main) (t ∷ ts) l (λ w. item_fits text bytes main w g) h
