-- What is kept of a document, section by section, until its line `script` gives an image.
use Rattle.std.proofs.Common.{◌≡◌, ℕ, ◌<◌, ◌≤◌, Bool, true, false, not, ◌&&◌, List, [], ◌∷◌, ◌++◌, length, map, Option, Some, None}
use Rattle.std.specs.Prelude.{◌||◌, ◌==◌, nat_lt}
use Rattle.std.specs.List.{list_all}
use Rattle.ev_isa.specs.declared.instruction.Cond.{Cond}
use Rattle.ev_body.specs.Bodies.{key_number}
use Rattle.ev_body.specs.WellFormed.{IsImage, is_text_place, is_word, is_task, is_body, is_body_cond, is_key, is_user_only, is_user_side, is_ret, is_finish, has_operands, are_apart, are_distinct, functions_of, is_apart}
use Rattle.ev_body.specs.declared.item.Item.{Item}
use Rattle.ev_body.specs.declared.body.Body.{Body}
use Rattle.ev_io.specs.Tokens.{Token}
use Rattle.ev_asm.specs.declared.statement.Stmt.{Stmt}
use Rattle.ev_asm.specs.Assembly.{Places, place, stmt_bytes}
use Rattle.ev_line.specs.Operands.{has_label}
use Rattle.ev_text.specs.declared.text.WholeText.{WholeText}
use Rattle.ev_part.specs.declared.line.BodyLine.{BodyLine}
use Rattle.ev_part.specs.declared.line.BodyLine.TheVariants.{Here, Does, Jumps}
use Rattle.ev_part.specs.declared.body.BodyLines.{BodyLines}
use Rattle.ev_part.specs.PartItems.{PartView, is_end, ends_part, is_ended, next_item}
use Rattle.ev_part.specs.BodyParts.{all_parts}
use Rattle.ev_image.specs.declared.head.Head.{Head}
use Rattle.ev_image.specs.declared.kernel.Start.{Start}
use Rattle.ev_image.specs.declared.kernel.Kernel.{Kernel}
use Rattle.ev_image.specs.declared.kernel.TaskLine.{TaskLine}
use Rattle.ev_image.specs.Head.{every_task, of_processor, functions_in, is_main, new_body}

-- ---- before the text

-- the numbers are in range, and pages and cells are given once
pub record IsStart (s : Start) : Type 0 where
  pub count : (1 ≤ s.processors) × (s.processors ≤ 8) × (1 ≤ s.nest) × (s.nest ≤ 32)
  pub pages_fit : list_all (λ i. nat_lt i 256) s.pages ≡ true
  pub pages_once : are_distinct s.pages ≡ true
  pub cells_fit : list_all (λ (e : ℕ × ℕ). nat_lt e.0 256 && is_word e.1) s.cells ≡ true
  pub cells_once : are_distinct (map (λ (e : ℕ × ℕ). e.0) s.cells) ≡ true

-- ---- the text

-- labels lie in a text of so many bytes, or directly behind it
abbrev pub LieInText : ℕ → Places → Type 0
LieInText bytes labels = (name : Token) → has_label labels name ≡ true → is_text_place bytes (place labels name) ≡ true

abbrev pub are_bytes : List ℕ → Bool
are_bytes bytes = list_all (λ b. nat_lt b 256) bytes

-- the bytes of a statement are bytes, wherever it stands
abbrev pub AreSmall : Stmt → Type 0
AreSmall s = (env : Places) (a : ℕ) → are_bytes (stmt_bytes env a s) ≡ true

abbrev pub AllSmall : List Stmt → Type 0
AllSmall [] = Unit {0}
AllSmall (s ∷ ss) = AreSmall s × AllSmall ss

-- the bytes are bytes and not too many, and the labels lie in the text
pub record IsWhole (t : WholeText) : Type 0 where
  pub fits : length t.bytes ≤ 65520
  pub small : are_bytes t.bytes ≡ true
  pub labels_lie : LieInText (length t.bytes) t.labels

-- ---- tasks

-- the tasks are in range, and each processor has at most four
pub record AreTasks (bytes : ℕ) (ts : List TaskLine) : Type 0 where
  pub fit : list_all (λ (t : TaskLine). is_task bytes t.task) ts ≡ true
  pub few : (p : ℕ) → length (of_processor ts p) ≤ 4

-- ---- bodies

-- the bodies are well-formed, apart and not too many, and their functions are distinct
pub record AreBodies (bytes : ℕ) (bs : List Body) : Type 0 where
  pub few : length bs ≤ 64
  pub fit : list_all (is_body bytes) bs ≡ true
  pub apart : are_apart bs ≡ true
  pub functions_once : are_distinct (functions_of bs) ≡ true

-- behind the text
pub record IsKernel (k : Kernel) : Type 0 where
  pub start : IsStart k.start
  pub text : IsWhole k.text
  pub tasks : AreTasks (length k.text.bytes) (every_task k)
  pub bodies : AreBodies (length k.text.bytes) k.bodies

-- ---- the body that is being read

-- the item that ends a main part or a function part
abbrev pub ends_as : Bool → Item → Bool
ends_as true = is_ret
ends_as false = is_finish

-- an item that is no jump has its operands, and an item that ends a part ends a part of its kind
pub record IsItem (bytes : ℕ) (main : Bool) (i : Item) : Type 0 where
  pub operands : (low high : ℕ) → has_operands bytes low high i ≡ true
  pub ends : is_end i ≡ true → ends_as main i ≡ true

-- whether a jump of a body may have this condition
abbrev pub may_jump : Option Cond → Bool
may_jump None = true
may_jump (Some c) = is_body_cond c

-- a line of a part
abbrev pub IsLine : ℕ → Bool → BodyLine → Type 0
IsLine bytes main (Here name) = Unit {0}
IsLine bytes main (Does i) = IsItem bytes main i
IsLine bytes main (Jumps cond name) = may_jump cond ≡ true

abbrev pub AllLines : ℕ → Bool → List BodyLine → Type 0
AllLines bytes main [] = Unit {0}
AllLines bytes main (l ∷ ls) = IsLine bytes main l × AllLines bytes main ls

-- no line but the last ends the part
abbrev pub ends_last : List BodyLine → Bool
ends_last [] = true
ends_last (l ∷ []) = true
ends_last (l ∷ k ∷ ls) = not (ends_part l) && ends_last (k ∷ ls)

pub record IsPartOf (bytes : ℕ) (p : PartView) : Type 0 where
  pub lines : AllLines bytes (is_main p) p.lines
  pub last : ends_last p.lines ≡ true

abbrev pub AllParts : ℕ → List PartView → Type 0
AllParts bytes [] = Unit {0}
AllParts bytes (p ∷ ps) = IsPartOf bytes p × AllParts bytes ps

-- items are numbered through the parts, from n on
abbrev pub AreNumbered : ℕ → List PartView → Type 0
AreNumbered n [] = Unit {0}
AreNumbered n (p ∷ ps) = (p.first ≡ n) × AreNumbered (next_item p) ps

-- the numbers of function parts
abbrev pub AreFunctions : List (Option ℕ) → Type 0
AreFunctions [] = Unit {0}
AreFunctions (None ∷ fs) = ⊥
AreFunctions (Some f ∷ fs) = (f < 8) × AreFunctions fs

-- a main part, and function parts behind it
abbrev pub BeginsMain : List (Option ℕ) → Type 0
BeginsMain [] = ⊥
BeginsMain (None ∷ fs) = AreFunctions fs
BeginsMain (Some f ∷ fs) = ⊥

abbrev pub funcs : List PartView → List (Option ℕ)
funcs ps = map (λ (p : PartView). p.func) ps

abbrev pub is_nil : List PartView → Bool
is_nil [] = true
is_nil (p ∷ ps) = false

-- The body that is being read, of a key and a side that no body before has in common with it. The parts that have their end are ended; function parts
-- stand in the body for cross calls alone, and their numbers are new.
pub record IsBodyRead (bytes : ℕ) (bodies : List Body) (b : BodyLines) : Type 0 where
  pub room : length bodies < 64
  pub key : is_key b.key ≡ true
  pub side : (not (is_user_only b.key) || is_user_side b.side) ≡ true
  pub apart : list_all (λ c. is_apart c (new_body b.key b.side)) bodies ≡ true
  pub parts : AllParts bytes (all_parts b)
  pub begins : BeginsMain (funcs (all_parts b))
  pub ended : list_all (λ (p : PartView). is_ended p.lines) b.finished ≡ true
  pub numbered : AreNumbered 0 (all_parts b)
  pub few : next_item b.part ≤ 256
  pub calls : (is_nil b.finished || (key_number b.key == 0xfb)) ≡ true
  pub functions_once : are_distinct (functions_of bodies ++ functions_in (all_parts b)) ≡ true

-- ---- what stands

abbrev pub IsHead : Head → Type 0
IsHead Head.Image = Unit {0}
IsHead Head.Processors = Unit {0}
IsHead (Head.Nest n) = (1 ≤ n) × (n ≤ 8)
IsHead (Head.Start s) = IsStart s
IsHead (Head.Text s ss) = IsStart s × AllSmall ss
IsHead (Head.Tasks k) = IsKernel k
IsHead (Head.Body k b) = IsKernel k × IsBodyRead (length k.text.bytes) k.bodies b
IsHead (Head.Bodies k) = IsKernel k
IsHead (Head.Filled k) = IsKernel k
IsHead (Head.Opened image) = IsImage image
