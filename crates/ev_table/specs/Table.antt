-- The code of an image in a mode as a table.
use Rattle.std.specs.Prelude.{◌≡◌, ℤ, ℕ, suc, ◌+◌, ◌^◌, ◌≤◌, ◌<◌, Bool, true, false, List, [], ◌∷◌, ◌++◌, length, take, Some, slice_get}
use Rattle.std.specs.List.{list_any}
use Rattle.ev_isa.specs.Word.{displaced, is_canonical}
use Rattle.ev_isa.specs.declared.instruction.Ins.TheVariants.{Jmp}
use Rattle.ev_isa.specs.declared.mode.Mode.{Mode}
use Rattle.ev_isa.specs.declared.mode.Mode.TheVariants.{Idt, Fred}
use Rattle.ev_body.specs.declared.key.Key.{Key}
use Rattle.ev_body.specs.declared.key.Key.TheVariants.{Nmi}
use Rattle.ev_body.specs.declared.item.Item.{Item}
use Rattle.ev_body.specs.declared.item.Item.TheVariants.{Take, Ret}
use Rattle.ev_body.specs.declared.body.Body.{Body}
use Rattle.ev_body.specs.declared.image.Image.{Image}
use Rattle.ev_body.specs.Bodies.{key_number, body_items}
use Rattle.ev_body.specs.WellFormed.{IsImage}
use Rattle.ev_abstract.specs.Run.{item_at}
use Rattle.ev_abstract.specs.Rules.{is_take}
use Rattle.ev_listing.specs.AddressMap.{exit_entry, exitn_entry, body_code}
use Rattle.ev_asm.specs.declared.statement.Stmt.{Stmt}
use Rattle.ev_asm.specs.declared.statement.Stmt.TheVariants.{Label}
use Rattle.ev_asm.specs.Assembly.{Name, Places, place, places, size, total_size}
use Rattle.ev_listing.specs.Expansion.{item_label, own_label, taken_label, exit_of, item_address, expansion, function_address}
use Rattle.ev_listing.specs.Marks.{Mark, Never, Always, Marked, stmts_of, all_places}
use Rattle.ev_concrete.specs.Opening.{kernel_listings, listings}
use Rattle.ev_concrete.specs.ConcreteRun.{Marks, marks_of, mark_at}
use Rattle.ev_symbolic.specs.Agrees.{Cell, Code, Spaced}
use Rattle.ev_symbolic.specs.Listed.{Cells, cells_from, cells_in, AllFound, code_of}
use Rattle.ev_blocks.specs.Fred.{fexit}
use Rattle.ev_blocks.specs.Calls.{at_taken}

-- the cells of an image's code by their addresses
abbrev pub code_table : Mode → Image → Code
code_table mode image = code_of (listings mode image)

-- the kernel's exit of activations of NMIs and that of all others, and the one that the `ret` of a body of this key goes to
abbrev pub nmi_exit : Mode → ℕ
nmi_exit Idt = exitn_entry
nmi_exit Fred = 0xffffffff8100044c

abbrev pub other_exit : Mode → ℕ
other_exit Idt = exit_entry
other_exit Fred = fexit

abbrev pub exit_address : Mode → Key → ℕ
exit_address mode Nmi = nmi_exit mode
exit_address mode _ = other_exit mode

-- a jump to an exit, which the abstract machine doesn't see
pub record RetCell (code : Code) (a exit : ℕ) : Type 0 where
  pub cell : Cell
  pub distance : ℤ
  pub is : code a ≡ Some cell
  pub jump : cell.ins ≡ Jmp distance
  pub unmarked : cell.mark ≡ Never
  pub leads : displaced cell.next distance ≡ exit

-- the places of the labels of an image's code
abbrev pub places_of : Mode → Image → Places
places_of mode image = all_places (listings mode image)

-- what item i of body n becomes, and its cells
abbrev pub item_lines : Mode → Image → ℕ → Body → ℕ → Item → List Marked
item_lines mode image n b i item = expansion mode n b.key (function_address mode image) i item

abbrev pub item_cells : Mode → Image → ℕ → Body → ℕ → Item → Cells
item_cells mode image n b i item = cells_from (places_of mode image) (item_address mode n b i) (item_lines mode image n b i item)

-- each instruction of lines has its mark at its address
abbrev pub MarkedAt : Marks → ℕ → Mark → Stmt → Type 0
MarkedAt ms a mark (Label name) = Unit {0}
MarkedAt ms a mark s = mark_at ms a ≡ mark

abbrev pub AreMarked : Marks → ℕ → List Marked → Type 0
AreMarked ms a [] = Unit {0}
AreMarked ms a (l ∷ ls) = MarkedAt ms a l.mark l.stmt × AreMarked ms (a + size l.stmt) ls

-- the kernel's cells stand in the table
abbrev pub KernelStands : Type 0
KernelStands = (mode : Mode) (image : Image) → IsImage image
    → AllFound (code_table mode image) (cells_in (all_places (kernel_listings mode)) (kernel_listings mode))

-- each cell leads to the address behind its bytes
abbrev pub CellsAreSpaced : Type 0
CellsAreSpaced = (mode : Mode) (image : Image) → Spaced (code_table mode image)

-- the cells of each item stand in the table, at the item's address
abbrev pub ItemsStand : Type 0
ItemsStand = (mode : Mode) (image : Image) → IsImage image → (n i : ℕ) (b : Body) (item : Item) → slice_get image.bodies n ≡ Some b
    → item_at (Some b) i ≡ Some item → AllFound (code_table mode image) (item_cells mode image n b i item)

-- and each of its instructions has its mark at its address
abbrev pub ItemsAreMarked : Type 0
ItemsAreMarked = (mode : Mode) (image : Image) → IsImage image → (n i : ℕ) (b : Body) (item : Item) → slice_get image.bodies n ≡ Some b
    → item_at (Some b) i ≡ Some item → AreMarked (marks_of mode image) (item_address mode n b i) (item_lines mode image n b i item)

-- the next item begins behind an item's bytes
abbrev pub ItemsFollow : Type 0
ItemsFollow = (mode : Mode) (image : Image) (n i : ℕ) (b : Body) (item : Item) → item_at (Some b) i ≡ Some item
    → item_address mode n b (suc i) ≡ item_address mode n b i + total_size (stmts_of (item_lines mode image n b i item))

-- an item's label is its address: a jump to it leads there
abbrev pub ItemLabelsArePlaced : Type 0
ItemLabelsArePlaced = (mode : Mode) (image : Image) → IsImage image → (n i : ℕ) (b : Body) → slice_get image.bodies n ≡ Some b
    → i < length (body_items b) → place (places_of mode image) (item_label n i) ≡ item_address mode n b i

-- a label of an item's own stands so many bytes behind the beginning of the item's lines, whatever comes behind them
abbrev pub IsPlacedIn : Mode → ℕ → Key → (ℕ → ℕ) → ℕ → Item → Name → ℕ → Type 0
IsPlacedIn mode n key f i item x off = (a : ℕ) (rest : Places)
    → place (places a (stmts_of (expansion mode n key f i item)) ++ rest) (own_label n i x) ≡ a + off

-- and so many bytes behind the item's address: no other has its name. It begins with no digit.
abbrev pub OwnLabelsArePlaced : Type 0
OwnLabelsArePlaced = (mode : Mode) (image : Image) → IsImage image → (n i : ℕ) (b : Body) (item : Item) (c : ℕ) (cs : Name) (off : ℕ) → 58 ≤ c
    → slice_get image.bodies n ≡ Some b → item_at (Some b) i ≡ Some item
    → IsPlacedIn mode n b.key (function_address mode image) i item (c ∷ cs) off
    → place (places_of mode image) (own_label n i (c ∷ cs)) ≡ item_address mode n b i + off

-- The label behind the exchange of `take`, to which `finish` jumps, names its body and no item: it stands in the body's first `take`, so many bytes behind
-- its beginning. An accepted image has no other there (`breaks_calls`).
abbrev pub TakenLabelsArePlaced : Type 0
TakenLabelsArePlaced = (mode : Mode) (image : Image) → IsImage image → (n i : ℕ) (b : Body) → slice_get image.bodies n ≡ Some b
    → item_at (Some b) i ≡ Some Take → list_any is_take (take i (body_items b)) ≡ false
    → place (places_of mode image) (taken_label n) ≡ item_address mode n b i + at_taken

-- the exits stand where they stand without bodies
abbrev pub ExitsArePlaced : Type 0
ExitsArePlaced = (mode : Mode) (image : Image) (key : Key) → place (places_of mode image) (exit_of mode key) ≡ exit_address mode key

-- `ret` is a jump to the exit of its body's key
abbrev pub RetStands : Type 0
RetStands = (mode : Mode) (image : Image) → IsImage image → (n i : ℕ) (b : Body) → slice_get image.bodies n ≡ Some b
    → item_at (Some b) i ≡ Some Ret
    → RetCell (code_table mode image) (item_address mode n b i) (exit_address mode b.key)

-- a body begins with its first item
abbrev pub BodiesBeginWithItems : Type 0
BodiesBeginWithItems = (mode : Mode) (n : ℕ) (b : Body) → item_address mode n b 0 ≡ body_code n

-- items stand at canonical addresses, not at the end of memory
abbrev pub ItemsAreCanonical : Type 0
ItemsAreCanonical = (mode : Mode) (image : Image) → IsImage image → (n i : ℕ) (b : Body) → slice_get image.bodies n ≡ Some b
    → (is_canonical (item_address mode n b i) ≡ true) × (item_address mode n b i + 16 < 2 ^ 64)

-- an address has the mark of its cell
abbrev pub CellsAreMarked : Type 0
CellsAreMarked = (mode : Mode) (image : Image) → IsImage image → (a : ℕ) (x : Cell) → code_table mode image a ≡ Some x
    → mark_at (marks_of mode image) a ≡ x.mark

-- whether a mark is told without memory
abbrev pub reads_no_memory : Mark → Bool
reads_no_memory Never = true
reads_no_memory Always = true
reads_no_memory _ = false

-- so is each mark in the kernel's own code, below that of bodies
abbrev pub KernelMarksReadNoMemory : Type 0
KernelMarksReadNoMemory = (mode : Mode) (image : Image) → IsImage image → (a : ℕ) → a < 0xffffffff82000000
    → reads_no_memory (mark_at (marks_of mode image) a) ≡ true

-- keys other than that of NMIs have one exit
abbrev pub OthersHaveOneExit : Type 0
OthersHaveOneExit = (mode : Mode) (key : Key) → (key_number key ≡ 2 → ⊥) → exit_address mode key ≡ other_exit mode
