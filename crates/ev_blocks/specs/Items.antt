-- Blocks of bodies: the way from the table of bodies to the first item, items, and the instructions before and behind an item's visible one.
use Rattle.std.specs.Prelude.{ℕ, pos, ◌+◌, Bool, true, false, if◌then◌else◌, List, [], ◌∷◌}
use Rattle.ev_isa.specs.declared.instruction.Ins.{Ins}
use Rattle.ev_isa.specs.declared.instruction.Ins.TheVariants.{MovImm, Alu, AluImm, Shl, Shr, Jmp, Jcc}
use Rattle.ev_isa.specs.declared.instruction.AluOp.TheVariants.{Add, And, Sub, Cmp}
use Rattle.ev_isa.specs.declared.instruction.Cond.TheVariants.{C}
use Rattle.ev_mem.specs.Memory.{page_map}
use Rattle.ev_symbolic.specs.Value.{V, K, X, B, OAdd, OSub, OAnd, OShl, OShr, OLess, Fact}
use Rattle.ev_symbolic.specs.State.{Block}
use Rattle.ev_symbolic.specs.Listed.{lines_at}
use Rattle.ev_symbolic.specs.Openings.{at_base}
use Rattle.ev_symbolic.specs.Names.{item_tag, says, top_less, opens}
use Rattle.ev_blocks.specs.Calls.{CallSpot, fills_record, record_forms, block_of_call}
use Rattle.ev_blocks.specs.Shapes.{Layout, FredFrame, IdtFrame, NmiFrame, Forms, private, body_forms, body_bytes, kernel_text, item_text, ground_over, over, body_words}

-- At the load of the body's address from its table; at the jump to it; at an item; and in an item: at a number for RAX, or at numbers for RCX, RAX and RDX; at
-- those of `kick`, which sends; at the mask of a user address; at the page's word, for a page of the map or for another number; behind the visible
-- instruction of `sti` and of `kick`; and in the items of cross calls.
pub data BodySpot : Type 0 where
  AtTable AtJump AtItem : BodySpot
  AtNumber : (n : ℕ) → BodySpot
  AtNumbers : (rcx rax rdx : ℕ) → BodySpot
  AtKick : (to : ℕ) → BodySpot
  AtUserWord : BodySpot
  AtPageWord : (is_page : Bool) → BodySpot
  BehindSti BehindKick : BodySpot
  InCall : CallSpot → BodySpot

-- the instructions that load the body's address and jump to it
abbrev pub table_load : Layout → ℕ
table_load FredFrame = 0xffffffff810002b6
table_load IdtFrame = 0xffffffff810031b4
table_load NmiFrame = 0xffffffff81004aa0

-- the jump behind it
abbrev pub body_jump : Layout → ℕ
body_jump FredFrame = 0xffffffff810002bd
body_jump IdtFrame = 0xffffffff810031bb
body_jump NmiFrame = 0xffffffff81004aa7

-- a body's windows
abbrev pub forms_of : Layout → Forms
forms_of layout = private (body_forms layout)

-- whether the spot's call record is the activation's own too
abbrev pub fills : BodySpot → Bool
fills (InCall s) = fills_record s
fills s = false

-- the windows of a spot
abbrev pub body_spot_forms : Layout → BodySpot → Forms
body_spot_forms layout s = if fills s then record_forms layout else forms_of layout

-- at a place of the kernel's own code
abbrev pub at_code : Bool → Layout → ℕ → Block
at_code fred layout a = over (ground_over fred kernel_text (forms_of layout) []) [] (opens a (top_less (body_bytes layout)) (body_words layout)) 0

-- in an item, over these instructions from so many bytes behind its beginning on
abbrev pub in_item : Bool → Layout → List Fact → ℕ → List Ins → ℕ → Block
in_item fred layout facts offset code steps =
    over (ground_over fred item_text (forms_of layout) facts) (lines_at (at_base item_tag offset) code)
    (record (opens 0 (top_less (body_bytes layout)) (body_words layout)) { rip = at_base item_tag offset }) steps

-- the same where STI, which has just opened to interrupts, blocks them for one instruction
abbrev pub blocked : Block → Block
blocked b = record b { opening = record (b.opening) { blocked = true } }

-- a user address is cut to its 47 bits without the low three: RAX has the number
abbrev pub mask_code : List Ins
mask_code = MovImm 1 0x7ffffffffff8 ∷ Alu And 0 1 ∷ []

-- the word of the page map of the page of a user address in RAX: that of page 256, which is none, for an address of no page
abbrev pub page_code : List Ins
page_code =
    MovImm 1 0x10000000 ∷ Alu Sub 0 1 ∷ Shr 0 12 ∷ AluImm Cmp 0 (pos 256) ∷ Jcc C (pos 10) ∷ MovImm 0 256 ∷ Shl 0 3 ∷ MovImm 1 page_map ∷ Alu Add 0 1 ∷ []

-- the number of the page of the address in RAX
abbrev pub page_number : V
page_number = B OShr (B OSub (X 0) (K 0x10000000)) (K 12)

-- whether it is a page of the map
abbrev pub is_page_fact : Bool → Fact
is_page_fact true = says (B OLess page_number (K 256)) 1
is_page_fact false = says (B OLess page_number (K 256)) 0

-- a page's path skips one instruction
abbrev pub page_steps : Bool → ℕ
page_steps true = 8
page_steps false = 9

-- what RAX comes to
abbrev pub masked : V
masked = B OAnd (X 0) (K 0x7ffffffffff8)

-- the address of the page's word
abbrev pub page_word : Bool → V
page_word true = B OAdd (B OShl page_number (K 3)) (K page_map)
page_word false = K (page_map + 0x800)

-- numbers for RCX, RAX and RDX
abbrev pub numbers_code : (rcx rax rdx : ℕ) → List Ins
numbers_code rcx rax rdx = MovImm 1 rcx ∷ MovImm 0 rax ∷ MovImm 2 rdx ∷ []

-- So many bytes of an item come before: the move of a register to RAX; `sti`; of `kick`, the comparison, the branch and the sending; what is visible where it
-- sends nothing; and its end.
abbrev pub behind_move : ℕ
behind_move = 3

-- `sti`
abbrev pub behind_sti : ℕ
behind_sti = 1

-- the comparison of `kick`
abbrev pub behind_comparison : ℕ
behind_comparison = 7

-- and its branch
abbrev pub behind_branch : ℕ
behind_branch = 13

-- what `kick` sends with
abbrev pub behind_kick : ℕ
behind_kick = 45

-- and what is visible where it sends nothing
abbrev pub at_quiet : ℕ
at_quiet = 50

-- its end
abbrev pub kick_end : ℕ
kick_end = 51

-- the block of each spot, in a mode and a layout
abbrev pub body_block : Bool → Layout → BodySpot → Block
body_block fred layout AtTable = at_code fred layout (table_load layout)
body_block fred layout AtJump = at_code fred layout (body_jump layout)
body_block fred layout AtItem = in_item fred layout [] 0 [] 0
body_block fred layout (AtNumber n) = in_item fred layout [] 0 (MovImm 0 n ∷ []) 1
body_block fred layout (AtNumbers rcx rax rdx) = in_item fred layout [] 0 (numbers_code rcx rax rdx) 3
body_block fred layout (AtKick to) = in_item fred layout [] behind_branch (numbers_code 0x830 0x40fb to) 3
body_block fred layout AtUserWord = in_item fred layout [] behind_move mask_code 2
body_block fred layout (AtPageWord is_page) = in_item fred layout (is_page_fact is_page ∷ []) behind_move page_code (page_steps is_page)
body_block fred layout BehindSti = blocked (in_item fred layout [] behind_sti (Ins.Nop ∷ []) 1)
body_block fred layout BehindKick = in_item fred layout [] behind_kick (Jmp (pos 1) ∷ []) 1
body_block fred layout (InCall s) = block_of_call fred layout s
