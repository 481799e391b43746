-- What stands on the windows of blocks: closed tests of their forms, and what an activation owes so that it is grounded in a block.
use Rattle.std.specs.Prelude.{◌≡◌, ℕ, ◌+◌, ◌≤◌, true, false, []}
use Rattle.ev_isa.specs.declared.mode.Mode.{Mode}
use Rattle.ev_state.specs.Processor.{is_user}
use Rattle.ev_proc.specs.ProcessorStep.{has_fred}
use Rattle.ev_symbolic.specs.Value.{M}
use Rattle.ev_symbolic.specs.Agrees.{Env, FactsHold, Described, AreTops, Grounded}
use Rattle.ev_symbolic.specs.Names.{item_tag}
use Rattle.ev_distances.specs.Form.{Where, wins_of, are_forms, Fitting, all_apart, apart_in_one, apart_on_two_stacks, apart_by_depth, apart_at_one_top}
use Rattle.ev_blocks.specs.Shapes.{Layout, NmiFrame, body_forms}
use Rattle.ev_blocks.specs.Idt.{Sys, IdtToNext}
use Rattle.ev_blocks.specs.Idt as idt
use Rattle.ev_blocks.specs.Fred.{FredToNext}
use Rattle.ev_blocks.specs.Fred as fred
use Rattle.ev_blocks.specs.Items.{fills}
use Rattle.ev_blocks.specs.Nmi.{Choice, InnerInRepeat, is_first, choice_forms, repeat_forms}
use Rattle.ev_blocks.specs.Blocks.{Spot, InFred, InIdt, InBody, block, forms}

-- a block's windows are those of its forms, and nobody else writes there
pub record HasForms (mode : Mode) (s : Spot) : Type 0 where
  pub known : (block mode s).ground.known ≡ wins_of (forms s).known
  pub own : (block mode s).ground.own ≡ wins_of (forms s).own
  pub shared : (block mode s).ground.shared ≡ []

-- they are forms, and what it writes lies apart from all else that it knows
pub record AreForms (s : Spot) : Type 0 where
  pub known : are_forms (forms s).known ≡ true
  pub own : are_forms (forms s).own ≡ true
  pub apart : all_apart apart_in_one (forms s).known (forms s).own ≡ true

-- so it is for every spot
abbrev pub WindowsFit : Type 0
WindowsFit = (mode : Mode) (s : Spot) → HasForms mode s × AreForms s

-- An inner NMI writes nothing that a body of an NMI knows, nor, from REPEAT, what REPEAT knows.
abbrev pub InnerIsApart : Type 0
InnerIsApart =
    ((c : Choice) → is_first c ≡ false → all_apart apart_at_one_top (body_forms NmiFrame) (choice_forms c).own ≡ true)
    × (all_apart apart_at_one_top repeat_forms.known (choice_forms InnerInRepeat).own ≡ true)

-- what writes its own stack alone, so that it may stand on any other: all but SYSCALL's entry, the exits to another task, and who fills a call record
abbrev pub WritesItsStack : Spot → Type 0
WritesItsStack (InIdt Sys) = ⊥
WritesItsStack (InIdt (idt.Leaves (IdtToNext r))) = ⊥
WritesItsStack (InFred (fred.Leaves FredToNext)) = ⊥
WritesItsStack (InBody layout s) = fills s ≡ false
WritesItsStack s = Unit {0}

-- such a spot on another stack writes nothing that any spot knows; and on one stack, below a body, nothing that the body knows
abbrev pub OthersAreApart : Type 0
OthersAreApart = (s t : Spot) → WritesItsStack t → all_apart apart_on_two_stacks (forms s).known (forms t).own ≡ true

-- and on one stack, below a body, nothing that the body knows
abbrev pub DeeperAreApart : Type 0
DeeperAreApart = (layout : Layout) (t : Spot) → WritesItsStack t → all_apart apart_by_depth (body_forms layout) (forms t).own ≡ true

-- ---- what an activation owes a spot

-- in a body, the item's base is an address of the bodies' code
abbrev pub HasItem : Spot → Env → Type 0
HasItem (InBody layout s) e = (0xffffffff82000000 ≤ e.base item_tag) × (e.base item_tag + 0x100 ≤ M)
HasItem s e = Unit {0}

-- an activation is where a spot says, at these places of the address map
pub record IsHere (processors : ℕ) (mode : Mode) (e : Env) (x : Where) (s : Spot) : Type 0 where
  pub fitting : Fitting processors e x (forms s).known
  pub zero_base : e.base 1000 ≡ 0
  pub item : HasItem s e
  pub kernel : is_user e.rest ≡ false
  pub fred : has_fred e.rest ≡ (block mode s).ground.fred
  pub facts : FactsHold e (block mode s).ground.facts
  pub descriptors : Described e (block mode s).ground.descriptors
  pub tops : AreTops e (block mode s).ground.tops

-- so it is grounded in the spot's block
abbrev pub AllGrounded : Type 0
AllGrounded = (processors : ℕ) (mode : Mode) (e : Env) (x : Where) (s : Spot) → IsHere processors mode e x s → Grounded e (block mode s).ground
