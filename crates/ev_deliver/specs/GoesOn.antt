-- From one block to the next: where a block ends at the opening of the next, and by the single instructions that stand between an entry and the body's first
-- item: the jump of a vector's entry, the load of the body's address from its table, and the jump to it.
use Rattle.std.specs.Prelude.{◌≡◌, ℕ, ◌<◌, ◌==◌, Bool, true, if◌then◌else◌, List, [], length, pos, Some}
use Rattle.ev_isa.specs.Word.{displaced, is_canonical}
use Rattle.ev_isa.specs.Flags.{flags_of}
use Rattle.ev_isa.specs.declared.instruction.Ins.{Ins}
use Rattle.ev_state.specs.Processor.{Processor, register}
use Rattle.ev_mem.specs.Memory.{Memory}
use Rattle.ev_symbolic.specs.Value.{M, V, FVar}
use Rattle.ev_symbolic.specs.State.{SS, Block}
use Rattle.ev_symbolic.specs.Agrees.{Env, untracked, Code, edge_cell, IsOpen, Open, Fits, At}
use Rattle.ev_symbolic.specs.Join.{env_after}
use Rattle.ev_symbolic.specs.Names.{stub_tag, item_tag}
use Rattle.ev_symbolic.specs.Single.{Leads}
use Rattle.ev_listing.specs.AddressMap.{vector_stub}
use Rattle.ev_blocks.specs.Shapes.{Origin, Layout, NmiFrame}
use Rattle.ev_blocks.specs.Idt.{Stub, Common, stub_values, idt_block}
use Rattle.ev_blocks.specs.Items.{AtTable, AtJump, AtItem, body_block}
use Rattle.ev_paths.specs.Cells.{TableCells}
use Rattle.ev_paths.specs.Ends.{Enters}
use Rattle.ev_paths.specs.Lines.{StubJump}

-- one instruction that the abstract machine doesn't see leads to the opening of a block, and writes nothing
pub record GoesOn (code : Code) (c : Processor) (m : Memory) (b : Block) (env : Env) : Type 0 where
  pub ins : Ins
  pub next : ℕ
  pub cell : code c.rip ≡ Some (edge_cell ins next)
  pub cpu : Processor
  pub leads : Leads c m ins cpu m.words
  pub at : At code b 0 env cpu m
  pub long : length cpu.regs ≡ length c.regs
  pub blocking : cpu.nmi_blocked ≡ c.nmi_blocked
  pub same : untracked cpu ≡ untracked c

-- the environment of the next block where a block ends at its opening
abbrev pub continued : Env → List V → Processor → Env
continued env θ c = env_after env θ (flags_of c.flags)

-- an activation at the end of an entry is at the opening of the next block
abbrev pub EntriesContinue : Type 0
EntriesContinue = (code : Code) (b next : Block) (z : SS) (θ : List V) (env : Env) (c : Processor) (m : Memory) → Enters b z θ next
    → At code b b.steps env c m → next.opening.flags ≡ FVar → next.ground.shared ≡ [] → Fits code (continued env θ c) next
    → Open (continued env θ c) next.ground.known m.regions → At code next 0 (continued env θ c) c m

-- ---- the jump of a vector's entry, to the code in common for a page fault or another event

-- at the end of a vector's entry
abbrev pub StubsGoOn : Type 0
StubsGoOn =
    (code : Code) (o : Origin) (has_error : Bool) (v : ℕ) (page_fault : Bool) (env : Env) (c : Processor) (m : Memory) → v < 256
    → (v == 14) ≡ page_fault
    → env.base stub_tag ≡ vector_stub v → StubJump code v has_error
    → At code (idt_block (Stub o has_error v)) (idt_block (Stub o has_error v)).steps env c m
    → Fits code (continued env (stub_values has_error v) c) (idt_block (Common o page_fault))
    → Open (continued env (stub_values has_error v) c) (idt_block (Common o page_fault)).ground.known m.regions
    → GoesOn code c m (idt_block (Common o page_fault)) (continued env (stub_values has_error v) c)

-- ---- the load of the body's address

-- the place of the word: RAX, or in the NMI code the third word of the table in RCX
abbrev pub place_of : Layout → Processor → ℕ
place_of NmiFrame c = displaced (register c 1) (pos 0x10)
place_of layout c = displaced (register c 0) (pos 0)

-- the environment where RAX is what was loaded
abbrev pub with_rax : Env → ℕ → Env
with_rax env t = record env { var = λ i. if i == 0 then t else env.var i }

-- at the load
abbrev pub TableLoads : Type 0
TableLoads =
    (code : Code) (fred : Bool) (layout : Layout) (env : Env) (c : Processor) (m : Memory) (a t : ℕ) → TableCells code layout
    → At code (body_block fred layout AtTable) 0 env c m → place_of layout c ≡ a → IsOpen m.regions a → m.words a ≡ t
    → Fits code (with_rax env t) (body_block fred layout AtJump) → Open (with_rax env t) (body_block fred layout AtJump).ground.known m.regions
    → GoesOn code c m (body_block fred layout AtJump) (with_rax env t)

-- ---- the jump to the body

-- the environment where the item's base is its address
abbrev pub with_item : Env → ℕ → Env
with_item env a = record env { base = λ t. if t == item_tag then a else env.base t }

-- at the jump
abbrev pub BodyJumps : Type 0
BodyJumps =
    (code : Code) (fred : Bool) (layout : Layout) (env : Env) (c : Processor) (m : Memory) → TableCells code layout
    → At code (body_block fred layout AtJump) 0 env c m → is_canonical (env.var 0) ≡ true → env.var 0 < M
    → Fits code (with_item env (env.var 0)) (body_block fred layout AtItem)
    → Open (with_item env (env.var 0)) (body_block fred layout AtItem).ground.known m.regions
    → GoesOn code c m (body_block fred layout AtItem) (with_item env (env.var 0))
