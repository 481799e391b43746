-- What the proofs of steps use of an image's code: what stands where, its marks, and that memory holds its bytes.
use Rattle.std.proofs.Common.{◌≡◌, ℕ, ◌+◌, ◌<◌, ◌≤◌, ◌^◌, Bool, true, false, ◌∷◌, length, Some, arith}
use Rattle.std.specs.Prelude.{suc, slice_get}
use Rattle.ev_isa.specs.Word.{is_canonical, bit_if}
use Rattle.ev_isa.specs.Flags.{Flags, flags_word}
use Rattle.ev_isa.specs.declared.mode.Mode.{Mode}
use Rattle.ev_body.specs.declared.item.Item.{Item}
use Rattle.ev_body.specs.declared.item.Item.TheVariants.{Take, Ret}
use Rattle.ev_body.specs.declared.body.Body.{Body}
use Rattle.ev_body.specs.declared.image.Image.{Image}
use Rattle.ev_body.specs.Bodies.{body_items}
use Rattle.ev_mem.specs.Memory.{Memory}
use Rattle.ev_state.specs.Processor.{Processor}
use Rattle.ev_listing.specs.AddressMap.{body_code}
use Rattle.ev_asm.specs.Assembly.{Name, place, total_size}
use Rattle.ev_listing.specs.Expansion.{item_label, own_label, taken_label, item_address, function_address}
use Rattle.ev_listing.specs.Marks.{stmts_of}
use Rattle.ev_abstract.specs.Run.{item_at}
use Rattle.ev_concrete.specs.Opening.{regions}
use Rattle.ev_concrete.specs.ConcreteRun.{marks_of, mark_at}
use Rattle.ev_proc.specs.Conditions.{IsInCode}
use Rattle.ev_symbolic.specs.Agrees.{Cell, Spaced}
use Rattle.ev_symbolic.specs.Listed.{AllFound}
use Rattle.ev_symbolic.specs.Machine.{Fetches}
pub use Rattle.ev_user.proofs.KeepsNumbers.{word_of_canonical}
use Rattle.ev_blocks.specs.Calls.{at_taken}
use Rattle.ev_paths.specs.Lines.{HasKernel}
use Rattle.ev_table.specs.Table.{code_table, other_exit, RetCell, places_of, item_lines, item_cells, IsPlacedIn}
use Rattle.ev_fetch.specs.Claims.{HoldsText}
use Rattle.ev_relation.specs.Relation.{first_word, IsFixed}

-- the words that nothing writes are those of the opening
abbrev pub HasFixed : Mode → Image → Memory → Type 0
HasFixed mode image m = (a : ℕ) → IsFixed a → m.words a ≡ first_word mode image a

pub record Facts (mode : Mode) (image : Image) : Type 0 where
  pub kernel : HasKernel mode (code_table mode image)
  pub spaced : Spaced (code_table mode image)
  pub items : (n i : ℕ) (b : Body) (item : Item) → slice_get image.bodies n ≡ Some b → item_at (Some b) i ≡ Some item
      → AllFound (code_table mode image) (item_cells mode image n b i item)
  pub follow : (n i : ℕ) (b : Body) (item : Item) → item_at (Some b) i ≡ Some item
      → item_address mode n b (suc i) ≡ item_address mode n b i + total_size (stmts_of (item_lines mode image n b i item))
  pub labels : (n i : ℕ) (b : Body) → slice_get image.bodies n ≡ Some b → i < length (body_items b)
      → place (places_of mode image) (item_label n i) ≡ item_address mode n b i
  pub own_labels : (n i : ℕ) (b : Body) (item : Item) (c : ℕ) (cs : Name) (off : ℕ) → 58 ≤ c → slice_get image.bodies n ≡ Some b
      → item_at (Some b) i ≡ Some item → IsPlacedIn mode n b.key (function_address mode image) i item (c ∷ cs) off
      → place (places_of mode image) (own_label n i (c ∷ cs)) ≡ item_address mode n b i + off
  pub taken_labels : (n i : ℕ) (b : Body) → slice_get image.bodies n ≡ Some b → item_at (Some b) i ≡ Some Take
      → place (places_of mode image) (taken_label n) ≡ item_address mode n b i + at_taken
  pub ret_cell : (n i : ℕ) (b : Body) → slice_get image.bodies n ≡ Some b → item_at (Some b) i ≡ Some Ret
      → RetCell (code_table mode image) (item_address mode n b i) (other_exit mode)
  pub first_item : (n : ℕ) (b : Body) → item_address mode n b 0 ≡ body_code n
  pub item_small : (n i : ℕ) (b : Body) → slice_get image.bodies n ≡ Some b → (is_canonical (item_address mode n b i) ≡ true)
      × (item_address mode n b i + 16 < 2 ^ 64)
  pub item_range : (n i : ℕ) (b : Body) → slice_get image.bodies n ≡ Some b → (0xffffffff82000000 ≤ item_address mode n b i)
      × (item_address mode n b i + 0x100 ≤ 2 ^ 64)
  pub marks : (a : ℕ) (x : Cell) → code_table mode image a ≡ Some x → mark_at (marks_of mode image) a ≡ x.mark
  pub fetches : (m : Memory) → m.regions ≡ regions image → HasFixed mode image m → Fetches (code_table mode image) m
  pub holds : (m : Memory) → HasFixed mode image m → HoldsText image.text m.words
  pub in_code : (m : Memory) → m.regions ≡ regions image → (c : Processor) → IsInCode c m

-- ---- numbers below 2 ^ 64

bit_small : (k : ℕ) (b : Bool) → bit_if k b ≤ 2 ^ k
bit_small k true = let h : 2 ^ k ≤ 2 ^ k = omega arith in h
bit_small k false = let h : 0 ≤ 2 ^ k = omega arith in h

-- RFLAGS
pub word_of_flags : (f : Flags) → flags_word f < 2 ^ 64
unfolding flags_word
word_of_flags f =
    let c = bit_small 0 f.status.carry in
    let z = bit_small 6 f.status.zero in
    let s = bit_small 7 f.status.sign in
    let i = bit_small 9 f.interrupts in
    let o = bit_small 11 f.status.overflow in
    let a = bit_small 18 f.alignment in
    omega arith
