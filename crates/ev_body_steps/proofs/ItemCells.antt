-- The cells of an item, in order: the instructions before the visible one, and that one, behind which the next item begins.
use Rattle.std.proofs.Common.{◌≡◌, ℕ, ◌+◌, ◌-◌, ◌*◌, ◌%◌, ◌<◌, List, [], ◌∷◌, length, Option, Some, None, refl, sym, ap, ◌∙◌, subst, arith}
use Rattle.std.specs.Prelude.{pos, negsuc, codes, if◌then◌else◌, ◌++◌}
use Rattle.std.proofs.lemmas.Bool.{le-leb}
use Rattle.ev_isa.specs.Spelling.{spelling, four_bytes}
use Rattle.ev_isa.specs.declared.instruction.Ins.{Ins}
use Rattle.ev_isa.specs.declared.instruction.Ins.TheVariants.{MovImm, MovReg, Load, Store, StoreImm, Shl, Jcc, GsLoad, GsStore, Xchg, Xadd, Wrmsr}
use Rattle.ev_isa.specs.declared.mode.Mode.{Mode}
use Rattle.ev_body.specs.declared.key.Key.{Key}
use Rattle.ev_body.specs.declared.item.Item.{Item}
use Rattle.ev_body.specs.declared.item.Item.TheVariants.{Set, Copy, Alu, Nop, Log, Cpu, Slot, Put, Cell, SetCell, AddCell, SwapCell, Uget, Uput, GetReg, SetReg, SetRip, Eoi, Send, Map, Unmap, Resched}
use Rattle.ev_asm.specs.Assembly.{Places, place, distance, size, total_size}
use Rattle.ev_listing.specs.AddressMap.{slot_offset, mark_offset, cells_base, saved_rip}
use Rattle.ev_mem.specs.Memory.{page_map}
use Rattle.ev_isa.specs.declared.instruction.AluOp.TheVariants.{Add}
use Rattle.ev_isa.specs.declared.instruction.Cond.TheVariants.{C}
use Rattle.ev_listing.specs.Expansion.{saved_offset, own_label, page_word, command, expansion}
use Rattle.ev_listing.specs.Statements.{seen}
use Rattle.ev_listing.specs.Marks.{stmts_of, Always}
use Rattle.ev_symbolic.specs.Value.{M}
use Rattle.ev_symbolic.specs.State.{shift}
use Rattle.ev_symbolic.specs.Agrees.{Env, addr, Code, edge_cell, Stands}
use Rattle.ev_symbolic.specs.Listed.{cells_from, lines_at, AllFound}
use Rattle.ev_symbolic.specs.Openings.{at_base}
use Rattle.ev_symbolic.specs.Names.{item_tag}
use Rattle.ev_blocks.specs.Items.{mask_code, page_code, numbers_code}
use Rattle.ev_paths.specs.Cells.{CellIs}

-- ---- instructions one behind the other

-- so many bytes
abbrev pub bytes_of : List Ins → ℕ
bytes_of [] = 0
bytes_of (i ∷ is) = length (spelling i) + bytes_of is

-- they stand from an address on, unmarked
abbrev pub EdgesFrom : Code → ℕ → List Ins → Type 0
EdgesFrom code a [] = Unit {0}
EdgesFrom code a (i ∷ is) = (code a ≡ Some (edge_cell i (a + length (spelling i)))) × EdgesFrom code (a + length (spelling i)) is

-- and so the lines of a block that opens so many bytes behind the item's base
pub edges_stand : (code : Code) (e : Env) (a o : ℕ) (is : List Ins) → e.base item_tag ≡ a → a + (o + bytes_of is) < M → EdgesFrom code (a + o) is
    → Stands code e (lines_at (at_base item_tag o) is)
edges_stand code e a o [] h small f = tt
edges_stand code e a o (i ∷ is) h small f =
    let n : ℕ = length (spelling i) in
    let on : shift (at_base item_tag o) n ≡ at_base item_tag (o + n) = ap (at_base item_tag) (let z : (o + n) % M ≡ o + n = omega arith in z) in
    let here : addr e (at_base item_tag o) ≡ a + o = ap (λ x. (x + o) % M) h ∙ (let z : (a + o) % M ≡ a + o = omega arith in z) in
    let there : addr e (shift (at_base item_tag o) n) ≡ a + o + n = ap (addr e) on ∙ ap (λ x. (x + (o + n)) % M) h
    ∙ (let z : (a + (o + n)) % M ≡ a + o + n = omega arith in z) in (
      ap code here ∙ f.0 ∙ ap (λ x. Some (edge_cell i x)) (sym there),
      subst (λ l. Stands code e (lines_at l is)) (sym on)
          (edges_stand code e a (o + n) is h (omega arith) (subst (λ x. EdgesFrom code x is) (let z : a + o + n ≡ a + (o + n) = omega arith in z) f.1)),
    )

-- ---- the instructions of an item that is no jump

-- before the visible one
unfoldable pub before : Item → List Ins
before (Cell d k) = MovImm 0 (cells_base + 8 * k) ∷ []
before (SetCell k s) = MovImm 0 (cells_base + 8 * k) ∷ []
before (AddCell k d) = MovImm 0 (cells_base + 8 * k) ∷ []
before (SwapCell k d) = MovImm 0 (cells_base + 8 * k) ∷ []
before (Uget d s) = MovReg 0 s ∷ mask_code
before (Uput s t) = MovReg 0 s ∷ mask_code
before (SetRip a) = MovImm 0 a ∷ []
before Resched = MovImm 0 1 ∷ []
before Eoi = numbers_code 0x80b 0 0
before (Send to key) = numbers_code 0x830 (command key) to
before (Map s) = MovReg 0 s ∷ page_code
before (Unmap s) = MovReg 0 s ∷ page_code
before _ = []

-- the visible one, of items that have one
unfoldable pub visible_of : Item → Option Ins
visible_of (Set d v) = Some (MovImm d v)
visible_of (Copy d s) = Some (MovReg d s)
visible_of (Alu o d s) = Some (Ins.Alu o d s)
visible_of Nop = Some Ins.Nop
visible_of (Log s) = Some (GsStore (pos 0x28) s)
visible_of (Cpu d) = Some (GsLoad d (pos 0))
visible_of (Slot d k) = Some (GsLoad d (pos (slot_offset k)))
visible_of (Put k s) = Some (GsStore (pos (slot_offset k)) s)
visible_of (Cell d k) = Some (Load d 0 (pos 0))
visible_of (SetCell k s) = Some (Store 0 (pos 0) s)
visible_of (AddCell k d) = Some (Xadd 0 (pos 0) d)
visible_of (SwapCell k d) = Some (Xchg 0 (pos 0) d)
visible_of (Uget d s) = Some (Load d 0 (pos 0))
visible_of (Uput s t) = Some (Store 0 (pos 0) t)
visible_of (GetReg d r) = Some (Load d 4 (pos (saved_offset r)))
visible_of (SetReg r s) = Some (Store 4 (pos (saved_offset r)) s)
visible_of (SetRip a) = Some (Store 4 (pos saved_rip) 0)
visible_of Item.Cli = Some Ins.Cli
visible_of Resched = Some (GsStore (pos mark_offset) 0)
visible_of Eoi = Some Wrmsr
visible_of (Send to key) = Some Wrmsr
visible_of (Map s) = Some (StoreImm 0 (pos 0) (pos 1))
visible_of (Unmap s) = Some (StoreImm 0 (pos 0) (pos 0))
visible_of _ = None

-- the cells: those before it, and it, which leads to the next item
pub record ItemCells (code : Code) (a next : ℕ) (item : Item) (i : Ins) : Type 0 where
  pub edges : EdgesFrom code a (before item)
  pub seen : CellIs code (a + bytes_of (before item)) i next Always

-- the cell of the visible instruction, of which the listing says that it ends so many bytes on
seen_at : (code : Code) (a b k next : ℕ) (j i : Ins) → Some j ≡ Some i → code a ≡ Some (record { ins = j; next = a + k; mark = Always }) → b ≡ a → next ≡ a + k
    → CellIs code b i next Always
seen_at code a b k next j i q h e n =
    let same : j ≡ i = cc in
    ap code e ∙ h ∙ ap (λ x. Some (record { ins = x; next = a + k; mark = Always })) same ∙ ap (λ x. Some (record { ins = i; next = x; mark = Always })) (sym n)

-- ---- the branch over the number of no page

-- its label stands behind one instruction
abbrev pub branch_label : ℕ
branch_label = 43

abbrev pub BranchIs : Places → ℕ → ℕ → ℕ → Item → Type 0
BranchIs env n k a (Map s) = place env (own_label n k (codes "M1")) ≡ a + branch_label
BranchIs env n k a (Unmap s) = place env (own_label n k (codes "M1")) ≡ a + branch_label
BranchIs env n k a _ = Unit {0}

ten_on : (target next : ℕ) → target ≡ next + 10 → distance target next ≡ pos 10
unfolding distance
ten_on target next e = ap (λ b. if b then pos (target - next) else negsuc (next - target - 1)) (le-leb next target (omega arith))
    ∙ ap pos (let z : target - next ≡ 10 = omega arith in z)

-- the cells of an item of a page, whatever it stores there
page_cells : (code : Code) (env : Places) (a next n k s : ℕ) (j i : Ins) → Some j ≡ Some i
    → place env (own_label n k (codes "M1")) ≡ a + branch_label
    → AllFound code (cells_from env a (page_word (own_label n k (codes "M1")) s ++ seen j ∷ []))
    → next ≡ a + total_size (stmts_of (page_word (own_label n k (codes "M1")) s ++ seen j ∷ []))
    → EdgesFrom code a (MovReg 0 s ∷ page_code) × CellIs code (a + bytes_of (MovReg 0 s ∷ page_code)) i next Always
unfolding size spelling four_bytes
page_cells code env a next n k s j i q place_is h e =
    let m1 = own_label n k (codes "M1") in
    let at_branch : ℕ = a + 3 + 10 + 3 + 4 + 7 in
    let far : distance (place env m1) (at_branch + 6) ≡ pos 10 = ten_on (place env m1) (at_branch + 6) (omega arith) in
    let at_label : ℕ = at_branch + 6 + 10 in
    let here : at_label + 0 ≡ at_label = omega arith in
    let tail = h.1.1.1.1.1.1.1 in (
      (
        h.0,
        (
          h.1.0,
          (
            h.1.1.0,
            (
              h.1.1.1.0,
              (
                h.1.1.1.1.0,
                (
                  h.1.1.1.1.1.0 ∙ ap (λ d. Some (edge_cell (Jcc C d) (at_branch + 6))) far,
                  (
                    h.1.1.1.1.1.1.0,
                    subst (λ x. EdgesFrom code x (Shl 0 3 ∷ MovImm 1 page_map ∷ Ins.Alu Add 0 1 ∷ [])) here (tail.0, (tail.1.0, (tail.1.1.0, tt))),
                  ),
                ),
              ),
            ),
          ),
        ),
      ),
      seen_at code (at_label + 0 + 4 + 10 + 3) (a + bytes_of (MovReg 0 s ∷ page_code)) (length (spelling j)) next j i q tail.1.1.1.0 (omega arith)
          (omega arith),
    )

pub item_cells : (mode : Mode) (n k : ℕ) (key : Key) (f : ℕ → ℕ) (code : Code) (env : Places) (a next : ℕ) (item : Item) (i : Ins)
    → visible_of item ≡ Some i → BranchIs env n k a item → AllFound code (cells_from env a (expansion mode n key f k item))
    → next ≡ a + total_size (stmts_of (expansion mode n key f k item))
    → ItemCells code a next item i
unfolding expansion size spelling four_bytes before visible_of
item_cells mode n k key f code env a next (Set d v) i q branch h e =
    record { edges = tt; seen = seen_at code a (a + 0) 10 next (MovImm d v) i q h.0 (omega arith) (omega arith) }
item_cells mode n k key f code env a next (Copy d s) i q branch h e =
    record { edges = tt; seen = seen_at code a (a + 0) 3 next (MovReg d s) i q h.0 (omega arith) (omega arith) }
item_cells mode n k key f code env a next (Item.Alu o d s) i q branch h e =
    record { edges = tt; seen = seen_at code a (a + 0) 3 next (Ins.Alu o d s) i q h.0 (omega arith) (omega arith) }
item_cells mode n k key f code env a next Nop i q branch h e =
    record { edges = tt; seen = seen_at code a (a + 0) 1 next Ins.Nop i q h.0 (omega arith) (omega arith) }
item_cells mode n k key f code env a next (Log s) i q branch h e =
    record { edges = tt; seen = seen_at code a (a + 0) 9 next (GsStore (pos 0x28) s) i q h.0 (omega arith) (omega arith) }
item_cells mode n k key f code env a next (Cpu d) i q branch h e =
    record { edges = tt; seen = seen_at code a (a + 0) 9 next (GsLoad d (pos 0)) i q h.0 (omega arith) (omega arith) }
item_cells mode n k key f code env a next (Slot d x) i q branch h e =
    record { edges = tt; seen = seen_at code a (a + 0) 9 next (GsLoad d (pos (slot_offset x))) i q h.0 (omega arith) (omega arith) }
item_cells mode n k key f code env a next (Put x s) i q branch h e =
    record { edges = tt; seen = seen_at code a (a + 0) 9 next (GsStore (pos (slot_offset x)) s) i q h.0 (omega arith) (omega arith) }
item_cells mode n k key f code env a next (Cell d x) i q branch h e =
    record { edges = (h.0, tt); seen = seen_at code (a + 10) (a + 10) 7 next (Load d 0 (pos 0)) i q h.1.0 refl (omega arith) }
item_cells mode n k key f code env a next (SetCell x s) i q branch h e =
    record { edges = (h.0, tt); seen = seen_at code (a + 10) (a + 10) 7 next (Store 0 (pos 0) s) i q h.1.0 refl (omega arith) }
item_cells mode n k key f code env a next (AddCell x d) i q branch h e =
    record { edges = (h.0, tt); seen = seen_at code (a + 10) (a + 10) 9 next (Xadd 0 (pos 0) d) i q h.1.0 refl (omega arith) }
item_cells mode n k key f code env a next (SwapCell x d) i q branch h e =
    record { edges = (h.0, tt); seen = seen_at code (a + 10) (a + 10) 7 next (Xchg 0 (pos 0) d) i q h.1.0 refl (omega arith) }
item_cells mode n k key f code env a next (Uget d s) i q branch h e =
    let seen = seen_at code (a + 3 + 10 + 3) (a + 16) 7 next (Load d 0 (pos 0)) i q h.1.1.1.0 (omega arith) (omega arith) in
    record { edges = (h.0, (h.1.0, (h.1.1.0, tt))); seen = seen }
item_cells mode n k key f code env a next (Uput s t) i q branch h e =
    let seen = seen_at code (a + 3 + 10 + 3) (a + 16) 7 next (Store 0 (pos 0) t) i q h.1.1.1.0 (omega arith) (omega arith) in
    record { edges = (h.0, (h.1.0, (h.1.1.0, tt))); seen = seen }
item_cells mode n k key f code env a next (GetReg d r) i q branch h e =
    record { edges = tt; seen = seen_at code a (a + 0) 8 next (Load d 4 (pos (saved_offset r))) i q h.0 (omega arith) (omega arith) }
item_cells mode n k key f code env a next (SetReg r s) i q branch h e =
    record { edges = tt; seen = seen_at code a (a + 0) 8 next (Store 4 (pos (saved_offset r)) s) i q h.0 (omega arith) (omega arith) }
item_cells mode n k key f code env a next (SetRip x) i q branch h e =
    record { edges = (h.0, tt); seen = seen_at code (a + 10) (a + 10) 8 next (Store 4 (pos saved_rip) 0) i q h.1.0 refl (omega arith) }
item_cells mode n k key f code env a next Item.Cli i q branch h e =
    record { edges = tt; seen = seen_at code a (a + 0) 1 next Ins.Cli i q h.0 (omega arith) (omega arith) }
item_cells mode n k key f code env a next Resched i q branch h e =
    record { edges = (h.0, tt); seen = seen_at code (a + 10) (a + 10) 9 next (GsStore (pos mark_offset) 0) i q h.1.0 refl (omega arith) }
item_cells mode n k key f code env a next Eoi i q branch h e =
    let seen = seen_at code (a + 10 + 10 + 10) (a + 30) 2 next Wrmsr i q h.1.1.1.0 (omega arith) (omega arith) in
    record { edges = (h.0, (h.1.0, (h.1.1.0, tt))); seen = seen }
item_cells mode n k key f code env a next (Send to sent) i q branch h e =
    let seen = seen_at code (a + 10 + 10 + 10) (a + 30) 2 next Wrmsr i q h.1.1.1.0 (omega arith) (omega arith) in
    record { edges = (h.0, (h.1.0, (h.1.1.0, tt))); seen = seen }
item_cells mode n k key f code env a next (Map s) i q branch h e =
    let z = page_cells code env a next n k s (StoreImm 0 (pos 0) (pos 1)) i q branch h e in record { edges = z.0; seen = z.1 }
item_cells mode n k key f code env a next (Unmap s) i q branch h e =
    let z = page_cells code env a next n k s (StoreImm 0 (pos 0) (pos 0)) i q branch h e in record { edges = z.0; seen = z.1 }
item_cells mode n k key f code env a next _ i q branch h e = absurd (cc)
