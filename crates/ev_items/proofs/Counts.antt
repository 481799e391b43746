-- Every statement of an item is an instruction of the project, a label or a jump; the lines that stand for it are, one by one.
use Rattle.std.proofs.Common.{◌≡◌, ℕ, zero, suc, ◌+◌, ◌<◌, ◌≤◌, Bool, true, false, ◌&&◌, List, [], ◌∷◌, length, get_or, drop, map, Option, Some, None, refl, sym, ap, ◌∙◌, arith}
use Rattle.std.specs.Prelude.{◌==◌}
use Rattle.std.proofs.lemmas.List.{drop_all}
use Rattle.ev_isa.specs.Instruction.{is_instruction}
use Rattle.ev_isa.specs.declared.mode.Mode.{Mode}
use Rattle.ev_body.specs.declared.key.Key.{Key}
use Rattle.ev_body.specs.declared.item.Item.{Item}
use Rattle.ev_body.specs.declared.item.Item.TheVariants.{Set, Copy, Alu, Jcc, Goto, Nop, Log, Cpu, Slot, Put, Cell, SetCell, AddCell, SwapCell, Uget, Uput, GetReg, SetReg, SetRip, Map, Unmap, Resched, Sti, Cli, Eoi, Send, Call, Kick, Wait, Take, Finish, Ret}
use Rattle.ev_asm.specs.Assembly.{size, total_size}
use Rattle.ev_asm.specs.Assembled.{is_encoded, are_instructions}
use Rattle.ev_listing.specs.Expansion.{expansion}
use Rattle.ev_isa.specs.Spelling.{spelling, four_bytes}
use Rattle.ev_listing.specs.Marks.{Marked, stmts_of, marks}
use Rattle.ev_stub.specs.Position.{index_from}
use Rattle.ev_stub.specs.Position as position
use Rattle.ev_stub.proofs.Listed.{item_at}
use Rattle.ev_items.specs.declared.line.ItemLine.{ItemLine}
use Rattle.ev_items.specs.declared.line.ItemLine.TheVariants.{Label, Op, Seen, SeenNonzero, SeenEqual, Jump, SeenJump}
use Rattle.ev_items.specs.Lines.{marked_of, is_counted, lines_of, AreAddresses}

both : (a b : Bool) → (a && b) ≡ true → (a ≡ true) × (b ≡ true)
both true b h = (refl, h)
both false b h = absurd cc

pub item_counts : (mode : Mode) (b : ℕ) (key : Key) (f : ℕ → ℕ) (n : ℕ) (item : Item) → are_instructions (stmts_of (expansion mode b key f n item)) ≡ true
unfolding expansion is_encoded is_instruction
item_counts mode b key f n (Set d v) = refl
item_counts mode b key f n (Copy d s) = refl
item_counts mode b key f n (Alu o d s) = refl
item_counts mode b key f n (Jcc c i) = refl
item_counts mode b key f n (Goto i) = refl
item_counts mode b key f n Nop = refl
item_counts mode b key f n (Log s) = refl
item_counts mode b key f n (Cpu d) = refl
item_counts mode b key f n (Slot d k) = refl
item_counts mode b key f n (Put k s) = refl
item_counts mode b key f n (Cell d k) = refl
item_counts mode b key f n (SetCell k s) = refl
item_counts mode b key f n (AddCell k d) = refl
item_counts mode b key f n (SwapCell k d) = refl
item_counts mode b key f n (Uget d s) = refl
item_counts mode b key f n (Uput s t) = refl
item_counts mode b key f n (GetReg d r) = refl
item_counts mode b key f n (SetReg r s) = refl
item_counts mode b key f n (SetRip a) = refl
item_counts mode b key f n (Map s) = refl
item_counts mode b key f n (Unmap s) = refl
item_counts mode b key f n Resched = refl
item_counts mode b key f n Sti = refl
item_counts mode b key f n Cli = refl
item_counts mode b key f n Eoi = refl
item_counts mode b key f n (Send to k) = refl
item_counts mode b key f n Item.Bp = refl
item_counts mode b key f n (Kick to s) = refl
item_counts mode b key f n (Wait site) = refl
item_counts mode b key f n (Call site to func s) = refl
item_counts mode b key f n Take = refl
item_counts mode b key f n Finish = refl
item_counts mode b key f n Ret = refl

-- neither the sizes nor the marks depend on where functions stand
pub same_size : (mode : Mode) (b : ℕ) (key : Key) (f g : ℕ → ℕ) (n : ℕ) (item : Item)
    → total_size (stmts_of (expansion mode b key f n item)) ≡ total_size (stmts_of (expansion mode b key g n item))
unfolding expansion size spelling four_bytes
same_size mode b key f g n (Set d v) = refl
same_size mode b key f g n (Copy d s) = refl
same_size mode b key f g n (Alu o d s) = refl
same_size mode b key f g n (Jcc c i) = refl
same_size mode b key f g n (Goto i) = refl
same_size mode b key f g n Nop = refl
same_size mode b key f g n (Log s) = refl
same_size mode b key f g n (Cpu d) = refl
same_size mode b key f g n (Slot d k) = refl
same_size mode b key f g n (Put k s) = refl
same_size mode b key f g n (Cell d k) = refl
same_size mode b key f g n (SetCell k s) = refl
same_size mode b key f g n (AddCell k d) = refl
same_size mode b key f g n (SwapCell k d) = refl
same_size mode b key f g n (Uget d s) = refl
same_size mode b key f g n (Uput s t) = refl
same_size mode b key f g n (GetReg d r) = refl
same_size mode b key f g n (SetReg r s) = refl
same_size mode b key f g n (SetRip a) = refl
same_size mode b key f g n (Map s) = refl
same_size mode b key f g n (Unmap s) = refl
same_size mode b key f g n Resched = refl
same_size mode b key f g n Sti = refl
same_size mode b key f g n Cli = refl
same_size mode b key f g n Eoi = refl
same_size mode b key f g n (Send to k) = refl
same_size mode b key f g n Item.Bp = refl
same_size mode b key f g n (Kick to s) = refl
same_size mode b key f g n (Wait site) = refl
same_size mode b key f g n (Call site to func s) = refl
same_size mode b key f g n Take = refl
same_size mode b key f g n Finish = refl
same_size mode b key f g n Ret = refl

pub same_marks : (mode : Mode) (b : ℕ) (key : Key) (f g : ℕ → ℕ) (n x : ℕ) (item : Item)
    → marks x (expansion mode b key f n item) ≡ marks x (expansion mode b key g n item)
unfolding expansion marks size spelling four_bytes
same_marks mode b key f g n x (Set d v) = refl
same_marks mode b key f g n x (Copy d s) = refl
same_marks mode b key f g n x (Alu o d s) = refl
same_marks mode b key f g n x (Jcc c i) = refl
same_marks mode b key f g n x (Goto i) = refl
same_marks mode b key f g n x Nop = refl
same_marks mode b key f g n x (Log s) = refl
same_marks mode b key f g n x (Cpu d) = refl
same_marks mode b key f g n x (Slot d k) = refl
same_marks mode b key f g n x (Put k s) = refl
same_marks mode b key f g n x (Cell d k) = refl
same_marks mode b key f g n x (SetCell k s) = refl
same_marks mode b key f g n x (AddCell k d) = refl
same_marks mode b key f g n x (SwapCell k d) = refl
same_marks mode b key f g n x (Uget d s) = refl
same_marks mode b key f g n x (Uput s t) = refl
same_marks mode b key f g n x (GetReg d r) = refl
same_marks mode b key f g n x (SetReg r s) = refl
same_marks mode b key f g n x (SetRip a) = refl
same_marks mode b key f g n x (Map s) = refl
same_marks mode b key f g n x (Unmap s) = refl
same_marks mode b key f g n x Resched = refl
same_marks mode b key f g n x Sti = refl
same_marks mode b key f g n x Cli = refl
same_marks mode b key f g n x Eoi = refl
same_marks mode b key f g n x (Send to k) = refl
same_marks mode b key f g n x Item.Bp = refl
same_marks mode b key f g n x (Kick to s) = refl
same_marks mode b key f g n x (Wait site) = refl
same_marks mode b key f g n x (Call site to func s) = refl
same_marks mode b key f g n x Take = refl
same_marks mode b key f g n x Finish = refl
same_marks mode b key f g n x Ret = refl

-- Nor do the numbers of instructions: they go by which lines are instructions, and by sizes.
abbrev shape : List Marked → List (Bool × ℕ)
shape ls = map (λ (l : Marked). (position.is_counted l.stmt, size l.stmt)) ls

index_by : (m a rip : ℕ) → List (Bool × ℕ) → Option ℕ
index_by m a rip [] = None
index_by m a rip (e ∷ es) = elim e.0 [
  | false ↦ index_by m (a + e.1) rip es
  | true ↦ elim (a == rip) [ true ↦ Some m | false ↦ index_by (suc m) (a + e.1) rip es ]
]

index_is : (m a rip : ℕ) (ls : List Marked) → index_from m a rip ls ≡ index_by m a rip (shape ls)
unfolding index_from index_by
index_is m a rip [] = refl
index_is m a rip (l ∷ ls) = λ i.
    let o : Option ℕ = elim (position.is_counted l.stmt) [
      | false ↦ index_is m (a + size l.stmt) rip ls i
      | true ↦ elim (a == rip) [ true ↦ Some m | false ↦ index_is (suc m) (a + size l.stmt) rip ls i ]
    ] in
    o

same_shape : (mode : Mode) (b : ℕ) (key : Key) (f g : ℕ → ℕ) (n : ℕ) (item : Item)
    → shape (expansion mode b key f n item) ≡ shape (expansion mode b key g n item)
unfolding expansion size spelling four_bytes
same_shape mode b key f g n (Set d v) = refl
same_shape mode b key f g n (Copy d s) = refl
same_shape mode b key f g n (Alu o d s) = refl
same_shape mode b key f g n (Jcc c i) = refl
same_shape mode b key f g n (Goto i) = refl
same_shape mode b key f g n Nop = refl
same_shape mode b key f g n (Log s) = refl
same_shape mode b key f g n (Cpu d) = refl
same_shape mode b key f g n (Slot d k) = refl
same_shape mode b key f g n (Put k s) = refl
same_shape mode b key f g n (Cell d k) = refl
same_shape mode b key f g n (SetCell k s) = refl
same_shape mode b key f g n (AddCell k d) = refl
same_shape mode b key f g n (SwapCell k d) = refl
same_shape mode b key f g n (Uget d s) = refl
same_shape mode b key f g n (Uput s t) = refl
same_shape mode b key f g n (GetReg d r) = refl
same_shape mode b key f g n (SetReg r s) = refl
same_shape mode b key f g n (SetRip a) = refl
same_shape mode b key f g n (Map s) = refl
same_shape mode b key f g n (Unmap s) = refl
same_shape mode b key f g n Resched = refl
same_shape mode b key f g n Sti = refl
same_shape mode b key f g n Cli = refl
same_shape mode b key f g n Eoi = refl
same_shape mode b key f g n (Send to k) = refl
same_shape mode b key f g n Item.Bp = refl
same_shape mode b key f g n (Kick to s) = refl
same_shape mode b key f g n (Wait site) = refl
same_shape mode b key f g n (Call site to func s) = refl
same_shape mode b key f g n Take = refl
same_shape mode b key f g n Finish = refl
same_shape mode b key f g n Ret = refl

pub same_index : (mode : Mode) (b : ℕ) (key : Key) (f g : ℕ → ℕ) (n m a rip : ℕ) (item : Item)
    → index_from m a rip (expansion mode b key f n item) ≡ index_from m a rip (expansion mode b key g n item)
same_index mode b key f g n m a rip item =
    index_is m a rip (expansion mode b key f n item) ∙ ap (index_by m a rip) (same_shape mode b key f g n item)
    ∙ sym (index_is m a rip (expansion mode b key g n item))

module _ (mode : Mode) (b : ℕ) (key : Key) (n : ℕ) where
  counted : (l : ItemLine) → is_encoded (marked_of mode b key n l).stmt ≡ true → is_counted l ≡ true
  unfolding is_encoded
  counted (Label t) h = refl
  counted (Op i) h = h
  counted (Seen i) h = h
  counted (SeenNonzero i) h = h
  counted (SeenEqual i) h = h
  counted (Jump c t) h = refl
  counted (SeenJump c t) h = refl

  counted_in : (ls : List ItemLine) (k : ℕ) (l : ItemLine) → are_instructions (stmts_of (lines_of mode b key n ls)) ≡ true → k < length ls
      → l ≡ get_or ls k l → is_counted l ≡ true
  counted_in [] k l h lt e = absurd (omega arith)
  counted_in (x ∷ xs) zero l h lt e = ap is_counted e
      ∙ counted x ((both (is_encoded (marked_of mode b key n x).stmt) (are_instructions (stmts_of (lines_of mode b key n xs))) h).0)
  counted_in (x ∷ xs) (suc k) l h lt e =
      counted_in xs k l ((both (is_encoded (marked_of mode b key n x).stmt) (are_instructions (stmts_of (lines_of mode b key n xs))) h).1) (omega arith) e

  -- a line of what an item becomes
  pub counted_at : (f : ℕ → ℕ) (item : Item) (ls : List ItemLine) (k : ℕ) (l : ItemLine) → lines_of mode b key n ls ≡ expansion mode b key f n item
      → k < length ls → l ≡ get_or ls k l → is_counted l ≡ true
  counted_at f item ls k l s lt e = counted_in ls k l (ap (λ (x : List Marked). are_instructions (stmts_of x)) s ∙ item_counts mode b key f n item) lt e

  -- sizes, one line further
  pub lines_step : (ls : List ItemLine) (k m : ℕ) (l : ItemLine) (done more W : ℕ) → k < length ls → m ≡ suc k → l ≡ get_or ls k l
      → more ≡ done + size (marked_of mode b key n l).stmt → done + total_size (stmts_of (lines_of mode b key n (drop k ls))) ≡ W
      → more + total_size (stmts_of (lines_of mode b key n (drop m ls))) ≡ W
  lines_step ls k m l done more W lt q e g w =
      let now = ap (λ (x : List ItemLine). total_size (stmts_of (lines_of mode b key n x))) (item_at ls k l lt e) in
      let next = ap (λ (x : ℕ). total_size (stmts_of (lines_of mode b key n (drop x ls)))) q in
      omega (arith, now, next)

  pub lines_end : (ls : List ItemLine) (k done W : ℕ) → length ls ≤ k → done + total_size (stmts_of (lines_of mode b key n (drop k ls))) ≡ W → done ≡ W
  lines_end ls k done W le w =
      let none : total_size (stmts_of (lines_of mode b key n (drop k ls))) ≡ 0 =
      ap (λ (x : List ItemLine). total_size (stmts_of (lines_of mode b key n x))) (drop_all k ls le) in
      omega (arith, none)

-- eight words of 0 are the addresses of functions that stand nowhere
eight : (P : ℕ → Type 0) → P 0 → P 1 → P 2 → P 3 → P 4 → P 5 → P 6 → P 7 → (f : ℕ) → f < 8 → P f
eight P a b c d e g h i zero l = a
eight P a b c d e g h i (suc zero) l = b
eight P a b c d e g h i (suc (suc zero)) l = c
eight P a b c d e g h i (suc (suc (suc zero))) l = d
eight P a b c d e g h i (suc (suc (suc (suc zero)))) l = e
eight P a b c d e g h i (suc (suc (suc (suc (suc zero))))) l = g
eight P a b c d e g h i (suc (suc (suc (suc (suc (suc zero)))))) l = h
eight P a b c d e g h i (suc (suc (suc (suc (suc (suc (suc zero))))))) l = i
eight P a b c d e g h i (suc (suc (suc (suc (suc (suc (suc (suc k)))))))) l = absurd (omega arith)

pub addresses_by : (function : ℕ → ℕ) (as' : List ℕ) → get_or as' 0 0 ≡ function 0 → get_or as' 1 0 ≡ function 1 → get_or as' 2 0 ≡ function 2
    → get_or as' 3 0 ≡ function 3 → get_or as' 4 0 ≡ function 4 → get_or as' 5 0 ≡ function 5 → get_or as' 6 0 ≡ function 6 → get_or as' 7 0 ≡ function 7
    → AreAddresses function as'
addresses_by function as' a b c d e g h i = eight (λ f. get_or as' f 0 ≡ function f) a b c d e g h i

pub no_addresses : AreAddresses (λ f. 0) (0 ∷ 0 ∷ 0 ∷ 0 ∷ 0 ∷ 0 ∷ 0 ∷ 0 ∷ [])
no_addresses = addresses_by (λ f. 0) (0 ∷ 0 ∷ 0 ∷ 0 ∷ 0 ∷ 0 ∷ 0 ∷ 0 ∷ []) refl refl refl refl refl refl refl refl
