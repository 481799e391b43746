-- What items become, whatever they are: their labels begin with "b" and bear no mark, and their sizes don't depend on functions.
use Rattle.std.proofs.Common.{◌≡◌, ℕ, suc, ◌+◌, Bool, true, false, ◌&&◌, List, [], ◌∷◌, ◌++◌, refl, ap, ◌∙◌, arith}
use Rattle.std.specs.List.{list_all}
use Rattle.std.specs.Prelude.{◌==◌}
use Rattle.std.proofs.lemmas.List.{map-append}
use Rattle.ev_isa.specs.Spelling.{spelling, four_bytes}
use Rattle.ev_isa.specs.declared.mode.Mode.{Mode}
use Rattle.ev_body.specs.declared.key.Key.{Key}
use Rattle.ev_body.specs.declared.item.Item.{Item}
use Rattle.ev_body.specs.declared.item.Item.TheVariants.{Set, Copy, Alu, Jcc, Goto, Nop, Log, Cpu, Slot, Put, Cell, SetCell, AddCell, SwapCell, Uget, Uput, GetReg, SetReg, SetRip, Map, Unmap, Resched, Sti, Cli, Eoi, Send, Call, Kick, Wait, Take, Finish, Ret}
use Rattle.ev_asm.specs.declared.statement.Stmt.{Stmt}
use Rattle.ev_asm.specs.declared.statement.Stmt.TheVariants.{Label}
use Rattle.ev_asm.specs.Assembly.{Name, size, total_size}
use Rattle.ev_listing.specs.Expansion.{expansion, expansions}
use Rattle.ev_listing.specs.Marks.{Mark, Never, Marked, stmts_of}
use Rattle.ev_symbolic.proofs.Values.{and_left, and_right}

-- a name that begins with "b"
abbrev pub is_of_body : Name → Bool
is_of_body [] = false
is_of_body (x ∷ xs) = x == 0x62

abbrev pub is_never : Mark → Bool
is_never Never = true
is_never _ = false

-- a label bears no mark
abbrev pub is_unmarked : Mark → Stmt → Bool
is_unmarked mark (Label name) = is_never mark
is_unmarked mark s = true

abbrev pub are_unmarked : List Marked → Bool
are_unmarked ls = list_all (λ (l : Marked). is_unmarked l.mark l.stmt) ls

-- a label is one of a body
abbrev pub names_body : Stmt → Bool
names_body (Label name) = is_of_body name
names_body s = true

abbrev pub name_bodies : List Marked → Bool
name_bodies ls = list_all (λ (l : Marked). names_body l.stmt) ls

unmarked : (mode : Mode) (b : ℕ) (key : Key) (f : ℕ → ℕ) (n : ℕ) (item : Item) → are_unmarked (expansion mode b key f n item) ≡ true
unfolding expansion
unmarked mode b key f n (Set d v) = refl
unmarked mode b key f n (Copy d s) = refl
unmarked mode b key f n (Alu o d s) = refl
unmarked mode b key f n (Jcc c i) = refl
unmarked mode b key f n (Goto i) = refl
unmarked mode b key f n Nop = refl
unmarked mode b key f n (Log s) = refl
unmarked mode b key f n (Cpu d) = refl
unmarked mode b key f n (Slot d k) = refl
unmarked mode b key f n (Put k s) = refl
unmarked mode b key f n (Cell d k) = refl
unmarked mode b key f n (SetCell k s) = refl
unmarked mode b key f n (AddCell k d) = refl
unmarked mode b key f n (SwapCell k d) = refl
unmarked mode b key f n (Uget d s) = refl
unmarked mode b key f n (Uput s t) = refl
unmarked mode b key f n (GetReg d r) = refl
unmarked mode b key f n (SetReg r s) = refl
unmarked mode b key f n (SetRip a) = refl
unmarked mode b key f n (Map s) = refl
unmarked mode b key f n (Unmap s) = refl
unmarked mode b key f n Resched = refl
unmarked mode b key f n Sti = refl
unmarked mode b key f n Cli = refl
unmarked mode b key f n Eoi = refl
unmarked mode b key f n (Send to k) = refl
unmarked mode b key f n Item.Bp = refl
unmarked mode b key f n (Kick to s) = refl
unmarked mode b key f n (Wait site) = refl
unmarked mode b key f n (Call site to func s) = refl
unmarked mode b key f n Take = refl
unmarked mode b key f n Finish = refl
unmarked mode b key f n Ret = refl

of_body : (mode : Mode) (b : ℕ) (key : Key) (f : ℕ → ℕ) (n : ℕ) (item : Item) → name_bodies (expansion mode b key f n item) ≡ true
unfolding expansion
of_body mode b key f n (Set d v) = refl
of_body mode b key f n (Copy d s) = refl
of_body mode b key f n (Alu o d s) = refl
of_body mode b key f n (Jcc c i) = refl
of_body mode b key f n (Goto i) = refl
of_body mode b key f n Nop = refl
of_body mode b key f n (Log s) = refl
of_body mode b key f n (Cpu d) = refl
of_body mode b key f n (Slot d k) = refl
of_body mode b key f n (Put k s) = refl
of_body mode b key f n (Cell d k) = refl
of_body mode b key f n (SetCell k s) = refl
of_body mode b key f n (AddCell k d) = refl
of_body mode b key f n (SwapCell k d) = refl
of_body mode b key f n (Uget d s) = refl
of_body mode b key f n (Uput s t) = refl
of_body mode b key f n (GetReg d r) = refl
of_body mode b key f n (SetReg r s) = refl
of_body mode b key f n (SetRip a) = refl
of_body mode b key f n (Map s) = refl
of_body mode b key f n (Unmap s) = refl
of_body mode b key f n Resched = refl
of_body mode b key f n Sti = refl
of_body mode b key f n Cli = refl
of_body mode b key f n Eoi = refl
of_body mode b key f n (Send to k) = refl
of_body mode b key f n Item.Bp = refl
of_body mode b key f n (Kick to s) = refl
of_body mode b key f n (Wait site) = refl
of_body mode b key f n (Call site to func s) = refl
of_body mode b key f n Take = refl
of_body mode b key f n Finish = refl
of_body mode b key f n Ret = refl

same_size : (mode : Mode) (b : ℕ) (key : Key) (f g : ℕ → ℕ) (n : ℕ) (item : Item)
    → total_size (stmts_of (expansion mode b key f n item)) ≡ total_size (stmts_of (expansion mode b key g n item))
unfolding expansion size spelling four_bytes
same_size mode b key f g n (Set d v) = refl
same_size mode b key f g n (Copy d s) = refl
same_size mode b key f g n (Alu o d s) = refl
same_size mode b key f g n (Jcc c i) = refl
same_size mode b key f g n (Goto i) = refl
same_size mode b key f g n Nop = refl
same_size mode b key f g n (Log s) = refl
same_size mode b key f g n (Cpu d) = refl
same_size mode b key f g n (Slot d k) = refl
same_size mode b key f g n (Put k s) = refl
same_size mode b key f g n (Cell d k) = refl
same_size mode b key f g n (SetCell k s) = refl
same_size mode b key f g n (AddCell k d) = refl
same_size mode b key f g n (SwapCell k d) = refl
same_size mode b key f g n (Uget d s) = refl
same_size mode b key f g n (Uput s t) = refl
same_size mode b key f g n (GetReg d r) = refl
same_size mode b key f g n (SetReg r s) = refl
same_size mode b key f g n (SetRip a) = refl
same_size mode b key f g n (Map s) = refl
same_size mode b key f g n (Unmap s) = refl
same_size mode b key f g n Resched = refl
same_size mode b key f g n Sti = refl
same_size mode b key f g n Cli = refl
same_size mode b key f g n Eoi = refl
same_size mode b key f g n (Send to k) = refl
same_size mode b key f g n Item.Bp = refl
same_size mode b key f g n (Kick to s) = refl
same_size mode b key f g n (Wait site) = refl
same_size mode b key f g n (Call site to func s) = refl
same_size mode b key f g n Take = refl
same_size mode b key f g n Finish = refl
same_size mode b key f g n Ret = refl

-- ---- lists of them

all_append : {X : Type 0} (t : X → Bool) (xs ys : List X) → list_all t xs ≡ true → list_all t ys ≡ true → list_all t (xs ++ ys) ≡ true
all_append t [] ys h k = k
all_append t (x ∷ xs) ys h k = ap (λ b. b && list_all t (xs ++ ys)) (and_left (t x) (list_all t xs) h) ∙ all_append t xs ys (and_right (t x) _ h) k

module _ (mode : Mode) (b : ℕ) (key : Key) where
  pub all_unmarked : (f : ℕ → ℕ) (n : ℕ) (items : List Item) → are_unmarked (expansions mode b key f n items) ≡ true
  all_unmarked f n [] = refl
  all_unmarked f n (item ∷ items) = all_append (λ (l : Marked). is_unmarked l.mark l.stmt) (expansion mode b key f n item)
      (expansions mode b key f (suc n) items) (unmarked mode b key f n item) (all_unmarked f (suc n) items)

  pub all_of_body : (f : ℕ → ℕ) (n : ℕ) (items : List Item) → name_bodies (expansions mode b key f n items) ≡ true
  all_of_body f n [] = refl
  all_of_body f n (item ∷ items) = all_append (λ (l : Marked). names_body l.stmt) (expansion mode b key f n item)
      (expansions mode b key f (suc n) items) (of_body mode b key f n item) (all_of_body f (suc n) items)

  total_append : (xs ys : List Stmt) → total_size (xs ++ ys) ≡ total_size xs + total_size ys
  total_append [] ys = omega arith
  total_append (x ∷ xs) ys = omega (arith, total_append xs ys)

  -- the size of an item and of those behind it
  pub size_cons : (f : ℕ → ℕ) (n : ℕ) (item : Item) (items : List Item) → total_size (stmts_of (expansions mode b key f n (item ∷ items)))
      ≡ total_size (stmts_of (expansion mode b key f n item)) + total_size (stmts_of (expansions mode b key f (suc n) items))
  unfolding size
  size_cons f n item items =
      let here = expansion mode b key f n item in
      let rest = expansions mode b key f (suc n) items in
      omega (arith, ap total_size (map-append (λ (l : Marked). l.stmt) here rest) ∙ total_append (stmts_of here) (stmts_of rest))

  pub same_sizes : (f g : ℕ → ℕ) (n : ℕ) (items : List Item)
      → total_size (stmts_of (expansions mode b key f n items)) ≡ total_size (stmts_of (expansions mode b key g n items))
  same_sizes f g n [] = refl
  same_sizes f g n (item ∷ items) =
      omega (arith, size_cons f n item items, size_cons g n item items, same_size mode b key f g n item, same_sizes f g (suc n) items)
