-- The marks of an item's instructions, by how many bytes of the item come before: that of the first one looks at no memory, nor do those behind the blocks
-- that begin an item.
use Rattle.std.proofs.Common.{◌≡◌, ℕ, ◌+◌, ◌-◌, ◌≤◌, Bool, true, false, ◌&&◌, List, [], ◌∷◌, Some, refl, ap, ◌∙◌, subst, arith}
use Rattle.std.specs.Prelude.{◌==◌, nat_le, if◌then◌else◌}
use Rattle.std.proofs.lemmas.Bool.{eqb-true, leb-true}
use Rattle.ev_isa.specs.Spelling.{spelling, four_bytes}
use Rattle.ev_isa.specs.declared.instruction.Ins.{Ins}
use Rattle.ev_isa.specs.declared.mode.Mode.{Mode}
use Rattle.ev_body.specs.declared.key.Key.{Key}
use Rattle.ev_body.specs.declared.item.Item.{Item}
use Rattle.ev_body.specs.declared.item.Item.TheVariants.{Set, Copy, Alu, Jcc, Goto, Nop, Log, Cpu, Slot, Put, Cell, SetCell, AddCell, SwapCell, Uget, Uput, GetReg, SetReg, SetRip, Map, Unmap, Resched, Sti, Cli, Eoi, Send, Call, Kick, Wait, Take, Finish, Ret}
use Rattle.ev_asm.specs.declared.statement.Stmt.{Stmt}
use Rattle.ev_asm.specs.declared.statement.Stmt.TheVariants.{Label, Plain, Jump}
use Rattle.ev_asm.specs.Assembly.{Places, size, jump, place, distance}
use Rattle.ev_listing.specs.Expansion.{expansion}
use Rattle.ev_listing.specs.Marks.{Mark, Marked}
use Rattle.ev_symbolic.specs.Agrees.{Code}
use Rattle.ev_symbolic.specs.Agrees as agrees
use Rattle.ev_symbolic.specs.Listed.{instruction, with_cell, cells_from, AllFound}
use Rattle.ev_symbolic.proofs.Values.{and_left, and_right}
use Rattle.ev_table.specs.Table.{reads_no_memory}
use Rattle.ev_relation.specs.Active.{number_of, numbers_of, address_local, page_local}

-- an instruction stands there whose mark looks at no memory
abbrev pub IsPlainAt : Code → ℕ → Type 0
IsPlainAt code a = (x : agrees.Cell) × (code a ≡ Some x) × (reads_no_memory x.mark ≡ true)

-- of a statement and of what comes behind it
abbrev plain_here : ℕ → Mark → Stmt → Bool → Bool
plain_here o mark (Label name) rest = rest
plain_here o mark s rest = if o == 0 then reads_no_memory mark else rest

-- whether such an instruction stands so many bytes behind the beginning of lines
abbrev pub is_plain_at : ℕ → List Marked → Bool
is_plain_at o [] = false
is_plain_at o (l ∷ ls) = plain_here o l.mark l.stmt (nat_le (size l.stmt) o && is_plain_at (o - size l.stmt) ls)

-- in what comes behind the first n bytes, it stands where the lines say so
abbrev Onward : Code → Places → (a o : ℕ) → List Marked → Type 0
Onward code env a o ls =
    (n : ℕ) → AllFound code (cells_from env (a + n) ls) → is_plain_at (o - n) ls ≡ true → IsPlainAt code (a + n + (o - n))

pub plain_stands : (code : Code) (env : Places) (a o : ℕ) (ls : List Marked) → AllFound code (cells_from env a ls) → is_plain_at o ls ≡ true
    → IsPlainAt code (a + o)
plain_stands code env a o [] f h = let clash : false ≡ true = h in absurd (cc)
plain_stands code env a o (l ∷ ls) f h = by_statement l.stmt l.mark f h (λ n found plain. plain_stands code env (a + n) (o - n) ls found plain)
  where
    onward : (n : ℕ) → AllFound code (cells_from env (a + n) ls) → (nat_le n o && is_plain_at (o - n) ls) ≡ true → Onward code env a o ls
        → IsPlainAt code (a + o)
    onward n f h next =
        let long : n ≤ o = leb-true n o (and_left (nat_le n o) _ h) in
        subst (IsPlainAt code) (let e : a + n + (o - n) ≡ a + o = omega (arith, long) in e) (next n f (and_right (nat_le n o) _ h))

    here_or_on : (mark : Mark) (i : Ins) (n : ℕ) → AllFound code (with_cell mark a (a + n) (Some i) (cells_from env (a + n) ls)) → (t : Bool)
        → (o == 0) ≡ t → (if t then reads_no_memory mark else (nat_le n o && is_plain_at (o - n) ls)) ≡ true → Onward code env a o ls → IsPlainAt code (a + o)
    here_or_on mark i n f true q h next =
        (_, ap code (let z : o ≡ 0 = eqb-true o 0 q in let e : a + o ≡ a = omega (arith, z) in e) ∙ f.0, h)
    here_or_on mark i n f false q h next = onward n f.1 h next

    by_statement : (s : Stmt) (mark : Mark) → AllFound code (with_cell mark a (a + size s) (instruction env a s) (cells_from env (a + size s) ls))
        → plain_here o mark s (nat_le (size s) o && is_plain_at (o - size s) ls) ≡ true → Onward code env a o ls → IsPlainAt code (a + o)
    by_statement (Label name) mark f h next = onward (size (Label name)) f h next
    by_statement (Plain i) mark f h next = here_or_on mark i (size (Plain i)) f (o == 0) refl h next
    by_statement (Jump c name) mark f h next =
        here_or_on mark (jump c (distance (place env name) (a + size (Jump c name)))) (size (Jump c name)) f (o == 0) refl h next

module _ (mode : Mode) (n : ℕ) (key : Key) (f : ℕ → ℕ) (i : ℕ) where
  -- of the instructions of an item
  abbrev pub PlainIn : ℕ → Item → Type 0
  PlainIn o item = is_plain_at o (expansion mode n key f i item) ≡ true

  -- the first one of any item
  pub first_plain : (item : Item) → PlainIn 0 item
  unfolding expansion size
  first_plain (Set d v) = refl
  first_plain (Copy d s) = refl
  first_plain (Alu o d s) = refl
  first_plain (Jcc c k) = refl
  first_plain (Goto k) = refl
  first_plain Nop = refl
  first_plain (Log s) = refl
  first_plain (Cpu d) = refl
  first_plain (Slot d k) = refl
  first_plain (Put k s) = refl
  first_plain (Cell d k) = refl
  first_plain (SetCell k s) = refl
  first_plain (AddCell k d) = refl
  first_plain (SwapCell k d) = refl
  first_plain (Uget d s) = refl
  first_plain (Uput s t) = refl
  first_plain (GetReg d r) = refl
  first_plain (SetReg r s) = refl
  first_plain (SetRip a) = refl
  first_plain (Map s) = refl
  first_plain (Unmap s) = refl
  first_plain Resched = refl
  first_plain Sti = refl
  first_plain Cli = refl
  first_plain Eoi = refl
  first_plain (Send to k) = refl
  first_plain Item.Bp = refl
  first_plain (Kick to s) = refl
  first_plain (Wait site) = refl
  first_plain (Call site to func s) = refl
  first_plain Take = refl
  first_plain Finish = refl
  first_plain Ret = refl

  -- behind the instructions that are a block by themselves
  pub number_plain : (item : Item) (k : ℕ) → number_of (Some item) ≡ Some k → PlainIn 10 item
  unfolding expansion size spelling four_bytes number_of
  number_plain (Cell d c) k h = refl
  number_plain (SetCell c s) k h = refl
  number_plain (AddCell c d) k h = refl
  number_plain (SwapCell c d) k h = refl
  number_plain (SetRip a) k h = refl
  number_plain Resched k h = refl
  number_plain _ k h = absurd (cc)

  pub numbers_plain : (item : Item) (k : ℕ × ℕ × ℕ) → numbers_of (Some item) ≡ Some k → PlainIn 30 item
  unfolding expansion size spelling four_bytes numbers_of
  numbers_plain Eoi k h = refl
  numbers_plain (Send to key) k h = refl
  numbers_plain _ k h = absurd (cc)

  pub address_plain : (item : Item) (k : ℕ) → address_local (Some item) ≡ Some k → PlainIn 16 item
  unfolding expansion size spelling four_bytes address_local
  address_plain (Uget d s) k h = refl
  address_plain (Uput s t) k h = refl
  address_plain _ k h = absurd (cc)

  pub page_plain : (item : Item) (k : ℕ) → page_local (Some item) ≡ Some k → PlainIn 60 item
  unfolding expansion size spelling four_bytes page_local
  page_plain (Map s) k h = refl
  page_plain (Unmap s) k h = refl
  page_plain _ k h = absurd (cc)
