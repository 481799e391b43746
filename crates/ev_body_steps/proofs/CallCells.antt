-- The code of the items of cross calls: the instructions of each block from its offset on, and those between the blocks.
use Rattle.std.proofs.Common.{◌≡◌, ℕ, suc, ◌+◌, ◌-◌, ◌^◌, ◌<◌, ◌≤◌, Bool, true, false, [], ◌∷◌, List, drop, length, Option, Some, None, refl, sym, ap, ◌∙◌, subst, arith}
use Rattle.std.specs.Prelude.{ℤ, pos, negsuc, slice_get, codes, nat_le, if◌then◌else◌, ◌++◌, map}
use Rattle.std.proofs.lemmas.Bool.{le-leb, lt-leb, leb-true, leb-false}
use Rattle.ev_isa.specs.Word.{displaced}
use Rattle.ev_isa.specs.declared.instruction.Cond.{Cond}
use Rattle.ev_isa.specs.declared.instruction.Ins.{Ins}
use Rattle.ev_isa.specs.declared.instruction.Ins.TheVariants.{MovImm, MovReg, Load, Store, Jmp, Jcc, JmpReg, GsLoad, Xchg, CmpXchg, AluImm, Wrmsr}
use Rattle.ev_isa.specs.declared.instruction.AluOp.TheVariants.{Cmp}
use Rattle.ev_isa.specs.declared.instruction.Cond.TheVariants.{Z, Nz}
use Rattle.ev_isa.specs.Spelling.{spelling, four_bytes}
use Rattle.ev_isa.specs.declared.mode.Mode.{Mode}
use Rattle.ev_body.specs.declared.item.Item.{Item}
use Rattle.ev_body.specs.declared.item.Item.TheVariants.{Call, Kick, Wait, Take, Finish}
use Rattle.ev_body.specs.declared.body.Body.{Body}
use Rattle.ev_body.specs.declared.image.Image.{Image}
use Rattle.ev_asm.specs.declared.statement.Stmt.TheVariants.{Label, Plain, Jump}
use Rattle.ev_asm.specs.Assembly.{Name, Places, place, distance, jump, size}
use Rattle.ev_listing.specs.Expansion.{own_label, taken_label, item_address, function_address, expansion}
use Rattle.ev_listing.specs.Statements.{op}
use Rattle.ev_listing.specs.Marks.{Mark, Never, Always, IfNonzero, IfEqual, Marked}
use Rattle.ev_abstract.specs.Run.{item_at}
use Rattle.ev_symbolic.specs.Agrees.{Code, edge_cell}
use Rattle.ev_symbolic.specs.Listed.{cells_from, AllFound}
use Rattle.ev_blocks.specs.Calls.{record_code, busy_code, record_filling, fill_code, link_code, answer_code, turn_code, turned_code, taken_code, behind_first, behind_state, at_head, at_link, behind_exchange, at_answer, call_end, behind_take, at_turn, at_old_link, behind_turn, at_taken, at_function, take_end, at_next, behind_next}
use Rattle.ev_blocks.specs.Calls as calls
use Rattle.ev_blocks.specs.Items.{numbers_code, behind_branch, behind_kick, at_quiet, kick_end}
use Rattle.ev_paths.specs.Cells.{CellIs}
use Rattle.ev_table.specs.Table.{code_table, places_of, item_lines}
use Rattle.ev_table.proofs.Whole.{leads_to}
use Rattle.ev_relation.proofs.Facts.{Facts}
use Rattle.ev_body_steps.proofs.ItemCells.{bytes_of, EdgesFrom}
use Rattle.ev_body_steps.proofs.ItemCode.{fill_label, call_labels_are}

-- ---- what stands where

-- `wait`: the load of the first record's address, the sum, the visible load of the state, and the test, which jumps back to the item
pub record WaitCode (code : Code) (a next site : ℕ) : Type 0 where
  pub first : CellIs code a (GsLoad 3 (pos 0x38)) (a + behind_first) Never
  pub sum : EdgesFrom code (a + behind_first) (record_code site)
  pub seen : CellIs code (a + 16) (Load 0 3 (pos 0)) (a + behind_state) Always
  pub test : EdgesFrom code (a + behind_state) calls.wait_code
  pub follows : a + 36 ≡ next

-- `call`: the same up to the load of the state, which is visible where the record is in use; what fills the record; the load of the queue's head, the store
-- of the link and the exchange, which is visible where it succeeds; the jump back to the load where it doesn't; and the answer
pub record CallCode (code : Code) (a next site to func s address : ℕ) : Type 0 where
  pub first : CellIs code a (GsLoad 3 (pos 0x38)) (a + behind_first) Never
  pub sum : EdgesFrom code (a + behind_first) (record_code site)
  pub seen : CellIs code (a + 16) (Load 0 3 (pos 0)) (a + behind_state) IfNonzero
  pub fill : EdgesFrom code (a + behind_state) (fill_code address func to s)
  pub head : CellIs code (a + at_head) (Load 0 2 (pos 0)) (a + at_link) Never
  pub link : EdgesFrom code (a + at_link) link_code
  pub exchange : CellIs code (a + 154) (CmpXchg 2 (pos 0) 3) (a + behind_exchange) IfEqual
  pub again : CellIs code (a + behind_exchange) (Jcc Nz (negsuc 28)) (a + at_answer) Never
  pub answer : EdgesFrom code (a + at_answer) (answer_code s)
  pub follows : a + call_end ≡ next

-- where the record is in use, what fills it is left out
pub busy_edges : (code : Code) (a next site to func s address : ℕ) → CallCode code a next site to func s address
    → EdgesFrom code (a + behind_state) (busy_code s)
busy_edges code a next site to func s address c = (c.fill.0, (c.fill.1.0, (c.fill.1.1.0, (c.fill.1.1.1.0, tt))))

-- `take`: the load of the first record's address, behind which lies the queue's head, and the exchange; the list that it turns round, with a record's old link
-- and the new one; and the first call's words, with the jump to its function
pub record TakeCode (code : Code) (a next : ℕ) : Type 0 where
  pub first : CellIs code a (GsLoad 2 (pos 0x38)) (a + behind_first) Never
  pub none : EdgesFrom code (a + behind_first) (MovImm 0 0 ∷ [])
  pub seen : CellIs code (a + 19) (Xchg 2 (negsuc 0x7cf) 0) (a + behind_take) Always
  pub start : EdgesFrom code (a + behind_take) (MovImm 14 0 ∷ [])
  pub turn : EdgesFrom code (a + at_turn) turn_code
  pub old_link : CellIs code (a + at_old_link) (Load 1 0 (pos 0x18)) (a + 56) Never
  pub new_link : CellIs code (a + 56) (Store 0 (pos 0x18) 14) (a + behind_turn) Never
  pub turned : EdgesFrom code (a + behind_turn) turned_code
  pub taken : EdgesFrom code (a + at_taken) taken_code
  pub argument : CellIs code (a + at_function) (Load 9 14 (pos 0x10)) (a + 94) Never
  pub caller : CellIs code (a + 94) (Load 10 14 (pos 0x20)) (a + 101) Never
  pub address : CellIs code (a + 101) (Load 0 14 (pos 8)) (a + 108) Never
  pub jump : CellIs code (a + 108) (JmpReg 0) (a + take_end) Never
  pub follows : a + take_end ≡ next

-- `finish`: the next record, the store that frees this one, and the jump to an address in the code of `take`
pub record FinishCode (code : Code) (a next target : ℕ) : Type 0 where
  pub start : EdgesFrom code a (MovReg 3 14 ∷ [])
  pub load : CellIs code (a + at_next) (Load 14 3 (pos 0x18)) (a + behind_next) Never
  pub zero : EdgesFrom code (a + behind_next) (MovImm 0 0 ∷ [])
  pub seen : CellIs code (a + 20) (Store 3 (pos 0) 0) (a + 27) Always
  pub distance : ℤ
  pub jump : CellIs code (a + 27) (Jmp distance) (a + 32) Never
  pub leads : displaced (a + 32) distance ≡ target
  pub follows : a + 32 ≡ next

-- `kick`: the test of the answer; what it sends with, the visible WRMSR, and the jump over what is visible where it sends nothing
pub record KickCode (code : Code) (a next to s : ℕ) : Type 0 where
  pub test : EdgesFrom code a (AluImm Cmp s (pos 2) ∷ Jcc Nz (pos 37) ∷ [])
  pub numbers : EdgesFrom code (a + behind_branch) (numbers_code 0x830 0x40fb to)
  pub sends : CellIs code (a + 43) Wrmsr (a + behind_kick) Always
  pub over : EdgesFrom code (a + behind_kick) (Jmp (pos 1) ∷ [])
  pub quiet : CellIs code (a + at_quiet) Ins.Nop (a + kick_end) Always
  pub follows : a + kick_end ≡ next

-- ---- distances

-- they go by offsets alone
by_offsets : (a t n : ℕ) → distance (a + t) (a + n) ≡ distance t n
unfolding distance
by_offsets a t n = pick (nat_le n t) refl
  where
    pick : (b : Bool) → nat_le n t ≡ b → distance (a + t) (a + n) ≡ distance t n
    pick true q = let l : n ≤ t = leb-true n t q in
        ap (λ b. if b then pos (a + t - (a + n)) else negsuc (a + n - (a + t) - 1)) (le-leb (a + n) (a + t) (omega arith))
        ∙ ap pos (let z : a + t - (a + n) ≡ t - n = omega arith in z) ∙ sym (ap (λ b. if b then pos (t - n) else negsuc (n - t - 1)) q)
    pick false q = let l : t < n = leb-false n t q in
        ap (λ b. if b then pos (a + t - (a + n)) else negsuc (a + n - (a + t) - 1)) (lt-leb (a + n) (a + t) (omega arith))
        ∙ ap negsuc (let z : a + n - (a + t) - 1 ≡ n - t - 1 = omega arith in z) ∙ sym (ap (λ b. if b then pos (t - n) else negsuc (n - t - 1)) q)

-- ---- cells one behind the other

-- instructions behind others
behind_edges : (code : Code) (a : ℕ) (is js : List Ins) → EdgesFrom code a is → EdgesFrom code (a + bytes_of is) js → EdgesFrom code a (is ++ js)
behind_edges code a [] js f g = subst (λ x. EdgesFrom code x js) (let z : a + 0 ≡ a = omega arith in z) g
behind_edges code a (i ∷ is) js f g = (
  f.0,
  behind_edges code (a + length (spelling i)) is js f.1 (subst (λ x. EdgesFrom code x js)
      (let z : a + (length (spelling i) + bytes_of is) ≡ a + length (spelling i) + bytes_of is = omega arith in z) g),
)

module _ (code : Code) (env : Places) (a : ℕ) where
  -- the cells of lines from so many bytes behind an item's beginning on
  abbrev From : ℕ → List Marked → Type 0
  From o lines = AllFound code (cells_from env (a + o) lines)

  -- with those of lines behind them
  joined : (o : ℕ) (is js : List Ins) → EdgesFrom code (a + o) is → EdgesFrom code (a + (o + bytes_of is)) js → EdgesFrom code (a + o) (is ++ js)
  joined o is js f g = behind_edges code (a + o) is js f (subst (λ x. EdgesFrom code x js)
      (let z : a + (o + bytes_of is) ≡ a + o + bytes_of is = omega arith in z) g)

  further : (o k : ℕ) (rest : List Marked) → AllFound code (cells_from env (a + o + k) rest) → From (o + k) rest
  further o k rest h = subst (λ x. AllFound code (cells_from env x rest)) (let z : a + o + k ≡ a + (o + k) = omega arith in z) h

  -- an instruction that is no jump
  one : (o : ℕ) (i : Ins) (t : Mark) (rest : List Marked) → From o (record { mark = t; stmt = Plain i } ∷ rest)
      → CellIs code (a + o) i (a + (o + length (spelling i))) t × From (o + length (spelling i)) rest
  unfolding size
  one o i t rest h =
      let q : a + o + length (spelling i) ≡ a + (o + length (spelling i)) = omega arith in
      (h.0 ∙ ap (λ x. Some (record { ins = i; next = x; mark = t })) q, further o (length (spelling i)) rest h.1)

  -- several of them, unmarked
  several : (o : ℕ) (is : List Ins) (rest : List Marked) → From o (map op is ++ rest) → EdgesFrom code (a + o) is × From (o + bytes_of is) rest
  unfolding size
  several o [] rest h = (tt, subst (λ x. From x rest) (let z : o ≡ o + 0 = omega arith in z) h)
  several o (i ∷ is) rest h =
      let k : ℕ = length (spelling i) in
      let r = several (o + k) is rest (further o k (map op is ++ rest) h.1) in (
        (h.0, subst (λ x. EdgesFrom code x is) (let z : a + (o + k) ≡ a + o + k = omega arith in z) r.0),
        subst (λ x. From x rest) (let z : o + k + bytes_of is ≡ o + (k + bytes_of is) = omega arith in z) r.1,
      )

  -- a jump
  jumps : (o : ℕ) (c : Option Cond) (name : Name) (rest : List Marked) → From o (record { mark = Never; stmt = Jump c name } ∷ rest)
      → CellIs code (a + o) (jump c (distance (place env name) (a + (o + size (Jump c name))))) (a + (o + size (Jump c name))) Never
      × From (o + size (Jump c name)) rest
  jumps o c name rest h =
      let q : a + o + size (Jump c name) ≡ a + (o + size (Jump c name)) = omega arith in
      (h.0 ∙ ap (λ x. Some (edge_cell (jump c (distance (place env name) x)) x)) q, further o (size (Jump c name)) rest h.1)

  -- one to a label so many bytes behind the item's beginning
  jumps_to : (o : ℕ) (c : Option Cond) (name : Name) (t : ℕ) (rest : List Marked) → place env name ≡ a + t
      → From o (record { mark = Never; stmt = Jump c name } ∷ rest)
      → EdgesFrom code (a + o) (jump c (distance t (o + size (Jump c name))) ∷ []) × From (o + size (Jump c name)) rest
  unfolding size spelling four_bytes
  jumps_to o None name t rest at h =
      let r = jumps o None name rest h in
      let d : distance (place env name) (a + (o + 5)) ≡ distance t (o + 5) = ap (λ x. distance x (a + (o + 5))) at ∙ by_offsets a t (o + 5) in
      let q : a + (o + 5) ≡ a + o + 5 = omega arith in
      ((r.0 ∙ ap (λ d. Some (edge_cell (Jmp d) (a + (o + 5)))) d ∙ ap (λ x. Some (edge_cell (Jmp (distance t (o + 5))) x)) q, tt), r.1)
  jumps_to o (Some c) name t rest at h =
      let r = jumps o (Some c) name rest h in
      let d : distance (place env name) (a + (o + 6)) ≡ distance t (o + 6) = ap (λ x. distance x (a + (o + 6))) at ∙ by_offsets a t (o + 6) in
      let q : a + (o + 6) ≡ a + o + 6 = omega arith in
      ((r.0 ∙ ap (λ d. Some (edge_cell (Jcc c d) (a + (o + 6)))) d ∙ ap (λ x. Some (edge_cell (Jcc c (distance t (o + 6))) x)) q, tt), r.1)

  -- a label takes no bytes
  behind_label : (o : ℕ) (name : Name) (rest : List Marked) → From o (record { mark = Never; stmt = Label name } ∷ rest) → From o rest
  unfolding size
  behind_label o name rest h = subst (λ x. AllFound code (cells_from env x rest)) (let z : a + o + 0 ≡ a + o = omega arith in z) h

-- ---- the items

module _ (mode : Mode) (image : Image) (facts : Facts mode image) (n : ℕ) (b : Body) (is : slice_get image.bodies n ≡ Some b) (i : ℕ) where
  abbrev code : Code
  code = code_table mode image

  abbrev env : Places
  env = places_of mode image

  abbrev a : ℕ
  a = item_address mode n b i

  abbrev next : ℕ
  next = item_address mode n b (suc i)

  -- the cells of an item
  cells : (item : Item) → item_at (Some b) i ≡ Some item → From code env a 0 (item_lines mode image n b i item)
  cells item hi = subst (λ x. AllFound code (cells_from env x (item_lines mode image n b i item))) (let z : a ≡ a + 0 = omega arith in z)
      (facts.items n i b item is hi)

  pub wait_code : (site : ℕ) → item_at (Some b) i ≡ Some (Wait site) → WaitCode code a next site
  unfolding expansion size spelling four_bytes distance
  wait_code site hi =
      let lines : List Marked = item_lines mode image n b i (Wait site) in
      let w0 : Name = own_label n i (codes "W0") in
      let here : place env w0 ≡ a + 0 = call_labels_are mode image facts n b is i (Wait site) hi ∙ (let z : a ≡ a + 0 = omega arith in z) in
      let first = one code env a 0 (GsLoad 3 (pos 0x38)) Never (drop 2 lines) (behind_label code env a 0 w0 (drop 1 lines) (cells (Wait site) hi)) in
      let sum = several code env a 9 (record_code site) (drop 3 lines) first.1 in
      let seen = one code env a 16 (Load 0 3 (pos 0)) Always (drop 4 lines) sum.1 in
      let test = several code env a 23 (AluImm Cmp 0 (pos 0) ∷ []) (drop 5 lines) seen.1 in
      let leaves = jumps_to code env a 30 (Some Nz) w0 0 [] here test.1 in
      record {
        first = subst (λ x. CellIs code x (GsLoad 3 (pos 0x38)) (a + 9) Never) (let z : a + 0 ≡ a = omega arith in z) first.0;
        sum = sum.0;
        seen = seen.0;
        test = joined code env a 23 (AluImm Cmp 0 (pos 0) ∷ []) (Jcc Nz (negsuc 35) ∷ []) test.0 leaves.0;
        follows = sym (facts.follow n i b (Wait site) hi);
      }

  pub call_code : (site to func s : ℕ) → item_at (Some b) i ≡ Some (Call site to func s)
      → CallCode code a next site to func s (function_address mode image func)
  unfolding expansion size spelling four_bytes distance
  call_code site to func s hi =
      let lines : List Marked = item_lines mode image n b i (Call site to func s) in
      let address : ℕ = function_address mode image func in
      let l1 : Name = own_label n i (codes "L1") in
      let l2 : Name = own_label n i (codes "L2") in
      let l3 : Name = own_label n i (codes "L3") in
      let labels = call_labels_are mode image facts n b is i (Call site to func s) hi in
      let first = one code env a 0 (GsLoad 3 (pos 0x38)) Never (drop 1 lines) (cells (Call site to func s) hi) in
      let sum = several code env a 9 (record_code site) (drop 2 lines) first.1 in
      let seen = one code env a 16 (Load 0 3 (pos 0)) IfNonzero (drop 3 lines) sum.1 in
      let test = several code env a 23 (AluImm Cmp 0 (pos 0) ∷ []) (drop 4 lines) seen.1 in
      let fills = jumps_to code env a 30 (Some Z) l1 fill_label (drop 5 lines) labels.0 test.1 in
      let none = several code env a 36 (MovImm s 0 ∷ []) (drop 6 lines) fills.1 in
      let leaves = jumps_to code env a 46 None l3 call_end (drop 7 lines) labels.2 none.1 in
      let filling = several code env a 51 (record_filling address func to s) (drop 19 lines) (behind_label code env a 51 l1 (drop 8 lines) leaves.1) in
      let head = one code env a 140 (Load 0 2 (pos 0)) Never (drop 21 lines) (behind_label code env a 140 l2 (drop 20 lines) filling.1) in
      let link = several code env a 147 link_code (drop 22 lines) head.1 in
      let exchange = one code env a 154 (CmpXchg 2 (pos 0) 3) IfEqual (drop 23 lines) link.1 in
      let again = jumps_to code env a 163 (Some Nz) l2 at_head (drop 24 lines) labels.1 exchange.1 in
      let two = several code env a 169 (MovImm s 2 ∷ AluImm Cmp 0 (pos 0) ∷ []) (drop 26 lines) again.1 in
      let done = jumps_to code env a 186 (Some Z) l3 call_end (drop 27 lines) labels.2 two.1 in
      let other = several code env a 192 (MovImm s 1 ∷ []) (drop 28 lines) done.1 in
      let busy : EdgesFrom code (a + 23) (busy_code s)
      = joined code env a 23 (AluImm Cmp 0 (pos 0) ∷ []) (Jcc Z (pos 15) ∷ MovImm s 0 ∷ Jmp (pos 151) ∷ []) test.0
      (joined code env a 30 (Jcc Z (pos 15) ∷ []) (MovImm s 0 ∷ Jmp (pos 151) ∷ []) fills.0
      (joined code env a 36 (MovImm s 0 ∷ []) (Jmp (pos 151) ∷ []) none.0 leaves.0)) in
      record {
        first = subst (λ x. CellIs code x (GsLoad 3 (pos 0x38)) (a + 9) Never) (let z : a + 0 ≡ a = omega arith in z) first.0;
        sum = sum.0;
        seen = seen.0;
        fill = joined code env a 23 (busy_code s) (record_filling address func to s) busy filling.0;
        head = head.0;
        link = link.0;
        exchange = exchange.0;
        again = again.0.0 ∙ ap (λ x. Some (edge_cell (Jcc Nz (negsuc 28)) x)) (let z : a + 163 + 6 ≡ a + 169 = omega arith in z);
        answer = joined code env a 169 (MovImm s 2 ∷ AluImm Cmp 0 (pos 0) ∷ []) (Jcc Z (pos 10) ∷ MovImm s 1 ∷ []) two.0
            (joined code env a 186 (Jcc Z (pos 10) ∷ []) (MovImm s 1 ∷ []) done.0 other.0);
        follows = sym (facts.follow n i b (Call site to func s) hi);
      }

  pub take_code : item_at (Some b) i ≡ Some Take → TakeCode code a next
  unfolding expansion size spelling four_bytes distance
  take_code hi =
      let lines : List Marked = item_lines mode image n b i Take in
      let t1 : Name = own_label n i (codes "T1") in
      let t2 : Name = taken_label n in
      let t3 : Name = own_label n i (codes "T3") in
      let labels = call_labels_are mode image facts n b is i Take hi in
      let taken_is : place env t2 ≡ a + at_taken = facts.taken_labels n i b is hi in
      let first = one code env a 0 (GsLoad 2 (pos 0x38)) Never (drop 1 lines) (cells Take hi) in
      let none = several code env a 9 (MovImm 0 0 ∷ []) (drop 2 lines) first.1 in
      let seen = one code env a 19 (Xchg 2 (negsuc 0x7cf) 0) Always (drop 3 lines) none.1 in
      let start = several code env a 26 (MovImm 14 0 ∷ []) (drop 4 lines) seen.1 in
      let left = several code env a 36 (AluImm Cmp 0 (pos 0) ∷ []) (drop 6 lines) (behind_label code env a 36 t1 (drop 5 lines) start.1) in
      let ends = jumps_to code env a 43 (Some Z) t2 at_taken (drop 7 lines) taken_is left.1 in
      let old = one code env a 49 (Load 1 0 (pos 0x18)) Never (drop 8 lines) ends.1 in
      let new = one code env a 56 (Store 0 (pos 0x18) 14) Never (drop 9 lines) old.1 in
      let moves = several code env a 63 (MovReg 14 0 ∷ MovReg 0 1 ∷ []) (drop 11 lines) new.1 in
      let again = jumps_to code env a 69 None t1 at_turn (drop 12 lines) labels.0 moves.1 in
      let some = several code env a 74 (AluImm Cmp 14 (pos 0) ∷ []) (drop 14 lines) (behind_label code env a 74 t2 (drop 13 lines) again.1) in
      let leaves = jumps_to code env a 81 (Some Z) t3 take_end (drop 15 lines) labels.1 some.1 in
      let argument = one code env a 87 (Load 9 14 (pos 0x10)) Never (drop 16 lines) leaves.1 in
      let caller = one code env a 94 (Load 10 14 (pos 0x20)) Never (drop 17 lines) argument.1 in
      let address = one code env a 101 (Load 0 14 (pos 8)) Never (drop 18 lines) caller.1 in
      let function = one code env a 108 (JmpReg 0) Never (drop 19 lines) address.1 in
      record {
        first = subst (λ x. CellIs code x (GsLoad 2 (pos 0x38)) (a + 9) Never) (let z : a + 0 ≡ a = omega arith in z) first.0;
        none = none.0;
        seen = seen.0;
        start = start.0;
        turn = joined code env a 36 (AluImm Cmp 0 (pos 0) ∷ []) (Jcc Z (pos 25) ∷ []) left.0 ends.0;
        old_link = old.0;
        new_link = new.0;
        turned = joined code env a 63 (MovReg 14 0 ∷ MovReg 0 1 ∷ []) (Jmp (negsuc 37) ∷ []) moves.0 again.0;
        taken = joined code env a 74 (AluImm Cmp 14 (pos 0) ∷ []) (Jcc Z (pos 23) ∷ []) some.0 leaves.0;
        argument = argument.0;
        caller = caller.0;
        address = address.0;
        jump = function.0;
        follows = sym (facts.follow n i b Take hi);
      }

  -- `finish` jumps to the first call in the code of its body's `take`
  pub finish_code : (t : ℕ) → item_at (Some b) t ≡ Some Take → item_at (Some b) i ≡ Some Finish
      → FinishCode code a next (item_address mode n b t + at_taken)
  unfolding expansion size spelling four_bytes
  finish_code t taken hi =
      let lines : List Marked = item_lines mode image n b i Finish in
      let t2 : Name = taken_label n in
      let taken_is : place env t2 ≡ item_address mode n b t + at_taken = facts.taken_labels n t b is taken in
      let start = several code env a 0 (MovReg 3 14 ∷ []) (drop 1 lines) (cells Finish hi) in
      let load = one code env a 3 (Load 14 3 (pos 0x18)) Never (drop 2 lines) start.1 in
      let zero = several code env a 10 (MovImm 0 0 ∷ []) (drop 3 lines) load.1 in
      let seen = one code env a 20 (Store 3 (pos 0) 0) Always (drop 4 lines) zero.1 in
      let jump = jumps code env a 27 None t2 [] seen.1 in
      let here : a + 0x100 ≤ 2 ^ 64 = (facts.item_range n i b is).1 in
      let there : item_address mode n b t + 0x100 ≤ 2 ^ 64 = (facts.item_range n t b is).1 in
      record {
        start = subst (λ x. EdgesFrom code x (MovReg 3 14 ∷ [])) (let z : a + 0 ≡ a = omega arith in z) start.0;
        load = load.0;
        zero = zero.0;
        seen = seen.0;
        distance = distance (place env t2) (a + 32);
        jump = jump.0;
        leads = leads_to (place env t2) (a + 32) (subst (λ x. x < 2 ^ 64) (sym taken_is) (omega arith)) (omega arith) ∙ taken_is;
        follows = sym (facts.follow n i b Finish hi);
      }

  pub kick_code : (to s : ℕ) → item_at (Some b) i ≡ Some (Kick to s) → KickCode code a next to s
  unfolding expansion size spelling four_bytes distance
  kick_code to s hi =
      let lines : List Marked = item_lines mode image n b i (Kick to s) in
      let k1 : Name = own_label n i (codes "K1") in
      let k2 : Name = own_label n i (codes "K2") in
      let labels = call_labels_are mode image facts n b is i (Kick to s) hi in
      let test = several code env a 0 (AluImm Cmp s (pos 2) ∷ []) (drop 1 lines) (cells (Kick to s) hi) in
      let none = jumps_to code env a 7 (Some Nz) k1 at_quiet (drop 2 lines) labels.0 test.1 in
      let numbers = several code env a 13 (numbers_code 0x830 0x40fb to) (drop 5 lines) none.1 in
      let sends = one code env a 43 Wrmsr Always (drop 6 lines) numbers.1 in
      let over = jumps_to code env a 45 None k2 kick_end (drop 7 lines) labels.1 sends.1 in
      let quiet = one code env a 50 Ins.Nop Always (drop 9 lines) (behind_label code env a 50 k1 (drop 8 lines) over.1) in
      record {
        test = subst (λ x. EdgesFrom code x (AluImm Cmp s (pos 2) ∷ Jcc Nz (pos 37) ∷ [])) (let z : a + 0 ≡ a = omega arith in z)
            (joined code env a 0 (AluImm Cmp s (pos 2) ∷ []) (Jcc Nz (pos 37) ∷ []) test.0 none.0);
        numbers = numbers.0;
        sends = sends.0;
        over = over.0;
        quiet = quiet.0;
        follows = sym (facts.follow n i b (Kick to s) hi);
      }
