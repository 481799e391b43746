-- The code of an item of an image: its cells, the jumps of `jcc` and `goto`, which lead to the items that they name, and where the labels stand that items
-- of cross calls have of their own.
use Rattle.std.proofs.Common.{◌≡◌, ℕ, suc, ◌+◌, ◌^◌, ◌<◌, false, [], ◌∷◌, length, List, take, drop, Some, refl, sym, ap, ◌∙◌, subst, arith, eq-eqb}
use Rattle.std.specs.Prelude.{ℤ, pos, slice_get, codes, decimal, if◌then◌else◌, ◌++◌, ◌&&◌}
use Rattle.ev_isa.specs.Word.{displaced}
use Rattle.ev_isa.specs.declared.instruction.Cond.{Cond}
use Rattle.ev_isa.specs.declared.instruction.Ins.{Ins}
use Rattle.ev_isa.specs.declared.instruction.Ins.TheVariants.{StoreImm, Jmp}
use Rattle.ev_isa.specs.Spelling.{spelling, four_bytes}
use Rattle.ev_isa.specs.declared.mode.Mode.{Mode}
use Rattle.ev_body.specs.declared.item.Item.{Item}
use Rattle.ev_body.specs.declared.item.Item.TheVariants.{Jcc, Goto, Map, Unmap, Call, Kick, Wait, Take}
use Rattle.ev_body.specs.declared.body.Body.{Body}
use Rattle.ev_body.specs.declared.image.Image.{Image}
use Rattle.ev_body.specs.Bodies.{body_items}
use Rattle.ev_asm.specs.Assembly.{Name, Places, is_name, place, places, size, distance}
use Rattle.ev_listing.specs.Expansion.{item_label, own_label, taken_label, page_word, item_address, function_address, expansion}
use Rattle.ev_listing.specs.Statements.{seen}
use Rattle.ev_listing.specs.Marks.{Marked, stmts_of, Always}
use Rattle.ev_abstract.specs.Run.{item_at}
use Rattle.ev_symbolic.specs.Agrees.{Code}
use Rattle.ev_blocks.specs.Calls.{at_head, call_end, at_turn, take_end}
use Rattle.ev_blocks.specs.Items.{at_quiet, kick_end}
use Rattle.ev_paths.specs.Cells.{CellIs}
use Rattle.ev_table.specs.Table.{code_table, places_of, item_lines}
use Rattle.ev_table.proofs.Whole.{leads_to}
use Rattle.ev_table.proofs.Names.{item_form}
use Rattle.ev_table.proofs.LabelPlaces.{past, past4, same_name}
use Rattle.ev_table.proofs.FirstPlaces.{first_label}
use Rattle.ev_relation.proofs.Facts.{Facts}
use Rattle.ev_body_steps.proofs.ItemCells.{visible_of, branch_label, BranchIs, ItemCells, item_cells}

-- a visible jump to an address
pub record JumpCell (code : Code) (a next target : ℕ) (jump : ℤ → Ins) : Type 0 where
  pub distance : ℤ
  pub seen : CellIs code a (jump distance) next Always
  pub leads : displaced next distance ≡ target

-- the label of the branch of an item of a page, whatever it stores there
page_placed : (name : Name) (s : ℕ) (i : Ins) (a : ℕ) (rest : Places)
    → place (places a (stmts_of (page_word name s ++ seen i ∷ [])) ++ rest) name ≡ a + branch_label
unfolding places size spelling four_bytes
page_placed name s i a rest = ap (λ t. if t then a + 3 + 10 + 3 + 4 + 7 + 6 + 10 else place rest name) (same_name name)
    ∙ (let e : a + 3 + 10 + 3 + 4 + 7 + 6 + 10 ≡ a + branch_label = omega arith in e)

-- ---- labels of items of cross calls

-- names that begin in the same way are told by what follows
same_front : (front x y : Name) → is_name (front ++ x) (front ++ y) ≡ is_name x y
same_front [] x y = refl
same_front (c ∷ cs) x y = ap (λ t. t && is_name (cs ++ x) (cs ++ y)) (eq-eqb c c refl) ∙ same_front cs x y

-- the label behind an exchange is none of an item's own
taken_other : (n i : ℕ) (x : Name) → is_name (taken_label n) (own_label n i x) ≡ false
taken_other n i x =
    ap (λ (l : Name). is_name (taken_label n) l) (item_form n i x) ∙ same_front (0x62 ∷ decimal n) (codes "T2") (0x69 ∷ (decimal i ++ x))

-- that of `call` where the record is free
abbrev pub fill_label : ℕ
fill_label = 51

-- each label that such an item jumps to and that is its own
abbrev pub CallLabelsAre : Places → ℕ → ℕ → ℕ → Item → Type 0
CallLabelsAre env n k a (Call site to func s) =
    (place env (own_label n k (codes "L1")) ≡ a + fill_label) × (place env (own_label n k (codes "L2")) ≡ a + at_head)
    × (place env (own_label n k (codes "L3")) ≡ a + call_end)
CallLabelsAre env n k a (Kick to s) =
    (place env (own_label n k (codes "K1")) ≡ a + at_quiet) × (place env (own_label n k (codes "K2")) ≡ a + kick_end)
CallLabelsAre env n k a (Wait site) = place env (own_label n k (codes "W0")) ≡ a
CallLabelsAre env n k a Take = (place env (own_label n k (codes "T1")) ≡ a + at_turn) × (place env (own_label n k (codes "T3")) ≡ a + take_end)
CallLabelsAre env n k a _ = Unit {0}

module _ (mode : Mode) (image : Image) (facts : Facts mode image) (n : ℕ) (b : Body) (is : slice_get image.bodies n ≡ Some b) (i : ℕ) where
  abbrev pub here : ℕ
  here = item_address mode n b i

  abbrev pub behind : ℕ
  behind = item_address mode n b (suc i)

  -- the branch of an item of a page
  branch_is : (item : Item) → item_at (Some b) i ≡ Some item → BranchIs (places_of mode image) n i here item
  unfolding expansion
  branch_is (Map s) h =
      facts.own_labels n i b (Map s) 77 (49 ∷ []) branch_label (omega arith) is h
      (λ a rest. page_placed (own_label n i (codes "M1")) s (StoreImm 0 (pos 0) (pos 1)) a rest)
  branch_is (Unmap s) h =
      facts.own_labels n i b (Unmap s) 77 (49 ∷ []) branch_label (omega arith) is h
      (λ a rest. page_placed (own_label n i (codes "M1")) s (StoreImm 0 (pos 0) (pos 0)) a rest)
  branch_is _ h = tt

  -- the labels of an item of cross calls
  pub call_labels_are : (item : Item) → item_at (Some b) i ≡ Some item → CallLabelsAre (places_of mode image) n i here item
  unfolding expansion size spelling four_bytes
  call_labels_are (Call site to func s) h =
      let l1 : Name = own_label n i (codes "L1") in
      let l2 : Name = own_label n i (codes "L2") in
      let l3 : Name = own_label n i (codes "L3") in
      let lines : List Marked = item_lines mode image n b i (Call site to func s) in (
        facts.own_labels n i b (Call site to func s) 76 (49 ∷ []) fill_label (omega arith) is h
            (first_label (take 7 lines) (drop 8 lines) l1 (past4 (past (past (past tt))))),
        facts.own_labels n i b (Call site to func s) 76 (50 ∷ []) at_head (omega arith) is h
            (first_label (take 19 lines) (drop 20 lines) l2 (past4 (past (past (past (
              same_front (item_label n i) (codes "L1") (codes "L2"),
              past4 (past4 (past (past (past tt)))),
            )))))),
        facts.own_labels n i b (Call site to func s) 76 (51 ∷ []) call_end (omega arith) is h
            (first_label (take 28 lines) (drop 29 lines) l3 (past4 (past (past (past (
              same_front (item_label n i) (codes "L1") (codes "L3"),
              past4 (past4 (past (past (past (same_front (item_label n i) (codes "L2") (codes "L3"), past4 (past4 tt)))))),
            )))))),
      )
  call_labels_are (Kick to s) h =
      let k1 : Name = own_label n i (codes "K1") in
      let k2 : Name = own_label n i (codes "K2") in
      let lines : List Marked = item_lines mode image n b i (Kick to s) in (
        facts.own_labels n i b (Kick to s) 75 (49 ∷ []) at_quiet (omega arith) is h
            (first_label (take 7 lines) (drop 8 lines) k1 (past4 (past (past (past tt))))),
        facts.own_labels n i b (Kick to s) 75 (50 ∷ []) kick_end (omega arith) is h
            (first_label (take 9 lines) (drop 10 lines) k2
            (past4 (past (past (past (same_front (item_label n i) (codes "K1") (codes "K2"), past tt)))))),
      )
  call_labels_are (Wait site) h =
      let lines : List Marked = item_lines mode image n b i (Wait site) in
      facts.own_labels n i b (Wait site) 87 (48 ∷ []) 0 (omega arith) is h (first_label [] (drop 1 lines) (own_label n i (codes "W0")) tt)
      ∙ (let e : here + 0 ≡ here = omega arith in e)
  call_labels_are Take h =
      let t1 : Name = own_label n i (codes "T1") in
      let t3 : Name = own_label n i (codes "T3") in
      let lines : List Marked = item_lines mode image n b i Take in (
        facts.own_labels n i b Take 84 (49 ∷ []) at_turn (omega arith) is h (first_label (take 4 lines) (drop 5 lines) t1 (past4 tt)),
        facts.own_labels n i b Take 84 (51 ∷ []) take_end (omega arith) is h
            (first_label (take 19 lines) (drop 20 lines) t3 (past4 (
              same_front (item_label n i) (codes "T1") (codes "T3"),
              past4 (past (past (past (taken_other n i (codes "T3"), past4 (past (past tt)))))),
            ))),
      )
  call_labels_are _ h = tt

  pub cells_of : (item : Item) (ins : Ins) → item_at (Some b) i ≡ Some item → visible_of item ≡ Some ins
      → ItemCells (code_table mode image) here behind item ins
  cells_of item ins h q =
      item_cells mode n i b.key (function_address mode image) (code_table mode image) (places_of mode image) here behind item ins q (branch_is item h)
      (facts.items n i b item is h)
      (facts.follow n i b item h)

  -- the distance of a jump to an item
  to_item : (next t : ℕ) → next < 2 ^ 64 → t < length (body_items b) → displaced next (distance (place (places_of mode image) (item_label n t)) next)
      ≡ item_address mode n b t
  to_item next t small h =
      let at = facts.labels n t b is h in
      leads_to (place (places_of mode image) (item_label n t)) next (subst (λ x. x < 2 ^ 64) (sym at) (let s = (facts.item_small n t b is).1 in omega arith))
      small ∙ at

  pub goto_cell : (t : ℕ) → item_at (Some b) i ≡ Some (Goto t) → t < length (body_items b)
      → JumpCell (code_table mode image) here behind (item_address mode n b t) (λ d. Jmp d)
  unfolding expansion size
  goto_cell t h l =
      let next : here + 5 ≡ behind = (let e : here + 5 ≡ here + (5 + 0) = omega arith in e) ∙ sym (facts.follow n i b (Goto t) h) in
      record {
        distance = distance (place (places_of mode image) (item_label n t)) (here + 5);
        seen = (facts.items n i b (Goto t) is h).0
            ∙ ap (λ x. Some (record { ins = Jmp (distance (place (places_of mode image) (item_label n t)) (here + 5)); next = x; mark = Always })) next;
        leads = ap (λ x. displaced x (distance (place (places_of mode image) (item_label n t)) (here + 5))) (sym next)
            ∙ to_item (here + 5) t (let s = (facts.item_small n i b is).1 in omega arith) l;
      }

  pub jcc_cell : (c : Cond) (t : ℕ) → item_at (Some b) i ≡ Some (Jcc c t) → t < length (body_items b)
      → JumpCell (code_table mode image) here behind (item_address mode n b t) (λ d. Ins.Jcc c d)
  unfolding expansion size
  jcc_cell c t h l =
      let next : here + 6 ≡ behind = (let e : here + 6 ≡ here + (6 + 0) = omega arith in e) ∙ sym (facts.follow n i b (Jcc c t) h) in
      record {
        distance = distance (place (places_of mode image) (item_label n t)) (here + 6);
        seen = (facts.items n i b (Jcc c t) is h).0
            ∙ ap (λ x. Some (record { ins = Ins.Jcc c (distance (place (places_of mode image) (item_label n t)) (here + 6)); next = x; mark = Always })) next;
        leads = ap (λ x. displaced x (distance (place (places_of mode image) (item_label n t)) (here + 6))) (sym next)
            ∙ to_item (here + 6) t (let s = (facts.item_small n i b is).1 in omega arith) l;
      }
