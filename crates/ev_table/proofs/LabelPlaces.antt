-- Where the labels of items are placed: each at its item, in the code of every image.
use Rattle.std.proofs.Common.{◌≡◌, ℕ, zero, suc, ◌+◌, ◌^◌, ◌<◌, ◌≤◌, inl, inr, Bool, true, false, ◌&&◌, List, [], ◌∷◌, ◌++◌, length, take, Some, refl, sym, ap, ◌∙◌, subst, arith, append_assoc, eq-eqb}
use Rattle.std.specs.Prelude.{◌||◌, if◌then◌else◌, codes, slice_get, None}
use Rattle.std.specs.List.{list_all}
use Rattle.std.proofs.lemmas.Option.{slice_get_within}
use Rattle.ev_isa.specs.declared.mode.Mode.{Mode}
use Rattle.ev_body.specs.declared.key.Key.{Key}
use Rattle.ev_body.specs.declared.item.Item.{Item}
use Rattle.ev_body.specs.declared.item.Item.TheVariants.{Set, Copy, Alu, Jcc, Goto, Nop, Log, Cpu, Slot, Put, Cell, SetCell, AddCell, SwapCell, Uget, Uput, GetReg, SetReg, SetRip, Map, Unmap, Resched, Sti, Cli, Eoi, Send, Call, Kick, Wait, Take, Finish, Ret}
use Rattle.ev_body.specs.declared.body.Body.{Body}
use Rattle.ev_body.specs.declared.image.Image.{Image}
use Rattle.ev_body.specs.Bodies.{body_items}
use Rattle.ev_body.specs.WellFormed.{IsImage, is_body}
use Rattle.ev_abstract.specs.Rules.{is_take}
use Rattle.ev_asm.specs.declared.statement.Stmt.{Stmt}
use Rattle.ev_asm.specs.declared.statement.Stmt.TheVariants.{Label, Plain, Jump}
use Rattle.ev_asm.specs.Assembly.{Name, Places, is_name, place, places, size, total_size}
use Rattle.ev_listing.specs.AddressMap.{body_code}
use Rattle.ev_listing.specs.Expansion.{item_label, own_label, expansion, expansions, item_address, function_address, body_stmts}
use Rattle.ev_listing.specs.Marks.{Marked, stmts_of, all_places}
use Rattle.ev_concrete.specs.Opening.{body_listings, kernel_listings}
use Rattle.ev_symbolic.proofs.Values.{and_left, and_right}
use Rattle.ev_fetch.proofs.Regions.{Each, each_append}
use Rattle.ev_fetch.proofs.Sizes.{few_items}
use Rattle.ev_table.specs.Table.{places_of}
use Rattle.ev_table.proofs.Expanded.{size_cons}
use Rattle.ev_table.proofs.Names.{NoDigit, IsOwn, not_own, not_other}
use Rattle.ev_table.proofs.Whole.{all_at, places_split, address}

-- ---- the labels of an item

abbrev pub Owns : ℕ → ℕ → Bool → Stmt → Type 0
Owns m k takes (Label name) = IsOwn m k takes name
Owns m k takes s = Unit {0}

abbrev is_label : Stmt → Bool
is_label (Label name) = true
is_label s = false

abbrev has_label : List Marked → Bool
has_label [] = false
has_label (l ∷ ls) = is_label l.stmt || has_label ls

pub own : (m k : ℕ) (t : Bool) (x : Name) (c d : ℕ) → x ≡ c ∷ d ∷ [] → 58 ≤ c → IsOwn m k t (own_label m k x)
own m k t x c d e h = inl (x, refl, subst NoDigit (sym e) (λ g. let u = g.1 in omega arith), subst (λ (y : Name). 0 < length y) (sym e) (omega arith))

no_labels : (m k : ℕ) (t : Bool) (ls : List Marked) → has_label ls ≡ false → Each (λ (l : Marked). Owns m k t l.stmt) ls
no_labels m k t [] h = tt
no_labels m k t (l ∷ ls) h = one l.stmt h (no_labels m k t ls)
  where
    one : (s : Stmt) → (is_label s || has_label ls) ≡ false
        → (has_label ls ≡ false → Each (λ (l : Marked). Owns m k t l.stmt) ls) → Owns m k t s × Each (λ (l : Marked). Owns m k t l.stmt) ls
    one (Label name) q f = absurd (cc)
    one (Plain i) q f = (tt, f q)
    one (Jump c name) q f = (tt, f q)

-- past one line that is no label, and past four
pub past : {X : Type 0} → X → Unit {0} × X
past x = (tt, x)

pub past4 : {X : Type 0} → X → Unit {0} × (Unit {0} × (Unit {0} × (Unit {0} × X)))
past4 x = past (past (past (past x)))

pub item_owns : (mode : Mode) (m : ℕ) (key : Key) (f : ℕ → ℕ) (k : ℕ) (item : Item)
    → Each (λ (l : Marked). Owns m k (is_take item) l.stmt) (expansion mode m key f k item)
unfolding expansion is_take
item_owns mode m key f k (Set d v) = no_labels m k false (expansion mode m key f k (Set d v)) refl
item_owns mode m key f k (Copy d s) = no_labels m k false (expansion mode m key f k (Copy d s)) refl
item_owns mode m key f k (Alu o d s) = no_labels m k false (expansion mode m key f k (Alu o d s)) refl
item_owns mode m key f k (Jcc c j) = no_labels m k false (expansion mode m key f k (Jcc c j)) refl
item_owns mode m key f k (Goto j) = no_labels m k false (expansion mode m key f k (Goto j)) refl
item_owns mode m key f k Nop = no_labels m k false (expansion mode m key f k Nop) refl
item_owns mode m key f k (Log s) = no_labels m k false (expansion mode m key f k (Log s)) refl
item_owns mode m key f k (Cpu d) = no_labels m k false (expansion mode m key f k (Cpu d)) refl
item_owns mode m key f k (Slot d x) = no_labels m k false (expansion mode m key f k (Slot d x)) refl
item_owns mode m key f k (Put x s) = no_labels m k false (expansion mode m key f k (Put x s)) refl
item_owns mode m key f k (Cell d x) = no_labels m k false (expansion mode m key f k (Cell d x)) refl
item_owns mode m key f k (SetCell x s) = no_labels m k false (expansion mode m key f k (SetCell x s)) refl
item_owns mode m key f k (AddCell x d) = no_labels m k false (expansion mode m key f k (AddCell x d)) refl
item_owns mode m key f k (SwapCell x d) = no_labels m k false (expansion mode m key f k (SwapCell x d)) refl
item_owns mode m key f k (Uget d s) = no_labels m k false (expansion mode m key f k (Uget d s)) refl
item_owns mode m key f k (Uput s t) = no_labels m k false (expansion mode m key f k (Uput s t)) refl
item_owns mode m key f k (GetReg d r) = no_labels m k false (expansion mode m key f k (GetReg d r)) refl
item_owns mode m key f k (SetReg r s) = no_labels m k false (expansion mode m key f k (SetReg r s)) refl
item_owns mode m key f k (SetRip v) = no_labels m k false (expansion mode m key f k (SetRip v)) refl
item_owns mode m key f k (Map s) = past4 (past (past (past (own m k false (codes "M1") 77 49 refl (omega arith), past4 tt))))
item_owns mode m key f k (Unmap s) = past4 (past (past (past (own m k false (codes "M1") 77 49 refl (omega arith), past4 tt))))
item_owns mode m key f k Resched = no_labels m k false (expansion mode m key f k Resched) refl
item_owns mode m key f k Sti = no_labels m k false (expansion mode m key f k Sti) refl
item_owns mode m key f k Cli = no_labels m k false (expansion mode m key f k Cli) refl
item_owns mode m key f k Eoi = no_labels m k false (expansion mode m key f k Eoi) refl
item_owns mode m key f k (Send to x) = no_labels m k false (expansion mode m key f k (Send to x)) refl
item_owns mode m key f k Item.Bp = no_labels m k false (expansion mode m key f k Item.Bp) refl
item_owns mode m key f k (Kick to s) = past4
    (past (past (past (own m k false (codes "K1") 75 49 refl (omega arith), past (own m k false (codes "K2") 75 50 refl (omega arith), tt)))))
item_owns mode m key f k (Wait site) = (own m k false (codes "W0") 87 48 refl (omega arith), (tt, (tt, (tt, (tt, (tt, tt))))))
item_owns mode m key f k (Call site to func s) =
    past4 (past (past (past (
      own m k false (codes "L1") 76 49 refl (omega arith),
      past4 (past4 (past (past (past (
        own m k false (codes "L2") 76 50 refl (omega arith),
        past4 (past4 (own m k false (codes "L3") 76 51 refl (omega arith), tt)),
      ))))),
    ))))
item_owns mode m key f k Take =
    past4 (
      own m k true (codes "T1") 84 49 refl (omega arith),
      past4 (past (past (past (
        inr (refl, refl),
        past4 (past (past (own m k true (codes "T3") 84 51 refl (omega arith), tt))),
      )))),
    )
item_owns mode m key f k Finish = no_labels m k false (expansion mode m key f k Finish) refl
item_owns mode m key f k Ret = no_labels m k false (expansion mode m key f k Ret) refl

-- ---- places of other names

-- no label of the lines has this name
abbrev pub Other : Name → Stmt → Type 0
Other name (Label other) = is_name other name ≡ false
Other name s = Unit {0}

abbrev pub Lack : Name → List Marked → Type 0
Lack name ls = Each (λ (l : Marked). Other name l.stmt) ls

pub place_behind : (a : ℕ) (ls : List Marked) (rest : Places) (name : Name) → Lack name ls → place (places a (stmts_of ls) ++ rest) name ≡ place rest name
unfolding places
place_behind a [] rest name h = refl
place_behind a (l ∷ ls) rest name h = one l.stmt h.0 (λ b. place_behind b ls rest name h.1)
  where
    one : (s : Stmt) → Other name s → ((b : ℕ) → place (places b (stmts_of ls) ++ rest) name ≡ place rest name)
        → place (places a (s ∷ stmts_of ls) ++ rest) name ≡ place rest name
    one (Label other) q f = ap (λ b. if b then a else place (places a (stmts_of ls) ++ rest) name) q ∙ f a
    one (Plain i) q f = f (a + size (Plain i))
    one (Jump c other) q f = f (a + size (Jump c other))

pub places_append : (a : ℕ) (xs ys : List Marked) (rest : Places) → places a (stmts_of (xs ++ ys)) ++ rest
    ≡ places a (stmts_of xs) ++ (places (a + total_size (stmts_of xs)) (stmts_of ys) ++ rest)
unfolding places size
places_append a [] ys rest = ap (λ (x : ℕ). places x (stmts_of ys) ++ rest) (let e : a ≡ a + 0 = omega arith in e)
places_append a (l ∷ ls) ys rest = one l.stmt (λ b. places_append b ls ys rest)
  where
    behind : (s : ℕ) → places (a + s + total_size (stmts_of ls)) (stmts_of ys) ++ rest ≡ places (a + (s + total_size (stmts_of ls))) (stmts_of ys) ++ rest
    behind s = ap (λ (x : ℕ). places x (stmts_of ys) ++ rest)
        (let e : a + s + total_size (stmts_of ls) ≡ a + (s + total_size (stmts_of ls)) = omega arith in e)

    further : (s : ℕ) →
        ((b : ℕ) → places b (stmts_of (ls ++ ys)) ++ rest ≡ places b (stmts_of ls) ++ (places (b + total_size (stmts_of ls)) (stmts_of ys) ++ rest))
        → places (a + s) (stmts_of (ls ++ ys)) ++ rest
        ≡ places (a + s) (stmts_of ls) ++ (places (a + (s + total_size (stmts_of ls))) (stmts_of ys) ++ rest)
    further s f = f (a + s) ∙ ap (λ (x : Places). places (a + s) (stmts_of ls) ++ x) (behind s)

    one : (s : Stmt) →
        ((b : ℕ) → places b (stmts_of (ls ++ ys)) ++ rest ≡ places b (stmts_of ls) ++ (places (b + total_size (stmts_of ls)) (stmts_of ys) ++ rest))
        → places a (s ∷ stmts_of (ls ++ ys)) ++ rest
        ≡ places a (s ∷ stmts_of ls) ++ (places (a + (size s + total_size (stmts_of ls))) (stmts_of ys) ++ rest)
    one (Label name) f = ap (λ (x : Places). (name, a) ∷ x)
        (f a ∙ ap (λ (y : ℕ). places a (stmts_of ls) ++ (places y (stmts_of ys) ++ rest))
        (let e : a + total_size (stmts_of ls) ≡ a + (0 + total_size (stmts_of ls)) = omega arith in e))
    one (Plain i) f = further (size (Plain i)) f
    one (Jump None name) f = further 5 f
    one (Jump (Some c) name) f = further 6 f

-- ---- items

abbrev pub Small : ℕ → Type 0
Small n = n < 2 ^ 64

module _ (mode : Mode) (m : ℕ) (key : Key) (f : ℕ → ℕ) (hm : Small m) (n i : ℕ) (hn : Small n) (hi : Small i) where
  item_lacks : (k : ℕ) (t : Bool) → Small k → (ls : List Marked) → Each (λ (l : Marked). Owns m k t l.stmt) ls → Lack (item_label n i) ls
  item_lacks k t hk [] h = tt
  item_lacks k t hk (l ∷ ls) h = (one l.stmt h.0, item_lacks k t hk ls h.1)
    where
      one : (s : Stmt) → Owns m k t s → Other (item_label n i) s
      one (Label name) q = not_own m k n i t name hm hk hn hi q
      one (Plain x) q = tt
      one (Jump c name) q = tt

  -- items of another body
  items_lack : (m ≡ n → ⊥) → (k : ℕ) (items : List Item) → Small (k + length items) → Lack (item_label n i) (expansions mode m key f k items)
  items_lack h k [] small = tt
  items_lack h k (item ∷ items) small = (
    not_other m k n i hm (omega arith) hn hi (λ e q. h e),
    each_append (λ (l : Marked). Other (item_label n i) l.stmt) (expansion mode m key f k item) (expansions mode m key f (suc k) items)
        (item_lacks k (is_take item) (omega arith) (expansion mode m key f k item) (item_owns mode m key f k item)) (items_lack h (suc k) items (omega arith)),
  )

pub same_name : (name : Name) → is_name name name ≡ true
same_name [] = refl
same_name (x ∷ xs) = ap (λ t. t && is_name xs xs) (eq-eqb x x refl) ∙ same_name xs

module _ (mode : Mode) (n : ℕ) (key : Key) (f : ℕ → ℕ) (hn : Small n) where
  item_placed : (a k : ℕ) (items : List Item) (i : ℕ) (rest : Places) → i < length items → Small (k + length items)
      → place (places a (stmts_of (expansions mode n key f k items)) ++ rest) (item_label n (k + i))
      ≡ a + total_size (stmts_of (expansions mode n key f k (take i items)))
  unfolding places size
  item_placed a k [] i rest h small = absurd (omega arith)
  item_placed a k (item ∷ items) zero rest h small =
      let name : Name = item_label n k in
      let tail : Places = places a (stmts_of (expansion mode n key f k item ++ expansions mode n key f (suc k) items)) ++ rest in
      ap (λ (j : ℕ). place ((name, a) ∷ tail) (item_label n j)) (let e : k + 0 ≡ k = omega arith in e)
      ∙ ap (λ b. if b then a else place tail name) (same_name name) ∙ (let e : a ≡ a + 0 = omega arith in e)
  item_placed a k (item ∷ items) (suc i) rest h small =
      let name : Name = item_label n (k + suc i) in
      let here : List Marked = expansion mode n key f k item in
      let more : List Marked = expansions mode n key f (suc k) items in
      let one : ℕ = total_size (stmts_of here) in
      let ki : Small (k + suc i) = omega arith in
      ap (λ b. if b then a else place (places a (stmts_of (here ++ more)) ++ rest) name)
      (not_other n k n (k + suc i) hn (omega arith) hn ki (λ e q. absurd (omega arith)))
      ∙ ap (λ (ps : Places). place ps name) (places_append a here more rest)
      ∙ place_behind a here (places (a + one) (stmts_of more) ++ rest) name
      (item_lacks mode n key f hn n (k + suc i) hn ki k (is_take item) (omega arith) here (item_owns mode n key f k item))
      ∙ ap (λ (j : ℕ). place (places (a + one) (stmts_of more) ++ rest) (item_label n j)) (let e : k + suc i ≡ suc k + i = omega arith in e)
      ∙ item_placed (a + one) (suc k) items i rest (omega arith) (omega arith)
      ∙ (let e : (a + one) + total_size (stmts_of (expansions mode n key f (suc k) (take i items)))
      ≡ a + total_size (stmts_of (expansions mode n key f k (take (suc i) (item ∷ items))))
      = omega (arith, size_cons mode n key f k item (take i items)) in e)

-- ---- bodies

module _ (mode : Mode) (image : Image) where
  body_placed : (bytes m : ℕ) (bs : List Body) (rest : Places) (j i : ℕ) (b : Body) → list_all (is_body bytes) bs ≡ true → m + length bs ≤ 64
      → slice_get bs j ≡ Some b → i < length (body_items b)
      → place (all_places (body_listings mode image m bs) ++ rest) (item_label (m + j) i)
      ≡ body_code (m + j) + total_size (stmts_of (expansions mode (m + j) b.key (function_address mode image) 0 (take i (body_items b))))
  unfolding body_stmts
  body_placed bytes m [] rest j i b h few q l = absurd (cc)
  body_placed bytes m (x ∷ xs) rest zero i b h few q l =
      let e : x ≡ b = cc in
      let short = few_items bytes b (subst (λ (y : Body). is_body bytes y ≡ true) e (and_left _ _ h)) in
      let behind : Places = all_places (body_listings mode image (suc m) xs) ++ rest in
      subst (λ (n : ℕ). place (all_places (body_listings mode image m (x ∷ xs)) ++ rest) (item_label n i)
      ≡ body_code n + total_size (stmts_of (expansions mode n b.key (function_address mode image) 0 (take i (body_items b)))))
      (let z : m ≡ m + 0 = omega arith in z)
      (ap (λ (ps : Places). place ps (item_label m i))
      (append_assoc (places (body_code m) (stmts_of (body_stmts mode image m x))) (all_places (body_listings mode image (suc m) xs)) rest)
      ∙ ap (λ (y : Body). place (places (body_code m) (stmts_of (body_stmts mode image m y)) ++ behind) (item_label m i)) e
      ∙ ap (λ (z : ℕ). place (places (body_code m) (stmts_of (body_stmts mode image m b)) ++ behind) (item_label m z)) (let z : i ≡ 0 + i = omega arith in z)
      ∙ item_placed mode m b.key (function_address mode image) (omega arith) (body_code m) 0 (body_items b) i behind l (omega arith))
  body_placed bytes m (x ∷ xs) rest (suc j) i b h few q l =
      let within : j < length xs = slice_get_within xs j b q in
      let short = few_items bytes x (and_left _ _ h) in
      let goodness = few_items bytes b (all_at (is_body bytes) xs j b (and_right (is_body bytes x) _ h) q) in
      let behind : Places = all_places (body_listings mode image (suc m) xs) ++ rest in
      ap (λ (ps : Places). place ps (item_label (m + suc j) i))
      (append_assoc (places (body_code m) (stmts_of (body_stmts mode image m x))) (all_places (body_listings mode image (suc m) xs)) rest)
      ∙ place_behind (body_code m) (body_stmts mode image m x) behind (item_label (m + suc j) i)
      (items_lack mode m x.key (function_address mode image) (omega arith) (m + suc j) i (omega arith) (omega arith) (λ e. omega arith) 0 (body_items x)
      (omega arith))
      ∙ subst (λ (n : ℕ). place behind (item_label n i)
      ≡ body_code n + total_size (stmts_of (expansions mode n b.key (function_address mode image) 0 (take i (body_items b)))))
      (let z : suc m + j ≡ m + suc j = omega arith in z)
      (body_placed bytes (suc m) xs rest j i b (and_right (is_body bytes x) _ h) (omega arith) q l)

  pub labels_placed : IsImage image → (n i : ℕ) (b : Body) → slice_get image.bodies n ≡ Some b → i < length (body_items b)
      → place (places_of mode image) (item_label n i) ≡ item_address mode n b i
  labels_placed is n i b q l =
      ap (λ (ps : Places). place ps (item_label n i)) (places_split mode image)
      ∙ subst (λ (k : ℕ). place (all_places (body_listings mode image 0 image.bodies) ++ all_places (kernel_listings mode)) (item_label k i)
      ≡ body_code k + total_size (stmts_of (expansions mode k b.key (function_address mode image) 0 (take i (body_items b)))))
      (let z : 0 + n ≡ n = omega arith in z)
      (body_placed (length image.text) 0 image.bodies (all_places (kernel_listings mode)) n i b is.bodies_given.1 (let few = is.bodies_given.0 in omega arith)
      q l)
      ∙ sym (address mode image n i b)
