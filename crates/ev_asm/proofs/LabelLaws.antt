-- A table of labels with one more, and the labels of statements.
use Rattle.std.proofs.Common.{◌≡◌, ℕ, ◌+◌, ◌-◌, ◌<◌, ◌≤◌, ◌^◌, Bool, true, false, not, cond, min, List, [], ◌∷◌, ◌++◌, Option, Some, None, refl, sym, ap, ◌∙◌, arith}
use Rattle.std.specs.Prelude.{◌||◌, is_some, option_map, Err}
use Rattle.std.specs.List.{list_any}
use Rattle.std.specs.Str.{bytes_eq}
use Rattle.std.proofs.lemmas.List.{map-append}
use Rattle.std.proofs.lemmas.Slice.Eq.{bytes_eq-Decides}
use Rattle.std.proofs.Math.Bool.{not-not}
use Rattle.std.proofs.Math.Nat.{min-eq_left}
use Rattle.ev_asm.specs.declared.statement.Stmt.{Stmt}
use Rattle.ev_asm.specs.declared.statement.Stmt.TheVariants.{Label, Plain, Jump}
use Rattle.ev_asm.specs.declared.fault.AsmFault.{AsmFault}
use Rattle.ev_asm.specs.declared.fault.AsmFault.TheVariants.{DoubleLabel}
use Rattle.ev_asm.specs.Assembly.{Places, Name, is_name, size, total_size, places, place}
use Rattle.ev_asm.specs.Assembled.{stmt_labels, is_new_name, is_second_label, first_at, assembled}
use Rattle.ev_asm.specs.LabelTable.{found, names_of, gives_again, label_given, second_fault}
use Rattle.ev_asm.proofs.Statements.{same_name}

-- ---- one more label

pub found_more : (xs : Places) (n : Name) (a : ℕ) (q : Name) → found xs n ≡ None → found (xs ++ (n, a) ∷ []) q ≡ cond (bytes_eq n q) (Some a) (found xs q)
found_more [] n a q h = rw (same_name n q) (by (is_name n q))
  where
    by : (b : Bool) → ◌≡◌ {A = Option ℕ} (elim b [ true ↦ Some a | false ↦ None ]) (cond b (Some a) None)
    by true = refl
    by false = refl
found_more (e ∷ es) n a q h = by (is_name e.0 q) refl (is_name e.0 n) refl h (λ g. found_more es n a q g)
  where
    by : (p : Bool) → is_name e.0 q ≡ p → (r : Bool) → is_name e.0 n ≡ r → ◌≡◌ {A = Option ℕ} (elim r [ true ↦ Some e.1 | false ↦ found es n ]) None
        → (found es n ≡ None → found (es ++ (n, a) ∷ []) q ≡ cond (bytes_eq n q) (Some a) (found es q))
        → ◌≡◌ {A = Option ℕ} (elim p [ true ↦ Some e.1 | false ↦ found (es ++ (n, a) ∷ []) q ])
        (cond (bytes_eq n q) (Some a) (elim p [ true ↦ Some e.1 | false ↦ found es q ]))
    by p i true j h go = absurd cc
    by false i false j h go = go h
    by true i false j h go = apart (bytes_eq n q) refl
      where
        apart : (b : Bool) → bytes_eq n q ≡ b → ◌≡◌ {A = Option ℕ} (Some e.1) (cond b (Some a) (Some e.1))
        apart false f = refl
        apart true f = absurd (let k = (bytes_eq-Decides n q).0 f in let l : is_name e.0 q ≡ false = rw (sym k) j in cc)

-- ---- what is found

-- a label is found exactly where one has the name
found_names : (ls : Places) (name : Name) → is_some (found ls name) ≡ list_any (λ n. is_name n name) (names_of ls)
found_names [] name = refl
found_names (e ∷ es) name = by (is_name e.0 name) (found_names es name)
  where
    by : (b : Bool) → is_some (found es name) ≡ list_any (λ n. is_name n name) (names_of es)
        → is_some (let o : Option ℕ = elim b [ true ↦ Some e.1 | false ↦ found es name ] in o) ≡ (b || list_any (λ n. is_name n name) (names_of es))
    by true h = refl
    by false h = h

pub not_found : (ls : Places) (name : Name) → is_new_name (names_of ls) name ≡ not (is_some (found ls name))
not_found ls name = ap not (sym (found_names ls name))

-- the place of a label that is found, and of one that isn't
pub place_found : (ls : Places) (name : Name) (n : ℕ) → found ls name ≡ Some n → n ≡ place ls name
place_found [] name n h = absurd cc
place_found (e ∷ es) name n h = by (is_name e.0 name) h (place_found es name n)
  where
    by : (b : Bool) → (let o : Option ℕ = elim b [ true ↦ Some e.1 | false ↦ found es name ] in o) ≡ Some n → (found es name ≡ Some n → n ≡ place es name)
        → n ≡ cond b e.1 (place es name)
    by true g go = let k : e.1 ≡ n = cc in sym k
    by false g go = go g

pub place_lost : (ls : Places) (name : Name) → found ls name ≡ None → 0 ≡ place ls name
place_lost [] name h = refl
place_lost (e ∷ es) name h = by (is_name e.0 name) h (place_lost es name)
  where
    by : (b : Bool) → (let o : Option ℕ = elim b [ true ↦ Some e.1 | false ↦ found es name ] in o) ≡ None → (found es name ≡ None → 0 ≡ place es name)
        → 0 ≡ cond b e.1 (place es name)
    by true g go = absurd cc
    by false g go = go g

-- ---- the labels of statements

pub again : (ls : Places) (done : List Stmt) (s : Stmt) → names_of ls ≡ stmt_labels done → gives_again ls s ≡ is_second_label done s
unfolding is_second_label
again ls done (Label n) h = found_names ls n ∙ ap (λ (names : List Name). list_any (λ m. is_name m n) names) h ∙ sym (not-not _)
again ls done (Plain i) h = refl
again ls done (Jump cond n) h = refl

pub total_more : (ss : List Stmt) (s : Stmt) → total_size (ss ++ s ∷ []) ≡ total_size ss + size s
total_more [] s = omega arith
total_more (x ∷ xs) s = omega (arith, total_more xs s)

pub places_more : (ss : List Stmt) (a : ℕ) (s : Stmt) → places a (ss ++ s ∷ []) ≡ places a ss ++ label_given (a + total_size ss) s
unfolding places size
places_more [] a (Label n) = let e : a ≡ a + 0 = omega arith in ap (λ (k : ℕ). (n, k) ∷ []) e
places_more [] a (Plain i) = refl
places_more [] a (Jump cond n) = refl
places_more (Label n ∷ xs) a s =
    let e : a + total_size xs ≡ a + (0 + total_size xs) = omega arith in
    ap (λ (l : Places). (n, a) ∷ l) (places_more xs a s ∙ ap (λ (k : ℕ). places a xs ++ label_given k s) e)
places_more (Plain i ∷ xs) a s =
    let e : a + size (Plain i) + total_size xs ≡ a + (size (Plain i) + total_size xs) = omega arith in
    places_more xs (a + size (Plain i)) s ∙ ap (λ (k : ℕ). places (a + size (Plain i)) xs ++ label_given k s) e
places_more (Jump cond n ∷ xs) a s =
    let e : a + size (Jump cond n) + total_size xs ≡ a + (size (Jump cond n) + total_size xs) = omega arith in
    places_more xs (a + size (Jump cond n)) s ∙ ap (λ (k : ℕ). places (a + size (Jump cond n)) xs ++ label_given k s) e

labels_more : (ss : List Stmt) (s : Stmt) (a : ℕ) → stmt_labels (ss ++ s ∷ []) ≡ stmt_labels ss ++ names_of (label_given a s)
labels_more [] (Label n) a = refl
labels_more [] (Plain i) a = refl
labels_more [] (Jump cond n) a = refl
labels_more (Label n ∷ xs) s a = ap (λ (l : List Name). n ∷ l) (labels_more xs s a)
labels_more (Plain i ∷ xs) s a = labels_more xs s a
labels_more (Jump cond n ∷ xs) s a = labels_more xs s a

-- the labels of the statements so far, and the address behind them
pub record InStep (base : ℕ) (done : List Stmt) (labels : Places) (at : ℕ) : Type 0 where
  pub names : names_of labels ≡ stmt_labels done
  pub placed : base + total_size done < 2 ^ 64 → (labels ≡ places base done) × (at ≡ base + total_size done)

pub none_yet : (base : ℕ) → InStep base [] [] base
unfolding places
none_yet base = record { names = refl; placed = λ h. (refl, omega arith) }

pub one_further : (base : ℕ) (done : List Stmt) (labels more : Places) (at next : ℕ) (s : Stmt) → InStep base done labels at → more ≡ labels ++ label_given at
    s
    → next ≡ min (at + size s) (2 ^ 64 - 1) → InStep base (done ++ s ∷ []) more next
one_further base done labels more at next s t e n = record {
  names = rw e (map-append (λ (x : Name × ℕ). x.0) labels (label_given at s) ∙ ap (λ (l : List Name). l ++ names_of (label_given at s)) t.names
      ∙ sym (labels_more done s at));
  placed = λ h.
      let sum = total_more done s in
      let fits : base + total_size done < 2 ^ 64 = omega (arith, sum, h) in
      let p = t.placed fits in
      let small : at + size s ≤ 2 ^ 64 - 1 = omega (arith, sum, h, p.1) in
      let behind : next ≡ at + size s = n ∙ min-eq_left small in
      (rw (e, p.0, p.1) (sym (places_more done base s)), omega (arith, behind, sum, p.1));
}

-- a label that is given again is the first fault of an assembled text
second_by : (stmts : List Stmt) (base limit : ℕ) (f : AsmFault) (o : Option ℕ) → first_at is_second_label 0 [] stmts ≡ o → option_map DoubleLabel o ≡ Some f
    → assembled stmts base limit ≡ Err f
unfolding assembled
second_by stmts base limit f (Some n) e h = let k : DoubleLabel n ≡ f = cc in rw (assembled, e) (ap (λ (x : AsmFault). Err x) k)
second_by stmts base limit f None e h = absurd cc

pub second_assembled : (stmts : List Stmt) (base limit : ℕ) (f : AsmFault) → second_fault stmts ≡ Some f → assembled stmts base limit ≡ Err f
second_assembled stmts base limit f h = second_by stmts base limit f (first_at is_second_label 0 [] stmts) refl h
