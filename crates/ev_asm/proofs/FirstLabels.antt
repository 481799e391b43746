-- Tables of labels that find the same places: what they find in front of others, and the bytes of statements.
use Rattle.std.proofs.Common.{◌≡◌, ℕ, suc, ◌+◌, ◌<◌, ◌≤◌, Bool, true, false, cond, List, [], ◌∷◌, ◌++◌, length, get_or, drop, Option, Some, None, refl, sym, ap, ◌∙◌, arith, append_assoc}
use Rattle.std.specs.Prelude.{is_some, nat_le, ◌&&◌, unwrap_or}
use Rattle.std.proofs.lemmas.Slice.Eq.{bytes_eq-Decides}
use Rattle.std.specs.Option.{option_or}
use Rattle.std.proofs.lemmas.List.{drop_all, append-nil}
use Rattle.ev_isa.specs.Spelling.{spelling}
use Rattle.ev_asm.specs.declared.statement.Stmt.{Stmt}
use Rattle.ev_asm.specs.declared.statement.Stmt.TheVariants.{Label, Plain, Jump}
use Rattle.ev_asm.specs.declared.block.Block.{Block}
use Rattle.ev_asm.specs.declared.linking.Section.{Section}
use Rattle.ev_asm.specs.Assembly.{Name, Places, is_name, size, places, place, distance, jump, stmt_bytes, code}
use Rattle.ev_asm.specs.LabelTable.{found, gives_again, label_given, FindAlike}
use Rattle.ev_asm.specs.Linked.{section_places, block_in, reaches, all_reach}
use Rattle.ev_asm.proofs.Statements.{split_at, same_name}
use Rattle.ev_asm.proofs.Sections.{section_at}

-- ---- what is found in one list behind another

found_append : (xs ys : Places) (q : Name) → found (xs ++ ys) q ≡ option_or (found xs q) (found ys q)
found_append [] ys q = refl
found_append (e ∷ es) ys q = by (is_name e.0 q) (found_append es ys q)
  where
    by : (b : Bool) → found (es ++ ys) q ≡ option_or (found es q) (found ys q)
        → ◌≡◌ {A = Option ℕ} (elim b [ true ↦ Some e.1 | false ↦ found (es ++ ys) q ])
        (option_or (elim b [ true ↦ Some e.1 | false ↦ found es q ]) (found ys q))
    by true h = refl
    by false h = h

pub alike_self : (xs : Places) → FindAlike xs xs
alike_self xs = record { at = λ q. refl }

pub alike_before : (xs xs' ys : Places) → FindAlike xs xs' → FindAlike (xs ++ ys) (xs' ++ ys)
alike_before xs xs' ys h = record { at = λ q. found_append xs ys q ∙ ap (λ (o : Option ℕ). option_or o (found ys q)) (h.at q) ∙ sym (found_append xs' ys q) }

pub alike_then : (xs ys zs : Places) → FindAlike xs ys → FindAlike ys zs → FindAlike xs zs
alike_then xs ys zs g h = record { at = λ q. g.at q ∙ h.at q }

pub alike_is : (xs ys zs : Places) → FindAlike xs ys → ys ≡ zs → FindAlike xs zs
alike_is xs ys zs h e = record { at = λ q. h.at q ∙ ap (λ (l : Places). found l q) e }

-- ---- a label that is given again adds nothing

again_by : (o : Option ℕ) (p : ℕ) (b : Bool) → (b ≡ true → is_some o ≡ true) → o ≡ option_or o (let u : Option ℕ = elim b [ true ↦ Some p | false ↦ None ] in u)
again_by (Some n) p b h = refl
again_by None p true h = let k = h refl in absurd cc
again_by None p false h = refl

pub again_adds_nothing : (ls : Places) (s : Stmt) (p : ℕ) → gives_again ls s ≡ true → FindAlike ls (ls ++ label_given p s)
again_adds_nothing ls (Label n) p h = record {
  at = λ q. again_by (found ls q) p (is_name n q) (λ e. ap (λ (m : Name). is_some (found ls m)) (sym ((bytes_eq-Decides n q).0 (same_name n q ∙ e))) ∙ h)
      ∙ sym (found_append ls ((n, p) ∷ []) q);
}
again_adds_nothing ls (Plain i) p h = absurd cc
again_adds_nothing ls (Jump c n) p h = absurd cc

-- ---- the labels of a section, one statement further

places_cons : (s : Stmt) (ss : List Stmt) (a : ℕ) → places a (s ∷ ss) ≡ label_given a s ++ places (a + size s) ss
unfolding places size
places_cons (Label n) ss a = let e : a ≡ a + 0 = omega arith in ap (λ (k : ℕ). (n, a) ∷ places k ss) e
places_cons (Plain i) ss a = refl
places_cons (Jump c n) ss a = refl

pub section_step : (stmts : List Stmt) (n m a b : ℕ) (s : Stmt) (labels more W : Places) → n < length stmts → m ≡ suc n → s ≡ get_or stmts n s → b ≡ a + size s
    → FindAlike more (labels ++ label_given a s) → FindAlike (labels ++ places a (drop n stmts)) W → FindAlike (more ++ places b (drop m stmts)) W
section_step stmts n m a b s labels more W lt k e l h w =
    let rest : Places = places (a + size s) (drop (suc n) stmts) in
    let split : (labels ++ label_given a s) ++ rest ≡ labels ++ places a (drop n stmts) = append_assoc labels (label_given a s) rest
    ∙ ap (λ (x : Places). labels ++ x) (sym (places_cons s (drop (suc n) stmts) a) ∙ ap (places a) (sym (split_at stmts n s lt e))) in
    rw (k, l) (alike_then _ _ W (alike_is _ _ _ (alike_before more (labels ++ label_given a s) rest h) split) w)

pub section_end : (stmts : List Stmt) (n a : ℕ) (labels W : Places) → length stmts ≤ n → FindAlike (labels ++ places a (drop n stmts)) W → FindAlike labels W
unfolding places
section_end stmts n a labels W le w = alike_then _ _ W (alike_is labels labels _ (alike_self labels)
    (sym (append-nil labels) ∙ ap (λ (x : List Stmt). labels ++ places a x) (sym (drop_all n stmts le)))) w

-- ---- those of all sections, one section further

pub sections_step : (ss : List Section) (n m : ℕ) (s : Section) (labels more W : Places) → n < length ss → m ≡ suc n → s ≡ get_or ss n s
    → FindAlike more (labels ++ places s.address s.stmts) → FindAlike (labels ++ section_places (drop n ss)) W
    → FindAlike (more ++ section_places (drop m ss)) W
sections_step ss n m s labels more W lt k e h w =
    let rest : Places = section_places (drop (suc n) ss) in
    let split : (labels ++ places s.address s.stmts) ++ rest ≡ labels ++ section_places (drop n ss) = append_assoc labels (places s.address s.stmts) rest
    ∙ ap (λ (x : List Section). labels ++ section_places x) (sym (section_at ss n s lt e)) in
    rw k (alike_then _ _ W (alike_is _ _ _ (alike_before more (labels ++ places s.address s.stmts) rest h) split) w)

pub sections_end : (ss : List Section) (n : ℕ) (labels W : Places) → length ss ≤ n → FindAlike (labels ++ section_places (drop n ss)) W → FindAlike labels W
sections_end ss n labels W le w = alike_then _ _ W (alike_is labels labels _ (alike_self labels)
    (sym (append-nil labels) ∙ ap (λ (x : List Section). labels ++ section_places x) (sym (drop_all n ss le)))) w

-- ---- tables that find alike give the same bytes

place_is : (ls : Places) (q : Name) → place ls q ≡ unwrap_or (found ls q) 0
place_is [] q = refl
place_is (e ∷ es) q = by (is_name e.0 q) (place_is es q)
  where
    by : (b : Bool) → place es q ≡ unwrap_or (found es q) 0
        → cond b e.1 (place es q) ≡ unwrap_or (let u : Option ℕ = elim b [ true ↦ Some e.1 | false ↦ found es q ] in u) 0
    by true h = refl
    by false h = h

place_alike : (xs ys : Places) (q : Name) → FindAlike xs ys → place xs q ≡ place ys q
place_alike xs ys q h = place_is xs q ∙ ap (λ (o : Option ℕ). unwrap_or o 0) (h.at q) ∙ sym (place_is ys q)

bytes_alike : (xs ys : Places) (a : ℕ) (s : Stmt) → FindAlike xs ys → stmt_bytes xs a s ≡ stmt_bytes ys a s
unfolding stmt_bytes
bytes_alike xs ys a (Label n) h = refl
bytes_alike xs ys a (Plain i) h = refl
bytes_alike xs ys a (Jump c n) h = ap (λ (p : ℕ). spelling (jump c (distance p (a + size (Jump c n))))) (place_alike xs ys n h)

code_alike : (xs ys : Places) (a : ℕ) (ss : List Stmt) → FindAlike xs ys → code xs a ss ≡ code ys a ss
unfolding code
code_alike xs ys a [] h = refl
code_alike xs ys a (s ∷ ss) h = rw (bytes_alike xs ys a s h, code_alike xs ys (a + size s) ss h) refl

pub block_alike : (xs ys : Places) (s : Section) → FindAlike xs ys → block_in xs s ≡ block_in ys s
block_alike xs ys s h = ap (λ (bytes : List ℕ). let b : Block = record { address = s.address; bytes = bytes } in b) (code_alike xs ys s.address s.stmts h)

reaches_alike : (xs ys : Places) (a : ℕ) (s : Stmt) → FindAlike xs ys → reaches xs a s ≡ reaches ys a s
unfolding reaches
reaches_alike xs ys a (Label n) h = refl
reaches_alike xs ys a (Plain i) h = refl
reaches_alike xs ys a (Jump c n) h =
    ap (λ (p : ℕ). nat_le p (a + size (Jump c n) + 2147483647) && nat_le (a + size (Jump c n)) (p + 2147483647)) (place_alike xs ys n h)

pub reach_alike : (xs ys : Places) (a : ℕ) (ss : List Stmt) → FindAlike xs ys → all_reach xs a ss ≡ all_reach ys a ss
unfolding all_reach
reach_alike xs ys a [] h = refl
reach_alike xs ys a (s ∷ ss) h = rw (reaches_alike xs ys a s h, reach_alike xs ys (a + size s) ss h) refl
