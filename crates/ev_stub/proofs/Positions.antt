-- The numbers of lines' instructions, one line further.
use Rattle.std.proofs.Common.{◌≡◌, ℕ, suc, ◌+◌, ◌<◌, ◌≤◌, ◌≢◌, ◌^◌, Bool, true, false, ◌&&◌, List, [], ◌∷◌, ◌++◌, length, get_or, drop, map, Option, Some, None, refl, sym, ap, ◌∙◌, arith}
use Rattle.std.specs.Prelude.{nat_eq, nat_lt, nat_le}
use Rattle.std.specs.Option.{option_or}
use Rattle.std.proofs.lemmas.Bool.{and_parts, eq-eqb, ne_eqb, ltb-true}
use Rattle.std.proofs.lemmas.List.{drop_all}
use Rattle.ev_asm.specs.Assembly.{size, total_size}
use Rattle.ev_asm.specs.Assembled.{are_instructions}
use Rattle.ev_listing.specs.Marks.{Marked, stmts_of}
use Rattle.ev_stub.specs.declared.line.Line.{Line}
use Rattle.ev_stub.specs.Lines.{marked_of, stmt_of}
use Rattle.ev_stub.specs.Position.{is_counted, index_from, is_countable}
use Rattle.ev_stub.proofs.Listed.{item_at, stmts_same}

-- what a block keeps whose instructions have numbers
pub record IsCountable (a : ℕ) (ls : List Line) : Type 0 where
  pub counts : are_instructions (map stmt_of ls) ≡ true
  pub room : a + total_size (map stmt_of ls) < 2 ^ 64

pub countable : (a : ℕ) (ls : List Line) → is_countable a (map marked_of ls) ≡ true → IsCountable a ls
countable a ls h =
    let ss = stmts_of (map marked_of ls) in
    let p = and_parts (are_instructions ss) (nat_lt (a + total_size ss) (2 ^ 64) && nat_le (length (map marked_of ls)) 65535) h in
    let q = and_parts (nat_lt (a + total_size ss) (2 ^ 64)) (nat_le (length (map marked_of ls)) 65535) p.1 in
    record {
      counts = ap are_instructions (stmts_same ls) ∙ p.0;
      room = omega (arith, ltb-true (a + total_size ss) (2 ^ 64) q.0, ap total_size (stmts_same ls));
    }

label_first : (n a rip : ℕ) (l : Marked) (ls : List Marked) → is_counted l.stmt ≡ false
    → index_from n a rip (l ∷ ls) ≡ index_from n (a + size l.stmt) rip ls
unfolding index_from
label_first n a rip l ls h = rw (h, index_from) refl

past_first : (n a rip : ℕ) (l : Marked) (ls : List Marked) → is_counted l.stmt ≡ true → a ≢ rip
    → index_from n a rip (l ∷ ls) ≡ index_from (suc n) (a + size l.stmt) rip ls
unfolding index_from
past_first n a rip l ls h ne = let e = ne_eqb a rip ne in rw (h, e, index_from) refl

found_first : (n a rip : ℕ) (l : Marked) (ls : List Marked) → is_counted l.stmt ≡ true → a ≡ rip → index_from n a rip (l ∷ ls) ≡ Some n
unfolding index_from
found_first n a rip l ls h same = let e = eq-eqb a rip same in rw (h, e, index_from) refl

-- ---- one line further, whatever the lines stand for

module _ {L : Type 0} (marked : L → Marked) where
  here : (n a rip : ℕ) (ls : List L) (k : ℕ) (l : L) → k < length ls → l ≡ get_or ls k l
      → index_from n a rip (map marked (drop k ls)) ≡ index_from n a rip (marked l ∷ map marked (drop (suc k) ls))
  here n a rip ls k l lt e = ap (λ (x : List L). index_from n a rip (map marked x)) (item_at ls k l lt e)

  pub label_step : (n m a b rip : ℕ) (ls : List L) (k j : ℕ) (l : L) (W : Option ℕ) → k < length ls → j ≡ suc k → l ≡ get_or ls k l
      → is_counted (marked l).stmt ≡ false → m ≡ n → b ≡ a + size (marked l).stmt
      → index_from n a rip (map marked (drop k ls)) ≡ W → index_from m b rip (map marked (drop j ls)) ≡ W
  label_step n m a b rip ls k j l W lt next e h same behind w =
      rw (next, same, behind) (sym (label_first n a rip (marked l) (map marked (drop (suc k) ls)) h) ∙ sym (here n a rip ls k l lt e) ∙ w)

  pub past_step : (n m a b rip : ℕ) (ls : List L) (k j : ℕ) (l : L) (W : Option ℕ) → k < length ls → j ≡ suc k → l ≡ get_or ls k l
      → is_counted (marked l).stmt ≡ true → a ≢ rip → m ≡ suc n → b ≡ a + size (marked l).stmt
      → index_from n a rip (map marked (drop k ls)) ≡ W → index_from m b rip (map marked (drop j ls)) ≡ W
  past_step n m a b rip ls k j l W lt next e h ne more behind w =
      rw (next, more, behind) (sym (past_first n a rip (marked l) (map marked (drop (suc k) ls)) h ne) ∙ sym (here n a rip ls k l lt e) ∙ w)

  pub found_step : (n a rip : ℕ) (ls : List L) (k : ℕ) (l : L) (W : Option ℕ) → k < length ls → l ≡ get_or ls k l
      → is_counted (marked l).stmt ≡ true → a ≡ rip → index_from n a rip (map marked (drop k ls)) ≡ W → Some n ≡ W
  found_step n a rip ls k l W lt e h same w =
      sym (found_first n a rip (marked l) (map marked (drop (suc k) ls)) h same) ∙ sym (here n a rip ls k l lt e) ∙ w

  pub none_left : (n a rip : ℕ) (ls : List L) (k : ℕ) (W : Option ℕ) → length ls ≤ k → index_from n a rip (map marked (drop k ls)) ≡ W → None ≡ W
  unfolding index_from
  none_left n a rip ls k W le w = ap (λ (x : List L). index_from n a rip (map marked x)) (sym (drop_all k ls le)) ∙ w

-- ---- lines behind others

-- how many instructions stand before what follows the lines
abbrev pub count_behind : ℕ → List Marked → ℕ
count_behind n [] = n
count_behind n (l ∷ ls) = count_behind (elim (is_counted l.stmt) [ false ↦ n | true ↦ suc n ]) ls

-- the address behind the lines
abbrev pub address_behind : ℕ → List Marked → ℕ
address_behind a [] = a
address_behind a (l ∷ ls) = address_behind (a + size l.stmt) ls

pub index_append : (n a rip : ℕ) (xs ys : List Marked)
    → index_from n a rip (xs ++ ys) ≡ option_or (index_from n a rip xs) (index_from (count_behind n xs) (address_behind a xs) rip ys)
unfolding index_from
index_append n a rip [] ys = refl
index_append n a rip (l ∷ xs) ys =
    let b = a + size l.stmt in
    let rest : ℕ → List Marked → Option ℕ = λ m ls. index_from m b rip ls in
    let first : Bool → Bool → List Marked → Option ℕ = λ t u ls. elim t [
      | false ↦ rest n ls
      | true ↦ elim u [ true ↦ Some n | false ↦ rest (suc n) ls ]
    ] in
    let behind : ℕ → Option ℕ = λ m. index_from (count_behind m xs) (address_behind b xs) rip ys in
    elim (is_counted l.stmt) as
    (λ t. first t (nat_eq a rip) (xs ++ ys) ≡ option_or (first t (nat_eq a rip) xs) (behind (elim t [ false ↦ n | true ↦ suc n ]))) [
      | false ↦ index_append n b rip xs ys
      | true ↦ elim (nat_eq a rip) as (λ u. first true u (xs ++ ys) ≡ option_or (first true u xs) (behind (suc n))) [
        | true ↦ refl
        | false ↦ index_append (suc n) b rip xs ys
      ]
    ]

-- ---- addresses outside

pub none_before : (n a rip : ℕ) (ls : List Marked) → rip < a → index_from n a rip ls ≡ None
unfolding index_from
none_before n a rip [] lt = refl
none_before n a rip (l ∷ ls) lt =
    let other = ne_eqb a rip (omega arith) in
    let later : rip < a + size l.stmt = omega arith in
    elim (is_counted l.stmt) as
    (λ t. elim t [
      | false ↦ index_from n (a + size l.stmt) rip ls
      | true ↦ elim (nat_eq a rip) [ true ↦ Some n | false ↦ index_from (suc n) (a + size l.stmt) rip ls ]
    ] ≡ None) [
      | false ↦ none_before n (a + size l.stmt) rip ls later
      | true ↦ rw other (none_before (suc n) (a + size l.stmt) rip ls later)
    ]

pub none_behind : (n a rip : ℕ) (ls : List Marked) → a + total_size (stmts_of ls) < rip → index_from n a rip ls ≡ None
unfolding index_from
none_behind n a rip [] lt = refl
none_behind n a rip (l ∷ ls) lt =
    let other = ne_eqb a rip (omega arith) in
    let later : a + size l.stmt + total_size (stmts_of ls) < rip = omega arith in
    elim (is_counted l.stmt) as
    (λ t. elim t [
      | false ↦ index_from n (a + size l.stmt) rip ls
      | true ↦ elim (nat_eq a rip) [ true ↦ Some n | false ↦ index_from (suc n) (a + size l.stmt) rip ls ]
    ] ≡ None) [
      | false ↦ none_behind n (a + size l.stmt) rip ls later
      | true ↦ rw other (none_behind (suc n) (a + size l.stmt) rip ls later)
    ]
