-- Memory whose spans are filled is the memory of the opening.
use Rattle.std.proofs.Common.{◌≡◌, ℕ, zero, suc, ◌+◌, ◌-◌, ◌*◌, ◌/◌, ◌%◌, ◌^◌, ◌<◌, ◌≤◌, ◌⊎◌, inl, inr, ⊎_elim, Bool, true, false, not, ◌&&◌, List, [], ◌∷◌, ◌++◌, map, length, get_or, refl, sym, ap, ◌∙◌, arith, eqb-true, subst, append_assoc}
use Rattle.std.specs.Prelude.{nat_lt, nat_le, if◌then◌else◌, ◌||◌, flat_map}
use Rattle.std.specs.Int.{w64, from_le_bytes}
use Rattle.std.specs.List.{list_all, list_any}
use Rattle.std.proofs.lemmas.Bool.{leb-true, leb-false, ltb-true, ltb-false, le-leb, lt-ltb, lt-leb}
use Rattle.std.proofs.lemmas.Bool.Decides.{nat_tests}
use Rattle.ev_isa.specs.Word.{is_aligned, numbers_from}
use Rattle.ev_isa.specs.Pages.{Place, Lower, Upper, place_of, text_word, word_at_start, words_at_start, text_base, page_base}
use Rattle.ev_isa.specs.declared.mode.Mode.{Mode}
use Rattle.ev_isa.specs.declared.mode.Mode.TheVariants.{Idt, Fred}
use Rattle.ev_body.specs.declared.image.Image.{Image}
use Rattle.ev_body.specs.declared.image.TaskSpec.{TaskSpec}
use Rattle.ev_body.specs.WellFormed.{IsImage, is_task}
use Rattle.ev_asm.specs.declared.block.Block.{Block}
use Rattle.ev_abstract.specs.Machine.{no_task}
use Rattle.ev_mem.specs.declared.region.Region.{Region}
use Rattle.ev_mem.specs.declared.region.RegionKind.{RegionKind}
use Rattle.ev_mem.specs.declared.region.RegionKind.TheVariants.{Text, Page, Kernel}
use Rattle.ev_mem.specs.Conditions.{is_text, first_by, first_in, first_words}
use Rattle.ev_mem.specs.Mapped.{is_within}
use Rattle.ev_mem.specs.Memory.{page_map}
use Rattle.ev_listing.specs.AddressMap.{pcpu, user_table, kernel_table, idt_base, cells_base, task_words, stack_top, fred_page}
use Rattle.ev_concrete.specs.Opening.{byte_of, code_word, within, below_top, saved_words, tasks_of, stack_word, word_there, opening_word, region, regions}
use Rattle.ev_fetch.proofs.Regions.{Each}
use Rattle.ev_layout.specs.declared.fill.Span.{Span}
use Rattle.ev_layout.specs.Filled.{is_in, is_covered, all_filled, stack_spans, table_spans, block_span, all_spans}
use Rattle.ev_layout.specs.Placed.{placed}
use Rattle.ev_layout.specs.There.{table_there}
use Rattle.ev_layout.proofs.Listed.{user_regions}
use Rattle.ev_layout.proofs.Among.{each_some, each_by, split, front, fixed, kernel_regions, regions_by, kernel_some}
use Rattle.ev_layout.proofs.There.{not_lower, there_code, there_stack, there_table, in_stacks, in_areas, in_tasks, IsBelow}

-- ---- regions at first

abbrev pages : List Region
pages = map (λ i. region (page_base + 0x1000 * i) 0x1000 (Page i)) (numbers_from 0 256)

abbrev HoldsNone : Region → Type 0
HoldsNone r = is_text r.kind ≡ false

abbrev IsUpper : Region → Type 0
IsUpper r = 2 ^ 63 ≤ r.base

none_by : (b : Bool) → not b ≡ true → b ≡ false
none_by true h = absurd cc
none_by false h = refl

zero_by : (x : Bool) (k : RegionKind) (text : List ℕ) (o v : ℕ) → is_text k ≡ false → v ≡ 0 → (if x then first_by k text o else v) ≡ 0
zero_by x Text text o v h e = absurd cc
zero_by true Kernel text o v h e = refl
zero_by true (Page i) text o v h e = refl
zero_by false Kernel text o v h e = e
zero_by false (Page i) text o v h e = e

-- regions without text hold 0
zero_in : (rs tail : List Region) (text : List ℕ) (a : ℕ) → Each HoldsNone rs → first_in tail text a ≡ 0 → first_in (rs ++ tail) text a ≡ 0
zero_in [] tail text a h e = e
zero_in (r ∷ rs) tail text a h e = zero_by (is_within r a) r.kind text (a - r.base) (first_in (rs ++ tail) text a) h.0 (zero_in rs tail text a h.1 e)

-- regions of the upper half hold nothing of the lower
skip_upper : (rs tail : List Region) (text : List ℕ) (a : ℕ) → Each IsUpper rs → a < 2 ^ 63 → first_in (rs ++ tail) text a ≡ first_in tail text a
skip_upper [] tail text a h l = refl
skip_upper (r ∷ rs) tail text a h l =
    let b = h.0 in
    let e : nat_le r.base a ≡ false = lt-leb r.base a (omega arith) in
    rw e (skip_upper rs tail text a h.1 l)

most_upper : list_all (λ (r : Region). nat_le (2 ^ 63) r.base) (kernel_regions 8 64) ≡ true
most_upper = refl

most_no_text : list_all (λ (r : Region). not (is_text r.kind)) (kernel_regions 8 64) ≡ true
most_no_text = refl

pages_no_text : list_all (λ (r : Region). not (is_text r.kind)) pages ≡ true
pages_no_text = refl

kernel_upper : (p n : ℕ) → p ≤ 8 → n ≤ 64 → Each IsUpper (kernel_regions p n)
kernel_upper p n h k = each_some IsUpper (λ r s q u. let e = q.base in omega arith) (kernel_regions p n) (kernel_regions 8 64) (kernel_some p n h k)
    (each_by IsUpper (λ (r : Region). nat_le (2 ^ 63) r.base) (λ r t. leb-true _ _ t) (kernel_regions 8 64) most_upper)

kernel_no_text : (p n : ℕ) → p ≤ 8 → n ≤ 64 → Each HoldsNone (kernel_regions p n)
kernel_no_text p n h k = each_some HoldsNone (λ r s q u. ap is_text q.kind ∙ u) (kernel_regions p n) (kernel_regions 8 64) (kernel_some p n h k)
    (each_by HoldsNone (λ (r : Region). not (is_text r.kind)) (λ r t. none_by (is_text r.kind) t) (kernel_regions 8 64) most_no_text)

pages_zero : (text : List ℕ) (a : ℕ) → first_in pages text a ≡ 0
pages_zero text a = subst (λ (x : List Region). first_in x text a ≡ 0) append_pages
    (zero_in pages [] text a (each_by HoldsNone (λ (r : Region). not (is_text r.kind)) (λ r t. none_by (is_text r.kind) t) pages pages_no_text) refl)
  where
    append_pages : pages ++ [] ≡ pages
    append_pages = refl

not_text : (text : List ℕ) (a : ℕ) (x y : Bool) (i : ℕ) → word_at_start text a (if x then Place.Page i else (if y then Lower else Upper)) ≡ 0
unfolding word_at_start
not_text text a true y i = refl
not_text text a false true i = refl
not_text text a false false i = refl

lower_by : (x : Bool) (text : List ℕ) (a : ℕ) → (nat_le text_base a && nat_lt a (text_base + 0x10000)) ≡ x
    → (if x then first_by Text text (a - text_base) else first_in pages text a)
    ≡ word_at_start text a (if x then Place.Text else
    (if nat_le page_base a && nat_lt a (page_base + 0x1000 * 256) then Place.Page ((a - page_base) / 0x1000) else
    (if nat_lt a (2 ^ 63) then Lower else Upper)))
unfolding word_at_start text_word
lower_by true text a e = refl
lower_by false text a e = pages_zero text a
    ∙ sym (not_text text a (nat_le page_base a && nat_lt a (page_base + 0x1000 * 256)) ((nat_lt a (2 ^ 63))) ((a - page_base) / 0x1000))

grouped_front : (p n : ℕ) (text : List ℕ) (a : ℕ) → first_in (regions_by p n) text a ≡ first_in (kernel_regions p n ++ user_regions) text a
grouped_front p n text a = ap (λ (rs : List Region). first_in rs text a) (sym (append_assoc (front p) (fixed p n) user_regions))

lower : (p n : ℕ) (text : List ℕ) (a : ℕ) → p ≤ 8 → n ≤ 64 → a < 2 ^ 63 → first_in (regions_by p n) text a ≡ words_at_start text a
unfolding place_of
lower p n text a hp hn h =
    grouped_front p n text a ∙ skip_upper (kernel_regions p n) user_regions text a (kernel_upper p n hp hn) h
    ∙ lower_by (nat_le text_base a && nat_lt a (text_base + 0x10000)) text a refl

upper_text : (text : List ℕ) (a : ℕ) → 2 ^ 63 ≤ a → first_in user_regions text a ≡ 0
upper_text text a h = let e : (nat_le text_base a && nat_lt a (text_base + 0x10000)) ≡ false = grind (arith, nat_tests) in rw e (pages_zero text a)

upper : (p n : ℕ) (text : List ℕ) (a : ℕ) → p ≤ 8 → n ≤ 64 → 2 ^ 63 ≤ a → first_in (regions_by p n) text a ≡ 0
upper p n text a hp hn h = grouped_front p n text a ∙ zero_in (kernel_regions p n) user_regions text a (kernel_no_text p n hp hn) (upper_text text a h)

-- ---- tests of spans

none_of : (x y : Bool) → (x || y) ≡ false → (x ≡ false) × (y ≡ false)
none_of true y h = absurd cc
none_of false y h = (refl, h)

none_append : (t : Span → Bool) (xs ys : List Span) → list_any t (xs ++ ys) ≡ false → (list_any t xs ≡ false) × (list_any t ys ≡ false)
none_append t [] ys h = (refl, h)
none_append t (x ∷ xs) ys h =
    let s = none_of (t x) (list_any t (xs ++ ys)) h in
    let r = none_append t xs ys s.1 in
    let e = s.0 in
    (rw e r.0, r.1)

none_grouped : (t : Span → Bool) (f : ℕ → List Span) (k n p : ℕ) → k ≤ p → p < k + n → list_any t (flat_map f (numbers_from k n)) ≡ false
    → list_any t (f p) ≡ false
none_grouped t f k zero p l g h = absurd (omega arith)
none_grouped t f k (suc n) p l g h =
    let s = none_append t (f k) (flat_map f (numbers_from (suc k) n)) h in
    ⊎_elim (λ e. subst (λ x. list_any t (f x) ≡ false) e s.0) (λ q. none_grouped t f (suc k) n p q (omega arith) s.1) (here k p l)
  where
    here : (k p : ℕ) → k ≤ p → (k ≡ p) ⊎ (suc k ≤ p)
    here k p h = pick (nat_le (suc k) p) refl
      where
        pick : (b : Bool) → nat_le (suc k) p ≡ b → (k ≡ p) ⊎ (suc k ≤ p)
        pick true q = inr (leb-true (suc k) p q)
        pick false q = let lt = leb-false (suc k) p q in inl (omega arith)

-- ---- code

reaches : (b : Block) (a x : ℕ) → a % 8 ≡ 0 → a ≤ x → x < a + 8 → b.address ≤ x → x < b.address + length b.bytes → is_in a (block_span b) ≡ true
reaches b a x p l g m n =
    let s : Span = block_span b in
    let i : nat_le s.base a ≡ true = le-leb s.base a (omega arith) in
    let j : nat_lt a (s.base + 8 * s.count) ≡ true = lt-ltb a (s.base + 8 * s.count) (omega arith) in
    rw (i, j) refl

byte_by : (y : Bool) (b : Block) (bs : List Block) (a x : ℕ) → a % 8 ≡ 0 → a ≤ x → x < a + 8 → is_in a (block_span b) ≡ false → byte_of (placed bs) x ≡ 0
    → (nat_le b.address x && nat_lt x (b.address + length b.bytes)) ≡ y
    → (if y then get_or b.bytes (x - b.address) 0 else byte_of (placed bs) x) ≡ 0
byte_by true b bs a x p l g h e t =
    let s = split (nat_le b.address x) _ t in
    let clash : true ≡ false = sym (reaches b a x p l g (leb-true _ _ s.0) (ltb-true _ _ s.1)) ∙ h in
    absurd cc
byte_by false b bs a x p l g h e t = e

byte_zero : (bs : List Block) (a x : ℕ) → a % 8 ≡ 0 → a ≤ x → x < a + 8 → is_covered (map block_span bs) a ≡ false → byte_of (placed bs) x ≡ 0
byte_zero [] a x p l g h = refl
byte_zero (b ∷ bs) a x p l g h = let s = none_of (is_in a (block_span b)) (is_covered (map block_span bs) a) h in
    byte_by (nat_le b.address x && nat_lt x (b.address + length b.bytes)) b bs a x p l g s.0 (byte_zero bs a x p l g s.1) refl

code_zero : (bs : List Block) (a : ℕ) → a % 8 ≡ 0 → is_covered (map block_span bs) a ≡ false → code_word (placed bs) a ≡ 0
unfolding code_word
code_zero bs a p h =
    let z = λ (x : ℕ) (l : a ≤ x) (g : x < a + 8). byte_zero bs a x p l g h in
    λ i. from_le_bytes w64 (
    z a (omega arith) (omega arith) i
    ∷ z (suc a) (omega arith) (omega arith) i
    ∷ z (suc (suc a)) (omega arith) (omega arith) i
    ∷ z (suc (suc (suc a))) (omega arith) (omega arith) i
    ∷ z (suc (suc (suc (suc a)))) (omega arith) (omega arith) i
    ∷ z (suc (suc (suc (suc (suc a))))) (omega arith) (omega arith) i
    ∷ z (suc (suc (suc (suc (suc (suc a)))))) (omega arith) (omega arith) i
    ∷ z (suc (suc (suc (suc (suc (suc (suc a))))))) (omega arith) (omega arith) i
    ∷ []
    )

-- ---- stacks

saved_few : (mode : Mode) (t : TaskSpec) → length (saved_words mode t) ≤ 24
saved_few Idt t = omega arith
saved_few Fred t = omega arith

tasks_few : (bytes : ℕ) (tss : List (List TaskSpec)) (p : ℕ)
    → list_all (λ ts. nat_lt 0 (length ts) && nat_le (length ts) 4 && list_all (is_task bytes) ts) tss ≡ true → length (get_or tss p []) ≤ 4
tasks_few bytes [] p h = omega arith
tasks_few bytes (ts ∷ tss) zero h =
    let s = (split (nat_lt 0 (length ts) && nat_le (length ts) 4 && list_all (is_task bytes) ts) _ h).0 in
    let t = (split (nat_lt 0 (length ts) && nat_le (length ts) 4) _ s).0 in
    leb-true (length ts) 4 (split (nat_lt 0 (length ts)) _ t).1
tasks_few bytes (ts ∷ tss) (suc p) h = tasks_few bytes tss p
    ((split (nat_lt 0 (length ts) && nat_le (length ts) 4 && list_all (is_task bytes) ts) _ h).1)

far_below : (ws : List ℕ) (o : ℕ) → length ws ≤ 24 → 0x2000 < o → below_top ws o ≡ 0
far_below ws o l h = let e : nat_le o (8 * length ws) ≡ false = lt-leb o (8 * length ws) (omega arith) in rw e refl

-- a stack's part, below the stack
below_stack : (p n a : ℕ) → n < 4 → 0 < n → stack_top p n ≤ a + 0x4000 → a < stack_top p n → list_any (is_in a) (stack_spans p) ≡ false
    → a < stack_top p n - 0x2000
below_stack p n a few some l g h =
    let s = none_of (is_in a (let x : Span = record { base = stack_top p 1 - 0x2000; count = 0x400 } in x)) _ h in
    let t = none_of (is_in a (let x : Span = record { base = stack_top p 2 - 0x2000; count = 0x400 } in x)) _ s.1 in
    let u = none_of (is_in a (let x : Span = record { base = stack_top p 3 - 0x2000; count = 0x400 } in x)) _ t.1 in
    by (nat_le (stack_top p n - 0x2000) a) refl (one n few some s.0 t.0 u.0)
  where
    one : (n : ℕ) → n < 4 → 0 < n → within (stack_top p 1 - 0x2000) (8 * 0x400) a ≡ false → within (stack_top p 2 - 0x2000) (8 * 0x400) a ≡ false
        → within (stack_top p 3 - 0x2000) (8 * 0x400) a ≡ false → within (stack_top p n - 0x2000) (8 * 0x400) a ≡ false
    one zero f k x y z = absurd (omega arith)
    one (suc zero) f k x y z = x
    one (suc (suc zero)) f k x y z = y
    one (suc (suc (suc zero))) f k x y z = z
    one (suc (suc (suc (suc n)))) f k x y z = absurd (omega arith)

    by : (b : Bool) → nat_le (stack_top p n - 0x2000) a ≡ b → within (stack_top p n - 0x2000) (8 * 0x400) a ≡ false → a < stack_top p n - 0x2000
    by false q r = leb-false (stack_top p n - 0x2000) a q
    by true q r =
        let e : nat_lt a (stack_top p n - 0x2000 + 8 * 0x400) ≡ true = lt-ltb a (stack_top p n - 0x2000 + 8 * 0x400) (omega arith) in
        let clash : true ≡ false = sym (λ i. q i && e i) ∙ r in
        absurd cc

stack_zero : (mode : Mode) (image : Image) (p n o : ℕ) → length (tasks_of image p) ≤ 4 → (0 < n → n < 4 → 0x2000 < o) → stack_word mode image p n o ≡ 0
stack_zero mode image p n o few f = pick (nat_lt 0 n) (nat_lt n (length (tasks_of image p))) refl refl
  where
    pick : (x y : Bool) → nat_lt 0 n ≡ x → nat_lt n (length (tasks_of image p)) ≡ y
        → (if x && y then below_top (saved_words mode (get_or (tasks_of image p) n no_task)) o else 0) ≡ 0
    pick true true q r =
        let l = ltb-true 0 n q in
        let g = ltb-true n (length (tasks_of image p)) r in
        far_below (saved_words mode (get_or (tasks_of image p) n no_task)) o (saved_few mode (get_or (tasks_of image p) n no_task)) (f l (omega arith))
    pick true false q r = refl
    pick false y q r = refl

-- ---- together

module _ (bs : List Block) (mode : Mode) (image : Image) (is : IsImage image) (a : ℕ) (even : a % 8 ≡ 0)
    (outside : is_covered (all_spans image.processors bs) a ≡ false) where
  abbrev P : ℕ
  P = image.processors

  by_parts : (list_any (is_in a) (flat_map stack_spans (numbers_from 0 P) ++ table_spans P) ≡ false) × (list_any (is_in a) (map block_span bs) ≡ false)
  by_parts = none_append (is_in a) (flat_map stack_spans (numbers_from 0 P) ++ table_spans P) (map block_span bs) outside

  front_parts : (list_any (is_in a) (flat_map stack_spans (numbers_from 0 P)) ≡ false) × (list_any (is_in a) (table_spans P) ≡ false)
  front_parts = none_append (is_in a) (flat_map stack_spans (numbers_from 0 P)) (table_spans P) by_parts.0

  stack_there : IsBelow a → in_stacks image a ≡ true → word_there (placed bs) mode image a ≡ 0
  stack_there b s =
      let k = split (nat_le (stack_top 0 0 - 0x4000) a) _ s in
      let l = leb-true (stack_top 0 0 - 0x4000) a k.0 in
      let g = ltb-true a (stack_top 0 0 - 0x4000 + 0x100000 * P) k.1 in
      let p : ℕ = (a - (stack_top 0 0 - 0x4000)) / 0x100000 in
      let n : ℕ = (a - (stack_top 0 0 - 0x4000)) % 0x100000 / 0x4000 in
      let few = is.count.1 in
      let lt : p < P = omega arith in
      let none = none_grouped (is_in a) stack_spans 0 P p (omega arith) (omega arith) front_parts.0 in
      there_stack (placed bs) mode image a b s
      ∙ stack_zero mode image p n (0x4000 - a % 0x4000) (tasks_few (length image.text) image.tasks p is.tasks_given.1)
      (λ some small. let low : a < stack_top p n - 0x2000 = below_stack p n a small some (omega arith) (omega arith) none in omega arith)

  table_zero : table_there image a ≡ 0
  unfolding table_there
  table_zero =
      let t = front_parts.1 in
      let s1 = none_of (within (pcpu 0) (8 * (0x2000 * P)) a) _ t in
      let s2 = none_of (within (task_words 0 0) (8 * (0x20 * P)) a) _ s1.1 in
      let s3 = none_of (within user_table (8 * 257) a) _ s2.1 in
      let s4 = none_of (within kernel_table (8 * 257) a) _ s3.1 in
      let s5 = none_of (within idt_base (8 * 512) a) _ s4.1 in
      let s6 = none_of (within page_map (8 * 256) a) _ s5.1 in
      let s7 = none_of (within cells_base (8 * 256) a) _ s6.1 in
      let e3 = s3.0 in
      let e4 = s4.0 in
      let e5 = s5.0 in
      let e6 = s6.0 in
      let e7 = s7.0 in
      rw (e3, e4, e5, e6, e7) refl

  no_area : in_areas image a ≡ false
  no_area = ap (λ (x : ℕ). within (pcpu 0) x a) (let e : 0x10000 * P ≡ 8 * (0x2000 * P) = omega arith in e)
      ∙ (none_of (within (pcpu 0) (8 * (0x2000 * P)) a) _ front_parts.1).0

  no_task_words : in_tasks image a ≡ false
  no_task_words = ap (λ (x : ℕ). within (task_words 0 0) x a) (let e : 0x100 * P ≡ 8 * (0x20 * P) = omega arith in e)
      ∙ (none_of (within (task_words 0 0) (8 * (0x20 * P)) a) _ ((none_of (within (pcpu 0) (8 * (0x2000 * P)) a) _ front_parts.1).1)).0

  before_stacks : (x : Bool) → IsBelow a → in_stacks image a ≡ x → word_there (placed bs) mode image a ≡ 0
  before_stacks true b s = stack_there b s
  before_stacks false b s = there_table (placed bs) mode image a b s no_area no_task_words ∙ table_zero

  before_code : (x : Bool) → 2 ^ 63 ≤ a → nat_le fred_page a ≡ x → word_there (placed bs) mode image a ≡ 0
  before_code true u e = there_code (placed bs) mode image a u (leb-true _ _ e) ∙ code_zero bs a even by_parts.1
  before_code false u e = before_stacks (in_stacks image a) (record { upper = not_lower a u; code = e }) refl

  there_lower : nat_lt a (2 ^ 63) ≡ true → word_there (placed bs) mode image a ≡ words_at_start image.text a
  unfolding word_there
  there_lower h = rw h refl

  by_half : (x : Bool) → nat_lt a (2 ^ 63) ≡ x → first_in (regions image) image.text a ≡ word_there (placed bs) mode image a
  by_half true e = lower P (length image.bodies) image.text a is.count.1 is.bodies_given.0 (ltb-true _ _ e) ∙ sym (there_lower e)
  by_half false e =
      let u = ltb-false _ _ e in
      upper P (length image.bodies) image.text a is.count.1 is.bodies_given.0 u ∙ sym (before_code (nat_le fred_page a) u refl)

  pub unfilled : first_in (regions image) image.text a ≡ word_there (placed bs) mode image a
  unfilled = by_half (nat_lt a (2 ^ 63)) refl

final_by : (x y : Bool) (bs : List Block) (mode : Mode) (image : Image) (a : ℕ) → IsImage image → is_aligned a ≡ x
    → is_covered (all_spans image.processors bs) a ≡ y
    → all_filled (word_there (placed bs) mode image) (all_spans image.processors bs) (first_words (regions image) image.text) a
    ≡ opening_word (placed bs) mode image a
unfolding first_words opening_word
final_by false y bs mode image a is e f = rw e refl
final_by true true bs mode image a is e f = rw (e, f) refl
final_by true false bs mode image a is e f = rw (e, f) (unfilled bs mode image is a (eqb-true (a % 8) 0 e) f)

pub final : (bs : List Block) (mode : Mode) (image : Image) (a : ℕ) → IsImage image
    → all_filled (word_there (placed bs) mode image) (all_spans image.processors bs) (first_words (regions image) image.text) a
    ≡ opening_word (placed bs) mode image a
final bs mode image a is = final_by (is_aligned a) (is_covered (all_spans image.processors bs) a) bs mode image a is refl refl

-- words that differ nowhere before they are filled don't differ behind it
pub filled_same : (f v w : ℕ → ℕ) (ss : List Span) (a : ℕ) → v a ≡ w a → all_filled f ss v a ≡ all_filled f ss w a
filled_same f v w ss a h = ap (λ (x : ℕ). if is_aligned a && is_covered ss a then f a else x) h
