-- Words that are filled one after another, and regions that hold them.
use Rattle.std.proofs.Common.{◌≡◌, ◌≢◌, ℕ, zero, suc, ◌+◌, ◌-◌, ◌*◌, ◌/◌, ◌%◌, ◌^◌, ◌<◌, ◌≤◌, ◌⊎◌, ⊎_elim, inl, inr, Bool, true, false, ◌&&◌, ◌==◌, List, [], ◌∷◌, ◌++◌, map, length, get_or, Option, Some, None, refl, sym, ap, ◌∙◌, arith, eqb-true, is_some, subst}
use Rattle.std.specs.Prelude.{nat_lt, nat_le, if◌then◌else◌, ◌||◌, flat_map}
use Rattle.std.specs.Option.{option_map}
use Rattle.std.proofs.lemmas.Bool.{le-leb, lt-ltb, leb-true, ltb-true, ltb-false}
use Rattle.std.proofs.lemmas.Bool.Decides.{nat_tests}
use Rattle.ev_isa.specs.Word.{NatMap, is_aligned, put_at, numbers_from}
use Rattle.ev_isa.specs.Pages.{Place, Lower, Upper, KernelWord}
use Rattle.ev_body.specs.declared.image.Image.{Image}
use Rattle.ev_body.specs.WellFormed.{IsImage}
use Rattle.ev_asm.specs.declared.block.Block.{Block}
use Rattle.ev_mem.specs.declared.region.Region.{Region}
use Rattle.ev_mem.specs.Access.{with_word}
use Rattle.ev_mem.specs.Mapped.{MappedWords, memory, is_within, slot_in}
use Rattle.ev_mem.specs.Memory.{page_map, place_by, place_in}
use Rattle.ev_listing.specs.AddressMap.{pcpu, user_table, kernel_table, idt_base, cells_base, task_words, stack_top, fred_page, code_end, body_code}
use Rattle.ev_concrete.specs.Opening.{within, regions}
use Rattle.ev_distances.proofs.Regions.{stack_covered, area_covered, task_covered, user_table_covered, kernel_table_covered, idt_covered, page_map_covered, cells_covered}
use Rattle.ev_fetch.proofs.Regions.{Each, each_append, grouped, entry_place, body_place}
use Rattle.ev_layout.specs.declared.fill.Span.{Span}
use Rattle.ev_layout.specs.Filled.{filled, span, stack_spans, table_spans, block_span, all_spans, is_placed, are_placed}
use Rattle.ev_layout.specs.Fits.{IsFit, AreFit}
use Rattle.ev_layout.proofs.Among.{split}

-- ---- one word more

pub regions_kept : (m n : MappedWords) (a v : ℕ) → memory m ≡ with_word (memory n) a v → m.regions ≡ n.regions
unfolding memory
regions_kept m n a v h = ap (λ x. x.regions) h

pub words_put : (m n : MappedWords) (a v : ℕ) → memory m ≡ with_word (memory n) a v → (b : ℕ) → (memory m).words b ≡ put_at (memory n).words a v b
words_put m n a v h b = ap (λ x. x.words b) h

-- a range that is one word longer holds no other aligned address
same_test : (base k a : ℕ) → base % 8 ≡ 0 → a % 8 ≡ 0 → a ≢ base + 8 * k → (x y z : Bool) → nat_le base a ≡ x → nat_lt a (base + 8 * k) ≡ y
    → nat_lt a (base + 8 * (k + 1)) ≡ z → (x && y) ≡ (x && z)
same_test base k a p q ne false y z ex ey ez = refl
same_test base k a p q ne true true true ex ey ez = refl
same_test base k a p q ne true false false ex ey ez = refl
same_test base k a p q ne true true false ex ey ez = absurd (omega (arith, ltb-true _ _ ey, ltb-false _ _ ez))
same_test base k a p q ne true false true ex ey ez = let l = leb-true _ _ ex in let g = ltb-false _ _ ey in let t = ltb-true _ _ ez in
    absurd (ne (omega (arith, l, g, t)))

other_by : (x : Bool) (f words : NatMap ℕ) (base k a : ℕ) → base % 8 ≡ 0 → a ≢ base + 8 * k → is_aligned a ≡ x
    → (if x && within base (8 * k) a then f a else words a) ≡ (if x && within base (8 * (k + 1)) a then f a else words a)
other_by false f words base k a p ne e = refl
other_by true f words base k a p ne e =
    ap (λ (t : Bool). if t then f a else words a) (same_test base k a p (eqb-true (a % 8) 0 e) ne _ _ _ refl refl refl)

here : (f words : NatMap ℕ) (base k : ℕ) → base % 8 ≡ 0 → filled f base (k + 1) words (base + 8 * k) ≡ f (base + 8 * k)
here f words base k p =
    let a : is_aligned (base + 8 * k) ≡ true = grind (arith, nat_tests) in
    let l : nat_le base (base + 8 * k) ≡ true = le-leb base (base + 8 * k) (omega arith) in
    let g : nat_lt (base + 8 * k) (base + 8 * (k + 1)) ≡ true = lt-ltb (base + 8 * k) (base + 8 * (k + 1)) (omega arith) in
    rw (a, l, g) refl

more_by : (x : Bool) (f words w : NatMap ℕ) (base k v a : ℕ) → base % 8 ≡ 0 → v ≡ f (base + 8 * k) → w a ≡ filled f base k words a → (a == (base + 8 * k)) ≡ x
    → (let r : ℕ = elim x [ true ↦ v | false ↦ w a ] in r) ≡ filled f base (k + 1) words a
more_by true f words w base k v a p e h t = let q : a ≡ base + 8 * k = eqb-true a (base + 8 * k) t in rw q (e ∙ sym (here f words base k p))
more_by false f words w base k v a p e h t = h ∙ other_by (is_aligned a) f words base k a p (λ q. grind (arith, nat_tests)) refl

pub filled_more : (f words w : NatMap ℕ) (base k v : ℕ) → base % 8 ≡ 0 → v ≡ f (base + 8 * k) → (a : ℕ) → w a ≡ filled f base k words a
    → put_at w (base + 8 * k) v a ≡ filled f base (k + 1) words a
filled_more f words w base k v p e a h = more_by (a == (base + 8 * k)) f words w base k v a p e h refl

-- ---- addresses in regions

-- a word of the kernel lies in a region
pub kernel_mapped : (rs : List Region) (a : ℕ) → place_in rs a ≡ KernelWord → is_some (slot_in rs a) ≡ true
kernel_mapped [] a h = pick (nat_lt a (2 ^ 63)) h
  where
    pick : (b : Bool) → (let p : Place = if b then Lower else Upper in p) ≡ KernelWord → false ≡ true
    pick true q = absurd cc
    pick false q = absurd cc
kernel_mapped (r ∷ rs) a h = pick (is_within r a) h (kernel_mapped rs a)
  where
    further : (o : Option ℕ) → is_some o ≡ true → is_some (option_map (λ (i : ℕ). r.words + i) o) ≡ true
    further None q = q
    further (Some i) q = refl

    pick : (b : Bool) → (if b then place_by r.kind else place_in rs a) ≡ KernelWord → (place_in rs a ≡ KernelWord → is_some (slot_in rs a) ≡ true)
        → is_some (if b then Some ((a - r.base) / 8) else option_map (λ (i : ℕ). r.words + i) (slot_in rs a)) ≡ true
    pick true q k = refl
    pick false q k = further (slot_in rs a) (k q)

fit_by : (image : Image) (base count : ℕ) → base % 8 ≡ 0 → 2 ^ 63 ≤ base → base + 8 * count < 2 ^ 64
    → ((k : ℕ) → k < count → place_in (regions image) (base + 8 * k) ≡ KernelWord) → IsFit (regions image) (span base count)
fit_by image base count al up room f = record {
  aligned = al;
  upper = up;
  room = room;
  mapped = λ k h. kernel_mapped (regions image) (base + 8 * k) (f k h);
}

-- ---- the spans of an image

module _ (image : Image) (is : IsImage image) where
  abbrev Fit : Span → Type 0
  Fit s = IsFit (regions image) s

  stack_fits : (p n : ℕ) → p < image.processors → n < 4 → Fit (span (stack_top p n - 0x2000) 0x400)
  stack_fits p n hp hn =
      let few = is.count.1 in
      fit_by image (stack_top p n - 0x2000) 0x400 (omega arith) (omega arith) (omega arith)
      (λ k h. stack_covered image p n 0x2000 0x2000 hp (omega arith) (omega arith) (omega arith) (stack_top p n - 0x2000 + 8 * k)
      (record { from = omega arith; to = omega arith }))

  stacks_fit : Each Fit (flat_map stack_spans (numbers_from 0 image.processors))
  stacks_fit = grouped Fit stack_spans 0 image.processors
      (λ p h. (stack_fits p 1 (omega arith) (omega arith), (stack_fits p 2 (omega arith) (omega arith), (stack_fits p 3 (omega arith) (omega arith), tt))))

  area_fits : Fit (span (pcpu 0) (0x2000 * image.processors))
  area_fits =
      let few = is.count.1 in
      fit_by image (pcpu 0) (0x2000 * image.processors) (omega arith) (omega arith) (omega arith)
      (λ k h. area_covered image (k / 0x2000) 0 0x10000 (omega arith) (omega arith) (pcpu 0 + 8 * k) (record { from = omega arith; to = omega arith }))

  task_fits : Fit (span (task_words 0 0) (0x20 * image.processors))
  task_fits =
      let few = is.count.1 in
      fit_by image (task_words 0 0) (0x20 * image.processors) (omega arith) (omega arith) (omega arith)
      (λ k h. task_covered image (k / 32) (k % 32 / 8) 0 0x40 (omega arith) (omega arith) (omega arith) (task_words 0 0 + 8 * k)
      (record { from = omega arith; to = omega arith }))

  tables_fit : Each Fit (table_spans image.processors)
  tables_fit = (
    area_fits,
    (
      task_fits,
      (
        fit_by image user_table 257 (omega arith) (omega arith) (omega arith)
            (λ k h. user_table_covered image 0 0x808 (omega arith) (user_table + 8 * k) (record { from = omega arith; to = omega arith })),
        (
          fit_by image kernel_table 257 (omega arith) (omega arith) (omega arith)
              (λ k h. kernel_table_covered image 0x1000 0x808 (omega arith) (omega arith) (kernel_table + 8 * k)
              (record { from = omega arith; to = omega arith })),
          (
            fit_by image idt_base 512 (omega arith) (omega arith) (omega arith)
                (λ k h. idt_covered image 0x10000 0x1000 (omega arith) (omega arith) (idt_base + 8 * k) (record { from = omega arith; to = omega arith })),
            (
              fit_by image page_map 256 (omega arith) (omega arith) (omega arith)
                  (λ k h. page_map_covered image 0x20000 0x808 (omega arith) (omega arith) (page_map + 8 * k)
                  (record { from = omega arith; to = omega arith })),
              (
                fit_by image cells_base 256 (omega arith) (omega arith) (omega arith)
                    (λ k h. cells_covered image 0x30000 0x800 (omega arith) (omega arith) (cells_base + 8 * k)
                    (record { from = omega arith; to = omega arith })),
                tt,
              ),
            ),
          ),
        ),
      ),
    ),
  )

  either : (x y : Bool) → (x || y) ≡ true → (x ≡ true) ⊎ (y ≡ true)
  either true y h = inl refl
  either false y h = inr h

  lies_in : (low high : ℕ) (b : Block) → (nat_le low b.address && nat_le (b.address + length b.bytes) high) ≡ true
      → (low ≤ b.address) × (b.address + length b.bytes ≤ high)
  lies_in low high b h = let k = split (nat_le low b.address) _ h in (leb-true _ _ k.0, leb-true _ _ k.1)

  block_fits : (b : Block) → is_placed (length image.bodies) b ≡ true → Fit (block_span b)
  unfolding is_placed
  block_fits b h =
      let few = is.bodies_given.0 in
      let base : ℕ = b.address - b.address % 8 in
      let count : ℕ = (b.address % 8 + length b.bytes + 7) / 8 in
      ⊎_elim
      (λ k. let l = lies_in fred_page code_end b k in let l0 = l.0 in let l1 = l.1 in
      fit_by image base count (omega arith) (omega arith) (omega arith) (λ k h. entry_place image (base + 8 * k) is (omega arith) (omega arith)))
      (λ k. let l = lies_in (body_code 0) (body_code (length image.bodies)) b k in let l0 = l.0 in let l1 = l.1 in
      fit_by image base count (omega arith) (omega arith) (omega arith) (λ k h. body_place image (base + 8 * k) is (omega arith) (omega arith)))
      (either (nat_le fred_page b.address && nat_le (b.address + length b.bytes) code_end) _ h)

  blocks_fit : (bs : List Block) → are_placed (length image.bodies) bs ≡ true → Each Fit (map block_span bs)
  blocks_fit [] h = tt
  blocks_fit (b ∷ bs) h = let s = split (is_placed (length image.bodies) b) _ h in (block_fits b s.0, blocks_fit bs s.1)

  listed : (ss : List Span) → Each Fit ss → AreFit (regions image) ss
  listed [] h = tt
  listed (s ∷ ss) h = (h.0, listed ss h.1)

  pub spans_fit : (bs : List Block) → are_placed (length image.bodies) bs ≡ true → AreFit (regions image) (all_spans image.processors bs)
  spans_fit bs h =
      listed (all_spans image.processors bs)
      (each_append Fit (flat_map stack_spans (numbers_from 0 image.processors) ++ table_spans image.processors) (map block_span bs)
      (each_append Fit (flat_map stack_spans (numbers_from 0 image.processors)) (table_spans image.processors) stacks_fit tables_fit) (blocks_fit bs h))

-- one of spans, in a memory with the same regions
pub fit_at : (rs qs : List Region) (ss : List Span) (n : ℕ) (s : Span) → AreFit rs ss → qs ≡ rs → n < length ss → s ≡ get_or ss n s → IsFit qs s
fit_at rs qs [] n s f e lt at = absurd (omega arith)
fit_at rs qs (x ∷ xs) zero s f e lt at = subst (λ (y : List Region). IsFit y s) (sym e) (subst (λ (y : Span). IsFit rs y) (sym at) f.0)
fit_at rs qs (x ∷ xs) (suc n) s f e lt at = fit_at rs qs xs n s f.1 e (omega arith) at

-- blocks among so many bodies are among 64
block_more : (n : ℕ) (b : Block) → n ≤ 64 → is_placed n b ≡ true → is_placed 64 b ≡ true
unfolding is_placed
block_more n b l h = pick (nat_le fred_page b.address && nat_le (b.address + length b.bytes) code_end) h
  where
    pick : (x : Bool) → (x || (nat_le (body_code 0) b.address && nat_le (b.address + length b.bytes) (body_code n))) ≡ true
        → (x || (nat_le (body_code 0) b.address && nat_le (b.address + length b.bytes) (body_code 64))) ≡ true
    pick true k = refl
    pick false k =
        let t = split (nat_le (body_code 0) b.address) _ k in
        let u = leb-true (b.address + length b.bytes) (body_code n) t.1 in
        let v = t.0 in
        let w : nat_le (b.address + length b.bytes) (body_code 64) ≡ true = le-leb (b.address + length b.bytes) (body_code 64) (omega arith) in
        rw (v, w) refl

pub placed_more : (n : ℕ) (bs : List Block) → n ≤ 64 → are_placed n bs ≡ true → are_placed 64 bs ≡ true
placed_more n [] l h = refl
placed_more n (b ∷ bs) l h = let s = split (is_placed n b) _ h in let e = block_more n b l s.0 in rw e (placed_more n bs l s.1)

-- a block's bytes are few
pub short_block : (b : Block) → is_placed 64 b ≡ true → length b.bytes ≤ 2 ^ 32
unfolding is_placed
short_block b h = pick (nat_le fred_page b.address && nat_le (b.address + length b.bytes) code_end) refl h
  where
    pick : (x : Bool) → (nat_le fred_page b.address && nat_le (b.address + length b.bytes) code_end) ≡ x
        → (x || (nat_le (body_code 0) b.address && nat_le (b.address + length b.bytes) (body_code 64))) ≡ true → length b.bytes ≤ 2 ^ 32
    pick true e k = let t = split (nat_le fred_page b.address) _ e in let u = leb-true _ _ t.0 in let v = leb-true _ _ t.1 in omega arith
    pick false e k = let t = split (nat_le (body_code 0) b.address) _ k in let u = leb-true _ _ t.0 in let v = leb-true _ _ t.1 in omega arith

pub short_at : (bs : List Block) (n : ℕ) (b : Block) → are_placed 64 bs ≡ true → n < length bs → b ≡ get_or bs n b → length b.bytes ≤ 2 ^ 32
short_at [] n b h lt e = absurd (omega arith)
short_at (x ∷ xs) zero b h lt e = short_block b (ap (is_placed 64) e ∙ (split (is_placed 64 x) _ h).0)
short_at (x ∷ xs) (suc n) b h lt e = short_at xs n b ((split (is_placed 64 x) _ h).1) (omega arith) e
