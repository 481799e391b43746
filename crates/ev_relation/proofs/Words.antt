-- Words by their names: none lies on a stack or is fixed, those of other processors lie apart; and what stays where a step changes words of some names.
use Rattle.std.proofs.Common.{◌≡◌, ◌≢◌, ◌⊎◌, inl, inr, ⊎_elim, ℕ, zero, suc, ◌+◌, ◌-◌, ◌*◌, ◌^◌, ◌<◌, ◌≤◌, List, [], ◌∷◌, map, Some, refl, sym, ap, ◌∙◌, subst, arith}
use Rattle.std.proofs.lemmas.Bool.Decides.{eqb_tells, leb_tells}
use Rattle.ev_isa.specs.Word.{NatMap, wrap, bit}
use Rattle.ev_state.specs.Processor.{selector}
use Rattle.ev_isa.specs.declared.mode.Mode.{Mode}
use Rattle.ev_isa.specs.declared.mode.Mode.TheVariants.{Idt, Fred}
use Rattle.ev_effect.specs.Frame.{addresses}
use Rattle.ev_effect.specs.Task.{Task}
use Rattle.ev_listing.specs.AddressMap.{pcpu, stack_top, stack_bytes}
use Rattle.ev_activation.specs.Seat.{Seat, top_at}
use Rattle.ev_concrete.specs.LiveWords.{area_bytes}
use Rattle.ev_relation.specs.Relation.{IsUnwritten, IsFixed, InText, InTables, InTasks, InCode, InArea}
use Rattle.ev_relation.specs.Tasks.{IsSaved}
use Rattle.ev_relation.specs.Named.{Named, UserRsp, Top, Current, Mark, Port, Head, TssTop, Slot, RecordWord, CellAt, PageBit, UserWord, address_of, owner, IsName, IsWritten, Outside, NotNamed, AreWritten, NoneOf, Changes}

-- the words of areas that nothing writes lie at the areas' beginnings
unwritten_low : (o : ℕ) → IsUnwritten o → o < 0x40
unwritten_low o u = ⊎_elim (λ e. omega arith) (λ e. omega arith) u

-- ---- no name lies on a stack

module _ (p : ℕ) (σ : Seat) (hp : p < 32) (hs : σ.stack < 7) where
  abbrev pub OffStack : ℕ → Type 0
  OffStack a = Outside (stack_top p σ.stack - stack_bytes) (top_at p σ) a

  pub low_off_stack : (a : ℕ) → a < 0xffffc90000000000 → OffStack a
  low_off_stack a h = inl (omega arith)

  pub named_off_stack : (x : Named) → IsName x → OffStack (address_of x)
  named_off_stack (UserRsp q) h = inl (omega arith)
  named_off_stack (Top q) h = inl (omega arith)
  named_off_stack (Current q) h = inl (omega arith)
  named_off_stack (Mark q) h = inl (omega arith)
  named_off_stack (Port q) h = inl (omega arith)
  named_off_stack (Head q) h = inl (omega arith)
  named_off_stack (TssTop q) h = inl (omega arith)
  named_off_stack (Slot q k) h = let a = h.0 in let b = h.1 in inl (omega arith)
  named_off_stack (RecordWord q k o) h = let a = h.0 in let b = h.1 in let c = h.2 in inl (omega arith)
  named_off_stack (CellAt k) h = inl (omega arith)
  named_off_stack (PageBit i) h = inl (omega arith)
  named_off_stack (UserWord a) h =
      ⊎_elim (λ t. let b = t.1 in inl (omega arith)) (λ t. let b = t.1 in inl (omega arith)) h.1

  pub fixed_off_stack : (a : ℕ) → IsFixed a → OffStack a
  fixed_off_stack a (InText h k) = inl (omega arith)
  fixed_off_stack a (InTables h k) = inl (omega arith)
  fixed_off_stack a (InTasks h k) = inl (omega arith)
  fixed_off_stack a (InCode h) = inr (omega arith)
  fixed_off_stack a (InArea q o hq u e) = let l = unwritten_low o u in inl (omega arith)

-- ---- where names lie: in the areas, in the page map and the cells, or in the data pages

data Ranged (a : ℕ) : Type 0 where
  InAreas : 0xffff888000000000 ≤ a → a + 8 ≤ 0xffff888000200000 → Ranged a
  InMaps : 0xffff888000820000 ≤ a → a + 8 ≤ 0xffff888000830800 → Ranged a
  InPages : 0x10000000 ≤ a → a < 0x10100000 → Ranged a

ranged : (x : Named) → IsWritten x → Ranged (address_of x)
ranged (UserRsp q) h = InAreas (omega arith) (omega arith)
ranged (Top q) h = InAreas (omega arith) (omega arith)
ranged (Current q) h = InAreas (omega arith) (omega arith)
ranged (Mark q) h = InAreas (omega arith) (omega arith)
ranged (Port q) h = InAreas (omega arith) (omega arith)
ranged (Head q) h = InAreas (omega arith) (omega arith)
ranged (TssTop q) h = InAreas (omega arith) (omega arith)
ranged (Slot q k) h = let a = h.0 in let b = h.1 in InAreas (omega arith) (omega arith)
ranged (RecordWord q k o) h = let a = h.0 in let b = h.1 in let c = h.2 in let d = h.3 in InAreas (omega arith) (omega arith)
ranged (CellAt k) h = InMaps (omega arith) (omega arith)
ranged (PageBit i) h = InMaps (omega arith) (omega arith)
ranged (UserWord a) h = let b = h.1 in InPages h.0 (omega arith)

-- ---- words of areas

pub three_orders : (p q : ℕ) → (p < q) ⊎ ((p ≡ q) ⊎ (q < p))
three_orders p q = ⊎_elim (λ x. ⊎_elim (λ y. inr (inl y.1)) (λ y. inl (strict y.1 x.1)) (eqb_tells p q))
    (λ x. inr (inr (let y = x.1 in omega arith))) (leb_tells p q)
  where
    strict : (p ≡ q → ⊥) → p ≤ q → p < q
    strict n l = ⊎_elim (λ x. absurd (n (let z = x.1 in omega arith))) (λ x. let z = x.1 in omega arith) (leb_tells q p)

-- the word at an offset of an area, and an address at another one
pub area_word : (p q o o' : ℕ) → o + 8 ≤ 0x10000 → o' < 0x10000 → (o' < o) ⊎ (o + 8 ≤ o') → Outside (pcpu p + o) (pcpu p + o + 8) (pcpu q + o')
area_word p q o o' h k d = go (three_orders p q)
  where
    here : p ≡ q → (o' < o) ⊎ (o + 8 ≤ o') → Outside (pcpu p + o) (pcpu p + o + 8) (pcpu q + o')
    here e (inl l) = inl (omega arith)
    here e (inr l) = inr (omega arith)

    go : (p < q) ⊎ ((p ≡ q) ⊎ (q < p)) → Outside (pcpu p + o) (pcpu p + o + 8) (pcpu q + o')
    go (inl l) = inr (omega arith)
    go (inr (inl e)) = here e d
    go (inr (inr l)) = inl (omega arith)

low_area : (o : ℕ) → IsUnwritten o → o < 0x10000
low_area o u = let l = unwritten_low o u in omega arith

-- a word of an area that nothing writes is none of a name's
unwritten_outside : (x : Named) → IsWritten x → (q o : ℕ) → q < 32 → IsUnwritten o → Outside (address_of x) (address_of x + 8) (pcpu q + o)
unwritten_outside (UserRsp p) w q o hq u = area_word p q 8 o (omega arith) (low_area o u) (⊎_elim (λ e. inl (omega arith)) (λ e. inr (omega arith)) u)
unwritten_outside (Top p) w q o hq u = area_word p q 0x10 o (omega arith) (low_area o u) (⊎_elim (λ e. inl (omega arith)) (λ e. inr (omega arith)) u)
unwritten_outside (Current p) w q o hq u =
    area_word p q 0x18 o (omega arith) (low_area o u) (⊎_elim (λ e. inl (omega arith)) (λ e. inr (omega arith)) u)
unwritten_outside (Mark p) w q o hq u = area_word p q 0x20 o (omega arith) (low_area o u) (⊎_elim (λ e. inl (omega arith)) (λ e. inr (omega arith)) u)
unwritten_outside (Port p) w q o hq u = area_word p q 0x28 o (omega arith) (low_area o u) (⊎_elim (λ e. inl (omega arith)) (λ e. inr (omega arith)) u)
unwritten_outside (Head p) w q o hq u = area_word p q 0x30 o (omega arith) (low_area o u) (⊎_elim (λ e. inl (omega arith)) (λ e. inr (omega arith)) u)
unwritten_outside (TssTop p) w q o hq u = area_word p q 0x408 o (omega arith) (low_area o u) (let l = unwritten_low o u in inl (omega arith))
unwritten_outside (Slot p k) w q o hq u =
    let b = w.1 in let l = unwritten_low o u in area_word p q (0x200 + 8 * k) o (omega arith) (low_area o u) (inl (omega arith))
unwritten_outside (RecordWord p k n) w q o hq u =
    let b = w.1 in let d = w.2 in let l = unwritten_low o u in
    subst (λ y. Outside y (y + 8) (pcpu q + o)) (let e : pcpu p + (0x800 + 0x40 * k + n) ≡ pcpu p + 0x800 + 0x40 * k + n = omega arith in e)
    (area_word p q (0x800 + 0x40 * k + n) o (omega arith) (low_area o u) (inl (omega arith)))
unwritten_outside (CellAt k) w q o hq u = let l = unwritten_low o u in inl (omega arith)
unwritten_outside (PageBit i) w q o hq u = let l = unwritten_low o u in inl (omega arith)
unwritten_outside (UserWord b) w q o hq u = let c = w.1 in inr (omega arith)

-- what nothing writes has no name that is written
fixed_outside : (x : Named) → IsWritten x → (a : ℕ) → IsFixed a → Outside (address_of x) (address_of x + 8) a
fixed_outside x w a f = below (ranged x w) f
  where
    below : Ranged (address_of x) → IsFixed a → Outside (address_of x) (address_of x + 8) a
    below (InAreas b c) (InText h k) = inl (omega arith)
    below (InAreas b c) (InTables h k) = inr (omega arith)
    below (InAreas b c) (InTasks h k) = inr (omega arith)
    below (InAreas b c) (InCode h) = inr (omega arith)
    below (InMaps b c) (InText h k) = inl (omega arith)
    below (InMaps b c) (InTables h k) = inl (omega arith)
    below (InMaps b c) (InTasks h k) = inr (omega arith)
    below (InMaps b c) (InCode h) = inr (omega arith)
    below (InPages b c) (InText h k) = inl (omega arith)
    below (InPages b c) (InTables h k) = inr (omega arith)
    below (InPages b c) (InTasks h k) = inr (omega arith)
    below (InPages b c) (InCode h) = inr (omega arith)
    below r (InArea q o hq u e) = subst (Outside (address_of x) (address_of x + 8)) (sym e) (unwritten_outside x w q o hq u)

fixed_unnamed : (names : List Named) → AreWritten names → (a : ℕ) → IsFixed a → NotNamed names a
fixed_unnamed [] w a f = tt
fixed_unnamed (x ∷ xs) w a f = (fixed_outside x w.0 a f, fixed_unnamed xs w.1 a f)

-- words of stacks have no name
stack_outside : (x a : ℕ) → Ranged x → 0xffffc90000000000 ≤ a → Outside x (x + 8) a
stack_outside x a (InAreas b c) h = inr (omega arith)
stack_outside x a (InMaps b c) h = inr (omega arith)
stack_outside x a (InPages b c) h = inr (omega arith)

pub stack_unnamed : (names : List Named) → AreWritten names → (a : ℕ) → 0xffffc90000000000 ≤ a → NotNamed names a
stack_unnamed [] w a f = tt
stack_unnamed (x ∷ xs) w a f = (stack_outside (address_of x) a (ranged x w.0) f, stack_unnamed xs w.1 a f)

-- ---- areas of other processors

in_order : (p q : ℕ) → (p ≡ q → ⊥) → (p < q) ⊎ (q < p)
in_order p q d = ⊎_elim (λ x. let y = x.1 in inr (strict (λ e. d (sym e)) y)) (λ x. let y = x.1 in inl (omega arith)) (leb_tells q p)
  where
    strict : (q ≡ p → ⊥) → q ≤ p → q < p
    strict n l = ⊎_elim (λ x. absurd (n x.1)) (λ x. let y = x.1 in differ y l) (eqb_tells q p)
      where
        differ : (q ≡ p → ⊥) → q ≤ p → q < p
        differ n l = ⊎_elim (λ x. absurd (n (let z = x.1 in omega arith))) (λ x. let z = x.1 in omega arith) (leb_tells p q)

area_outside : (p q o a : ℕ) → (p ≡ q → ⊥) → o + 8 ≤ 0x10000 → pcpu q ≤ a → a < pcpu q + 0x10000 → Outside (pcpu p + o) (pcpu p + o + 8) a
area_outside p q o a d ho h k = ⊎_elim (λ (l : p < q). inr (omega arith)) (λ (l : q < p). inl (omega arith)) (in_order p q d)

-- an offset of an area that is no word's of calls
abbrev pub IsOffCalls : ℕ → Type 0
IsOffCalls o = (o < 0x30) ⊎ ((0x40 ≤ o) × (o < 0x800))

-- the head of a queue, or a word of a record, lies elsewhere, whoever it belongs to
off_calls : (p q o lo : ℕ) → o < 0x10000 → IsOffCalls o → (lo ≡ 0x30) ⊎ ((0x800 ≤ lo) × (lo + 8 ≤ 0x10000)) → Outside (pcpu p + lo) (pcpu p + lo + 8)
    (pcpu q + o)
off_calls p q o lo h (inl l) (inl e) = area_word p q lo o (omega arith) h (inl (omega arith))
off_calls p q o lo h (inr l) (inl e) = let k = l.0 in area_word p q lo o (omega arith) h (inr (omega arith))
off_calls p q o lo h (inl l) (inr r) = let k = r.0 in let k' = r.1 in area_word p q lo o (omega arith) h (inl (omega arith))
off_calls p q o lo h (inr l) (inr r) = let k = r.0 in let k' = r.1 in let l' = l.1 in area_word p q lo o (omega arith) h (inl (omega arith))

other_area : (x : Named) → IsWritten x → (q o : ℕ) → q < 32 → owner x ≢ Some q → o < 0x10000 → IsOffCalls o
    → Outside (address_of x) (address_of x + 8) (pcpu q + o)
other_area (UserRsp p) w q o hq d h k = area_outside p q 8 (pcpu q + o) (λ e. d (ap Some e)) (omega arith) (omega arith) (omega arith)
other_area (Top p) w q o hq d h k = area_outside p q 0x10 (pcpu q + o) (λ e. d (ap Some e)) (omega arith) (omega arith) (omega arith)
other_area (Current p) w q o hq d h k = area_outside p q 0x18 (pcpu q + o) (λ e. d (ap Some e)) (omega arith) (omega arith) (omega arith)
other_area (Mark p) w q o hq d h k = area_outside p q 0x20 (pcpu q + o) (λ e. d (ap Some e)) (omega arith) (omega arith) (omega arith)
other_area (Port p) w q o hq d h k = area_outside p q 0x28 (pcpu q + o) (λ e. d (ap Some e)) (omega arith) (omega arith) (omega arith)
other_area (Head p) w q o hq d h k = off_calls p q o 0x30 h k (inl refl)
other_area (TssTop p) w q o hq d h k = area_outside p q 0x408 (pcpu q + o) (λ e. d (ap Some e)) (omega arith) (omega arith) (omega arith)
other_area (Slot p i) w q o hq d h k =
    let b = w.1 in area_outside p q (0x200 + 8 * i) (pcpu q + o) (λ e. d (ap Some e)) (omega arith) (omega arith) (omega arith)
other_area (RecordWord p i n) w q o hq d h k =
    let b = w.1 in let c = w.2 in let z = w.3 in
    subst (λ y. Outside y (y + 8) (pcpu q + o)) (let e : pcpu p + (0x800 + 0x40 * i + n) ≡ pcpu p + 0x800 + 0x40 * i + n = omega arith in e)
    (off_calls p q o (0x800 + 0x40 * i + n) h k (inr (omega arith, omega arith)))
other_area (CellAt i) w q o hq d h k = inl (omega arith)
other_area (PageBit i) w q o hq d h k = inl (omega arith)
other_area (UserWord b) w q o hq d h k = let c = w.1 in inr (omega arith)

pub other_unnamed : (names : List Named) → AreWritten names → (q : ℕ) → q < 32 → NoneOf q names → (o : ℕ) → o < 0x10000 → IsOffCalls o
    → NotNamed names (pcpu q + o)
other_unnamed [] w q hq n o h k = tt
other_unnamed (x ∷ xs) w q hq n o h k = (other_area x w.0 q o hq n.0 h k, other_unnamed xs w.1 q hq n.1 o h k)

-- a saved area lies on its stack
pub on_its_stack : (mode : Mode) (p i a : ℕ) → stack_top p i - area_bytes mode ≤ a → stack_top p i - stack_bytes ≤ a
on_its_stack Fred p i a h = omega arith
on_its_stack Idt p i a h = omega arith

-- ---- what a step leaves

-- A step of an activation in a seat leaves the saved area of a task that has another stack, or above which it doesn't reach.
abbrev pub IsBeside : Mode → Seat → ℕ → Type 0
IsBeside mode σ i = (i ≢ σ.stack) ⊎ (area_bytes mode ≤ σ.used)

module _ (p : ℕ) (σ : Seat) (names : List Named) (m n : NatMap ℕ) (hp : p < 32) (hs : σ.stack < 7) (written : AreWritten names)
    (changes : Changes p σ names m n) where
  pub named_stays : (x : Named) → IsName x → NotNamed names (address_of x) → n (address_of x) ≡ m (address_of x)
  named_stays x h d = changes (address_of x) (named_off_stack p σ hp hs x h) d

  pub fixed_stays : (a : ℕ) → IsFixed a → n a ≡ m a
  fixed_stays a f = changes a (fixed_off_stack p σ hp hs a f) (fixed_unnamed names written a f)

  -- another stack of the processor
  pub stack_stays : (i : ℕ) → (i ≡ σ.stack → ⊥) → (a : ℕ) → stack_top p i - stack_bytes ≤ a → a < stack_top p i → n a ≡ m a
  stack_stays i d a h k = changes a (apart (in_order i σ.stack d)) (stack_unnamed names written a (omega arith))
    where
      apart : (i < σ.stack) ⊎ (σ.stack < i) → OffStack p σ hp hs a
      apart (inl l) = inl (omega arith)
      apart (inr l) = inr (omega arith)

  -- the saved area of a task on another stack, or above what stands on its own
  pub beside_stays : (mode : Mode) (i : ℕ) → i < 7 → IsBeside mode σ i → (a : ℕ) → stack_top p i - area_bytes mode ≤ a → a < stack_top p i → n a ≡ m a
  beside_stays mode i hi beside a h k = by_stack beside
    where
      by_stack : IsBeside mode σ i → n a ≡ m a
      by_stack (inl d) = stack_stays i d a (on_its_stack mode p i a h) k
      by_stack (inr l) = ⊎_elim
          (λ e. changes a (inr (subst (λ j. stack_top p j - σ.used ≤ a) e.1 (omega (arith, h, l))))
          (stack_unnamed names written a (let b = on_its_stack mode p i a h in omega arith)))
          (λ e. stack_stays i e.1 a (on_its_stack mode p i a h) k) (eqb_tells i σ.stack)

  -- what belongs to another processor: its stacks and, but for the words of calls, its area
  pub offset_stays : (q : ℕ) → q < 32 → NoneOf q names → (o : ℕ) → o < 0x10000 → IsOffCalls o → n (pcpu q + o) ≡ m (pcpu q + o)
  offset_stays q hq d o h k = changes (pcpu q + o) (low_off_stack p σ hp hs (pcpu q + o) (omega arith)) (other_unnamed names written q hq d o h k)

  -- so do these of its words, by their addresses
  pub area_stays : (q : ℕ) → q < 32 → NoneOf q names → (a : ℕ) → pcpu q ≤ a → a < pcpu q + 0x800 → IsOffCalls (a - pcpu q) → n a ≡ m a
  area_stays q hq d a h k off =
      let e : pcpu q + (a - pcpu q) ≡ a = omega arith in
      sym (ap n e) ∙ offset_stays q hq d (a - pcpu q) (omega arith) off ∙ ap m e

  pub stacks_stay : (q : ℕ) → (q ≡ p → ⊥) → (a : ℕ) → 0xffffc90000000000 + 0x100000 * q ≤ a → a < 0xffffc90000000000 + 0x100000 * suc q → n a ≡ m a
  stacks_stay q d a h k = changes a (apart (in_order q p d)) (stack_unnamed names written a (omega arith))
    where
      apart : (q < p) ⊎ (p < q) → OffStack p σ hp hs a
      apart (inl l) = inl (omega arith)
      apart (inr l) = inr (omega arith)

-- ---- saved areas

same_map : (m n : NatMap ℕ) (k a hi : ℕ) → a + 8 * k ≤ hi → hi < 2 ^ 64 → ((x : ℕ) → a ≤ x → x < hi → n x ≡ m x)
    → map n (addresses a k) ≡ map m (addresses a k)
same_map m n zero a hi l h f = refl
same_map m n (suc k) a hi l h f =
    let next : wrap (a + 8) ≡ a + 8 = omega arith in
    (λ i. f a (omega arith) (omega arith) i ∷ map n (addresses (wrap (a + 8)) k))
    ∙ ap (λ xs. m a ∷ xs)
    (subst (λ z. map n (addresses z k) ≡ map m (addresses z k)) (sym next) (same_map m n k (a + 8) hi (omega arith) h (λ x b c. f x (omega arith) c)))

pub saved_stays : (mode : Mode) (p i : ℕ) (t : Task) (m n : NatMap ℕ) → p < 32 → i < 7
    → ((a : ℕ) → stack_top p i - area_bytes mode ≤ a → a < stack_top p i → n a ≡ m a)
    → IsSaved mode p i t m → IsSaved mode p i t n
saved_stays Idt p i t m n hp hi f s = record {
  regs = same_map m n 15 (stack_top p i - 0xb0) (stack_top p i) (omega arith) (omega arith) (λ x b c. f x (omega arith) c) ∙ s.regs;
  rip = f (stack_top p i - 0xb0 + 0x88) (omega arith) (omega arith) ∙ s.rip;
  cs = ap selector (f (stack_top p i - 0xb0 + 0x90) (omega arith) (omega arith)) ∙ s.cs;
  flags = f (stack_top p i - 0xb0 + 0x98) (omega arith) (omega arith) ∙ s.flags;
  rsp = f (stack_top p i - 0xb0 + 0xa0) (omega arith) (omega arith) ∙ s.rsp;
  ss = ap selector (f (stack_top p i - 0xb0 + 0xa8) (omega arith) (omega arith)) ∙ s.ss;
  sti = ap (bit 16) (f (stack_top p i - 0xb0 + 0xa8) (omega arith) (omega arith)) ∙ s.sti;
}
saved_stays Fred p i t m n hp hi f s = record {
  regs = same_map m n 15 (stack_top p i - 0xc0) (stack_top p i) (omega arith) (omega arith) (λ x b c. f x (omega arith) c) ∙ s.regs;
  rip = f (stack_top p i - 0xc0 + 0x88) (omega arith) (omega arith) ∙ s.rip;
  cs = ap selector (f (stack_top p i - 0xc0 + 0x90) (omega arith) (omega arith)) ∙ s.cs;
  flags = f (stack_top p i - 0xc0 + 0x98) (omega arith) (omega arith) ∙ s.flags;
  rsp = f (stack_top p i - 0xc0 + 0xa0) (omega arith) (omega arith) ∙ s.rsp;
  ss = ap selector (f (stack_top p i - 0xc0 + 0xa8) (omega arith) (omega arith)) ∙ s.ss;
  sti = ap (bit 16) (f (stack_top p i - 0xc0 + 0xa8) (omega arith) (omega arith)) ∙ s.sti;
}
