-- The word with a name that a visible item writes, if any: what its step changes, what stays known, and what it makes of the abstract machine.
use Rattle.std.proofs.Common.{◌≡◌, ◌≢◌, inl, inr, ⊎_elim, ℕ, ◌+◌, ◌*◌, ◌^◌, ◌<◌, ◌≤◌, Bool, true, false, not, ◌&&◌, List, [], ◌∷◌, Some, refl, sym, ap, ◌∙◌, subst, arith}
use Rattle.std.proofs.lemmas.Bool.Decides.{eqb_tells}
use Rattle.std.specs.Prelude.{◌==◌, if◌then◌else◌}
use Rattle.ev_isa.specs.Word.{NatMap, NatSet, put_at}
use Rattle.ev_mem.specs.Memory.{page_map}
use Rattle.ev_isa.specs.Flags.{Flags}
use Rattle.ev_isa.specs.declared.mode.Mode.{Mode}
use Rattle.ev_isa.specs.declared.mode.Mode.TheVariants.{Idt, Fred}
use Rattle.ev_effect.specs.Task.{Task}
use Rattle.ev_body.specs.declared.image.Image.{Image}
use Rattle.ev_body.specs.WellFormed.{IsImage}
use Rattle.ev_listing.specs.AddressMap.{pcpu, slot_offset, cells_base}
use Rattle.ev_abstract.specs.Context.{BodyContext}
use Rattle.ev_abstract.specs.ItemMeaning.{replace_last, with_context, with_slot, with_cell}
use Rattle.ev_abstract.specs.Machine.{Machine, processor, with_processor}
use Rattle.ev_abstract.specs.Machine as abstract
use Rattle.ev_concrete.specs.ConcreteRun.{System}
use Rattle.ev_built.specs.Built.{IsBuilt}
use Rattle.ev_symbolic.specs.State.{Loc, in_win}
use Rattle.ev_symbolic.specs.Agrees.{addr, Known}
use Rattle.ev_symbolic.proofs.Blocks.{kept}
use Rattle.ev_symbolic.proofs.Words.{put_same, put_other}
use Rattle.ev_distances.specs.Form.{OnStack}
use Rattle.ev_blocks.specs.Shapes.{body_bytes}
use Rattle.ev_blocks.specs.Items.{AtItem}
use Rattle.ev_relation.specs.Named.{Named, UserRsp, Top, Current, Mark, Port, Head, TssTop, Slot, RecordWord, CellAt, PageBit, UserWord, address_of, owner, IsName, IsWritten, is_task_word, is_call_word, is_private, is_slot, is_cell, is_page_bit, is_user_word, have_none, Outside, UnknownTo, Changes}
use Rattle.ev_user.specs.Sees.{IsPageWord, IsUserWord}
use Rattle.ev_user.proofs.Words.{put_words}
use Rattle.ev_relation.specs.Tasks.{TssIs, CurrentIs}
use Rattle.ev_relation.specs.Active.{here}
use Rattle.ev_relation.specs.Relation.{StandsOn, Stands}
use Rattle.ev_relation.proofs.Facts.{Facts}
use Rattle.ev_relation.proofs.Maps.{at_same, at_other}
use Rattle.ev_relation.proofs.Fits.{IsSeat, where_at, InSome, IsThere, known_in}
use Rattle.ev_body_steps.proofs.Bodies.{layout_of, body, at_the_item, on_stack_alone}
use Rattle.ev_relation.proofs.After.{AreCallFree, own_word}
use Rattle.ev_body_steps.proofs.ItemState.{opening_of, known_of}
use Rattle.ev_body_steps.proofs.KernelStep as step

-- ---- a word at an address that numbers tell apart

-- what stands at each of these addresses, behind a write at one of them
put_through : (f : ℕ → ℕ) (words n : NatMap ℕ) (k v i : ℕ) → (f i ≡ f k → i ≡ k) → words (f i) ≡ n i → put_at words (f k) v (f i) ≡ put_at n k v i
put_through f words n k v i one h = ⊎_elim
    (λ e. ap (λ j. put_at words (f k) v (f j)) e.1 ∙ put_same words (f k) v ∙ sym (put_same n k v) ∙ ap (put_at n k v) (sym e.1))
    (λ e. put_other words (f k) v (f i) (λ q. e.1 (one q)) ∙ h ∙ sym (put_other n k v i e.1)) (eqb_tells i k)

-- a flag as a word
abbrev pub word_of : Bool → ℕ
word_of t = if t then 1 else 0

bit_of : (f : NatSet) (k : ℕ) (t : Bool) (i : ℕ) → put_at (λ j. word_of (f j)) k (word_of t) i ≡ word_of (put_at f k t i)
bit_of f k t i = by_same (i == k)
  where
    by_same : (b : Bool) → elim b [ true ↦ word_of t | false ↦ word_of (f i) ] ≡ word_of (elim b [ true ↦ t | false ↦ f i ])
    by_same true = refl
    by_same false = refl

-- an address outside a word isn't the word's
apart_from : (a y : ℕ) → Outside a (a + 8) y → y ≡ a → ⊥
apart_from a y (inl o) q = omega arith
apart_from a y (inr o) q = omega arith

-- all names are below the stacks
below_stacks : (z : Named) → IsName z → address_of z < 0xffffc90000000000
below_stacks (UserRsp p) h = omega arith
below_stacks (Top p) h = omega arith
below_stacks (Current p) h = omega arith
below_stacks (Mark p) h = omega arith
below_stacks (Port p) h = omega arith
below_stacks (Head p) h = omega arith
below_stacks (TssTop p) h = omega arith
below_stacks (Slot p k) h = let a = h.0 in let b = h.1 in omega arith
below_stacks (RecordWord p k o) h = let a = h.0 in let b = h.1 in let c = h.2 in omega arith
below_stacks (CellAt k) h = omega arith
below_stacks (PageBit i) h = omega arith
below_stacks (UserWord a) h = ⊎_elim (λ t. let b = t.1 in omega arith) (λ t. let b = t.1 in omega arith) h.1

-- what is asked of the name of a word that a step of p writes
pub record IsFree (p : ℕ) (z : Named) : Type 0 where
  pub name : IsName z
  pub written : IsWritten z
  pub own : (q : ℕ) → (q ≡ p → ⊥) → owner z ≢ Some q
  pub calls : is_call_word z ≡ false
  pub private : is_private z ≡ false

-- the words that name the running task are no mark
tss_beside : (mode : Mode) (p r : ℕ) (words : NatMap ℕ) (v : ℕ) → TssIs mode p r words → TssIs mode p r (put_at words (pcpu p + 0x20) v)
tss_beside Fred p r words v h = h
tss_beside Idt p r words v h = put_other words (pcpu p + 0x20) v (pcpu p + 0x408) (λ e. omega arith) ∙ h

current_beside : (mode : Mode) (p r : ℕ) (words : NatMap ℕ) (v : ℕ) → CurrentIs mode p r words → CurrentIs mode p r (put_at words (pcpu p + 0x20) v)
current_beside mode p r words v h = record {
  top = put_other words (pcpu p + 0x20) v (pcpu p + 0x10) (λ e. omega arith) ∙ h.top;
  current = put_other words (pcpu p + 0x20) v (pcpu p + 0x18) (λ e. omega arith) ∙ h.current;
  tss = tss_beside mode p r words v h.tss;
}

pub are_names : (p : ℕ) (z : Named) → IsFree p z → AreCallFree p (z ∷ [])
are_names p z f =
    record { allowed = record { written = (f.written, tt); own = λ q d. (f.own q d, tt) }; calls = ap (λ b. not b && true) f.calls }

pub is_unknown : (p : ℕ) (z : Named) → IsFree p z → (below : List BodyContext) → UnknownTo below (z ∷ [])
is_unknown p z f [] = tt
is_unknown p z f (b ∷ below) = ap (λ b. not b && true) f.private

module _ (mode : Mode) (image : Image) (built : IsBuilt image) (good : IsImage image) (facts : Facts mode image)
    (left : NatMap ℕ) (s : System) (m : Machine) (h : Stands mode image left s m) (p : ℕ) (hp : p < image.processors)
    (o : step.Top mode image built good facts left s m h p hp) where
  abbrev x : abstract.Processor
  x = processor m p

  abbrev on : StandsOn mode image p (left p) s x
  on = step.on mode image built good facts left s m h p hp

  abbrev small : p < 32
  small = step.small mode image built good facts left s m h p hp

  abbrev in_seat : IsSeat o.σ
  in_seat = step.in_seat mode image built good facts left s m h p hp o

  abbrev pub Makes : Machine → NatMap ℕ → NatMap Task → NatMap ℕ → List BodyContext → Type 0
  Makes m' words tasks slots bs = step.Makes mode image built good facts left s m h p hp o m m' words tasks slots bs

  -- ---- memory

  -- a write of a word with a name
  pub writes_name : (z : Named) (v : ℕ) → Changes p o.σ (z ∷ []) s.memory.words (put_at s.memory.words (address_of z) v)
  writes_name z v y off d = put_other s.memory.words (address_of z) v y (apart_from (address_of z) y d.0)

  -- what the item's block knows lies on the stack, where no name is
  pub keeps_known : (ss : ℕ) (extra w : ℕ → ℕ) (f : Flags) (z : Named) (v : ℕ) → IsName z
      → Known (here mode p o.κ o.σ ss o.w extra w f) (known_of mode) s.memory.words (opening_of mode).words
      → Known (here mode p o.κ o.σ ss o.w extra w f) (known_of mode) (put_at s.memory.words (address_of z) v) (opening_of mode).words
  unfolding InSome
  keeps_known ss extra w f z v name k =
      kept (here mode p o.κ o.σ ss o.w extra w f) (known_of mode) s.memory.words (put_at s.memory.words (address_of z) v)
      (λ l i. put_other s.memory.words (address_of z) v (addr (here mode p o.κ o.σ ss o.w extra w f) l) (off_stack l i)) (opening_of mode).words k
    where
      off_stack : (l : Loc) → in_win (known_of mode) l ≡ true → addr (here mode p o.κ o.σ ss o.w extra w f) l ≡ address_of z → ⊥
      off_stack l i q = on_its_stack (subst (InSome (IsThere (here mode p o.κ o.σ ss o.w extra w f) (where_at p o.σ) l)) (on_stack_alone mode)
          (known_in mode image p o.σ in_seat hp good.count.1 o.κ ss o.w extra w f (body mode AtItem) (at_the_item mode).over l i))
        where
          on_its_stack : InSome (IsThere (here mode p o.κ o.σ ss o.w extra w f) (where_at p o.σ) l) (OnStack (body_bytes (layout_of mode)) ∷ []) → ⊥
          on_its_stack (inl t) = let from = t.1.from in let low = below_stacks z name in omega arith
          on_its_stack (inr t) = t

  -- ---- the abstract machine

  -- where no word that it tells of is written
  pub makes_nothing : (names : List Named) → AreCallFree p names → (words : NatMap ℕ) → Changes p o.σ names s.memory.words words
      → have_none is_slot names ≡ true → have_none is_user_word names ≡ true → have_none is_page_bit names ≡ true → have_none is_cell names ≡ true
      → have_none is_task_word names ≡ true → Makes m words x.tasks x.slots x.bodies
  makes_nothing names allowed words changes slots user pages cells tasks = record {
    resched = x.resched;
    asked = λ e. e;
    own = refl;
    others = λ q e. refl;
    same_tasks = λ i d. refl;
    good_tasks = on.tasks;
    current = step.same_current mode image built good facts left s m h p hp o names allowed words changes tasks;
    mark = step.same_mark mode image built good facts left s m h p hp o names allowed words changes tasks;
    slots_are = step.same_slots mode image built good facts left s m h p hp o names allowed words changes slots;
    user = step.same_user mode image built good facts left s m h p hp o names allowed words changes user;
    held = h.shares.held;
    pages = step.same_pages mode image built good facts left s m h p hp o names allowed words changes pages;
    cells = step.same_cells mode image built good facts left s m h p hp o names allowed words changes cells;
  }

  pub slot_free : (k : ℕ) → k < 64 → IsFree p (Slot p k)
  slot_free k l = record { name = (small, l); written = (small, l); own = λ q d. own_word p q d; calls = refl; private = refl }

  pub makes_slot : (k v : ℕ) → k < 64
      → Makes (with_slot m p k v) (put_at s.memory.words (address_of (Slot p k)) v) x.tasks (put_at x.slots k v) x.bodies
  makes_slot k v l =
      let z : Named = Slot p k in
      let allowed = are_names p z (slot_free k l) in
      let changes = writes_name z v in record {
        resched = x.resched;
        asked = λ e. e;
        own = at_same m.processors p p (record x { slots = put_at x.slots k v }) refl;
        others = λ q e. at_other m.processors p q (record x { slots = put_at x.slots k v }) e;
        same_tasks = λ i d. refl;
        good_tasks = on.tasks;
        current = step.same_current mode image built good facts left s m h p hp o (z ∷ []) allowed _ changes refl;
        mark = step.same_mark mode image built good facts left s m h p hp o (z ∷ []) allowed _ changes refl;
        slots_are = λ i b. put_through (λ i. pcpu p + slot_offset i) s.memory.words x.slots k v i (λ e. omega arith) (on.slots i b);
        user = step.same_user mode image built good facts left s m h p hp o (z ∷ []) allowed _ changes refl;
        held = h.shares.held;
        pages = step.same_pages mode image built good facts left s m h p hp o (z ∷ []) allowed _ changes refl;
        cells = step.same_cells mode image built good facts left s m h p hp o (z ∷ []) allowed _ changes refl;
      }

  pub cell_free : (k : ℕ) → k < 256 → IsFree p (CellAt k)
  cell_free k l = record { name = l; written = l; own = λ q d f. absurd (cc); calls = refl; private = refl }

  pub makes_cell : (k v : ℕ) → k < 256 → Makes (with_cell m k v) (put_at s.memory.words (address_of (CellAt k)) v) x.tasks x.slots x.bodies
  makes_cell k v l =
      let z : Named = CellAt k in
      let allowed = are_names p z (cell_free k l) in
      let changes = writes_name z v in record {
        resched = x.resched;
        asked = λ e. e;
        own = refl;
        others = λ q e. refl;
        same_tasks = λ i d. refl;
        good_tasks = on.tasks;
        current = step.same_current mode image built good facts left s m h p hp o (z ∷ []) allowed _ changes refl;
        mark = step.same_mark mode image built good facts left s m h p hp o (z ∷ []) allowed _ changes refl;
        slots_are = step.same_slots mode image built good facts left s m h p hp o (z ∷ []) allowed _ changes refl;
        user = step.same_user mode image built good facts left s m h p hp o (z ∷ []) allowed _ changes refl;
        held = h.shares.held;
        pages = step.same_pages mode image built good facts left s m h p hp o (z ∷ []) allowed _ changes refl;
        cells = λ i b. put_through (λ i. cells_base + 8 * i) s.memory.words m.cells k v i (λ e. omega arith) (h.shares.cells i b);
      }

  -- the presence of a page, and the word behind those of pages
  pub page_free : (i : ℕ) → i ≤ 256 → IsFree p (PageBit i)
  page_free i l = record { name = l; written = l; own = λ q d f. absurd (cc); calls = refl; private = refl }

  pub makes_page : (i : ℕ) (t : Bool) → i < 256
      → Makes (record m { present = put_at m.present i t }) (put_at s.memory.words (address_of (PageBit i)) (word_of t)) x.tasks x.slots x.bodies
  makes_page i t l =
      let z : Named = PageBit i in
      let allowed = are_names p z (page_free i (omega arith)) in
      let changes = writes_name z (word_of t) in record {
        resched = x.resched;
        asked = λ e. e;
        own = refl;
        others = λ q e. refl;
        same_tasks = λ i d. refl;
        good_tasks = on.tasks;
        current = step.same_current mode image built good facts left s m h p hp o (z ∷ []) allowed _ changes refl;
        mark = step.same_mark mode image built good facts left s m h p hp o (z ∷ []) allowed _ changes refl;
        slots_are = step.same_slots mode image built good facts left s m h p hp o (z ∷ []) allowed _ changes refl;
        user = step.same_user mode image built good facts left s m h p hp o (z ∷ []) allowed _ changes refl;
        held = h.shares.held;
        pages = λ j b. put_through (λ j. page_map + 8 * j) s.memory.words (λ j. word_of (m.present j)) i (word_of t) j (λ e. omega arith)
            (h.shares.pages j b) ∙ bit_of m.present i t j;
        cells = step.same_cells mode image built good facts left s m h p hp o (z ∷ []) allowed _ changes refl;
      }

  pub makes_behind_pages : (v : ℕ) → Makes m (put_at s.memory.words (address_of (PageBit 256)) v) x.tasks x.slots x.bodies
  makes_behind_pages v =
      let z : Named = PageBit 256 in
      let allowed = are_names p z (page_free 256 (omega arith)) in
      let changes = writes_name z v in record {
        resched = x.resched;
        asked = λ e. e;
        own = refl;
        others = λ q e. refl;
        same_tasks = λ i d. refl;
        good_tasks = on.tasks;
        current = step.same_current mode image built good facts left s m h p hp o (z ∷ []) allowed _ changes refl;
        mark = step.same_mark mode image built good facts left s m h p hp o (z ∷ []) allowed _ changes refl;
        slots_are = step.same_slots mode image built good facts left s m h p hp o (z ∷ []) allowed _ changes refl;
        user = step.same_user mode image built good facts left s m h p hp o (z ∷ []) allowed _ changes refl;
        held = h.shares.held;
        pages = λ j b. put_other s.memory.words (page_map + 8 * 256) v (page_map + 8 * j) (λ e. let z : ⊥ = omega arith in z) ∙ h.shares.pages j b;
        cells = step.same_cells mode image built good facts left s m h p hp o (z ∷ []) allowed _ changes refl;
      }

  pub user_free : (a : ℕ) → IsUserWord a → IsPageWord a → IsFree p (UserWord a)
  user_free a u w = record { name = u; written = w; own = λ q d f. absurd (cc); calls = refl; private = refl }

  pub makes_user : (a v : ℕ) → IsUserWord a → IsPageWord a → v < 2 ^ 64
      → Makes (record m { words = put_at m.words a v }) (put_at s.memory.words (address_of (UserWord a)) v) x.tasks x.slots x.bodies
  makes_user a v u w l =
      let z : Named = UserWord a in
      let allowed = are_names p z (user_free a u w) in
      let changes = writes_name z v in record {
        resched = x.resched;
        asked = λ e. e;
        own = refl;
        others = λ q e. refl;
        same_tasks = λ i d. refl;
        good_tasks = on.tasks;
        current = step.same_current mode image built good facts left s m h p hp o (z ∷ []) allowed _ changes refl;
        mark = step.same_mark mode image built good facts left s m h p hp o (z ∷ []) allowed _ changes refl;
        slots_are = step.same_slots mode image built good facts left s m h p hp o (z ∷ []) allowed _ changes refl;
        user = λ i b. put_through (λ i. i) s.memory.words m.words a v i (λ e. e) (h.shares.user i b);
        held = put_words m.words a v h.shares.held l;
        pages = step.same_pages mode image built good facts left s m h p hp o (z ∷ []) allowed _ changes refl;
        cells = step.same_cells mode image built good facts left s m h p hp o (z ∷ []) allowed _ changes refl;
      }

  -- the mark
  pub mark_free : IsFree p (Mark p)
  mark_free = record { name = small; written = small; own = λ q d. own_word p q d; calls = refl; private = refl }

  pub makes_mark : Makes (with_processor m p (record x { resched = true })) (put_at s.memory.words (address_of (Mark p)) 1) x.tasks x.slots x.bodies
  makes_mark =
      let z : Named = Mark p in
      let allowed = are_names p z mark_free in
      let changes = writes_name z 1 in record {
        resched = true;
        asked = λ e. refl;
        own = at_same m.processors p p (record x { resched = true }) refl;
        others = λ q e. at_other m.processors p q (record x { resched = true }) e;
        same_tasks = λ i d. refl;
        good_tasks = on.tasks;
        current = λ e. current_beside mode p x.running s.memory.words 1 (on.current e);
        mark = λ e. put_same s.memory.words (pcpu p + 0x20) 1;
        slots_are = step.same_slots mode image built good facts left s m h p hp o (z ∷ []) allowed _ changes refl;
        user = step.same_user mode image built good facts left s m h p hp o (z ∷ []) allowed _ changes refl;
        held = h.shares.held;
        pages = step.same_pages mode image built good facts left s m h p hp o (z ∷ []) allowed _ changes refl;
        cells = step.same_cells mode image built good facts left s m h p hp o (z ∷ []) allowed _ changes refl;
      }

  -- with another last context
  pub makes_context : (from m1 : Machine) (words : NatMap ℕ) (tasks : NatMap Task) (slots : NatMap ℕ) (b : BodyContext)
      → step.Makes mode image built good facts left s m h p hp o from m1 words tasks slots x.bodies
      → step.Makes mode image built good facts left s m h p hp o from (with_context m1 p b) words tasks slots (b ∷ o.below)
  makes_context from m1 words tasks slots b y = record {
    resched = y.resched;
    asked = y.asked;
    own = at_same m1.processors p p _ refl ∙ ap (λ (z : abstract.Processor). record z { bodies = replace_last b z.bodies }) y.own
        ∙ ap (λ bs. record (processor from p) { tasks = tasks; slots = slots; resched = y.resched; bodies = replace_last b bs }) o.bodies;
    others = λ q e. at_other m1.processors p q _ e ∙ y.others q e;
    same_tasks = y.same_tasks;
    good_tasks = y.good_tasks;
    current = y.current;
    mark = y.mark;
    slots_are = y.slots_are;
    user = y.user;
    held = y.held;
    pages = y.pages;
    cells = y.cells;
  }
