-- Items of cells: each begins with the cell's address in RAX, at which its visible instruction reads and writes.
use Rattle.std.proofs.Common.{◌≡◌, ℕ, suc, ◌+◌, ◌*◌, ◌<◌, ◌≤◌, true, [], set, Some, None, refl, ap, ◌∙◌, subst, arith}
use Rattle.std.specs.Prelude.{pos, slice_get}
use Rattle.ev_isa.specs.Word.{NatMap, put_at, displaced}
use Rattle.ev_isa.specs.Flags.{Status, Flags, sum}
use Rattle.ev_isa.specs.Spelling.{spelling, four_bytes}
use Rattle.ev_isa.specs.declared.instruction.Ins.{Ins}
use Rattle.ev_isa.specs.declared.instruction.Ins.TheVariants.{Load, Store, Xchg, Xadd}
use Rattle.ev_isa.specs.declared.mode.Mode.{Mode}
use Rattle.ev_body.specs.declared.item.Item.{Item}
use Rattle.ev_body.specs.declared.item.Item.TheVariants.{SetCell, AddCell, SwapCell}
use Rattle.ev_body.specs.declared.body.Body.{Body}
use Rattle.ev_body.specs.declared.image.Image.{Image}
use Rattle.ev_body.specs.WellFormed.{IsImage, is_local, is_word, has_operands}
use Rattle.ev_listing.specs.AddressMap.{cells_base}
use Rattle.ev_state.specs.Processor.{Processor, register}
use Rattle.ev_abstract.specs.Context.{BodyContext, local}
use Rattle.ev_abstract.specs.ItemMeaning.{item_step, with_cell}
use Rattle.ev_abstract.specs.Machine.{Machine, processor}
use Rattle.ev_abstract.specs.Machine as abstract
use Rattle.ev_abstract.specs.Run.{item_at}
use Rattle.ev_law.proofs.Ruled.{IsRuled}
use Rattle.ev_concrete.specs.ConcreteRun.{System, is_return}
use Rattle.ev_concrete.specs.Shown.{shown_always}
use Rattle.ev_built.specs.Built.{IsBuilt}
use Rattle.ev_symbolic.specs.Agrees.{Env, IsOpen}
use Rattle.ev_symbolic.specs.Single.{onward, in_status, Leads, Singles}
use Rattle.ev_symbolic.proofs.Single.{singles}
use Rattle.ev_symbolic.proofs.Values.{and_left, and_right}
use Rattle.ev_relation.specs.Named.{CellAt}
use Rattle.ev_relation.specs.Relation.{Stands}
use Rattle.ev_relation.proofs.Facts.{Facts}
use Rattle.ev_body_steps.proofs.ItemCells.{before, visible_of}
use Rattle.ev_body_steps.proofs.ItemAddresses.{cell_open, displaced_zero}
use Rattle.ev_body_steps.proofs.ItemWords.{IsFree, are_names, is_unknown}
use Rattle.ev_body_steps.proofs.ItemWords as words
use Rattle.ev_body_steps.proofs.ItemVisible.{FlagsBehind, goes_onward, goes_with}
use Rattle.ev_body_steps.proofs.ItemVisible as visible
use Rattle.ev_body_steps.proofs.KernelStep as step
use Rattle.ev_body_steps.proofs.ItemSteps.{WordWrite}
use Rattle.ev_body_steps.proofs.ItemSteps as steps

module _ (mode : Mode) (image : Image) (built : IsBuilt image) (good : IsImage image) (facts : Facts mode image)
    (left : NatMap ℕ) (s : System) (m : Machine) (h : Stands mode image left s m) (p : ℕ) (hp : p < image.processors)
    (o : step.Top mode image built good facts left s m h p hp) (body' : Body) (is : slice_get image.bodies o.b.body ≡ Some body')
    (ss : ℕ) (extra v : ℕ → ℕ) (f : Flags)
    (a : visible.AtVisible mode image built good facts left s m h p hp o body' is ss extra v f) where
  abbrev c : Processor
  c = s.cpus p

  abbrev b : BodyContext
  b = o.b

  abbrev x : abstract.Processor
  x = processor m p

  abbrev env : Env
  env = visible.env mode image built good facts left s m h p hp o body' is ss extra v f

  abbrev next : ℕ
  next = visible.at mode image built good facts left s m h p hp o body' is (suc b.place)

  abbrev Does : Type 0
  Does = visible.Does mode image built good facts left s m h p hp o body' is ss extra v f a

  abbrev ruled : IsRuled image body'
  ruled = steps.ruled mode image built good facts left s m h p hp o body' is ss extra v f a

  -- the flags that the context knows
  abbrev known : a.flags ≡ f → FlagsBehind mode image a.flags b.flags a.flags
  known same = steps.known_flags mode image built good facts left s m h p hp o body' is ss extra v f a same

  abbrev is_the_local : (r : ℕ) → is_local r ≡ true → register c r ≡ local b r
  is_the_local r q = steps.is_the_local mode image built good facts left s m h p hp o body' is ss extra v f a r q

  abbrev bounds : (r : ℕ) → is_local r ≡ true → (6 ≤ r) × (r < 14)
  bounds r q = steps.bounds mode image built good facts left s m h p hp o body' is ss extra v f a r q

  abbrev one : Singles c s.memory next
  one = singles c s.memory next

  -- RAX is the address of cell k
  module _ (off : a.offset ≡ 10) (same : a.flags ≡ f) (k : ℕ) (low : k < 256) (rax : register c 0 ≡ cells_base + 8 * k) where
    place_is : displaced (register c 0) (pos 0) ≡ cells_base + 8 * k
    place_is = ap (λ n. displaced n (pos 0)) rax ∙ displaced_zero (cells_base + 8 * k) (omega arith)

    opened : IsOpen s.memory.regions (cells_base + 8 * k)
    opened = cell_open image s.memory.regions h.regions_are k low

    value_is : s.memory.words (cells_base + 8 * k) ≡ m.cells k
    value_is = h.shares.cells k low

    free : IsFree p (CellAt k)
    free = words.cell_free mode image built good facts left s m h p hp o k low

    pub by_cell : (d : ℕ) → item_at (Some body') b.place ≡ Some (Item.Cell d k) → Does
    unfolding item_step has_operands visible_of before is_return shown_always spelling four_bytes
    by_cell d hi =
        let fits = bounds d (and_left _ _ (ruled.operands b.place (Item.Cell d k) hi).2) in
        steps.does mode image built good facts left s m h p hp o body' is ss extra v f a (Item.Cell d k) hi (Load d 0 (pos 0)) refl off (omega arith) refl
        (Some (d, m.cells k)) fits a.flags b.flags (known same) None tt
        (λ i. goes_onward c s.memory (Load d 0 (pos 0)) a.flags _ next s.memory.words a.state.flags
        (subst (λ n. Leads c s.memory (Load d 0 (pos 0)) (onward c (set c.regs d n) next) s.memory.words) value_is
        (one.loads d 0 (pos 0) (cells_base + 8 * k) i place_is opened)))
        m x.slots (steps.nothing mode image built good facts left s m h p hp o body' is ss extra v f a) [] refl refl

    pub by_setcell : (r : ℕ) → item_at (Some body') b.place ≡ Some (SetCell k r) → Does
    unfolding item_step has_operands visible_of before is_return shown_always spelling four_bytes
    by_setcell r hi =
        let value : register c r ≡ local b r = is_the_local r (and_right (is_word k) _ (ruled.operands b.place (SetCell k r) hi).2) in
        let ins : Ins = Store 0 (pos 0) r in
        steps.does mode image built good facts left s m h p hp o body' is ss extra v f a (SetCell k r) hi ins refl off (omega arith) refl
        None tt a.flags b.flags (known same) (Some (CellAt k, local b r)) free
        (λ i. goes_onward c s.memory ins a.flags _ next _ a.state.flags
        (subst (λ n. Leads c s.memory ins (onward c c.regs next) (put_at s.memory.words (cells_base + 8 * k) n)) value
        (one.stores 0 (pos 0) r (cells_base + 8 * k) i place_is opened)))
        (with_cell m k (local b r)) x.slots (words.makes_cell mode image built good facts left s m h p hp o k (local b r) low) [] refl refl

    pub by_swapcell : (d : ℕ) → item_at (Some body') b.place ≡ Some (SwapCell k d) → Does
    unfolding item_step has_operands visible_of before is_return shown_always spelling four_bytes
    by_swapcell d hi =
        let ops = (ruled.operands b.place (SwapCell k d) hi).2 in
        let fits = bounds d (and_right (is_word k) _ ops) in
        let value : register c d ≡ local b d = is_the_local d (and_right (is_word k) _ ops) in
        let ins : Ins = Xchg 0 (pos 0) d in
        steps.does mode image built good facts left s m h p hp o body' is ss extra v f a (SwapCell k d) hi ins refl off (omega arith) refl
        (Some (d, m.cells k)) fits a.flags b.flags (known same) (Some (CellAt k, local b d)) free
        (λ i. goes_onward c s.memory ins a.flags _ next _ a.state.flags
        (subst (λ (z : ℕ × ℕ). Leads c s.memory ins (onward c (set c.regs d z.0) next) (put_at s.memory.words (cells_base + 8 * k) z.1))
        (λ i. (value_is i, value i))
        (one.exchanges 0 (pos 0) d (cells_base + 8 * k) i place_is opened)))
        (with_cell m k (local b d)) x.slots (words.makes_cell mode image built good facts left s m h p hp o k (local b d) low) [] refl refl

    pub by_addcell : (d : ℕ) → item_at (Some body') b.place ≡ Some (AddCell k d) → Does
    unfolding item_step has_operands visible_of before is_return shown_always spelling four_bytes sum
    by_addcell d hi =
        let ops = (ruled.operands b.place (AddCell k d) hi).2 in
        let fits = bounds d (and_right (is_word k) _ ops) in
        let value : register c d ≡ local b d = is_the_local d (and_right (is_word k) _ ops) in
        let ins : Ins = Xadd 0 (pos 0) d in
        let z : ℕ × Status = sum (m.cells k) (local b d) in
        steps.does mode image built good facts left s m h p hp o body' is ss extra v f a (AddCell k d) hi ins refl off (omega arith) refl
        (Some (d, m.cells k)) fits (record a.flags { status = z.1 }) None (tt, refl) (Some (CellAt k, z.0)) free
        (λ i. goes_with c s.memory ins a.flags _ next _ z.1 a.state.flags
        (subst (λ (z : ℕ × ℕ). Leads c s.memory ins (in_status (onward c (set c.regs d z.0) next) (sum z.0 z.1).1)
        (put_at s.memory.words (cells_base + 8 * k) (sum z.0 z.1).0))
        (λ i. (value_is i, value i))
        (one.adds 0 (pos 0) d (cells_base + 8 * k) i place_is opened)))
        (with_cell m k z.0) x.slots (words.makes_cell mode image built good facts left s m h p hp o k z.0 low) [] refl refl
