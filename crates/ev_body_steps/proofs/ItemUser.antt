-- Items that read or write a word of user code: the kernel's access is the abstract machine's, and so is the page fault that it meets.
use Rattle.std.proofs.Common.{◌≡◌, ℕ, suc, ◌+◌, ◌<◌, ◌≤◌, true, [], set, Some, None, refl, ap, ◌∙◌, subst, arith}
use Rattle.std.specs.Prelude.{pos, slice_get}
use Rattle.ev_isa.specs.Word.{NatMap, put_at, displaced}
use Rattle.ev_isa.specs.Flags.{Flags}
use Rattle.ev_isa.specs.Spelling.{spelling, four_bytes}
use Rattle.ev_isa.specs.declared.instruction.Ins.{Ins}
use Rattle.ev_isa.specs.declared.instruction.Ins.TheVariants.{Load, Store}
use Rattle.ev_isa.specs.declared.mode.Mode.{Mode}
use Rattle.ev_body.specs.declared.item.Item.{Item}
use Rattle.ev_body.specs.declared.item.Item.TheVariants.{Uget, Uput}
use Rattle.ev_body.specs.declared.body.Body.{Body}
use Rattle.ev_body.specs.declared.image.Image.{Image}
use Rattle.ev_body.specs.WellFormed.{IsImage, is_local, has_operands}
use Rattle.ev_state.specs.Processor.{Processor, register}
use Rattle.ev_abstract.specs.Context.{BodyContext, local}
use Rattle.ev_abstract.specs.ItemMeaning.{item_step}
use Rattle.ev_abstract.specs.Machine.{Machine, processor}
use Rattle.ev_abstract.specs.Machine as abstract
use Rattle.ev_abstract.specs.Run.{item_at}
use Rattle.ev_law.proofs.Ruled.{IsRuled}
use Rattle.ev_listing.specs.Marks.{Always}
use Rattle.ev_concrete.specs.ConcreteRun.{System, is_return}
use Rattle.ev_concrete.specs.Shown.{shown_always}
use Rattle.ev_built.specs.Built.{IsBuilt}
use Rattle.ev_symbolic.specs.Agrees.{Env}
use Rattle.ev_symbolic.specs.Single.{onward, Leads, Singles}
use Rattle.ev_symbolic.proofs.Single.{singles}
use Rattle.ev_symbolic.proofs.Values.{and_left, and_right}
use Rattle.ev_relation.specs.Relation.{Stands}
use Rattle.ev_relation.proofs.Facts.{Facts}
use Rattle.ev_body_steps.proofs.ItemCells.{before, visible_of}
use Rattle.ev_body_steps.proofs.ItemAddresses.{displaced_zero}
use Rattle.ev_body_steps.proofs.ItemWords.{IsFree, are_names, is_unknown}
use Rattle.ev_body_steps.proofs.ItemWords as words
use Rattle.ev_body_steps.proofs.ItemVisible.{FlagsBehind, goes_onward, goes_with}
use Rattle.ev_body_steps.proofs.ItemVisible as visible
use Rattle.ev_body_steps.proofs.KernelStep as step
use Rattle.ev_body_steps.proofs.ItemSteps.{WordWrite}
use Rattle.ev_body_steps.proofs.ItemSteps as steps
use Rattle.std.specs.Prelude.{bit_and}
use Rattle.std.proofs.Common.{◌^◌, ◌-◌, ◌%◌, ◌/◌, Bool, false, Option, not, inl, inr}
use Rattle.std.specs.Prelude.{if◌then◌else◌}
use Rattle.ev_event.specs.Event.{ac}
use Rattle.ev_isa.specs.Pages.{page_base}
use Rattle.ev_abstract.specs.ItemMeaning.{with_context}
use Rattle.ev_body_steps.proofs.ItemLocals.{Write}
use Rattle.ev_body_steps.proofs.ItemCells.{bytes_of}
use Rattle.ev_symbolic.specs.Single.{IsAt, Raises}
use Rattle.ev_law.proofs.Lists.{any_at}
use Rattle.ev_body.specs.Bodies.{body_items}
use Rattle.std.proofs.lemmas.Bool.{eq-eqb}
use Rattle.std.proofs.lemmas.Nat.{and_le_r, and_mod}
use Rattle.ev_isa.specs.Word.{is_aligned, is_canonical}
use Rattle.ev_event.specs.declared.event.Event.{Event}
use Rattle.ev_event.specs.Event.{pf}
use Rattle.ev_effect.specs.Effect.{access_event, page_event, bad_address}
use Rattle.ev_mem.specs.Memory.{view, page_fault}
use Rattle.ev_user.specs.Sees.{Sees, IsPageWord, IsUserWord}
use Rattle.ev_user.specs.Numbers.{AreOfWords}
use Rattle.ev_user.proofs.Places.{kernel_faults_alike}
use Rattle.ev_user.proofs.Writes.{accessed, user_word, IsIn}
use Rattle.ev_user.proofs.Follows.{low_canonical}
use Rattle.ev_tables.proofs.Gates.{upper_canonical}
use Rattle.ev_abstract.specs.Machine.{user_memory}
use Rattle.ev_abstract.specs.ItemMeaning.{user_address, kernel_access, kernel_fault, guarded, raised, item_step}
use Rattle.ev_abstract.specs.Chain.{is_user_access}
use Rattle.ev_relation.specs.Filling.{first_fill}
use Rattle.ev_relation.specs.Active.{Active}
use Rattle.ev_relation.specs.Relation.{switches_at, StandsOn}
use Rattle.ev_relation.specs.Step.{Simulated}
use Rattle.ev_body_steps.proofs.BodyFault as faults
use Rattle.ev_paths.specs.Ends.{TellsNoCr2}
use Rattle.ev_blocks.specs.Blocks.{block}
use Rattle.ev_relation.specs.Named.{UserWord}
use Rattle.ev_listing.specs.Expansion.{item_address}
use Rattle.ev_body_steps.proofs.ItemCells.{ItemCells}
use Rattle.ev_body_steps.proofs.ItemCode.{cells_of}
use Rattle.ev_table.specs.Table.{code_table}

module _ (mode : Mode) (image : Image) (built : IsBuilt image) (good : IsImage image) (facts : Facts mode image)
    (left : NatMap ℕ) (s : System) (m : Machine) (h : Stands mode image left s m) (p : ℕ) (hp : p < image.processors)
    (o : step.Top mode image built good facts left s m h p hp) (body' : Body) (is : slice_get image.bodies o.b.body ≡ Some body')
    (ss : ℕ) (extra v : ℕ → ℕ) (f : Flags)
    (a : visible.AtVisible mode image built good facts left s m h p hp o body' is ss extra v f) where
  abbrev c : Processor
  c = s.cpus p

  abbrev b : BodyContext
  b = o.b

  abbrev x : abstract.Processor
  x = processor m p

  abbrev env : Env
  env = visible.env mode image built good facts left s m h p hp o body' is ss extra v f

  abbrev next : ℕ
  next = visible.at mode image built good facts left s m h p hp o body' is (suc b.place)

  abbrev Does : Type 0
  Does = visible.Does mode image built good facts left s m h p hp o body' is ss extra v f a

  abbrev ruled : IsRuled image body'
  ruled = steps.ruled mode image built good facts left s m h p hp o body' is ss extra v f a

  -- the flags that the context knows
  abbrev known : a.flags ≡ f → FlagsBehind mode image a.flags b.flags a.flags
  known same = steps.known_flags mode image built good facts left s m h p hp o body' is ss extra v f a same

  abbrev is_the_local : (r : ℕ) → is_local r ≡ true → register c r ≡ local b r
  is_the_local r q = steps.is_the_local mode image built good facts left s m h p hp o body' is ss extra v f a r q

  abbrev bounds : (r : ℕ) → is_local r ≡ true → (6 ≤ r) × (r < 14)
  bounds r q = steps.bounds mode image built good facts left s m h p hp o body' is ss extra v f a r q

  abbrev one : Singles c s.memory next
  one = singles c s.memory next

  abbrev on : StandsOn mode image p (left p) s x
  on = step.on mode image built good facts left s m h p hp

  abbrev behind : Write → BodyContext
  behind write = steps.behind mode image built good facts left s m h p hp o body' is ss extra v f a write (suc b.place) None

  -- what memory looks like to the kernel at the words of user code
  sees : Sees image (user_memory image m) s.memory
  sees = record {
    regions_are = h.regions_are;
    text_is = refl;
    holds = facts.holds s.memory h.fixed;
    words = h.shares.user;
    held = h.shares.held;
    pages = h.shares.pages;
  }

  -- locals are words
  pub local_small : (r : ℕ) → local b r < 2 ^ 64
  local_small r = (subst AreOfWords o.bodies (h.numbers.each p).bodies).0.locals (r - 6)

  -- RAX is the address that local q has
  module _ (off : a.offset ≡ 16) (q : ℕ) (rax : register c 0 ≡ user_address (local b q))
      (act : Active mode image p on.own o.κ o.σ on.frame (switches_at mode image on.switching o.below) (first_fill on.fills) o.w b c s.memory)
      (untold : TellsNoCr2 (block mode act.stands.spot)) where
    abbrev address : ℕ
    address = user_address (local b q)

    low : address ≤ 0x7ffffffffff8
    low = and_le_r (local b q) 0x7ffffffffff8

    aligned : is_aligned address ≡ true
    aligned = eq-eqb (address % 8) 0 (
        let z : address % 2 ^ 3 ≡ bit_and (local b q % 2 ^ 3) 0 = and_mod (local b q) 0x7ffffffffff8 3 in
        let n : bit_and (local b q % 2 ^ 3) 0 ≤ 0 = and_le_r (local b q % 2 ^ 3) 0 in omega arith)

    place_is : displaced (register c 0) (pos 0) ≡ address
    place_is = ap (λ n. displaced n (pos 0)) rax ∙ displaced_zero address (let l = low in omega arith)

    -- the kernel meets the abstract machine's fault there
    meets : (write : Bool) (bad : Event) (o : Option ℕ) → kernel_fault m write address ≡ o
        → access_event (view s.memory false) write bad address ≡ page_event o address
    unfolding access_event
    meets write bad o e =
        let l = low in
        let canonical : is_canonical address ≡ true = low_canonical address (omega arith) in
        (λ i. if not (canonical i) then Some bad else (if not (aligned i) then Some ac else
        page_event (page_fault s.memory (kernel_access write) address) address))
        ∙ ap (λ o. page_event o address) (kernel_faults_alike image (user_memory image m) s.memory good sees write address (omega arith) ∙ e)

    reached : (write : Bool) → kernel_fault m write address ≡ None → IsIn write address (m.present ((address - page_base) / 0x1000))
    reached write e = accessed m.present false write address e

    of_user : (write : Bool) → kernel_fault m write address ≡ None → IsUserWord address
    of_user write e = user_word write _ address aligned (reached write e)

    -- a fault
    fails : (item : Item) (ins : Ins) → visible_of item ≡ Some ins → item_at (Some body') b.place ≡ Some item → a.offset ≡ bytes_of (before item)
        → is_user_access item ≡ true → (fault : ℕ)
        → (IsAt c ins next → Raises c s.memory ins (pf fault address)) → item_step image m p b item ≡ raised image m p (pf fault address)
        → Simulated mode image left s m p
    fails item ins seen hi offset accesses fault runs meaning =
        let cells : ItemCells (code_table mode image) (item_address mode b.body body' b.place) next item ins
        = cells_of mode image facts b.body body' is b.place item ins hi seen in
        let near : a.offset < 0x100 = omega arith in
        let rip : c.rip ≡ item_address mode b.body body' b.place + a.offset
        = steps.rip_is mode image built good facts left s m h p hp o body' is ss extra v f a near in
        let found : code_table mode image c.rip ≡ Some (record { ins = ins; next = next; mark = Always })
        = ap (code_table mode image) (rip ∙ ap (λ k. item_address mode b.body body' b.place + k) offset) ∙ cells.seen in
        let range = facts.item_range b.body b.place body' is in
        let lower = range.0 in let upper = range.1 in
        faults.by_fault mode image built good facts left s m h p hp o body' is act untold ss a.ss_is extra v f a.offset a.rax a.rcx a.rdx a.flags a.state a.long
        (upper_canonical c.rip (omega arith) (omega arith)) (omega arith) (record { ins = ins; next = next; mark = Always }) found refl fault address
        (runs (steps.at_ins mode image built good facts left s m h p hp o body' is ss extra v f a ins next found))
        (any_at is_user_access (body_items body') b.place item hi accesses)
        (steps.turns mode image built good facts left s m h p hp o body' is ss extra v f a item hi ∙ meaning)

    pub by_uget : (d : ℕ) → item_at (Some body') b.place ≡ Some (Uget d q) → Simulated mode image left s m p
    unfolding item_step has_operands visible_of before is_return shown_always spelling four_bytes is_user_access
    by_uget d hi = by_access (kernel_fault m false address) refl
      where
        ins : Ins
        ins = Load d 0 (pos 0)

        by_access : (o : Option ℕ) → kernel_fault m false address ≡ o → Simulated mode image left s m p
        by_access None e =
            let fits = bounds d (and_left _ _ (ruled.operands b.place (Uget d q) hi).2) in
            visible.visible mode image built good facts left s m h p hp o body' is ss extra v f a
            (steps.does mode image built good facts left s m h p hp o body' is ss extra v f a (Uget d q) hi ins refl off (omega arith) refl
            (Some (d, m.words address)) fits a.flags None (tt, refl) None tt
            (λ i. goes_onward c s.memory ins a.flags _ next s.memory.words a.state.flags
            (subst (λ n. Leads c s.memory ins (onward c (set c.regs d n) next) s.memory.words) (h.shares.user address (of_user false e))
            (one.loads_allowed d 0 (pos 0) address i place_is (meets false (bad_address 0) None e))))
            m x.slots (steps.nothing mode image built good facts left s m h p hp o body' is ss extra v f a) []
            (ap (λ o. guarded image m p address o (with_context m p (behind (Some (d, m.words address))), [])) e) refl)
        by_access (Some fault) e =
            fails (Uget d q) ins refl hi off refl fault
            (λ i. one.loads_raise d 0 (pos 0) address (pf fault address) i place_is (meets false (bad_address 0) (Some fault) e))
            (ap (λ o. guarded image m p address o (with_context m p (behind (Some (d, m.words address))), [])) e)

    pub by_uput : (r : ℕ) → item_at (Some body') b.place ≡ Some (Uput q r) → Simulated mode image left s m p
    unfolding item_step has_operands visible_of before is_return shown_always spelling four_bytes is_user_access
    by_uput r hi = by_access (kernel_fault m true address) refl
      where
        ins : Ins
        ins = Store 0 (pos 0) r

        m1 : Machine
        m1 = record m { words = put_at m.words address (local b r) }

        on_page : IsIn true address (m.present ((address - page_base) / 0x1000)) → IsPageWord address
        on_page (inl k) = absurd (let z : true ≡ false = k.1 in cc)
        on_page (inr k) = k.0

        by_access : (o : Option ℕ) → kernel_fault m true address ≡ o → Simulated mode image left s m p
        by_access None e =
            let value : register c r ≡ local b r = is_the_local r (and_right (is_local q) _ (ruled.operands b.place (Uput q r) hi).2) in
            let u : IsUserWord address = of_user true e in
            let w : IsPageWord address = on_page (reached true e) in
            visible.visible mode image built good facts left s m h p hp o body' is ss extra v f a
            (steps.does mode image built good facts left s m h p hp o body' is ss extra v f a (Uput q r) hi ins refl off (omega arith) refl
            None tt a.flags None (tt, refl) (Some (UserWord address, local b r)) (words.user_free mode image built good facts left s m h p hp o address u w)
            (λ i. goes_onward c s.memory ins a.flags _ next _ a.state.flags
            (subst (λ n. Leads c s.memory ins (onward c c.regs next) (put_at s.memory.words address n)) value
            (one.stores_allowed 0 (pos 0) r address i place_is (meets true (bad_address 0) None e))))
            m1 x.slots (words.makes_user mode image built good facts left s m h p hp o address (local b r) u w (local_small r)) []
            (ap (λ o. guarded image m p address o (with_context m1 p (behind None), [])) e) refl)
        by_access (Some fault) e =
            fails (Uput q r) ins refl hi off refl fault
            (λ i. one.stores_raise 0 (pos 0) r address (pf fault address) i place_is (meets true (bad_address 0) (Some fault) e))
            (ap (λ o. guarded image m p address o (with_context m1 p (behind None), [])) e)
