-- What each visible item does: its instruction, on registers, words and flags, and the abstract machine's step.
use Rattle.std.proofs.Common.{◌≡◌, inl, ℕ, suc, ◌+◌, ◌%◌, ◌<◌, ◌≤◌, Bool, true, false, List, [], ◌∷◌, set, length, Option, Some, None, refl, sym, ap, ◌∙◌, subst, arith}
use Rattle.std.specs.Prelude.{pos, slice_get, nat_le, if◌then◌else◌}
use Rattle.std.proofs.lemmas.Bool.{ltb-true, leb-true, ne_eqb, not-false}
use Rattle.ev_isa.specs.Word.{NatMap, put_at, displaced, is_canonical}
use Rattle.ev_isa.specs.Flags.{Status, Flags, flags_of, alu, holds}
use Rattle.ev_isa.specs.declared.instruction.AluOp.{AluOp}
use Rattle.ev_isa.specs.declared.instruction.Cond.{Cond}
use Rattle.ev_isa.specs.declared.instruction.Ins.{Ins}
use Rattle.ev_isa.specs.declared.instruction.Ins.TheVariants.{MovImm, MovReg, GsLoad, GsStore, Jmp}
use Rattle.ev_isa.specs.declared.mode.Mode.{Mode}
use Rattle.ev_body.specs.declared.item.Item.{Item}
use Rattle.ev_body.specs.declared.item.Item.TheVariants.{Set, Copy, Jcc, Goto, Nop, Log, Cpu, Put}
use Rattle.ev_body.specs.declared.body.Body.{Body}
use Rattle.ev_body.specs.declared.image.Image.{Image}
use Rattle.ev_body.specs.Bodies.{body_items}
use Rattle.ev_body.specs.WellFormed.{IsImage, is_local, is_word, has_operands}
use Rattle.ev_listing.specs.AddressMap.{pcpu, slot_offset}
use Rattle.ev_state.specs.Processor.{Processor, register}
use Rattle.ev_state.proofs.FlagLaws.{kept, flags_of-flags_word}
use Rattle.ev_abstract.specs.Context.{BodyContext, local, at_place, onward as onward_of}
use Rattle.ev_abstract.specs.ItemMeaning.{item_step, with_context, with_slot, taken}
use Rattle.ev_abstract.specs.Rules.{breaks_slots, jump_target}
use Rattle.ev_abstract.specs.declared.entry.Entry.{Entry}
use Rattle.ev_abstract.specs.Machine.{Machine, processor}
use Rattle.ev_abstract.specs.Machine as abstract
use Rattle.ev_abstract.specs.Run.{item_at, turn}
use Rattle.ev_law.specs.Legal.{IsLegalOn, AreLegal, has_flags_for, knows}
use Rattle.ev_law.proofs.Ruled.{IsRuled, body_ruled}
use Rattle.ev_listing.specs.Marks.{Always}
use Rattle.ev_concrete.specs.ConcreteRun.{System, is_return}
use Rattle.ev_concrete.specs.Depth.{bodies_on}
use Rattle.ev_concrete.specs.Shown.{shown_always, shown_again}
use Rattle.ev_built.specs.Built.{IsBuilt}
use Rattle.ev_symbolic.specs.Value.{M}
use Rattle.ev_symbolic.specs.Agrees.{Env, Code, Known}
use Rattle.ev_symbolic.specs.Single.{IsAt, onward, in_status, Leads, Singles}
use Rattle.ev_symbolic.proofs.Single.{singles}
use Rattle.ev_symbolic.proofs.Values.{and_left, and_right}
use Rattle.ev_table.specs.Table.{code_table}
use Rattle.ev_relation.specs.Named.{Named, Port, CellAt, address_of, Changes}
use Rattle.ev_relation.specs.Named as named
use Rattle.ev_relation.specs.Active.{address_of_item, FlagsAre}
use Rattle.ev_relation.specs.Relation.{InArea, Stands}
use Rattle.ev_relation.proofs.Areas.{opening_area}
use Rattle.ev_concrete.specs.Opening.{pcpu_word}
use Rattle.ev_relation.proofs.Facts.{Facts}
use Rattle.ev_relation.proofs.After.{AreCallFree, own_word, none_spares}
use Rattle.ev_body_steps.proofs.ItemCells.{bytes_of, before, visible_of, ItemCells}
use Rattle.ev_body_steps.proofs.ItemCode.{JumpCell, cells_of, goto_cell, jcc_cell}
use Rattle.ev_body_steps.proofs.ItemState.{opening_of, known_of, unblocked, gone, gs_of}
use Rattle.ev_body_steps.proofs.ItemLocals.{Write, IsLocal, regs_with, local_at}
use Rattle.ev_body_steps.proofs.ItemAddresses.{area_open, displaced_area}
use Rattle.ev_body_steps.proofs.ItemWords.{IsFree, are_names, is_unknown}
use Rattle.ev_body_steps.proofs.ItemWords as words
use Rattle.ev_body_steps.proofs.ItemVisible.{FlagsBehind, goes_onward, goes_with}
use Rattle.ev_body_steps.proofs.ItemVisible as visible
use Rattle.ev_body_steps.proofs.KernelStep as step

-- ---- the word that an item writes, if any

abbrev pub WordWrite : Type 0
WordWrite = Option (Named × ℕ)

abbrev pub names_with : WordWrite → List Named
names_with None = []
names_with (Some z) = z.0 ∷ []

abbrev pub words_with : NatMap ℕ → WordWrite → NatMap ℕ
words_with words None = words
words_with words (Some z) = put_at words (address_of z.0) z.1

abbrev pub IsFreeWord : ℕ → WordWrite → Type 0
IsFreeWord p None = Unit {0}
IsFreeWord p (Some z) = IsFree p z.0

module _ (mode : Mode) (image : Image) (built : IsBuilt image) (good : IsImage image) (facts : Facts mode image)
    (left : NatMap ℕ) (s : System) (m : Machine) (h : Stands mode image left s m) (p : ℕ) (hp : p < image.processors)
    (o : step.Top mode image built good facts left s m h p hp) (body' : Body) (is : slice_get image.bodies o.b.body ≡ Some body')
    (ss : ℕ) (extra v : ℕ → ℕ) (f : Flags)
    (a : visible.AtVisible mode image built good facts left s m h p hp o body' is ss extra v f) where
  abbrev pub code : Code
  code = code_table mode image

  abbrev c : Processor
  c = s.cpus p

  abbrev b : BodyContext
  b = o.b

  abbrev x : abstract.Processor
  x = processor m p

  abbrev env : Env
  env = visible.env mode image built good facts left s m h p hp o body' is ss extra v f

  abbrev pub at : ℕ → ℕ
  at i = visible.at mode image built good facts left s m h p hp o body' is i

  abbrev pub behind : Write → ℕ → Option Status → BodyContext
  behind write place status = visible.behind mode image built good facts left s m h p hp o body' is write place status

  abbrev Does : Type 0
  Does = visible.Does mode image built good facts left s m h p hp o body' is ss extra v f a

  abbrev Makes : Machine → NatMap ℕ → NatMap ℕ → Type 0
  Makes m1 ws slots = words.Makes mode image built good facts left s m h p hp o m1 ws x.tasks slots x.bodies

  abbrev small : p < 32
  small = step.small mode image built good facts left s m h p hp

  -- where the instruction stands
  pub rip_is : a.offset < 0x100 → c.rip ≡ at b.place + a.offset
  rip_is l =
      let r = facts.item_range b.body b.place body' is in
      let from : extra 20 ≡ at b.place = a.place ∙ ap (address_of_item mode b.body b.place) is in
      let low = r.0 in let high = r.1 in
      a.state.rip ∙ (let z : (extra 20 + a.offset) % M ≡ at b.place + a.offset = omega arith in z)

  -- what holds of it
  pub at_ins : (ins : Ins) (next : ℕ) → code c.rip ≡ Some (record { ins = ins; next = next; mark = Always }) → IsAt c ins next
  at_ins ins next hc = record { kernel = a.kernel; flags = kept c.flags a.flags a.state.flags; ends = sym (facts.spaced c.rip _ hc) }

  -- IF is the context's
  pub same_interrupts : a.flags.interrupts ≡ b.interrupts
  same_interrupts = step.masks_flags mode image built good facts left s m h p hp o a.flags a.state.flags

  -- the abstract machine's turn
  pub turns : (item : Item) → item_at (Some body') b.place ≡ Some item → turn image m p ≡ item_step image m p b item
  turns item hi = step.turns mode image built good facts left s m h p hp o (λ on. a.state.blocked ∙ unblocked mode) item (ap (λ o. item_at o b.place) is ∙ hi)

  -- ---- the memory of a write

  allowed_of : (z : WordWrite) → IsFreeWord p z → AreCallFree p (names_with z)
  allowed_of None g = (none_spares p).free
  allowed_of (Some z) g = are_names p z.0 g

  unknown_of : (z : WordWrite) → IsFreeWord p z → named.UnknownTo o.below (names_with z)
  unknown_of None g = step.unknown_none o.below
  unknown_of (Some z) g = is_unknown p z.0 g o.below

  changes_of : (z : WordWrite) → Changes p o.σ (names_with z) s.memory.words (words_with s.memory.words z)
  changes_of None = λ y off d. refl
  changes_of (Some z) = words.writes_name mode image built good facts left s m h p hp o z.0 z.1

  keeps_of : (z : WordWrite) → IsFreeWord p z → Known env (known_of mode) (words_with s.memory.words z) (opening_of mode).words
  keeps_of None g = a.state.words
  keeps_of (Some z) g = words.keeps_known mode image built good facts left s m h p hp o ss extra v f z.0 z.1 g.name a.state.words

  pub over_of : (z : WordWrite) → IsFreeWord p z
      → visible.StandsOver mode image built good facts left s m h p hp o body' is ss v (words_with s.memory.words z) o.w v x.tasks
  over_of z g = visible.stays_over mode image built good facts left s m h p hp o body' is ss extra v f a (words_with s.memory.words z) (names_with z)
      (allowed_of z g) (unknown_of z g) (changes_of z) (keeps_of z g)

  -- ---- an item that leads to the next one

  pub does : (item : Item) → item_at (Some body') b.place ≡ Some item → (ins : Ins) → visible_of item ≡ Some ins → a.offset ≡ bytes_of (before item)
      → a.offset < 0x100 → is_return (Some ins) ≡ false → (write : Write) → IsLocal write → (g : Flags) (status : Option Status)
      → FlagsBehind mode image a.flags status g → (z : WordWrite) → IsFreeWord p z
      → (IsAt c ins (at (suc b.place)) → Leads c s.memory ins (gone c (regs_with c.regs write) g (at (suc b.place))) (words_with s.memory.words z))
      → (m1 : Machine) (slots : NatMap ℕ) → Makes m1 (words_with s.memory.words z) slots → (es : List Entry)
      → item_step image m p b item ≡ (with_context m1 p (behind write (suc b.place) status), es)
      → shown_always p (bodies_on s p) c s.memory.words (Some ins) ≡ es → Does
  does item hi ins seen offset near back write local g status known z free runs m1 slots makes es meaning shows =
      let cells : ItemCells code (at b.place) (at (suc b.place)) item ins = cells_of mode image facts b.body body' is b.place item ins hi seen in
      let here : code c.rip ≡ Some (record { ins = ins; next = at (suc b.place); mark = Always })
      = ap code (rip_is near ∙ ap (λ n. at b.place + n) offset) ∙ cells.seen in record {
        cell = record { ins = ins; next = at (suc b.place); mark = Always };
        found = here;
        marked = refl;
        no_return = back;
        write = write;
        local = local;
        place = suc b.place;
        flags = g;
        status = status;
        flags_are = known.0;
        interrupts = b.interrupts;
        masked = known.1 ∙ same_interrupts;
        words = words_with s.memory.words z;
        apic = s.apics p;
        sent = None;
        sends = step.sends_nothing mode image built good facts left s m h p hp;
        runs = runs (at_ins ins (at (suc b.place)) here) (s.apics p) (s.latches p);
        service = b.service;
        apic_is = visible.same_apic mode image built good facts left s m h p hp o body' is write (suc b.place) status;
        names = names_with z;
        allowed = allowed_of z free;
        unknown = unknown_of z free;
        changes = changes_of z;
        w = o.w;
        var = v;
        tasks = x.tasks;
        over = over_of z free;
        machine = with_context m1 p (behind write (suc b.place) status);
        entries = es;
        turns = turns item hi ∙ meaning;
        slots = slots;
        makes = words.makes_context mode image built good facts left s m h p hp o m m1 (words_with s.memory.words z) x.tasks slots
            (behind write (suc b.place) status) makes;
        shows = shows;
      }

  -- ---- operands

  pub ruled : IsRuled image body'
  ruled = body_ruled image good built.accepted.1.kept b.body body' is

  pub bounds : (r : ℕ) → is_local r ≡ true → (6 ≤ r) × (r < 14)
  bounds r q = (leb-true 6 r (and_left _ _ q), ltb-true r 14 (and_right (nat_le 6 r) _ q))

  -- a register is the local that it stands for
  pub is_the_local : (r : ℕ) → is_local r ≡ true → register c r ≡ local b r
  is_the_local r q =
      let n = bounds r q in local_at mode image env c s.memory a.offset a.rax a.rcx a.rdx a.flags a.state b a.means.locals r n.0 n.1

  pub nothing : Makes m s.memory.words x.slots
  nothing = words.makes_nothing mode image built good facts left s m h p hp o [] (none_spares p).free s.memory.words
      (λ y off d. refl) refl refl refl refl refl

  -- the flags that the context knows
  pub known_flags : a.flags ≡ f → FlagsBehind mode image a.flags b.flags a.flags
  known_flags same = (subst (FlagsAre mode image b.flags) (sym same) a.means.flags, refl)

  one : (next : ℕ) → Singles c s.memory next
  one next = singles c s.memory next

  -- ---- items without an instruction before the visible one

  module _ (off : a.offset ≡ 0) (same : a.flags ≡ f) where
    abbrev near : a.offset < 0x100
    near = omega arith

    -- the flags stay
    onward_by : (ins : Ins) (regs : List ℕ) (ws : NatMap ℕ) → Leads c s.memory ins (onward c regs (at (suc b.place))) ws
        → Leads c s.memory ins (gone c regs a.flags (at (suc b.place))) ws
    onward_by ins regs ws l = goes_onward c s.memory ins a.flags regs (at (suc b.place)) ws a.state.flags l

    pub by_set : (d n : ℕ) → item_at (Some body') b.place ≡ Some (Set d n) → Does
    unfolding item_step has_operands visible_of before is_return shown_always
    by_set d n hi =
        let fits = bounds d (and_left _ _ (ruled.operands b.place (Set d n) hi).2) in
        does (Set d n) hi (MovImm d n) refl off near refl (Some (d, n)) fits a.flags b.flags (known_flags same) None tt
        (λ i. onward_by (MovImm d n) _ _ ((one (at (suc b.place))).moves_number d n i)) m x.slots nothing [] refl refl

    pub by_copy : (d r : ℕ) → item_at (Some body') b.place ≡ Some (Copy d r) → Does
    unfolding item_step has_operands visible_of before is_return shown_always
    by_copy d r hi =
        let ops = (ruled.operands b.place (Copy d r) hi).2 in
        let fits = bounds d (and_left _ _ ops) in
        let value : register c r ≡ local b r = is_the_local r (and_right (is_local d) _ ops) in
        does (Copy d r) hi (MovReg d r) refl off near refl (Some (d, local b r)) fits a.flags b.flags (known_flags same) None tt
        (λ i. onward_by (MovReg d r) _ _ (subst (λ n. Leads c s.memory (MovReg d r) (onward c (set c.regs d n) (at (suc b.place))) s.memory.words) value
        ((one (at (suc b.place))).moves d r i))) m x.slots nothing [] refl refl

    pub by_alu : (op : AluOp) (d r : ℕ) → item_at (Some body') b.place ≡ Some (Item.Alu op d r) → Does
    unfolding item_step has_operands visible_of before is_return shown_always
    by_alu op d r hi =
        let ops = (ruled.operands b.place (Item.Alu op d r) hi).2 in
        let fits = bounds d (and_left _ _ ops) in
        let left_is : register c d ≡ local b d = is_the_local d (and_left _ _ ops) in
        let right_is : register c r ≡ local b r = is_the_local r (and_right (is_local d) _ ops) in
        let z : ℕ × Status = alu op (local b d) (local b r) in
        let same_z : alu op (register c d) (register c r) ≡ z = (λ i. alu op (left_is i) (right_is i)) in
        does (Item.Alu op d r) hi (Ins.Alu op d r) refl off near refl (Some (d, z.0)) fits (record a.flags { status = z.1 }) (Some z.1) (refl, refl) None tt
        (λ i. goes_with c s.memory (Ins.Alu op d r) a.flags _ _ _ z.1 a.state.flags
        (subst (λ (y : ℕ × Status). Leads c s.memory (Ins.Alu op d r) (in_status (onward c (set c.regs d y.0) (at (suc b.place))) y.1) s.memory.words) same_z
        ((one (at (suc b.place))).computes op d r i))) m x.slots nothing [] refl refl

    pub by_nop : item_at (Some body') b.place ≡ Some Nop → Does
    unfolding item_step visible_of before is_return shown_always
    by_nop hi =
        does Nop hi Ins.Nop refl off near refl None tt a.flags b.flags (known_flags same) None tt
        (λ i. onward_by Ins.Nop _ _ ((one (at (suc b.place))).rests i)) m x.slots nothing [] refl refl

    -- ---- words of the processor's area

    -- the address of one
    in_area : (n : ℕ) → n < 0x10000 → displaced c.msrs.gs_base (pos n) ≡ pcpu p + n
    in_area n l = ap (λ g. displaced g (pos n)) (a.state.gs ∙ gs_of mode p o.κ o.σ ss o.w extra v f) ∙ displaced_area p n small l

    pub by_cpu : (d : ℕ) → item_at (Some body') b.place ≡ Some (Cpu d) → Does
    unfolding item_step has_operands visible_of before is_return shown_always pcpu_word
    by_cpu d hi =
        let fits = bounds d (ruled.operands b.place (Cpu d) hi).2 in
        let few = good.count.1 in
        let number : s.memory.words (pcpu p + 0) ≡ p = h.fixed (pcpu p + 0) (InArea p 0 small (inl refl) refl)
        ∙ opening_area _ mode image p 0 hp few (omega arith) refl in
        does (Cpu d) hi (GsLoad d (pos 0)) refl off near refl (Some (d, p)) fits a.flags b.flags (known_flags same) None tt
        (λ i. onward_by (GsLoad d (pos 0)) _ _
        (subst (λ n. Leads c s.memory (GsLoad d (pos 0)) (onward c (set c.regs d n) (at (suc b.place))) s.memory.words) number
        ((one (at (suc b.place))).loads_from_gs d (pos 0) (pcpu p + 0) i (in_area 0 (omega arith))
        (area_open image s.memory.regions h.regions_are p 0 hp few refl (omega arith))))) m x.slots nothing [] refl refl

    pub by_slot : (d k : ℕ) → item_at (Some body') b.place ≡ Some (Item.Slot d k) → Does
    unfolding item_step has_operands visible_of before is_return shown_always breaks_slots
    by_slot d k hi =
        let fits = bounds d (and_left _ _ (ruled.operands b.place (Item.Slot d k) hi).2) in
        let low : k < 64 = ltb-true k 64 (not-false _ (ruled.slots b.place (Item.Slot d k) hi)) in
        let few = good.count.1 in
        does (Item.Slot d k) hi (GsLoad d (pos (slot_offset k))) refl off near refl (Some (d, x.slots k)) fits a.flags b.flags (known_flags same) None tt
        (λ i. onward_by (GsLoad d (pos (slot_offset k))) _ _
        (subst (λ n. Leads c s.memory (GsLoad d (pos (slot_offset k))) (onward c (set c.regs d n) (at (suc b.place))) s.memory.words)
        ((step.on mode image built good facts left s m h p hp).slots k low)
        ((one (at (suc b.place))).loads_from_gs d (pos (slot_offset k)) (pcpu p + slot_offset k) i (in_area (slot_offset k) (omega arith))
        (area_open image s.memory.regions h.regions_are p (slot_offset k) hp few (omega arith) (omega arith))))) m x.slots nothing [] refl refl

    pub by_put : (k r : ℕ) → item_at (Some body') b.place ≡ Some (Put k r) → Does
    unfolding item_step has_operands visible_of before is_return shown_always breaks_slots
    by_put k r hi =
        let value : register c r ≡ local b r = is_the_local r (and_right (is_word k) (is_local r) (ruled.operands b.place (Put k r) hi).2) in
        let low : k < 64 = ltb-true k 64 (not-false _ (ruled.slots b.place (Put k r) hi)) in
        let few = good.count.1 in
        let z : Named = named.Slot p k in
        does (Put k r) hi (GsStore (pos (slot_offset k)) r) refl off near refl None tt a.flags b.flags (known_flags same) (Some (z, local b r))
        (words.slot_free mode image built good facts left s m h p hp o k low)
        (λ i. onward_by (GsStore (pos (slot_offset k)) r) _ _
        (subst (λ n. Leads c s.memory (GsStore (pos (slot_offset k)) r) (onward c c.regs (at (suc b.place))) (put_at s.memory.words (pcpu p + slot_offset k) n))
        value
        ((one (at (suc b.place))).stores_to_gs (pos (slot_offset k)) r (pcpu p + slot_offset k) i (in_area (slot_offset k) (omega arith))
        (area_open image s.memory.regions h.regions_are p (slot_offset k) hp few (omega arith) (omega arith)))))
        (with_slot m p k (local b r)) (put_at x.slots k (local b r))
        (words.makes_slot mode image built good facts left s m h p hp o k (local b r) low) [] refl
        (ap (λ t. if t then Entry.Log p (register c r) ∷ [] else []) (ne_eqb (slot_offset k) 0x28 (λ e. omega arith)))

    pub by_log : (r : ℕ) → item_at (Some body') b.place ≡ Some (Log r) → Does
    unfolding item_step has_operands visible_of before is_return shown_always
    by_log r hi =
        let value : register c r ≡ local b r = is_the_local r (ruled.operands b.place (Log r) hi).2 in
        let few = good.count.1 in
        let z : Named = Port p in
        let free : IsFree p z = record { name = small; written = small; own = λ q d. own_word p q d; calls = refl; private = refl } in
        does (Log r) hi (GsStore (pos 0x28) r) refl off near refl None tt a.flags b.flags (known_flags same) (Some (z, local b r))
        free
        (λ i. onward_by (GsStore (pos 0x28) r) _ _
        (subst (λ n. Leads c s.memory (GsStore (pos 0x28) r) (onward c c.regs (at (suc b.place))) (put_at s.memory.words (pcpu p + 0x28) n)) value
        ((one (at (suc b.place))).stores_to_gs (pos 0x28) r (pcpu p + 0x28) i (in_area 0x28 (omega arith))
        (area_open image s.memory.regions h.regions_are p 0x28 hp few refl (omega arith))))) m x.slots
        (words.makes_nothing mode image built good facts left s m h p hp o (z ∷ []) (are_names p z free) _
        (words.writes_name mode image built good facts left s m h p hp o z (local b r)) refl refl refl refl refl)
        (Entry.Log p (local b r) ∷ []) refl (ap (λ n. Entry.Log p n ∷ []) value)

    -- ---- jumps

    -- one that leads to an item
    to_item : (item : Item) → item_at (Some body') b.place ≡ Some item
        → (ins : Ins) → code (at b.place) ≡ Some (record { ins = ins; next = at (suc b.place); mark = Always })
        → is_return (Some ins) ≡ false → (t : ℕ)
        → (IsAt c ins (at (suc b.place)) → Leads c s.memory ins (onward c c.regs (at t)) s.memory.words)
        → item_step image m p b item ≡ (with_context m p (behind None t b.flags), []) → shown_always p (bodies_on s p) c s.memory.words (Some ins) ≡ [] → Does
    to_item item hi ins cell back t runs meaning shows =
        let here : code c.rip ≡ Some (record { ins = ins; next = at (suc b.place); mark = Always })
        = ap code (rip_is near ∙ (let z : at b.place + a.offset ≡ at b.place = omega arith in z)) ∙ cell in record {
          cell = record { ins = ins; next = at (suc b.place); mark = Always };
          found = here;
          marked = refl;
          no_return = back;
          write = None;
          local = tt;
          place = t;
          flags = a.flags;
          status = b.flags;
          flags_are = (known_flags same).0;
          interrupts = b.interrupts;
          masked = same_interrupts;
          words = s.memory.words;
          apic = s.apics p;
          sent = None;
          sends = step.sends_nothing mode image built good facts left s m h p hp;
          runs = goes_onward c s.memory ins a.flags c.regs (at t) s.memory.words a.state.flags (runs (at_ins ins (at (suc b.place)) here))
              (s.apics p) (s.latches p);
          service = b.service;
          apic_is = visible.same_apic mode image built good facts left s m h p hp o body' is None t b.flags;
          names = [];
          allowed = (none_spares p).free;
          unknown = step.unknown_none o.below;
          changes = λ y off d. refl;
          w = o.w;
          var = v;
          tasks = x.tasks;
          over = over_of None tt;
          machine = with_context m p (behind None t b.flags);
          entries = [];
          turns = turns item hi ∙ meaning;
          slots = x.slots;
          makes = words.makes_context mode image built good facts left s m h p hp o m m s.memory.words x.tasks x.slots (behind None t b.flags) nothing;
          shows = shows;
        }

    canonical_at : (t : ℕ) → is_canonical (at t) ≡ true
    canonical_at t = (facts.item_small b.body t body' is).0

    pub by_goto : (t : ℕ) → item_at (Some body') b.place ≡ Some (Goto t) → Does
    unfolding item_step is_return shown_always jump_target
    by_goto t hi =
        let inside : t < length (body_items body') = (ruled.leads b.place (Goto t) t hi refl).0 in
        let j : JumpCell code (at b.place) (at (suc b.place)) (at t) (λ d. Jmp d) = goto_cell mode image facts b.body body' is b.place t hi inside in
        to_item (Goto t) hi (Jmp j.distance) j.seen refl t
        (λ i. subst (λ n. Leads c s.memory (Jmp j.distance) (onward c c.regs n) s.memory.words) j.leads
        ((one (at (suc b.place))).jumps j.distance i (ap is_canonical j.leads ∙ canonical_at t)))
        refl (ap (λ r. if r then shown_again p (bodies_on s p) s.memory.words ∷ [] else [])
        (step.outside mode image built good facts left s m h p hp o a.act))

    -- the flags are known at a conditional jump
    flags_at : (cond : Cond) (t : ℕ) → item_at (Some body') b.place ≡ Some (Jcc cond t) → (st : Status) × (b.flags ≡ Some st)
    unfolding has_flags_for
    flags_at cond t hi =
        let l : IsLegalOn image (knows image m) b o.below = (subst (AreLegal image (knows image m)) o.bodies (h.legal.each p).bodies).0 in
        let same_body : l.body ≡ body' = (let e : Some l.body ≡ Some body' = sym l.is_body ∙ is in cc) in
        told b.flags (ap (λ o. has_flags_for o b.flags) (sym (ap (λ (y : Body). slice_get (body_items y) b.place) same_body ∙ hi)) ∙ l.at.flags)
      where
        told : (o : Option Status) → has_flags_for (Some (Jcc cond t)) o ≡ true → (st : Status) × (o ≡ Some st)
        told None q = absurd (cc)
        told (Some st) q = (st, refl)

    pub by_jcc : (cond : Cond) (t : ℕ) → item_at (Some body') b.place ≡ Some (Jcc cond t) → Does
    unfolding item_step is_return shown_always jump_target
    by_jcc cond t hi =
        let k = flags_at cond t hi in
        let inside : t < length (body_items body') = (ruled.leads b.place (Jcc cond t) t hi refl).0 in
        let j : JumpCell code (at b.place) (at (suc b.place)) (at t) (λ d. Ins.Jcc cond d)
        = jcc_cell mode image facts b.body body' is b.place cond t hi inside in
        let status : a.flags.status ≡ k.0 = ap (λ (g : Flags). g.status) same ∙ subst (λ o. FlagsAre mode image o f) k.1 a.means.flags in
        let decides : holds cond (flags_of c.flags).status ≡ holds cond k.0
        = ap (λ n. holds cond (flags_of n).status) a.state.flags ∙ ap (λ (g : Flags). holds cond g.status) (flags_of-flags_word a.flags)
        ∙ ap (holds cond) status in
        by_test j k.0 k.1 (holds cond k.0) refl decides
      where
        by_test : (j : JumpCell code (at b.place) (at (suc b.place)) (at t) (λ d. Ins.Jcc cond d)) (st : Status) → b.flags ≡ Some st → (q : Bool)
            → holds cond st ≡ q → holds cond (flags_of c.flags).status ≡ holds cond st → Does
        by_test j st known true q decides =
            to_item (Jcc cond t) hi (Ins.Jcc cond j.distance) j.seen refl t
            (λ i. subst (λ n. Leads c s.memory (Ins.Jcc cond j.distance) (onward c c.regs n) s.memory.words)
            (ap (λ r. if r then displaced (at (suc b.place)) j.distance else at (suc b.place)) (decides ∙ q) ∙ j.leads)
            ((one (at (suc b.place))).branches cond j.distance i (ap is_canonical j.leads ∙ canonical_at t)))
            (ap (λ r. (with_context m p (if r then at_place b t else onward_of b), [])) (ap (taken cond) known ∙ q)) refl
        by_test j st known false q decides =
            to_item (Jcc cond t) hi (Ins.Jcc cond j.distance) j.seen refl (suc b.place)
            (λ i. subst (λ n. Leads c s.memory (Ins.Jcc cond j.distance) (onward c c.regs n) s.memory.words)
            (ap (λ r. if r then displaced (at (suc b.place)) j.distance else at (suc b.place)) (decides ∙ q))
            ((one (at (suc b.place))).branches cond j.distance i (ap is_canonical j.leads ∙ canonical_at t)))
            (ap (λ r. (with_context m p (if r then at_place b t else onward_of b), [])) (ap (taken cond) known ∙ q)) refl
