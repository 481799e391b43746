-- A turn of `bp`: INT 3 is delivered to the body, which goes on at the next item.
use Rattle.std.proofs.Common.{◌≡◌, ℕ, suc, ◌+◌, ◌%◌, ◌<◌, ◌≤◌, Bool, true, Option, Some, None, refl, sym, ap, ◌∙◌, subst, arith}
use Rattle.std.specs.Prelude.{slice_get, is_some}
use Rattle.ev_isa.specs.Word.{NatMap}
use Rattle.ev_isa.specs.Flags.{Flags}
use Rattle.ev_isa.specs.Spelling.{spelling}
use Rattle.ev_isa.specs.declared.instruction.Ins.TheVariants.{Int3}
use Rattle.ev_isa.specs.declared.mode.Mode.{Mode}
use Rattle.ev_event.specs.declared.event.Event.{Event}
use Rattle.ev_event.specs.declared.event.EventType as kinds
use Rattle.ev_event.specs.Event.{software}
use Rattle.ev_body.specs.declared.key.Side.TheVariants.{Kernel}
use Rattle.ev_body.specs.declared.item.Item.{Item}
use Rattle.ev_body.specs.declared.body.Body.{Body}
use Rattle.ev_body.specs.declared.image.Image.{Image}
use Rattle.ev_body.specs.Bodies.{body_items, first_body, key_number}
use Rattle.ev_body.specs.WellFormed.{IsImage}
use Rattle.ev_asm.specs.Assembly.{size}
use Rattle.ev_listing.specs.Expansion.{item_address, expansion}
use Rattle.ev_state.specs.Processor.{Processor}
use Rattle.ev_apic.specs.declared.apic.Apic.{Apic}
use Rattle.ev_exec.specs.Exec.{Special, exec}
use Rattle.ev_proc.specs.ProcessorStep.{executed, delivering, special}
use Rattle.ev_abstract.specs.Chain.{is_breakpoint}
use Rattle.ev_abstract.specs.Context.{BodyContext}
use Rattle.ev_abstract.specs.Context as context
use Rattle.ev_abstract.specs.ItemMeaning.{raised, item_step, replace_last, with_context}
use Rattle.ev_abstract.specs.Machine.{Machine, processor, with_processor}
use Rattle.ev_abstract.specs.Machine as abstract
use Rattle.ev_abstract.specs.Run.{item_at, turn}
use Rattle.ev_law.proofs.Lists.{any_at}
use Rattle.ev_law.proofs.Required.{body_faults_have_bodies}
use Rattle.ev_listing.specs.Marks.{Always}
use Rattle.ev_concrete.specs.ConcreteRun.{System}
use Rattle.ev_built.specs.Built.{IsBuilt}
use Rattle.ev_symbolic.specs.Value.{M}
use Rattle.ev_symbolic.specs.Agrees.{Env, Code, Fits, Agrees}
use Rattle.ev_symbolic.proofs.Sound.{executes}
use Rattle.ev_symbolic.proofs.Blocks.{begins}
use Rattle.ev_blocks.specs.Items as spots
use Rattle.ev_blocks.specs.Blocks.{block}
use Rattle.ev_blocks.specs.Blocks as blocks
use Rattle.ev_table.specs.Table.{code_table}
use Rattle.ev_relation.specs.Filling.{first_fill}
use Rattle.ev_relation.specs.Active.{item_place, address_of_item, here, FlagsAre, Active, InItem}
use Rattle.ev_relation.specs.Relation.{body_edges, switches_at, StandsOn, Stands}
use Rattle.ev_relation.specs.Step.{Simulated}
use Rattle.ev_relation.proofs.Facts.{Facts}
use Rattle.ev_relation.proofs.Maps.{at_same, at_other}
use Rattle.ev_relation.proofs.CallKinds.{origin_of, plain_knows}
use Rattle.ev_relation.proofs.Fits.{fits_at, opens_at}
use Rattle.ev_relation.proofs.Spots.{few_edges}
use Rattle.ev_body_steps.proofs.Bodies.{body, at_the_item, means_at, saved_again}
use Rattle.ev_relation.proofs.Depth.{behind_repeat}
use Rattle.ev_body_steps.proofs.ItemState.{opening_of, unblocked, with_registers, ItemState, gone, lands, any_registers, any_known, beyond_registers}
use Rattle.ev_body_steps.proofs.ItemLocals.{locals_behind, calls_behind}
use Rattle.ev_body_steps.proofs.ItemVisible as visible
use Rattle.ev_body_steps.proofs.BodyRaising.{break_event}
use Rattle.ev_body_steps.proofs.BodyTurn as turns
use Rattle.ev_body_steps.proofs.KernelStep as step

-- the event
abbrev breakpoint : Event
breakpoint = software kinds.TheVariants.Int3 3 1

the_some : {X : Type 0} (o : Option X) → is_some o ≡ true → (x : X) × (o ≡ Some x)
the_some None h = absurd (cc)
the_some (Some x) h = (x, refl)

module _ (mode : Mode) (image : Image) (built : IsBuilt image) (good : IsImage image) (facts : Facts mode image)
    (left : NatMap ℕ) (s : System) (m : Machine) (h : Stands mode image left s m) (p : ℕ) (hp : p < image.processors)
    (o : step.Top mode image built good facts left s m h p hp) (body' : Body) (is : slice_get image.bodies o.b.body ≡ Some body') where
  abbrev code : Code
  code = code_table mode image

  abbrev c : Processor
  c = s.cpus p

  abbrev x : abstract.Processor
  x = processor m p

  abbrev on : StandsOn mode image p (left p) s x
  on = step.on mode image built good facts left s m h p hp

  -- the next item's address
  abbrev next : ℕ
  next = item_address mode o.b.body body' (suc o.b.place)

  module _ (ss : ℕ) (extra v : ℕ → ℕ) (f : Flags) (a : visible.AtVisible mode image built good facts left s m h p hp o body' is ss extra v f)
      (off : a.offset ≡ 0) (same : a.flags ≡ f) (hi : item_at (Some body') o.b.place ≡ Some Item.Bp) where
    abbrev further : ℕ → ℕ
    further k = item_place mode image o.b.body (suc o.b.place)

    -- the body's variables behind it are its registers
    abbrev v' : ℕ → ℕ
    v' = with_registers c.regs v

    abbrev u : Env
    u = here mode p o.κ o.σ ss o.w further v' a.flags

    -- at the next item, with any CR2
    stood : (n : ℕ) → Active mode image p (body_edges mode image) o.κ o.σ on.frame (switches_at mode image on.switching o.below) (first_fill on.fills) o.w
        (context.onward o.b)
        (record c { rip = next; cr2 = n }) s.memory
    stood n =
        let way = at_the_item mode in
        let next_is : item_place mode image o.b.body (suc o.b.place) ≡ next = ap (address_of_item mode o.b.body (suc o.b.place)) is in
        let seat = step.in_seat mode image built good facts left s m h p hp o in
        let plain = step.plain_kind mode image built good facts left s m h p hp o in
        let d : Processor = record c { cr2 = n } in
        let there : ItemState mode (here mode p o.κ o.σ ss o.w extra v f) d s.memory a.offset a.rax a.rcx a.rdx a.flags = record {
          regs = a.state.regs;
          rip = a.state.rip;
          flags = a.state.flags;
          gs = a.state.gs;
          kernel_gs = a.state.kernel_gs;
          selector = a.state.selector;
          levels = a.state.levels;
          blocked = a.state.blocked;
          rest = a.state.rest;
          words = a.state.words;
        } in
        let agrees = lands mode (here mode p o.κ o.σ ss o.w extra v f) u d s.memory a.offset a.rax a.rcx a.rdx a.flags there
        (any_registers mode p o.κ o.σ ss o.w o.w extra further v v f a.flags c.regs refl refl refl) refl c.regs a.long refl v refl next next_is
        (facts.item_small o.b.body (suc o.b.place) body' is).1 s.memory.words
        (any_known mode p o.κ o.σ ss o.w extra further v f a.flags c.regs s.memory.words a.state.words)
        (opens_at mode image p o.σ seat hp good.count.1 o.κ ss o.w further v' a.flags (body mode spots.AtItem) way.over s.memory h.regions_are) in
        let spread = facts.item_range o.b.body (suc o.b.place) body' is in
        let fit : Fits code u (block mode (body mode spots.AtItem))
        = fits_at mode image p o.σ seat hp good.count.1 o.κ ss o.w further v' a.flags facts (body mode spots.AtItem) way.over
        (step.fred_is mode image built good facts left s m h p hp o) (subst (λ y. (0xffffffff82000000 ≤ y) × (y + 0x100 ≤ M)) (sym next_is) spread) tt
        (way.told u) in
        let item : InItem mode image (origin_of o.κ) u o.w (context.onward o.b) s.memory.words = record {
          saved = saved_again mode image (origin_of o.κ) (here mode p o.κ o.σ ss o.w extra v f) u o.w (beyond_registers c.regs v) refl refl refl a.means.saved;
          locals = locals_behind mode image (here mode p o.κ o.σ ss o.w extra v f) d s.memory a.offset a.rax a.rcx a.rdx a.flags there o.b a.means.locals None
              tt;
          flags = subst (FlagsAre mode image o.b.flags) (sym same) a.means.flags;
          calls = calls_behind mode image (here mode p o.κ o.σ ss o.w extra v f) d s.memory a.offset a.rax a.rcx a.rdx a.flags there o.b a.means.locals None tt
              s.memory.words (λ k l j lj. refl) a.means.calls;
        } in record {
          stands = record {
            spot = body mode spots.AtItem;
            k = 0;
            extra = further;
            var = v';
            flags = a.flags;
            ss = ss;
            ss_is = a.ss_is;
            masked = step.masks_flags mode image built good facts left s m h p hp o a.flags a.state.flags;
            within = omega arith;
            enough = few_edges mode image (body mode spots.AtItem) way.over refl 0;
            at = begins code (block mode (body mode spots.AtItem)) u (record c { rip = next; cr2 = n }) s.memory fit
                (subst (λ y. Agrees u (block mode (body mode spots.AtItem)).ground (opening_of mode) y s.memory) whole agrees);
            long = a.long;
          };
          switches = way.off ∙ sym o.off;
          fills = sym (ap is_some a.unfilled);
          knows = plain_knows mode o.κ on.frame plain (blocks.holds (body mode spots.AtItem));
          means = means_at mode image o.κ plain spots.AtItem u o.w (context.onward o.b) (first_fill on.fills) s.memory.words (item, refl);
        }
      where
        whole : gone (record c { cr2 = n }) c.regs a.flags next ≡ record c { rip = next; cr2 = n }
        whole = λ i. record c { rip = next; cr2 = n; flags = sym a.state.flags i; sti_blocked = sym (a.state.blocked ∙ unblocked mode) i }

    -- the cell
    here_is : c.rip ≡ item_address mode o.b.body body' o.b.place
    here_is = a.state.rip ∙ ap (λ k. (extra 20 + k) % M) off ∙ ap (λ k. (k + 0) % M) (a.place ∙ ap (address_of_item mode o.b.body o.b.place) is)
        ∙ (let l = (facts.item_small o.b.body o.b.place body' is).1 in
        let q : (item_address mode o.b.body body' o.b.place + 0) % M ≡ item_address mode o.b.body body' o.b.place = omega arith in q)

    behind : next ≡ c.rip + 1
    unfolding expansion size spelling
    behind = facts.follow o.b.body o.b.place body' Item.Bp hi ∙ ap (λ n. n + (1 + 0)) (sym here_is) ∙ (let q : c.rip + (1 + 0) ≡ c.rip + 1 = omega arith in q)

    cell : code c.rip ≡ Some (record { ins = Int3; next = item_address mode o.b.body body' o.b.place + 1; mark = Always })
    unfolding expansion size spelling
    cell = ap code here_is ∙ (facts.items o.b.body o.b.place body' Item.Bp is hi).0

    -- INT 3 is delivered, and saves the next RIP
    runs : (ap' : Apic) (nmi : Bool) → executed c ap' s.memory nmi (Some Int3) ≡ delivering c ap' s.memory nmi breakpoint next
    unfolding special spelling exec
    runs ap' nmi = executes c s.memory Int3 (c.rip + 1) Special a.kernel refl refl ap' nmi ∙ ap (delivering c ap' s.memory nmi breakpoint) (sym behind)

    -- an image that has the item has a body for the event
    found : (n : ℕ) × (first_body 0 image.bodies 3 Kernel ≡ Some n)
    unfolding is_breakpoint key_number
    found = the_some (first_body 0 image.bodies 3 Kernel)
        ((body_faults_have_bodies image o.b.body body' good built.accepted is).0 (any_at is_breakpoint (body_items body') o.b.place Item.Bp hi refl))

    turned : turn image m p ≡ raised image (with_context m p (context.onward o.b)) p breakpoint
    unfolding item_step
    turned = step.turns mode image built good facts left s m h p hp o (λ on. a.state.blocked ∙ unblocked mode) Item.Bp (ap (λ y. item_at y o.b.place) is ∙ hi)

    pub by_bp : Simulated mode image left s m p
    by_bp =
        let spread = facts.item_range o.b.body (suc o.b.place) body' is in
        turns.raise_step mode image built good facts left s m h p hp o (context.onward o.b) next breakpoint found.0 (record {
          cell = record { ins = Int3; next = item_address mode o.b.body body' o.b.place + 1; mark = Always };
          is = cell;
          marked = refl;
          runs = runs;
          event = break_event;
          serves_none = refl;
          found = found.1;
          same_body = refl;
          same_service = refl;
          same_calls = refl;
          canonical = (facts.item_small o.b.body (suc o.b.place) body' is).0;
          outside = step.outside mode image built good facts left s m h p hp o a.act ∙ sym (behind_repeat next (let low = spread.0 in omega arith));
          inside = let low = spread.0 in omega arith;
          stood = stood;
          machine = with_context m p (context.onward o.b);
          own = at_same m.processors p p _ refl ∙ ap (λ bs. record x { bodies = replace_last (context.onward o.b) bs }) o.bodies;
          others = λ q e. at_other m.processors p q _ e;
          words = refl;
          present = refl;
          cells = refl;
          turns = turned;
        }) (turns.at_item mode image built good facts left s m h p hp o ss a.ss_is extra v f a.offset a.rax a.rcx a.rdx a.flags a.state a.long next)
