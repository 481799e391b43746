-- The items that change IF. `cli` is an instruction that leads to the next item. Behind that of `sti` no interrupt comes for one more, with which its code
-- ends.
use Rattle.std.proofs.Common.{◌≡◌, ℕ, suc, ◌+◌, ◌<◌, ◌≤◌, Bool, true, false, not, [], ◌∷◌, length, Option, Some, None, refl, sym, ap, ◌∙◌, subst, arith}
use Rattle.std.specs.Prelude.{is_some, slice_get, if◌then◌else◌, ◌&&◌, ◌%◌, ◌^◌, nat_le, nat_lt}
use Rattle.std.specs.List.{list_any}
use Rattle.ev_isa.specs.Word.{NatMap}
use Rattle.ev_isa.specs.Flags.{Status, Flags, flags_of, flags_word}
use Rattle.ev_isa.specs.Spelling.{spelling, four_bytes}
use Rattle.ev_isa.specs.declared.instruction.Ins.TheVariants.{Sti, Cli, Nop}
use Rattle.ev_isa.specs.declared.mode.Mode.{Mode}
use Rattle.ev_isa.specs.declared.mode.Mode.TheVariants.{Idt, Fred}
use Rattle.ev_asm.specs.Assembly.{size}
use Rattle.ev_body.specs.declared.item.Item.{Item}
use Rattle.ev_body.specs.declared.body.Body.{Body}
use Rattle.ev_body.specs.declared.image.Image.{Image}
use Rattle.ev_body.specs.WellFormed.{IsImage}
use Rattle.ev_event.specs.Event.{gp}
use Rattle.ev_listing.specs.AddressMap.{nmi_entry, repeat_entry}
use Rattle.ev_listing.specs.Expansion.{item_address, expansion}
use Rattle.ev_state.specs.Processor.{Processor, is_user, interrupts_on, with_interrupts}
use Rattle.ev_state.proofs.FlagLaws.{flags_of-flags_word}
use Rattle.ev_mem.specs.Memory.{Memory}
use Rattle.ev_apic.specs.declared.apic.Apic.{Apic}
use Rattle.ev_exec.specs.Exec.{Raise, Done, exec, at_next, in_interrupts}
use Rattle.ev_proc.specs.ProcessorStep.{executed, ran}
use Rattle.ev_abstract.specs.Context.{BodyContext, onward}
use Rattle.ev_abstract.specs.Machine.{Machine, processor}
use Rattle.ev_abstract.specs.Machine as abstract
use Rattle.ev_abstract.specs.ItemMeaning.{item_step, with_context}
use Rattle.ev_abstract.specs.Run.{turn, item_at}
use Rattle.ev_listing.specs.Marks.{Always}
use Rattle.ev_concrete.specs.ConcreteRun.{System, is_return}
use Rattle.ev_concrete.specs.Depth.{is_in_repeat, is_jump}
use Rattle.ev_concrete.specs.Shown.{shown_always}
use Rattle.ev_built.specs.Built.{IsBuilt}
use Rattle.ev_law.specs.Legal.{Legal, AreLegal, knows}
use Rattle.ev_symbolic.specs.Value.{M}
use Rattle.ev_symbolic.specs.State.{SS}
use Rattle.ev_symbolic.specs.Run.{brun}
use Rattle.ev_symbolic.specs.Agrees.{Env, eval, eval_flags, Code, Fits, Open, Agrees, At, Stands as LinesStand, Cell, edge_cell, with_words}
use Rattle.ev_symbolic.specs.Listed.{lines_at}
use Rattle.ev_symbolic.specs.Openings.{at_base}
use Rattle.ev_symbolic.specs.Names.{item_tag}
use Rattle.ev_symbolic.proofs.Blocks.{begins, at_end}
use Rattle.ev_symbolic.proofs.Sound.{executes}
use Rattle.ev_blocks.specs.Shapes.{FredFrame, IdtFrame}
use Rattle.ev_blocks.specs.Items.{AtItem, BehindSti, behind_sti}
use Rattle.ev_blocks.specs.Blocks.{Spot, block, edges}
use Rattle.ev_blocks.specs.Blocks as blocks
use Rattle.ev_blocks.proofs.Falls.{edges_fall}
use Rattle.ev_table.specs.Table.{code_table}
use Rattle.ev_activation.specs.Seat.{Kind, Seat}
use Rattle.ev_relation.specs.Filling.{first_fill}
use Rattle.ev_relation.specs.Active.{item_place, address_of_item, here, IsKernelSs, FlagsAre, HasNextPlace, InItem, Active}
use Rattle.ev_relation.specs.Relation.{IsContext, ApicIs, switches_at, Chain, StandsOn, Stands, serves}
use Rattle.ev_relation.specs.Step.{Simulated}
use Rattle.ev_relation.proofs.Facts.{Facts}
use Rattle.ev_relation.proofs.Spots.{is_spot, few_edges}
use Rattle.ev_relation.proofs.Standing.{went_stays}
use Rattle.ev_body_steps.proofs.Bodies.{body, at_the_item, means_at, nothing_open, saved_again}
use Rattle.ev_relation.proofs.CallKinds.{origin_of, plain_knows}
use Rattle.ev_relation.proofs.Depth.{goes_on_inside}
use Rattle.ev_relation.proofs.After.{none_spares, apic_again}
use Rattle.ev_relation.proofs.Legality.{turn_legal, off_at_sti}
use Rattle.ev_body_steps.proofs.ItemCells.{before, visible_of, edges_stand, ItemCells}
use Rattle.ev_body_steps.proofs.ItemCode.{cells_of}
use Rattle.ev_body_steps.proofs.ItemLocals.{locals_behind, calls_behind}
use Rattle.ev_body_steps.proofs.ItemState.{with_registers, opening_of, unblocked, gone, lands, any_registers, any_known, beyond_registers}
use Rattle.ev_body_steps.proofs.ItemVisible.{legal_context}
use Rattle.ev_body_steps.proofs.ItemVisible as visible
use Rattle.ev_body_steps.proofs.ItemWords as words
use Rattle.ev_body_steps.proofs.ItemSteps as steps
use Rattle.ev_body_steps.proofs.KernelStep as step

-- ---- what the two instructions do

-- RFLAGS with another IF
with_if : (c : Processor) (f : Flags) (on : Bool) → c.flags ≡ flags_word f → with_interrupts c.flags on ≡ flags_word (record f { interrupts = on })
with_if c f on is =
    ap (λ n. flags_word (record (flags_of n) { interrupts = on })) is
    ∙ ap (λ (g : Flags). flags_word (record g { interrupts = on })) (flags_of-flags_word f)

switches_off : (c : Processor) (m : Memory) (next : ℕ) (f : Flags) → is_user c ≡ false → c.rip + length (spelling Cli) ≡ next → c.flags ≡ flags_word f
    → (a : Apic) (nmi : Bool) → executed c a m nmi (Some Cli) ≡ ran (gone c c.regs (record f { interrupts = false }) next) a m.words nmi
unfolding exec
switches_off c m next f hu ends is a nmi =
    executes c m Cli next (Done (in_interrupts (at_next c next) false) m.words) hu ends
    (ap (λ t. if t then Raise (gp 0) else Done (in_interrupts (at_next c next) false) m.words) hu) a nmi
    ∙ ap (λ n. ran (record c { rip = next; flags = n; sti_blocked = false }) a m.words nmi) (with_if c f false is)

-- where IF was off, STI blocks interrupts
switches_on : (c : Processor) (m : Memory) (next : ℕ) (f : Flags) → is_user c ≡ false → c.rip + length (spelling Sti) ≡ next → c.flags ≡ flags_word f
    → interrupts_on c ≡ false → (a : Apic) (nmi : Bool)
    → executed c a m nmi (Some Sti) ≡ ran (record (gone c c.regs (record f { interrupts = true }) next) { sti_blocked = true }) a m.words nmi
unfolding exec
switches_on c m next f hu ends is off a nmi =
    executes c m Sti next (Done (in_interrupts (at_next c next) true) m.words) hu ends
    (ap (λ t. if t then Raise (gp 0) else Done (in_interrupts (at_next c next) true) m.words) hu) a nmi
    ∙ (λ i. ran (record c { rip = next; flags = with_if c f true is i; sti_blocked = not (off i) }) a m.words nmi)

-- ---- the block behind `sti`

-- it opens behind STI as an item does, but for what is blocked
opens_behind : (mode : Mode) (u : Env) (d : Processor) (m : Memory) (a : ℕ) → Agrees u (block mode (body mode AtItem)).ground (opening_of mode) d m
    → u.base item_tag ≡ a → a + 16 < 2 ^ 64
    → Agrees u (block mode (body mode BehindSti)).ground (block mode (body mode BehindSti)).opening (record d { rip = a + 1; sti_blocked = true }) m
opens_behind Fred u d m a g base small = record {
  regs = g.regs;
  rip = (let z : a + 1 ≡ (a + 1) % M = omega arith in z) ∙ ap (λ x. (x + 1) % M) (sym base);
  flags = g.flags;
  gs = g.gs;
  kernel_gs = g.kernel_gs;
  selector = g.selector;
  cr2 = g.cr2;
  levels = g.levels;
  blocked = refl;
  rest = g.rest;
  words = g.words;
  known_open = g.known_open;
  shared_open = g.shared_open;
}
opens_behind Idt u d m a g base small = record {
  regs = g.regs;
  rip = (let z : a + 1 ≡ (a + 1) % M = omega arith in z) ∙ ap (λ x. (x + 1) % M) (sym base);
  flags = g.flags;
  gs = g.gs;
  kernel_gs = g.kernel_gs;
  selector = g.selector;
  cr2 = g.cr2;
  levels = g.levels;
  blocked = refl;
  rest = g.rest;
  words = g.words;
  known_open = g.known_open;
  shared_open = g.shared_open;
}

begins_behind : (mode : Mode) (code : Code) (u : Env) (d : Processor) (m : Memory) → Fits code u (block mode (body mode AtItem))
    → LinesStand code u (lines_at (at_base item_tag behind_sti) (Nop ∷ []))
    → Agrees u (block mode (body mode BehindSti)).ground (block mode (body mode BehindSti)).opening d m
    → At code (block mode (body mode BehindSti)) 0 u d m
begins_behind Fred code u d m fits stand agrees =
    begins code (block Fred (body Fred BehindSti)) u d m (record { ground = fits.ground; spaced = fits.spaced; stands = stand }) agrees
begins_behind Idt code u d m fits stand agrees =
    begins code (block Idt (body Idt BehindSti)) u d m (record { ground = fits.ground; spaced = fits.spaced; stands = stand }) agrees

pub behind_steps : (mode : Mode) → (block mode (body mode BehindSti)).steps ≡ 1
behind_steps Fred = refl
behind_steps Idt = refl

behind_is_spot : (mode : Mode) → is_spot mode (body mode BehindSti) ≡ true
behind_is_spot Fred = refl
behind_is_spot Idt = refl

behind_plain : (mode : Mode) → blocks.switches (body mode BehindSti) ≡ false
behind_plain Fred = refl
behind_plain Idt = refl

behind_falls : (mode : Mode) → edges mode (body mode AtItem) 0 ≤ edges mode (body mode BehindSti) 1
behind_falls Fred = (edges_fall Fred).sti FredFrame
behind_falls Idt = (edges_fall Idt).sti IdtFrame

-- where it ends
abbrev behind_end : Mode → SS
behind_end mode = record (opening_of mode) { rip = at_base item_tag 2 }

behind_run : (mode : Mode) → brun (block mode (body mode BehindSti)) 1 ≡ Some (behind_end mode)
unfolding spelling four_bytes
behind_run Fred = refl
behind_run Idt = refl

-- there the next item opens
opens_next : (mode : Mode) (code : Code) (p : ℕ) (κ : Kind) (σ : Seat) (ss : ℕ) (w : Processor) (extra extra' v : ℕ → ℕ) (f : Flags) (c : Processor)
    (m : Memory) → At code (block mode (body mode BehindSti)) 1 (here mode p κ σ ss w extra v f) c m → extra 20 + 2 ≡ extra' 20 → extra' 20 + 16 < 2 ^ 64
    → Open (here mode p κ σ ss w extra' v f) (block mode (body mode AtItem)).ground.known m.regions
    → Agrees (here mode p κ σ ss w extra' v f) (block mode (body mode AtItem)).ground (opening_of mode) c m
unfolding eval eval_flags
opens_next Fred code p κ σ ss w extra extra' v f c m at next small windows =
    let a = at_end code (block Fred (body Fred BehindSti)) 1 (behind_end Fred) (behind_run Fred) (here Fred p κ σ ss w extra v f) c m at in record {
      regs = a.regs;
      rip = a.rip ∙ (let z : (extra 20 + 2) % M ≡ (extra' 20 + 0) % M = omega arith in z);
      flags = a.flags;
      gs = a.gs;
      kernel_gs = a.kernel_gs;
      selector = a.selector;
      cr2 = tt;
      levels = a.levels;
      blocked = a.blocked;
      rest = a.rest;
      words = a.words;
      known_open = windows;
      shared_open = nothing_open (here Fred p κ σ ss w extra' v f) m;
    }
opens_next Idt code p κ σ ss w extra extra' v f c m at next small windows =
    let a = at_end code (block Idt (body Idt BehindSti)) 1 (behind_end Idt) (behind_run Idt) (here Idt p κ σ ss w extra v f) c m at in record {
      regs = a.regs;
      rip = a.rip ∙ (let z : (extra 20 + 2) % M ≡ (extra' 20 + 0) % M = omega arith in z);
      flags = a.flags;
      gs = a.gs;
      kernel_gs = a.kernel_gs;
      selector = a.selector;
      cr2 = tt;
      levels = a.levels;
      blocked = a.blocked;
      rest = a.rest;
      words = a.words;
      known_open = windows;
      shared_open = nothing_open (here Idt p κ σ ss w extra' v f) m;
    }

module _ (mode : Mode) (image : Image) (built : IsBuilt image) (good : IsImage image) (facts : Facts mode image)
    (left : NatMap ℕ) (s : System) (m : Machine) (h : Stands mode image left s m) (p : ℕ) (hp : p < image.processors)
    (o : step.Top mode image built good facts left s m h p hp) (body' : Body) (is : slice_get image.bodies o.b.body ≡ Some body') where
  abbrev code : Code
  code = code_table mode image

  abbrev c : Processor
  c = s.cpus p

  abbrev x : abstract.Processor
  x = processor m p

  abbrev b : BodyContext
  b = o.b

  abbrev on : StandsOn mode image p (left p) s x
  on = step.on mode image built good facts left s m h p hp

  abbrev Stood : ℕ → BodyContext → Processor → Memory → Type 0
  Stood now b cpu mem = Active mode image p now o.κ o.σ on.frame (switches_at mode image on.switching o.below) (first_fill on.fills) o.w b cpu mem

  -- the address of an item of the body
  abbrev place : ℕ → ℕ
  place i = item_address mode b.body body' i

  -- the bodies where the context has another IF, and goes on
  abbrev with_if_at : Bool → BodyContext
  with_if_at on = onward (record b { interrupts = on })

  -- the classes in service stay
  apic_stays : (on : Bool) → ApicIs mode image (s.apics p) x.pending (with_if_at on ∷ o.below)
  apic_stays q = apic_again mode image (s.apics p) (s.apics p) x.pending x.bodies (with_if_at q ∷ o.below) refl
      (λ class. sym (ap (list_any (λ (a : BodyContext). serves mode image class a.service)) o.bodies)) on.apic

  -- the activation at an item, where the one before has ended
  pub record NextItem (ss : ℕ) (v : ℕ → ℕ) (f : Flags) : Type 0 where
    pub extra : ℕ → ℕ
    pub place : extra 20 ≡ item_place mode image b.body b.place
    pub means : InItem mode image (origin_of o.κ) (here mode p o.κ o.σ ss o.w extra v f) o.w b s.memory.words
    pub at : At code (block mode (body mode AtItem)) 0 (here mode p o.κ o.σ ss o.w extra v f) c s.memory
    pub enough : edges mode (body mode AtItem) 0 ≤ on.own
    pub act : Stood on.own b c s.memory

  -- so it is at the end of the block behind `sti`
  pub to_item : first_fill on.fills ≡ None → (ss : ℕ) → IsKernelSs mode ss → (extra v : ℕ → ℕ) (f : Flags)
      → At code (block mode (body mode BehindSti)) 1 (here mode p o.κ o.σ ss o.w extra v f) c s.memory
      → InItem mode image (origin_of o.κ) (here mode p o.κ o.σ ss o.w extra v f) o.w b s.memory.words → HasNextPlace mode image 2
      (here mode p o.κ o.σ ss o.w extra v f) b
      → length c.regs ≡ 16 → edges mode (body mode BehindSti) 1 ≤ on.own
      → NextItem ss v f
  to_item unfilled ss ss_is extra v f at means next long enough =
      let way = at_the_item mode in
      let extra' : ℕ → ℕ = λ i. item_place mode image b.body b.place in
      let e : Env = here mode p o.κ o.σ ss o.w extra v f in
      let u : Env = here mode p o.κ o.σ ss o.w extra' v f in
      let small = (facts.item_small b.body b.place body' is).1 in
      let here_is = step.place_is mode image built good facts left s m h p hp o body' is in
      let falls = behind_falls mode in
      let plain = step.plain_kind mode image built good facts left s m h p hp o in
      let agrees = opens_next mode code p o.κ o.σ ss o.w extra extra' v f c s.memory at next (subst (λ a. a + 16 < 2 ^ 64) (sym here_is) small)
      (step.windows mode image built good facts left s m h p hp o body' is (body mode AtItem) way.over ss extra' v f) in
      let at_next : At code (block mode (body mode AtItem)) 0 u c s.memory = begins code (block mode (body mode AtItem)) u c s.memory
      (step.fits mode image built good facts left s m h p hp o body' is (body mode AtItem) way.over ss extra' v f refl tt (way.told u)) agrees in
      let item : InItem mode image (origin_of o.κ) u o.w b s.memory.words = record {
        saved = saved_again mode image (origin_of o.κ) e u o.w (λ i l. refl) refl refl refl means.saved;
        locals = means.locals;
        flags = means.flags;
        calls = means.calls;
      } in
      let enough' : edges mode (body mode AtItem) 0 ≤ on.own = omega arith in record {
        extra = extra';
        place = refl;
        means = item;
        at = at_next;
        enough = enough';
        act = record {
          stands = record {
            spot = body mode AtItem;
            k = 0;
            extra = extra';
            var = v;
            flags = f;
            ss = ss;
            ss_is = ss_is;
            masked = step.masks mode image built good facts left s m h p hp o (block mode (body mode BehindSti)) 1 e at;
            within = omega arith;
            enough = enough';
            at = at_next;
            long = long;
          };
          switches = way.off ∙ sym o.off;
          fills = sym (ap is_some unfilled);
          knows = plain_knows mode o.κ on.frame plain (blocks.holds (body mode AtItem));
          means = means_at mode image o.κ plain AtItem u o.w b (first_fill on.fills) s.memory.words (item, refl);
        };
      }

  module _ (ss : ℕ) (extra v : ℕ → ℕ) (f : Flags) (a : visible.AtVisible mode image built good facts left s m h p hp o body' is ss extra v f)
      (off : a.offset ≡ 0) (same : a.flags ≡ f) where
    -- the status flags stay
    status_stays : (q : Option Status) (g : Flags) (on : Bool) → FlagsAre mode image q g → FlagsAre mode image q (record g { interrupts = on })
    status_stays None g q k = tt
    status_stays (Some t) g q k = k

    known : (on : Bool) → FlagsAre mode image b.flags (record a.flags { interrupts = on })
    known on = status_stays b.flags a.flags on (steps.known_flags mode image built good facts left s m h p hp o body' is ss extra v f a same).0

    -- where the instruction stands
    here_is : c.rip ≡ place b.place
    here_is = steps.rip_is mode image built good facts left s m h p hp o body' is ss extra v f a (let z = off in omega arith)
        ∙ ap (λ n. place b.place + n) off ∙ (let z : place b.place + 0 ≡ place b.place = omega arith in z)

    -- ---- `cli`

    pub by_cli : item_at (Some body') b.place ≡ Some Item.Cli → visible.Does mode image built good facts left s m h p hp o body' is ss extra v f a
    unfolding item_step visible_of before is_return shown_always
    by_cli hi =
        let next : ℕ = place (suc b.place) in
        let cells : ItemCells code (place b.place) next Item.Cli Cli = cells_of mode image facts b.body body' is b.place Item.Cli Cli hi refl in
        let found : code c.rip ≡ Some (record { ins = Cli; next = next; mark = Always })
        = ap code (here_is ∙ (let z : place b.place ≡ place b.place + 0 = omega arith in z)) ∙ cells.seen in record {
          cell = record { ins = Cli; next = next; mark = Always };
          found = found;
          marked = refl;
          no_return = refl;
          write = None;
          local = tt;
          place = suc b.place;
          flags = record a.flags { interrupts = false };
          status = b.flags;
          flags_are = known false;
          interrupts = false;
          masked = refl;
          words = s.memory.words;
          apic = s.apics p;
          sent = None;
          sends = step.sends_nothing mode image built good facts left s m h p hp;
          runs = switches_off c s.memory next a.flags a.kernel (sym (facts.spaced c.rip _ found)) a.state.flags (s.apics p) (s.latches p);
          service = b.service;
          apic_is = apic_stays false;
          names = [];
          allowed = (none_spares p).free;
          unknown = step.unknown_none o.below;
          changes = λ y far near. refl;
          w = o.w;
          var = v;
          tasks = x.tasks;
          over = steps.over_of mode image built good facts left s m h p hp o body' is ss extra v f a None tt;
          machine = with_context m p (with_if_at false);
          entries = [];
          turns = steps.turns mode image built good facts left s m h p hp o body' is ss extra v f a Item.Cli hi;
          slots = x.slots;
          makes = words.makes_context mode image built good facts left s m h p hp o m m s.memory.words x.tasks x.slots (with_if_at false)
              (steps.nothing mode image built good facts left s m h p hp o body' is ss extra v f a);
          shows = refl;
        }

    -- ---- `sti`

    -- its two instructions, behind which the next item stands
    sti_code : item_at (Some body') b.place ≡ Some Item.Sti → (code c.rip ≡ Some (record { ins = Sti; next = place b.place + 1; mark = Always }))
        × (code (place b.place + 1) ≡ Some (edge_cell Nop (place b.place + 1 + 1))) × (place b.place + 2 ≡ place (suc b.place))
    unfolding expansion size spelling
    sti_code hi =
        let cells = facts.items b.body b.place body' Item.Sti is hi in (
          ap code here_is ∙ cells.0,
          cells.1.0,
          (let z : place b.place + 2 ≡ place b.place + (1 + (1 + 0)) = omega arith in z) ∙ sym (facts.follow b.body b.place body' Item.Sti hi),
        )

    pub by_sti : item_at (Some body') b.place ≡ Some Item.Sti → Simulated mode image left s m p
    unfolding item_step is_return shown_always spelling
    by_sti hi =
        let at_sti = sti_code hi in
        let was_off : b.interrupts ≡ false = off_at_sti image good built.accepted m p h.legal b o.below o.bodies (ap (λ q. item_at q b.place) is ∙ hi) in
        let cell : Cell = record { ins = Sti; next = place b.place + 1; mark = Always } in
        let g : Flags = record a.flags { interrupts = true } in
        let b' : BodyContext = with_if_at true in
        let cpu : Processor = record (gone c c.regs g (c.rip + 1)) { sti_blocked = true } in
        let mem : Memory = with_words s.memory s.memory.words in
        let way = at_the_item mode in
        let v' : ℕ → ℕ = with_registers c.regs v in
        let u : Env = here mode p o.κ o.σ ss o.w extra v' g in
        let small = (facts.item_small b.body b.place body' is).1 in
        let base : extra 20 ≡ place b.place = a.place ∙ ap (address_of_item mode b.body b.place) is in
        let plain = step.plain_kind mode image built good facts left s m h p hp o in
        let windows = step.windows mode image built good facts left s m h p hp o body' is (body mode AtItem) way.over ss extra v' g in
        let opening = lands mode (here mode p o.κ o.σ ss o.w extra v f) u c s.memory a.offset a.rax a.rcx a.rdx a.flags a.state
        (any_registers mode p o.κ o.σ ss o.w o.w extra extra v v f g c.regs refl refl refl) refl c.regs a.long refl v refl (place b.place) base small
        s.memory.words (any_known mode p o.κ o.σ ss o.w extra extra v f g c.regs s.memory.words a.state.words) windows in
        let agrees : Agrees u (block mode (body mode BehindSti)).ground (block mode (body mode BehindSti)).opening cpu mem
        = subst (λ n. Agrees u (block mode (body mode BehindSti)).ground (block mode (body mode BehindSti)).opening
        (record (gone c c.regs g n) { sti_blocked = true }) mem) (ap (λ n. n + 1) (sym here_is))
        (opens_behind mode u (gone c c.regs g (place b.place)) mem (place b.place) opening base small) in
        let stand = edges_stand code u (place b.place) 1 (Nop ∷ []) base (let z = small in omega arith) (at_sti.1, tt) in
        let at : At code (block mode (body mode BehindSti)) 0 u cpu mem = begins_behind mode code u cpu mem
        (step.fits mode image built good facts left s m h p hp o body' is (body mode AtItem) way.over ss extra v' g a.place tt (way.told u)) stand agrees in
        let turned : turn image m p ≡ (with_context m p b', [])
        = steps.turns mode image built good facts left s m h p hp o body' is ss extra v f a Item.Sti hi in
        let makes = words.makes_context mode image built good facts left s m h p hp o m m s.memory.words x.tasks x.slots b'
        (steps.nothing mode image built good facts left s m h p hp o body' is ss extra v f a) in
        let legal : Legal image (with_context m p b') = turn_legal image good built.accepted m p hp h.legal (with_context m p b', []) turned in
        let ctx : IsContext mode image b' = legal_context image (knows image (with_context m p b')) b' o.below mode
        (subst (λ (y : abstract.Processor). AreLegal image (knows image (with_context m p b')) y.bodies) makes.own (legal.each p).bodies) in
        let now : ℕ = edges mode (body mode BehindSti) 0 in
        let next_is : extra 20 + 2 ≡ item_place mode image b.body (suc b.place)
        = ap (λ n. n + 2) base ∙ at_sti.2 ∙ sym (ap (address_of_item mode b.body (suc b.place)) is) in
        let item : InItem mode image (origin_of o.κ) u o.w b' s.memory.words = record {
          saved = saved_again mode image (origin_of o.κ) (here mode p o.κ o.σ ss o.w extra v f) u o.w (beyond_registers c.regs v) refl refl refl a.means.saved;
          locals = locals_behind mode image (here mode p o.κ o.σ ss o.w extra v f) c s.memory a.offset a.rax a.rcx a.rdx a.flags a.state b a.means.locals None
              tt;
          flags = known true;
          calls = calls_behind mode image (here mode p o.κ o.σ ss o.w extra v f) c s.memory a.offset a.rax a.rcx a.rdx a.flags a.state b a.means.locals None tt
              s.memory.words (λ k l j lj. refl) a.means.calls;
        } in
        let base_range = subst (λ y. (0xffffffff82000000 ≤ y) × (y + 0x100 ≤ M)) (sym base) (facts.item_range b.body b.place body' is) in
        let act : Stood now b' cpu mem = record {
          stands = record {
            spot = body mode BehindSti;
            k = 0;
            extra = extra;
            var = v';
            flags = g;
            ss = ss;
            ss_is = a.ss_is;
            masked = refl;
            within = omega arith;
            enough = omega arith;
            at = at;
            long = a.long;
          };
          switches = behind_plain mode ∙ sym o.off;
          fills = sym (ap is_some a.unfilled);
          knows = plain_knows mode o.κ on.frame plain (blocks.holds (body mode BehindSti));
          means = means_at mode image o.κ plain BehindSti u o.w b' (first_fill on.fills) s.memory.words (item, next_is, base_range);
        } in
        let still_there = went_stays image.processors s p cpu None Sti
        (step.fetches mode image built good facts left s m h p hp c.rip cell at_sti.0).1 refl ∙ o.acts in
        step.visible_with mode image built good facts left s m h p hp o (λ on. a.state.blocked ∙ unblocked mode) cell at_sti.0 refl a.kernel (s.apics p) cpu
        s.memory.words None (step.sends_nothing mode image built good facts left s m h p hp)
        (switches_on c s.memory (c.rip + 1) a.flags a.kernel refl a.state.flags
        (step.masked mode image built good facts left s m h p hp o ∙ was_off) (s.apics p) (s.latches p))
        (step.blocked mode image built good facts left s m h p hp) [] (none_spares p).free (λ y far near. refl) (with_context m p b') [] turned x.tasks
        x.slots on.fills on.free (λ k. refl) (b' ∷ o.below) makes
        (apic_stays true)
        (goes_on_inside false (not (is_user c)) (not (nat_le nmi_entry c.rip && nat_lt c.rip repeat_entry)) (is_jump (Some Sti))
        (is_in_repeat c.rip) (length x.bodies) refl (step.outside mode image built good facts left s m h p hp o a.act) ∙ ap length o.bodies)
        now (few_edges mode image (body mode BehindSti) (behind_is_spot mode) refl 0)
        (subst (λ as'. Chain mode image p now x.running on.returning (x.tasks on.returning) on.frame on.switching on.fills (b' ∷ o.below) as' cpu mem)
        (sym still_there)
        (step.with_last mode image built good facts left s m h p hp o b' o.kind ctx now cpu s.memory.words [] (none_spares p).free
        (step.unknown_none o.below) (λ y far near. refl) act))
        (λ counted. refl)
