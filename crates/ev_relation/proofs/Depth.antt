-- How many bodies stand: as many as contexts, and as a step tells it.
use Rattle.std.proofs.Common.{◌≡◌, ℕ, suc, ◌+◌, ◌-◌, ◌%◌, ◌<◌, ◌≤◌, Bool, true, false, not, ◌&&◌, List, [], ◌∷◌, length, Option, Some, None, refl, sym, ap, ◌∙◌, arith, subst}
use Rattle.std.proofs.Math.Bool.{and-false}
use Rattle.std.specs.Prelude.{if◌then◌else◌, ◌==◌, nat_lt, nat_le, filter, slice_get}
use Rattle.std.proofs.lemmas.Bool.{eqb-true, ltb-true, lt-leb}
use Rattle.ev_isa.specs.Word.{NatMap}
use Rattle.ev_isa.specs.declared.instruction.Ins.{Ins}
use Rattle.ev_isa.specs.declared.mode.Mode.{Mode}
use Rattle.ev_isa.specs.declared.mode.Mode.TheVariants.{Idt, Fred}
use Rattle.ev_body.specs.declared.item.Item.{Item}
use Rattle.ev_body.specs.declared.body.Body.{Body}
use Rattle.ev_body.specs.declared.image.Image.{Image}
use Rattle.ev_effect.specs.Task.{Task}
use Rattle.ev_listing.specs.AddressMap.{nmi_entry, repeat_entry, nbody_entry, vector_stub, code_end}
use Rattle.ev_listing.specs.Expansion.{item_address}
use Rattle.ev_state.specs.Processor.{Processor, is_user, rsp}
use Rattle.ev_apic.specs.declared.apic.Apic.{Apic}
use Rattle.ev_apic.specs.declared.send.Send.{Send}
use Rattle.ev_mem.specs.Memory.{Memory}
use Rattle.ev_proc.specs.ProcessorStep.{next_of, instruction_at}
use Rattle.ev_abstract.specs.Context.{BodyContext}
use Rattle.ev_abstract.specs.Machine as abstract
use Rattle.ev_abstract.specs.Run.{item_at}
use Rattle.ev_concrete.specs.ConcreteRun.{System, Activation, interrupted, is_return, starts_inner, concrete_step}
use Rattle.ev_concrete.specs.Depth.{is_in_repeat, has_body, bodies_on, ends_body, begins_body, bodies_after, told_bodies}
use Rattle.ev_symbolic.specs.Value.{M}
use Rattle.ev_symbolic.specs.State.{SS, Block}
use Rattle.ev_symbolic.specs.Run.{every}
use Rattle.ev_symbolic.specs.Agrees.{Env, addr, At}
use Rattle.ev_symbolic.specs.Names.{item_tag, stub_tag}
use Rattle.ev_symbolic.proofs.Values.{and_left, and_right}
use Rattle.ev_symbolic.proofs.Blocks.{every_ok}
use Rattle.ev_activation.specs.Seat.{Kind, SystemCall, FromTask, FromBody, NmiFromTask, NmiFromBody, Seat}
use Rattle.ev_blocks.specs.Shapes.{Layout, Origin, UserCode, KernelCode, FredFrame, IdtFrame}
use Rattle.ev_blocks.specs.Fred.{FromUser, FromKernel, FredToKernel, FredToTask, FredToNext, fred_block}
use Rattle.ev_blocks.specs.Fred as fred
use Rattle.ev_blocks.specs.Idt.{Stub, Sys, Common, IdtToKernel, IdtToTask, IdtToNext, idt_block}
use Rattle.ev_blocks.specs.Idt as idt
use Rattle.ev_blocks.specs.Calls.{CallSpot, AtRecord, BehindWait, BehindBusy, AtFill, AtHead, AtLink, BehindFailure, BehindCall, AtTake, BehindTake, AtTurn, BehindTurn, AtTaken, AtFinish, BehindNext, AtOffset}
use Rattle.ev_blocks.specs.Items.{BodySpot, AtTable, AtJump, AtItem, AtNumber, AtNumbers, AtKick, AtUserWord, AtPageWord, BehindSti, BehindKick, InCall, fills, body_block}
use Rattle.ev_blocks.specs.Blocks.{Spot, InFred, InIdt, InBody, block}
use Rattle.ev_table.specs.Table.{code_table}
use Rattle.ev_relation.specs.Nmi.{Frame}
use Rattle.ev_relation.specs.Filling.{Filling, first_fill, rest_fills}
use Rattle.ev_relation.specs.Active.{address_of_item, HasPlace, HasRange, IsByHand, BehindExchange, BehindOldLink, AtFunction, BehindArgument, BehindCaller, BehindAddress, BehindFinish, BehindComparison, AtQuiet, InCallSpot, here, InSpot, OverTask, OverBody, Means, Active}
use Rattle.ev_relation.specs.Relation.{IsContext, body_edges, chained, Interrupted, Chain, StandsOn}
use Rattle.ev_relation.proofs.Facts.{Facts}
use Rattle.ev_relation.proofs.ModeFacts.{is_fred}
use Rattle.ev_relation.proofs.Spots.{is_elsewhere, below_bodies, entry_elsewhere, kernel_entry_elsewhere, kernel_exit_elsewhere, fred_exit_elsewhere, sys_elsewhere, common_elsewhere, idt_exit_elsewhere, idt_kernel_exit_elsewhere, is_in_stub, stub_inside, is_in_item, is_in_code, body_spot_is, body_inside, fred_switch_elsewhere, idt_switch_elsewhere}
use Rattle.ev_relation.proofs.Standing.{sends, after_went, Went, went_step}
use Rattle.ev_relation.proofs.CallKinds.{over_any}
use Rattle.ev_relation.proofs.Fills.{spot_fills, fill_inside}
use Rattle.ev_relation.proofs.After.{as_chain}

-- the body of a context
pub body_at : (o : Option Body) (n : ℕ) (i : Item) → item_at o n ≡ Some i → (body : Body) × (o ≡ Some body) × (item_at (Some body) n ≡ Some i)
body_at None n i h = absurd (cc)
body_at (Some b) n i h = (b, refl, h)

-- ---- no instruction of the blocks, and no item, lies in REPEAT

not_true : (b : Bool) → not b ≡ true → b ≡ false
not_true true h = absurd (cc)
not_true false h = refl

-- code of bodies stands behind it
pub behind_repeat : (a : ℕ) → nbody_entry ≤ a → is_in_repeat a ≡ false
behind_repeat a h = pick (nat_lt a nbody_entry) refl
  where
    pick : (b : Bool) → nat_lt a nbody_entry ≡ b → (nat_le repeat_entry a && b) ≡ false
    pick true q = let z = ltb-true a nbody_entry q in absurd (omega arith)
    pick false q = and-false (nat_le repeat_entry a)

elsewhere : (e : Env) → e.base 1000 ≡ 0 → (s : SS) → is_elsewhere s ≡ true → is_in_repeat (addr e s.rip) ≡ false
elsewhere e z s h =
    let tag : s.rip.tag ≡ 1000 = eqb-true s.rip.tag 1000 (and_left _ _ h) in
    let rest = and_right (s.rip.tag == 1000) _ h in
    let small : s.rip.off < code_end = ltb-true s.rip.off code_end (and_left _ _ rest) in
    let is : addr e s.rip ≡ s.rip.off = ap (λ t. (e.base t + s.rip.off) % M) tag
    ∙ (let q : (e.base 1000 + s.rip.off) % M ≡ s.rip.off = omega arith in q) in
    ap is_in_repeat is ∙ not_true (is_in_repeat s.rip.off) (and_right (nat_lt s.rip.off code_end) _ rest)

-- a block in the mode's setting
pub block_is : (m : Mode) (layout : Layout) (s : BodySpot) → block m (InBody layout s) ≡ body_block (is_fred m) layout s
block_is Fred layout s = refl
block_is Idt layout s = refl

module _ (mode : Mode) (image : Image) (facts : Facts mode image) where
  -- an instruction of an item
  in_item_outside : (B : Block) (k : ℕ) (e : Env) (c : Processor) (m : Memory) → At (code_table mode image) B k e c m → k ≤ B.steps
      → every is_in_item B ≡ true → HasRange mode image e → is_in_repeat c.rip ≡ false
  in_item_outside B k e c m at l every range =
      let inside = every_ok is_in_item B every k l at.state at.is in
      let n : ℕ = at.state.rip.off in
      let tag : at.state.rip.tag ≡ item_tag = eqb-true at.state.rip.tag item_tag (and_left _ _ inside) in
      let near : n < 0x100 = ltb-true n 0x100 (and_right (at.state.rip.tag == item_tag) _ inside) in
      let is : c.rip ≡ (e.base item_tag + n) % M = at.agrees.rip ∙ ap (λ t. (e.base t + n) % M) tag in
      let low = range.0 in let high = range.1 in
      behind_repeat c.rip (omega arith)

  -- where an activation is in the code of an item, its base is one
  at_place : (e : Env) (b : BodyContext) → IsContext mode image b → HasPlace mode image e b → HasRange mode image e
  at_place e b ctx place =
      let found = body_at (slice_get image.bodies b.body) b.place ctx.item ctx.is in
      let is : e.base item_tag ≡ item_address mode b.body found.0 b.place = place ∙ ap (address_of_item mode b.body b.place) found.1 in
      subst (λ y. (0xffffffff82000000 ≤ y) × (y + 0x100 ≤ M)) (sym is) (facts.item_range b.body b.place found.0 found.1)

  by_hand_range : (o : Origin) (e : Env) (w : Processor) (b : BodyContext) (words : NatMap ℕ) (offset edges : ℕ)
      → IsByHand mode image o e w b words offset edges → HasRange mode image e
  by_hand_range o e w b words offset edges (BehindExchange q x s is_first y z t) = y.range
  by_hand_range o e w b words offset edges (BehindOldLink n q x y z t u) = y.range
  by_hand_range o e w b words offset edges (AtFunction q x y z t u) = y.range
  by_hand_range o e w b words offset edges (BehindArgument q x y z t u) = y.range
  by_hand_range o e w b words offset edges (BehindCaller q x y z t u) = y.range
  by_hand_range o e w b words offset edges (BehindAddress q x y z t u v) = y.range
  by_hand_range o e w b words offset edges (BehindFinish q x y z t) = y.range
  by_hand_range o e w b words offset edges (BehindComparison q x to sends y z) = y.code.range
  by_hand_range o e w b words offset edges (AtQuiet q x to y) = y.code.range

  call_range : (o : Origin) (s : CallSpot) (e : Env) (w : Processor) (b : BodyContext) (g : Option Filling) (words : NatMap ℕ)
      → InCallSpot mode image o s e w b g words → HasRange mode image e
  call_range o (AtRecord site) e w b g words h = h.0.range
  call_range o (BehindWait true) e w b g words h = h.0.range
  call_range o (BehindWait false) e w b g words h = h.0.range
  call_range o (BehindBusy s) e w b g words h = h.range
  call_range o (AtFill address func to s) e w b g words h = h.0.range
  call_range o (AtHead address func to) e w b g words h = h.0.range
  call_range o (AtLink address func to is_stale) e w b g words h = h.0.range
  call_range o (BehindFailure address func to) e w b g words h = h.0.range
  call_range o (BehindCall s is_first) e w b g words h = h.0.range
  call_range o AtTake e w b g words h = h.0.range
  call_range o (BehindTake left) e w b g words h = h.0.range
  call_range o (AtTurn left) e w b g words h = h.0.range
  call_range o (BehindTurn left) e w b g words h = h.0.range
  call_range o (AtTaken is_some) e w b g words h = h.0.range
  call_range o AtFinish e w b g words h = h.0.range
  call_range o BehindNext e w b g words h = h.range
  call_range o (AtOffset offset edges) e w b g words h = by_hand_range o e w b words offset edges h

  pub spot_range : (o : Origin) (s : BodySpot) (e : Env) (w : Processor) (b : BodyContext) (g : Option Filling) (words : NatMap ℕ) → IsContext mode image b
      → InSpot mode image o s e w b g words → is_in_code s ≡ true → HasRange mode image e
  spot_range o AtItem e w b g words ctx h i = at_place e b ctx h.1
  spot_range o (AtNumber n) e w b g words ctx h i = at_place e b ctx h.1
  spot_range o (AtNumbers rcx rax rdx) e w b g words ctx h i = at_place e b ctx h.1
  spot_range o AtUserWord e w b g words ctx h i = at_place e b ctx h.1
  spot_range o (AtPageWord is_page) e w b g words ctx h i = at_place e b ctx h.1
  spot_range o BehindSti e w b g words ctx h i = h.2
  spot_range o (InCall s) e w b g words ctx h i = call_range o s e w b g words h
  spot_range o AtTable e w b g words ctx h i = let clash : false ≡ true = i in absurd (cc)
  spot_range o AtJump e w b g words ctx h i = let clash : false ≡ true = i in absurd (cc)
  spot_range o (AtKick to) e w b g words ctx h i = h.code.range
  spot_range o BehindKick e w b g words ctx h i = h.0.range

  in_code : (fred : Bool) (layout : Layout) (o : Origin) (s : BodySpot) (k : ℕ) (e : Env) (w c : Processor) (mem : Memory) (b : BodyContext)
      (g : Option Filling) (words : NatMap ℕ) → IsContext mode image b → k ≤ (body_block fred layout s).steps
      → At (code_table mode image) (body_block fred layout s) k e c mem → InSpot mode image o s e w b g words → is_in_code s ≡ true
      → is_in_repeat c.rip ≡ false
  in_code fred layout o s k e w c mem b g words ctx l at h i = by_fill (fills s) refl
    where
      by_fill : (t : Bool) → fills s ≡ t → is_in_repeat c.rip ≡ false
      by_fill true on = in_item_outside (body_block fred layout s) k e c mem at l (fill_inside fred layout s (spot_fills mode image o s e w b g words h on).0)
          (spot_range o s e w b g words ctx h i)
      by_fill false off = in_item_outside (body_block fred layout s) k e c mem at l
          (body_inside fred layout s (body_spot_is mode image o s e w b g words h off) i) (spot_range o s e w b g words ctx h i)

  -- ---- where an activation runs

  module _ (e : Env) (zero : e.base 1000 ≡ 0) (w c : Processor) (mem : Memory) (b : BodyContext) (g : Option Filling) where
    -- below the bodies' code, and not in REPEAT
    abbrev pub RunsKernel : Type 0
    RunsKernel = (c.rip < code_end) × (is_in_repeat c.rip ≡ false)

    -- in the kernel's own code, or in that of an item
    pub data RunsIn (spot : Spot) : Type 0 where
      OwnCode : RunsKernel → RunsIn spot
      ItemCode : (layout : Layout) (o : Origin) (s : BodySpot) → spot ≡ InBody layout s → is_in_code s ≡ true → InSpot mode image o s e w b g mem.words
          → RunsIn spot

    at_elsewhere : (B : Block) (k : ℕ) → k ≤ B.steps → At (code_table mode image) B k e c mem → every is_elsewhere B ≡ true → RunsKernel
    at_elsewhere B k l at all =
        let test = every_ok is_elsewhere B all k l at.state at.is in (
          subst (λ a. a < code_end) (sym at.agrees.rip) (below_bodies e zero at.state test),
          ap is_in_repeat at.agrees.rip ∙ elsewhere e zero at.state test,
        )

    -- the entries of vectors stand before it
    at_stub : (o : Origin) (has : Bool) (v k : ℕ) → k ≤ (idt_block (Stub o has v)).steps → At (code_table mode image) (idt_block (Stub o has v)) k e c mem
        → v < 256 → e.base stub_tag ≡ vector_stub v → RunsKernel
    at_stub o has v k l at small base =
        let inside = every_ok is_in_stub (idt_block (Stub o has v)) (stub_inside o has v) k l at.state at.is in
        let n : ℕ = at.state.rip.off in
        let tag : at.state.rip.tag ≡ stub_tag = eqb-true at.state.rip.tag stub_tag (and_left _ _ inside) in
        let near : n < 0x10 = ltb-true n 0x10 (and_right (at.state.rip.tag == stub_tag) _ inside) in
        let is : c.rip ≡ (vector_stub v + n) % M = at.agrees.rip ∙ ap (λ t. (e.base t + n) % M) tag ∙ ap (λ y. (y + n) % M) base in (
          omega (arith, is, near, small),
          ap (λ b. b && nat_lt c.rip nbody_entry) (lt-leb repeat_entry c.rip (let below : c.rip < repeat_entry = omega arith in below)),
        )

    at_body : (fred : Bool) (layout : Layout) (o : Origin) (s : BodySpot) (k : ℕ) → k ≤ (body_block fred layout s).steps
        → At (code_table mode image) (body_block fred layout s) k e c mem → InSpot mode image o s e w b g mem.words
        → every is_elsewhere (body_block fred layout AtTable) ≡ true → every is_elsewhere (body_block fred layout AtJump) ≡ true
        → RunsIn (InBody layout s)
    at_body fred layout o AtTable k l at h t j = OwnCode (at_elsewhere (body_block fred layout AtTable) k l at t)
    at_body fred layout o AtJump k l at h t j = OwnCode (at_elsewhere (body_block fred layout AtJump) k l at j)
    at_body fred layout o s k l at h t j = ItemCode layout o s refl refl h

    over_task_outside : (m : Mode) (spot : Spot) (k : ℕ) → k ≤ (block m spot).steps → At (code_table mode image) (block m spot) k e c mem
        → OverTask mode image m spot e w b g mem.words → RunsIn spot
    over_task_outside Fred (InFred (FromUser way)) k l at h = OwnCode (at_elsewhere (fred_block (FromUser way)) k l at (entry_elsewhere way))
    over_task_outside Fred (InFred (fred.Leaves FredToTask)) k l at h =
        OwnCode (at_elsewhere (fred_block (fred.Leaves FredToTask)) k l at fred_exit_elsewhere)
    over_task_outside Fred (InFred (fred.Leaves FredToNext)) k l at h =
        OwnCode (at_elsewhere (fred_block (fred.Leaves FredToNext)) k l at fred_switch_elsewhere)
    over_task_outside Fred (InBody FredFrame s) k l at h = at_body true FredFrame UserCode s k l at h refl refl
    over_task_outside Idt (InIdt Sys) k l at h = OwnCode (at_elsewhere (idt_block Sys) k l at sys_elsewhere)
    over_task_outside Idt (InIdt (Stub UserCode has v)) k l at h = OwnCode (at_stub UserCode has v k l at h.0.0 h.0.2)
    over_task_outside Idt (InIdt (Common UserCode pf)) k l at h =
        OwnCode (at_elsewhere (idt_block (Common UserCode pf)) k l at (common_elsewhere UserCode pf))
    over_task_outside Idt (InIdt (idt.Leaves (IdtToTask by))) k l at h =
        OwnCode (at_elsewhere (idt_block (idt.Leaves (IdtToTask by))) k l at (idt_exit_elsewhere by))
    over_task_outside Idt (InIdt (idt.Leaves (IdtToNext by))) k l at h =
        OwnCode (at_elsewhere (idt_block (idt.Leaves (IdtToNext by))) k l at (idt_switch_elsewhere by))
    over_task_outside Idt (InBody IdtFrame s) k l at h = at_body false IdtFrame UserCode s k l at h refl refl
    over_task_outside m _ k l at h = absurd h

    over_body_outside : (m : Mode) (spot : Spot) (k : ℕ) → k ≤ (block m spot).steps → At (code_table mode image) (block m spot) k e c mem
        → OverBody mode image m spot e w b g mem.words → RunsIn spot
    over_body_outside Fred (InFred FromKernel) k l at h = OwnCode (at_elsewhere (fred_block FromKernel) k l at kernel_entry_elsewhere)
    over_body_outside Fred (InFred (fred.Leaves FredToKernel)) k l at h =
        OwnCode (at_elsewhere (fred_block (fred.Leaves FredToKernel)) k l at kernel_exit_elsewhere)
    over_body_outside Fred (InBody FredFrame s) k l at h = at_body true FredFrame KernelCode s k l at h refl refl
    over_body_outside Idt (InIdt (Stub KernelCode has v)) k l at h = OwnCode (at_stub KernelCode has v k l at h.0.0 h.0.2)
    over_body_outside Idt (InIdt (Common KernelCode pf)) k l at h =
        OwnCode (at_elsewhere (idt_block (Common KernelCode pf)) k l at (common_elsewhere KernelCode pf))
    over_body_outside Idt (InIdt (idt.Leaves IdtToKernel)) k l at h =
        OwnCode (at_elsewhere (idt_block (idt.Leaves IdtToKernel)) k l at idt_kernel_exit_elsewhere)
    over_body_outside Idt (InBody IdtFrame s) k l at h = at_body false IdtFrame KernelCode s k l at h refl refl
    over_body_outside m _ k l at h = absurd h

    pub runs_in : (κ : Kind) (spot : Spot) (k : ℕ) → k ≤ (block mode spot).steps → At (code_table mode image) (block mode spot) k e c mem
        → Means mode image κ spot e w b g mem.words → RunsIn spot
    runs_in SystemCall spot k l at h = over_task_outside mode spot k l at h
    runs_in FromTask spot k l at h = over_task_outside mode spot k l at h
    runs_in FromBody spot k l at h = over_body_outside mode spot k l at h
    runs_in NmiFromTask spot k l at h = absurd h
    runs_in NmiFromBody spot k l at h = absurd h

    runs_outside : IsContext mode image b → (spot : Spot) (k : ℕ) → k ≤ (block mode spot).steps → At (code_table mode image) (block mode spot) k e c mem
        → RunsIn spot → is_in_repeat c.rip ≡ false
    runs_outside ctx spot k l at (OwnCode out) = out.1
    runs_outside ctx spot k l at (ItemCode layout o s is i h) =
        let same : block mode spot ≡ body_block (is_fred mode) layout s = ap (block mode) is ∙ block_is mode layout s in
        in_code (is_fred mode) layout o s k e w c mem b g mem.words ctx (subst (λ (B : Block). k ≤ B.steps) same l)
        (subst (λ (B : Block). At (code_table mode image) B k e c mem) same at) h i

  pub active_outside : (p left : ℕ) (κ : Kind) (σ : Seat) (f : Frame) (sw : Bool) (g : Option Filling) (w : Processor) (b : BodyContext) (c : Processor)
      (m : Memory)
      → IsContext mode image b → Active mode image p left κ σ f sw g w b c m → is_in_repeat c.rip ≡ false
  active_outside p left κ σ f sw g w b c m ctx a =
      let e : Env = here mode p κ σ a.stands.ss w a.stands.extra a.stands.var a.stands.flags in
      runs_outside e refl w c m b g ctx a.stands.spot a.stands.k a.stands.within a.stands.at
      (runs_in e refl w c m b g κ a.stands.spot a.stands.k a.stands.within a.stands.at a.means)

  -- as many bodies as contexts
  counted : (p left r to : ℕ) (t : Task) (f : Frame) (sw : Bool) (fs : List (Option Filling)) (bs : List BodyContext) (as' : List Activation)
      (c : Processor) (m : Memory)
      → Chain mode image p left r to t f sw fs bs as' c m → length (filter has_body (interrupted c as')) ≡ length bs
  counted p left r to t f sw fs [] as' c m h = ap (λ xs. length (filter has_body (interrupted c xs))) h.2
  counted p left r to t f sw fs (b ∷ below) [] c m h = absurd h
  counted p left r to t f sw fs (b ∷ below) (a ∷ as') c m h =
      let outside : is_in_repeat c.rip ≡ false = active_outside p left _ _ f _ (first_fill fs) h.0 b c m h.1 h.6 in
      let seen : (not a.inner && not (is_in_repeat c.rip)) ≡ true = ap (λ i. not i && not (is_in_repeat c.rip)) h.2 ∙ ap not outside in
      let top : Activation = record a { rsp = rsp c; rip = c.rip } in
      let under : Chain mode image p (body_edges mode image) r to t f (chained mode image sw below) (rest_fills fs) below as' h.0 m
      = over_any mode image (λ v. Chain mode image p (body_edges mode image) r to t f (chained mode image sw below) (rest_fills fs) below as' v m) _ h.0 h.4 in
      ap (λ x. length (if x then top ∷ filter has_body as' else filter has_body as')) seen
      ∙ ap suc (below_same below h.0 as' h.3 under
      ∙ counted p (body_edges mode image) r to t f (chained mode image sw below) (rest_fills fs) below as' h.0 m under)
    where
      -- what was interrupted stands where the processor below it does
      below_same : (ds : List BodyContext) (w : Processor) (as' : List Activation) → Interrupted mode image ds w as'
          → Chain mode image p (body_edges mode image) r to t f (chained mode image sw ds) (rest_fills fs) ds as' w m
          → length (filter has_body as') ≡ length (filter has_body (interrupted w as'))
      below_same [] w as' i k = ap (λ xs. length (filter has_body xs)) k.2 ∙ sym (ap (λ xs. length (filter has_body (interrupted w xs))) k.2)
      below_same (d ∷ ds) w [] i k = absurd i
      below_same (d ∷ ds) w (y ∷ ys) i k =
          ap (λ z. length (if not y.inner && not z then y ∷ filter has_body ys else filter has_body ys)) i.1
          ∙ either (not y.inner && not (is_in_repeat w.rip))
        where
          either : (z : Bool) → length (if z then y ∷ filter has_body ys else filter has_body ys)
              ≡ length (if z then record y { rsp = rsp w; rip = w.rip } ∷ filter has_body ys else filter has_body ys)
          either true = refl
          either false = refl

  pub stands_depth : (p left : ℕ) (s : System) (x : abstract.Processor) → StandsOn mode image p left s x → bodies_on s p ≡ length x.bodies
  stands_depth p left s x o = counted p o.own x.running o.returning (x.tasks o.returning) o.frame o.switching o.fills x.bodies (s.activations p)
      (s.cpus p) s.memory
      (as_chain mode image o.layer p o.own o.more x.running o.returning (x.tasks o.returning) o.frame o.switching o.fills x.bodies (s.activations p)
      (s.cpus p) s.memory o.runs)

-- ---- as steps tell it

-- an instruction that neither returns nor stands in REPEAT leaves the number
pub goes_on_inside : (returns user early : Bool) (jumps repeats : Bool) (n : ℕ) → returns ≡ false → repeats ≡ false
    → (if returns && user && early then n - 1 else (if jumps && user && repeats then suc n else n)) ≡ n
goes_on_inside returns user early jumps repeats n hr ho =
    ap (λ r. if r && user && early then n - 1 else (if jumps && user && repeats then suc n else n)) hr
    ∙ ap (λ o. if jumps && user && o then suc n else n) ho ∙ pick jumps user
  where
    pick : (a b : Bool) → (if a && b && false then suc n else n) ≡ n
    pick true true = refl
    pick true false = refl
    pick false b = refl

-- a return that isn't in the NMI code before REPEAT, where inner NMIs return, ends the body
pub ends_a_body : (i : Option Ins) (c : Processor) (place : ℕ) → c.rip ≡ place → (nat_le nmi_entry place && nat_lt place repeat_entry) ≡ false
    → is_user c ≡ false → is_return i ≡ true → ends_body c i ≡ true
ends_a_body i c place rip out hu hr =
    ap (λ r. r && not (is_user c) && not (nat_le nmi_entry c.rip && nat_lt c.rip repeat_entry)) hr
    ∙ ap (λ u. not u && not (nat_le nmi_entry c.rip && nat_lt c.rip repeat_entry)) hu
    ∙ ap (λ a. not (nat_le nmi_entry a && nat_lt a repeat_entry)) rip ∙ ap not out

-- where so many bodies stood, behind a step that ran an instruction
abbrev pub bodies_behind : ℕ → Processor → Ins → Option Send → ℕ
bodies_behind n c i sent = bodies_after n false (ends_body c (Some i)) (begins_body c (Some i)) (sends sent)

-- one that sends leaves them
pub sent_inside : (n : ℕ) (c : Processor) (i : Ins) (sent : Option Send)
    → (if ends_body c (Some i) then n - 1 else (if begins_body c (Some i) then suc n else n)) ≡ n → bodies_behind n c i sent ≡ n
sent_inside n c i None h = h
sent_inside n c i (Some m) h = refl

told_went : (s : System) (p : ℕ) (a : Apic) (cpu : Processor) (words : NatMap ℕ) (sent : Option Send) (i : Ins) → Went s p a cpu words sent
    → instruction_at s.memory.words (s.cpus p).rip ≡ Some i → told_bodies s p ≡ bodies_behind (bodies_on s p) (s.cpus p) i sent
unfolding told_bodies
told_went s p a cpu words sent i h hi =
    ap (λ r. bodies_after (bodies_on s p) (starts_inner s p (next_of (s.cpus p) (s.apics p) (s.latches p)))
    (ends_body (s.cpus p) (instruction_at s.memory.words (s.cpus p).rip)) (begins_body (s.cpus p) (instruction_at s.memory.words (s.cpus p).rip)) r.step) h
    ∙ ap (λ o. bodies_after (bodies_on s p) (starts_inner s p (next_of (s.cpus p) (s.apics p) (s.latches p))) (ends_body (s.cpus p) o)
    (begins_body (s.cpus p) o) (sends sent)) hi
    ∙ delivers_nothing (bodies_on s p) (starts_inner s p (next_of (s.cpus p) (s.apics p) (s.latches p))) (ends_body (s.cpus p) (Some i))
    (begins_body (s.cpus p) (Some i)) sent
  where
    delivers_nothing : (n : ℕ) (inner ends begins : Bool) (sent : Option Send)
        → bodies_after n inner ends begins (sends sent) ≡ bodies_after n false ends begins (sends sent)
    delivers_nothing n inner ends begins None = refl
    delivers_nothing n inner ends begins (Some m) = refl

pub went_counts : (n : ℕ) (s : System) (p : ℕ) (a : Apic) (cpu : Processor) (words : NatMap ℕ) (sent : Option Send) (i : Ins) → Went s p a cpu words sent
    → instruction_at s.memory.words (s.cpus p).rip ≡ Some i
    → (before after : ℕ) → bodies_on s p ≡ before → bodies_on (after_went n s p a cpu words sent) p ≡ after
    → bodies_behind before (s.cpus p) i sent ≡ after → bodies_on (concrete_step n s p).0 p ≡ told_bodies s p
went_counts n s p a cpu words sent i h hi before after hb ha ht =
    ap (λ z. bodies_on z.0 p) (went_step n s p a cpu words sent h) ∙ ha
    ∙ sym (told_went s p a cpu words sent i h hi ∙ ap (λ k. bodies_behind k (s.cpus p) i sent) hb ∙ ht)
