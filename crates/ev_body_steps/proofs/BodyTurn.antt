-- A turn in which an item of a body raises an event: the activation that begins on it, what the abstract machine enters, and what is shown.
use Rattle.std.proofs.Common.{◌≡◌, inl, inr, ℕ, suc, ◌+◌, ◌-◌, ◌*◌, ◌%◌, ◌<◌, ◌≤◌, Bool, true, false, not, ◌&&◌, List, [], ◌∷◌, get_or, length, Option, Some, None, refl, sym, ap, ◌∙◌, subst, arith, ◌||◌}
use Rattle.std.specs.Prelude.{◌==◌, ◌++◌, if◌then◌else◌, slice_get}
use Rattle.std.specs.List.{list_any}
use Rattle.ev_isa.specs.Word.{NatMap, NatSet, is_canonical}
use Rattle.ev_isa.specs.Flags.{Flags}
use Rattle.ev_isa.specs.declared.mode.Mode.{Mode}
use Rattle.ev_isa.specs.declared.mode.Mode.TheVariants.{Idt, Fred}
use Rattle.ev_event.specs.declared.event.Event.{Event}
use Rattle.ev_event.specs.Event.{has_error_code, is_hardware}
use Rattle.std.proofs.lemmas.Bool.{eqb-true}
use Rattle.ev_user.specs.Numbers.{HoldsNumbers}
use Rattle.ev_user.specs.Words.{HoldsWords}
use Rattle.ev_body.specs.declared.key.Side.TheVariants.{Kernel}
use Rattle.ev_body.specs.declared.body.Body.{Body}
use Rattle.ev_body.specs.declared.image.Image.{Image}
use Rattle.ev_body.specs.Bodies.{first_body}
use Rattle.ev_body.specs.WellFormed.{IsImage}
use Rattle.ev_state.specs.Processor.{Processor, is_user, rsp}
use Rattle.ev_state.proofs.FlagLaws.{kept}
use Rattle.ev_apic.specs.declared.apic.Apic.{Apic}
use Rattle.ev_mem.specs.Memory.{Memory}
use Rattle.ev_proc.specs.ProcessorStep.{After, has_fred, next_of, executed, delivering}
use Rattle.ev_proc.specs.ProcessorStep as processing
use Rattle.ev_proc.specs.declared.stepped.Stepped.{Stepped}
use Rattle.ev_listing.specs.AddressMap.{pcpu, stack_top, stack_bytes, code_end}
use Rattle.ev_abstract.specs.Context.{BodyContext}
use Rattle.ev_abstract.specs.declared.entry.Entry.{Entry}
use Rattle.ev_abstract.specs.declared.entry.Entry.TheVariants.{Enter}
use Rattle.ev_abstract.specs.Delivery.{event_key, service_of, body_at_start, delivered, entered}
use Rattle.ev_abstract.specs.ItemMeaning.{raised}
use Rattle.ev_abstract.specs.Machine.{Machine, processor, with_processor}
use Rattle.ev_abstract.specs.Machine as abstract
use Rattle.ev_abstract.specs.Run.{turn}
use Rattle.ev_law.specs.Legal.{Legal, AreLegal, knows}
use Rattle.ev_listing.specs.Marks.{Always}
use Rattle.ev_concrete.specs.ConcreteRun.{System, Activation, marks_of, acted, after_step, activations_by, interrupted, frame_size, starts_inner, is_seen, is_visible}
use Rattle.ev_concrete.specs.Depth.{is_in_repeat, bodies_on}
use Rattle.ev_concrete.specs.LiveWords.{area_bytes}
use Rattle.ev_concrete.specs.Shown.{shown_by, shown_event, told_event, told_rip, is_refused, saved_rip, key_of}
use Rattle.ev_built.specs.Built.{IsBuilt}
use Rattle.ev_symbolic.specs.Value.{M, V}
use Rattle.ev_symbolic.specs.State.{Block}
use Rattle.ev_symbolic.specs.Agrees.{Env, eval, Cell, IsTold, At, with_words}
use Rattle.ev_symbolic.proofs.Blocks.{cell_step, every_ok}
use Rattle.ev_blocks.specs.Blocks.{block}
use Rattle.ev_paths.specs.Ends.{is_untold, TellsNoCr2}
use Rattle.ev_table.specs.Table.{code_table}
use Rattle.ev_activation.specs.Seat.{Kind, FromBody, NmiFromBody, Seat, kind_of, kind_from, key_by, seat_by, seat_of, room_of, top_at}
use Rattle.ev_user.proofs.Deliver.{arrives}
use Rattle.ev_relation.specs.Nmi.{Frame, Leads, inner_edges}
use Rattle.ev_relation.specs.Named.{Changes}
use Rattle.ev_relation.specs.Filling.{Filling, first_fill}
use Rattle.ev_relation.specs.Active.{here, IsKernelSs, Active}
use Rattle.ev_relation.specs.Relation.{IsContext, Beneath, keeps_cr2, chained, body_edges, switches_at, Chain, StandsOn, Stands, serves, ApicIs}
use Rattle.ev_relation.specs.Step.{Simulated}
use Rattle.ev_relation.proofs.Facts.{Facts}
use Rattle.ev_relation.proofs.Maps.{at_same, at_other}
use Rattle.ev_relation.proofs.CallKinds.{is_plain_kind, ArePlain, none_nmi, seat_under, plain_seat, area_under}
use Rattle.ev_relation.proofs.Chains.{Kept, chain_kept}
use Rattle.ev_relation.proofs.Domains.{four_tasks}
use Rattle.ev_call_law.specs.Calls.{times, to_run}
use Rattle.ev_relation.proofs.Legality.{turn_legal, turn_bases, turn_calls, turn_few, legal_few}
use Rattle.ev_relation.proofs.Standing.{seen, Moves, step_moves, delivery_moves}
use Rattle.ev_relation.proofs.Stays.{AreSpared, AreKept, free_small, chain_stays, below_spared}
use Rattle.ev_relation.proofs.After.{none_spares, slot_same, cell_same, page_same, user_same, apic_again, own_becomes, records_after, all_kept, calls_bounded, left_behind, stands_alike, AreSameWords, tasks_same, current_is, mark_is}
use Rattle.ev_relation.proofs.Depth.{stands_depth}
use Rattle.ev_relation.proofs.UserState.{TurnsTo, makes_turn, is_safe, tells_bodies}
use Rattle.ev_relation.proofs.UserBody.{HasBody, has_body}
use Rattle.ev_body_steps.proofs.ItemState.{unblocked, ItemState, gs_of}
use Rattle.ev_body_steps.proofs.ItemVisible.{legal_context}
use Rattle.ev_body_steps.proofs.KernelSafe.{AllAbove, above_less, deeper, chain_above, delivery_safe}
use Rattle.ev_body_steps.proofs.BodyRaising.{IsBodyEvent, AtItem, Ready, Begins}
use Rattle.ev_body_steps.proofs.BodyRaisingFred.{begins_fred}
use Rattle.ev_body_steps.proofs.BodyRaisingIdt.{begins_idt}
use Rattle.ev_body_steps.proofs.KernelStep as step

-- ---- in either mode

begins_in : (mode : Mode) (image : Image) (p r n : ℕ) (c : Processor) (e : Event) (body : ℕ) (m : Memory) → Ready mode image p r n c e body m
    → Begins mode image p r n c e body m
begins_in Fred image p r n c e body m ready = begins_fred image p r n c e body m ready
begins_in Idt image p r n c e body m ready = begins_idt image p r n c e body m ready

-- RSP at an item
rsp_at : (mode : Mode) (e : Env) (c : Processor) (m : Memory) (offset : ℕ) (rax rcx rdx : V) (g : Flags) → ItemState mode e c m offset rax rcx rdx g
    → rsp c ≡ (e.base 16 + (M - area_bytes mode)) % M
unfolding eval
rsp_at Fred e c m offset rax rcx rdx g s = ap (λ xs. get_or xs 4 0) s.regs
rsp_at Idt e c m offset rax rcx rdx g s = ap (λ xs. get_or xs 4 0) s.regs

pub rsp_below : (mode : Mode) (p r n x : ℕ) → p < 32 → r < 7 → n < 32 → x ≡ (top_at p (seat_under mode r n) + (M - area_bytes mode)) % M
    → x + area_bytes mode ≡ top_at p (seat_under mode r n)
rsp_below Fred p r n x hp hr hn h = omega arith
rsp_below Idt p r n x hp hr hn h = omega arith

rsp_over : (mode : Mode) (p r n x : ℕ) → x + area_bytes mode ≡ top_at p (seat_under mode r n) → top_at p (seat_under mode r (suc n)) ≤ x
rsp_over Fred p r n x h = omega arith
rsp_over Idt p r n x h = omega arith

-- the frame lies on the stack
frame_room : (mode : Mode) (p r n : ℕ) → p < 32 → r < 7 → suc n < 32 → (top_at p (seat_under mode r (suc n)) + area_bytes mode ≤ stack_top p r)
    × (stack_top p r - stack_bytes + 0x40 ≤ top_at p (seat_under mode r (suc n)))
frame_room Fred p r n hp hr hn = (omega arith, omega arith)
frame_room Idt p r n hp hr hn = (omega arith, omega arith)

size_small : (c : Processor) (e : Event) → frame_size c e ≤ 8
size_small c e = by (has_fred c) _
  where
    by : (a b : Bool) → (if a then 8 else (if b then 6 else 5)) ≤ 8
    by true b = omega arith
    by false true = omega arith
    by false false = omega arith

-- ---- what the abstract machine makes of it

-- the entry of an event of a body
abbrev pub entry_of : ℕ → Event → ℕ → Entry
entry_of p e depth = Enter p (key_of e.kind e.vector) e.kind Kernel depth e.error e.info None

entered_is : (p : ℕ) (x : abstract.Processor) (b : BodyContext) (below : List BodyContext) (n : ℕ) (e : Event) (bodies : List Body) (body : Body)
    → slice_get bodies n ≡ Some body
    → entered p (record x { bodies = b ∷ below }) e Kernel (Some n) bodies
    ≡ (record x { bodies = body_at_start n Kernel e ∷ b ∷ below }, Enter p body.key e.kind Kernel (suc (suc (length below))) e.error e.info None ∷ [])
entered_is p x b below n e bodies body h = rw h refl

-- what the delivery to a body makes of the abstract machine's processor
pub delivered_is : (image : Image) (p : ℕ) (x : abstract.Processor) (b : BodyContext) (below : List BodyContext) (e : Event) (n : ℕ)
    → (body : HasBody image (event_key e.kind e.vector) n)
    → first_body 0 image.bodies (event_key e.kind e.vector) Kernel ≡ Some n → body.body.key ≡ key_of e.kind e.vector
    → delivered image p (record x { bodies = b ∷ below }) e
    ≡ (record x { bodies = body_at_start n Kernel e ∷ b ∷ below }, entry_of p e (suc (suc (length below))) ∷ [])
unfolding delivered
delivered_is image p x b below e n body found key =
    ap (λ o. entered p (record x { bodies = b ∷ below }) e Kernel o image.bodies) found
    ∙ entered_is p x b below n e image.bodies body.body body.is
    ∙ ap (λ k. (record x { bodies = body_at_start n Kernel e ∷ b ∷ below }, Enter p k e.kind Kernel (suc (suc (length below))) e.error e.info None ∷ [])) key

raised_is : (image : Image) (m : Machine) (p : ℕ) (x : abstract.Processor) (b : BodyContext) (below : List BodyContext) (e : Event) (n : ℕ)
    → processor m p ≡ record x { bodies = b ∷ below } → (body : HasBody image (event_key e.kind e.vector) n)
    → first_body 0 image.bodies (event_key e.kind e.vector) Kernel ≡ Some n → body.body.key ≡ key_of e.kind e.vector
    → raised image m p e
    ≡ (with_processor m p (record x { bodies = body_at_start n Kernel e ∷ b ∷ below }), entry_of p e (suc (suc (length below))) ∷ [])
raised_is image m p x b below e n hp body found key =
    ap (λ (y : abstract.Processor). (with_processor m p (delivered image p y e).0, (delivered image p y e).1)) hp
    ∙ ap (λ (q : abstract.Processor × List Entry). (with_processor m p q.0, q.1)) (delivered_is image p x b below e n body found key)

-- ---- what is shown

shown_is : (p depth : ℕ) (user fred : Bool) (told : List Entry) (c : Processor) (words : NatMap ℕ) (e : Event) (frame : Option ℕ) (n : ℕ) → user ≡ false
    → depth ≡ n → is_refused fred e ≡ false
    → shown_by p depth user fred told c words (Stepped.Delivered e frame) ≡ entry_of p e (suc n) ∷ []
shown_is p depth user fred told c words e frame n hu hd hr =
    ap (λ u. shown_event p (suc depth) u (told_event (is_refused fred e) e) (told_rip (is_refused fred e) (saved_rip fred c words e frame)) ∷ []) hu
    ∙ ap (λ r. shown_event p (suc depth) false (told_event r e) (told_rip r (saved_rip fred c words e frame)) ∷ []) hr
    ∙ ap (λ d. entry_of p e (suc d) ∷ []) hd

-- ---- an activation that is told of no CR2 stands with any

module _ (mode : Mode) (image : Image) where
  at_any_cr2 : (b : Block) (k : ℕ) (e : Env) (c : Processor) (m : Memory) (a : ℕ) → TellsNoCr2 b → k ≤ b.steps → At (code_table mode image) b k e c m
      → At (code_table mode image) b k e (record c { cr2 = a }) m
  at_any_cr2 b k e c m a none within at = record {
    fits = at.fits;
    state = at.state;
    is = at.is;
    agrees = record {
      regs = at.agrees.regs;
      rip = at.agrees.rip;
      flags = at.agrees.flags;
      gs = at.agrees.gs;
      kernel_gs = at.agrees.kernel_gs;
      selector = at.agrees.selector;
      cr2 = told at.state.cr2 (every_ok (λ s. is_untold s.cr2) b none k within at.state at.is);
      levels = at.agrees.levels;
      blocked = at.agrees.blocked;
      rest = at.agrees.rest;
      words = at.agrees.words;
      known_open = at.agrees.known_open;
      shared_open = at.agrees.shared_open;
    };
  }
    where
      told : (o : Option V) → is_untold o ≡ true → IsTold e o a
      told None h = tt
      told (Some v) h = absurd (cc)

  -- with the edges of a body
  pub stands_any : (p left : ℕ) (κ : Kind) (σ : Seat) (f : Frame) (sw : Bool) (g : Option Filling) (w : Processor) (b : BodyContext) (c : Processor)
      (m : Memory)
      → (act : Active mode image p left κ σ f sw g w b c m) → TellsNoCr2 (block mode act.stands.spot) → (a : ℕ)
      → left ≤ body_edges mode image → Active mode image p (body_edges mode image) κ σ f sw g w b (record c { cr2 = a }) m
  stands_any p left κ σ f sw g w b c m act none a short = record {
    stands = record {
      spot = act.stands.spot;
      k = act.stands.k;
      extra = act.stands.extra;
      var = act.stands.var;
      flags = act.stands.flags;
      ss = act.stands.ss;
      ss_is = act.stands.ss_is;
      masked = act.stands.masked;
      within = act.stands.within;
      enough = let e = act.stands.enough in omega (arith, e, short);
      at = at_any_cr2 (block mode act.stands.spot) act.stands.k _ c m a none act.stands.within act.stands.at;
      long = act.stands.long;
    };
    switches = act.switches;
    fills = act.fills;
    knows = act.knows;
    means = act.means;
  }

-- ---- the turn

module _ (mode : Mode) (image : Image) (built : IsBuilt image) (good : IsImage image) (facts : Facts mode image)
    (left : NatMap ℕ) (s : System) (m : Machine) (h : Stands mode image left s m) (p : ℕ) (hp : p < image.processors) where
  abbrev c : Processor
  c = s.cpus p

  abbrev x : abstract.Processor
  x = processor m p

  abbrev on : StandsOn mode image p (left p) s x
  on = step.on mode image built good facts left s m h p hp

  abbrev small : p < 32
  small = step.small mode image built good facts left s m h p hp

  abbrev r : ℕ
  r = x.running

  abbrev to : ℕ
  to = on.returning

  pub narrow : r < 7
  narrow = let z = step.narrow_task mode image built good facts left s m h p hp in omega arith

  -- What a body begins on: the last context, which stands with RIP `saved`, over any CR2, as it will be found at the return.
  pub record Under (saved : ℕ) : Type 0 where
    pub b : BodyContext
    pub below : List BodyContext
    pub count : length x.bodies ≡ suc (length below)
    pub last : Activation
    pub others : List Activation
    pub acts : s.activations p ≡ last ∷ others
    pub plain : ArePlain image (b ∷ below)
    pub calls : to_run (b ∷ below) ≡ to_run x.bodies
    pub outside : is_in_repeat c.rip ≡ is_in_repeat saved
    pub inside : code_end ≤ saved  -- it stands in the bodies' code
    pub chain : (a : ℕ) → Chain mode image p (body_edges mode image) r to (x.tasks to) on.frame on.switching on.fills (b ∷ below) (last ∷ others)
        (record c { rip = saved; cr2 = a }) s.memory

  -- The event that comes, which leaves this local APIC, and what the abstract machine makes of it.
  pub record Comes (saved : ℕ) (u : Under saved) (e : Event) (body : ℕ) : Type 0 where
    pub event : IsBodyEvent e
    pub found : first_body 0 image.bodies (event_key e.kind e.vector) Kernel ≡ Some body
    pub canonical : is_canonical saved ≡ true
    pub at : AtItem mode p r (length u.below) (record c { rip = saved })
    pub steps : (apic : Apic) × (processing.step c (s.apics p) s.memory (s.latches p) ≡ delivering c apic s.memory (s.latches p) e saved)
    pub seen : is_visible (marks_of mode image) s p ≡ true
    pub outer : starts_inner s p (next_of c (s.apics p) (s.latches p)) ≡ false
    pub set : NatSet
    pub apic_is : ApicIs mode image steps.0 set (body_at_start body Kernel e ∷ u.b ∷ u.below)
    pub machine : Machine
    pub own : processor machine p ≡ record x { bodies = body_at_start body Kernel e ∷ u.b ∷ u.below; pending = set }
    pub others : (q : ℕ) → (q == p) ≡ false → processor machine q ≡ processor m q
    pub words : machine.words ≡ m.words
    pub present : machine.present ≡ m.present
    pub cells : machine.cells ≡ m.cells
    pub turns : turn image m p ≡ (machine, entry_of p e (suc (suc (length u.below))) ∷ [])
    pub numbers : HoldsNumbers machine

  module _ (saved : ℕ) (u : Under saved) (e : Event) (body : ℕ) (y : Comes saved u e body) where
    -- the processor to which the body returns
    abbrev w : Processor
    w = record c { rip = saved }

    -- how many contexts stand below the last one
    abbrev n : ℕ
    n = length u.below

    abbrev apic : Apic
    apic = y.steps.0

    abbrev entered_context : BodyContext
    entered_context = body_at_start body Kernel e

    holder : HasBody image (event_key e.kind e.vector) body
    holder = has_body image good (event_key e.kind e.vector) body Kernel y.found

    abbrev now_bodies : List BodyContext
    now_bodies = entered_context ∷ u.b ∷ u.below

    abbrev z : abstract.Processor
    z = record x { bodies = now_bodies; pending = y.set }

    abbrev m' : Machine
    m' = y.machine

    legal : Legal image m'
    legal = turn_legal image good built.accepted m p hp h.legal (m', entry_of p e (suc (suc n)) ∷ []) y.turns

    -- the body's context is at an item
    is_context : IsContext mode image entered_context
    is_context =
        legal_context image (knows image m') entered_context (u.b ∷ u.below) mode
        (subst (λ (q : abstract.Processor). AreLegal image (knows image m') q.bodies) y.own (legal.each p).bodies)

    deep : suc n < 32
    deep = let few = legal_few image good built.accepted m' p legal in let l = ap (λ (q : abstract.Processor). length q.bodies) y.own in omega arith

    -- ---- kinds

    no_nmi : kind_of image entered_context (u.b ∷ u.below) ≡ FromBody
    no_nmi = ap (λ q. kind_from (key_by q) (u.b ∷ u.below)) holder.is ∙ ap (λ k. kind_from k (u.b ∷ u.below)) (holder.number ∙ y.event.key)
        ∙ by (e.vector == 2) refl
      where
        by : (t : Bool) → (e.vector == 2) ≡ t → (if t then NmiFromBody else FromBody) ≡ FromBody
        by true q = absurd (y.event.other.0 (eqb-true e.vector 2 q))
        by false q = refl

    plain_now : ArePlain image now_bodies
    plain_now = (ap is_plain_kind no_nmi, u.plain)

    seat_now : seat_of mode image r now_bodies ≡ seat_under mode r (suc n)
    seat_now = plain_seat mode image r entered_context (u.b ∷ u.below) plain_now

    -- ---- the delivery

    begun : Begins mode image p r n w e body s.memory
    begun = begins_in mode image p r n w e body s.memory (record {
      within = hp;
      few = good.count.1;
      formed = good;
      facts = facts;
      event = y.event;
      at = y.at;
      canonical = y.canonical;
      stack = narrow;
      deep = deep;
      regions_are = h.regions_are;
      fixed = h.fixed;
      found = y.found;
      stands = holder.body;
      is = holder.is;
    })

    abbrev d : Processor
    d = begun.cpu

    abbrev words' : NatMap ℕ
    words' = begun.words

    abbrev after : After
    after = record { cpu = d; apic = apic; words = words'; nmi = s.latches p; step = Stepped.Delivered e (Some begun.frame) }

    abbrev middle : System
    middle = after_step s p after

    abbrev s' : System
    s' = (acted image.processors middle p after.step).0

    abbrev as' : List Activation
    as' = activations_by s p (s.activations p) d after.step

    mv : Moves p s s' d as' words'
    mv = delivery_moves image.processors p s middle d as' words' e (Some begun.frame) (step_moves s p after refl)

    -- ---- the activations

    abbrev last_now : Activation
    last_now = record { rsp = 0; rip = 0; inner = false }

    abbrev under_now : Activation
    under_now = record (u.last) { rsp = rsp c; rip = c.rip }

    acts_are : as' ≡ last_now ∷ under_now ∷ u.others
    acts_are = (λ i. record { rsp = 0; rip = 0; inner = y.outer i } ∷ ap (interrupted c) u.acts i)

    above : AllAbove (top_at p (seat_under mode r (suc n))) (interrupted c (s.activations p))
    above =
        let others = above_less (top_at p (seat_under mode r (suc n))) (top_at p (seat_under mode r n)) (deeper mode p r n) u.others
        (chain_above mode image p (body_edges mode image) r to (x.tasks to) on.frame on.switching on.fills u.b u.below u.last u.others w s.memory u.plain
        (u.chain c.cr2)) in
        subst (λ ys. AllAbove (top_at p (seat_under mode r (suc n))) (interrupted c ys)) (sym u.acts)
        (rsp_over mode p r n (rsp c) y.at.at_top, others)

    -- ---- the chain

    changes : Changes p (seat_under mode r (suc n)) [] s.memory.words words'
    changes = begun.changes

    abbrev mem : Memory
    mem = with_words s.memory words'

    spared : AreSpared mode image p r (u.b ∷ u.below) s.memory.words words'
    spared = below_spared mode image p r [] s.memory.words words' entered_context (u.b ∷ u.below) small narrow deep tt refl
        (subst (λ σ. Changes p σ [] s.memory.words words') (sym seat_now) changes) plain_now

    records_kept : AreKept p on.fills (u.b ∷ u.below) s.memory.words words'
    records_kept = all_kept p (seat_under mode r (suc n)) [] small narrow s.memory.words words' tt changes refl p small on.fills
        (free_small x.records on.fills on.free)
        (u.b ∷ u.below) (λ k some. calls_bounded mode image m h.told h.calls good.count.1 p k (subst (λ ks. 0 < times k ks) u.calls some))

    under : (a : ℕ) → Chain mode image p (body_edges mode image) r to (x.tasks to) on.frame on.switching on.fills (u.b ∷ u.below) (under_now ∷ u.others)
        (record w { cr2 = a }) mem
    under a =
        let k = u.chain a in
        chain_stays mode image p (body_edges mode image) (body_edges mode image) r to (x.tasks to) on.frame on.switching on.fills (u.b ∷ u.below)
        (under_now ∷ u.others) (record w { cr2 = a }) s.memory words' hp good.count.1 spared records_kept (free_small x.records on.fills on.free) (inl u.inside)
        (omega arith) (omega arith) (k.0, k.1, k.2, k.3, k.4, k.5, k.6)

    -- the new activation fills no record
    abbrev fills_now : List (Option Filling)
    fills_now = None ∷ on.fills

    chain : Chain mode image p (body_edges mode image) r to (x.tasks to) on.frame on.switching fills_now now_bodies (last_now ∷ under_now ∷ u.others) d mem
    chain =
        let at_kind = subst (λ k. Beneath mode image (keeps_cr2 mode image k)
        (λ v. Chain mode image p (body_edges mode image) r to (x.tasks to) on.frame (chained mode image on.switching (u.b ∷ u.below)) on.fills (u.b ∷ u.below)
        (under_now ∷ u.others) v mem) w
        × Leads mode p k on.frame w mem.words
        × Active mode image p (body_edges mode image) k (seat_by mode k r (seat_of mode image r (u.b ∷ u.below)) (room_of mode image (u.b ∷ u.below))) on.frame
        (switches_at mode image on.switching (u.b ∷ u.below)) None w entered_context d mem) (sym no_nmi) (
          under,
          tt,
          subst (λ σ. Active mode image p (body_edges mode image) FromBody σ on.frame false None w entered_context d mem)
              (sym (ap (λ k. seat_by mode k r (seat_of mode image r (u.b ∷ u.below)) (room_of mode image (u.b ∷ u.below))) (sym no_nmi) ∙ seat_now))
              (begun.active on.frame),
        ) in
        (w, is_context, refl, (refl, u.outside, u.inside), at_kind.0, at_kind.1, at_kind.2)

    -- ---- the relation behind it

    abbrev now : ℕ
    now = body_edges mode image + inner_edges (s.latches p)

    words_same : AreSameWords p (seat_under mode r (suc n)) [] small narrow s.memory.words words' tt changes p
    words_same = tasks_same p (seat_under mode r (suc n)) [] small narrow s.memory.words words' tt changes refl p small

    there : StandsOn mode image p now s' z
    there = own_becomes mode image p (left p) s s' x (seat_under mode r (suc n)) d as' words' x.tasks x.slots x.resched
        fills_now now_bodies (body_edges mode image) on small
        (four_tasks image good p hp) mv (λ i d. inr (area_under mode r n)) narrow [] (none_spares p).free.allowed changes on.marked
        (λ f. current_is p (seat_under mode r (suc n)) [] small narrow s.memory.words words' tt changes p words_same mode x.running (on.current f))
        (λ f. mark_is p (seat_under mode r (suc n)) [] small narrow s.memory.words words' tt changes p words_same ∙ on.mark f)
        (λ k l. slot_same p (seat_under mode r (suc n)) [] small narrow s.memory.words words' tt changes refl p k small l ∙ on.slots k l)
        (λ i f. refl) on.tasks (begun.blocking ∙ sym (none_nmi image now_bodies plain_now))
        y.set (subst (λ q. ApicIs mode image q y.set now_bodies) (sym (at_same s.apics p p apic refl)) y.apic_is)
        (tt, on.free) (records_after mode image p (left p) s x (seat_under mode r (suc n)) words' on small narrow [] (none_spares p).free changes fills_now
        (λ k. refl))
        (omega arith)
        (subst (λ ys. Chain mode image p (body_edges mode image) r to (x.tasks to) on.frame on.switching fills_now now_bodies ys d mem) (sym acts_are) chain)

    all : Stands mode image (left_behind mode image p now) s' m'
    all =
        let domain = step.domain mode image built good facts left s m h p hp in
        stands_alike mode image left s s' m m' p now z (seat_under mode r (suc n)) d as' words' good built.accepted (four_tasks image good) h hp mv narrow []
        (none_spares p).free changes
        (record {
          own = y.own;
          others = y.others;
          mail = refl;
          mail_nmi = refl;
          records = refl;
          queue = refl;
          user = λ a i. user_same p (seat_under mode r (suc n)) [] small narrow s.memory.words words' tt changes refl a i ∙ h.shares.user a i
              ∙ sym (ap (λ q. q a) y.words);
          held = subst HoldsWords (sym y.words) h.shares.held;
          pages = λ i l. page_same p (seat_under mode r (suc n)) [] small narrow s.memory.words words' tt changes refl i l ∙ h.shares.pages i l
              ∙ sym (ap (λ q. if q i then 1 else 0) y.present);
          cells = λ k l. cell_same p (seat_under mode r (suc n)) [] small narrow s.memory.words words' tt changes refl k l ∙ h.shares.cells k l
              ∙ sym (ap (λ q. q k) y.cells);
        })
        legal (turn_bases image m p h.bases (m', entry_of p e (suc (suc n)) ∷ []) y.turns) y.numbers
        (h.told ++ entry_of p e (suc (suc n)) ∷ [])
        (turn_few image good built.accepted m p hp h.legal h.told h.calls s.totals.steps h.few (m', entry_of p e (suc (suc n)) ∷ []) y.turns)
        (turn_calls image good built.accepted m p hp h.legal h.told h.calls (m', entry_of p e (suc (suc n)) ∷ []) y.turns)
        (record { nmi = domain.nmi; mail_nmi = domain.mail_nmi }) there

    -- the frame's words are as many as before
    frame_fits : begun.frame + 8 * frame_size (middle.cpus p) e ≤ top_at p (seat_under mode r (suc n))
    frame_fits =
        let fred : has_fred (middle.cpus p) ≡ has_fred w = ap has_fred (at_same s.cpus p p d refl)
        ∙ (chain_kept mode image p (body_edges mode image) r to (x.tasks to) on.frame on.switching fills_now now_bodies
        (last_now ∷ under_now ∷ u.others) d mem chain).fred
        ∙ sym y.at.fred in
        let same : frame_size (middle.cpus p) e ≡ frame_size w e
        = ap (λ t. if t then 8 else (if is_hardware e.kind && has_error_code e.vector then 6 else 5)) fred in
        let is = begun.frame_is in
        omega arith

    pub comes_turns : TurnsTo mode image left s m p
    comes_turns =
        let depth : bodies_on s p ≡ suc n = stands_depth mode image facts p (left p) s x on ∙ u.count in
        let room = frame_room mode p r n small narrow deep in
        let size = size_small w e in
        let is = begun.frame_is in record {
          after = after;
          steps = y.steps.1 ∙ arrives c d apic s.memory (s.latches p) words' begun.frame e saved begun.went;
          machine = m';
          entries = entry_of p e (suc (suc n)) ∷ [];
          turns = y.turns;
          seen = y.seen;
          now_left = now;
          stands = all;
          shows = λ told. shown_is p (bodies_on s p) (is_user c) (has_fred c) told d words' e (Some begun.frame) (suc n) y.at.kernel depth
              (ap (λ t. t && has_fred c && not (e.vector == 3)) y.event.soft);
          counts = stands_depth mode image facts p now s' z there
              ∙ ap suc (sym depth) ∙ sym (ap (λ i. if i then bodies_on s p else suc (bodies_on s p)) y.outer);
          safe = delivery_safe mode image s middle p r (top_at p (seat_under mode r (suc n))) begun.frame image.processors e small narrow room.0 above
              (four_tasks image good) (omega arith) frame_fits;
        }

    pub comes_step : Simulated mode image left s m p
    comes_step = record {
      safe = is_safe mode image left s m p comes_turns;
      counts = tells_bodies mode image left s m p comes_turns;
      how = inr (makes_turn mode image left s m p comes_turns);
    }

-- ---- an item that raises it

module _ (mode : Mode) (image : Image) (built : IsBuilt image) (good : IsImage image) (facts : Facts mode image)
    (left : NatMap ℕ) (s : System) (m : Machine) (h : Stands mode image left s m) (p : ℕ) (hp : p < image.processors)
    (o : step.Top mode image built good facts left s m h p hp) where
  abbrev Stood : ℕ → BodyContext → Processor → Memory → Type 0
  Stood now b cpu mem = Active mode image p now o.κ o.σ (step.on mode image built good facts left s m h p hp).frame
      (switches_at mode image (step.on mode image built good facts left s m h p hp).switching o.below)
      (first_fill (step.on mode image built good facts left s m h p hp).fills) o.w b cpu mem

  -- the processor of an item, with another RIP
  pub at_item : (ss : ℕ) → IsKernelSs mode ss → (extra v : ℕ → ℕ) (f : Flags) (offset : ℕ) (rax rcx rdx : V) (g : Flags)
      → ItemState mode (here mode p o.κ o.σ ss o.w extra v f) (s.cpus p) s.memory offset rax rcx rdx g → length (s.cpus p).regs ≡ 16 → (saved : ℕ)
      → AtItem mode p (processor m p).running (length o.below) (record (s.cpus p) { rip = saved })
  at_item ss ss_is extra v f offset rax rcx rdx g state long saved =
      let e : Env = here mode p o.κ o.σ ss o.w extra v f in
      let c : Processor = s.cpus p in
      let x : abstract.Processor = processor m p in
      let small : p < 32 = step.small mode image built good facts left s m h p hp in
      let k : Kept mode image p c = step.kept_now mode image built good facts left s m h p hp in
      let under : Kept mode image p o.w = step.kept mode image built good facts left s m h p hp o in
      record {
        kernel = ap is_user state.rest;
        ring = (ap (λ (y : Processor). y.cpl) state.rest, ap (λ (y : Processor). y.cs) state.rest);
        ss = subst (IsKernelSs mode) (sym (ap (λ (y : Processor). y.ss) state.rest)) ss_is;
        level = k.level;
        flags = sym (kept c.flags g state.flags);
        unblocked = state.blocked ∙ unblocked mode;
        open_to = step.blocked mode image built good facts left s m h p hp;
        base = state.gs ∙ gs_of mode p o.κ o.σ ss o.w extra v f ∙ (let q : (pcpu p + 0) % M ≡ pcpu p = omega arith in q);
        levels = ap length state.levels ∙ ap suc under.stacks;
        config = k.config;
        stack_levels = k.levels;
        fred = k.fred;
        idt = k.idt;
        long = long;
        at_top = rsp_below mode p x.running (length o.below) (rsp c) small (narrow mode image built good facts left s m h p hp)
            (step.shallow mode image built good facts left s m h p hp o)
            (rsp_at mode e c s.memory offset rax rcx rdx g state
            ∙ ap (λ σ. (top_at p σ + (M - area_bytes mode)) % M) (step.under_is mode image built good facts left s m h p hp o));
      }

  -- What an item does that raises an event: its instruction delivers it, and the abstract machine raises it, where the context is b and RIP that is saved.
  pub record Raises (b : BodyContext) (saved : ℕ) (e : Event) (body : ℕ) : Type 0 where
    pub cell : Cell
    pub is : step.code mode image built good facts left s m h p hp (s.cpus p).rip ≡ Some cell
    pub marked : cell.mark ≡ Always
    pub runs : (a : Apic) (nmi : Bool) → executed (s.cpus p) a s.memory nmi (Some cell.ins) ≡ delivering (s.cpus p) a s.memory nmi e saved
    pub event : IsBodyEvent e
    pub serves_none : service_of e.kind e.vector ≡ None
    pub found : first_body 0 image.bodies (event_key e.kind e.vector) Kernel ≡ Some body
    pub same_body : b.body ≡ o.b.body
    pub same_service : b.service ≡ o.b.service
    pub same_calls : b.calls ≡ o.b.calls
    pub canonical : is_canonical saved ≡ true
    pub outside : is_in_repeat (s.cpus p).rip ≡ is_in_repeat saved
    pub inside : code_end ≤ saved
    pub stood : (a : ℕ) → Stood (body_edges mode image) b (record (s.cpus p) { rip = saved; cr2 = a }) s.memory
    pub machine : Machine
    pub own : processor machine p ≡ record (processor m p) { bodies = b ∷ o.below }
    pub others : (q : ℕ) → (q == p) ≡ false → processor machine q ≡ processor m q
    pub words : machine.words ≡ m.words
    pub present : machine.present ≡ m.present
    pub cells : machine.cells ≡ m.cells
    pub turns : turn image m p ≡ raised image machine p e

  module _ (b : BodyContext) (saved : ℕ) (e : Event) (body : ℕ) (y : Raises b saved e body)
      (at : AtItem mode p (processor m p).running (length o.below) (record (s.cpus p) { rip = saved })) where
    abbrev was : Processor
    was = s.cpus p

    abbrev bodies : List BodyContext
    bodies = body_at_start body Kernel e ∷ b ∷ o.below

    abbrev behind : Machine
    behind = with_processor y.machine p (record (processor m p) { bodies = bodies })

    turned : turn image m p ≡ (behind, entry_of p e (suc (suc (length o.below))) ∷ [])
    turned =
        let holder : HasBody image (event_key e.kind e.vector) body = has_body image good (event_key e.kind e.vector) body Kernel y.found in
        y.turns ∙ raised_is image y.machine p (processor m p) b o.below e body y.own holder y.found (holder.key_is ∙ y.event.name)

    own_is : processor behind p ≡ record (processor m p) { bodies = bodies }
    own_is = at_same y.machine.processors p p (record (processor m p) { bodies = bodies }) refl

    is_context_below : IsContext mode image b
    is_context_below =
        let legal : Legal image behind = turn_legal image good built.accepted m p hp h.legal (behind, entry_of p e (suc (suc (length o.below))) ∷ []) turned in
        legal_context image (knows image behind) b o.below mode
        (subst (λ (q : abstract.Processor). AreLegal image (knows image behind) q.bodies) own_is (legal.each p).bodies).1

    kind : kind_of image b o.below ≡ o.κ
    kind = ap (λ k. kind_from (key_by (slice_get image.bodies k)) o.below) y.same_body ∙ o.kind

    abbrev on_it : Under mode image built good facts left s m h p hp saved
    on_it = record {
      b = b;
      below = o.below;
      count = ap length o.bodies;
      last = o.last;
      others = o.others;
      acts = o.acts;
      plain = (
        ap is_plain_kind kind ∙ step.plain_kind mode image built good facts left s m h p hp o,
        (step.all_plain mode image built good facts left s m h p hp o).1,
      );
      calls = ap (λ ks. ks ++ to_run o.below) y.same_calls ∙ ap to_run (sym o.bodies);
      outside = y.outside;
      inside = y.inside;
      chain = λ a. step.with_last mode image built good facts left s m h p hp o b kind is_context_below (body_edges mode image)
          (record was { rip = saved; cr2 = a }) s.memory.words [] (none_spares p).free (step.unknown_none o.below) (λ i off off'. refl) (y.stood a);
    }

    -- the local APIC stays
    apic_stays : ApicIs mode image (s.apics p) (processor m p).pending bodies
    apic_stays = apic_again mode image (s.apics p) _ (processor m p).pending (processor m p).bodies bodies refl
        (λ class. ap (λ q. serves mode image class q || list_any (λ (a : BodyContext). serves mode image class a.service) (b ∷ o.below)) y.serves_none
        ∙ ap (λ q. serves mode image class q || list_any (λ (a : BodyContext). serves mode image class a.service) o.below) y.same_service
        ∙ sym (ap (list_any (λ (a : BodyContext). serves mode image class a.service)) o.bodies))
        (step.on mode image built good facts left s m h p hp).apic

    pub raise_step : Simulated mode image left s m p
    raise_step =
        let first = step.first mode image built good facts left s m h p hp o in
        comes_step mode image built good facts left s m h p hp saved on_it e body (record {
          event = y.event;
          found = y.found;
          canonical = y.canonical;
          at = at;
          steps = (
            s.apics p,
            cell_step (step.code mode image built good facts left s m h p hp) was (s.apics p) s.memory (s.latches p) y.cell
                (step.fetches mode image built good facts left s m h p hp) y.is first at.kernel
                ∙ y.runs (s.apics p) (s.latches p),
          );
          seen = seen (marks_of mode image) s p first at.kernel
              (ap (λ k. is_seen k s was) (facts.marks was.rip y.cell y.is ∙ y.marked));
          outer = ap (starts_inner s p) first;
          set = (processor m p).pending;
          apic_is = apic_stays;
          machine = behind;
          own = own_is;
          others = λ q f. at_other y.machine.processors p q (record (processor m p) { bodies = bodies }) f ∙ y.others q f;
          words = y.words;
          present = y.present;
          cells = y.cells;
          turns = turned;
          numbers = step.numbers_behind mode image built good facts left s m h p hp o (λ on. at.unblocked) behind
              (entry_of p e (suc (suc (length o.below))) ∷ []) turned;
        })
