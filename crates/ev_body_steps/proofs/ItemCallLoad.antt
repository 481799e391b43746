-- `call` at its item, and at the load of its record's state where that is in use: the load is visible then, and the local's answer is 0.
use Rattle.std.proofs.Common.{◌≡◌, ℕ, suc, ◌+◌, ◌-◌, ◌<◌, ◌≤◌, true, false, List, [], ◌∷◌, set, length, Some, None, refl, sym, ap, ◌∙◌, subst, arith}
use Rattle.std.specs.Prelude.{pos, slice_get, is_some, not, ◌&&◌, ◌==◌, nat_le, nat_lt}
use Rattle.std.proofs.Common.{le-leb, lt-ltb, leb-true, ltb-true}
use Rattle.std.proofs.lemmas.Bool.{not-false}
use Rattle.ev_symbolic.proofs.Values.{and_left, and_right}
use Rattle.ev_isa.specs.Word.{NatMap}
use Rattle.ev_isa.specs.Flags.{Flags}
use Rattle.ev_isa.specs.Spelling.{spelling, four_bytes}
use Rattle.ev_isa.specs.declared.instruction.Ins.{Ins}
use Rattle.ev_isa.specs.declared.instruction.Ins.TheVariants.{Load}
use Rattle.ev_isa.specs.declared.mode.Mode.{Mode}
use Rattle.ev_isa.specs.declared.mode.Mode.TheVariants.{Idt, Fred}
use Rattle.ev_body.specs.declared.item.Item.TheVariants.{Call}
use Rattle.ev_body.specs.declared.body.Body.{Body}
use Rattle.ev_body.specs.declared.image.Image.{Image}
use Rattle.ev_body.specs.WellFormed.{IsImage, is_local, is_word, has_operands}
use Rattle.ev_listing.specs.AddressMap.{record_address}
use Rattle.ev_listing.specs.Expansion.{item_address, function_address}
use Rattle.ev_listing.specs.Marks.{IfNonzero}
use Rattle.ev_state.specs.Processor.{Processor, register}
use Rattle.ev_mem.specs.Memory.{Memory}
use Rattle.ev_abstract.specs.Context.{BodyContext, with_local, onward}
use Rattle.ev_abstract.specs.ItemMeaning.{unknown_flags, with_context}
use Rattle.ev_abstract.specs.Machine.{CallState, Free, Queued, Taken, CallRecord, Machine, processor}
use Rattle.ev_abstract.specs.Machine as abstract
use Rattle.ev_abstract.specs.Rules.{breaks_slots}
use Rattle.ev_abstract.specs.Run.{item_at, turn}
use Rattle.ev_abstract.specs.declared.entry.Entry.{Entry}
use Rattle.ev_concrete.specs.ConcreteRun.{System, is_return}
use Rattle.ev_built.specs.Built.{IsBuilt}
use Rattle.ev_law.specs.Legal.{AreLegal, knows}
use Rattle.ev_law.proofs.Ruled.{body_ruled}
use Rattle.ev_symbolic.specs.Single.{Leads}
use Rattle.ev_symbolic.specs.Agrees.{Env, Code, Cell, At}
use Rattle.ev_blocks.specs.Calls.{AtRecord, BehindBusy, behind_state, busy_code}
use Rattle.ev_blocks.specs.Items.{AtItem, InCall}
use Rattle.ev_blocks.specs.Blocks.{block, edges}
use Rattle.ev_blocks.specs.Blocks as blocks
use Rattle.ev_table.specs.Table.{code_table}
use Rattle.ev_relation.specs.Filling.{first_fill, rest_fills, is_filled}
use Rattle.ev_relation.specs.Active.{item_place, address_of_item, item_of, site_of, here, IsKernelSs, InItem, InCallSpot, Active}
use Rattle.ev_relation.specs.Relation.{IsContext, HoldsCall, StandsOn, Stands, switches_at}
use Rattle.ev_relation.specs.Step.{Simulated}
use Rattle.ev_relation.proofs.CallKinds.{origin_of, plain_knows}
use Rattle.ev_relation.proofs.Facts.{Facts}
use Rattle.ev_relation.proofs.FilledOnce.{never_filled_twice}
use Rattle.ev_relation.proofs.Legality.{turn_legal}
use Rattle.ev_relation.proofs.Spots.{is_spot}
use Rattle.ev_body_steps.proofs.Bodies.{body, means_at}
use Rattle.ev_body_steps.proofs.CallCells.{CallCode, call_code, busy_edges}
use Rattle.ev_body_steps.proofs.CallFirst.{AreKept, in_code, to_record}
use Rattle.ev_body_steps.proofs.CallGoes as goes
use Rattle.ev_body_steps.proofs.CallSteps.{AreOfCalls}
use Rattle.ev_body_steps.proofs.CallSteps as calls
use Rattle.ev_body_steps.proofs.CallTurns as alike
use Rattle.ev_body_steps.proofs.ItemCells.{edges_stand}
use Rattle.ev_body_steps.proofs.ItemState.{with_registers, gone}
use Rattle.ev_body_steps.proofs.ItemVisible.{legal_context}
use Rattle.ev_body_steps.proofs.KernelStep as step
use Rattle.ev_body_steps.proofs.RecordLoad as record_load

busy_spot : (mode : Mode) (r : ℕ) → 6 ≤ r → r < 14 → is_spot mode (body mode (InCall (BehindBusy r))) ≡ true
busy_spot Fred r l u = ap (λ t. t && nat_lt r 14) (le-leb 6 r l) ∙ lt-ltb r 14 u
busy_spot Idt r l u = ap (λ t. t && nat_lt r 14) (le-leb 6 r l) ∙ lt-ltb r 14 u

busy_few : (mode : Mode) (r : ℕ) → edges mode (body mode (InCall (BehindBusy r))) 0 ≤ 100
busy_few Fred r = omega arith
busy_few Idt r = omega arith

module _ (mode : Mode) (image : Image) (built : IsBuilt image) (good : IsImage image) (facts : Facts mode image)
    (left : NatMap ℕ) (s : System) (m : Machine) (h : Stands mode image left s m) (p : ℕ) (hp : p < image.processors)
    (o : step.Top mode image built good facts left s m h p hp) (body' : Body) (is : slice_get image.bodies o.b.body ≡ Some body') where
  abbrev code : Code
  code = code_table mode image

  abbrev c : Processor
  c = s.cpus p

  abbrev b : BodyContext
  b = o.b

  abbrev x : abstract.Processor
  x = processor m p

  abbrev on : StandsOn mode image p (left p) s x
  on = step.on mode image built good facts left s m h p hp

  abbrev env : ℕ → (extra v : ℕ → ℕ) → Flags → Env
  env ss extra v f = here mode p o.κ o.σ ss o.w extra v f

  abbrev Stood : ℕ → BodyContext → Processor → Memory → Type 0
  Stood now b cpu mem = Active mode image p now o.κ o.σ on.frame (switches_at mode image on.switching o.below) (first_fill on.fills) o.w b cpu mem

  module _ (site to func r : ℕ) (hi : item_at (Some body') b.place ≡ Some (Call site to func r)) where
    abbrev a : ℕ
    a = item_address mode b.body body' b.place

    pub cells : CallCode code a (item_address mode b.body body' (suc b.place)) site to func r (function_address mode image func)
    cells = call_code mode image facts b.body body' is b.place site to func r hi

    pub item : item_of mode image b ≡ Some (Call site to func r)
    item = ap (λ y. item_at y b.place) is ∙ hi

    pub small_site : site < 8
    unfolding breaks_slots
    small_site =
        let ok : nat_lt site 8 && nat_lt to image.processors && nat_lt func 8 ≡ true
        = not-false _ ((body_ruled image good built.accepted.1.kept b.body body' is).slots b.place (Call site to func r) hi) in
        ltb-true site 8 (and_left (nat_lt site 8) _ (and_left (nat_lt site 8 && nat_lt to image.processors) _ ok))

    pub bounds : (6 ≤ r) × (r < 14)
    unfolding has_operands
    bounds =
        let ok : is_word site && is_word to && is_word func && is_local r ≡ true
        = ((body_ruled image good built.accepted.1.kept b.body body' is).operands b.place (Call site to func r) hi).2 in
        let q : is_local r ≡ true = and_right (is_word site && is_word to && is_word func) _ ok in
        (leb-true 6 r (and_left _ _ q), ltb-true r 14 (and_right (nat_le 6 r) _ q))

    -- no context below fills the site's record
    pub unfilled_beneath : is_filled site (rest_fills on.fills) ≡ false
    unfilled_beneath = never_filled_twice mode image good built.accepted p (left p) s m h.legal on b o.below o.bodies site to func r item

    -- At the item: the load of the first record's address is an edge.
    pub at_call : first_fill on.fills ≡ None → (act : Stood on.own b c s.memory) (ss : ℕ) → IsKernelSs mode ss → (extra v : ℕ → ℕ) (f : Flags)
        → At code (block mode (body mode AtItem)) 0 (env ss extra v f) c s.memory → InItem mode image (origin_of o.κ) (env ss extra v f) o.w b s.memory.words
        → extra 20 ≡ item_place mode image b.body b.place → length c.regs ≡ 16 → edges mode (body mode AtItem) 0 ≤ on.own → Simulated mode image left s m p
    unfolding site_of
    at_call unfilled act ss ss_is extra v f at means place long enough =
        to_record mode image built good facts left s m h p hp o body' is unfilled act ss ss_is extra v f at means place long enough site
        (ap (λ y. site_of y) item) (record { first = cells.first; sum = cells.sum })

    module _ (unfilled : first_fill on.fills ≡ None) (act : Stood on.own b c s.memory) (ss : ℕ) (ss_is : IsKernelSs mode ss) (extra v : ℕ → ℕ) (f : Flags)
        (at : At code (block mode (body mode (InCall (AtRecord site)))) (block mode (body mode (InCall (AtRecord site)))).steps (env ss extra v f) c s.memory)
        (means : InCallSpot mode image (origin_of o.κ) (AtRecord site) (env ss extra v f) o.w b (first_fill on.fills) s.memory.words) where
      abbrev there : ℕ
      there = record_address p site

      pub base : extra 20 ≡ a
      base = means.1 ∙ ap (address_of_item mode b.body b.place) is

      abbrev pub at_load : record_load.AtLoad mode image built good facts left s m h p hp o unfilled act ss ss_is extra v f site at means small_site
      at_load = (record_load.at_load mode image built good facts left s m h p hp o unfilled act ss ss_is extra v f site at means small_site).0

      -- the record holds what the abstract machine has of it
      pub held : HoldsCall mode image s.memory.words p site (x.records site)
      held = record_load.held mode image built good facts left s m h p hp o unfilled act ss ss_is extra v f site at means small_site unfilled_beneath

      pub rbx : register c 3 ≡ there
      rbx = record_load.rbx mode image built good facts left s m h p hp o unfilled act ss ss_is extra v f site at means small_site

      abbrev pub ins : Ins
      ins = Load 0 3 (pos 0)

      abbrev pub next : ℕ
      next = a + behind_state

      abbrev pub cell : Cell
      cell = record { ins = ins; next = next; mark = IfNonzero }

      pub found : code c.rip ≡ Some cell
      found = ap code (goes.rip_is mode image built good facts left s m h p hp o ss extra v f 16 at_load ∙ ap (λ k. k + 16) base) ∙ cells.seen

      pub next_is : next ≡ extra 20 + behind_state
      next_is = ap (λ k. k + behind_state) (sym base)

      -- the context behind the load that finds the record in use
      abbrev answered : BodyContext
      answered = onward (with_local (unknown_flags b) r 0)

      -- Where the record is in use, the load is visible.
      pub busy : s.memory.words there ≡ 1 → turn image m p ≡ (with_context m p answered, Entry.Busy p site ∷ []) → Simulated mode image left s m p
      unfolding is_return spelling four_bytes
      busy used turns =
          let range = at_load.range in
          let high = range.1 in
          let base_is = base in
          let regs : List ℕ = set c.regs 0 1 in
          let g : Flags = at_load.flags in
          let cpu : Processor = gone c regs g next in
          let u : Env = env ss extra (with_registers regs v) g in
          let leads : Leads c s.memory ins cpu s.memory.words = record_load.loads mode image built good facts left s m h p hp o unfilled act ss ss_is extra v f
          site at means small_site 1 used next next_is in
          let wide : length regs ≡ 16
          = record_load.wide mode image built good facts left s m h p hp o unfilled act ss ss_is extra v f site at means small_site 1 used in
          let stands = record_load.opens_behind mode image built good facts left s m h p hp o unfilled act ss ss_is extra v f site at means small_site 1 used
          (BehindBusy r) refl (busy_spot mode r bounds.0 bounds.1) next next_is refl refl refl
          (edges_stand code u a behind_state (busy_code r) base_is (omega arith)
          (busy_edges code a (item_address mode b.body body' (suc b.place)) site to func r (function_address mode image func) cells)) in
          let kept : AreKept v regs
          = record_load.kept mode image built good facts left s m h p hp o unfilled act ss ss_is extra v f site at means small_site 1 used in
          let b' : BodyContext = answered in
          let inside = in_code mode image built good facts left s m h p hp o ss extra v f g regs kept range b refl refl means.0.saved means.0.locals
          means.0.calls in
          let plain = step.plain_kind mode image built good facts left s m h p hp o in
          let now : ℕ = edges mode (body mode (InCall (BehindBusy r))) 0 in
          let bounded = busy_few mode r in
          let act' : Stood now b' cpu s.memory = record {
            stands = record {
              spot = body mode (InCall (BehindBusy r));
              k = 0;
              extra = extra;
              var = with_registers regs v;
              flags = g;
              ss = ss;
              ss_is = ss_is;
              masked = step.masks_flags mode image built good facts left s m h p hp o g at_load.state.flags;
              within = omega arith;
              enough = omega arith;
              at = stands;
              long = wide;
            };
            switches = sym o.off;
            fills = sym (ap is_some unfilled);
            knows = plain_knows mode o.κ on.frame plain (blocks.holds (body mode (InCall (BehindBusy r))));
            means = means_at mode image o.κ plain (InCall (BehindBusy r)) u o.w b' (first_fill on.fills) s.memory.words (record {
              range = range;
              saved = inside.saved;
              is_local = bounds;
              locals = ap (λ xs. set xs (r - 6) 0) inside.locals;
              flags = refl;
              calls = inside.calls;
              site = site;
              to = to;
              func = func;
              n = b.place;
              code = (item, means.1);
              next = refl;
            });
          } in
          let m' : Machine = with_context m p b' in
          let es : List Entry = Entry.Busy p site ∷ [] in
          let ctx : IsContext mode image b' = legal_context image (knows image m') b' o.below mode
          (subst (λ (q : abstract.Processor). AreLegal image (knows image m') q.bodies)
          (alike.own_is mode image built good facts left s m h p hp o b')
          ((turn_legal image good built.accepted m p hp h.legal (m', es) turns).each p).bodies) in
          calls.turns mode image built good facts left s m h p hp o (alike.no_call mode image built good facts left s m h p hp o)
          (alike.none_alone mode image built good facts left s m h p hp o) s.memory.words []
          (alike.none_of_calls mode image built good facts left s m h p hp o) (λ k off far. refl) on.fills refl (λ k off e. e)
          (λ i. at_load.state.blocked) cell found IfNonzero refl (ap (λ n. not (n == 0)) (ap s.memory.words rbx ∙ used)) refl at_load.kernel
          (step.outside mode image built good facts left s m h p hp o act) cpu leads (step.blocked mode image built good facts left s m h p hp)
          m' es turns b' o.kind ctx refl (alike.makes_as_before mode image built good facts left s m h p hp o b') now (omega arith) act'
          (λ counted. ap (λ n. Entry.Busy p n ∷ [])
          (record_load.site_is mode image built good facts left s m h p hp o unfilled act ss ss_is extra v f site at means small_site held))
