-- `call` at the load of its record's state where that is free: an edge, behind which the context fills the record. And the load in any state.
use Rattle.std.proofs.Common.{◌≡◌, ℕ, suc, ◌+◌, ◌%◌, ◌<◌, ◌≤◌, Bool, true, false, List, [], ◌∷◌, ◌++◌, get_or, set, map, length, Option, Some, None, refl, sym, ap, ◌∙◌, subst, arith}
use Rattle.std.specs.Prelude.{pos, slice_get, not, ◌&&◌, ◌==◌, nat_lt}
use Rattle.std.proofs.Common.{le-leb, lt-ltb}
use Rattle.ev_isa.specs.Word.{NatMap}
use Rattle.ev_isa.specs.Flags.{Flags}
use Rattle.ev_isa.specs.Spelling.{spelling, four_bytes}
use Rattle.ev_isa.specs.declared.instruction.Ins.TheVariants.{Load}
use Rattle.ev_isa.specs.declared.mode.Mode.{Mode}
use Rattle.ev_isa.specs.declared.mode.Mode.TheVariants.{Idt, Fred}
use Rattle.ev_body.specs.declared.item.Item.TheVariants.{Call}
use Rattle.ev_body.specs.declared.body.Body.{Body}
use Rattle.ev_body.specs.declared.image.Image.{Image}
use Rattle.ev_body.specs.WellFormed.{IsImage}
use Rattle.ev_listing.specs.AddressMap.{record_address}
use Rattle.ev_listing.specs.Expansion.{item_address, function_address}
use Rattle.ev_state.specs.Processor.{Processor, register}
use Rattle.ev_mem.specs.Memory.{Memory}
use Rattle.ev_abstract.specs.Context.{BodyContext, with_local, onward}
use Rattle.ev_abstract.specs.ItemMeaning.{item_step, called, unknown_flags, with_context}
use Rattle.ev_abstract.specs.Machine.{CallState, Free, Queued, Taken, CallRecord, Machine, processor}
use Rattle.ev_abstract.specs.Machine as abstract
use Rattle.ev_abstract.specs.Run.{item_at, turn}
use Rattle.ev_abstract.specs.declared.entry.Entry.{Entry}
use Rattle.ev_concrete.specs.ConcreteRun.{System, is_return}
use Rattle.ev_built.specs.Built.{IsBuilt}
use Rattle.ev_symbolic.specs.Single.{Leads}
use Rattle.ev_symbolic.specs.Agrees.{Env, Code, At}
use Rattle.ev_blocks.specs.Calls.{AtRecord, behind_state}
use Rattle.ev_blocks.specs.Items.{InCall}
use Rattle.ev_blocks.specs.Blocks.{block, edges}
use Rattle.ev_blocks.specs.Blocks as blocks
use Rattle.ev_table.specs.Table.{code_table}
use Rattle.ev_relation.specs.Filling.{first_fill, rest_fills, is_filled}
use Rattle.ev_relation.specs.Active.{address_of_item, here, IsKernelSs, HoldsCalls, InCode, InCallSpot, Active}
use Rattle.ev_relation.specs.Relation.{HoldsCall, CallIs, StandsOn, Stands, switches_at}
use Rattle.ev_relation.specs.Step.{Simulated}
use Rattle.ev_relation.proofs.CallKinds.{origin_of, plain_knows}
use Rattle.ev_relation.proofs.Facts.{Facts}
use Rattle.ev_body_steps.proofs.Bodies.{body, means_at}
use Rattle.ev_body_steps.proofs.CallCells.{CallCode}
use Rattle.ev_body_steps.proofs.CallFirst.{AreKept}
use Rattle.ev_body_steps.proofs.CallSteps.{AreOfCalls}
use Rattle.ev_body_steps.proofs.CallSteps as calls
use Rattle.ev_body_steps.proofs.CallTurns as alike
use Rattle.ev_body_steps.proofs.ItemCells.{edges_stand}
use Rattle.ev_body_steps.proofs.ItemState.{with_registers, gone}
use Rattle.ev_body_steps.proofs.KernelStep as step
use Rattle.ev_body_steps.proofs.RecordLoad as record_load
use Rattle.std.specs.Prelude.{◌||◌, if◌then◌else◌}
use Rattle.std.proofs.lemmas.List.{get_or-set_same, get_or-set_other}
use Rattle.ev_symbolic.specs.Value.{M, K, P, X}
use Rattle.ev_symbolic.specs.State.{Block, Word}
use Rattle.ev_symbolic.specs.Openings.{at_base, word}
use Rattle.ev_symbolic.specs.Names.{record_tag, top_less}
use Rattle.ev_symbolic.specs.Agrees.{Known, eval, Stands as Lines}
use Rattle.ev_distances.specs.Form.{win_of, InRecord}
use Rattle.ev_blocks.specs.Calls.{AtFill, block_of_call, site_words, fill_code}
use Rattle.ev_blocks.specs.Shapes.{FredFrame, IdtFrame, body_bytes}
use Rattle.ev_blocks.proofs.CallFalls.{call_edges}
use Rattle.ev_paths.specs.CallEnds.{item_regs}
use Rattle.ev_relation.specs.Filling.{Filling}
use Rattle.ev_relation.proofs.CallHolders.{free_more}
use Rattle.ev_relation.proofs.ModeFacts.{is_fred}
use Rattle.ev_body_steps.proofs.Bodies.{layout_of, tells_record, saved_beside}
use Rattle.ev_body_steps.proofs.CallGoes.{block_is}
use Rattle.ev_body_steps.proofs.CallPlaces.{rax_regs_are, told_too, same_rsp}
use Rattle.ev_body_steps.proofs.FillGoes.{FillOpens, record_opens, known_more, fill_stands}
use Rattle.ev_body_steps.proofs.ItemState.{opening_of, known_of, beyond_registers}
use Rattle.ev_activation.specs.Seat.{Kind, Seat}
use Rattle.ev_body_steps.proofs.ItemCallLoad as load
use Rattle.ev_body_steps.proofs.RecordLoad.{none_fills}

-- ---- the block that fills the record

module _ (address func to r : ℕ) where
  abbrev fill_block : Mode → Block
  fill_block mode = block_of_call (is_fred mode) (layout_of mode) (AtFill address func to r)

  fill_opening : (mode : Mode) → FillOpens mode (fill_block mode)
  fill_opening mode = record_opens mode _ _ _ _ _ _

  fill_words : (mode : Mode) → (fill_block mode).opening.words ≡ (word (at_base record_tag 0x28) (X 25) ∷ site_words) ++ (opening_of mode).words
  fill_words Fred = refl
  fill_words Idt = refl

  fill_falls : (mode : Mode) (site : ℕ) → edges mode (body mode (InCall (AtFill address func to r))) 0
      < edges mode (body mode (InCall (AtRecord site))) (block mode (body mode (InCall (AtRecord site)))).steps
  fill_falls Fred site = (call_edges Fred FredFrame).fill site address func to r
  fill_falls Idt site = (call_edges Idt IdtFrame).fill site address func to r

-- the variables of a record that is filled: its number, the processor and the site
abbrev filling : (number p site : ℕ) → (ℕ → ℕ) → ℕ → ℕ
filling number p site v n = if tells_record n then (if n == 25 then number else (if n == 27 then p else site)) else v n

-- what the block knows of the frame doesn't depend on them
frame_known : (mode : Mode) (n : ℕ) (p site : ℕ) (κ : Kind) (σ : Seat) (q ss : ℕ) (w : Processor) (extra extra' v : ℕ → ℕ) (f g : Flags) (regs : List ℕ)
    (words : NatMap ℕ) → Known (here mode q κ σ ss w extra v f) (known_of mode) words (opening_of mode).words
    → Known (here mode q κ σ ss w extra' (with_registers regs (filling n p site v)) g) (known_of mode) words (opening_of mode).words
unfolding eval
frame_known Fred n p site κ σ q ss w extra extra' v f g regs words h = h
frame_known Idt n p site κ σ q ss w extra extra' v f g regs words h = h

-- with the record's address
abbrev at_record : ℕ → (ℕ → ℕ) → ℕ → ℕ
at_record a extra n = if n == 22 then a else extra n

-- none fills a record below, where none of the list does
rest_unfilled : (t u : Bool) → (t || u) ≡ false → u ≡ false
rest_unfilled true u h = let clash : true ≡ false = h in cc
rest_unfilled false u h = h

module _ (mode : Mode) (image : Image) (built : IsBuilt image) (good : IsImage image) (facts : Facts mode image)
    (left : NatMap ℕ) (s : System) (m : Machine) (h : Stands mode image left s m) (p : ℕ) (hp : p < image.processors)
    (o : step.Top mode image built good facts left s m h p hp) (body' : Body) (is : slice_get image.bodies o.b.body ≡ Some body') where
  abbrev code : Code
  code = code_table mode image

  abbrev c : Processor
  c = s.cpus p

  abbrev b : BodyContext
  b = o.b

  abbrev x : abstract.Processor
  x = processor m p

  abbrev on : StandsOn mode image p (left p) s x
  on = step.on mode image built good facts left s m h p hp

  abbrev env : ℕ → (extra v : ℕ → ℕ) → Flags → Env
  env ss extra v f = here mode p o.κ o.σ ss o.w extra v f

  abbrev Stood : ℕ → BodyContext → Processor → Memory → Type 0
  Stood now b cpu mem = Active mode image p now o.κ o.σ on.frame (switches_at mode image on.switching o.below) (first_fill on.fills) o.w b cpu mem

  module _ (site to func r : ℕ) (hi : item_at (Some body') b.place ≡ Some (Call site to func r)) where
    abbrev a : ℕ
    a = item_address mode b.body body' b.place

    module _ (unfilled : first_fill on.fills ≡ None) (act : Stood on.own b c s.memory) (ss : ℕ) (ss_is : IsKernelSs mode ss) (extra v : ℕ → ℕ) (f : Flags)
        (at : At code (block mode (body mode (InCall (AtRecord site)))) (block mode (body mode (InCall (AtRecord site)))).steps (env ss extra v f) c s.memory)
        (means : InCallSpot mode image (origin_of o.κ) (AtRecord site) (env ss extra v f) o.w b (first_fill on.fills) s.memory.words)
        (enough : edges mode (body mode (InCall (AtRecord site))) (block mode (body mode (InCall (AtRecord site)))).steps ≤ on.own) where
      abbrev there : ℕ
      there = record_address p site

      abbrev address : ℕ
      address = function_address mode image func

      abbrev number : ℕ
      number = (x.records site).number

      small_site : site < 8
      small_site = load.small_site mode image built good facts left s m h p hp o body' is site to func r hi

      bounds : (6 ≤ r) × (r < 14)
      bounds = load.bounds mode image built good facts left s m h p hp o body' is site to func r hi

      abbrev at_load : record_load.AtLoad mode image built good facts left s m h p hp o unfilled act ss ss_is extra v f site at means small_site
      at_load = (record_load.at_load mode image built good facts left s m h p hp o unfilled act ss ss_is extra v f site at means small_site).0

      held : HoldsCall mode image s.memory.words p site (x.records site)
      held = load.held mode image built good facts left s m h p hp o body' is site to func r hi unfilled act ss ss_is extra v f at means

      rbx : register c 3 ≡ there
      rbx = record_load.rbx mode image built good facts left s m h p hp o unfilled act ss ss_is extra v f site at means small_site

      nowhere : is_filled site on.fills ≡ false
      nowhere = none_fills site on.fills unfilled (load.unfilled_beneath mode image built good facts left s m h p hp o body' is site to func r hi)

      abbrev next : ℕ
      next = a + behind_state

      base : extra 20 ≡ a
      base = means.1 ∙ ap (address_of_item mode b.body b.place) is

      next_is : next ≡ extra 20 + behind_state
      next_is = ap (λ k. k + behind_state) (sym base)

      -- Where the record is free, the load is an edge, from where the context fills it.
      free : (x.records site).state ≡ Free → s.memory.words there ≡ 0 → Simulated mode image left s m p
      unfolding is_return spelling four_bytes eval
      free state reads =
          let y : record_load.AtLoad mode image built good facts left s m h p hp o unfilled act ss ss_is extra v f site at means small_site = at_load in
          let range = y.range in
          let high = range.1 in
          let low = small_site in
          let near = step.small mode image built good facts left s m h p hp in
          let base_is = base in
          let spot = AtFill address func to r in
          let regs : List ℕ = set c.regs 0 0 in
          let g : Flags = y.flags in
          let cpu : Processor = gone c regs g next in
          let extra' : ℕ → ℕ = at_record there extra in
          let v' : ℕ → ℕ = filling (number % M) p site v in
          let u : Env = env ss extra' (with_registers regs v') g in
          let cells : CallCode code a (item_address mode b.body body' (suc b.place)) site to func r address
          = load.cells mode image built good facts left s m h p hp o body' is site to func r hi in
          let long = y.state.long in
          let wide : length regs ≡ 16
          = record_load.wide mode image built good facts left s m h p hp o unfilled act ss ss_is extra v f site at means small_site 0 reads in
          let same_stack : get_or regs 4 0 ≡ get_or c.regs 4 0
          = record_load.same_stack mode image built good facts left s m h p hp o unfilled act ss ss_is extra v f site at means small_site 0 reads in
          let leads : Leads c s.memory (Load 0 3 (pos 0)) cpu s.memory.words
          = record_load.loads mode image built good facts left s m h p hp o unfilled act ss ss_is extra v f site at means small_site 0 reads next next_is in
          let kept : AreKept v regs
          = record_load.kept mode image built good facts left s m h p hp o unfilled act ss ss_is extra v f site at means small_site 0 reads in
          let is_block = block_is mode spot in
          let stack : get_or regs 4 0 ≡ eval u (top_less (body_bytes (layout_of mode)))
          = same_stack ∙ same_rsp mode p o.κ o.σ ss o.w extra v f c s.memory 16 g y.state extra' v' refl refl refl in
          let rbx_is : get_or regs 3 0 ≡ eval u (P record_tag 0) = get_or-set_other c.regs 0 3 0 0 (λ e. omega arith) ∙ rbx
          ∙ (let q : record_address p site ≡ (record_address p site + 0) % M = omega arith in q) in
          let told : regs ≡ map (eval u) (set (set (item_regs (layout_of mode)) 0 (K 0)) 3 (P record_tag 0))
          = told_too u regs (set (item_regs (layout_of mode)) 0 (K 0)) 3 (P record_tag 0)
          (rax_regs_are mode u regs v' (K 0) refl wide stack (get_or-set_same c.regs 0 0 0 (omega arith))) rbx_is in
          let at_word = λ (n : ℕ) (l : n < 0x40).
          ap s.memory.words (let q : (record_address p site + n) % M ≡ record_address p site + n = omega arith in q) in
          let knows : Known u (win_of InRecord ∷ known_of mode) s.memory.words
          ((word (at_base record_tag 0x28) (X 25) ∷ site_words) ++ (opening_of mode).words)
          = ((
            refl,
            at_word 0x28 (omega arith) ∙ held.number,
            (
              refl,
              at_word 0x20 (omega arith) ∙ held.from,
              (
                refl,
                at_word 0x30 (omega arith) ∙ held.site,
                known_more u (known_of mode) (win_of InRecord) s.memory.words (opening_of mode).words
                    (frame_known mode (number % M) p site o.κ o.σ p ss o.w extra extra' v f g regs s.memory.words y.state.words),
              ),
            ),
          )) in
          let lines : Lines code u (block mode (body mode (InCall spot))).lines = subst (λ (B : Block). Lines code u B.lines) (sym is_block)
          (edges_stand code u a behind_state (fill_code address func to r) base_is (omega arith) cells.fill) in
          let stands = fill_stands mode image built good facts left s m h p hp o ss extra v f 16 g y.state range (InCall spot)
          (ap (λ t. t && nat_lt r 14) (le-leb 6 r bounds.0) ∙ lt-ltb r 14 bounds.1)
          (subst (FillOpens mode) (sym is_block) (fill_opening address func to r mode)) extra' v' refl refl refl refl site small_site refl
          regs next behind_state wide same_stack (omega arith)
          (ap (λ (B : Block). B.opening.rip) is_block) (told ∙ ap (λ (B : Block). map (eval u) B.opening.regs) (sym is_block))
          (subst (λ (ws : List Word). Known u (win_of InRecord ∷ known_of mode) s.memory.words ws)
          (sym (ap (λ (B : Block). B.opening.words) is_block ∙ fill_words address func to r mode)) knows) lines in
          let inside : InCode mode image (origin_of o.κ) u o.w b s.memory.words = record {
            range = range;
            saved = saved_beside mode image (origin_of o.κ) (env ss extra v f) u o.w (λ i l below off. beyond_registers regs v' i l
                ∙ ap (λ t. if t then (if i == 25 then number % M else (if i == 27 then p else site)) else v i) off) refl refl refl means.0.saved;
            locals = means.0.locals ∙ sym kept.locals;
            calls = subst (λ k. HoldsCalls mode image s.memory.words k b.calls) (sym kept.calls) means.0.calls;
          } in
          let plain = step.plain_kind mode image built good facts left s m h p hp o in
          let now : ℕ = edges mode (body mode (InCall spot)) 0 in
          let falls = fill_falls address func to r mode site in
          let one : Filling = record { site = site; number = number } in
          let fs : List (Option Filling) = Some one ∷ rest_fills on.fills in
          calls.edge mode image built good facts left s m h p hp o (alike.no_call mode image built good facts left s m h p hp o)
          (alike.none_alone mode image built good facts left s m h p hp o) s.memory.words []
          (alike.none_of_calls mode image built good facts left s m h p hp o) (λ k off far. refl) fs refl
          (λ k off e. none_fills k on.fills unfilled (rest_unfilled (site == k) (is_filled k (rest_fills on.fills)) e))
          (load.cell mode image built good facts left s m h p hp o body' is site to func r hi unfilled act ss ss_is extra v f at means)
          (load.found mode image built good facts left s m h p hp o body' is site to func r hi unfilled act ss ss_is extra v f at means)
          (ap (λ n. not (n == 0)) (ap s.memory.words rbx ∙ reads)) refl y.kernel (step.outside mode image built good facts left s m h p hp o act) cpu leads
          (step.blocked mode image built good facts left s m h p hp) (λ q. refl)
          (free_more x.records on.fills site number small_site state refl unfilled nowhere on.free)
          (λ q k lq lk mine none. let clash : false ≡ true = mine in absurd (cc)) now (omega arith)
          (record {
            stands = record {
              spot = body mode (InCall spot);
              k = 0;
              extra = extra';
              var = with_registers regs v';
              flags = g;
              ss = ss;
              ss_is = ss_is;
              masked = step.masks_flags mode image built good facts left s m h p hp o g y.state.flags;
              within = omega arith;
              enough = omega arith;
              at = stands;
              long = wide;
            };
            switches = sym o.off;
            fills = refl;
            knows = plain_knows mode o.κ on.frame plain (blocks.holds (body mode (InCall spot)));
            means = means_at mode image o.κ plain (InCall spot) u o.w b (Some one) s.memory.words (
              inside,
              means.1,
              record {
                site = site;
                number = number;
                is = refl;
                item = load.item mode image built good facts left s m h p hp o body' is site to func r hi;
                is_local = bounds;
                at = omega arith;
                address_is = refl;
                from = refl;
                from_site = refl;
              },
              refl,
            );
          })

      -- At the load: a turn where the record is in use, and else an edge.
      pub by_load : Simulated mode image left s m p
      unfolding item_step
      by_load = by_state (x.records site).state refl
        where
          turned : (st : CallState) → (x.records site).state ≡ st
              → turn image m p ≡ called m p b (record { from = p; site = site }) st to func r
          turned st e = step.turns mode image built good facts left s m h p hp o (λ i. at_load.state.blocked) (Call site to func r)
              (load.item mode image built good facts left s m h p hp o body' is site to func r hi)
              ∙ ap (λ st. called m p b (record { from = p; site = site }) st to func r) e

          call : (st : CallState) → (x.records site).state ≡ st → CallIs mode image s.memory.words there (x.records site) st
          call st e = subst (CallIs mode image s.memory.words there (x.records site)) e held.call

          in_use : s.memory.words there ≡ 1
              → turn image m p ≡ (with_context m p (onward (with_local (unknown_flags b) r 0)), Entry.Busy p site ∷ []) → Simulated mode image left s m p
          in_use = load.busy mode image built good facts left s m h p hp o body' is site to func r hi unfilled act ss ss_is extra v f at means

          by_state : (st : CallState) → (x.records site).state ≡ st → Simulated mode image left s m p
          by_state Free e = free e (call Free e)
          by_state Queued e = in_use (call Queued e).0 (turned Queued e)
          by_state Taken e = in_use (call Taken e).0 (turned Taken e)
