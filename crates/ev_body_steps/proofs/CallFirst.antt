-- Items of cross calls that begin with the load of the address of the processor's first record: from the item to the sum that gives the site's.
use Rattle.std.proofs.Common.{◌≡◌, inr, true, false, ℕ, ◌+◌, ◌<◌, ◌≤◌, List, [], ◌∷◌, get_or, set, map, length, None, Some, refl, sym, ap, ◌∙◌, subst, arith}
use Rattle.std.specs.Prelude.{pos, slice_get}
use Rattle.std.proofs.lemmas.List.{get_or-set_same, get_or-set_other, length-set}
use Rattle.ev_isa.specs.Word.{NatMap, displaced}
use Rattle.ev_isa.specs.Flags.{Flags}
use Rattle.ev_isa.specs.Spelling.{spelling, four_bytes}
use Rattle.ev_isa.specs.declared.instruction.Ins.{Ins}
use Rattle.ev_isa.specs.declared.instruction.Ins.TheVariants.{GsLoad, MovImm}
use Rattle.ev_isa.specs.declared.mode.Mode.{Mode}
use Rattle.ev_isa.specs.declared.mode.Mode.TheVariants.{Idt, Fred}
use Rattle.ev_body.specs.declared.item.Item.TheVariants.{Take}
use Rattle.ev_body.specs.declared.body.Body.{Body}
use Rattle.ev_body.specs.declared.image.Image.{Image}
use Rattle.ev_body.specs.WellFormed.{IsImage}
use Rattle.ev_listing.specs.AddressMap.{pcpu, record_address}
use Rattle.ev_listing.specs.Expansion.{item_address}
use Rattle.ev_state.specs.Processor.{Processor, is_user}
use Rattle.ev_mem.specs.Memory.{Memory}
use Rattle.ev_abstract.specs.Context.{BodyContext}
use Rattle.ev_abstract.specs.Machine.{Machine, processor}
use Rattle.ev_abstract.specs.Run.{item_at}
use Rattle.ev_concrete.specs.ConcreteRun.{System, is_return}
use Rattle.ev_concrete.specs.Opening.{pcpu_word}
use Rattle.ev_built.specs.Built.{IsBuilt}
use Rattle.ev_symbolic.specs.Value.{M}
use Rattle.ev_symbolic.specs.State.{Block}
use Rattle.ev_symbolic.specs.Names.{top_less}
use Rattle.ev_symbolic.specs.Single.{Leads, onward}
use Rattle.ev_symbolic.specs.Agrees.{Env, Code, Stands as Lines, edge_cell, eval, eval_flags, FactsHold, Agrees, At}
use Rattle.ev_symbolic.proofs.Single.{singles}
use Rattle.ev_symbolic.proofs.Blocks.{at_end}
use Rattle.ev_blocks.specs.Shapes.{FredFrame, IdtFrame, body_bytes, body_forms, private}
use Rattle.ev_blocks.specs.Calls.{CallSpot, AtRecord, AtTake, record_code, behind_first, fills_record, block_of_call, call_block}
use Rattle.ev_blocks.specs.Calls.{item_opening as call_opening}
use Rattle.ev_blocks.specs.Items.{AtItem, InCall}
use Rattle.ev_blocks.specs.Blocks.{block, edges}
use Rattle.ev_blocks.proofs.CallFalls.{call_edges}
use Rattle.ev_table.specs.Table.{code_table}
use Rattle.ev_relation.specs.Filling.{first_fill}
use Rattle.ev_relation.specs.Active.{item_place, address_of_item, item_of, site_of, here, IsKernelSs, SavedOf, Locals, HoldsCalls, InCode, InItem, InCallSpot, Active}
use Rattle.ev_relation.specs.Relation.{InArea, StandsOn, Stands, switches_at}
use Rattle.ev_relation.specs.Step.{Simulated}
use Rattle.ev_relation.proofs.Areas.{opening_area}
use Rattle.ev_relation.proofs.CallKinds.{origin_of}
use Rattle.ev_relation.proofs.Facts.{Facts}
use Rattle.ev_relation.proofs.ModeFacts.{is_fred}
use Rattle.ev_relation.proofs.Fits.{InBodies}
use Rattle.ev_relation.proofs.Spots.{is_spot}
use Rattle.ev_body_steps.proofs.Bodies.{body, layout_of, item_opening, saved_again}
use Rattle.ev_body_steps.proofs.CallCells.{take_code}
use Rattle.ev_body_steps.proofs.CallGoes.{block_is}
use Rattle.ev_body_steps.proofs.CallGoes as goes
use Rattle.ev_body_steps.proofs.CallPlaces.{begins_offset, offset_from, item_regs_are, same_rsp}
use Rattle.ev_body_steps.proofs.ItemAddresses.{area_open, displaced_area}
use Rattle.ev_body_steps.proofs.ItemCells.{bytes_of, EdgesFrom, edges_stand}
use Rattle.ev_body_steps.proofs.ItemState.{with_registers, opening_of, any_known, beyond_registers, gone, gs_of}
use Rattle.ev_body_steps.proofs.ItemVisible.{goes_onward}
use Rattle.ev_body_steps.proofs.KernelStep as step

-- what such an item begins with: the load, and the sum
pub record FirstCells (code : Code) (a site : ℕ) : Type 0 where
  pub first : code a ≡ Some (edge_cell (GsLoad 3 (pos 0x38)) (a + behind_first))
  pub sum : EdgesFrom code (a + behind_first) (record_code site)

-- ---- registers that an item's code leaves

-- these are the locals and the list of calls that the variables tell
pub record AreKept (v : ℕ → ℕ) (regs : List ℕ) : Type 0 where
  pub locals : get_or regs 6 0 ∷ get_or regs 7 0 ∷ get_or regs 8 0 ∷ get_or regs 9 0 ∷ get_or regs 10 0 ∷ get_or regs 11 0 ∷ get_or regs 12 0
      ∷ get_or regs 13 0 ∷ [] ≡ v 6 ∷ v 7 ∷ v 8 ∷ v 9 ∷ v 10 ∷ v 11 ∷ v 12 ∷ v 13 ∷ []
  pub calls : get_or regs 14 0 ≡ v 14

opens_long : (mode : Mode) → length (opening_of mode).regs ≡ 16
opens_long Fred = refl
opens_long Idt = refl

opens_rsp : (mode : Mode) (e : Env) → get_or (map (eval e) (opening_of mode).regs) 4 0 ≡ eval e (top_less (body_bytes (layout_of mode)))
opens_rsp Fred e = refl
opens_rsp Idt e = refl

-- ---- the blocks behind the load

-- one that tells no register, of these instructions
abbrev first_block : Mode → List Ins → ℕ → Block
first_block mode is steps =
    call_block (is_fred mode) (layout_of mode) (private (body_forms (layout_of mode))) [] behind_first is (call_opening (layout_of mode) behind_first) steps

-- The spot's block is such a one, behind a load into this register.
pub record OpensFirst (mode : Mode) (s : CallSpot) (r : ℕ) (behind : List Ins) : Type 0 where
  pub off : fills_record s ≡ false
  pub spot : is_spot mode (body mode (InCall s)) ≡ true
  pub steps : ℕ
  pub is : block_of_call (is_fred mode) (layout_of mode) s ≡ first_block mode behind steps
  pub falls : edges mode (body mode (InCall s)) 0 < edges mode (body mode AtItem) 0
  pub short : bytes_of behind < 0x40
  pub is_register : r < 16
  pub spares : 4 ≡ r → ⊥
  pub kept : (e : Env) (n : ℕ) → AreKept e.var (set (map (eval e) (opening_of mode).regs) r n)

opens_record : (mode : Mode) (site : ℕ) → OpensFirst mode (AtRecord site) 3 (record_code site)
unfolding eval spelling four_bytes
opens_record Fred site = record {
  off = refl;
  spot = refl;
  steps = 1;
  is = refl;
  falls = (call_edges Fred FredFrame).at_record site;
  short = omega arith;
  is_register = omega arith;
  spares = λ e. omega arith;
  kept = λ e n. record { locals = refl; calls = refl };
}
opens_record Idt site = record {
  off = refl;
  spot = refl;
  steps = 1;
  is = refl;
  falls = (call_edges Idt IdtFrame).at_record site;
  short = omega arith;
  is_register = omega arith;
  spares = λ e. omega arith;
  kept = λ e n. record { locals = refl; calls = refl };
}

opens_take : (mode : Mode) → OpensFirst mode AtTake 2 (MovImm 0 0 ∷ [])
unfolding eval spelling four_bytes
opens_take Fred = record {
  off = refl;
  spot = refl;
  steps = 1;
  is = refl;
  falls = (call_edges Fred FredFrame).take;
  short = omega arith;
  is_register = omega arith;
  spares = λ e. omega arith;
  kept = λ e n. record { locals = refl; calls = refl };
}
opens_take Idt = record {
  off = refl;
  spot = refl;
  steps = 1;
  is = refl;
  falls = (call_edges Idt IdtFrame).take;
  short = omega arith;
  is_register = omega arith;
  spares = λ e. omega arith;
  kept = λ e n. record { locals = refl; calls = refl };
}

module _ (mode : Mode) (image : Image) (built : IsBuilt image) (good : IsImage image) (facts : Facts mode image)
    (left : NatMap ℕ) (s : System) (m : Machine) (h : Stands mode image left s m) (p : ℕ) (hp : p < image.processors)
    (o : step.Top mode image built good facts left s m h p hp) where
  abbrev code : Code
  code = code_table mode image

  abbrev c : Processor
  c = s.cpus p

  abbrev b : BodyContext
  b = o.b

  abbrev on : StandsOn mode image p (left p) s (processor m p)
  on = step.on mode image built good facts left s m h p hp

  abbrev env : ℕ → (extra v : ℕ → ℕ) → Flags → Env
  env ss extra v f = here mode p o.κ o.σ ss o.w extra v f

  abbrev Stood : ℕ → BodyContext → Processor → Memory → Type 0
  Stood now b cpu mem = Active mode image p now o.κ o.σ on.frame (switches_at mode image on.switching o.below) (first_fill on.fills) o.w b cpu mem

  abbrev AtPlace : (ss : ℕ) (extra v : ℕ → ℕ) → Flags → ℕ → Type 0
  AtPlace ss extra v f offset = goes.AtPlace mode image built good facts left s m h p hp o ss extra v f offset

  -- In the code of an item of calls, with registers that keep these.
  pub in_code : (ss : ℕ) (extra v : ℕ → ℕ) (f g : Flags) (regs : List ℕ) → AreKept v regs → InBodies extra → (b' : BodyContext) → b'.locals ≡ b.locals
      → b'.calls ≡ b.calls → SavedOf mode image (origin_of o.κ) (env ss extra v f) o.w → Locals mode image v b
      → HoldsCalls mode image s.memory.words (v 14) b.calls
      → InCode mode image (origin_of o.κ) (env ss extra (with_registers regs v) g) o.w b' s.memory.words
  in_code ss extra v f g regs kept range b' same_locals same_calls saved locals calls = record {
    range = range;
    saved = saved_again mode image (origin_of o.κ) (env ss extra v f) (env ss extra (with_registers regs v) g) o.w (beyond_registers regs v) refl refl refl
        saved;
    locals = same_locals ∙ locals ∙ sym kept.locals;
    calls = subst (λ ks. HoldsCalls mode image s.memory.words (get_or regs 14 0) ks) (sym same_calls)
        (subst (λ a. HoldsCalls mode image s.memory.words a b.calls) (sym kept.calls) calls);
  }

  module _ (body' : Body) (is_body : slice_get image.bodies o.b.body ≡ Some body') where
    -- at an item
    pub at_beginning : first_fill on.fills ≡ None → (act : Stood on.own b c s.memory) (ss : ℕ) → IsKernelSs mode ss → (extra v : ℕ → ℕ) (f : Flags)
        → At code (block mode (body mode AtItem)) 0 (env ss extra v f) c s.memory → extra 20 ≡ item_place mode image b.body b.place
        → AtPlace ss extra v f 0 × (c.regs ≡ map (eval (env ss extra v f)) (opening_of mode).regs)
    at_beginning unfilled act ss ss_is extra v f at place =
        let B : Block = block mode (body mode AtItem) in
        let e : Env = env ss extra v f in
        let a : Agrees e B.ground B.opening c s.memory = at_end code B 0 B.opening refl e c s.memory at in (
          record {
            unfilled = unfilled;
            act = act;
            ss_is = ss_is;
            kernel = ap is_user a.rest;
            range = subst (λ n. (0xffffffff82000000 ≤ n) × (n + 0x100 ≤ M)) (sym place)
                (step.range mode image built good facts left s m h p hp o body' is_body);
            near = omega arith;
            flags = eval_flags e B.opening.flags;
            state = offset_from mode e B.ground B.opening c s.memory 0 (begins_offset mode) (item_opening mode).rip (opens_long mode) (opens_rsp mode e) a
                a.words;
          },
          a.regs,
        )

    -- At the item: the load into this register is an edge, to the opening of a block that tells no register.
    pub to_first : first_fill on.fills ≡ None → (act : Stood on.own b c s.memory) (ss : ℕ) → IsKernelSs mode ss → (extra v : ℕ → ℕ) (f : Flags)
        → At code (block mode (body mode AtItem)) 0 (env ss extra v f) c s.memory → InItem mode image (origin_of o.κ) (env ss extra v f) o.w b s.memory.words
        → extra 20 ≡ item_place mode image b.body b.place → length c.regs ≡ 16 → edges mode (body mode AtItem) 0 ≤ on.own
        → (s' : CallSpot) (r : ℕ) (is : List Ins) → OpensFirst mode s' r is
        → code (item_address mode b.body body' b.place) ≡ Some (edge_cell (GsLoad r (pos 0x38)) (item_address mode b.body body' b.place + behind_first))
        → EdgesFrom code (item_address mode b.body body' b.place + behind_first) is
        → ((regs : List ℕ) (g : Flags) → get_or regs r 0 ≡ pcpu p + 0x800
        → InCode mode image (origin_of o.κ) (env ss extra (with_registers regs v) g) o.w b s.memory.words
        → InCallSpot mode image (origin_of o.κ) s' (env ss extra (with_registers regs v) g) o.w b (first_fill on.fills) s.memory.words)
        → Simulated mode image left s m p
    unfolding eval spelling four_bytes is_return pcpu_word
    to_first unfilled act ss ss_is extra v f at means place long enough s' r is opens first_cell behind spot =
        let z = at_beginning unfilled act ss ss_is extra v f at place in
        let a : AtPlace ss extra v f 0 = z.0 in
        let item : ℕ = item_address mode b.body body' b.place in
        let base : extra 20 ≡ item = place ∙ ap (address_of_item mode b.body b.place) is_body in
        let range = a.range in
        let high = range.1 in
        let few = good.count.1 in
        let small = step.small mode image built good facts left s m h p hp in
        let first : ℕ = pcpu p + 0x800 in
        let ins : Ins = GsLoad r (pos 0x38) in
        let regs : List ℕ = set c.regs r first in
        let next : ℕ = item + behind_first in
        let g : Flags = a.flags in
        let u : Env = env ss extra (with_registers regs v) g in
        let here_is : c.rip ≡ item = goes.rip_is mode image built good facts left s m h p hp o ss extra v f 0 a
        ∙ (let q : extra 20 + 0 ≡ item = omega arith in q) in
        let cell : code c.rip ≡ Some (edge_cell ins next) = ap code here_is ∙ first_cell in
        let word : s.memory.words (pcpu p + 0x38) ≡ first = h.fixed (pcpu p + 0x38) (InArea p 0x38 small (inr refl) refl)
        ∙ opening_area _ mode image p 0x38 hp few (omega arith) refl ∙ (let q : record_address p 0 ≡ first = omega arith in q) in
        let from = ap (λ g. displaced g (pos 0x38)) (a.state.gs ∙ gs_of mode p o.κ o.σ ss o.w extra v f) ∙ displaced_area p 0x38 small (omega arith) in
        let there = goes.at_instruction mode image built good facts left s m h p hp o ss extra v f 0 a ins next (omega arith) in
        let leads : Leads c s.memory ins (gone c regs g next) s.memory.words
        = goes_onward c s.memory ins g regs next s.memory.words a.state.flags
        (subst (λ n. Leads c s.memory ins (onward c (set c.regs r n) next) s.memory.words) word
        ((singles c s.memory next).loads_from_gs r (pos 0x38) (pcpu p + 0x38) there from
        (area_open image s.memory.regions h.regions_are p 0x38 hp few refl (omega arith)))) in
        let within : r < length c.regs = subst (λ n. r < n) (sym long) opens.is_register in
        let rsp : get_or regs 4 0 ≡ get_or c.regs 4 0 = get_or-set_other c.regs r 4 first 0 opens.spares in
        let stack : get_or regs 4 0 ≡ eval u (top_less (body_bytes (layout_of mode)))
        = rsp ∙ same_rsp mode p o.κ o.σ ss o.w extra v f c s.memory 0 g a.state extra v refl refl refl in
        let wide : length regs ≡ 16 = length-set c.regs r first ∙ long in
        let same : block mode (body mode (InCall s')) ≡ first_block mode is opens.steps = block_is mode s' ∙ opens.is in
        let lines : Lines code u (block mode (body mode (InCall s'))).lines = subst (λ (B : Block). Lines code u B.lines)
        (sym same) (edges_stand code u item behind_first is base (let few = opens.short in omega arith) behind) in
        let stands = goes.call_stands mode image built good facts left s m h p hp o ss extra v f 0 a s' opens.off opens.spot extra v
        refl refl refl refl regs g next behind_first s.memory.words wide rsp (omega arith) (ap (λ (B : Block). B.opening.rip) opens.is)
        (item_regs_are mode u regs v refl wide stack ∙ ap (λ (B : Block). map (eval u) B.opening.regs) (sym opens.is)) a.state.words
        (any_known mode p o.κ o.σ ss o.w extra extra v f g regs s.memory.words a.state.words)
        (subst (λ (B : Block). FactsHold u B.ground.facts) (sym same) tt) lines in
        let falls = opens.falls in
        let kept : AreKept v regs = subst (λ (xs : List ℕ). AreKept v (set xs r first)) (sym z.1) (opens.kept (env ss extra v f) first) in
        goes.goes_to mode image built good facts left s m h p hp o ss extra v f 0 a s' opens.off ins next cell refl regs g wide
        (step.masks_flags mode image built good facts left s m h p hp o g a.state.flags) leads extra v stands
        (spot regs g (get_or-set_same c.regs r first 0 within)
        (in_code ss extra v f g regs kept range b refl refl means.saved means.locals means.calls))
        (omega arith) (step.outside mode image built good facts left s m h p hp o act)

    -- of `wait` and `call`, to the sum
    pub to_record : first_fill on.fills ≡ None → (act : Stood on.own b c s.memory) (ss : ℕ) → IsKernelSs mode ss → (extra v : ℕ → ℕ) (f : Flags)
        → At code (block mode (body mode AtItem)) 0 (env ss extra v f) c s.memory → InItem mode image (origin_of o.κ) (env ss extra v f) o.w b s.memory.words
        → extra 20 ≡ item_place mode image b.body b.place → length c.regs ≡ 16 → edges mode (body mode AtItem) 0 ≤ on.own → (site : ℕ)
        → site_of (item_of mode image b) ≡ Some site → FirstCells code (item_address mode b.body body' b.place) site → Simulated mode image left s m p
    to_record unfilled act ss ss_is extra v f at means place long enough site of cells =
        to_first unfilled act ss ss_is extra v f at means place long enough (AtRecord site) 3 (record_code site) (opens_record mode site) cells.first cells.sum
        (λ regs g first k. (k, place, of, first))

    -- of `take`, to the exchange
    pub to_take : first_fill on.fills ≡ None → (act : Stood on.own b c s.memory) (ss : ℕ) → IsKernelSs mode ss → (extra v : ℕ → ℕ) (f : Flags)
        → At code (block mode (body mode AtItem)) 0 (env ss extra v f) c s.memory → InItem mode image (origin_of o.κ) (env ss extra v f) o.w b s.memory.words
        → extra 20 ≡ item_place mode image b.body b.place → length c.regs ≡ 16 → edges mode (body mode AtItem) 0 ≤ on.own
        → item_at (Some body') b.place ≡ Some Take → Simulated mode image left s m p
    to_take unfilled act ss ss_is extra v f at means place long enough hi =
        let cells = take_code mode image facts b.body body' is_body b.place hi in
        to_first unfilled act ss ss_is extra v f at means place long enough AtTake 2 (MovImm 0 0 ∷ []) (opens_take mode) cells.first cells.none
        (λ regs g first k. (k, place, ap (λ y. item_at y b.place) is_body ∙ hi, first))
