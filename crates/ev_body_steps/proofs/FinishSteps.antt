-- Steps of an activation in `finish` up to its visible store: the load of the next record, of the record of the call that ends.
use Rattle.std.proofs.Common.{◌≡◌, ℕ, ◌+◌, ◌*◌, ◌%◌, ◌<◌, ◌≤◌, true, false, List, [], ◌∷◌, get_or, set, length, None, Some, refl, sym, ap, ◌∙◌, subst, arith}
use Rattle.std.specs.Prelude.{pos, slice_get}
use Rattle.std.proofs.lemmas.List.{get_or-set_other, length-set}
use Rattle.ev_isa.specs.Word.{NatMap, displaced}
use Rattle.ev_isa.specs.Flags.{Flags}
use Rattle.ev_isa.specs.Spelling.{spelling, four_bytes}
use Rattle.ev_isa.specs.declared.instruction.Ins.{Ins}
use Rattle.ev_isa.specs.declared.instruction.Ins.TheVariants.{Load, MovImm}
use Rattle.ev_isa.specs.declared.mode.Mode.{Mode}
use Rattle.ev_isa.specs.declared.mode.Mode.TheVariants.{Idt, Fred}
use Rattle.ev_body.specs.declared.item.Item.TheVariants.{Finish}
use Rattle.ev_body.specs.declared.body.Body.{Body}
use Rattle.ev_body.specs.declared.image.Image.{Image}
use Rattle.ev_body.specs.WellFormed.{IsImage}
use Rattle.ev_listing.specs.AddressMap.{pcpu, record_address}
use Rattle.ev_listing.specs.Expansion.{item_address}
use Rattle.ev_state.specs.Processor.{Processor, register}
use Rattle.ev_mem.specs.Memory.{Memory}
use Rattle.ev_abstract.specs.Context.{BodyContext, CallId}
use Rattle.ev_abstract.specs.Machine.{Machine, processor}
use Rattle.ev_abstract.specs.Run.{item_at}
use Rattle.ev_concrete.specs.ConcreteRun.{System, is_return}
use Rattle.ev_built.specs.Built.{IsBuilt}
use Rattle.ev_calls.specs.Lists.{HasFirst}
use Rattle.ev_calls.specs.Records.{Linked}
use Rattle.ev_call_law.specs.Calls.{times}
use Rattle.ev_call_law.proofs.Counts.{times_same}
use Rattle.ev_law.specs.Legal.{runs_calls}
use Rattle.ev_symbolic.specs.Value.{V, X}
use Rattle.ev_symbolic.specs.Single.{Leads}
use Rattle.ev_symbolic.specs.State.{Block}
use Rattle.ev_symbolic.specs.Agrees.{Env, Code, Stands as Lines, IsOpen, eval, FactsHold, At, edge_cell}
use Rattle.ev_symbolic.proofs.Single.{singles}
use Rattle.ev_blocks.specs.Shapes.{FredFrame, IdtFrame}
use Rattle.ev_blocks.specs.Calls.{AtFinish, BehindNext, at_next, behind_next}
use Rattle.ev_blocks.specs.Items.{InCall}
use Rattle.ev_blocks.specs.Blocks.{block, edges}
use Rattle.ev_blocks.proofs.CallFalls.{call_edges}
use Rattle.ev_paths.specs.CallEnds.{item_regs}
use Rattle.ev_table.specs.Table.{code_table}
use Rattle.ev_relation.specs.Filling.{first_fill}
use Rattle.ev_relation.specs.Active.{address_of_item, here, IsKernelSs, Locals, HoldsCalls, InCallSpot, Active}
use Rattle.ev_relation.specs.Relation.{StandsOn, Stands, switches_at}
use Rattle.ev_relation.specs.Step.{Simulated}
use Rattle.ev_relation.proofs.CallKinds.{origin_of}
use Rattle.ev_relation.proofs.Facts.{Facts}
use Rattle.ev_relation.proofs.Spots.{is_spot}
use Rattle.ev_body_steps.proofs.Bodies.{body, layout_of, saved_again}
use Rattle.ev_body_steps.proofs.CallGoes.{block_is, ends_of}
use Rattle.ev_body_steps.proofs.CallGoes as goes
use Rattle.ev_body_steps.proofs.CallPlaces.{item_regs_are, same_rsp}
use Rattle.ev_body_steps.proofs.ItemAddresses.{area_open}
use Rattle.ev_body_steps.proofs.ItemCells.{edges_stand}
use Rattle.ev_body_steps.proofs.ItemFinish as finishes
use Rattle.ev_body_steps.proofs.ItemState.{with_registers, gone, any_known, beyond_registers}
use Rattle.ev_body_steps.proofs.ItemVisible.{goes_onward}
use Rattle.ev_body_steps.proofs.KernelStep as step
use Rattle.ev_body_steps.proofs.TakenSteps.{edges_at_end, first_of, has_range}

next_spot : (mode : Mode) → is_spot mode (body mode (InCall BehindNext)) ≡ true
next_spot Fred = refl
next_spot Idt = refl

next_falls : (mode : Mode) → edges mode (body mode (InCall BehindNext)) 0 < edges_at_end mode AtFinish
next_falls Fred = (call_edges Fred FredFrame).next
next_falls Idt = (call_edges Idt IdtFrame).next

-- the calls that a context holds are linked, where there are some
linked_held : (mode : Mode) (image : Image) (words : NatMap ℕ) (a : ℕ) (ks : List CallId) → runs_calls ks ≡ true → HoldsCalls mode image words a ks
    → Linked words a ks
linked_held mode image words a [] e h = let clash : false ≡ true = e in absurd (cc)
linked_held mode image words a (k ∷ ks) e h = h

module _ (mode : Mode) (image : Image) (built : IsBuilt image) (good : IsImage image) (facts : Facts mode image)
    (left : NatMap ℕ) (s : System) (m : Machine) (h : Stands mode image left s m) (p : ℕ) (hp : p < image.processors)
    (o : step.Top mode image built good facts left s m h p hp) (body' : Body) (is : slice_get image.bodies o.b.body ≡ Some body') where
  abbrev code : Code
  code = code_table mode image

  abbrev c : Processor
  c = s.cpus p

  abbrev b : BodyContext
  b = o.b

  abbrev on : StandsOn mode image p (left p) s (processor m p)
  on = step.on mode image built good facts left s m h p hp

  abbrev words : NatMap ℕ
  words = s.memory.words

  abbrev Stood : ℕ → BodyContext → Processor → Memory → Type 0
  Stood now b cpu mem = Active mode image p now o.κ o.σ on.frame (switches_at mode image on.switching o.below) (first_fill on.fills) o.w b cpu mem

  module _ (unfilled : first_fill on.fills ≡ None) (act : Stood on.own b c s.memory) (ss : ℕ) (ss_is : IsKernelSs mode ss) (extra v : ℕ → ℕ) (f : Flags) where
    abbrev e : Env
    e = here mode p o.κ o.σ ss o.w extra v f

    -- at the load: an edge
    pub at_finish_end : At code (block mode (body mode (InCall AtFinish))) (block mode (body mode (InCall AtFinish))).steps e c s.memory
        → InCallSpot mode image (origin_of o.κ) AtFinish e o.w b (first_fill on.fills) words → edges_at_end mode AtFinish ≤ on.own
        → Simulated mode image left s m p
    unfolding eval spelling four_bytes is_return
    at_finish_end at means enough =
        let rs : List V = set (item_regs (layout_of mode)) 3 (X 14) in
        let z = goes.behind_block mode image built good facts left s m h p hp o AtFinish refl unfilled act ss ss_is extra v f means.0.range at at_next
        (omega arith) rs ((ends_of mode).finish) refl refl in
        let y : goes.AtPlace mode image built good facts left s m h p hp o ss extra v f at_next = z.0 in
        let hi : item_at (Some body') b.place ≡ Some Finish = ap (λ q. item_at q b.place) (sym is) ∙ means.2 in
        let item : ℕ = item_address mode b.body body' b.place in
        let base : extra 20 ≡ item = means.1 ∙ ap (address_of_item mode b.body b.place) is in
        let some : runs_calls b.calls ≡ true = (finishes.legal mode image built good facts left s m h p hp o body' is).runs
        ∙ (finishes.ruled mode image built good facts left s m h p hp o body' is).finish b.place hi in
        let list : Linked words (v 14) b.calls = linked_held mode image words (v 14) b.calls some means.0.calls in
        let first : HasFirst words (v 14) b.calls = first_of words (v 14) b.calls some list in
        let k : CallId = first.first in
        let has : 0 < times k b.calls = let one = ap (times k) first.are ∙ times_same k first.rest in omega (arith, one) in
        let range = has_range mode image built good facts left s m h p hp o body' is k has in
        let own = range.0 in
        let site = range.1 in
        let few = good.count.1 in
        let high = y.range.1 in
        let there : ℕ = record_address k.from k.site + 0x18 in
        let n : ℕ = words there in
        let regs : List ℕ = set c.regs 14 n in
        let ins : Ins = Load 14 3 (pos 0x18) in
        let next : ℕ = item + behind_next in
        let g : Flags = y.flags in
        let u : Env = here mode p o.κ o.σ ss o.w extra (with_registers regs v) g in
        let cells = finishes.cells mode image built good facts left s m h p hp o body' is hi in
        let found : code c.rip ≡ Some (edge_cell ins next)
        = ap code (goes.rip_is mode image built good facts left s m h p hp o ss extra v f at_next y ∙ ap (λ q. q + at_next) base) ∙ cells.load in
        let at_ins = goes.at_instruction mode image built good facts left s m h p hp o ss extra v f at_next y ins next (omega arith) in
        let opened : IsOpen s.memory.regions there = subst (IsOpen s.memory.regions)
        (let q : pcpu k.from + (0x800 + 0x40 * k.site + 0x18) ≡ there = omega arith in q)
        (area_open image s.memory.regions h.regions_are k.from (0x800 + 0x40 * k.site + 0x18) own few (omega arith) (omega arith)) in
        let address : displaced (register c 3) (pos 0x18) ≡ there
        = ap (λ q. displaced q (pos 0x18)) (ap (λ (xs : List ℕ). get_or xs 3 0) z.1 ∙ first.at)
        ∙ (let q : (record_address k.from k.site + 0x18) % 18446744073709551616 ≡ there = omega arith in q) in
        let leads : Leads c s.memory ins (gone c regs g next) words = goes_onward c s.memory ins g regs next words y.state.flags
        ((singles c s.memory next).loads 14 3 (pos 0x18) there at_ins address opened) in
        let rsp : get_or regs 4 0 ≡ get_or c.regs 4 0 = get_or-set_other c.regs 14 4 n 0 (λ q. omega (arith, q)) in
        let stack = rsp ∙ same_rsp mode p o.κ o.σ ss o.w extra v f c s.memory at_next g y.state extra v refl refl refl in
        let wide : length regs ≡ 16 = length-set c.regs 14 n ∙ y.state.long in
        let stands = goes.call_stands mode image built good facts left s m h p hp o ss extra v f at_next y BehindNext refl (next_spot mode) extra v
        refl refl refl refl regs g next behind_next words wide rsp (omega arith) refl (item_regs_are mode u regs v refl wide stack) y.state.words
        (any_known mode p o.κ o.σ ss o.w extra extra v f g regs words y.state.words)
        (subst (λ (B : Block). FactsHold u B.ground.facts) (sym (block_is mode BehindNext)) tt)
        (subst (λ (B : Block). Lines code u B.lines) (sym (block_is mode BehindNext))
        (edges_stand code u item behind_next (MovImm 0 0 ∷ []) base (omega arith) cells.zero)) in
        let falls = next_falls mode in
        goes.goes_to mode image built good facts left s m h p hp o ss extra v f at_next y BehindNext refl ins next found refl regs g wide
        (step.masks_flags mode image built good facts left s m h p hp o g y.state.flags) leads extra v stands
        (record {
          range = means.0.range;
          saved = saved_again mode image (origin_of o.κ) e u o.w (beyond_registers regs v) refl refl refl means.0.saved;
          locals = subst (λ xs. Locals mode image (with_registers (set xs 14 n) v) b) (sym z.1) means.0.locals;
          place = means.1;
          item = means.2;
          some = some;
          list = subst (λ xs. Linked words (get_or (set xs 14 n) 3 0) b.calls) (sym z.1) list;
          next = subst (λ xs. get_or (set xs 14 n) 14 0 ≡ words (get_or (set xs 14 n) 3 0 + 0x18)) (sym z.1) (ap (λ q. words (q + 0x18)) (sym first.at));
        })
        (omega arith) (step.outside mode image built good facts left s m h p hp o act)
