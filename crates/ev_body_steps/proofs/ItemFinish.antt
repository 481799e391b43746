-- `finish` at its item: its code begins with a block, whose first instruction is an edge.
use Rattle.std.proofs.Common.{◌≡◌, ℕ, suc, ◌+◌, ◌<◌, ◌≤◌, true, [], ◌∷◌, map, None, Some, refl, sym, ap, ◌∙◌, subst, arith}
use Rattle.std.specs.Prelude.{slice_get}
use Rattle.ev_isa.specs.Word.{NatMap}
use Rattle.ev_isa.specs.Flags.{Flags}
use Rattle.ev_isa.specs.Spelling.{spelling, four_bytes}
use Rattle.ev_isa.specs.declared.instruction.Ins.TheVariants.{MovReg}
use Rattle.ev_isa.specs.declared.mode.Mode.{Mode}
use Rattle.ev_isa.specs.declared.mode.Mode.TheVariants.{Idt, Fred}
use Rattle.ev_body.specs.declared.item.Item.TheVariants.{Finish}
use Rattle.ev_body.specs.declared.body.Body.{Body}
use Rattle.ev_body.specs.declared.image.Image.{Image}
use Rattle.ev_body.specs.Bodies.{body_items}
use Rattle.ev_body.specs.WellFormed.{IsImage}
use Rattle.ev_listing.specs.Expansion.{item_address}
use Rattle.ev_state.specs.Processor.{Processor}
use Rattle.ev_mem.specs.Memory.{Memory}
use Rattle.ev_abstract.specs.Context.{BodyContext}
use Rattle.ev_abstract.specs.CrossCall.{take_place}
use Rattle.ev_abstract.specs.Machine.{Machine, processor}
use Rattle.ev_abstract.specs.Run.{item_at}
use Rattle.ev_concrete.specs.ConcreteRun.{System}
use Rattle.ev_built.specs.Built.{IsBuilt}
use Rattle.ev_law.specs.Legal.{IsAt, IsLegalOn, AreLegal, knows}
use Rattle.ev_law.proofs.Ruled.{IsRuled, body_ruled}
use Rattle.ev_symbolic.specs.Agrees.{Env, Code, eval, At}
use Rattle.ev_symbolic.proofs.Blocks.{unsome}
use Rattle.ev_blocks.specs.Shapes.{FredFrame, IdtFrame}
use Rattle.ev_blocks.specs.Calls.{AtFinish, at_taken}
use Rattle.ev_blocks.specs.Items.{AtItem, InCall}
use Rattle.ev_blocks.specs.Blocks.{block, edges}
use Rattle.ev_blocks.proofs.CallFalls.{call_edges}
use Rattle.ev_table.specs.Table.{code_table}
use Rattle.ev_relation.specs.Filling.{first_fill}
use Rattle.ev_relation.specs.Active.{item_place, address_of_item, here, IsKernelSs, InItem, Active}
use Rattle.ev_relation.specs.Relation.{StandsOn, Stands, switches_at}
use Rattle.ev_relation.specs.Step.{Simulated}
use Rattle.ev_relation.proofs.CallKinds.{origin_of}
use Rattle.ev_relation.proofs.Facts.{Facts}
use Rattle.ev_relation.proofs.Spots.{is_spot}
use Rattle.ev_body_steps.proofs.Bodies.{body}
use Rattle.ev_body_steps.proofs.CallCells.{FinishCode, finish_code}
use Rattle.ev_body_steps.proofs.CallFirst.{AreKept, at_beginning, in_code}
use Rattle.ev_body_steps.proofs.CallGoes as goes
use Rattle.ev_body_steps.proofs.ItemCells.{EdgesFrom, edges_stand}
use Rattle.ev_body_steps.proofs.ItemState.{with_registers, opening_of}
use Rattle.ev_body_steps.proofs.KernelStep as step

item_kept : (mode : Mode) (e : Env) → AreKept e.var (map (eval e) (opening_of mode).regs)
unfolding eval
item_kept Fred e = record { locals = refl; calls = refl }
item_kept Idt e = record { locals = refl; calls = refl }

finish_spot : (mode : Mode) → is_spot mode (body mode (InCall AtFinish)) ≡ true
finish_spot Fred = refl
finish_spot Idt = refl

finish_falls : (mode : Mode) → edges mode (body mode (InCall AtFinish)) 0 < edges mode (body mode AtItem) 0
finish_falls Fred = (call_edges Fred FredFrame).finish
finish_falls Idt = (call_edges Idt IdtFrame).finish

module _ (mode : Mode) (image : Image) (built : IsBuilt image) (good : IsImage image) (facts : Facts mode image)
    (left : NatMap ℕ) (s : System) (m : Machine) (h : Stands mode image left s m) (p : ℕ) (hp : p < image.processors)
    (o : step.Top mode image built good facts left s m h p hp) (body' : Body) (is : slice_get image.bodies o.b.body ≡ Some body') where
  abbrev code : Code
  code = code_table mode image

  abbrev c : Processor
  c = s.cpus p

  abbrev b : BodyContext
  b = o.b

  abbrev on : StandsOn mode image p (left p) s (processor m p)
  on = step.on mode image built good facts left s m h p hp

  abbrev Stood : ℕ → BodyContext → Processor → Memory → Type 0
  Stood now b cpu mem = Active mode image p now o.κ o.σ on.frame (switches_at mode image on.switching o.below) (first_fill on.fills) o.w b cpu mem

  -- the context stands where the rules let it
  pub legal : IsAt body' b
  legal =
      let l : IsLegalOn image (knows image m) b o.below = (subst (AreLegal image (knows image m)) o.bodies (h.legal.each p).bodies).0 in
      subst (λ y. IsAt y b) (unsome _ _ (sym l.is_body ∙ is)) l.at

  pub ruled : IsRuled image body'
  ruled = body_ruled image good built.accepted.1.kept b.body body' is

  -- the code of `finish`, which jumps into that of its body's `take`
  pub cells : item_at (Some body') b.place ≡ Some Finish → FinishCode code (item_address mode b.body body' b.place)
      (item_address mode b.body body' (suc b.place)) (item_address mode b.body body' (take_place 0 (body_items body')) + at_taken)
  cells hi = finish_code mode image facts b.body body' is b.place (take_place 0 (body_items body'))
      (ruled.part b.place legal.place (ruled.finish b.place hi)).1 hi

  module _ (unfilled : first_fill on.fills ≡ None) (act : Stood on.own b c s.memory) (ss : ℕ) (ss_is : IsKernelSs mode ss) (extra v : ℕ → ℕ) (f : Flags) where
    abbrev e : Env
    e = here mode p o.κ o.σ ss o.w extra v f

    -- at the item
    pub at_finish : At code (block mode (body mode AtItem)) 0 e c s.memory → InItem mode image (origin_of o.κ) e o.w b s.memory.words
        → extra 20 ≡ item_place mode image b.body b.place → edges mode (body mode AtItem) 0 ≤ on.own → item_at (Some body') b.place ≡ Some Finish
        → Simulated mode image left s m p
    unfolding spelling four_bytes
    at_finish at means place enough hi =
        let z = at_beginning mode image built good facts left s m h p hp o body' is unfilled act ss ss_is extra v f at place in
        let y : goes.AtPlace mode image built good facts left s m h p hp o ss extra v f 0 = z.0 in
        let item : ℕ = item_address mode b.body body' b.place in
        let base : extra 20 ≡ item = place ∙ ap (address_of_item mode b.body b.place) is in
        let high = y.range.1 in
        let falls = finish_falls mode in
        let u : Env = here mode p o.κ o.σ ss o.w extra (with_registers c.regs v) y.flags in
        let start : EdgesFrom code (item + 0) (MovReg 3 14 ∷ []) = subst (λ q. EdgesFrom code q (MovReg 3 14 ∷ []))
        (let q : item ≡ item + 0 = omega arith in q) (cells hi).start in
        goes.opens mode image built good facts left s m h p hp o ss extra v f 0 y AtFinish refl (finish_spot mode) refl refl tt
        (edges_stand code u item 0 (MovReg 3 14 ∷ []) base (omega arith) start) (omega arith) (
          in_code mode image built good facts left s m h p hp o ss extra v f y.flags c.regs (subst (AreKept v) (sym z.1) (item_kept mode e)) y.range b refl refl
              means.saved means.locals means.calls,
          place,
          ap (λ q. item_at q b.place) is ∙ hi,
        )
        (omega arith)
