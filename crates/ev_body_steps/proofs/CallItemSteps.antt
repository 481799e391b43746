-- Steps of an activation in the code of `call`, up to the exchange: at its load, and where it ends because the record was in use.
use Rattle.std.proofs.Common.{◌≡◌, ℕ, ◌<◌, ◌≤◌, true, length, None, Some, sym, ap, ◌∙◌, subst}
use Rattle.std.specs.Prelude.{slice_get}
use Rattle.ev_isa.specs.Word.{NatMap}
use Rattle.ev_isa.specs.Flags.{Flags}
use Rattle.ev_isa.specs.declared.mode.Mode.{Mode}
use Rattle.ev_body.specs.declared.item.Item.{Item}
use Rattle.ev_body.specs.declared.item.Item.TheVariants.{Call}
use Rattle.ev_body.specs.declared.body.Body.{Body}
use Rattle.ev_body.specs.declared.image.Image.{Image}
use Rattle.ev_body.specs.WellFormed.{IsImage}
use Rattle.ev_state.specs.Processor.{Processor}
use Rattle.ev_mem.specs.Memory.{Memory}
use Rattle.ev_abstract.specs.Context.{BodyContext}
use Rattle.ev_abstract.specs.Machine.{Machine, processor}
use Rattle.ev_abstract.specs.Run.{item_at}
use Rattle.ev_concrete.specs.ConcreteRun.{System}
use Rattle.ev_built.specs.Built.{IsBuilt, is_built_item}
use Rattle.ev_symbolic.specs.Agrees.{Env, Code, At}
use Rattle.ev_symbolic.proofs.Blocks.{unsome}
use Rattle.ev_blocks.specs.Calls.{AtRecord, BehindBusy}
use Rattle.ev_blocks.specs.Items.{InCall}
use Rattle.ev_blocks.specs.Blocks.{block, edges}
use Rattle.ev_table.specs.Table.{code_table}
use Rattle.ev_relation.specs.Filling.{first_fill}
use Rattle.ev_relation.specs.Active.{site_of, here, IsKernelSs, InCallSpot, Active}
use Rattle.ev_relation.specs.Relation.{StandsOn, Stands, switches_at}
use Rattle.ev_relation.specs.Step.{Simulated}
use Rattle.ev_relation.proofs.CallKinds.{origin_of}
use Rattle.ev_relation.proofs.Facts.{Facts}
use Rattle.ev_body_steps.proofs.Bodies.{body}
use Rattle.ev_body_steps.proofs.CallEnd.{busy_opens}
use Rattle.ev_body_steps.proofs.ItemCallFill.{by_load}
use Rattle.ev_body_steps.proofs.KernelItems as items
use Rattle.ev_body_steps.proofs.KernelStep as step

module _ (mode : Mode) (image : Image) (built : IsBuilt image) (good : IsImage image) (facts : Facts mode image)
    (left : NatMap ℕ) (s : System) (m : Machine) (h : Stands mode image left s m) (p : ℕ) (hp : p < image.processors)
    (o : step.Top mode image built good facts left s m h p hp) (body' : Body) (is : slice_get image.bodies o.b.body ≡ Some body') where
  abbrev code : Code
  code = code_table mode image

  abbrev c : Processor
  c = s.cpus p

  abbrev b : BodyContext
  b = o.b

  abbrev on : StandsOn mode image p (left p) s (processor m p)
  on = step.on mode image built good facts left s m h p hp

  abbrev env : ℕ → (extra v : ℕ → ℕ) → Flags → Env
  env ss extra v f = here mode p o.κ o.σ ss o.w extra v f

  abbrev Stood : ℕ → BodyContext → Processor → Memory → Type 0
  Stood now b cpu mem = Active mode image p now o.κ o.σ on.frame (switches_at mode image on.switching o.below) (first_fill on.fills) o.w b cpu mem

  -- at the load, where the block of the sum has ended
  pub at_call_record : first_fill on.fills ≡ None → (act : Stood on.own b c s.memory) (k ss : ℕ) → IsKernelSs mode ss → (extra v : ℕ → ℕ) (f : Flags)
      (site : ℕ) → k ≡ (block mode (body mode (InCall (AtRecord site)))).steps
      → At code (block mode (body mode (InCall (AtRecord site)))) k (env ss extra v f) c s.memory
      → InCallSpot mode image (origin_of o.κ) (AtRecord site) (env ss extra v f) o.w b (first_fill on.fills) s.memory.words
      → edges mode (body mode (InCall (AtRecord site))) k ≤ on.own
      → (site' to func r : ℕ) → item_at (Some body') b.place ≡ Some (Call site' to func r) → Simulated mode image left s m p
  unfolding site_of
  at_call_record unfilled act k ss ss_is extra v f site n at means enough site' to func r hi =
      let same : site' ≡ site = unsome _ _ (sym (ap site_of hi) ∙ ap (λ y. site_of (item_at y b.place)) (sym is) ∙ means.2) in
      by_load mode image built good facts left s m h p hp o body' is site to func r (hi ∙ ap (λ j. Some (Call j to func r)) same)
      unfilled act ss ss_is extra v f
      (subst (λ j. At code (block mode (body mode (InCall (AtRecord site)))) j (env ss extra v f) c s.memory) n at) means
      (subst (λ j. edges mode (body mode (InCall (AtRecord site))) j ≤ on.own) n enough)

  -- where the code ends behind a record that was in use
  pub at_busy_end : first_fill on.fills ≡ None → (act : Stood on.own b c s.memory) (r k ss : ℕ) → IsKernelSs mode ss → (extra v : ℕ → ℕ) (f : Flags)
      → k ≡ (block mode (body mode (InCall (BehindBusy r)))).steps
      → At code (block mode (body mode (InCall (BehindBusy r)))) k (env ss extra v f) c s.memory
      → InCallSpot mode image (origin_of o.κ) (BehindBusy r) (env ss extra v f) o.w b (first_fill on.fills) s.memory.words → length c.regs ≡ 16
      → edges mode (body mode (InCall (BehindBusy r))) k ≤ on.own → (i : Item) → is_built_item i ≡ true → item_at (Some body') b.place ≡ Some i
      → Simulated mode image left s m p
  at_busy_end unfilled act r k ss ss_is extra v f n at means long enough i today hi =
      let y = busy_opens mode image built good facts left s m h p hp o body' is unfilled act r ss ss_is extra v f
      (subst (λ j. At code (block mode (body mode (InCall (BehindBusy r)))) j (env ss extra v f) c s.memory) n at) means
      (subst (λ j. edges mode (body mode (InCall (BehindBusy r))) j ≤ on.own) n enough) in
      let z = y.next in
      items.by_item mode image built good facts left s m h p hp o body' is unfilled z.act ss ss_is z.extra _ y.flags z.at z.means z.place long z.enough
      i today hi
