-- The steps of `kick` in the form of the step at a body, by the spot: behind the comparison, at the end of what it sends with, and where it sends nothing.
use Rattle.std.proofs.Common.{◌≡◌, ℕ, ◌<◌, ◌≤◌, Bool, true, false, None, Some, refl, ◌∙◌, subst}
use Rattle.std.specs.Prelude.{slice_get}
use Rattle.ev_isa.specs.Word.{NatMap}
use Rattle.ev_isa.specs.Flags.{Flags}
use Rattle.ev_isa.specs.declared.mode.Mode.{Mode}
use Rattle.ev_isa.specs.declared.mode.Mode.TheVariants.{Idt, Fred}
use Rattle.ev_body.specs.declared.body.Body.{Body}
use Rattle.ev_body.specs.declared.image.Image.{Image}
use Rattle.ev_body.specs.WellFormed.{IsImage}
use Rattle.ev_mem.specs.Memory.{Memory}
use Rattle.ev_state.specs.Processor.{Processor}
use Rattle.ev_abstract.specs.Context.{BodyContext}
use Rattle.ev_abstract.specs.Machine.{Machine, processor}
use Rattle.ev_concrete.specs.ConcreteRun.{System}
use Rattle.ev_built.specs.Built.{IsBuilt}
use Rattle.ev_symbolic.specs.Agrees.{Env, Code, At}
use Rattle.ev_blocks.specs.Calls.{AtOffset}
use Rattle.ev_blocks.specs.Items.{AtKick, InCall, behind_comparison, at_quiet}
use Rattle.ev_blocks.specs.Blocks.{block, edges}
use Rattle.ev_table.specs.Table.{code_table}
use Rattle.ev_relation.specs.Filling.{first_fill}
use Rattle.ev_relation.specs.Active.{here, IsKernelSs, Kicking, Active}
use Rattle.ev_relation.specs.Relation.{StandsOn, Stands, switches_at}
use Rattle.ev_relation.specs.Step.{Simulated}
use Rattle.ev_relation.proofs.CallKinds.{origin_of}
use Rattle.ev_relation.proofs.Facts.{Facts}
use Rattle.ev_body_steps.proofs.Bodies.{body}
use Rattle.ev_body_steps.proofs.KickGoes.{to_branch}
use Rattle.ev_body_steps.proofs.KickSends.{sending_steps, by_sending, by_quiet}
use Rattle.ev_body_steps.proofs.KernelStep as step

offset_steps : (mode : Mode) (n e : ℕ) → (block mode (body mode (InCall (AtOffset n e)))).steps ≡ 0
offset_steps Fred n e = refl
offset_steps Idt n e = refl

module _ (mode : Mode) (image : Image) (built : IsBuilt image) (good : IsImage image) (facts : Facts mode image)
    (left : NatMap ℕ) (s : System) (m : Machine) (h : Stands mode image left s m) (p : ℕ) (hp : p < image.processors)
    (o : step.Top mode image built good facts left s m h p hp) (body' : Body) (is : slice_get image.bodies o.b.body ≡ Some body') where
  abbrev code : Code
  code = code_table mode image

  abbrev c : Processor
  c = s.cpus p

  abbrev b : BodyContext
  b = o.b

  abbrev on : StandsOn mode image p (left p) s (processor m p)
  on = step.on mode image built good facts left s m h p hp

  abbrev env : ℕ → (extra v : ℕ → ℕ) → Flags → Env
  env ss extra v f = here mode p o.κ o.σ ss o.w extra v f

  abbrev Stood : ℕ → BodyContext → Processor → Memory → Type 0
  Stood now b cpu mem = Active mode image p now o.κ o.σ on.frame (switches_at mode image on.switching o.below) (first_fill on.fills) o.w b cpu mem

  -- at a place between blocks
  abbrev AtHand : ℕ × ℕ × ℕ → Env → Type 0
  AtHand t e = At code (block mode (body mode (InCall (AtOffset t.0 t.1)))) t.2 e c s.memory

  abbrev EdgesAt : ℕ × ℕ × ℕ → ℕ
  EdgesAt t = edges mode (body mode (InCall (AtOffset t.0 t.1))) t.2

  pub at_kick_comparison : first_fill on.fills ≡ None → (act : Stood on.own b c s.memory) (k ss : ℕ) → IsKernelSs mode ss → (extra v : ℕ → ℕ) (f : Flags)
      (offset more : ℕ) → offset ≡ behind_comparison → more ≡ 4 → k ≡ (block mode (body mode (InCall (AtOffset offset more)))).steps
      → AtHand (offset, more, k) (env ss extra v f) → (to : ℕ) (sends : Bool)
      → Kicking mode image (origin_of o.κ) (env ss extra v f) o.w b to sends s.memory.words → f.status.zero ≡ sends → EdgesAt (offset, more, k) ≤ on.own
      → Simulated mode image left s m p
  at_kick_comparison unfilled act k ss ss_is extra v f offset more q e n at to sends means zero enough =
      let last : k ≡ 0 = n ∙ offset_steps mode offset more in
      let same : (offset, more, k) ≡ (behind_comparison, 4, 0) = λ i. (q i, e i, last i) in
      to_branch mode image built good facts left s m h p hp o body' is unfilled act ss ss_is extra v f (subst (λ t. AtHand t (env ss extra v f)) same at) to
      sends means zero (subst (λ t. EdgesAt t ≤ on.own) same enough)

  pub at_kick_sends : first_fill on.fills ≡ None → (act : Stood on.own b c s.memory) (k ss : ℕ) → IsKernelSs mode ss → (extra v : ℕ → ℕ) (f : Flags)
      (to : ℕ) → k ≡ (block mode (body mode (AtKick to))).steps → At code (block mode (body mode (AtKick to))) k (env ss extra v f) c s.memory
      → Kicking mode image (origin_of o.κ) (env ss extra v f) o.w b to true s.memory.words → Simulated mode image left s m p
  at_kick_sends unfilled act k ss ss_is extra v f to n at means =
      by_sending mode image built good facts left s m h p hp o body' is unfilled act ss ss_is extra v f to
      (subst (λ j. At code (block mode (body mode (AtKick to))) j (env ss extra v f) c s.memory) (n ∙ sending_steps mode to) at) means

  pub at_kick_quiet : first_fill on.fills ≡ None → (act : Stood on.own b c s.memory) (k ss : ℕ) → IsKernelSs mode ss → (extra v : ℕ → ℕ) (f : Flags)
      (offset more : ℕ) → offset ≡ at_quiet → more ≡ 0 → k ≡ (block mode (body mode (InCall (AtOffset offset more)))).steps
      → AtHand (offset, more, k) (env ss extra v f) → (to : ℕ) → Kicking mode image (origin_of o.κ) (env ss extra v f) o.w b to false s.memory.words
      → Simulated mode image left s m p
  at_kick_quiet unfilled act k ss ss_is extra v f offset more q e n at to means =
      let last : k ≡ 0 = n ∙ offset_steps mode offset more in
      let same : (offset, more, k) ≡ (at_quiet, 0, 0) = λ i. (q i, e i, last i) in
      by_quiet mode image built good facts left s m h p hp o body' is unfilled act ss ss_is extra v f to
      (subst (λ t. AtHand t (env ss extra v f)) same at) means
