-- `kick`: behind its jump over what is visible where it sends nothing the next item opens.
use Rattle.std.proofs.Common.{◌≡◌, ℕ, ◌<◌, ◌≤◌, true, false, length, None, Some, refl, arith}
use Rattle.std.specs.Prelude.{slice_get}
use Rattle.ev_isa.specs.Word.{NatMap}
use Rattle.ev_isa.specs.Flags.{Flags}
use Rattle.ev_isa.specs.declared.mode.Mode.{Mode}
use Rattle.ev_isa.specs.declared.mode.Mode.TheVariants.{Idt, Fred}
use Rattle.ev_body.specs.declared.body.Body.{Body}
use Rattle.ev_body.specs.declared.image.Image.{Image}
use Rattle.ev_body.specs.WellFormed.{IsImage}
use Rattle.ev_state.specs.Processor.{Processor}
use Rattle.ev_abstract.specs.Context.{BodyContext}
use Rattle.ev_abstract.specs.Machine.{Machine, processor}
use Rattle.ev_concrete.specs.ConcreteRun.{System}
use Rattle.ev_built.specs.Built.{IsBuilt}
use Rattle.ev_symbolic.specs.Value.{X}
use Rattle.ev_symbolic.specs.State.{SS, Block}
use Rattle.ev_symbolic.specs.Run.{brun}
use Rattle.ev_symbolic.specs.Agrees.{Env, eval_flags, Code, At}
use Rattle.ev_symbolic.proofs.Blocks.{at_end}
use Rattle.ev_blocks.specs.Shapes.{FredFrame, IdtFrame}
use Rattle.ev_blocks.specs.Items.{AtItem, BehindKick, kick_end}
use Rattle.ev_blocks.specs.Blocks.{block, edges}
use Rattle.ev_blocks.proofs.Falls.{edges_fall}
use Rattle.ev_paths.proofs.BodyEnds.{body_ends}
use Rattle.ev_table.specs.Table.{code_table}
use Rattle.ev_relation.specs.Filling.{first_fill}
use Rattle.ev_relation.specs.Active.{here, IsKernelSs, InSpot}
use Rattle.ev_relation.specs.Relation.{StandsOn, Stands}
use Rattle.ev_relation.proofs.Facts.{Facts}
use Rattle.ev_relation.proofs.CallKinds.{origin_of}
use Rattle.ev_body_steps.proofs.Bodies.{body}
use Rattle.ev_body_steps.proofs.ItemState.{known_of, Comes, item_state}
use Rattle.ev_body_steps.proofs.ItemWait.{Opens, opens_behind}
use Rattle.ev_body_steps.proofs.KernelStep as step

-- ---- the block behind the sending

pub jump_steps : (mode : Mode) → (block mode (body mode BehindKick)).steps ≡ 1
jump_steps Fred = refl
jump_steps Idt = refl

-- where it ends
jump_end : (mode : Mode) → (z : SS) × (brun (block mode (body mode BehindKick)) 1 ≡ Some z) × Comes mode z kick_end (X 0) (X 1) (X 2)
jump_end Fred = let w = (body_ends true FredFrame).behind_kick in (w.z, w.runs, w.is)
jump_end Idt = let w = (body_ends false IdtFrame).behind_kick in (w.z, w.runs, w.is)

jump_known : (mode : Mode) → (block mode (body mode BehindKick)).ground.known ≡ known_of mode
jump_known Fred = refl
jump_known Idt = refl

jump_falls : (mode : Mode) → edges mode (body mode AtItem) 0 ≤ edges mode (body mode BehindKick) 1
jump_falls Fred = (edges_fall Fred).kick FredFrame
jump_falls Idt = (edges_fall Idt).kick IdtFrame

module _ (mode : Mode) (image : Image) (built : IsBuilt image) (good : IsImage image) (facts : Facts mode image)
    (left : NatMap ℕ) (s : System) (m : Machine) (h : Stands mode image left s m) (p : ℕ) (hp : p < image.processors)
    (o : step.Top mode image built good facts left s m h p hp) (body' : Body) (is : slice_get image.bodies o.b.body ≡ Some body') where
  abbrev code : Code
  code = code_table mode image

  abbrev c : Processor
  c = s.cpus p

  abbrev b : BodyContext
  b = o.b

  abbrev on : StandsOn mode image p (left p) s (processor m p)
  on = step.on mode image built good facts left s m h p hp

  -- at its end
  pub behind_kick_opens : first_fill on.fills ≡ None → (ss : ℕ) → IsKernelSs mode ss → (extra v : ℕ → ℕ) (f : Flags)
      → At code (block mode (body mode BehindKick)) 1 (here mode p o.κ o.σ ss o.w extra v f) c s.memory
      → InSpot mode image (origin_of o.κ) BehindKick (here mode p o.κ o.σ ss o.w extra v f) o.w b (first_fill on.fills) s.memory.words → length c.regs ≡ 16
      → edges mode (body mode BehindKick) 1 ≤ on.own → Opens mode image built good facts left s m h p hp o body' is ss v
  behind_kick_opens unfilled ss ss_is extra v f at means long enough =
      let B : Block = block mode (body mode BehindKick) in
      let e : Env = here mode p o.κ o.σ ss o.w extra v f in
      let z = jump_end mode in
      let falls = jump_falls mode in
      opens_behind mode image built good facts left s m h p hp o body' is unfilled ss ss_is extra v f kick_end (X 0) (X 1) (X 2) (eval_flags e z.0.flags)
      (item_state mode e B.ground z.0 c s.memory kick_end (X 0) (X 1) (X 2) (jump_known mode) z.2 (at_end code B 1 z.0 z.1 e c s.memory at))
      means.0 means.1 means.2 long (omega arith)
