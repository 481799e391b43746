-- `wait`: behind its test the next item opens where the call is done, and else the item itself.
use Rattle.std.proofs.Common.{◌≡◌, ℕ, suc, ◌+◌, ◌<◌, ◌≤◌, Bool, true, false, length, Option, Some, None, refl, sym, ap, ◌∙◌, subst, arith}
use Rattle.std.specs.Prelude.{slice_get, ◌%◌, ◌^◌, is_some}
use Rattle.ev_isa.specs.Word.{NatMap}
use Rattle.ev_isa.specs.Flags.{Flags}
use Rattle.ev_isa.specs.declared.mode.Mode.{Mode}
use Rattle.ev_isa.specs.declared.mode.Mode.TheVariants.{Idt, Fred}
use Rattle.ev_body.specs.declared.body.Body.{Body}
use Rattle.ev_body.specs.declared.image.Image.{Image}
use Rattle.ev_body.specs.WellFormed.{IsImage}
use Rattle.ev_state.specs.Processor.{Processor}
use Rattle.ev_abstract.specs.Context.{BodyContext}
use Rattle.ev_abstract.specs.Machine.{Machine, processor}
use Rattle.ev_abstract.specs.Run.{item_at}
use Rattle.ev_concrete.specs.ConcreteRun.{System}
use Rattle.ev_built.specs.Built.{IsBuilt}
use Rattle.ev_symbolic.specs.Value.{M, V, K, X}
use Rattle.ev_symbolic.specs.State.{SS, Block}
use Rattle.ev_symbolic.specs.Run.{brun}
use Rattle.ev_symbolic.specs.Agrees.{Env, eval_flags, Code, Agrees, At}
use Rattle.ev_symbolic.proofs.Blocks.{begins, at_end}
use Rattle.ev_blocks.specs.Shapes.{FredFrame, IdtFrame}
use Rattle.ev_blocks.specs.Calls.{BehindWait, state_word}
use Rattle.ev_blocks.specs.Items.{AtItem, InCall}
use Rattle.ev_blocks.specs.Blocks.{Spot, block, edges}
use Rattle.ev_blocks.specs.Blocks as blocks
use Rattle.ev_blocks.proofs.CallFalls.{call_edges}
use Rattle.ev_paths.specs.CallEnds.{behind_wait}
use Rattle.ev_paths.proofs.CallEnds.{call_ends}
use Rattle.ev_table.specs.Table.{code_table}
use Rattle.ev_relation.specs.Filling.{Filling, first_fill}
use Rattle.ev_relation.specs.Active.{item_place, address_of_item, here, IsKernelSs, FlagsAre, InCode, InItem, InCallSpot}
use Rattle.ev_relation.specs.Relation.{StandsOn, Stands}
use Rattle.ev_relation.proofs.Facts.{Facts}
use Rattle.ev_relation.proofs.CallKinds.{origin_of, plain_knows}
use Rattle.ev_body_steps.proofs.Bodies.{body, at_the_item, means_at, saved_again}
use Rattle.ev_body_steps.proofs.CallCells.{wait_code}
use Rattle.ev_body_steps.proofs.ItemLocals.{locals_behind, calls_behind}
use Rattle.ev_body_steps.proofs.ItemState.{with_registers, opening_of, known_of, Comes, ItemState, item_state, unblocked, gone, lands, any_registers, any_known, beyond_registers}
use Rattle.ev_body_steps.proofs.ItemInterrupts as interrupts
use Rattle.ev_body_steps.proofs.KernelStep as step

-- ---- the block behind the load

-- its spot
abbrev pub behind_load : Mode → Bool → Spot
behind_load mode d = body mode (InCall (BehindWait d))

pub wait_steps : (mode : Mode) (d : Bool) → (block mode (behind_load mode d)).steps ≡ 2
wait_steps Fred d = refl
wait_steps Idt d = refl

-- where it ends
wait_end : (mode : Mode) (d : Bool)
    → (z : SS) × (brun (block mode (behind_load mode d)) 2 ≡ Some z) × Comes mode z (behind_wait d) (K (state_word d)) (X 1) (X 2)
wait_end Fred true = let w = (call_ends true FredFrame).wait true in (w.z, w.runs, w.is)
wait_end Fred false = let w = (call_ends true FredFrame).wait false in (w.z, w.runs, w.is)
wait_end Idt true = let w = (call_ends false IdtFrame).wait true in (w.z, w.runs, w.is)
wait_end Idt false = let w = (call_ends false IdtFrame).wait false in (w.z, w.runs, w.is)

wait_known : (mode : Mode) (d : Bool) → (block mode (behind_load mode d)).ground.known ≡ known_of mode
wait_known Fred d = refl
wait_known Idt d = refl

wait_falls : (mode : Mode) (d : Bool) → edges mode (body mode AtItem) 0 ≤ edges mode (behind_load mode d) 2
wait_falls Fred d = (call_edges Fred FredFrame).wait d
wait_falls Idt d = (call_edges Idt IdtFrame).wait d

module _ (mode : Mode) (image : Image) (built : IsBuilt image) (good : IsImage image) (facts : Facts mode image)
    (left : NatMap ℕ) (s : System) (m : Machine) (h : Stands mode image left s m) (p : ℕ) (hp : p < image.processors)
    (o : step.Top mode image built good facts left s m h p hp) (body' : Body) (is : slice_get image.bodies o.b.body ≡ Some body') where
  abbrev code : Code
  code = code_table mode image

  abbrev c : Processor
  c = s.cpus p

  abbrev b : BodyContext
  b = o.b

  abbrev on : StandsOn mode image p (left p) s (processor m p)
  on = step.on mode image built good facts left s m h p hp

  -- an item opens, with these flags
  pub record Opens (ss : ℕ) (v : ℕ → ℕ) : Type 0 where
    pub flags : Flags
    pub next : interrupts.NextItem mode image built good facts left s m h p hp o body' is ss (with_registers c.regs v) flags

  -- the item that begins where an activation is so many bytes behind the beginning of the one before, whose flags no context tells
  pub opens_behind : first_fill on.fills ≡ None → (ss : ℕ) → IsKernelSs mode ss → (extra v : ℕ → ℕ) (f : Flags) (offset : ℕ) (rax rcx rdx : V) (g : Flags)
      → ItemState mode (here mode p o.κ o.σ ss o.w extra v f) c s.memory offset rax rcx rdx g
      → InCode mode image (origin_of o.κ) (here mode p o.κ o.σ ss o.w extra v f) o.w b s.memory.words
      → extra 20 + offset ≡ item_place mode image b.body b.place → b.flags ≡ None → length c.regs ≡ 16
      → edges mode (body mode AtItem) 0 ≤ on.own → Opens ss v
  opens_behind unfilled ss ss_is extra v f offset rax rcx rdx g state means next unknown long enough =
      let way = at_the_item mode in
      let e : Env = here mode p o.κ o.σ ss o.w extra v f in
      let there : ℕ = item_place mode image b.body b.place in
      let extra' : ℕ → ℕ = λ i. there in
      let v' : ℕ → ℕ = with_registers c.regs v in
      let u : Env = here mode p o.κ o.σ ss o.w extra' v' g in
      let here_is = step.place_is mode image built good facts left s m h p hp o body' is in
      let small : there + 16 < 2 ^ 64 = subst (λ y. y + 16 < 2 ^ 64) (sym here_is) (facts.item_small b.body b.place body' is).1 in
      let plain = step.plain_kind mode image built good facts left s m h p hp o in
      let windows = step.windows mode image built good facts left s m h p hp o body' is (body mode AtItem) way.over ss extra' v' g in
      let lands_at = lands mode e u c s.memory offset rax rcx rdx g state
      (any_registers mode p o.κ o.σ ss o.w o.w extra extra' v v f g c.regs refl refl refl) refl c.regs long refl v refl there refl small
      s.memory.words (any_known mode p o.κ o.σ ss o.w extra extra' v f g c.regs s.memory.words state.words) windows in
      let rip : c.rip ≡ there = state.rip ∙ ap (λ y. y % M) next ∙ (let q : there % M ≡ there = omega arith in q) in
      let clear : c.sti_blocked ≡ false = state.blocked ∙ unblocked mode in
      let flags : c.flags ≡ _ = state.flags in
      let same : c ≡ gone c c.regs g there = λ i. record c { rip = rip i; flags = flags i; sti_blocked = clear i } in
      let agrees : Agrees u (block mode (body mode AtItem)).ground (opening_of mode) c s.memory
      = subst (λ y. Agrees u (block mode (body mode AtItem)).ground (opening_of mode) y s.memory) (sym same) lands_at in
      let at_next : At code (block mode (body mode AtItem)) 0 u c s.memory = begins code (block mode (body mode AtItem)) u c s.memory
      (step.fits mode image built good facts left s m h p hp o body' is (body mode AtItem) way.over ss extra' v' g refl tt (way.told u)) agrees in
      let item : InItem mode image (origin_of o.κ) u o.w b s.memory.words = record {
        saved = saved_again mode image (origin_of o.κ) e u o.w (beyond_registers c.regs v) refl refl refl means.saved;
        locals = locals_behind mode image e c s.memory offset rax rcx rdx g state b means.locals None tt;
        flags = subst (λ q. FlagsAre mode image q g) (sym unknown) tt;
        calls = calls_behind mode image e c s.memory offset rax rcx rdx g state b means.locals None tt s.memory.words (λ k l j lj. refl) means.calls;
      } in record {
        flags = g;
        next = record {
          extra = extra';
          place = refl;
          means = item;
          at = at_next;
          enough = enough;
          act = record {
            stands = record {
              spot = body mode AtItem;
              k = 0;
              extra = extra';
              var = v';
              flags = g;
              ss = ss;
              ss_is = ss_is;
              masked = step.masks_flags mode image built good facts left s m h p hp o g state.flags;
              within = omega arith;
              enough = enough;
              at = at_next;
              long = long;
            };
            switches = way.off ∙ sym o.off;
            fills = sym (ap is_some unfilled);
            knows = plain_knows mode o.κ on.frame plain (blocks.holds (body mode AtItem));
            means = means_at mode image o.κ plain AtItem u o.w b (first_fill on.fills) s.memory.words (item, refl);
          };
        };
      }

  -- the one that begins where the block of `wait` ends
  to_next : first_fill on.fills ≡ None → (d : Bool) (ss : ℕ) → IsKernelSs mode ss → (extra v : ℕ → ℕ) (f : Flags)
      → At code (block mode (behind_load mode d)) 2 (here mode p o.κ o.σ ss o.w extra v f) c s.memory
      → InCode mode image (origin_of o.κ) (here mode p o.κ o.σ ss o.w extra v f) o.w b s.memory.words
      → extra 20 + behind_wait d ≡ item_place mode image b.body b.place → b.flags ≡ None → length c.regs ≡ 16
      → edges mode (behind_load mode d) 2 ≤ on.own → Opens ss v
  to_next unfilled d ss ss_is extra v f at means next unknown long enough =
      let B : Block = block mode (behind_load mode d) in
      let e : Env = here mode p o.κ o.σ ss o.w extra v f in
      let z = wait_end mode d in
      let a : Agrees e B.ground z.0 c s.memory = at_end code B 2 z.0 z.1 e c s.memory at in
      let falls = wait_falls mode d in
      opens_behind unfilled ss ss_is extra v f (behind_wait d) (K (state_word d)) (X 1) (X 2) (eval_flags e z.0.flags)
      (item_state mode e B.ground z.0 c s.memory (behind_wait d) (K (state_word d)) (X 1) (X 2) (wait_known mode d) z.2 a) means next unknown long (omega arith)

  -- at the end of the block
  pub behind_wait_opens : first_fill on.fills ≡ None → (d : Bool) (ss : ℕ) → IsKernelSs mode ss → (extra v : ℕ → ℕ) (f : Flags)
      → At code (block mode (behind_load mode d)) 2 (here mode p o.κ o.σ ss o.w extra v f) c s.memory → (fill : Option Filling)
      → InCallSpot mode image (origin_of o.κ) (BehindWait d) (here mode p o.κ o.σ ss o.w extra v f) o.w b fill s.memory.words → length c.regs ≡ 16
      → edges mode (behind_load mode d) 2 ≤ on.own → Opens ss v
  behind_wait_opens unfilled true ss ss_is extra v f at fill means long enough =
      let waited = means.1 in
      let cells = wait_code mode image facts b.body body' is waited.n waited.site (ap (λ q. item_at q waited.n) (sym is) ∙ waited.code.0) in
      let next : extra 20 + 36 ≡ item_place mode image b.body b.place = ap (λ y. y + 36) (waited.code.1 ∙ ap (address_of_item mode b.body waited.n) is)
      ∙ cells.follows ∙ sym (ap (address_of_item mode b.body (suc waited.n)) is) ∙ ap (item_place mode image b.body) (sym waited.next) in
      to_next unfilled true ss ss_is extra v f at means.0 next means.2 long enough
  behind_wait_opens unfilled false ss ss_is extra v f at fill means long enough =
      let base = means.1 in
      let next : extra 20 + 0 ≡ item_place mode image b.body b.place = (let z : extra 20 + 0 ≡ extra 20 = omega arith in z) ∙ base in
      to_next unfilled false ss ss_is extra v f at means.0 next means.2 long enough
