-- `call` behind the exchange that put its record into the queue: the branch, an edge to what leaves the answer, and its end, where the next item opens.
use Rattle.std.proofs.Common.{◌≡◌, ℕ, ◌+◌, ◌-◌, ◌%◌, ◌^◌, ◌<◌, ◌≤◌, Bool, true, false, not, List, [], ◌∷◌, get_or, set, length, None, Some, refl, sym, ap, ◌∙◌, subst, arith}
use Rattle.std.specs.Prelude.{negsuc, slice_get, ◌==◌, if◌then◌else◌}
use Rattle.std.proofs.lemmas.Bool.{eqb-true, ne_eqb}
use Rattle.ev_isa.specs.Word.{NatMap, displaced, is_canonical}
use Rattle.ev_isa.specs.Flags.{Flags, flags_of, holds}
use Rattle.ev_isa.specs.Spelling.{spelling, four_bytes}
use Rattle.ev_isa.specs.declared.instruction.Ins.TheVariants.{Jcc}
use Rattle.ev_isa.specs.declared.instruction.Cond.TheVariants.{Nz}
use Rattle.ev_isa.specs.declared.mode.Mode.{Mode}
use Rattle.ev_isa.specs.declared.mode.Mode.TheVariants.{Idt, Fred}
use Rattle.ev_body.specs.declared.item.Item.{Item}
use Rattle.ev_body.specs.declared.body.Body.{Body}
use Rattle.ev_body.specs.declared.image.Image.{Image}
use Rattle.ev_body.specs.WellFormed.{IsImage}
use Rattle.ev_listing.specs.Expansion.{item_address}
use Rattle.ev_state.specs.Processor.{Processor}
use Rattle.ev_state.proofs.FlagLaws.{flags_of-flags_word}
use Rattle.ev_mem.specs.Memory.{Memory}
use Rattle.ev_tables.proofs.Gates.{upper_canonical}
use Rattle.ev_abstract.specs.Context.{BodyContext}
use Rattle.ev_abstract.specs.Machine.{Machine, processor}
use Rattle.ev_abstract.specs.Run.{item_at}
use Rattle.ev_concrete.specs.ConcreteRun.{System, is_return}
use Rattle.ev_built.specs.Built.{IsBuilt, is_built_item}
use Rattle.ev_symbolic.specs.Value.{M}
use Rattle.ev_symbolic.specs.State.{Block}
use Rattle.ev_symbolic.specs.Single.{Leads, onward}
use Rattle.ev_symbolic.specs.Agrees.{Env, Code, Stands as Lines, eval, eval_flags, FactsHold, Agrees, At}
use Rattle.ev_symbolic.proofs.Single.{singles}
use Rattle.ev_symbolic.proofs.Blocks.{at_end}
use Rattle.ev_blocks.specs.Shapes.{FredFrame, IdtFrame}
use Rattle.ev_blocks.specs.Calls.{CallSpot, BehindCall, AtOffset, block_of_call, head_facts, old_head, answer_code, behind_exchange, at_answer, call_end}
use Rattle.ev_blocks.specs.Items.{AtItem, InCall}
use Rattle.ev_blocks.specs.Blocks.{block, edges, item_edges}
use Rattle.ev_blocks.proofs.CallFalls.{call_edges}
use Rattle.ev_paths.specs.CallEnds.{CallComes, item_regs}
use Rattle.ev_paths.proofs.Locals.{from_six}
use Rattle.ev_table.specs.Table.{code_table}
use Rattle.ev_relation.specs.Filling.{first_fill}
use Rattle.ev_relation.specs.Active.{address_of_item, here, IsKernelSs, HoldsCalls, Answering, InCallSpot, Active}
use Rattle.ev_relation.specs.Relation.{StandsOn, Stands, switches_at}
use Rattle.ev_relation.specs.Step.{Simulated}
use Rattle.ev_relation.proofs.CallKinds.{origin_of}
use Rattle.ev_relation.proofs.Facts.{Facts}
use Rattle.ev_relation.proofs.ModeFacts.{is_fred}
use Rattle.ev_relation.proofs.Spots.{is_spot}
use Rattle.ev_body_steps.proofs.Bodies.{body, layout_of, saved_again}
use Rattle.ev_body_steps.proofs.CallCells.{call_code}
use Rattle.ev_body_steps.proofs.CallEnd.{answer_regs, answer_opens}
use Rattle.ev_body_steps.proofs.CallGoes.{block_is, ends_of}
use Rattle.ev_body_steps.proofs.CallGoes as goes
use Rattle.ev_body_steps.proofs.CallPlaces.{rax_regs_are, same_rsp}
use Rattle.ev_body_steps.proofs.ItemCells.{edges_stand}
use Rattle.ev_body_steps.proofs.ItemState.{with_registers, any_known, beyond_registers}
use Rattle.ev_body_steps.proofs.ItemVisible.{goes_onward}
use Rattle.ev_body_steps.proofs.ItemWait.{Opens}
use Rattle.ev_body_steps.proofs.KernelItems as items
use Rattle.ev_body_steps.proofs.KernelStep as step
use Rattle.ev_body_steps.proofs.TakenSteps.{edges_at_end, hand_edges, ends_at_hand}

-- ---- the block

-- what it leaves in the local
abbrev pub answer_of : Bool → ℕ
answer_of is_first = if is_first then 2 else 1

answer_comes : (mode : Mode) (r : ℕ) (is_first : Bool) → 6 ≤ r → r < 14
    → CallComes (is_fred mode) (layout_of mode) (BehindCall r is_first) call_end (answer_regs mode (old_head is_first) r (answer_of is_first))
answer_comes mode r true lo hi = (ends_of mode).answers r true lo hi
answer_comes mode r false lo hi = (ends_of mode).answers r false lo hi

answer_falls : (mode : Mode) (r : ℕ) (is_first : Bool) → edges mode (body mode AtItem) 0 ≤ edges_at_end mode (BehindCall r is_first)
answer_falls Fred r is_first = (call_edges Fred FredFrame).answer r is_first
answer_falls Idt r is_first = (call_edges Idt IdtFrame).answer r is_first

answer_fewer : (mode : Mode) (r : ℕ) (is_first : Bool) → edges mode (body mode (InCall (BehindCall r is_first))) 0 < item_edges + 5
answer_fewer Fred r true = omega arith
answer_fewer Fred r false = omega arith
answer_fewer Idt r true = omega arith
answer_fewer Idt r false = omega arith

answer_spot : (mode : Mode) (r : ℕ) (is_first : Bool) → 6 ≤ r → r < 14 → is_spot mode (body mode (InCall (BehindCall r is_first))) ≡ true
answer_spot Fred r true lo hi = from_six (λ k. is_spot Fred (body Fred (InCall (BehindCall k true))) ≡ true) refl refl refl refl refl refl refl refl r lo hi
answer_spot Fred r false lo hi = from_six (λ k. is_spot Fred (body Fred (InCall (BehindCall k false))) ≡ true) refl refl refl refl refl refl refl refl r lo hi
answer_spot Idt r true lo hi = from_six (λ k. is_spot Idt (body Idt (InCall (BehindCall k true))) ≡ true) refl refl refl refl refl refl refl refl r lo hi
answer_spot Idt r false lo hi = from_six (λ k. is_spot Idt (body Idt (InCall (BehindCall k false))) ≡ true) refl refl refl refl refl refl refl refl r lo hi

-- the old head, a word, is 0 or isn't
head_told : (u : Env) (n : ℕ) (is_first : Bool) → u.var 0 ≡ n → n < M → (n == 0) ≡ is_first → FactsHold u (head_facts is_first)
unfolding eval
head_told u n true e l is = tt
head_told u n false e l is = (
  ap (λ t. if t then 1 else 0) (ne_eqb ((u.var 0 + M - 0) % M) 0 (λ q.
      let z : (u.var 0 + M - 0) % M ≡ 0 = q in
      let zero : n ≡ 0 = omega (arith, z, e, l) in
      let clash : false ≡ true = sym is ∙ ap (λ k. k == 0) zero in absurd (cc))),
  tt,
)

rax_is : (u : Env) (n : ℕ) (is_first : Bool) → u.var 0 ≡ n → (n == 0) ≡ is_first → n ≡ eval u (old_head is_first)
unfolding eval
rax_is u n true e is = eqb-true n 0 is
rax_is u n false e is = sym e

module _ (mode : Mode) (image : Image) (built : IsBuilt image) (good : IsImage image) (facts : Facts mode image)
    (left : NatMap ℕ) (s : System) (m : Machine) (h : Stands mode image left s m) (p : ℕ) (hp : p < image.processors)
    (o : step.Top mode image built good facts left s m h p hp) (body' : Body) (is : slice_get image.bodies o.b.body ≡ Some body') where
  abbrev code : Code
  code = code_table mode image

  abbrev c : Processor
  c = s.cpus p

  abbrev b : BodyContext
  b = o.b

  abbrev on : StandsOn mode image p (left p) s (processor m p)
  on = step.on mode image built good facts left s m h p hp

  abbrev env : ℕ → (extra v : ℕ → ℕ) → Flags → Env
  env ss extra v f = here mode p o.κ o.σ ss o.w extra v f

  abbrev Stood : ℕ → BodyContext → Processor → Memory → Type 0
  Stood now b cpu mem = Active mode image p now o.κ o.σ on.frame (switches_at mode image on.switching o.below) (first_fill on.fills) o.w b cpu mem

  -- Where the code ends the next item opens.
  pub answered_opens : first_fill on.fills ≡ None → (act : Stood on.own b c s.memory) (r : ℕ) (is_first : Bool) (ss : ℕ) → IsKernelSs mode ss
      → (extra v : ℕ → ℕ) (f : Flags)
      → At code (block mode (body mode (InCall (BehindCall r is_first)))) (block mode (body mode (InCall (BehindCall r is_first)))).steps
      (env ss extra v f) c s.memory
      → Answering mode image (origin_of o.κ) (env ss extra v f) o.w b r (answer_of is_first) s.memory.words
      → edges_at_end mode (BehindCall r is_first) ≤ on.own → Opens mode image built good facts left s m h p hp o body' is ss v
  answered_opens unfilled act r is_first ss ss_is extra v f at y enough =
      let falls = answer_falls mode r is_first in
      answer_opens mode image built good facts left s m h p hp o body' is unfilled act ss ss_is extra v f (BehindCall r is_first) refl at
      (old_head is_first) r (answer_of is_first) (answer_comes mode r is_first y.is_local.0 y.is_local.1) y (omega arith)

  -- so the step there is that item's first
  pub at_answer_end : first_fill on.fills ≡ None → (act : Stood on.own b c s.memory) (r : ℕ) (is_first : Bool) (k ss : ℕ) → IsKernelSs mode ss
      → (extra v : ℕ → ℕ) (f : Flags) → k ≡ (block mode (body mode (InCall (BehindCall r is_first)))).steps
      → At code (block mode (body mode (InCall (BehindCall r is_first)))) k (env ss extra v f) c s.memory
      → InCallSpot mode image (origin_of o.κ) (BehindCall r is_first) (env ss extra v f) o.w b (first_fill on.fills) s.memory.words → length c.regs ≡ 16
      → edges mode (body mode (InCall (BehindCall r is_first))) k ≤ on.own → (i : Item) → is_built_item i ≡ true → item_at (Some body') b.place ≡ Some i
      → Simulated mode image left s m p
  at_answer_end unfilled act r is_first k ss ss_is extra v f n at means long enough i today hi =
      let y = answered_opens unfilled act r is_first ss ss_is extra v f
      (subst (λ j. At code (block mode (body mode (InCall (BehindCall r is_first)))) j (env ss extra v f) c s.memory) n at) means.0
      (subst (λ j. edges mode (body mode (InCall (BehindCall r is_first))) j ≤ on.own) n enough) in
      let z = y.next in
      items.by_item mode image built good facts left s m h p hp o body' is unfilled z.act ss ss_is z.extra _ y.flags z.at z.means z.place long z.enough
      i today hi

  -- The branch doesn't jump: an edge, to what leaves the answer.
  pub by_exchange_branch : first_fill on.fills ≡ None → (act : Stood on.own b c s.memory) (ss : ℕ) → IsKernelSs mode ss → (extra v : ℕ → ℕ) (f : Flags)
      → (edges' : ℕ) → edges' ≡ item_edges + 5
      → At code (block mode (body mode (InCall (AtOffset behind_exchange edges')))) (block mode (body mode (InCall (AtOffset behind_exchange edges')))).steps
      (env ss extra v f) c s.memory → (r : ℕ) (is_first : Bool)
      → Answering mode image (origin_of o.κ) (env ss extra v f) o.w b r (answer_of is_first) s.memory.words → (v 0 == 0) ≡ is_first → v 0 < M
      → f.status.zero ≡ true → edges_at_end mode (AtOffset behind_exchange edges') ≤ on.own → Simulated mode image left s m p
  unfolding eval eval_flags spelling four_bytes is_return holds
  by_exchange_branch unfilled act ss ss_is extra v f edges' many at r is_first y first word zero enough =
      let e : Env = env ss extra v f in
      let B : Block = block_of_call (is_fred mode) (layout_of mode) (AtOffset behind_exchange edges') in
      let z = goes.behind_block mode image built good facts left s m h p hp o (AtOffset behind_exchange edges') refl unfilled act ss ss_is extra v f y.range at
      behind_exchange (omega arith) (item_regs (layout_of mode)) (ends_at_hand mode behind_exchange edges') refl refl in
      let place : goes.AtPlace mode image built good facts left s m h p hp o ss extra v f behind_exchange = z.0 in
      let g : Flags = place.flags in
      let u : Env = env ss extra (with_registers c.regs v) g in
      let lo = y.is_local.0 in
      let hi = y.is_local.1 in
      let low = place.range.0 in
      let high = place.range.1 in
      let a : ℕ = item_address mode b.body body' y.n in
      let base : extra 20 ≡ a = y.code.1 ∙ ap (address_of_item mode b.body y.n) is in
      let cells = call_code mode image facts b.body body' is y.n y.site y.to y.func r (ap (λ q. item_at q y.n) (sym is) ∙ y.code.0) in
      let rip : c.rip ≡ a + behind_exchange
      = goes.rip_is mode image built good facts left s m h p hp o ss extra v f behind_exchange place ∙ ap (λ k. k + behind_exchange) base in
      let next : ℕ = a + at_answer in
      let at_ins = goes.at_instruction mode image built good facts left s m h p hp o ss extra v f behind_exchange place (Jcc Nz (negsuc 28)) next
      (let q : next ≡ extra 20 + 163 + 6 = omega arith in q) in
      let agrees : Agrees e B.ground B.opening c s.memory = at_end code B 0 B.opening refl e c s.memory
      (subst (λ (q : Block). At code q q.steps e c s.memory) (block_is mode (AtOffset behind_exchange edges')) at) in
      let flags : flags_of c.flags ≡ f = ap flags_of agrees.flags ∙ flags_of-flags_word f in
      let target : ℕ = displaced next (negsuc 28) in
      let target_is : target ≡ extra 20 + 140 = (let q : (a + 169 + (2 ^ 64 - 29)) % 2 ^ 64 ≡ extra 20 + 140 = omega arith in q) in
      let fine : is_canonical target ≡ true = ap is_canonical target_is ∙ upper_canonical (extra 20 + 140) (omega arith) (omega arith) in
      let leads = goes_onward c s.memory (Jcc Nz (negsuc 28)) g c.regs next s.memory.words place.state.flags
      (subst (λ n. Leads c s.memory (Jcc Nz (negsuc 28)) (onward c c.regs n) s.memory.words)
      (ap (λ (k : Flags). if holds Nz k.status then target else next) flags ∙ ap (λ t. if not t then target else next) zero)
      ((singles c s.memory next).branches Nz (negsuc 28) at_ins fine)) in
      let rax : get_or c.regs 0 0 ≡ v 0 = ap (λ (xs : List ℕ). get_or xs 0 0) z.1 in
      let spot : CallSpot = BehindCall r is_first in
      let long : length c.regs ≡ 16 = place.state.long in
      let stack = same_rsp mode p o.κ o.σ ss o.w extra v f c s.memory behind_exchange g place.state extra v refl refl refl in
      let is_block = block_is mode spot in
      let first_is : (get_or c.regs 0 0 == 0) ≡ is_first = ap (λ k. k == 0) rax ∙ first in
      let stands = goes.call_stands mode image built good facts left s m h p hp o ss extra v f behind_exchange place spot refl
      (answer_spot mode r is_first lo hi)
      extra v refl refl refl refl c.regs g next at_answer s.memory.words long refl (let q : next ≡ (extra 20 + 169) % M = omega arith in q) refl
      (rax_regs_are mode u c.regs v (old_head is_first) refl long stack (rax_is u (get_or c.regs 0 0) is_first refl first_is)) place.state.words
      (any_known mode p o.κ o.σ ss o.w extra extra v f g c.regs s.memory.words place.state.words)
      (subst (λ (q : Block). FactsHold u q.ground.facts) (sym is_block)
      (head_told u (get_or c.regs 0 0) is_first refl (subst (λ k. k < M) (sym rax) word) first_is))
      (subst (λ (q : Block). Lines code u q.lines) (sym is_block) (edges_stand code u a at_answer (answer_code r) base (omega arith) cells.answer)) in
      let fewer = answer_fewer mode r is_first in
      let own = hand_edges mode behind_exchange edges' in
      goes.goes_to mode image built good facts left s m h p hp o ss extra v f behind_exchange place spot refl (Jcc Nz (negsuc 28)) next
      (ap code rip ∙ cells.again) refl c.regs g long (step.masks_flags mode image built good facts left s m h p hp o g place.state.flags) leads extra v stands (
        record {
          range = y.range;
          saved = saved_again mode image (origin_of o.κ) e u o.w (beyond_registers c.regs v) refl refl refl y.saved;
          is_local = y.is_local;
          locals = subst (λ xs. b.locals ≡ set (get_or xs 6 0 ∷ get_or xs 7 0 ∷ get_or xs 8 0 ∷ get_or xs 9 0 ∷ get_or xs 10 0 ∷ get_or xs 11 0
              ∷ get_or xs 12 0 ∷ get_or xs 13 0 ∷ []) (r - 6) (answer_of is_first)) (sym z.1) y.locals;
          flags = y.flags;
          calls = subst (λ xs. HoldsCalls mode image s.memory.words (get_or xs 14 0) b.calls) (sym z.1) y.calls;
          site = y.site;
          to = y.to;
          func = y.func;
          n = y.n;
          code = y.code;
          next = y.next;
        },
        first_is,
      )
      (omega arith) (step.outside mode image built good facts left s m h p hp o act)
