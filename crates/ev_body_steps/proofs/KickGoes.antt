-- The edges of `kick` up to what is visible: the comparison of the answer with 2, and the branch, behind which it sends or doesn't.
use Rattle.std.proofs.Common.{◌≡◌, ℕ, suc, ◌+◌, ◌-◌, ◌%◌, ◌<◌, ◌≤◌, ◌^◌, Bool, true, false, not, map, get_or, length, None, Some, refl, sym, ap, ◌∙◌, subst, arith}
use Rattle.std.specs.Prelude.{pos, nat_le, slice_get, ◌==◌, if◌then◌else◌}
use Rattle.std.proofs.Common.{⊎_elim}
use Rattle.std.proofs.lemmas.Bool.{eq-eqb, ne_eqb, leb-true, ltb-true}
use Rattle.std.proofs.lemmas.Bool.Decides.{eqb_tells}
use Rattle.std.proofs.lemmas.List.{set-get_or}
use Rattle.ev_isa.specs.Word.{NatMap, wrap, displaced, is_canonical}
use Rattle.ev_isa.specs.Flags.{Status, Flags, flags_of, alu, difference, holds}
use Rattle.ev_isa.specs.Spelling.{spelling, four_bytes}
use Rattle.ev_isa.specs.declared.instruction.Ins.TheVariants.{AluImm, Jcc}
use Rattle.ev_isa.specs.declared.instruction.AluOp.TheVariants.{Cmp}
use Rattle.ev_isa.specs.declared.instruction.Cond.TheVariants.{Nz}
use Rattle.ev_isa.specs.declared.mode.Mode.{Mode}
use Rattle.ev_isa.specs.declared.mode.Mode.TheVariants.{Idt, Fred}
use Rattle.ev_body.specs.declared.item.Item.TheVariants.{Kick}
use Rattle.ev_body.specs.declared.body.Body.{Body}
use Rattle.ev_body.specs.declared.image.Image.{Image}
use Rattle.ev_body.specs.WellFormed.{IsImage, is_word, is_local, has_operands}
use Rattle.ev_listing.specs.Expansion.{item_address}
use Rattle.ev_mem.specs.Memory.{Memory}
use Rattle.ev_state.specs.Processor.{Processor, register, is_user}
use Rattle.ev_abstract.specs.Context.{BodyContext, local}
use Rattle.ev_abstract.specs.Machine.{Machine, processor}
use Rattle.ev_abstract.specs.Run.{item_at}
use Rattle.ev_concrete.specs.ConcreteRun.{System, is_return}
use Rattle.ev_built.specs.Built.{IsBuilt}
use Rattle.ev_symbolic.specs.Value.{M, X, FVar, V}
use Rattle.ev_symbolic.specs.State.{Block}
use Rattle.ev_symbolic.specs.Single.{Leads, onward, in_status}
use Rattle.ev_symbolic.specs.Agrees.{Env, Code, eval, eval_flags, Known, FactsHold, Stands as Lines, Agrees, At, edge_cell}
use Rattle.ev_symbolic.specs.Listed.{lines_at}
use Rattle.ev_symbolic.specs.Openings.{at_base}
use Rattle.ev_symbolic.specs.Names.{item_tag}
use Rattle.ev_paths.specs.CallEnds.{item_regs}
use Rattle.ev_tables.proofs.Gates.{upper_canonical}
use Rattle.ev_state.proofs.FlagLaws.{flags_of-flags_word}
use Rattle.ev_symbolic.proofs.Single.{singles}
use Rattle.ev_symbolic.proofs.Blocks.{at_end}
use Rattle.ev_symbolic.proofs.Values.{and_left, and_right}
use Rattle.ev_blocks.specs.Calls.{AtOffset}
use Rattle.ev_blocks.specs.Items.{AtItem, AtKick, InCall, numbers_code, behind_comparison, behind_branch, at_quiet}
use Rattle.ev_blocks.specs.Blocks.{block, edges}
use Rattle.ev_table.specs.Table.{code_table}
use Rattle.ev_user.specs.Numbers.{AreOfWords}
use Rattle.ev_relation.specs.Filling.{first_fill}
use Rattle.ev_relation.specs.Active.{item_place, address_of_item, here, IsKernelSs, InItem, InCode, Kicking, BehindComparison, AtQuiet, Active}
use Rattle.ev_relation.specs.Relation.{StandsOn, Stands, switches_at}
use Rattle.ev_relation.specs.Step.{Simulated}
use Rattle.ev_relation.proofs.Facts.{Facts}
use Rattle.ev_relation.proofs.Spots.{is_spot}
use Rattle.ev_relation.proofs.Fits.{InBodies}
use Rattle.ev_relation.proofs.CallKinds.{origin_of}
use Rattle.ev_law.proofs.Ruled.{body_ruled}
use Rattle.ev_body_steps.proofs.Bodies.{body, layout_of, saved_again}
use Rattle.ev_body_steps.proofs.ItemState.{with_registers, unblocked, opening_of, known_of, Comes, ItemState, item_state, item_comes, gone, any_registers, any_known, beyond_registers}
use Rattle.ev_body_steps.proofs.ItemLocals.{local_at, locals_behind, calls_behind}
use Rattle.ev_body_steps.proofs.ItemVisible.{goes_onward, goes_with}
use Rattle.ev_body_steps.proofs.ItemCells.{edges_stand}
use Rattle.ev_body_steps.proofs.CallCells.{KickCode, kick_code}
use Rattle.ev_body_steps.proofs.CallPlaces.{IsAtOffset, item_regs_are}
use Rattle.ev_body_steps.proofs.CallGoes.{offset_spot, offset_facts, offset_lines}
use Rattle.ev_body_steps.proofs.CallGoes as goes
use Rattle.ev_body_steps.proofs.KernelStep as step

-- ---- the comparison

-- it says whether the answer is 2
says_two : (a : ℕ) → a < 2 ^ 64 → (difference a 2).1.zero ≡ (a == 2)
unfolding difference
says_two a small = ⊎_elim (λ e. two e.1) (λ e. other e.1) (eqb_tells a 2)
  where
    two : a ≡ 2 → (wrap (a + 2 ^ 64 - 2) == 0) ≡ (a == 2)
    two e = eq-eqb (wrap (a + 2 ^ 64 - 2)) 0 (let z : (a + 2 ^ 64 - 2) % 2 ^ 64 ≡ 0 = omega arith in z) ∙ sym (eq-eqb a 2 e)

    other : (a ≡ 2 → ⊥) → (wrap (a + 2 ^ 64 - 2) == 0) ≡ (a == 2)
    other ne = ne_eqb (wrap (a + 2 ^ 64 - 2)) 0 (λ q. ne (let z : (a + 2 ^ 64 - 2) % 2 ^ 64 ≡ 0 = q in let r : a ≡ 2 = omega arith in r)) ∙ sym (ne_eqb a 2 ne)

-- ---- places between blocks

comparison_falls : (mode : Mode) → edges mode (body mode (InCall (AtOffset behind_comparison 4))) 0 < edges mode (body mode AtItem) 0
comparison_falls Fred = omega arith
comparison_falls Idt = omega arith

-- how the one behind the comparison opens, which is where it ends
comparison_opens : (mode : Mode) → Comes mode (block mode (body mode (InCall (AtOffset behind_comparison 4)))).opening behind_comparison (X 0) (X 1) (X 2)
    × ((block mode (body mode (InCall (AtOffset behind_comparison 4)))).ground.known ≡ known_of mode)
    × ((block mode (body mode (InCall (AtOffset behind_comparison 4)))).opening.flags ≡ FVar)
comparison_opens Fred = (refl, refl, refl)
comparison_opens Idt = (refl, refl, refl)

quiet_falls : (mode : Mode)
    → edges mode (body mode (InCall (AtOffset at_quiet 0))) 0 < edges mode (body mode (InCall (AtOffset behind_comparison 4))) 0
quiet_falls Fred = omega arith
quiet_falls Idt = omega arith

sending_falls : (mode : Mode) (to : ℕ) → edges mode (body mode (AtKick to)) 0 < edges mode (body mode (InCall (AtOffset behind_comparison 4))) 0
sending_falls Fred to = omega arith
sending_falls Idt to = omega arith

-- the block of what it sends with
sending_spot : (mode : Mode) (to : ℕ) → is_spot mode (body mode (AtKick to)) ≡ true
sending_spot Fred to = refl
sending_spot Idt to = refl

sending_facts : (mode : Mode) (to : ℕ) (e : Env) → FactsHold e (block mode (body mode (AtKick to))).ground.facts
sending_facts Fred to e = tt
sending_facts Idt to e = tt

sending_lines : (mode : Mode) (to : ℕ) → (block mode (body mode (AtKick to))).lines ≡ lines_at (at_base item_tag behind_branch) (numbers_code 0x830 0x40fb to)
sending_lines Fred to = refl
sending_lines Idt to = refl

sending_opens : (mode : Mode) (to : ℕ) → goes.CallOpens mode (block mode (body mode (AtKick to))) × ((block mode (body mode (AtKick to))).opening.rip
    ≡ at_base item_tag behind_branch) × ((block mode (body mode (AtKick to))).opening.regs ≡ item_regs (layout_of mode))
sending_opens Fred to = (
  record {
    beside = record { gs = refl; kernel_gs = refl; selector = refl; rsp0 = refl; cr2 = refl; blocked = refl };
    words = refl;
    known = refl;
    shared = refl;
    flags = refl;
  },
  refl,
  refl,
)
sending_opens Idt to = (
  record {
    beside = record { gs = refl; kernel_gs = refl; selector = refl; rsp0 = refl; cr2 = refl; blocked = refl };
    words = refl;
    known = refl;
    shared = refl;
    flags = refl;
  },
  refl,
  refl,
)

-- an item's state is a place
pub place_of : (mode : Mode) (e : Env) (c : Processor) (m : Memory) (offset : ℕ) (rax rcx rdx : V) (g : Flags)
    → ItemState mode e c m offset rax rcx rdx g → IsAtOffset mode e c m offset g
place_of mode e c m offset rax rcx rdx g s = record {
  long = ap length s.regs;
  rsp = ap (λ xs. get_or xs 4 0) s.regs;
  rip = s.rip;
  flags = s.flags;
  gs = s.gs;
  kernel_gs = s.kernel_gs;
  selector = s.selector;
  levels = s.levels;
  blocked = s.blocked ∙ unblocked mode;
  rest = s.rest;
  words = s.words;
}

module _ (mode : Mode) (image : Image) (built : IsBuilt image) (good : IsImage image) (facts : Facts mode image)
    (left : NatMap ℕ) (s : System) (m : Machine) (h : Stands mode image left s m) (p : ℕ) (hp : p < image.processors)
    (o : step.Top mode image built good facts left s m h p hp) (body' : Body) (is : slice_get image.bodies o.b.body ≡ Some body') where
  abbrev code : Code
  code = code_table mode image

  abbrev c : Processor
  c = s.cpus p

  abbrev b : BodyContext
  b = o.b

  abbrev on : StandsOn mode image p (left p) s (processor m p)
  on = step.on mode image built good facts left s m h p hp

  abbrev env : ℕ → (extra v : ℕ → ℕ) → Flags → Env
  env ss extra v f = here mode p o.κ o.σ ss o.w extra v f

  abbrev Stood : ℕ → BodyContext → Processor → Memory → Type 0
  Stood now b cpu mem = Active mode image p now o.κ o.σ on.frame (switches_at mode image on.switching o.below) (first_fill on.fills) o.w b cpu mem

  -- At the item: the comparison is an edge.
  pub to_comparison : first_fill on.fills ≡ None → (act : Stood on.own b c s.memory) (ss : ℕ) → IsKernelSs mode ss → (extra v : ℕ → ℕ) (f : Flags)
      → At code (block mode (body mode AtItem)) 0 (env ss extra v f) c s.memory → InItem mode image (origin_of o.κ) (env ss extra v f) o.w b s.memory.words
      → extra 20 ≡ item_place mode image b.body b.place → edges mode (body mode AtItem) 0 ≤ on.own
      → (to r : ℕ) → item_at (Some body') b.place ≡ Some (Kick to r) → Simulated mode image left s m p
  unfolding has_operands alu is_return spelling four_bytes
  to_comparison unfilled act ss ss_is extra v f at means place enough to r hi =
      let B : Block = block mode (body mode AtItem) in
      let e : Env = env ss extra v f in
      let a : ℕ = item_address mode b.body body' b.place in
      let agrees : Agrees e B.ground B.opening c s.memory = at_end code B 0 B.opening refl e c s.memory at in
      let f' : Flags = eval_flags e B.opening.flags in
      let state : ItemState mode e c s.memory 0 (X 0) (X 1) (X 2) f'
      = item_state mode e B.ground B.opening c s.memory 0 (X 0) (X 1) (X 2) refl (item_comes mode) agrees in
      let base : extra 20 ≡ a = place ∙ ap (address_of_item mode b.body b.place) is in
      let range : InBodies extra = subst (λ y. (0xffffffff82000000 ≤ y) × (y + 0x100 ≤ M)) (sym base) (facts.item_range b.body b.place body' is) in
      let there : goes.AtPlace mode image built good facts left s m h p hp o ss extra v f 0 = record {
        unfilled = unfilled;
        act = act;
        ss_is = ss_is;
        kernel = ap is_user agrees.rest;
        range = range;
        near = omega arith;
        flags = f';
        state = place_of mode e c s.memory 0 (X 0) (X 1) (X 2) f' state;
      } in
      let cells : KickCode code a (item_address mode b.body body' (suc b.place)) to r = kick_code mode image facts b.body body' is b.place to r hi in
      let rip : c.rip ≡ a = goes.rip_is mode image built good facts left s m h p hp o ss extra v f 0 there ∙ (let z : extra 20 + 0 ≡ a = omega arith in z) in
      let next : ℕ = a + 7 in
      let found : code c.rip ≡ Some (edge_cell (AluImm Cmp r (pos 2)) next) = ap code rip ∙ cells.test.0 in
      let is_local : (6 ≤ r) × (r < 14) = bounds r (and_right (is_word to) _ ((body_ruled image good built.accepted.1.kept b.body body' is).operands b.place
      (Kick to r) hi).2) in
      let value : register c r ≡ local b r
      = local_at mode image e c s.memory 0 (X 0) (X 1) (X 2) f' state b means.locals r is_local.0 is_local.1 in
      let answer_small : local b r < 2 ^ 64 = (subst AreOfWords o.bodies (h.numbers.each p).bodies).0.locals (r - 6) in
      let st : Status = (difference (register c r) 2).1 in
      let g : Flags = record f' { status = st } in
      let leads : Leads c s.memory (AluImm Cmp r (pos 2)) (gone c c.regs g next) s.memory.words
      = goes_with c s.memory (AluImm Cmp r (pos 2)) f' c.regs next s.memory.words st state.flags
      (subst (λ xs. Leads c s.memory (AluImm Cmp r (pos 2)) (in_status (onward c xs next) st) s.memory.words) (set-get_or c.regs r 0)
      ((singles c s.memory next).computes_number Cmp r (pos 2)
      (goes.at_instruction mode image built good facts left s m h p hp o ss extra v f 0 there (AluImm Cmp r (pos 2)) next
      (let z : next ≡ extra 20 + 0 + 7 = omega arith in z)))) in
      let u : Env = env ss extra (with_registers c.regs v) g in
      let long : length c.regs ≡ 16 = there.state.long in
      let spot_at : At code (block mode (body mode (InCall (AtOffset behind_comparison 4)))) 0 u (gone c c.regs g next) s.memory
      = goes.call_stands mode image built good facts left s m h p hp o ss extra v f 0 there (AtOffset behind_comparison 4) refl
      (offset_spot mode behind_comparison 4 (omega arith)) extra v refl refl refl refl c.regs g next behind_comparison s.memory.words long refl
      (let high = range.1 in let z : next ≡ (extra 20 + 7) % M = omega arith in z) refl
      (item_regs_are mode u c.regs v refl long (there.state.rsp ∙ (any_registers mode p o.κ o.σ ss o.w o.w extra extra v v f g c.regs refl refl refl).rsp))
      state.words (any_known mode p o.κ o.σ ss o.w extra extra v f g c.regs s.memory.words state.words) (offset_facts mode behind_comparison 4 u)
      (offset_lines mode code behind_comparison 4 u) in
      let falls = comparison_falls mode in
      goes.goes_to mode image built good facts left s m h p hp o ss extra v f 0 there (AtOffset behind_comparison 4) refl (AluImm Cmp r (pos 2)) next found refl
      c.regs g long (step.masks_flags mode image built good facts left s m h p hp o f' state.flags) leads extra v spot_at
      (BehindComparison refl refl to (local b r == 2) (record {
        code = record {
          range = range;
          saved = saved_again mode image (origin_of o.κ) e u o.w (beyond_registers c.regs v) refl refl refl means.saved;
          locals = locals_behind mode image e c s.memory 0 (X 0) (X 1) (X 2) f' state b means.locals None tt;
          calls = calls_behind mode image e c s.memory 0 (X 0) (X 1) (X 2) f' state b means.locals None tt s.memory.words (λ k l j lj. refl) means.calls;
        };
        place = place;
        s = r;
        item = ap (λ q. item_at q b.place) is ∙ hi;
        answer = refl;
      }) (ap (λ n. (difference n 2).1.zero) value ∙ says_two (local b r) answer_small))
      (omega arith) (step.outside mode image built good facts left s m h p hp o act)
    where
      bounds : (n : ℕ) → is_local n ≡ true → (6 ≤ n) × (n < 14)
      bounds n q = (leb-true 6 n (and_left _ _ q), ltb-true n 14 (and_right (nat_le 6 n) _ q))

  -- Behind the comparison, at the branch.
  record AtBranch (ss : ℕ) (extra v : ℕ → ℕ) (f : Flags) (sends : Bool) : Type 0 where
    pub there : goes.AtPlace mode image built good facts left s m h p hp o ss extra v f behind_comparison
    pub code_is : InCode mode image (origin_of o.κ) (env ss extra (with_registers c.regs v) there.flags) o.w b s.memory.words
    pub interrupts : there.flags.interrupts ≡ b.interrupts
    pub registers : c.regs ≡ map (eval (env ss extra (with_registers c.regs v) there.flags)) (item_regs (layout_of mode))
    pub known : Known (env ss extra (with_registers c.regs v) there.flags) (known_of mode) s.memory.words (opening_of mode).words
    pub next : ℕ
    pub next_is : next ≡ extra 20 + behind_branch
    pub found : code c.rip ≡ Some (edge_cell (Jcc Nz (pos 37)) next)
    pub leads : (y : ℕ) → (if sends then next else extra 20 + at_quiet) ≡ y → Leads c s.memory (Jcc Nz (pos 37)) (gone c c.regs there.flags y) s.memory.words

  at_branch : first_fill on.fills ≡ None → (act : Stood on.own b c s.memory) (ss : ℕ) → IsKernelSs mode ss → (extra v : ℕ → ℕ) (f : Flags)
      → At code (block mode (body mode (InCall (AtOffset behind_comparison 4)))) 0 (env ss extra v f) c s.memory
      → (to : ℕ) (sends : Bool) → Kicking mode image (origin_of o.κ) (env ss extra v f) o.w b to sends s.memory.words → f.status.zero ≡ sends
      → AtBranch ss extra v f sends
  unfolding eval_flags spelling four_bytes holds
  at_branch unfilled act ss ss_is extra v f at to sends means zero =
      let e : Env = env ss extra v f in
      let B : Block = block mode (body mode (InCall (AtOffset behind_comparison 4))) in
      let a : ℕ = item_address mode b.body body' b.place in
      let base : extra 20 ≡ a = means.place ∙ ap (address_of_item mode b.body b.place) is in
      let range : InBodies extra = means.code.range in
      let low = range.0 in let high = range.1 in
      let opens = comparison_opens mode in
      let agrees : Agrees e B.ground B.opening c s.memory = at_end code B 0 B.opening refl e c s.memory at in
      let g : Flags = eval_flags e B.opening.flags in
      let same : g ≡ f = ap (eval_flags e) opens.2 in
      let state : ItemState mode e c s.memory behind_comparison (X 0) (X 1) (X 2) g
      = item_state mode e B.ground B.opening c s.memory behind_comparison (X 0) (X 1) (X 2) opens.1 opens.0 agrees in
      let there : goes.AtPlace mode image built good facts left s m h p hp o ss extra v f behind_comparison = record {
        unfilled = unfilled;
        act = act;
        ss_is = ss_is;
        kernel = ap is_user agrees.rest;
        range = range;
        near = omega arith;
        flags = g;
        state = place_of mode e c s.memory behind_comparison (X 0) (X 1) (X 2) g state;
      } in
      let u : Env = env ss extra (with_registers c.regs v) g in
      let cells : KickCode code a (item_address mode b.body body' (suc b.place)) to means.s
      = kick_code mode image facts b.body body' is b.place to means.s (ap (λ q. item_at q b.place) (sym is) ∙ means.item) in
      let rip : c.rip ≡ a + 7 = goes.rip_is mode image built good facts left s m h p hp o ss extra v f behind_comparison there ∙ ap (λ y. y + 7) base in
      let next : ℕ = a + 7 + 6 in
      let quiet : displaced next (pos 37) ≡ extra 20 + at_quiet = (let q : (a + 7 + 6 + 37) % 2 ^ 64 ≡ extra 20 + 50 = omega arith in q) in
      let fine : is_canonical (displaced next (pos 37)) ≡ true = ap is_canonical quiet ∙ upper_canonical (extra 20 + 50) (omega arith) (omega arith) in record {
        there = there;
        code_is = record {
          range = range;
          saved = saved_again mode image (origin_of o.κ) e u o.w (beyond_registers c.regs v) refl refl refl means.code.saved;
          locals = locals_behind mode image e c s.memory behind_comparison (X 0) (X 1) (X 2) g state b means.code.locals None tt;
          calls = calls_behind mode image e c s.memory behind_comparison (X 0) (X 1) (X 2) g state b means.code.locals None tt s.memory.words
              (λ k l j lj. refl) means.code.calls;
        };
        interrupts = step.masks_flags mode image built good facts left s m h p hp o g state.flags;
        registers = item_regs_are mode u c.regs v refl there.state.long
            (there.state.rsp ∙ (any_registers mode p o.κ o.σ ss o.w o.w extra extra v v f g c.regs refl refl refl).rsp);
        known = any_known mode p o.κ o.σ ss o.w extra extra v f g c.regs s.memory.words state.words;
        next = next;
        next_is = (let z : a + 7 + 6 ≡ extra 20 + 13 = omega arith in z);
        found = ap code rip ∙ cells.test.1.0;
        leads = λ y q. goes_onward c s.memory (Jcc Nz (pos 37)) g c.regs y s.memory.words state.flags
            (subst (λ n. Leads c s.memory (Jcc Nz (pos 37)) (onward c c.regs n) s.memory.words)
            (ap (λ n. if holds Nz (flags_of n).status then displaced next (pos 37) else next) state.flags
            ∙ ap (λ (k : Flags). if holds Nz k.status then displaced next (pos 37) else next) (flags_of-flags_word g ∙ same)
            ∙ ap (λ t. if not t then displaced next (pos 37) else next) zero ∙ ap (λ n. if not sends then n else next) quiet
            ∙ turned sends next (extra 20 + 50) ∙ q)
            ((singles c s.memory next).branches Nz (pos 37)
            (goes.at_instruction mode image built good facts left s m h p hp o ss extra v f behind_comparison there (Jcc Nz (pos 37)) next
            (let z : next ≡ extra 20 + 7 + 6 = omega arith in z)) fine));
      }
    where
      turned : (t : Bool) (x y : ℕ) → (if not t then y else x) ≡ (if t then x else y)
      turned true x y = refl
      turned false x y = refl

  -- The branch is an edge, to what it sends with or to what is visible where it sends nothing.
  pub to_branch : first_fill on.fills ≡ None → (act : Stood on.own b c s.memory) (ss : ℕ) → IsKernelSs mode ss → (extra v : ℕ → ℕ) (f : Flags)
      → At code (block mode (body mode (InCall (AtOffset behind_comparison 4)))) 0 (env ss extra v f) c s.memory
      → (to : ℕ) (sends : Bool) → Kicking mode image (origin_of o.κ) (env ss extra v f) o.w b to sends s.memory.words → f.status.zero ≡ sends
      → edges mode (body mode (InCall (AtOffset behind_comparison 4))) 0 ≤ on.own → Simulated mode image left s m p
  unfolding is_return spelling four_bytes
  to_branch unfilled act ss ss_is extra v f at to true means zero enough =
      let z = at_branch unfilled act ss ss_is extra v f at to true means zero in
      let u : Env = env ss extra (with_registers c.regs v) z.there.flags in
      let a : ℕ = item_address mode b.body body' b.place in
      let base : extra 20 ≡ a = means.place ∙ ap (address_of_item mode b.body b.place) is in
      let high = means.code.range.1 in
      let opens = sending_opens mode to in
      let cells : KickCode code a (item_address mode b.body body' (suc b.place)) to means.s
      = kick_code mode image facts b.body body' is b.place to means.s (ap (λ q. item_at q b.place) (sym is) ∙ means.item) in
      let lines : Lines code u (block mode (body mode (AtKick to))).lines = subst (Lines code u) (sym (sending_lines mode to))
      (edges_stand code u a behind_branch (numbers_code 0x830 0x40fb to) base (omega arith) cells.numbers) in
      let next_is = z.next_is in
      let stands = goes.spot_stands mode image built good facts left s m h p hp o ss extra v f behind_comparison z.there (AtKick to) opens.0
      (sending_spot mode to) extra v refl refl refl refl c.regs z.there.flags z.next behind_branch s.memory.words z.there.state.long refl
      (let q : z.next ≡ (extra 20 + 13) % M = omega arith in q) opens.1 (z.registers ∙ ap (map (eval u)) (sym opens.2)) z.there.state.words z.known
      (sending_facts mode to u) lines in
      let falls = sending_falls mode to in
      goes.goes_to_spot mode image built good facts left s m h p hp o ss extra v f behind_comparison z.there (AtKick to) refl (Jcc Nz (pos 37)) z.next z.next
      z.found refl c.regs z.there.flags z.there.state.long z.interrupts (z.leads z.next refl) extra v stands
      (record { code = z.code_is; place = means.place; s = means.s; item = means.item; answer = means.answer })
      (omega arith) (step.outside mode image built good facts left s m h p hp o act)
  to_branch unfilled act ss ss_is extra v f at to false means zero enough =
      let z = at_branch unfilled act ss ss_is extra v f at to false means zero in
      let u : Env = env ss extra (with_registers c.regs v) z.there.flags in
      let high = means.code.range.1 in
      let stands = goes.call_stands mode image built good facts left s m h p hp o ss extra v f behind_comparison z.there (AtOffset at_quiet 0) refl
      (offset_spot mode at_quiet 0 (omega arith)) extra v refl refl refl refl c.regs z.there.flags (extra 20 + at_quiet) at_quiet s.memory.words
      z.there.state.long refl (let q : extra 20 + 50 ≡ (extra 20 + 50) % M = omega arith in q) refl z.registers z.there.state.words z.known
      (offset_facts mode at_quiet 0 u) (offset_lines mode code at_quiet 0 u) in
      let falls = quiet_falls mode in
      goes.goes_to_spot mode image built good facts left s m h p hp o ss extra v f behind_comparison z.there (InCall (AtOffset at_quiet 0)) refl
      (Jcc Nz (pos 37)) z.next (extra 20 + at_quiet) z.found refl c.regs z.there.flags z.there.state.long z.interrupts (z.leads (extra 20 + at_quiet) refl)
      extra v stands
      (AtQuiet refl refl to (record { code = z.code_is; place = means.place; s = means.s; item = means.item; answer = means.answer }))
      (omega arith) (step.outside mode image built good facts left s m h p hp o act)
