-- Where the code of a `call` ends: the next item opens without an instruction, with the answer in its local.
use Rattle.std.proofs.Common.{◌≡◌, ℕ, suc, ◌+◌, ◌-◌, ◌%◌, ◌<◌, ◌≤◌, false, List, [], ◌∷◌, get_or, set, map, length, Some, None, refl, sym, ap, ◌∙◌, subst, arith}
use Rattle.std.specs.Prelude.{slice_get, is_some}
use Rattle.std.proofs.lemmas.List.{get_or-set_other, length-set, map-set}
use Rattle.ev_isa.specs.Word.{NatMap}
use Rattle.ev_isa.specs.Flags.{Flags}
use Rattle.ev_isa.specs.declared.mode.Mode.{Mode}
use Rattle.ev_isa.specs.declared.mode.Mode.TheVariants.{Idt, Fred}
use Rattle.ev_body.specs.declared.body.Body.{Body}
use Rattle.ev_body.specs.declared.image.Image.{Image}
use Rattle.ev_body.specs.WellFormed.{IsImage}
use Rattle.ev_state.specs.Processor.{Processor}
use Rattle.ev_mem.specs.Memory.{Memory}
use Rattle.ev_abstract.specs.Context.{BodyContext}
use Rattle.ev_abstract.specs.Machine.{Machine, processor}
use Rattle.ev_abstract.specs.Run.{item_at}
use Rattle.ev_concrete.specs.ConcreteRun.{System}
use Rattle.ev_built.specs.Built.{IsBuilt}
use Rattle.ev_symbolic.specs.Value.{M, V, K}
use Rattle.ev_symbolic.specs.Names.{top_less}
use Rattle.ev_symbolic.specs.Agrees.{Env, Code, Stands as Lines, eval, At}
use Rattle.ev_activation.specs.Seat.{Kind, Seat}
use Rattle.ev_blocks.specs.Shapes.{FredFrame, IdtFrame, body_bytes}
use Rattle.ev_blocks.specs.Calls.{CallSpot, BehindBusy, call_end, fills_record}
use Rattle.ev_blocks.specs.Items.{AtItem, InCall}
use Rattle.ev_blocks.specs.Blocks.{block, edges}
use Rattle.ev_blocks.specs.Blocks as blocks
use Rattle.ev_blocks.proofs.CallFalls.{call_edges}
use Rattle.ev_paths.specs.CallEnds.{CallComes, item_regs}
use Rattle.ev_paths.proofs.Locals.{from_six}
use Rattle.ev_table.specs.Table.{code_table}
use Rattle.ev_relation.specs.Filling.{first_fill}
use Rattle.ev_relation.specs.Active.{item_place, address_of_item, here, IsKernelSs, SavedOf, HoldsCalls, FlagsAre, InItem, Answering, Active}
use Rattle.ev_relation.specs.Relation.{StandsOn, Stands, switches_at}
use Rattle.ev_relation.proofs.CallKinds.{origin_of, plain_knows}
use Rattle.ev_relation.proofs.Facts.{Facts}
use Rattle.ev_relation.proofs.ModeFacts.{is_fred}
use Rattle.ev_body_steps.proofs.Bodies.{body, layout_of, at_the_item, item_opening, means_at, saved_again}
use Rattle.ev_body_steps.proofs.CallCells.{call_code}
use Rattle.ev_body_steps.proofs.CallGoes.{CallOpens, ends_of}
use Rattle.ev_body_steps.proofs.CallGoes as goes
use Rattle.ev_body_steps.proofs.CallPlaces.{IsAtOffset, begins_offset, item_regs_are, same_rsp}
use Rattle.ev_body_steps.proofs.ItemState.{with_registers, opening_of, any_known, beyond_registers, gone}
use Rattle.ev_body_steps.proofs.ItemWait.{Opens}
use Rattle.ev_body_steps.proofs.KernelStep as step

-- what the block of an item says
item_opens : (mode : Mode) → CallOpens mode (block mode (body mode AtItem))
item_opens Fred = record { beside = begins_offset Fred; words = refl; known = refl; shared = refl; flags = refl }
item_opens Idt = record { beside = begins_offset Idt; words = refl; known = refl; shared = refl; flags = refl }

item_lines : (mode : Mode) (code : Code) (u : Env) → Lines code u (block mode (body mode AtItem)).lines
item_lines Fred code u = tt
item_lines Idt code u = tt

opening_regs : (mode : Mode) → (opening_of mode).regs ≡ item_regs (layout_of mode)
opening_regs Fred = refl
opening_regs Idt = refl

-- so many bytes behind an item's beginning, where the next one begins
at_next_item : (mode : Mode) (p : ℕ) (κ : Kind) (σ : Seat) (ss : ℕ) (w : Processor) (extra extra' v : ℕ → ℕ) (f : Flags) (c : Processor) (m : Memory)
    (offset : ℕ) (g : Flags) → IsAtOffset mode (here mode p κ σ ss w extra v f) c m offset g → extra 20 + offset ≡ extra' 20
    → IsAtOffset mode (here mode p κ σ ss w extra' v f) c m 0 g
unfolding eval
at_next_item Fred p κ σ ss w extra extra' v f c m offset g s e = record {
  long = s.long;
  rsp = s.rsp;
  rip = s.rip ∙ ap (λ n. n % M) (let q : extra 20 + offset ≡ extra' 20 + 0 = omega arith in q);
  flags = s.flags;
  gs = s.gs;
  kernel_gs = s.kernel_gs;
  selector = s.selector;
  levels = s.levels;
  blocked = s.blocked;
  rest = s.rest;
  words = s.words;
}
at_next_item Idt p κ σ ss w extra extra' v f c m offset g s e = record {
  long = s.long;
  rsp = s.rsp;
  rip = s.rip ∙ ap (λ n. n % M) (let q : extra 20 + offset ≡ extra' 20 + 0 = omega arith in q);
  flags = s.flags;
  gs = s.gs;
  kernel_gs = s.kernel_gs;
  selector = s.selector;
  levels = s.levels;
  blocked = s.blocked;
  rest = s.rest;
  words = s.words;
}

busy_falls : (mode : Mode) (r : ℕ)
    → edges mode (body mode AtItem) 0 ≤ edges mode (body mode (InCall (BehindBusy r))) (block mode (body mode (InCall (BehindBusy r)))).steps
busy_falls Fred r = (call_edges Fred FredFrame).busy r
busy_falls Idt r = (call_edges Idt IdtFrame).busy r

-- the locals among registers
abbrev locals_of : List ℕ → List ℕ
locals_of xs = get_or xs 6 0 ∷ get_or xs 7 0 ∷ get_or xs 8 0 ∷ get_or xs 9 0 ∷ get_or xs 10 0 ∷ get_or xs 11 0 ∷ get_or xs 12 0 ∷ get_or xs 13 0 ∷ []

-- ---- an answer in a local

-- the registers behind it
abbrev pub answer_regs : Mode → V → (r n : ℕ) → List V
answer_regs mode a r n = set (set (item_regs (layout_of mode)) 0 a) r (K n)

module _ (mode : Mode) (e : Env) (a : V) (r n : ℕ) (lo : 6 ≤ r) (hi : r < 14) where
  abbrev answered : List V
  answered = answer_regs mode a r n

  abbrev before : List ℕ
  before = map (eval e) (set (item_regs (layout_of mode)) 0 a)

  answered_is : map (eval e) answered ≡ set before r n
  unfolding eval
  answered_is = map-set (eval e) (set (item_regs (layout_of mode)) 0 a) r (K n)

  answered_long : length answered ≡ 16
  answered_long = length-set (set (item_regs (layout_of mode)) 0 a) r (K n)

  answered_rsp : get_or (map (eval e) answered) 4 0 ≡ eval e (top_less (body_bytes (layout_of mode)))
  answered_rsp = ap (λ (xs : List ℕ). get_or xs 4 0) answered_is ∙ get_or-set_other before r 4 n 0 (λ q. omega arith)

  answered_calls : get_or (map (eval e) answered) 14 0 ≡ e.var 14
  unfolding eval
  answered_calls = ap (λ (xs : List ℕ). get_or xs 14 0) answered_is ∙ get_or-set_other before r 14 n 0 (λ q. omega arith)

  answered_locals : set (e.var 6 ∷ e.var 7 ∷ e.var 8 ∷ e.var 9 ∷ e.var 10 ∷ e.var 11 ∷ e.var 12 ∷ e.var 13 ∷ []) (r - 6) n ≡ locals_of (map (eval e) answered)
  unfolding eval
  answered_locals = from_six (λ k. set (locals_of before) (k - 6) n ≡ locals_of (set before k n)) refl refl refl refl refl refl refl refl r lo hi
      ∙ ap locals_of (sym answered_is)

module _ (mode : Mode) (image : Image) (built : IsBuilt image) (good : IsImage image) (facts : Facts mode image)
    (left : NatMap ℕ) (s : System) (m : Machine) (h : Stands mode image left s m) (p : ℕ) (hp : p < image.processors)
    (o : step.Top mode image built good facts left s m h p hp) (body' : Body) (is : slice_get image.bodies o.b.body ≡ Some body') where
  abbrev code : Code
  code = code_table mode image

  abbrev c : Processor
  c = s.cpus p

  abbrev b : BodyContext
  b = o.b

  abbrev on : StandsOn mode image p (left p) s (processor m p)
  on = step.on mode image built good facts left s m h p hp

  abbrev env : ℕ → (extra v : ℕ → ℕ) → Flags → Env
  env ss extra v f = here mode p o.κ o.σ ss o.w extra v f

  abbrev Stood : ℕ → BodyContext → Processor → Memory → Type 0
  Stood now b cpu mem = Active mode image p now o.κ o.σ on.frame (switches_at mode image on.switching o.below) (first_fill on.fills) o.w b cpu mem

  abbrev ItemOpens : ℕ → (ℕ → ℕ) → Type 0
  ItemOpens ss v = Opens mode image built good facts left s m h p hp o body' is ss v

  -- Where an activation is at the next item's beginning, with its context's locals and calls, that opens.
  pub next_opens : (ss : ℕ) (extra v : ℕ → ℕ) (f : Flags) (offset : ℕ)
      → goes.AtPlace mode image built good facts left s m h p hp o ss extra v f offset → SavedOf mode image (origin_of o.κ) (env ss extra v f) o.w
      → b.locals ≡ locals_of c.regs → HoldsCalls mode image s.memory.words (get_or c.regs 14 0) b.calls
      → extra 20 + offset ≡ item_place mode image b.body b.place → b.flags ≡ None → edges mode (body mode AtItem) 0 ≤ on.own → ItemOpens ss v
  next_opens ss extra v f offset a saved locals calls next unknown enough =
      let way = at_the_item mode in
      let there : ℕ = item_place mode image b.body b.place in
      let extra' : ℕ → ℕ = λ i. there in
      let v' : ℕ → ℕ = with_registers c.regs v in
      let g : Flags = a.flags in
      let u : Env = env ss extra' v' g in
      let range = step.range mode image built good facts left s m h p hp o body' is in
      let high = range.1 in
      let state = at_next_item mode p o.κ o.σ ss o.w extra extra' v f c s.memory offset g a.state next in
      let a' : goes.AtPlace mode image built good facts left s m h p hp o ss extra' v f 0 = record {
        unfilled = a.unfilled;
        act = a.act;
        ss_is = a.ss_is;
        kernel = a.kernel;
        range = range;
        near = omega arith;
        flags = g;
        state = state;
      } in
      let rip : c.rip ≡ there = goes.rip_is mode image built good facts left s m h p hp o ss extra' v f 0 a'
      ∙ (let q : item_place mode image b.body b.place + 0 ≡ item_place mode image b.body b.place = omega arith in q) in
      let stack = same_rsp mode p o.κ o.σ ss o.w extra' v f c s.memory 0 g state extra' v refl refl refl in
      let opened : At code (block mode (body mode AtItem)) 0 u (gone c c.regs g there) s.memory
      = goes.spot_stands mode image built good facts left s m h p hp o ss extra' v f 0 a' AtItem (item_opens mode) way.over extra' v refl refl refl refl
      c.regs g there 0 s.memory.words state.long refl (omega arith) (item_opening mode).rip
      (item_regs_are mode u c.regs v refl state.long stack ∙ ap (map (eval u)) (sym (opening_regs mode))) state.words
      (any_known mode p o.κ o.σ ss o.w extra' extra' v f g c.regs s.memory.words state.words) (way.told u) (item_lines mode code u) in
      let flags = state.flags in
      let clear = state.blocked in
      let same : c ≡ gone c c.regs g there = λ i. record c { rip = rip i; flags = flags i; sti_blocked = clear i } in
      let at_next : At code (block mode (body mode AtItem)) 0 u c s.memory
      = subst (λ y. At code (block mode (body mode AtItem)) 0 u y s.memory) (sym same) opened in
      let plain = step.plain_kind mode image built good facts left s m h p hp o in
      let item : InItem mode image (origin_of o.κ) u o.w b s.memory.words = record {
        saved = saved_again mode image (origin_of o.κ) (env ss extra v f) u o.w (beyond_registers c.regs v) refl refl refl saved;
        locals = locals;
        flags = subst (λ q. FlagsAre mode image q g) (sym unknown) tt;
        calls = calls;
      } in record {
        flags = g;
        next = record {
          extra = extra';
          place = refl;
          means = item;
          at = at_next;
          enough = enough;
          act = record {
            stands = record {
              spot = body mode AtItem;
              k = 0;
              extra = extra';
              var = v';
              flags = g;
              ss = ss;
              ss_is = a.ss_is;
              masked = step.masks_flags mode image built good facts left s m h p hp o g state.flags;
              within = omega arith;
              enough = enough;
              at = at_next;
              long = state.long;
            };
            switches = way.off ∙ sym o.off;
            fills = sym (ap is_some a.unfilled);
            knows = plain_knows mode o.κ on.frame plain (blocks.holds (body mode AtItem));
            means = means_at mode image o.κ plain AtItem u o.w b (first_fill on.fills) s.memory.words (item, refl);
          };
        };
      }

  -- At the end of a block that leaves an answer in the local of a `call`.
  pub answer_opens : first_fill on.fills ≡ None → (act : Stood on.own b c s.memory) (ss : ℕ) → IsKernelSs mode ss → (extra v : ℕ → ℕ) (f : Flags)
      → (s' : CallSpot) → fills_record s' ≡ false
      → At code (block mode (body mode (InCall s'))) (block mode (body mode (InCall s'))).steps (env ss extra v f) c s.memory → (a : V) (r n : ℕ)
      → CallComes (is_fred mode) (layout_of mode) s' call_end (answer_regs mode a r n)
      → Answering mode image (origin_of o.κ) (env ss extra v f) o.w b r n s.memory.words → edges mode (body mode AtItem) 0 ≤ on.own → ItemOpens ss v
  answer_opens unfilled act ss ss_is extra v f s' off at a r n comes y enough =
      let e : Env = env ss extra v f in
      let lo = y.is_local.0 in
      let hi = y.is_local.1 in
      let z = goes.behind_block mode image built good facts left s m h p hp o s' off unfilled act ss ss_is extra v f y.range at call_end (omega arith)
      (answer_regs mode a r n) comes (answered_long mode e a r n lo hi) (answered_rsp mode e a r n lo hi) in
      let cells = call_code mode image facts b.body body' is y.n y.site y.to y.func r (ap (λ q. item_at q y.n) (sym is) ∙ y.code.0) in
      let next : extra 20 + call_end ≡ item_place mode image b.body b.place
      = ap (λ k. k + call_end) (y.code.1 ∙ ap (address_of_item mode b.body y.n) is) ∙ cells.follows
      ∙ sym (ap (address_of_item mode b.body (suc y.n)) is) ∙ ap (item_place mode image b.body) (sym y.next) in
      next_opens ss extra v f call_end z.0 y.saved (y.locals ∙ answered_locals mode e a r n lo hi ∙ ap locals_of (sym z.1))
      (subst (λ k. HoldsCalls mode image s.memory.words k b.calls)
      (sym (ap (λ (xs : List ℕ). get_or xs 14 0) z.1 ∙ answered_calls mode e a r n lo hi)) y.calls) next y.flags enough

  -- Where the record was in use.
  pub busy_opens : first_fill on.fills ≡ None → (act : Stood on.own b c s.memory) (r ss : ℕ) → IsKernelSs mode ss → (extra v : ℕ → ℕ) (f : Flags)
      → At code (block mode (body mode (InCall (BehindBusy r)))) (block mode (body mode (InCall (BehindBusy r)))).steps (env ss extra v f) c s.memory
      → Answering mode image (origin_of o.κ) (env ss extra v f) o.w b r 0 s.memory.words
      → edges mode (body mode (InCall (BehindBusy r))) (block mode (body mode (InCall (BehindBusy r)))).steps ≤ on.own → ItemOpens ss v
  busy_opens unfilled act r ss ss_is extra v f at y enough =
      let falls = busy_falls mode r in
      answer_opens unfilled act ss ss_is extra v f (BehindBusy r) refl at (K 1) r 0 ((ends_of mode).busy r) y (omega arith)
