-- `call` with its record filled: an edge to a place where it is filled still; and the jump behind an exchange that failed, back to the load of the head.
use Rattle.std.proofs.Common.{◌≡◌, not, ℕ, ◌+◌, ◌-◌, ◌%◌, ◌^◌, ◌<◌, ◌≤◌, false, true, List, [], ◌∷◌, ◌++◌, get_or, set, map, length, Some, refl, sym, ap, ◌∙◌, subst, arith}
use Rattle.std.specs.Prelude.{negsuc, slice_get, is_some, if◌then◌else◌}
use Rattle.std.proofs.lemmas.List.{get_or-set_other, length-set, set-get_or}
use Rattle.ev_isa.specs.Word.{NatMap, displaced, is_canonical}
use Rattle.ev_isa.specs.Flags.{Flags, flags_of, holds}
use Rattle.ev_isa.specs.Spelling.{spelling, four_bytes}
use Rattle.ev_isa.specs.declared.instruction.Ins.TheVariants.{Jcc}
use Rattle.ev_isa.specs.declared.mode.Mode.{Mode}
use Rattle.ev_isa.specs.declared.mode.Mode.TheVariants.{Idt, Fred}
use Rattle.ev_body.specs.declared.item.Item.TheVariants.{Call}
use Rattle.ev_body.specs.declared.body.Body.{Body}
use Rattle.ev_body.specs.declared.image.Image.{Image}
use Rattle.ev_body.specs.WellFormed.{IsImage}
use Rattle.ev_listing.specs.AddressMap.{pcpu, head_offset, record_address}
use Rattle.ev_listing.specs.Expansion.{item_address}
use Rattle.ev_state.specs.Processor.{Processor, is_user}
use Rattle.ev_state.proofs.FlagLaws.{kept, flags_of-flags_word}
use Rattle.ev_mem.specs.Memory.{Memory}
use Rattle.ev_abstract.specs.Context.{BodyContext}
use Rattle.ev_abstract.specs.Machine.{Machine, processor}
use Rattle.ev_abstract.specs.Machine as abstract
use Rattle.ev_abstract.specs.Run.{item_at}
use Rattle.ev_concrete.specs.ConcreteRun.{System, is_return, is_seen}
use Rattle.ev_built.specs.Built.{IsBuilt}
use Rattle.ev_symbolic.specs.Value.{M, K, P}
use Rattle.ev_symbolic.specs.State.{Block, Word}
use Rattle.ev_symbolic.specs.Names.{record_tag, top_less, item_tag}
use Rattle.ev_symbolic.specs.Single.{IsAt, Leads, onward}
use Rattle.ev_symbolic.specs.Agrees.{Env, Code, Stands as Lines, edge_cell, eval, eval_flags, Known, Agrees, At, Cell}
use Rattle.ev_symbolic.proofs.Single.{singles}
use Rattle.ev_symbolic.proofs.Blocks.{at_end}
use Rattle.ev_distances.specs.Form.{win_of, InRecord}
use Rattle.ev_blocks.specs.Shapes.{FredFrame, IdtFrame, body_bytes}
use Rattle.ev_blocks.specs.Calls.{CallSpot, AtRecord, BehindWait, BehindBusy, BehindCall, AtTake, BehindTake, AtTurn, BehindTurn, AtTaken, AtFinish, BehindNext, AtOffset, fills_record, AtFill, AtHead, AtLink, at_head, filled_words, block_of_call, BehindFailure, behind_exchange, at_answer}
use Rattle.ev_blocks.specs.Items.{InCall}
use Rattle.ev_blocks.specs.Blocks.{block, edges}
use Rattle.ev_blocks.specs.Blocks as blocks
use Rattle.ev_blocks.proofs.CallFalls.{call_edges}
use Rattle.ev_paths.specs.CallEnds.{item_regs}
use Rattle.ev_table.specs.Table.{code_table}
use Rattle.ev_relation.specs.Filling.{first_fill}
use Rattle.ev_relation.specs.Active.{address_of_item, here, IsKernelSs, InCode, InCallSpot, Active, HasPlace, Filled}
use Rattle.ev_relation.specs.Relation.{StandsOn, Stands, switches_at}
use Rattle.ev_relation.specs.Step.{Simulated}
use Rattle.ev_relation.proofs.CallHolders.{first_free}
use Rattle.ev_relation.proofs.CallKinds.{origin_of, plain_knows}
use Rattle.ev_relation.proofs.Facts.{Facts}
use Rattle.ev_relation.proofs.Fills.{is_fill_spot}
use Rattle.ev_relation.proofs.ModeFacts.{is_fred}
use Rattle.ev_body_steps.proofs.Bodies.{body, layout_of, means_at}
use Rattle.ev_body_steps.proofs.CallCells.{call_code}
use Rattle.ev_body_steps.proofs.CallFirst.{AreKept, in_code}
use Rattle.ev_body_steps.proofs.CallGoes.{block_is}
use Rattle.ev_body_steps.proofs.CallPlaces.{IsAtOffset, offset_from, item_regs_are, told_too, same_rsp}
use Rattle.ev_body_steps.proofs.CallSteps as calls
use Rattle.ev_body_steps.proofs.CallTurns as alike
use Rattle.ev_body_steps.proofs.FillGoes.{FillOpens, record_opens, fill_stands_with}
use Rattle.ev_body_steps.proofs.ItemState.{with_registers, opening_of, known_of, gone}
use Rattle.ev_body_steps.proofs.ItemVisible.{goes_onward}
use Rattle.ev_body_steps.proofs.KernelStep as step
use Rattle.ev_isa.specs.declared.instruction.Ins.{Ins}
use Rattle.ev_isa.specs.declared.instruction.Cond.TheVariants.{Nz}
use Rattle.ev_tables.proofs.Gates.{upper_canonical}
use Rattle.ev_symbolic.specs.Openings.{at_base}
use Rattle.ev_body_steps.proofs.ItemCallHead.{head_regs, head_rsp, head_long, head_kept, frame_alone, SaysFilled, head_says, same_known}
use Rattle.ev_body_steps.proofs.TakenSteps.{edges_at_end}

-- ---- the block behind an exchange that failed

module _ (address func to : ℕ) where
  pub failure_says : (mode : Mode) → SaysFilled address func to mode (block_of_call (is_fred mode) (layout_of mode) (BehindFailure address func to))
  failure_says Fred = record { opens = record_opens Fred _ _ _ _ _ _; words = refl }
  failure_says Idt = record { opens = record_opens Idt _ _ _ _ _ _; words = refl }

  again_falls : (mode : Mode) → edges mode (body mode (InCall (AtHead address func to))) 0 < edges_at_end mode (BehindFailure address func to)
  again_falls Fred = (call_edges Fred FredFrame).again address func to
  again_falls Idt = (call_edges Idt IdtFrame).again address func to

module _ (mode : Mode) (image : Image) (built : IsBuilt image) (good : IsImage image) (facts : Facts mode image)
    (left : NatMap ℕ) (s : System) (m : Machine) (h : Stands mode image left s m) (p : ℕ) (hp : p < image.processors)
    (o : step.Top mode image built good facts left s m h p hp) where
  abbrev code : Code
  code = code_table mode image

  abbrev c : Processor
  c = s.cpus p

  abbrev b : BodyContext
  b = o.b

  abbrev x : abstract.Processor
  x = processor m p

  abbrev on : StandsOn mode image p (left p) s x
  on = step.on mode image built good facts left s m h p hp

  abbrev env : ℕ → (extra v : ℕ → ℕ) → Flags → Env
  env ss extra v f = here mode p o.κ o.σ ss o.w extra v f

  abbrev Stood : ℕ → BodyContext → Processor → Memory → Type 0
  Stood now b cpu mem = Active mode image p now o.κ o.σ on.frame (switches_at mode image on.switching o.below) (first_fill on.fills) o.w b cpu mem

  -- It stands so many bytes behind the beginning of a `call` whose record it has filled, with the record in RBX and the address of the head in RDX.
  pub record AtFilled (ss : ℕ) (extra v : ℕ → ℕ) (f : Flags) (offset address func to : ℕ) : Type 0 where
    pub act : Stood on.own b c s.memory
    pub ss_is : IsKernelSs mode ss
    pub kernel : is_user c ≡ false
    pub near : offset < 0x100
    pub inside : InCode mode image (origin_of o.κ) (env ss extra v f) o.w b s.memory.words
    pub place : HasPlace mode image (env ss extra v f) b
    pub filled : Filled mode image (env ss extra v f) b (first_fill on.fills) address func to
    pub flags : Flags
    pub state : IsAtOffset mode (env ss extra v f) c s.memory offset flags
    pub regs_are : c.regs ≡ map (eval (env ss extra v f)) (head_regs mode to)
    pub known : Known (env ss extra v f) (win_of InRecord ∷ known_of mode) s.memory.words (filled_words address func ++ (opening_of mode).words)

  module _ (ss : ℕ) (extra v : ℕ → ℕ) (f : Flags) (offset address func to : ℕ) (y : AtFilled ss extra v f offset address func to) where
    -- An edge by an instruction that writes nothing, and of registers RAX alone, to the opening of a block that knows the same.
    pub goes_filled : (spot : CallSpot) → is_fill_spot (InCall spot) ≡ true
        → SaysFilled address func to mode (block_of_call (is_fred mode) (layout_of mode) spot)
        → (block_of_call (is_fred mode) (layout_of mode) spot).opening.regs ≡ head_regs mode to
        → (cell : Cell) → code c.rip ≡ Some cell → is_seen cell.mark s c ≡ false → is_return (Some cell.ins) ≡ false → (n : ℕ) (g : Flags)
        → g.interrupts ≡ b.interrupts → (next onto : ℕ) → next ≡ (extra 20 + onto) % M
        → (block_of_call (is_fred mode) (layout_of mode) spot).opening.rip ≡ at_base item_tag onto
        → Leads c s.memory cell.ins (gone c (set c.regs 0 n) g next) s.memory.words
        → Lines code (env ss extra (with_registers (set c.regs 0 n) v) g) (block_of_call (is_fred mode) (layout_of mode) spot).lines
        → (InCode mode image (origin_of o.κ) (env ss extra (with_registers (set c.regs 0 n) v) g) o.w b s.memory.words
        → HasPlace mode image (env ss extra (with_registers (set c.regs 0 n) v) g) b
        → Filled mode image (env ss extra (with_registers (set c.regs 0 n) v) g) b (first_fill on.fills) address func to
        → InCallSpot mode image (origin_of o.κ) spot (env ss extra (with_registers (set c.regs 0 n) v) g) o.w b (first_fill on.fills) s.memory.words)
        → edges mode (body mode (InCall spot)) 0 < on.own → Simulated mode image left s m p
    unfolding head_regs eval
    goes_filled spot is_fill says same_regs cell found unseen inner n g masked next onto rip opens leads lines means fewer =
        let e : Env = env ss extra v f in
        let filled = y.filled in
        let fills = filled.fills in
        let site : ℕ = fills.site in
        let regs : List ℕ = set c.regs 0 n in
        let u : Env = env ss extra (with_registers regs v) g in
        let state = y.state in
        let wide : length regs ≡ 16 = length-set c.regs 0 n ∙ state.long in
        let same_stack : get_or regs 4 0 ≡ get_or c.regs 4 0 = get_or-set_other c.regs 0 4 n 0 (λ q. omega arith) in
        let stack : get_or regs 4 0 ≡ eval u (top_less (body_bytes (layout_of mode)))
        = same_stack ∙ same_rsp mode p o.κ o.σ ss o.w extra v f c s.memory offset y.flags state extra v refl refl refl in
        let rbx : get_or regs 3 0 ≡ eval u (P record_tag 0) = get_or-set_other c.regs 0 3 n 0 (λ q. omega arith)
        ∙ ap (λ (xs : List ℕ). get_or xs 3 0) y.regs_are in
        let rdx : get_or regs 2 0 ≡ pcpu to + head_offset = get_or-set_other c.regs 0 2 n 0 (λ q. omega arith)
        ∙ ap (λ (xs : List ℕ). get_or xs 2 0) y.regs_are in
        let told : regs ≡ map (eval u) (head_regs mode to) = told_too u regs (set (item_regs (layout_of mode)) 3 (P record_tag 0)) 2 (K (pcpu to + head_offset))
        (told_too u regs (item_regs (layout_of mode)) 3 (P record_tag 0) (item_regs_are mode u regs v refl wide stack) rbx) rdx in
        let is_block = block_is mode spot in
        let free = first_free x.records on.fills (record { site = site; number = fills.number }) on.free fills.is in
        let record_is : extra 22 ≡ record_address p site = fills.at in
        let stands = fill_stands_with mode image built good facts left s m h p hp o ss extra v f offset y.flags state y.inside.range (InCall spot) is_fill
        (subst (FillOpens mode) (sym is_block) says.opens) extra v refl refl refl refl site free.small record_is regs g next onto wide same_stack rip
        (ap (λ (B : Block). B.opening.rip) is_block ∙ opens)
        (told ∙ ap (map (eval u)) (sym (ap (λ (B : Block). B.opening.regs) is_block ∙ same_regs)))
        (subst (λ (ws : List Word). Known u (win_of InRecord ∷ known_of mode) s.memory.words ws)
        (sym (ap (λ (B : Block). B.opening.words) is_block ∙ says.words))
        (same_known address func to mode p o.κ o.σ ss o.w extra v f g regs s.memory.words y.known))
        (subst (λ (B : Block). Lines code u B.lines) (sym is_block) lines) in
        let same : AreKept v regs = subst (λ (xs : List ℕ). AreKept v (set xs 0 n)) (sym y.regs_are) (head_kept mode e to n) in
        let inside : InCode mode image (origin_of o.κ) u o.w b s.memory.words = in_code mode image built good facts left s m h p hp o ss extra v f g regs same
        y.inside.range b refl refl y.inside.saved y.inside.locals y.inside.calls in
        let plain = step.plain_kind mode image built good facts left s m h p hp o in
        let now : ℕ = edges mode (body mode (InCall spot)) 0 in
        calls.edge mode image built good facts left s m h p hp o (alike.no_call mode image built good facts left s m h p hp o)
        (alike.none_alone mode image built good facts left s m h p hp o) s.memory.words []
        (alike.none_of_calls mode image built good facts left s m h p hp o) (λ k off far. refl) on.fills refl (λ k off q. q)
        cell found unseen inner y.kernel (step.outside mode image built good facts left s m h p hp o y.act) (gone c regs g next) leads
        (step.blocked mode image built good facts left s m h p hp) (λ q. refl) on.free
        (λ q k lq lk mine none. let clash : false ≡ true = mine in absurd (cc)) now fewer
        (record {
          stands = record {
            spot = body mode (InCall spot);
            k = 0;
            extra = extra;
            var = with_registers regs v;
            flags = g;
            ss = ss;
            ss_is = y.ss_is;
            masked = masked;
            within = omega arith;
            enough = omega arith;
            at = stands;
            long = wide;
          };
          switches = sym o.off;
          fills = is_filling spot is_fill ∙ sym (ap is_some fills.is);
          knows = plain_knows mode o.κ on.frame plain (blocks.holds (body mode (InCall spot)));
          means = means_at mode image o.κ plain (InCall spot) u o.w b (first_fill on.fills) s.memory.words (means inside y.place (record {
            s = filled.s;
            fills = record {
              site = site;
              number = fills.number;
              is = fills.is;
              item = fills.item;
              is_local = fills.is_local;
              at = fills.at;
              address_is = fills.address_is;
              from = fills.from;
              from_site = fills.from_site;
            };
            number = filled.number;
            argument = filled.argument;
          }));
        })
      where
        is_filling : (s' : CallSpot) → is_fill_spot (InCall s') ≡ true → fills_record s' ≡ true
        is_filling (AtFill address func to s) q = refl
        is_filling (AtHead address func to) q = refl
        is_filling (AtLink address func to t) q = refl
        is_filling (BehindFailure address func to) q = refl
        is_filling (AtRecord site) q = q
        is_filling (BehindWait d) q = q
        is_filling (BehindBusy r) q = q
        is_filling (BehindCall r t) q = q
        is_filling AtTake q = q
        is_filling (BehindTake n) q = q
        is_filling (AtTurn n) q = q
        is_filling (BehindTurn n) q = q
        is_filling (AtTaken t) q = q
        is_filling AtFinish q = q
        is_filling BehindNext q = q
        is_filling (AtOffset n k) q = q

  module _ (body' : Body) (is : slice_get image.bodies o.b.body ≡ Some body') where
    -- Behind an exchange that failed the jump goes back to the load of the head: an edge.
    pub by_failure : (act : Stood on.own b c s.memory) (ss : ℕ) → IsKernelSs mode ss → (extra v : ℕ → ℕ) (f : Flags) (address func to : ℕ)
        → At code (block mode (body mode (InCall (BehindFailure address func to)))) 0 (env ss extra v f) c s.memory
        → InCallSpot mode image (origin_of o.κ) (BehindFailure address func to) (env ss extra v f) o.w b (first_fill on.fills) s.memory.words
        → edges_at_end mode (BehindFailure address func to) ≤ on.own → Simulated mode image left s m p
    unfolding head_regs eval eval_flags spelling four_bytes is_return holds
    by_failure act ss ss_is extra v f address func to at means enough =
        let e : Env = env ss extra v f in
        let B : Block = block_of_call (is_fred mode) (layout_of mode) (BehindFailure address func to) in
        let filled = means.2 in
        let fills = filled.fills in
        let says = failure_says address func to mode in
        let there : At code B 0 e c s.memory = subst (λ (q : Block). At code q 0 e c s.memory) (block_is mode (BehindFailure address func to)) at in
        let agrees : Agrees e B.ground B.opening c s.memory = at_end code B 0 B.opening refl e c s.memory there in
        let known : Known e (win_of InRecord ∷ known_of mode) s.memory.words (filled_words address func ++ (opening_of mode).words)
        = subst (λ ws. Known e (win_of InRecord ∷ known_of mode) s.memory.words ws) says.words
        (subst (λ W. Known e W s.memory.words B.opening.words) says.opens.known agrees.words) in
        let frame : Known e (known_of mode) s.memory.words (opening_of mode).words = frame_alone mode e s.memory.words known.2.2.2.2.2.2.2 in
        let g : Flags = eval_flags e B.opening.flags in
        let state : IsAtOffset mode e c s.memory behind_exchange g = offset_from mode e B.ground B.opening c s.memory behind_exchange says.opens.beside refl
        (head_long mode to) (head_rsp mode e to) agrees frame in
        let y : AtFilled ss extra v f behind_exchange address func to = record {
          act = act;
          ss_is = ss_is;
          kernel = ap is_user agrees.rest;
          near = omega arith;
          inside = means.0;
          place = means.1;
          filled = filled;
          flags = g;
          state = state;
          regs_are = agrees.regs;
          known = known;
        } in
        let range = means.0.range in
        let low = range.0 in
        let high = range.1 in
        let a : ℕ = item_address mode b.body body' b.place in
        let base : extra 20 ≡ a = means.1 ∙ ap (address_of_item mode b.body b.place) is in
        let hi : item_at (Some body') b.place ≡ Some (Call fills.site to func filled.s) = ap (λ q. item_at q b.place) (sym is) ∙ fills.item in
        let cells = call_code mode image facts b.body body' is b.place fills.site to func filled.s hi in
        let ins : Ins = Jcc Nz (negsuc 28) in
        let here_is : c.rip ≡ a + behind_exchange = state.rip ∙ (let q : (extra 20 + 163) % M ≡ a + 163 = omega arith in q) in
        let next : ℕ = a + at_answer in
        let at_ins : IsAt c ins next = record {
          kernel = ap is_user agrees.rest;
          flags = kept c.flags g state.flags;
          ends = ap (λ k. k + 6) here_is ∙ (let q : a + 163 + 6 ≡ a + 169 = omega arith in q);
        } in
        let target : ℕ = displaced next (negsuc 28) in
        let target_is : target ≡ extra 20 + 140 = (let q : (a + 169 + (2 ^ 64 - 29)) % 2 ^ 64 ≡ extra 20 + 140 = omega arith in q) in
        let fine : is_canonical target ≡ true = ap is_canonical target_is ∙ upper_canonical (extra 20 + 140) (omega arith) (omega arith) in
        let flags : flags_of c.flags ≡ f = ap flags_of state.flags ∙ flags_of-flags_word f in
        let long = state.long in
        let same : c.regs ≡ set c.regs 0 (get_or c.regs 0 0) = sym (set-get_or c.regs 0 0) in
        let leads : Leads c s.memory ins (gone c (set c.regs 0 (get_or c.regs 0 0)) g target) s.memory.words
        = subst (λ rs. Leads c s.memory ins (gone c rs g target) s.memory.words) same
        (goes_onward c s.memory ins g c.regs target s.memory.words state.flags
        (subst (λ n. Leads c s.memory ins (onward c c.regs n) s.memory.words)
        (ap (λ (k : Flags). if holds Nz k.status then target else next) flags ∙ ap (λ t. if not t then target else next) means.3)
        ((singles c s.memory next).branches Nz (negsuc 28) at_ins fine))) in
        let falls = again_falls address func to mode in
        goes_filled ss extra v f behind_exchange address func to y (AtHead address func to) refl (head_says address func to mode) refl
        (edge_cell ins next) (ap code here_is ∙ cells.again) refl refl (get_or c.regs 0 0) g
        (step.masks_flags mode image built good facts left s m h p hp o g state.flags) target at_head
        (target_is ∙ (let q : extra 20 + 140 ≡ (extra 20 + 140) % M = omega arith in q)) refl leads tt
        (λ inside place filling. (inside, place, filling)) (omega arith)
