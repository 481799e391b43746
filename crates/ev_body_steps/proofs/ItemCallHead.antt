-- `call` at the load of the head of its target's queue: an edge, behind which RAX is the head until another processor changes it.
use Rattle.std.proofs.Common.{◌≡◌, ℕ, zero, suc, ◌+◌, ◌-◌, ◌%◌, ◌^◌, ◌<◌, ◌≤◌, false, true, List, [], ◌∷◌, ◌++◌, get_or, set, map, length, Some, refl, sym, ap, ◌∙◌, subst, arith}
use Rattle.std.specs.Prelude.{pos, slice_get, is_some, reverse}
use Rattle.std.proofs.lemmas.List.{get_or-set_same, get_or-set_other, length-set}
use Rattle.ev_isa.specs.Word.{NatMap, displaced, numbers_from}
use Rattle.ev_isa.specs.Flags.{Flags}
use Rattle.ev_isa.specs.Spelling.{spelling, four_bytes}
use Rattle.ev_isa.specs.declared.instruction.Ins.TheVariants.{Load}
use Rattle.ev_isa.specs.declared.mode.Mode.{Mode}
use Rattle.ev_isa.specs.declared.mode.Mode.TheVariants.{Idt, Fred}
use Rattle.ev_body.specs.declared.item.Item.TheVariants.{Call}
use Rattle.ev_body.specs.declared.body.Body.{Body}
use Rattle.ev_body.specs.declared.image.Image.{Image}
use Rattle.ev_body.specs.WellFormed.{IsImage}
use Rattle.ev_listing.specs.AddressMap.{pcpu, head_offset, record_address}
use Rattle.ev_listing.specs.Expansion.{item_address}
use Rattle.ev_state.specs.Processor.{Processor, is_user, register}
use Rattle.ev_state.proofs.FlagLaws.{kept}
use Rattle.ev_mem.specs.Memory.{Memory}
use Rattle.ev_abstract.specs.Context.{BodyContext, CallId}
use Rattle.ev_abstract.specs.Machine.{Machine, processor}
use Rattle.ev_abstract.specs.Machine as abstract
use Rattle.ev_abstract.specs.Run.{item_at}
use Rattle.ev_concrete.specs.ConcreteRun.{System, is_return}
use Rattle.ev_built.specs.Built.{IsBuilt}
use Rattle.ev_calls.specs.Records.{Linked}
use Rattle.ev_symbolic.specs.Value.{M, V, K, P, X, B, OAdd}
use Rattle.ev_symbolic.specs.State.{Block, Word}
use Rattle.ev_symbolic.specs.Names.{record_tag, top_less}
use Rattle.ev_symbolic.specs.Single.{IsAt, Leads}
use Rattle.ev_symbolic.specs.Agrees.{Env, Code, Stands as Lines, edge_cell, eval, eval_flags, addr, Known, Open, Fits, Agrees, IsOpen, At}
use Rattle.ev_symbolic.proofs.Single.{singles}
use Rattle.ev_symbolic.proofs.Blocks.{at_end, begins, joined}
use Rattle.ev_activation.specs.Seat.{Kind, Seat}
use Rattle.ev_distances.specs.Form.{win_of, InRecord}
use Rattle.ev_blocks.specs.Shapes.{FredFrame, IdtFrame, body_bytes}
use Rattle.ev_blocks.specs.Calls.{CallSpot, AtFill, AtHead, AtLink, at_head, at_link, link_code, filled_words, block_of_call}
use Rattle.ev_blocks.specs.Items.{InCall}
use Rattle.ev_blocks.specs.Blocks.{block, edges}
use Rattle.ev_blocks.specs.Blocks as blocks
use Rattle.ev_blocks.proofs.CallFalls.{call_edges}
use Rattle.ev_paths.specs.CallEnds.{item_regs, filled_values}
use Rattle.ev_paths.proofs.CallEnds.{call_ends}
use Rattle.ev_paths.proofs.Locals.{from_six}
use Rattle.ev_table.specs.Table.{code_table}
use Rattle.ev_relation.specs.Filling.{first_fill}
use Rattle.ev_relation.specs.Active.{address_of_item, here, IsKernelSs, InCode, InCallSpot, Active}
use Rattle.ev_relation.specs.Relation.{StandsOn, Stands, switches_at}
use Rattle.ev_relation.specs.Step.{Simulated}
use Rattle.ev_relation.proofs.CallHolders.{first_free}
use Rattle.ev_relation.proofs.CallKinds.{origin_of, plain_knows}
use Rattle.ev_relation.proofs.Facts.{Facts}
use Rattle.ev_relation.proofs.Fills.{fill_fits, fill_opens}
use Rattle.ev_relation.proofs.ModeFacts.{is_fred}
use Rattle.ev_body_steps.proofs.Bodies.{body, layout_of, means_at, tells_record, saved_beside, nothing_open}
use Rattle.ev_body_steps.proofs.CallCells.{call_code}
use Rattle.ev_body_steps.proofs.CallFills.{called_processor}
use Rattle.ev_body_steps.proofs.CallFirst.{AreKept, in_code}
use Rattle.ev_body_steps.proofs.CallGoes.{block_is}
use Rattle.ev_body_steps.proofs.CallPlaces.{IsAtOffset, offset_from, item_regs_are, told_too, same_rsp}
use Rattle.ev_body_steps.proofs.CallSteps as calls
use Rattle.ev_body_steps.proofs.CallTurns as alike
use Rattle.ev_body_steps.proofs.FillGoes.{FillOpens, record_opens, fill_in, fill_stands}
use Rattle.ev_body_steps.proofs.ItemAddresses.{area_open}
use Rattle.ev_body_steps.proofs.ItemCells.{edges_stand}
use Rattle.ev_body_steps.proofs.ItemState.{with_registers, opening_of, known_of, gone}
use Rattle.ev_body_steps.proofs.ItemVisible.{goes_onward}
use Rattle.ev_body_steps.proofs.KernelStep as step

-- ---- the blocks before and behind the load

-- the registers at both: the record, and the address of the head
unfoldable pub head_regs : Mode → ℕ → List V
head_regs mode to = set (set (item_regs (layout_of mode)) 3 (P record_tag 0)) 2 (K (pcpu to + head_offset))

pub head_rsp : (mode : Mode) (e : Env) (to : ℕ) → get_or (map (eval e) (head_regs mode to)) 4 0 ≡ eval e (top_less (body_bytes (layout_of mode)))
unfolding head_regs
head_rsp mode e to = refl

pub head_long : (mode : Mode) (to : ℕ) → length (head_regs mode to) ≡ 16
unfolding head_regs
head_long mode to = refl

pub head_kept : (mode : Mode) (e : Env) (to n : ℕ) → AreKept e.var (set (map (eval e) (head_regs mode to)) 0 n)
unfolding head_regs eval
head_kept mode e to n = record { locals = refl; calls = refl }

-- the address of a list is a word
pub linked_word : (words : NatMap ℕ) (a : ℕ) (ks : List CallId) → Linked words a ks → a < 2 ^ 64
linked_word words a [] h = omega (arith, h)
linked_word words a (k ∷ ks) h = let from = h.0 in let site = h.1 in let at = h.2 in omega (arith, from, site, at)

module _ (address func to : ℕ) where
  -- what the spots' blocks say at their openings
  pub record SaysFilled (mode : Mode) (b : Block) : Type 0 where
    pub opens : FillOpens mode b
    pub words : b.opening.words ≡ filled_words address func ++ (opening_of mode).words

  pub head_says : (mode : Mode) → SaysFilled mode (block_of_call (is_fred mode) (layout_of mode) (AtHead address func to))
  head_says Fred = record { opens = record_opens Fred _ _ _ _ _ _; words = refl }
  head_says Idt = record { opens = record_opens Idt _ _ _ _ _ _; words = refl }

  link_says : (mode : Mode) → SaysFilled mode (block_of_call (is_fred mode) (layout_of mode) (AtLink address func to false))
  link_says Fred = record { opens = record_opens Fred _ _ _ _ _ _; words = refl }
  link_says Idt = record { opens = record_opens Idt _ _ _ _ _ _; words = refl }

  link_falls : (mode : Mode) → edges mode (body mode (InCall (AtLink address func to false))) 0 < edges mode (body mode (InCall (AtHead address func to))) 0
  link_falls Fred = (call_edges Fred FredFrame).link address func to
  link_falls Idt = (call_edges Idt IdtFrame).link address func to

  -- what they know doesn't depend on registers and flags
  pub same_known : (mode : Mode) (p : ℕ) (κ : Kind) (σ : Seat) (ss : ℕ) (w : Processor) (extra v : ℕ → ℕ) (f g : Flags) (regs : List ℕ) (n : NatMap ℕ)
      → Known (here mode p κ σ ss w extra v f) (win_of InRecord ∷ known_of mode) n (filled_words address func ++ (opening_of mode).words)
      → Known (here mode p κ σ ss w extra (with_registers regs v) g) (win_of InRecord ∷ known_of mode) n
      (filled_words address func ++ (opening_of mode).words)
  unfolding eval
  same_known Fred p κ σ ss w extra v f g regs n h = h
  same_known Idt p κ σ ss w extra v f g regs n h = h

-- of the frame alone
pub frame_alone : (mode : Mode) (e : Env) (n : NatMap ℕ) → Known e (win_of InRecord ∷ known_of mode) n (opening_of mode).words
    → Known e (known_of mode) n (opening_of mode).words
frame_alone Fred e n h = h
frame_alone Idt e n h = h

-- ---- where the filling ends

head_falls : (address func to r : ℕ) (mode : Mode) → edges mode (body mode (InCall (AtHead address func to))) 0
    ≤ edges mode (body mode (InCall (AtFill address func to r))) (block mode (body mode (InCall (AtFill address func to r)))).steps
head_falls address func to r Fred = (call_edges Fred FredFrame).head address func to r
head_falls address func to r Idt = (call_edges Idt IdtFrame).head address func to r

numbered : (n k i : ℕ) → i < k → get_or (map (λ j. X j) (numbers_from n k)) i (K 0) ≡ X (n + i)
numbered n zero i l = absurd (omega arith)
numbered n (suc k) zero l = ap (λ j. X j) (let q : n ≡ n + 0 = omega arith in q)
numbered n (suc k) (suc i) l = numbered (suc n) k i (omega arith) ∙ ap (λ j. X j) (let q : suc n + i ≡ n + suc i = omega arith in q)

-- what the filling leaves of the variables
left_alone : (e : Env) (argument : V) (i : ℕ) → 16 ≤ i → i < 64 → tells_record i ≡ false
    → eval e (get_or (filled_values argument) i (K 0)) ≡ e.var i
unfolding eval
left_alone e argument i l u off =
    let numbers : List V = map (λ j. X j) (numbers_from 0 64) in
    let first : List V = set numbers 0 (K 1) in
    let second : List V = set first 25 (B OAdd (X 25) (K 1)) in
    ap (eval e) (get_or-set_other second 26 i argument (K 0) (λ q. let clash : false ≡ true = sym off ∙ ap tells_record q in cc)
    ∙ get_or-set_other first 25 i (B OAdd (X 25) (K 1)) (K 0) (λ q. let clash : false ≡ true = sym off ∙ ap tells_record q in cc)
    ∙ get_or-set_other numbers 0 i (K 1) (K 0) (λ q. omega arith) ∙ numbered 0 64 i u
    ∙ ap (λ j. X j) (let q : 0 + i ≡ i = omega arith in q))

module _ (mode : Mode) (image : Image) (built : IsBuilt image) (good : IsImage image) (facts : Facts mode image)
    (left : NatMap ℕ) (s : System) (m : Machine) (h : Stands mode image left s m) (p : ℕ) (hp : p < image.processors)
    (o : step.Top mode image built good facts left s m h p hp) (body' : Body) (is : slice_get image.bodies o.b.body ≡ Some body') where
  abbrev code : Code
  code = code_table mode image

  abbrev c : Processor
  c = s.cpus p

  abbrev b : BodyContext
  b = o.b

  abbrev x : abstract.Processor
  x = processor m p

  abbrev on : StandsOn mode image p (left p) s x
  on = step.on mode image built good facts left s m h p hp

  abbrev env : ℕ → (extra v : ℕ → ℕ) → Flags → Env
  env ss extra v f = here mode p o.κ o.σ ss o.w extra v f

  abbrev Stood : ℕ → BodyContext → Processor → Memory → Type 0
  Stood now b cpu mem = Active mode image p now o.κ o.σ on.frame (switches_at mode image on.switching o.below) (first_fill on.fills) o.w b cpu mem

  -- At the load: an edge.
  pub by_head : (act : Stood on.own b c s.memory) (ss : ℕ) → IsKernelSs mode ss → (extra v : ℕ → ℕ) (f : Flags) (address func to : ℕ)
      → At code (block mode (body mode (InCall (AtHead address func to)))) 0 (env ss extra v f) c s.memory
      → InCallSpot mode image (origin_of o.κ) (AtHead address func to) (env ss extra v f) o.w b (first_fill on.fills) s.memory.words
      → edges mode (body mode (InCall (AtHead address func to))) 0 ≤ on.own → Simulated mode image left s m p
  unfolding head_regs eval spelling four_bytes is_return
  by_head act ss ss_is extra v f address func to at means enough =
      let e : Env = env ss extra v f in
      let B : Block = block_of_call (is_fred mode) (layout_of mode) (AtHead address func to) in
      let filled = means.2 in
      let fills = filled.fills in
      let site : ℕ = fills.site in
      let says = head_says address func to mode in
      let there : At code B 0 e c s.memory = subst (λ (q : Block). At code q 0 e c s.memory) (block_is mode (AtHead address func to)) at in
      let agrees : Agrees e B.ground B.opening c s.memory = at_end code B 0 B.opening refl e c s.memory there in
      let known : Known e (win_of InRecord ∷ known_of mode) s.memory.words (filled_words address func ++ (opening_of mode).words)
      = subst (λ ws. Known e (win_of InRecord ∷ known_of mode) s.memory.words ws) says.words
      (subst (λ W. Known e W s.memory.words B.opening.words) says.opens.known agrees.words) in
      let frame : Known e (known_of mode) s.memory.words (opening_of mode).words = frame_alone mode e s.memory.words known.2.2.2.2.2.2.2 in
      let g : Flags = eval_flags e B.opening.flags in
      let regs_are : c.regs ≡ map (eval e) (head_regs mode to) = agrees.regs in
      let state : IsAtOffset mode e c s.memory at_head g = offset_from mode e B.ground B.opening c s.memory at_head says.opens.beside refl
      (head_long mode to) (head_rsp mode e to) agrees frame in
      let range = means.0.range in
      let high = range.1 in
      let a : ℕ = item_address mode b.body body' b.place in
      let base : extra 20 ≡ a = means.1 ∙ ap (address_of_item mode b.body b.place) is in
      let hi : item_at (Some body') b.place ≡ Some (Call site to func filled.s) = ap (λ y. item_at y b.place) (sym is) ∙ fills.item in
      let cells = call_code mode image facts b.body body' is b.place site to func filled.s hi in
      let next : ℕ = a + at_link in
      let here_is : c.rip ≡ a + at_head = state.rip ∙ (let q : (extra 20 + at_head) % M ≡ a + at_head = omega arith in q) in
      let found : code c.rip ≡ Some (edge_cell (Load 0 2 (pos 0)) next) = ap code here_is ∙ cells.head in
      let head : ℕ = pcpu to + head_offset in
      let few = good.count.1 in
      let lto : to < image.processors = called_processor mode image built good facts left s m h p hp o to
      (site, func, filled.s, fills.item) in
      let rdx : register c 2 ≡ head = ap (λ (xs : List ℕ). get_or xs 2 0) regs_are in
      let from : displaced (register c 2) (pos 0) ≡ head = ap (λ k. displaced k (pos 0)) rdx
      ∙ (let q : (pcpu to + head_offset + 0) % 2 ^ 64 ≡ pcpu to + head_offset = omega arith in q) in
      let kernel : is_user c ≡ false = ap is_user agrees.rest in
      let at_ins : IsAt c (Load 0 2 (pos 0)) next = record {
        kernel = kernel;
        flags = kept c.flags g state.flags;
        ends = ap (λ k. k + 7) here_is ∙ (let q : a + at_head + 7 ≡ a + at_link = omega arith in q);
      } in
      let n : ℕ = s.memory.words head in
      let regs : List ℕ = set c.regs 0 n in
      let cpu : Processor = gone c regs g next in
      let opened : IsOpen s.memory.regions head = area_open image s.memory.regions h.regions_are to head_offset lto few refl (omega arith) in
      let leads : Leads c s.memory (Load 0 2 (pos 0)) cpu s.memory.words = goes_onward c s.memory (Load 0 2 (pos 0)) g regs next s.memory.words state.flags
      ((singles c s.memory next).loads 0 2 (pos 0) head at_ins from opened) in
      let u : Env = env ss extra (with_registers regs v) g in
      let long = state.long in
      let wide : length regs ≡ 16 = length-set c.regs 0 n ∙ state.long in
      let same_stack : get_or regs 4 0 ≡ get_or c.regs 4 0 = get_or-set_other c.regs 0 4 n 0 (λ e. omega arith) in
      let stack : get_or regs 4 0 ≡ eval u (top_less (body_bytes (layout_of mode)))
      = same_stack ∙ same_rsp mode p o.κ o.σ ss o.w extra v f c s.memory at_head g state extra v refl refl refl in
      let rbx : get_or regs 3 0 ≡ eval u (P record_tag 0) = get_or-set_other c.regs 0 3 n 0 (λ e. omega arith)
      ∙ ap (λ (xs : List ℕ). get_or xs 3 0) regs_are in
      let rdx_is : get_or regs 2 0 ≡ head = get_or-set_other c.regs 0 2 n 0 (λ e. omega arith) ∙ rdx in
      let told : regs ≡ map (eval u) (head_regs mode to) = told_too u regs (set (item_regs (layout_of mode)) 3 (P record_tag 0)) 2 (K head)
      (told_too u regs (item_regs (layout_of mode)) 3 (P record_tag 0) (item_regs_are mode u regs v refl wide stack) rbx) rdx_is in
      let spot : CallSpot = AtLink address func to false in
      let is_block = block_is mode spot in
      let link = link_says address func to mode in
      let lines : Lines code u (block mode (body mode (InCall spot))).lines = subst (λ (B : Block). Lines code u B.lines) (sym is_block)
      (edges_stand code u a at_link link_code base (omega arith) cells.link) in
      let free = first_free x.records on.fills (record { site = site; number = fills.number }) on.free fills.is in
      let record_is : extra 22 ≡ record_address p site = fills.at in
      let stands = fill_stands mode image built good facts left s m h p hp o ss extra v f at_head g state range (InCall spot) refl
      (subst (FillOpens mode) (sym is_block) link.opens) extra v refl refl refl refl site free.small record_is regs next at_link wide same_stack (omega arith)
      (ap (λ (B : Block). B.opening.rip) is_block) (told ∙ ap (λ (B : Block). map (eval u) B.opening.regs) (sym is_block))
      (subst (λ (ws : List Word). Known u (win_of InRecord ∷ known_of mode) s.memory.words ws)
      (sym (ap (λ (B : Block). B.opening.words) is_block ∙ link.words))
      (same_known address func to mode p o.κ o.σ ss o.w extra v f g regs s.memory.words known)) lines in
      let same : AreKept v regs = subst (λ (xs : List ℕ). AreKept v (set xs 0 n)) (sym regs_are) (head_kept mode e to n) in
      let inside : InCode mode image (origin_of o.κ) u o.w b s.memory.words
      = in_code mode image built good facts left s m h p hp o ss extra v f g regs same range b refl refl means.0.saved means.0.locals means.0.calls in
      let plain = step.plain_kind mode image built good facts left s m h p hp o in
      let now : ℕ = edges mode (body mode (InCall spot)) 0 in
      let falls = link_falls address func to mode in
      calls.edge mode image built good facts left s m h p hp o (alike.no_call mode image built good facts left s m h p hp o)
      (alike.none_alone mode image built good facts left s m h p hp o) s.memory.words []
      (alike.none_of_calls mode image built good facts left s m h p hp o) (λ k off far. refl) on.fills refl (λ k off e. e)
      (edge_cell (Load 0 2 (pos 0)) next) found refl refl kernel (step.outside mode image built good facts left s m h p hp o act) cpu leads
      (step.blocked mode image built good facts left s m h p hp) (λ q. refl) on.free
      (λ q k lq lk mine none. let clash : false ≡ true = mine in absurd (cc)) now (omega arith)
      (record {
        stands = record {
          spot = body mode (InCall spot);
          k = 0;
          extra = extra;
          var = with_registers regs v;
          flags = g;
          ss = ss;
          ss_is = ss_is;
          masked = step.masks_flags mode image built good facts left s m h p hp o g state.flags;
          within = omega arith;
          enough = omega arith;
          at = stands;
          long = wide;
        };
        switches = sym o.off;
        fills = sym (ap is_some fills.is);
        knows = plain_knows mode o.κ on.frame plain (blocks.holds (body mode (InCall spot)));
        means = means_at mode image o.κ plain (InCall spot) u o.w b (first_fill on.fills) s.memory.words (
          inside,
          means.1,
          record {
            s = filled.s;
            fills = record {
              site = site;
              number = fills.number;
              is = fills.is;
              item = fills.item;
              is_local = fills.is_local;
              at = fills.at;
              address_is = fills.address_is;
              from = fills.from;
              from_site = fills.from_site;
            };
            number = filled.number;
            argument = filled.argument;
          },
          sym (get_or-set_same c.regs 0 n 0 (omega arith)),
          subst (λ k. k < M) (sym (get_or-set_same c.regs 0 n 0 (omega arith)))
              (linked_word s.memory.words n (reverse (processor m to).queue) (h.shares.queues to lto)),
        );
      })

  -- Where the filling ends, the same is the load's place.
  pub at_fill_end : (act : Stood on.own b c s.memory) (ss : ℕ) → IsKernelSs mode ss → (extra v : ℕ → ℕ) (f : Flags) (address func to r : ℕ)
      → At code (block mode (body mode (InCall (AtFill address func to r)))) (block mode (body mode (InCall (AtFill address func to r)))).steps
      (env ss extra v f) c s.memory
      → InCallSpot mode image (origin_of o.κ) (AtFill address func to r) (env ss extra v f) o.w b (first_fill on.fills) s.memory.words
      → edges mode (body mode (InCall (AtFill address func to r))) (block mode (body mode (InCall (AtFill address func to r)))).steps ≤ on.own
      → Simulated mode image left s m p
  unfolding eval
  at_fill_end act ss ss_is extra v f address func to r at means enough =
      let e : Env = env ss extra v f in
      let B : Block = block_of_call (is_fred mode) (layout_of mode) (AtFill address func to r) in
      let spot : CallSpot = AtHead address func to in
      let next : Block = block_of_call (is_fred mode) (layout_of mode) spot in
      let fills = means.2 in
      let site : ℕ = fills.site in
      let lo = fills.is_local.0 in
      let hi = fills.is_local.1 in
      let ends = (call_ends (is_fred mode) (layout_of mode)).fills address func to r lo hi in
      let θ : List V = filled_values (X r) in
      let there : At code B B.steps e c s.memory = subst (λ (q : Block). At code q q.steps e c s.memory) (block_is mode (AtFill address func to r)) at in
      let a : Agrees e B.ground ends.z c s.memory = at_end code B B.steps ends.z ends.runs e c s.memory there in
      let g : Flags = eval_flags e ends.z.flags in
      let v' : ℕ → ℕ = λ i. eval e (get_or θ i (K 0)) in
      let u : Env = env ss extra v' g in
      let free = first_free x.records on.fills (record { site = site; number = fills.number }) on.free fills.is in
      let record_is : extra 22 ≡ record_address p site = fills.at in
      let seat = step.in_seat mode image built good facts left s m h p hp o in
      let is_block = block_is mode spot in
      let says = head_says address func to mode in
      let windows : Open u next.ground.known s.memory.regions = subst (λ (q : Block). Open u q.ground.known s.memory.regions) is_block
      (fill_opens mode image p o.σ seat hp good.count.1 o.κ ss o.w extra v' g site free.small record_is (body mode (InCall spot))
      (fill_in mode (InCall spot) refl) s.memory h.regions_are) in
      let opened : Agrees u next.ground next.opening c s.memory = joined e θ B.ground next.ground ends.z c s.memory next.opening a ends.continues.joins c g refl
      refl refl refl refl (a.blocked ∙ ends.continues.blocked) (a.rip ∙ ap (addr e) ends.continues.rip) a.flags says.opens.flags windows
      (subst (λ W. Open u W s.memory.regions) (sym says.opens.shared) (nothing_open u s.memory)) in
      let fit : Fits code u (block mode (body mode (InCall spot))) = fill_fits mode image p o.σ seat hp good.count.1 o.κ ss o.w extra v' g site free.small
      record_is facts mode (body mode (InCall spot)) (fill_in mode (InCall spot) refl) (step.fred_is mode image built good facts left s m h p hp o)
      means.0.range (subst (λ (q : Block). Lines code u q.lines) (sym is_block) tt) in
      let at_next : At code (block mode (body mode (InCall spot))) 0 u c s.memory = begins code (block mode (body mode (InCall spot))) u c s.memory fit
      (subst (λ (q : Block). Agrees u q.ground q.opening c s.memory) (sym is_block) opened) in
      let falls = head_falls address func to r mode in
      let number = means.3 in
      by_head act ss ss_is extra v' g address func to at_next (
        record {
          range = means.0.range;
          saved = saved_beside mode image (origin_of o.κ) e u o.w (left_alone e (X r)) refl refl refl means.0.saved;
          locals = means.0.locals;
          calls = means.0.calls;
        },
        means.1,
        record {
          s = r;
          fills = record {
            site = site;
            number = fills.number;
            is = fills.is;
            item = fills.item;
            is_local = fills.is_local;
            at = fills.at;
            address_is = fills.address_is;
            from = fills.from;
            from_site = fills.from_site;
          };
          number = ap (λ n. (n + 1) % M) number ∙ (let q : (fills.number % M + 1) % M ≡ suc fills.number % M = omega arith in q);
          argument = from_six (λ k. e.var k ≡ get_or (e.var 6 ∷ e.var 7 ∷ e.var 8 ∷ e.var 9 ∷ e.var 10 ∷ e.var 11 ∷ e.var 12 ∷ e.var 13 ∷ []) (k - 6) 0)
              refl refl refl refl refl refl refl refl r lo hi ∙ ap (λ (xs : List ℕ). get_or xs (r - 6) 0) (sym means.0.locals);
        },
      )
      (omega arith)
