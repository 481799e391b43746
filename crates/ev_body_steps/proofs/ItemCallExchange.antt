-- The exchange of `call`: what it finds, and where it fails, which is an edge.
use Rattle.std.proofs.Common.{◌≡◌, Bool, ℕ, ◌+◌, ◌-◌, ◌%◌, ◌^◌, ◌<◌, ◌≤◌, false, true, List, ◌∷◌, ◌++◌, get_or, set, Some, refl, sym, ap, ◌∙◌, subst, arith}
use Rattle.std.specs.Prelude.{pos, slice_get, if◌then◌else◌, ◌==◌, reverse}
use Rattle.ev_isa.specs.Word.{NatMap, displaced, wrap, put_at}
use Rattle.ev_isa.specs.Flags.{Flags, Status, difference}
use Rattle.ev_isa.specs.Spelling.{spelling, four_bytes}
use Rattle.ev_isa.specs.declared.instruction.Ins.TheVariants.{CmpXchg}
use Rattle.ev_isa.specs.declared.mode.Mode.{Mode}
use Rattle.ev_isa.specs.declared.mode.Mode.TheVariants.{Idt, Fred}
use Rattle.ev_body.specs.declared.item.Item.TheVariants.{Call}
use Rattle.ev_body.specs.declared.body.Body.{Body}
use Rattle.ev_body.specs.declared.image.Image.{Image}
use Rattle.ev_body.specs.WellFormed.{IsImage}
use Rattle.ev_listing.specs.AddressMap.{pcpu, head_offset, record_address}
use Rattle.ev_listing.specs.Expansion.{item_address}
use Rattle.ev_state.specs.Processor.{Processor, is_user, register}
use Rattle.ev_state.proofs.FlagLaws.{kept}
use Rattle.ev_mem.specs.Memory.{Memory}
use Rattle.ev_abstract.specs.Context.{BodyContext}
use Rattle.ev_abstract.specs.Machine.{Machine, processor}
use Rattle.ev_abstract.specs.Machine as abstract
use Rattle.ev_abstract.specs.Run.{item_at}
use Rattle.ev_concrete.specs.ConcreteRun.{System, is_return}
use Rattle.ev_built.specs.Built.{IsBuilt}
use Rattle.ev_symbolic.specs.Value.{M, X}
use Rattle.ev_symbolic.specs.State.{Block, Word, SS}
use Rattle.ev_symbolic.specs.Names.{record_tag, item_tag}
use Rattle.ev_symbolic.specs.Single.{IsAt, Leads, onward, in_status, compared_regs, compared_word}
use Rattle.ev_symbolic.specs.Agrees.{Env, Code, eval, eval_flags, Known, Agrees, IsOpen, At, Cell}
use Rattle.ev_symbolic.proofs.Single.{singles}
use Rattle.ev_symbolic.proofs.Blocks.{at_end}
use Rattle.ev_distances.specs.Form.{win_of, InRecord}
use Rattle.ev_blocks.specs.Shapes.{FredFrame, IdtFrame}
use Rattle.ev_blocks.specs.Calls.{AtLink, filled_words, block_of_call, BehindFailure, behind_exchange}
use Rattle.ev_blocks.specs.Items.{InCall}
use Rattle.ev_blocks.specs.Blocks.{block, edges}
use Rattle.ev_blocks.proofs.CallFalls.{call_edges}
use Rattle.ev_paths.proofs.CallEnds.{call_ends}
use Rattle.ev_table.specs.Table.{code_table}
use Rattle.ev_relation.specs.Filling.{first_fill}
use Rattle.ev_relation.specs.Active.{address_of_item, here, IsKernelSs, InCallSpot, Active}
use Rattle.ev_relation.specs.Relation.{StandsOn, Stands, switches_at}
use Rattle.ev_relation.specs.Step.{Simulated}
use Rattle.ev_relation.proofs.CallHolders.{first_free}
use Rattle.ev_relation.proofs.CallKinds.{origin_of}
use Rattle.ev_relation.proofs.Facts.{Facts}
use Rattle.ev_relation.proofs.ModeFacts.{is_fred}
use Rattle.ev_body_steps.proofs.Bodies.{body, layout_of}
use Rattle.ev_body_steps.proofs.CallCells.{call_code}
use Rattle.ev_body_steps.proofs.CallFills.{called_processor}
use Rattle.ev_body_steps.proofs.CallGoes.{block_is}
use Rattle.ev_body_steps.proofs.CallPlaces.{offset_from, IsBeside}
use Rattle.ev_body_steps.proofs.FillGoes.{record_opens}
use Rattle.ev_body_steps.proofs.ItemAddresses.{area_open}
use Rattle.ev_body_steps.proofs.ItemState.{opening_of, known_of, gone}
use Rattle.ev_body_steps.proofs.ItemVisible.{goes_with}
use Rattle.ev_body_steps.proofs.KernelStep as step
use Rattle.std.proofs.lemmas.Bool.{eqb-true, ne_eqb}
use Rattle.ev_listing.specs.Marks.{IfEqual}
use Rattle.ev_symbolic.specs.Openings.{at_base, word}
use Rattle.ev_body_steps.proofs.ItemCallHead.{linked_word, head_regs, head_rsp, head_long, frame_alone, SaysFilled}
use Rattle.ev_body_steps.proofs.TakenSteps.{edges_at_end}
use Rattle.ev_relation.proofs.Maps.{at_same, at_other}
use Rattle.ev_body_steps.proofs.ItemCallAgain.{AtFilled, failure_says, goes_filled}

-- ---- the block before the exchange, and words

module _ (address func to : ℕ) where
  -- what the block says at its opening, whatever became of the head
  pub stored_says : (mode : Mode) (stale : Bool)
      → SaysFilled address func to mode (block_of_call (is_fred mode) (layout_of mode) (AtLink address func to stale))
  stored_says Fred stale = record { opens = record_opens Fred _ _ _ _ _ _; words = refl }
  stored_says Idt stale = record { opens = record_opens Idt _ _ _ _ _ _; words = refl }

  failure_falls : (mode : Mode) → edges mode (body mode (InCall (BehindFailure address func to))) 0 < edges_at_end mode (AtLink address func to true)
  failure_falls Fred = (call_edges Fred FredFrame).failure address func to
  failure_falls Idt = (call_edges Idt IdtFrame).failure address func to

-- a word that is written again
put_again : (words : NatMap ℕ) (a : ℕ) → put_at words a (words a) ≡ words
put_again words a = λ i k. at_each k i
  where
    at_each : (k : ℕ) → put_at words a (words a) k ≡ words k
    at_each k = pick (k == a) refl
      where
        pick : (t : Bool) → (k == a) ≡ t → put_at words a (words a) k ≡ words k
        pick true e = at_same words a k (words a) (eqb-true k a e) ∙ ap words (sym (eqb-true k a e))
        pick false e = at_other words a k (words a) e

-- a comparison of two words that differ says so
differs : (a n : ℕ) → a < 2 ^ 64 → n < 2 ^ 64 → (a ≡ n → ⊥) → (difference a n).1.zero ≡ false
unfolding difference
differs a n la ln ne = ne_eqb (wrap (a + 2 ^ 64 - n)) 0 (λ q. ne (let z : (a + 2 ^ 64 - n) % 2 ^ 64 ≡ 0 = q in let r : a ≡ n = omega (arith, z, la, ln) in r))

module _ (mode : Mode) (image : Image) (built : IsBuilt image) (good : IsImage image) (facts : Facts mode image)
    (left : NatMap ℕ) (s : System) (m : Machine) (h : Stands mode image left s m) (p : ℕ) (hp : p < image.processors)
    (o : step.Top mode image built good facts left s m h p hp) (body' : Body) (is : slice_get image.bodies o.b.body ≡ Some body') where
  abbrev code : Code
  code = code_table mode image

  abbrev c : Processor
  c = s.cpus p

  abbrev b : BodyContext
  b = o.b

  abbrev x : abstract.Processor
  x = processor m p

  abbrev on : StandsOn mode image p (left p) s x
  on = step.on mode image built good facts left s m h p hp

  abbrev env : ℕ → (extra v : ℕ → ℕ) → Flags → Env
  env ss extra v f = here mode p o.κ o.σ ss o.w extra v f

  abbrev Stood : ℕ → BodyContext → Processor → Memory → Type 0
  Stood now b cpu mem = Active mode image p now o.κ o.σ on.frame (switches_at mode image on.switching o.below) (first_fill on.fills) o.w b cpu mem

  abbrev AtFilledPlace : (ss : ℕ) (extra v : ℕ → ℕ) (f : Flags) (offset address func to : ℕ) → Type 0
  AtFilledPlace ss extra v f offset address func to = AtFilled mode image built good facts left s m h p hp o ss extra v f offset address func to

  module _ (act : Stood on.own b c s.memory) (ss : ℕ) (ss_is : IsKernelSs mode ss) (extra v : ℕ → ℕ) (f : Flags) (address func to : ℕ) (stale : Bool)
      (at : At code (block mode (body mode (InCall (AtLink address func to stale)))) (block mode (body mode (InCall (AtLink address func to stale)))).steps
      (env ss extra v f) c s.memory)
      (means : InCallSpot mode image (origin_of o.κ) (AtLink address func to stale) (env ss extra v f) o.w b (first_fill on.fills) s.memory.words) where
    abbrev e : Env
    e = env ss extra v f

    abbrev head : ℕ
    head = pcpu to + head_offset

    -- At the exchange the record's link is RAX.
    pub at_exchange : AtFilledPlace ss extra v f 154 address func to × (s.memory.words (extra 22 + 0x18) ≡ v 0)
    unfolding head_regs eval
    at_exchange =
        let B : Block = block_of_call (is_fred mode) (layout_of mode) (AtLink address func to stale) in
        let says = stored_says address func to mode stale in
        let ends = (call_ends (is_fred mode) (layout_of mode)).links address func to stale in
        let link : Word = word (at_base record_tag 0x18) (X 0) in
        let z : SS = record B.opening { rip = at_base item_tag 154; words = link ∷ B.opening.words } in
        let there : At code B B.steps e c s.memory = subst (λ (q : Block). At code q q.steps e c s.memory) (block_is mode (AtLink address func to stale)) at in
        let agrees : Agrees e B.ground z c s.memory = subst (λ z. Agrees e B.ground z c s.memory) ends.is
        (at_end code B B.steps ends.z ends.runs e c s.memory there) in
        let known : Known e (win_of InRecord ∷ known_of mode) s.memory.words (link ∷ (filled_words address func ++ (opening_of mode).words))
        = subst (λ ws. Known e (win_of InRecord ∷ known_of mode) s.memory.words (link ∷ ws)) says.words
        (subst (λ W. Known e W s.memory.words (link ∷ B.opening.words)) says.opens.known agrees.words) in
        let frame : Known e (known_of mode) s.memory.words (opening_of mode).words = frame_alone mode e s.memory.words known.2.2.2.2.2.2.2.2 in
        let y : IsBeside mode B.opening = says.opens.beside in
        let beside : IsBeside mode z = record {
          gs = y.gs;
          kernel_gs = y.kernel_gs;
          selector = y.selector;
          rsp0 = y.rsp0;
          cr2 = y.cr2;
          blocked = y.blocked;
        } in
        let filled = means.2 in
        let fills = filled.fills in
        let free = first_free x.records on.fills (record { site = fills.site; number = fills.number }) on.free fills.is in
        let small = free.small in
        let few = good.count.1 in
        let record_is : extra 22 ≡ record_address p fills.site = fills.at in (
          record {
            act = act;
            ss_is = ss_is;
            kernel = ap is_user agrees.rest;
            near = omega arith;
            inside = means.0;
            place = means.1;
            filled = filled;
            flags = eval_flags e B.opening.flags;
            state = offset_from mode e B.ground z c s.memory 154 beside refl (head_long mode to) (head_rsp mode e to) agrees frame;
            regs_are = agrees.regs;
            known = known.2;
          },
          ap s.memory.words (let q : extra 22 + 0x18 ≡ (extra 22 + 0x18) % M = omega (arith, record_is, small, few, hp) in q) ∙ known.1,
        )

    abbrev y : AtFilledPlace ss extra v f 154 address func to
    y = at_exchange.0

    abbrev site : ℕ
    site = y.filled.fills.site

    abbrev item : ℕ
    item = item_address mode b.body body' b.place

    base : extra 20 ≡ item
    base = y.place ∙ ap (address_of_item mode b.body b.place) is

    pub item_is : item_at (Some body') b.place ≡ Some (Call site to func y.filled.s)
    item_is = ap (λ q. item_at q b.place) (sym is) ∙ y.filled.fills.item

    abbrev pub next : ℕ
    next = item + behind_exchange

    abbrev pub cell : Cell
    cell = record { ins = CmpXchg 2 (pos 0) 3; next = next; mark = IfEqual }

    here_is : c.rip ≡ item + 154
    here_is = let range = y.inside.range in let high = range.1 in let base_is = base in
        y.state.rip ∙ (let q : (extra 20 + 154) % M ≡ item + 154 = omega arith in q)

    pub found : code c.rip ≡ Some cell
    found = ap code here_is ∙ (call_code mode image facts b.body body' is b.place site to func y.filled.s item_is).exchange

    pub target : to < image.processors
    target = called_processor mode image built good facts left s m h p hp o to (site, func, y.filled.s, y.filled.fills.item)

    -- its registers
    pub rax : register c 0 ≡ v 0
    unfolding head_regs eval
    rax = ap (λ (xs : List ℕ). get_or xs 0 0) y.regs_are

    pub rdx : register c 2 ≡ head
    unfolding head_regs eval
    rdx = ap (λ (xs : List ℕ). get_or xs 2 0) y.regs_are

    pub rbx : register c 3 ≡ record_address p site
    unfolding head_regs eval
    rbx = ap (λ (xs : List ℕ). get_or xs 3 0) y.regs_are
        ∙ (let free = first_free x.records on.fills (record { site = site; number = y.filled.fills.number }) on.free y.filled.fills.is in
        let small = free.small in let few = good.count.1 in let record_is : extra 22 ≡ record_address p site = y.filled.fills.at in
        let q : (extra 22 + 0) % M ≡ record_address p site = omega (arith, record_is, small, few, hp) in q)

    -- the head is a word
    pub head_word : s.memory.words head < 2 ^ 64
    head_word = linked_word s.memory.words (s.memory.words head) (reverse (processor m to).queue) (h.shares.queues to target)

    -- what the exchange does
    pub exchanges : Leads c s.memory (CmpXchg 2 (pos 0) 3)
        (in_status (onward c (compared_regs c (s.memory.words head)) next) (difference (register c 0) (s.memory.words head)).1)
        (put_at s.memory.words head (compared_word c (s.memory.words head) 3))
    unfolding spelling four_bytes
    exchanges =
        let few = good.count.1 in
        let lto = target in
        let at_ins : IsAt c (CmpXchg 2 (pos 0) 3) next = record {
          kernel = y.kernel;
          flags = kept c.flags y.flags y.state.flags;
          ends = ap (λ k. k + 9) here_is ∙ (let q : item + 154 + 9 ≡ item + 163 = omega arith in q);
        } in
        let from : displaced (register c 2) (pos 0) ≡ head = ap (λ k. displaced k (pos 0)) rdx
        ∙ (let q : (pcpu to + head_offset + 0) % 2 ^ 64 ≡ pcpu to + head_offset = omega arith in q) in
        let opened : IsOpen s.memory.regions head = area_open image s.memory.regions h.regions_are to head_offset lto few refl (omega arith) in
        (singles c s.memory next).compares 2 (pos 0) 3 head at_ins from opened

  -- Where the head has changed since it was read, the exchange fails: an edge.
  pub by_failing : (act : Stood on.own b c s.memory) (ss : ℕ) → (ss_is : IsKernelSs mode ss) → (extra v : ℕ → ℕ) (f : Flags) (address func to : ℕ)
      → (at : At code (block mode (body mode (InCall (AtLink address func to true)))) (block mode (body mode (InCall (AtLink address func to true)))).steps
      (env ss extra v f) c s.memory)
      → (means : InCallSpot mode image (origin_of o.κ) (AtLink address func to true) (env ss extra v f) o.w b (first_fill on.fills) s.memory.words)
      → v 0 < 2 ^ 64 → (v 0 ≡ s.memory.words (pcpu to + head_offset) → ⊥) → edges_at_end mode (AtLink address func to true) ≤ on.own
      → Simulated mode image left s m p
  unfolding is_return spelling four_bytes head_regs
  by_failing act ss ss_is extra v f address func to at means small other enough =
      let z = at_exchange act ss ss_is extra v f address func to true at means in
      let y : AtFilledPlace ss extra v f 154 address func to = z.0 in
      let head : ℕ = pcpu to + head_offset in
      let n : ℕ = s.memory.words head in
      let rax : register c 0 ≡ v 0 = rax act ss ss_is extra v f address func to true at means in
      let next : ℕ = next act ss ss_is extra v f address func to true at means in
      let st : Status = (difference (register c 0) n).1 in
      let g : Flags = record y.flags { status = st } in
      let ne : (register c 0 == n) ≡ false = ap (λ k. k == n) rax ∙ ne_eqb (v 0) n other in
      let range = y.inside.range in
      let high = range.1 in
      let base_is = base act ss ss_is extra v f address func to true at means in
      let leads : Leads c s.memory (CmpXchg 2 (pos 0) 3) (gone c (set c.regs 0 n) g next) s.memory.words
      = goes_with c s.memory (CmpXchg 2 (pos 0) 3) y.flags (set c.regs 0 n) next s.memory.words st y.state.flags
      (subst (λ ws. Leads c s.memory (CmpXchg 2 (pos 0) 3) (in_status (onward c (set c.regs 0 n) next) st) ws) (put_again s.memory.words head)
      (subst (λ t. Leads c s.memory (CmpXchg 2 (pos 0) 3) (in_status (onward c (if t then c.regs else set c.regs 0 n) next) st)
      (put_at s.memory.words head (if t then register c 3 else n))) ne
      (exchanges act ss ss_is extra v f address func to true at means))) in
      let falls = failure_falls address func to mode in
      goes_filled mode image built good facts left s m h p hp o ss extra v f 154 address func to y (BehindFailure address func to) refl
      (failure_says address func to mode) refl (cell act ss ss_is extra v f address func to true at means)
      (found act ss ss_is extra v f address func to true at means)
      (ap (λ k. s.memory.words k == register c 0) (rdx act ss ss_is extra v f address func to true at means)
      ∙ ap (λ k. n == k) rax ∙ ne_eqb n (v 0) (λ q. other (sym q)))
      refl n g (step.masks_flags mode image built good facts left s m h p hp o y.flags y.state.flags) next behind_exchange
      (let q : next ≡ (extra 20 + 163) % M = omega arith in q) refl leads tt
      (λ inside place filling. (
        inside,
        place,
        filling,
        ap (λ k. (difference k n).1.zero) rax ∙ differs (v 0) n small (head_word act ss ss_is extra v f address func to true at means) other,
      )) (omega arith)
