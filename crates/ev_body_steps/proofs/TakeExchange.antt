-- The exchange of `take`, of the queue's head and 0, which is visible. The calls of the queue are the context's behind it, at the function of the first one,
-- and their list is left to be turned round.
use Rattle.std.proofs.Common.{◌≡◌, ℕ, suc, ◌+◌, ◌-◌, ◌%◌, ◌^◌, ◌<◌, ◌≤◌, true, false, not, List, [], ◌∷◌, get_or, set, map, length, None, Some, refl, sym, ap, ◌∙◌, subst, arith, length-append}
use Rattle.std.specs.Prelude.{negsuc, is_some, slice_get, ◌||◌, reverse}
use Rattle.std.proofs.lemmas.List.{get_or-set_same, get_or-set_other, length-set, length-reverse}
use Rattle.ev_isa.specs.Word.{NatMap, displaced, put_at}
use Rattle.ev_isa.specs.Flags.{Flags}
use Rattle.ev_isa.specs.Spelling.{spelling, four_bytes}
use Rattle.ev_isa.specs.declared.instruction.Ins.{Ins}
use Rattle.ev_isa.specs.declared.instruction.Ins.TheVariants.{MovImm, Xchg}
use Rattle.ev_isa.specs.declared.mode.Mode.{Mode}
use Rattle.ev_isa.specs.declared.mode.Mode.TheVariants.{Idt, Fred}
use Rattle.ev_body.specs.declared.item.Item.TheVariants.{Take}
use Rattle.ev_body.specs.declared.body.Body.{Body}
use Rattle.ev_body.specs.declared.image.Image.{Image}
use Rattle.ev_body.specs.WellFormed.{IsImage}
use Rattle.ev_listing.specs.AddressMap.{pcpu, head_offset}
use Rattle.ev_listing.specs.Expansion.{item_address}
use Rattle.ev_listing.specs.Marks.{Always}
use Rattle.ev_state.specs.Processor.{Processor, register}
use Rattle.ev_mem.specs.Memory.{Memory}
use Rattle.ev_abstract.specs.Context.{BodyContext, CallId}
use Rattle.ev_abstract.specs.CrossCall.{record_of, at_first_call}
use Rattle.ev_abstract.specs.ItemMeaning.{item_step, unknown_flags}
use Rattle.ev_abstract.specs.Machine.{Machine, processor}
use Rattle.ev_abstract.specs.Machine as abstract
use Rattle.ev_abstract.specs.Run.{item_at, turn}
use Rattle.ev_built.specs.Built.{IsBuilt}
use Rattle.ev_call_law.specs.Calls.{is_free, times}
use Rattle.ev_call_law.proofs.Counts.{times_same}
use Rattle.ev_concrete.specs.ConcreteRun.{System, is_return}
use Rattle.ev_concrete.specs.Shown.{shown_always}
use Rattle.ev_law.specs.Legal.{AreLegal, knows, runs_calls}
use Rattle.ev_symbolic.specs.Value.{V, K}
use Rattle.ev_symbolic.specs.Names.{item_tag}
use Rattle.ev_symbolic.specs.State.{Block}
use Rattle.ev_symbolic.specs.Single.{Leads, onward}
use Rattle.ev_symbolic.specs.Agrees.{Env, Code, Cell, Known, IsOpen, Stands as Lines, eval, FactsHold, At, with_words}
use Rattle.ev_symbolic.proofs.Single.{singles}
use Rattle.ev_activation.specs.Seat.{kind_of}
use Rattle.ev_blocks.specs.Calls.{AtTake, BehindTake, behind_take}
use Rattle.ev_blocks.specs.Items.{InCall}
use Rattle.ev_blocks.specs.Blocks.{block, edges}
use Rattle.ev_blocks.specs.Blocks as blocks
use Rattle.ev_paths.specs.CallEnds.{item_regs}
use Rattle.ev_table.specs.Table.{code_table}
use Rattle.ev_relation.specs.Filling.{first_fill, rest_fills}
use Rattle.ev_relation.specs.Named.{Head}
use Rattle.ev_relation.specs.Active.{item_place, address_of_item, here, IsKernelSs, Locals, LocalsBut, BeginsCall, InCallSpot, Taking, InTake, Turns, Active}
use Rattle.ev_relation.specs.Relation.{HoldsCall, IsContext, StandsOn, Stands, switches_at}
use Rattle.ev_relation.specs.Step.{Simulated}
use Rattle.ev_relation.proofs.After.{KeepsCalls}
use Rattle.ev_relation.proofs.CallKinds.{origin_of, plain_knows}
use Rattle.ev_relation.proofs.Facts.{Facts}
use Rattle.ev_relation.proofs.Legality.{turn_legal}
use Rattle.ev_relation.proofs.Spots.{is_spot}
use Rattle.ev_relation.proofs.Stays.{AreKept}
use Rattle.ev_body_steps.proofs.Bodies.{body, layout_of, means_at, saved_again}
use Rattle.ev_body_steps.proofs.CallCells.{TakeCode, take_code}
use Rattle.ev_body_steps.proofs.CallFirst.{AreKept as LocalsKept}
use Rattle.ev_body_steps.proofs.CallFunctions.{after_take_is, begins_call, locals_but}
use Rattle.ev_body_steps.proofs.CallGoes.{block_is, ends_of}
use Rattle.ev_body_steps.proofs.CallGoes as goes
use Rattle.ev_body_steps.proofs.CallKeeps as keeping
use Rattle.ev_body_steps.proofs.CallPlaces.{item_regs_are, same_rsp}
use Rattle.ev_body_steps.proofs.ItemAddresses.{area_open}
use Rattle.ev_body_steps.proofs.ItemCells.{edges_stand}
use Rattle.ev_body_steps.proofs.ItemState.{with_registers, opening_of, known_of, gone, any_known, beyond_registers}
use Rattle.ev_body_steps.proofs.ItemVisible.{goes_onward, legal_context}
use Rattle.ev_body_steps.proofs.ItemWords.{keeps_known}
use Rattle.ev_body_steps.proofs.KernelStep as step
use Rattle.ev_body_steps.proofs.QueueLength.{queue_short}
use Rattle.ev_body_steps.proofs.TakeHolds.{are, changes, turning, queues, keeps, taken_here}
use Rattle.ev_body_steps.proofs.TakeQueue.{emptied, behind, own_is, own_stays, others_stay, same_words, same_pages, same_cells}

-- ---- the context at its first call

-- the calls are its own
first_calls : (image : Image) (m : Machine) (b : BodyContext) (ks : List CallId) → (at_first_call image m b ks).calls ≡ ks
first_calls image m b [] = refl
first_calls image m b (k ∷ ks) = refl

-- nothing is known of its flags
first_flags : (image : Image) (m : Machine) (b : BodyContext) (ks : List CallId) → (at_first_call image m (unknown_flags b) ks).flags ≡ None
first_flags image m b [] = refl
first_flags image m b (k ∷ ks) = refl

-- the vector that it serves, IF and its kind are those of before
first_service : (image : Image) (m : Machine) (b : BodyContext) (ks : List CallId) → (at_first_call image m b ks).service ≡ b.service
first_service image m b [] = refl
first_service image m b (k ∷ ks) = refl

first_interrupts : (image : Image) (m : Machine) (b : BodyContext) (ks : List CallId) → (at_first_call image m b ks).interrupts ≡ b.interrupts
first_interrupts image m b [] = refl
first_interrupts image m b (k ∷ ks) = refl

first_kind : (image : Image) (m : Machine) (b : BodyContext) (ks : List CallId) (below : List BodyContext)
    → kind_of image (at_first_call image m (unknown_flags b) ks) below ≡ kind_of image b below
first_kind image m b [] below = refl
first_kind image m b (k ∷ ks) below = refl

-- ---- the blocks

-- the block behind the exchange is one of a body, with few edges left
behind_spot : (mode : Mode) (n : ℕ) → is_spot mode (body mode (InCall (BehindTake n))) ≡ true
behind_spot Fred n = refl
behind_spot Idt n = refl

behind_few : (mode : Mode) (n : ℕ) → n ≤ 64 → edges mode (body mode (InCall (BehindTake n))) 0 ≤ 560
behind_few Fred n l = omega (arith, l)
behind_few Idt n l = omega (arith, l)

-- the head of the queue, from the first record
head_from : (a : ℕ) → a + 0x800 < 2 ^ 64 → displaced (a + 0x800) (negsuc 0x7cf) ≡ a + head_offset
head_from a l = let z : (a + 0x800 + (2 ^ 64 - 0x7d0)) % 2 ^ 64 ≡ a + 0x30 = omega (arith, l) in z

module _ (mode : Mode) (image : Image) (built : IsBuilt image) (good : IsImage image) (facts : Facts mode image)
    (left : NatMap ℕ) (s : System) (m : Machine) (h : Stands mode image left s m) (p : ℕ) (hp : p < image.processors)
    (o : step.Top mode image built good facts left s m h p hp) (body' : Body) (is : slice_get image.bodies o.b.body ≡ Some body') where
  abbrev code : Code
  code = code_table mode image

  abbrev c : Processor
  c = s.cpus p

  abbrev b : BodyContext
  b = o.b

  abbrev x : abstract.Processor
  x = processor m p

  abbrev on : StandsOn mode image p (left p) s x
  on = step.on mode image built good facts left s m h p hp

  abbrev words : NatMap ℕ
  words = s.memory.words

  abbrev queue : List CallId
  queue = x.queue

  abbrev env : ℕ → (extra v : ℕ → ℕ) → Flags → Env
  env ss extra v f = here mode p o.κ o.σ ss o.w extra v f

  abbrev Stood : ℕ → BodyContext → Processor → Memory → Type 0
  Stood now b cpu mem = Active mode image p now o.κ o.σ on.frame (switches_at mode image on.switching o.below) (first_fill on.fills) o.w b cpu mem

  -- memory behind the exchange
  abbrev words' : NatMap ℕ
  words' = put_at words (pcpu p + head_offset) 0

  -- the machine in which the calls are taken, the context behind the exchange, and the machine with it
  abbrev taken : Machine
  taken = emptied m p o.b o.below o.bodies

  abbrev first : List CallId → BodyContext
  first ks = at_first_call image taken (unknown_flags b) ks

  abbrev b' : BodyContext
  b' = first queue

  abbrev m' : Machine
  m' = behind m p o.b o.below o.bodies b'

  -- the turn of the abstract machine, which shows nothing
  turned : (b.interrupts ≡ true → c.sti_blocked ≡ false) → item_at (Some body') b.place ≡ Some Take → turn image m p ≡ (m', [])
  unfolding item_step
  turned unblocked hi = step.turns mode image built good facts left s m h p hp o unblocked Take (ap (λ q. item_at q b.place) is ∙ hi)

  -- the list is left to be turned round
  turns : Turns mode image words' (words (pcpu p + head_offset)) 0 queue (length (turning mode image built good facts left s m h p hp o).0.ahead)
  turns = record { list = (turning mode image built good facts left s m h p hp o).0; many = refl }

  -- of at most 64 calls
  short : length turns.list.ahead ≤ 64
  unfolding turns
  short =
      let all = queue_short image m h.told h.calls p good in
      let list = turns.list in
      let are = ap length list.are ∙ length-append (reverse list.ahead) list.behind in
      let same = length-reverse list.ahead in omega (arith, all, are, same)

  -- ---- what the context begins

  -- the record of the first call has what its function begins with
  begins : (v : ℕ → ℕ) → Locals mode image v b → item_at (Some body') b.place ≡ Some Take → (ks : List CallId)
      → ((k : CallId) → 0 < times k ks → HoldsCall mode image words' k.from k.site (record_of taken k) × (is_free (record_of taken k).state ≡ false))
      → BeginsCall mode image words' (first ks) ks
  begins v locals hi [] has = tt
  begins v locals hi (k ∷ ks) has =
      let z = has k (let n = times_same k ks in omega (arith, n)) in
      begins_call mode image good built facts (unknown_flags b) body' is b.place hi v words' taken k ks locals z.0 z.1

  -- the context stands at that function, or behind `take` where there is no call
  in_take : (u : Env) → item_at (Some body') b.place ≡ Some Take → u.base item_tag ≡ item_place mode image b.body b.place → (ks : List CallId)
      → InTake mode image u (first ks)
  in_take u hi base [] = record {
    n = b.place;
    behind = after_take_is mode image good built facts b body' is b.place hi;
    code = (ap (λ q. item_at q b.place) is ∙ hi, base);
    none = λ e. after_take_is mode image good built facts b body' is b.place hi;
  }
  in_take u hi base (k ∷ ks) = record {
    n = b.place;
    behind = after_take_is mode image good built facts b body' is b.place hi;
    code = (ap (λ q. item_at q b.place) is ∙ hi, base);
    none = λ e. absurd (cc);
  }

  module _ (unfilled : first_fill on.fills ≡ None) (act : Stood on.own b c s.memory) (ss : ℕ) (ss_is : IsKernelSs mode ss) (extra v : ℕ → ℕ) (f : Flags)
      (at : At code (block mode (body mode (InCall AtTake))) (block mode (body mode (InCall AtTake))).steps (env ss extra v f) c s.memory)
      (means : InCallSpot mode image (origin_of o.κ) AtTake (env ss extra v f) o.w b (first_fill on.fills) words) where
    abbrev e : Env
    e = env ss extra v f

    abbrev a : ℕ
    a = item_address mode b.body body' b.place

    abbrev head : ℕ
    head = pcpu p + head_offset

    abbrev rs : List V
    rs = set (item_regs (layout_of mode)) 0 (K 0)

    -- its item, whose place and code these are
    hi : item_at (Some body') b.place ≡ Some Take
    hi = ap (λ q. item_at q b.place) (sym is) ∙ means.2

    base : extra 20 ≡ a
    base = means.1 ∙ ap (address_of_item mode b.body b.place) is

    cells : TakeCode code a (item_address mode b.body body' (suc b.place))
    cells = take_code mode image facts b.body body' is b.place hi

    -- the exchange's place, with 0 in RAX
    at_exchange : goes.AtPlace mode image built good facts left s m h p hp o ss extra v f 19 × (c.regs ≡ map (eval e) rs)
    unfolding eval
    at_exchange = goes.behind_block mode image built good facts left s m h p hp o AtTake refl unfilled act ss ss_is extra v f means.0.range at 19
        (omega arith) rs ((ends_of mode).take) refl refl

    abbrev y : goes.AtPlace mode image built good facts left s m h p hp o ss extra v f 19
    y = at_exchange.0

    abbrev ins : Ins
    ins = Xchg 2 (negsuc 0x7cf) 0

    abbrev next : ℕ
    next = a + behind_take

    abbrev cell : Cell
    cell = record { ins = ins; next = next; mark = Always }

    -- the instruction that it finds is the exchange, which is marked
    found : code c.rip ≡ Some cell
    found = ap code (goes.rip_is mode image built good facts left s m h p hp o ss extra v f 19 y ∙ ap (λ q. q + 19) base) ∙ cells.seen

    -- registers behind it: the old head in RAX
    abbrev regs : List ℕ
    regs = set c.regs 0 (words head)

    abbrev cpu : Processor
    cpu = gone c regs y.flags next

    wide : length regs ≡ 16
    wide = length-set c.regs 0 (words head) ∙ y.state.long

    -- the processor does it
    leads : Leads c s.memory ins cpu words'
    unfolding eval spelling four_bytes
    leads =
        let few = good.count.1 in
        let small = step.small mode image built good facts left s m h p hp in
        let is_base = base in
        let rdx : register c 2 ≡ pcpu p + 0x800 = ap (λ (xs : List ℕ). get_or xs 2 0) at_exchange.1 ∙ means.3 in
        let rax : register c 0 ≡ 0 = ap (λ (xs : List ℕ). get_or xs 0 0) at_exchange.1 in
        let address : displaced (register c 2) (negsuc 0x7cf) ≡ head = ap (λ q. displaced q (negsuc 0x7cf)) rdx ∙ head_from (pcpu p) (omega (arith, small)) in
        let at_ins = goes.at_instruction mode image built good facts left s m h p hp o ss extra v f 19 y ins next (omega (arith, is_base)) in
        let opened : IsOpen s.memory.regions head = area_open image s.memory.regions h.regions_are p head_offset hp few refl (omega arith) in
        goes_onward c s.memory ins y.flags regs next words' y.state.flags
        (subst (λ n. Leads c s.memory ins (onward c regs next) (put_at words head n)) rax
        ((singles c s.memory next).exchanges 2 (negsuc 0x7cf) 0 head at_ins address opened))

    -- locals and the list of calls stay in their registers
    kept : LocalsKept v regs
    unfolding eval
    kept = subst (λ (xs : List ℕ). LocalsKept v (set xs 0 (words head))) (sym at_exchange.1) (record { locals = refl; calls = refl })

    abbrev u : Env
    u = env ss extra (with_registers regs v) y.flags

    abbrev n : ℕ
    n = length turns.list.ahead

    -- it stands behind the exchange, at the block that goes on
    stands : At code (block mode (body mode (InCall (BehindTake n)))) 0 u cpu (with_words s.memory words')
    unfolding eval spelling four_bytes
    stands =
        let small = step.small mode image built good facts left s m h p hp in
        let high = y.range.1 in
        let is_base = base in
        let known : Known e (known_of mode) words' (opening_of mode).words
        = keeps_known mode image built good facts left s m h p hp o ss extra v f (Head p) 0 small y.state.words in
        let rsp : get_or regs 4 0 ≡ get_or c.regs 4 0 = get_or-set_other c.regs 0 4 (words head) 0 (λ q. omega (arith, q)) in
        let stack = rsp ∙ same_rsp mode p o.κ o.σ ss o.w extra v f c s.memory 19 y.flags y.state extra v refl refl refl in
        goes.call_stands mode image built good facts left s m h p hp o ss extra v f 19 y (BehindTake n) refl (behind_spot mode n) extra v
        refl refl refl refl regs y.flags next behind_take words' wide rsp (omega (arith, is_base, high)) refl (item_regs_are mode u regs v refl wide stack)
        known (any_known mode p o.κ o.σ ss o.w extra extra v f y.flags regs words' known)
        (subst (λ (B : Block). FactsHold u B.ground.facts) (sym (block_is mode (BehindTake n))) tt)
        (subst (λ (B : Block). Lines code u B.lines) (sym (block_is mode (BehindTake n)))
        (edges_stand code u a behind_take (MovImm 14 0 ∷ []) base (omega arith) cells.start))

    -- What the context is behind the exchange, where its blocks go on.
    taking : Taking mode image (origin_of o.κ) u o.w b' false false words'
    taking = record {
      range = y.range;
      saved = saved_again mode image (origin_of o.κ) e u o.w (beyond_registers regs v) refl refl refl means.0.saved;
      locals = subst (λ ks. LocalsBut mode image (not (runs_calls ks) || false) (not (runs_calls ks) || false) (with_registers regs v) b')
          (sym (first_calls image taken (unknown_flags b) queue))
          (locals_but mode image good built facts (with_registers regs v) taken (unknown_flags b) queue (means.0.locals ∙ sym kept.locals));
      flags = first_flags image taken b queue;
      begins = subst (BeginsCall mode image words' b') (sym (first_calls image taken (unknown_flags b) queue))
          (begins v means.0.locals hi queue (taken_here mode image built good facts left s m h p hp o b'));
    }

    -- at the block that goes on
    means_behind : InCallSpot mode image (origin_of o.κ) (BehindTake n) u o.w b' (first_fill on.fills) words'
    unfolding turns
    means_behind = (
      taking,
      in_take u hi means.1 queue,
      subst (λ ks. Turns mode image words' (u.var 0) 0 ks n) (sym (first_calls image taken (unknown_flags b) queue))
          (subst (λ q. Turns mode image words' q 0 queue n)
          (sym (get_or-set_same c.regs 0 (words head) 0 (let long = y.state.long in omega (arith, long)))) turns),
    )

    -- The exchange is a turn.
    pub at_take : Simulated mode image left s m p
    unfolding is_return shown_always
    at_take =
        let g : Flags = y.flags in
        let plain = step.plain_kind mode image built good facts left s m h p hp o in
        let now : ℕ = edges mode (body mode (InCall (BehindTake n))) 0 in
        let act' : Stood now b' cpu (with_words s.memory words') = record {
          stands = record {
            spot = body mode (InCall (BehindTake n));
            k = 0;
            extra = extra;
            var = with_registers regs v;
            flags = g;
            ss = ss;
            ss_is = ss_is;
            masked = step.masks_flags mode image built good facts left s m h p hp o g y.state.flags
                ∙ sym (first_interrupts image taken (unknown_flags b) queue);
            within = omega arith;
            enough = omega arith;
            at = stands;
            long = wide;
          };
          switches = sym o.off;
          fills = sym (ap is_some unfilled);
          knows = plain_knows mode o.κ on.frame plain (blocks.holds (body mode (InCall (BehindTake n))));
          means = means_at mode image o.κ plain (InCall (BehindTake n)) u o.w b' (first_fill on.fills) words' means_behind;
        } in
        let unblocked : b.interrupts ≡ true → c.sti_blocked ≡ false = λ i. y.state.blocked in
        let ht : turn image m p ≡ (m', []) = turned unblocked hi in
        let ctx : IsContext mode image b' = legal_context image (knows image m') b' o.below mode
        (subst (λ (q : abstract.Processor). AreLegal image (knows image m') q.bodies) (own_is m p o.b o.below o.bodies b')
        ((turn_legal image good built.accepted m p hp h.legal (m', []) ht).each p).bodies) in
        let kp : KeepsCalls mode image p (left p) s x on (processor m' p).records words'
        = subst (λ (z : StandsOn mode image p (left p) s x). KeepsCalls mode image p (left p) s x z (processor m' p).records words')
        (sym (step.on_is mode image built good facts left s m h p hp)) (keeps mode image built good facts left s m h p hp o b' p hp) in
        let beneath : AreKept p (rest_fills on.fills) o.below words words'
        = (subst (λ bs. AreKept p on.fills bs words words') o.bodies kp.kept).1 in
        let names_are = are mode image built good facts left s m h p hp o in
        let written = changes mode image built good facts left s m h p hp o in
        keeping.turns mode image built good facts left s m h p hp o words' (Head p ∷ []) names_are written on.fills unblocked cell found Always refl refl refl
        y.kernel (step.outside mode image built good facts left s m h p hp o act) cpu leads (step.blocked mode image built good facts left s m h p hp)
        m' [] ht b' (first_service image taken (unknown_flags b) queue)
        (record {
          own = own_stays m p o.b o.below o.bodies b';
          others = others_stay m p o.b o.below o.bodies b';
          same_words = same_words m p o.b o.below o.bodies b';
          same_pages = same_pages m p o.b o.below o.bodies b';
          same_cells = same_cells m p o.b o.below o.bodies b';
          queues = queues mode image built good facts left s m h p hp o b';
          free = kp.free;
          records = kp.records;
          each = λ q lq e. keeps mode image built good facts left s m h p hp o b' q lq;
          chain = λ edges' cpu' stood. step.with_last_filling mode image built good facts left s m h p hp o b' (first_kind image taken b queue o.below ∙ o.kind)
              ctx edges' cpu' words' (Head p ∷ []) names_are.allowed.written names_are.unknown written beneath on.fills refl stood;
        })
        now (behind_few mode n short) act' (λ counted. refl)
