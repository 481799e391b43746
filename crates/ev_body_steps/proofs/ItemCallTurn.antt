-- The exchange of `call` where it succeeds, which is visible: the record is the last one of the target's queue, nobody fills it, and the context has its
-- answer.
use Rattle.std.proofs.Common.{◌≡◌, ℕ, suc, ◌+◌, ◌-◌, ◌/◌, ◌%◌, ◌^◌, ◌<◌, ◌≤◌, Bool, true, false, List, [], ◌∷◌, get_or, set, map, length, Option, None, Some, refl, sym, ap, ◌∙◌, subst, arith, eq-eqb}
use Rattle.std.specs.Prelude.{pos, slice_get, if◌then◌else◌, ◌==◌, reverse, nat_lt, ◌&&◌}
use Rattle.std.proofs.lemmas.Bool.{eqb-true, ne_eqb, ltb-true, not-false}
use Rattle.std.proofs.lemmas.List.{length-reverse}
use Rattle.ev_isa.specs.Word.{NatMap, wrap, put_at}
use Rattle.ev_isa.specs.Flags.{Flags, difference}
use Rattle.ev_isa.specs.declared.instruction.Ins.{Ins}
use Rattle.ev_isa.specs.declared.instruction.Ins.TheVariants.{CmpXchg}
use Rattle.ev_isa.specs.declared.mode.Mode.{Mode}
use Rattle.ev_isa.specs.declared.mode.Mode.TheVariants.{Idt, Fred}
use Rattle.ev_body.specs.declared.item.Item.TheVariants.{Call}
use Rattle.ev_body.specs.declared.body.Body.{Body}
use Rattle.ev_body.specs.declared.image.Image.{Image}
use Rattle.ev_body.specs.WellFormed.{IsImage}
use Rattle.ev_listing.specs.AddressMap.{pcpu, head_offset, record_address}
use Rattle.ev_listing.specs.Expansion.{item_address}
use Rattle.ev_listing.specs.Marks.{IfEqual}
use Rattle.ev_law.specs.Legal.{AreLegal, knows}
use Rattle.ev_law.proofs.Ruled.{body_ruled}
use Rattle.ev_state.specs.Processor.{Processor, register}
use Rattle.ev_mem.specs.Memory.{Memory}
use Rattle.ev_abstract.specs.declared.entry.Entry.{Entry}
use Rattle.ev_abstract.specs.Context.{BodyContext, CallId, local, with_local, onward}
use Rattle.ev_abstract.specs.CrossCall.{new_record, queue_answer, queued}
use Rattle.ev_abstract.specs.ItemMeaning.{item_step, called, with_context, unknown_flags}
use Rattle.ev_abstract.specs.Machine.{CallRecord, CallState, Free, Machine, processor}
use Rattle.ev_abstract.specs.Machine as abstract
use Rattle.ev_abstract.specs.Rules.{breaks_slots}
use Rattle.ev_abstract.specs.Run.{item_at, turn}
use Rattle.ev_concrete.specs.ConcreteRun.{System, is_return}
use Rattle.ev_concrete.specs.Shown.{record_word, record_site, queue_owner}
use Rattle.ev_built.specs.Built.{IsBuilt}
use Rattle.ev_calls.specs.Records.{Linked}
use Rattle.ev_calls.proofs.Lists.{empty_at_zero}
use Rattle.ev_call_law.specs.Calls.{is_id}
use Rattle.ev_call_law.proofs.Counts.{same_call, equal_sym}
use Rattle.ev_symbolic.specs.Value.{M}
use Rattle.ev_symbolic.specs.Single.{Leads, onward as next_of, in_status}
use Rattle.ev_symbolic.specs.Agrees.{Env, Code, Known, eval, At, with_words}
use Rattle.ev_symbolic.proofs.Values.{and_right}
use Rattle.ev_blocks.specs.Calls.{AtLink, AtOffset, behind_exchange}
use Rattle.ev_blocks.specs.Items.{InCall}
use Rattle.ev_blocks.specs.Blocks.{block, edges, item_edges}
use Rattle.ev_blocks.specs.Blocks as blocks
use Rattle.ev_table.specs.Table.{code_table}
use Rattle.ev_relation.specs.Filling.{Filling, IsFree, first_fill, rest_fills, AreFree}
use Rattle.ev_relation.specs.Named.{Named, Head}
use Rattle.ev_relation.specs.Active.{address_of_item, here, IsKernelSs, HoldsCalls, InCallSpot, Answering, BehindExchange, Active}
use Rattle.ev_relation.specs.Relation.{IsContext, HoldsCall, StandsOn, Stands, switches_at}
use Rattle.ev_relation.specs.Step.{IsCounted, Simulated}
use Rattle.ev_relation.proofs.CallHolders.{AreAlone, first_free, is_of}
use Rattle.ev_relation.proofs.CallKinds.{origin_of, plain_knows}
use Rattle.ev_relation.proofs.CallNames.{list_spared}
use Rattle.ev_relation.proofs.Counted.{next_kept}
use Rattle.ev_relation.proofs.Facts.{Facts}
use Rattle.ev_relation.proofs.Legality.{turn_legal}
use Rattle.ev_relation.proofs.Maps.{at_same}
use Rattle.ev_body_steps.proofs.Bodies.{body, means_at, saved_again}
use Rattle.ev_body_steps.proofs.CallFills.{alone}
use Rattle.ev_body_steps.proofs.CallFirst.{AreKept}
use Rattle.ev_body_steps.proofs.CallGoes.{offset_spot, offset_facts, offset_lines, call_spot_opens}
use Rattle.ev_body_steps.proofs.CallPlaces.{item_regs_are, same_rsp}
use Rattle.ev_body_steps.proofs.CallQueued.{queued_record}
use Rattle.ev_body_steps.proofs.CallSteps as calls
use Rattle.ev_body_steps.proofs.ItemCallAgain.{AtFilled}
use Rattle.ev_body_steps.proofs.ItemCallAnswer.{answer_of}
use Rattle.ev_body_steps.proofs.ItemCallExchange as exchange
use Rattle.ev_body_steps.proofs.ItemCallHead.{head_regs}
use Rattle.ev_body_steps.proofs.ItemCallMakes as made
use Rattle.ev_body_steps.proofs.ItemCallPushed as pushed
use Rattle.ev_body_steps.proofs.ItemState.{with_registers, opening_of, known_of, gone, any_known, beyond_registers}
use Rattle.ev_body_steps.proofs.ItemVisible.{goes_with, legal_context}
use Rattle.ev_body_steps.proofs.ItemWords.{keeps_known}
use Rattle.ev_body_steps.proofs.KernelStep as step
use Rattle.ev_body_steps.proofs.TakenSteps.{edges_at_end}

-- the answer is told by the old head, which is 0 where the queue is empty
answer_told : (words : NatMap ℕ) (a : ℕ) (queue : List CallId) → Linked words a (reverse queue) → queue_answer queue ≡ answer_of (a == 0)
answer_told words a [] l = ap answer_of (sym (eq-eqb a 0 l))
answer_told words a (k ∷ ks) l = ap answer_of (sym (ne_eqb a 0 (λ e.
    let none : reverse (k ∷ ks) ≡ [] = empty_at_zero words (reverse (k ∷ ks)) (subst (λ n. Linked words n (reverse (k ∷ ks))) e l) in
    let long : suc (length ks) ≡ 0 = sym (length-reverse (k ∷ ks)) ∙ ap length none in omega (arith, long))))

-- a comparison of two words that are the same says so
same_zero : (a n : ℕ) → a ≡ n → (difference a n).1.zero ≡ true
unfolding difference
same_zero a n e = eq-eqb (wrap (a + 2 ^ 64 - n)) 0 (let z : (a + 2 ^ 64 - n) % 2 ^ 64 ≡ 0 = omega (arith, e) in z)

-- another site's call
other_site : (p k site : ℕ) → is_id (record { from = p; site = k }) (record { from = p; site = site }) ≡ false → (site == k) ≡ false
other_site p k site off = equal_sym site k ∙ sym (ap (λ t. t && (k == site)) (eq-eqb p p refl)) ∙ off

-- what contexts below fill is free
rest_free : (records : NatMap CallRecord) (fs : List (Option Filling)) → AreFree records fs → AreFree records (rest_fills fs)
rest_free records [] h = tt
rest_free records (f ∷ fs) h = h.1

-- the registers, but for the record and the address of the head, are the variables
link_kept : (mode : Mode) (e : Env) (to : ℕ) → AreKept e.var (map (eval e) (head_regs mode to))
unfolding head_regs eval
link_kept mode e to = record { locals = refl; calls = refl }

-- the edges behind it
abbrev hand : ℕ
hand = item_edges + 5

hand_few : (mode : Mode) → edges mode (body mode (InCall (AtOffset behind_exchange hand))) 0 ≤ 560
hand_few Fred = omega arith
hand_few Idt = omega arith

module _ (mode : Mode) (image : Image) (built : IsBuilt image) (good : IsImage image) (facts : Facts mode image)
    (left : NatMap ℕ) (s : System) (m : Machine) (h : Stands mode image left s m) (p : ℕ) (hp : p < image.processors)
    (o : step.Top mode image built good facts left s m h p hp) (body' : Body) (is : slice_get image.bodies o.b.body ≡ Some body') where
  abbrev code : Code
  code = code_table mode image

  abbrev c : Processor
  c = s.cpus p

  abbrev b : BodyContext
  b = o.b

  abbrev x : abstract.Processor
  x = processor m p

  abbrev on : StandsOn mode image p (left p) s x
  on = step.on mode image built good facts left s m h p hp

  abbrev words : NatMap ℕ
  words = s.memory.words

  abbrev env : ℕ → (extra v : ℕ → ℕ) → Flags → Env
  env ss extra v f = here mode p o.κ o.σ ss o.w extra v f

  abbrev Stood : ℕ → BodyContext → Processor → Memory → Type 0
  Stood now b cpu mem = Active mode image p now o.κ o.σ on.frame (switches_at mode image on.switching o.below) (first_fill on.fills) o.w b cpu mem

  module _ (act : Stood on.own b c s.memory) (ss : ℕ) (ss_is : IsKernelSs mode ss) (extra v : ℕ → ℕ) (f : Flags) (address func to : ℕ) (stale : Bool)
      (at : At code (block mode (body mode (InCall (AtLink address func to stale)))) (block mode (body mode (InCall (AtLink address func to stale)))).steps
      (env ss extra v f) c s.memory)
      (means : InCallSpot mode image (origin_of o.κ) (AtLink address func to stale) (env ss extra v f) o.w b (first_fill on.fills) s.memory.words)
      (equal : v 0 ≡ s.memory.words (pcpu to + head_offset)) where
    abbrev e : Env
    e = env ss extra v f

    abbrev head : ℕ
    head = pcpu to + head_offset

    abbrev y : AtFilled mode image built good facts left s m h p hp o ss extra v f 154 address func to
    y = (exchange.at_exchange mode image built good facts left s m h p hp o body' is act ss ss_is extra v f address func to stale at means).0

    abbrev site : ℕ
    site = y.filled.fills.site

    abbrev r : ℕ
    r = y.filled.s

    abbrev fill : Filling
    fill = record { site = site; number = y.filled.fills.number }

    abbrev call : CallId
    call = record { from = p; site = site }

    free : IsFree x.records fill (rest_fills on.fills)
    free = first_free x.records on.fills fill on.free y.filled.fills.is

    target : to < image.processors
    target = exchange.target mode image built good facts left s m h p hp o body' is act ss ss_is extra v f address func to stale at means

    low : site < 8
    low = free.small

    record_is : extra 22 ≡ record_address p site
    record_is = y.filled.fills.at

    -- its registers
    rax : register c 0 ≡ v 0
    rax = exchange.rax mode image built good facts left s m h p hp o body' is act ss ss_is extra v f address func to stale at means

    rdx : register c 2 ≡ head
    rdx = exchange.rdx mode image built good facts left s m h p hp o body' is act ss ss_is extra v f address func to stale at means

    rbx : register c 3 ≡ record_address p site
    rbx = exchange.rbx mode image built good facts left s m h p hp o body' is act ss ss_is extra v f address func to stale at means

    word : v 0 < M
    word = subst (λ n. n < M) (sym equal)
        (exchange.head_word mode image built good facts left s m h p hp o body' is act ss ss_is extra v f address func to stale at means)

    -- the record's link is the head
    link : words (record_address p site + 0x18) ≡ words head
    link = ap (λ a. words (a + 0x18)) (sym record_is)
        ∙ (exchange.at_exchange mode image built good facts left s m h p hp o body' is act ss ss_is extra v f address func to stale at means).1 ∙ equal

    -- ---- memory and the abstract machine behind it

    abbrev words' : NatMap ℕ
    words' = pushed.pushed_words mode image built good facts left s m h p hp o to target site low

    abbrev names : List Named
    names = pushed.pushed_names mode image built good facts left s m h p hp o to target site low

    abbrev mine : CallId → Bool
    mine = is_of mode image left s m h p hp b o.below o.bodies site

    abbrev fs : List (Option Filling)
    fs = None ∷ rest_fills on.fills

    abbrev answer : ℕ
    answer = queue_answer (processor m to).queue

    abbrev r' : CallRecord
    r' = new_record (x.records site) to func (local b r)

    abbrev b' : BodyContext
    b' = onward (with_local (unknown_flags b) r answer)

    abbrev m' : Machine
    m' = with_context (queued m call r') p b'

    abbrev entries : List Entry
    entries = Entry.Call p site r'.number to func r'.arg ∷ []

    its_own : AreAlone mode image left s m h p hp b o.below o.bodies mine
    its_own = alone mode image built good facts left s m h p hp o fill y.filled.fills.is

    are : calls.AreOfCalls p mine o.below names
    are = pushed.pushed_are mode image built good facts left s m h p hp o to target site low mine

    -- the turn of the abstract machine
    turned : turn image m p ≡ (m', entries)
    unfolding item_step
    turned = step.turns mode image built good facts left s m h p hp o (λ i. y.state.blocked) (Call site to func r) y.filled.fills.item
        ∙ ap (λ st. called m p b call st to func r) free.free

    makes : calls.Makes mode image built good facts left s m h p hp o mine its_own words' names are
        (pushed.pushed_changes mode image built good facts left s m h p hp o to target site low) fs refl
        (λ k off e. pushed.unfilled_before on.fills fill y.filled.fills.is k (other_site p k site off) e) m' b'
    makes = record {
      own = made.own_behind mode image built good facts left s m h p hp o to target site low r' refl b';
      others = made.others_behind mode image built good facts left s m h p hp o to target site low r' refl b';
      same_words = refl;
      same_pages = refl;
      same_cells = refl;
      queues = made.queues_behind mode image built good facts left s m h p hp o to target site low r' refl b' link;
      old = λ q k lt off. made.old_behind mode image built good facts left s m h p hp o to target site low r' refl b' q k off;
      held = λ q k lq lk on' unfilled. subst (λ (j : CallId). HoldsCall mode image words' j.from j.site ((processor m' j.from).records j.site))
          (sym (same_call (record { from = q; site = k }) call on')) held;
      free = made.free_behind mode image built good facts left s m h p hp o to target site low r' refl b' (rest_fills on.fills) free.alone
          (rest_free x.records on.fills on.free);
    }
      where
        held : HoldsCall mode image words' p site ((processor m' p).records site)
        held = subst (HoldsCall mode image words' p site)
            (sym (ap (λ (rs : NatMap CallRecord). rs site)
            (made.records_of mode image built good facts left s m h p hp o to target site low r' refl b' p ∙ queued_record m call r')
            ∙ at_same x.records site site r' refl))
            (pushed.held_behind mode image built good facts left s m h p hp o to target site low ss extra v f address func y refl)

    -- ---- the exchange

    abbrev n : ℕ
    n = words head

    abbrev a : ℕ
    a = item_address mode b.body body' b.place

    abbrev next : ℕ
    next = a + behind_exchange

    abbrev ins : Ins
    ins = CmpXchg 2 (pos 0) 3

    abbrev g : Flags
    g = record y.flags { status = (difference (register c 0) n).1 }

    abbrev cpu : Processor
    cpu = gone c c.regs g next

    abbrev u : Env
    u = env ss extra (with_registers c.regs v) g

    base : extra 20 ≡ a
    base = y.place ∙ ap (address_of_item mode b.body b.place) is

    -- the processor does it
    leads : Leads c s.memory ins cpu words'
    leads = goes_with c s.memory ins y.flags c.regs next words' (difference (register c 0) n).1 y.state.flags
        (subst (λ q. Leads c s.memory ins (in_status (next_of c c.regs next) (difference (register c 0) n).1) (put_at words head q)) rbx
        (subst (λ t. Leads c s.memory ins (in_status (next_of c (if t then c.regs else set c.regs 0 n) next) (difference (register c 0) n).1)
        (put_at words head (if t then register c 3 else n))) (eq-eqb (register c 0) n (rax ∙ equal))
        (exchange.exchanges mode image built good facts left s m h p hp o body' is act ss ss_is extra v f address func to stale at means)))

    -- it stands behind the exchange, before the branch
    stands : At code (block mode (body mode (InCall (AtOffset behind_exchange hand)))) 0 u cpu (with_words s.memory words')
    unfolding eval
    stands =
        let few = good.count.1 in
        let lto = target in
        let high = y.inside.range.1 in
        let base_is = base in
        let known : Known e (known_of mode) words' (opening_of mode).words
        = keeps_known mode image built good facts left s m h p hp o ss extra v f (Head to) (record_address p site) (omega (arith, few, lto)) y.state.words in
        let stack = same_rsp mode p o.κ o.σ ss o.w extra v f c s.memory 154 y.flags y.state extra v refl refl refl in
        call_spot_opens mode image built good facts left s m h p hp o ss extra v f 154 y.flags y.state y.inside.range (AtOffset behind_exchange hand) refl
        (offset_spot mode behind_exchange hand (omega arith)) extra v refl refl refl refl c.regs g next behind_exchange words' y.state.long refl
        (omega (arith, base_is, high)) refl (item_regs_are mode u c.regs v refl y.state.long stack) known
        (any_known mode p o.κ o.σ ss o.w extra extra v f g c.regs words' known) (offset_facts mode behind_exchange hand u)
        (offset_lines mode code behind_exchange hand u)

    -- the context's own calls are linked as they were
    still : (j : ℕ) (ks : List CallId) → HoldsCalls mode image words j ks → HoldsCalls mode image words' j ks
    still j [] l = tt
    still j (k ∷ ks) l = list_spared p o.σ names (step.small mode image built good facts left s m h p hp)
        (step.narrow mode image built good facts left s m h p hp o) words words' are.allowed.written
        (pushed.pushed_changes mode image built good facts left s m h p hp o to target site low) (λ i. false) tt j (k ∷ ks) (λ i some. refl) l

    kept : AreKept v c.regs
    kept = subst (AreKept v) (sym y.regs_are) (link_kept mode e to)

    -- what the context is behind it
    answering : Answering mode image (origin_of o.κ) u o.w b' r (answer_of (v 0 == 0)) words'
    answering = record {
      range = y.inside.range;
      saved = saved_again mode image (origin_of o.κ) e u o.w (beyond_registers c.regs v) refl refl refl y.inside.saved;
      is_local = y.filled.fills.is_local;
      locals = ap (λ xs. set xs (r - 6) answer) (y.inside.locals ∙ sym kept.locals)
          ∙ ap (λ q. set (u.var 6 ∷ u.var 7 ∷ u.var 8 ∷ u.var 9 ∷ u.var 10 ∷ u.var 11 ∷ u.var 12 ∷ u.var 13 ∷ []) (r - 6) q)
          (answer_told words n (processor m to).queue (h.shares.queues to target) ∙ ap (λ q. answer_of (q == 0)) (sym equal));
      flags = refl;
      calls = still (get_or c.regs 14 0) b.calls (subst (λ j. HoldsCalls mode image words j b.calls) (sym kept.calls) y.inside.calls);
      site = site;
      to = to;
      func = func;
      n = b.place;
      code = (y.filled.fills.item, y.place);
      next = refl;
    }

    -- ---- what it shows

    small_func : func < 8
    unfolding breaks_slots
    small_func =
        let hi : item_at (Some body') b.place ≡ Some (Call site to func r)
        = exchange.item_is mode image built good facts left s m h p hp o body' is act ss ss_is extra v f address func to stale at means in
        let ok : nat_lt site 8 && nat_lt to image.processors && nat_lt func 8 ≡ true
        = not-false _ ((body_ruled image good built.accepted.1.kept b.body body' is).slots b.place (Call site to func r) hi) in
        ltb-true func 8 (and_right (nat_lt site 8 && nat_lt to image.processors) _ ok)

    at_word : (i : ℕ) → record_word c words i ≡ words ((extra 22 + i) % M)
    at_word i = ap (λ q. words (wrap (q + i))) (rbx ∙ sym record_is)

    site_is : record_site c words ≡ site
    unfolding eval
    site_is = let l = low in ap (λ q. q % 2 ^ 8) (at_word 0x30 ∙ y.known.2.2.2.2.2.2.1 ∙ y.filled.fills.from_site)
        ∙ (let q : site % 2 ^ 8 ≡ site = omega (arith, l) in q)

    number_is : IsCounted s → record_word c words 0x28 ≡ suc (x.records site).number
    unfolding eval
    number_is counted = at_word 0x28 ∙ y.known.2.2.2.1 ∙ y.filled.number ∙ ap (λ q. suc q % M) (sym free.number)
        ∙ next_kept mode image left s m h counted call

    owner_is : queue_owner c ≡ to
    owner_is = let few = good.count.1 in let lto = target in
        ap (λ q. wrap (q + (2 ^ 64 - (pcpu 0 + 0x30))) / 0x10000 % 2 ^ 32) rdx
        ∙ (let q : (pcpu to + head_offset + (2 ^ 64 - (pcpu 0 + 0x30))) % 2 ^ 64 / 0x10000 % 2 ^ 32 ≡ to = omega (arith, few, lto) in q)

    func_is : record_word c words 0x38 % 2 ^ 32 ≡ func
    unfolding eval
    func_is = let l = small_func in ap (λ q. q % 2 ^ 32) (at_word 0x38 ∙ y.known.2.2.2.2.1) ∙ (let q : func % 2 ^ 32 ≡ func = omega (arith, l) in q)

    arg_is : record_word c words 0x10 ≡ local b r
    unfolding eval
    arg_is = at_word 0x10 ∙ y.known.2.2.1 ∙ y.filled.argument

    -- The exchange is a turn.
    pub by_succeeding : Simulated mode image left s m p
    unfolding is_return
    by_succeeding =
        let plain = step.plain_kind mode image built good facts left s m h p hp o in
        let spot = AtOffset behind_exchange hand in
        let now : ℕ = edges mode (body mode (InCall spot)) 0 in
        let act' : Active mode image p now o.κ o.σ on.frame (switches_at mode image on.switching o.below) None o.w b' cpu (with_words s.memory words')
        = record {
          stands = record {
            spot = body mode (InCall spot);
            k = 0;
            extra = extra;
            var = with_registers c.regs v;
            flags = g;
            ss = ss;
            ss_is = ss_is;
            masked = step.masks_flags mode image built good facts left s m h p hp o y.flags y.state.flags;
            within = omega arith;
            enough = omega arith;
            at = stands;
            long = y.state.long;
          };
          switches = sym o.off;
          fills = refl;
          knows = plain_knows mode o.κ on.frame plain (blocks.holds (body mode (InCall spot)));
          means = means_at mode image o.κ plain (InCall spot) u o.w b' None words' (BehindExchange refl refl r (v 0 == 0) answering
              (ap (λ q. q == 0) rax, subst (λ q. q < M) (sym rax) word) (same_zero (register c 0) n (rax ∙ equal)));
        } in
        let ctx : IsContext mode image b' = legal_context image (knows image m') b' o.below mode
        (subst (λ (q : abstract.Processor). AreLegal image (knows image m') q.bodies) makes.own
        ((turn_legal image good built.accepted m p hp h.legal (m', entries) turned).each p).bodies) in
        calls.turns mode image built good facts left s m h p hp o mine its_own words' names are
        (pushed.pushed_changes mode image built good facts left s m h p hp o to target site low) fs refl
        (λ k off q. pushed.unfilled_before on.fills fill y.filled.fills.is k (other_site p k site off) q) (λ i. y.state.blocked)
        (exchange.cell mode image built good facts left s m h p hp o body' is act ss ss_is extra v f address func to stale at means)
        (exchange.found mode image built good facts left s m h p hp o body' is act ss ss_is extra v f address func to stale at means) IfEqual refl
        (ap (λ k. words k == register c 0) rdx ∙ eq-eqb n (register c 0) (sym (rax ∙ equal))) refl y.kernel
        (step.outside mode image built good facts left s m h p hp o act) cpu leads (step.blocked mode image built good facts left s m h p hp)
        m' entries turned b' o.kind ctx refl makes now (hand_few mode) act'
        (λ counted i. Entry.Call p (site_is i) (number_is counted i) (owner_is i) (func_is i) (arg_is i) ∷ [])

  -- Where the link's block ends: a turn where the target's head is the one that was read, and else an edge.
  pub at_link_end : (act : Stood on.own b c s.memory) (ss : ℕ) → IsKernelSs mode ss → (extra v : ℕ → ℕ) (f : Flags) (address func to : ℕ) (stale : Bool)
      → At code (block mode (body mode (InCall (AtLink address func to stale)))) (block mode (body mode (InCall (AtLink address func to stale)))).steps
      (env ss extra v f) c s.memory
      → InCallSpot mode image (origin_of o.κ) (AtLink address func to stale) (env ss extra v f) o.w b (first_fill on.fills) s.memory.words
      → edges_at_end mode (AtLink address func to stale) ≤ on.own → Simulated mode image left s m p
  at_link_end act ss ss_is extra v f address func to stale at means enough = by_head (v 0 == s.memory.words (pcpu to + head_offset)) refl stale at means enough
    where
      by_head : (t : Bool) → (v 0 == s.memory.words (pcpu to + head_offset)) ≡ t → (stale : Bool)
          → At code (block mode (body mode (InCall (AtLink address func to stale)))) (block mode (body mode (InCall (AtLink address func to stale)))).steps
          (env ss extra v f) c s.memory
          → InCallSpot mode image (origin_of o.κ) (AtLink address func to stale) (env ss extra v f) o.w b (first_fill on.fills) s.memory.words
          → edges_at_end mode (AtLink address func to stale) ≤ on.own → Simulated mode image left s m p
      by_head true q stale at means enough = by_succeeding act ss ss_is extra v f address func to stale at means
          (eqb-true (v 0) (s.memory.words (pcpu to + head_offset)) q)
      by_head false q true at means enough = exchange.by_failing mode image built good facts left s m h p hp o body' is act ss ss_is extra v f address func to
          at means means.4 (λ z. let clash : false ≡ true = sym q ∙ eq-eqb (v 0) _ z in absurd (cc)) enough
      by_head false q false at means enough = let clash : false ≡ true = sym q ∙ eq-eqb (v 0) _ (sym means.3) in absurd (cc)
