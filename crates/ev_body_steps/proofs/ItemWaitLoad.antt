-- `wait` at its item, and at its visible load, which reads whether the site's call is done: what it reads, and where the abstract machine's context goes on.
use Rattle.std.proofs.Common.{◌≡◌, ℕ, suc, ◌+◌, ◌%◌, ◌^◌, ◌<◌, ◌≤◌, Bool, true, false, List, [], ◌∷◌, set, length, None, Some, refl, sym, ap, ◌∙◌, subst, arith}
use Rattle.std.specs.Prelude.{pos, slice_get, is_some, not, ◌&&◌, ◌==◌, nat_le, nat_lt, if◌then◌else◌}
use Rattle.std.specs.List.{list_any}
use Rattle.std.proofs.lemmas.Bool.{ltb-true, not-false}
use Rattle.ev_isa.specs.Word.{NatMap}
use Rattle.ev_isa.specs.Flags.{Flags}
use Rattle.ev_isa.specs.Spelling.{spelling, four_bytes}
use Rattle.ev_isa.specs.declared.instruction.Ins.{Ins}
use Rattle.ev_isa.specs.declared.instruction.Ins.TheVariants.{Load}
use Rattle.ev_isa.specs.declared.mode.Mode.{Mode}
use Rattle.ev_isa.specs.declared.mode.Mode.TheVariants.{Idt, Fred}
use Rattle.ev_body.specs.declared.item.Item.TheVariants.{Wait}
use Rattle.ev_body.specs.declared.body.Body.{Body}
use Rattle.ev_body.specs.declared.image.Image.{Image}
use Rattle.ev_body.specs.WellFormed.{IsImage}
use Rattle.ev_listing.specs.AddressMap.{record_address, nmi_entry, repeat_entry}
use Rattle.ev_listing.specs.Expansion.{item_address}
use Rattle.ev_listing.specs.Marks.{Always}
use Rattle.ev_state.specs.Processor.{Processor, is_user}
use Rattle.ev_mem.specs.Memory.{Memory}
use Rattle.ev_proc.specs.declared.stepped.Stepped.{Stepped}
use Rattle.ev_abstract.specs.Context.{CallId, BodyContext}
use Rattle.ev_abstract.specs.ItemMeaning.{item_step, waited, with_context}
use Rattle.ev_abstract.specs.Machine.{CallState, Free, Queued, Taken, CallRecord, Machine, processor}
use Rattle.ev_abstract.specs.Machine as abstract
use Rattle.ev_abstract.specs.Rules.{breaks_slots}
use Rattle.ev_abstract.specs.Run.{item_at, turn}
use Rattle.ev_abstract.specs.declared.entry.Entry.{Entry}
use Rattle.ev_concrete.specs.ConcreteRun.{System, activations_by, is_return}
use Rattle.ev_concrete.specs.Depth.{is_in_repeat, is_jump, bodies_on}
use Rattle.ev_concrete.specs.Shown.{shown_always, record_word}
use Rattle.ev_built.specs.Built.{IsBuilt}
use Rattle.ev_law.specs.Legal.{AreLegal, knows}
use Rattle.ev_law.proofs.Ruled.{body_ruled}
use Rattle.ev_symbolic.specs.Names.{item_tag}
use Rattle.ev_symbolic.specs.Single.{Leads}
use Rattle.ev_symbolic.specs.Agrees.{Env, Code, Cell, At}
use Rattle.ev_blocks.specs.Calls.{AtRecord, BehindWait, behind_first, behind_state, state_word}
use Rattle.ev_blocks.specs.Calls as calls
use Rattle.ev_blocks.specs.Items.{AtItem, InCall}
use Rattle.ev_blocks.specs.Blocks.{block, edges}
use Rattle.ev_blocks.specs.Blocks as blocks
use Rattle.ev_table.specs.Table.{code_table}
use Rattle.ev_relation.specs.Filling.{first_fill}
use Rattle.ev_relation.specs.Active.{item_place, address_of_item, item_of, site_of, here, IsKernelSs, InCode, InItem, InCallSpot, Active}
use Rattle.ev_relation.specs.Relation.{IsContext, HoldsCall, CallIs, Chain, StandsOn, Stands, switches_at, serves}
use Rattle.ev_relation.specs.Step.{IsCounted, Simulated}
use Rattle.ev_relation.proofs.After.{none_spares}
use Rattle.ev_relation.proofs.CallKinds.{origin_of, plain_knows}
use Rattle.ev_relation.proofs.Counted.{number_kept}
use Rattle.ev_relation.proofs.Depth.{goes_on_inside}
use Rattle.ev_relation.proofs.Facts.{Facts}
use Rattle.ev_relation.proofs.FilledOnce.{never_filled_at_wait}
use Rattle.ev_relation.proofs.Legality.{turn_legal}
use Rattle.ev_relation.proofs.Spots.{is_spot}
use Rattle.ev_relation.proofs.Standing.{went_stays}
use Rattle.ev_body_steps.proofs.Bodies.{body, means_at}
use Rattle.ev_body_steps.proofs.CallCells.{WaitCode, wait_code}
use Rattle.ev_body_steps.proofs.CallFirst.{AreKept, in_code, to_record}
use Rattle.ev_body_steps.proofs.CallGoes.{block_is, ends_of}
use Rattle.ev_body_steps.proofs.CallGoes as goes
use Rattle.ev_body_steps.proofs.ItemCells.{edges_stand}
use Rattle.ev_body_steps.proofs.ItemState.{with_registers, gone}
use Rattle.ev_body_steps.proofs.ItemVisible.{legal_context}
use Rattle.ev_body_steps.proofs.ItemWords as words
use Rattle.ev_body_steps.proofs.KernelStep as step
use Rattle.ev_body_steps.proofs.RecordLoad as record_load

-- ---- the block behind the load

wait_spot : (mode : Mode) (d : Bool) → is_spot mode (body mode (InCall (BehindWait d))) ≡ true
wait_spot Fred d = refl
wait_spot Idt d = refl

wait_few : (mode : Mode) (d : Bool) → edges mode (body mode (InCall (BehindWait d))) 0 ≤ 100
wait_few Fred d = omega arith
wait_few Idt d = omega arith

module _ (mode : Mode) (image : Image) (built : IsBuilt image) (good : IsImage image) (facts : Facts mode image)
    (left : NatMap ℕ) (s : System) (m : Machine) (h : Stands mode image left s m) (p : ℕ) (hp : p < image.processors)
    (o : step.Top mode image built good facts left s m h p hp) (body' : Body) (is : slice_get image.bodies o.b.body ≡ Some body') where
  abbrev code : Code
  code = code_table mode image

  abbrev c : Processor
  c = s.cpus p

  abbrev b : BodyContext
  b = o.b

  abbrev x : abstract.Processor
  x = processor m p

  abbrev on : StandsOn mode image p (left p) s x
  on = step.on mode image built good facts left s m h p hp

  abbrev env : ℕ → (extra v : ℕ → ℕ) → Flags → Env
  env ss extra v f = here mode p o.κ o.σ ss o.w extra v f

  abbrev Stood : ℕ → BodyContext → Processor → Memory → Type 0
  Stood now b cpu mem = Active mode image p now o.κ o.σ on.frame (switches_at mode image on.switching o.below) (first_fill on.fills) o.w b cpu mem

  -- the context behind the load, at this item
  abbrev behind : ℕ → BodyContext
  behind place = record b { place = place; flags = None }

  -- At the item: the load of the first record's address is an edge.
  pub at_wait : first_fill on.fills ≡ None → (act : Stood on.own b c s.memory) (ss : ℕ) → IsKernelSs mode ss → (extra v : ℕ → ℕ) (f : Flags)
      → At code (block mode (body mode AtItem)) 0 (env ss extra v f) c s.memory → InItem mode image (origin_of o.κ) (env ss extra v f) o.w b s.memory.words
      → extra 20 ≡ item_place mode image b.body b.place → length c.regs ≡ 16 → edges mode (body mode AtItem) 0 ≤ on.own → (site : ℕ)
      → item_at (Some body') b.place ≡ Some (Wait site) → Simulated mode image left s m p
  unfolding site_of
  at_wait unfilled act ss ss_is extra v f at means place long enough site hi =
      let cells = wait_code mode image facts b.body body' is b.place site hi in
      to_record mode image built good facts left s m h p hp o body' is unfilled act ss ss_is extra v f at means place long enough site
      (ap (λ y. site_of (item_at y b.place)) is ∙ ap site_of hi) (record { first = cells.first; sum = cells.sum })

  module _ (unfilled : first_fill on.fills ≡ None) (act : Stood on.own b c s.memory) (ss : ℕ) (ss_is : IsKernelSs mode ss) (extra v : ℕ → ℕ) (f : Flags)
      (site : ℕ) (at : At code (block mode (body mode (InCall (AtRecord site)))) (block mode (body mode (InCall (AtRecord site)))).steps (env ss extra v f) c
      s.memory)
      (means : InCallSpot mode image (origin_of o.κ) (AtRecord site) (env ss extra v f) o.w b (first_fill on.fills) s.memory.words)
      (hi : item_at (Some body') b.place ≡ Some (Wait site)) where
    abbrev e : Env
    e = env ss extra v f

    abbrev a : ℕ
    a = item_address mode b.body body' b.place

    abbrev there : ℕ
    there = record_address p site

    small_site : site < 8
    unfolding breaks_slots
    small_site = ltb-true site 8 (not-false _ ((body_ruled image good built.accepted.1.kept b.body body' is).slots b.place (Wait site) hi))

    abbrev at_load : record_load.AtLoad mode image built good facts left s m h p hp o unfilled act ss ss_is extra v f site at means small_site
    at_load = (record_load.at_load mode image built good facts left s m h p hp o unfilled act ss ss_is extra v f site at means small_site).0

    -- the record holds what the abstract machine has of it
    held : HoldsCall mode image s.memory.words p site (x.records site)
    held = record_load.held mode image built good facts left s m h p hp o unfilled act ss ss_is extra v f site at means small_site
        (never_filled_at_wait mode image good built.accepted p (left p) s m h.legal on b o.below o.bodies site (ap (λ y. item_at y b.place) is ∙ hi))

    word_is : (n : ℕ) → n < 0x40 → record_word c s.memory.words n ≡ s.memory.words (there + n)
    word_is = record_load.word_is mode image built good facts left s m h p hp o unfilled act ss ss_is extra v f site at means small_site

    cells : WaitCode code a (item_address mode b.body body' (suc b.place)) site
    cells = wait_code mode image facts b.body body' is b.place site hi

    base : extra 20 ≡ a
    base = means.1 ∙ ap (address_of_item mode b.body b.place) is

    abbrev ins : Ins
    ins = Load 0 3 (pos 0)

    abbrev next : ℕ
    next = a + behind_state

    -- Where it reads this, the processor stands behind it, for the machine in which the context is there.
    goes_on : (d : Bool) → s.memory.words there ≡ state_word d → (place : ℕ) (es : List Entry) → turn image m p ≡ (with_context m p (behind place), es)
        → ((u : Env) → u.base ≡ e.base → InCode mode image (origin_of o.κ) u o.w (behind place) s.memory.words
        → InCallSpot mode image (origin_of o.κ) (BehindWait d) u o.w (behind place) (first_fill on.fills) s.memory.words)
        → (IsCounted s → shown_always p (bodies_on s p) c s.memory.words (Some ins) ≡ es) → Simulated mode image left s m p
    unfolding is_return spelling four_bytes
    goes_on d reads place es turns spot shows =
        let y : record_load.AtLoad mode image built good facts left s m h p hp o unfilled act ss ss_is extra v f site at means small_site = at_load in
        let range = y.range in
        let high = range.1 in
        let base_is = base in
        let n : ℕ = state_word d in
        let regs : List ℕ = set c.regs 0 n in
        let g : Flags = y.flags in
        let cpu : Processor = gone c regs g next in
        let u : Env = env ss extra (with_registers regs v) g in
        let cell : Cell = record { ins = ins; next = next; mark = Always } in
        let next_is : next ≡ extra 20 + behind_state = ap (λ k. k + behind_state) (sym base_is) in
        let here_is : c.rip ≡ a + 16 = goes.rip_is mode image built good facts left s m h p hp o ss extra v f 16 y ∙ ap (λ k. k + 16) base_is in
        let found : code c.rip ≡ Some cell = ap code here_is ∙ cells.seen in
        let leads : Leads c s.memory ins cpu s.memory.words
        = record_load.loads mode image built good facts left s m h p hp o unfilled act ss ss_is extra v f site at means small_site n reads next next_is in
        let wide : length regs ≡ 16
        = record_load.wide mode image built good facts left s m h p hp o unfilled act ss ss_is extra v f site at means small_site n reads in
        let stands = record_load.opens_behind mode image built good facts left s m h p hp o unfilled act ss ss_is extra v f site at means small_site n reads
        (BehindWait d) refl (wait_spot mode d) next next_is refl refl refl
        (edges_stand code u a behind_state calls.wait_code base_is (omega arith) cells.test) in
        let kept : AreKept v regs
        = record_load.kept mode image built good facts left s m h p hp o unfilled act ss ss_is extra v f site at means small_site n reads in
        let b' : BodyContext = behind place in
        let in_wait = in_code mode image built good facts left s m h p hp o ss extra v f g regs kept range b' refl refl means.0.saved means.0.locals
        means.0.calls in
        let plain = step.plain_kind mode image built good facts left s m h p hp o in
        let now : ℕ = edges mode (body mode (InCall (BehindWait d))) 0 in
        let bounded = wait_few mode d in
        let act' : Stood now b' cpu s.memory = record {
          stands = record {
            spot = body mode (InCall (BehindWait d));
            k = 0;
            extra = extra;
            var = with_registers regs v;
            flags = g;
            ss = ss;
            ss_is = ss_is;
            masked = step.masks_flags mode image built good facts left s m h p hp o g y.state.flags;
            within = omega arith;
            enough = omega arith;
            at = stands;
            long = wide;
          };
          switches = sym o.off;
          fills = sym (ap is_some unfilled);
          knows = plain_knows mode o.κ on.frame plain (blocks.holds (body mode (InCall (BehindWait d))));
          means = means_at mode image o.κ plain (InCall (BehindWait d)) u o.w b' (first_fill on.fills) s.memory.words (spot u refl in_wait);
        } in
        let m' : Machine = with_context m p b' in
        let makes = words.makes_context mode image built good facts left s m h p hp o m m s.memory.words x.tasks x.slots b'
        (words.makes_nothing mode image built good facts left s m h p hp o [] (none_spares p).free s.memory.words (λ k off far. refl)
        refl refl refl refl refl) in
        let ctx : IsContext mode image b' = legal_context image (knows image m') b' o.below mode
        (subst (λ (q : abstract.Processor). AreLegal image (knows image m') q.bodies) makes.own
        ((turn_legal image good built.accepted m p hp h.legal (m', es) turns).each p).bodies) in
        let inner : is_return (Some ins) ≡ false = refl in
        let outside = step.outside mode image built good facts left s m h p hp o act in
        let still_there : activations_by s p (s.activations p) cpu Stepped.Ran ≡ o.last ∷ o.others
        = went_stays image.processors s p cpu None ins (step.fetches mode image built good facts left s m h p hp c.rip cell found).1 inner ∙ o.acts in
        step.visible mode image built good facts left s m h p hp o (λ i. y.state.blocked) cell found refl y.kernel cpu s.memory.words leads
        (step.blocked mode image built good facts left s m h p hp) [] (none_spares p).free (λ k far off. refl) m' es turns x.tasks x.slots on.fills on.free
        (λ k. refl) (b' ∷ o.below) makes
        (λ class. sym (ap (list_any (λ (q : BodyContext). serves mode image class q.service)) o.bodies))
        (goes_on_inside (is_return (Some ins)) (not (is_user c)) (not (nat_le nmi_entry c.rip && nat_lt c.rip repeat_entry)) (is_jump (Some ins))
        (is_in_repeat c.rip) (length x.bodies) inner outside ∙ ap length o.bodies)
        now (omega arith)
        (subst (λ as'. Chain mode image p now x.running on.returning (x.tasks on.returning) on.frame on.switching on.fills (b' ∷ o.below) as' cpu s.memory)
        (sym still_there)
        (step.with_last mode image built good facts left s m h p hp o b' o.kind ctx now cpu s.memory.words [] (none_spares p).free
        (step.unknown_none o.below) (λ k far off. refl) act'))
        shows

    -- At the load: a turn.
    pub by_load : Simulated mode image left s m p
    unfolding item_step shown_always
    by_load = by_state (x.records site).state refl
      where
        key : CallId
        key = record { from = p; site = site }

        item : item_of mode image b ≡ Some (Wait site)
        item = ap (λ y. item_at y b.place) is ∙ hi

        turned : (st : CallState) → (x.records site).state ≡ st → turn image m p ≡ waited m p b key st
        turned st e = step.turns mode image built good facts left s m h p hp o (λ i. at_load.state.blocked) (Wait site) item ∙ ap (waited m p b key) e

        call : (st : CallState) → (x.records site).state ≡ st → CallIs mode image s.memory.words there (x.records site) st
        call st e = subst (CallIs mode image s.memory.words there (x.records site)) e held.call

        state_is : record_word c s.memory.words 0 ≡ s.memory.words there
        state_is = word_is 0 (omega arith) ∙ ap s.memory.words (let q : record_address p site + 0 ≡ record_address p site = omega arith in q)

        site_is : record_word c s.memory.words 0x30 % 2 ^ 8 ≡ site
        site_is = record_load.site_is mode image built good facts left s m h p hp o unfilled act ss ss_is extra v f site at means small_site held

        -- the entry tells the number of calls that the site has queued
        number_is : IsCounted s → record_word c s.memory.words 0x28 ≡ (x.records site).number
        number_is counted = word_is 0x28 (omega arith) ∙ held.number ∙ number_kept mode image left s m h counted key

        -- where the call is under way it stays
        stays : s.memory.words there ≡ 1 → turn image m p ≡ (with_context m p (behind b.place), []) → Simulated mode image left s m p
        stays used t = goes_on false used b.place [] t (λ u same k. (k, ap (λ B. B item_tag) same ∙ means.1, refl, site, item))
            (λ counted. ap (λ n. if n == 0 then Entry.Done p (record_word c s.memory.words 0x30 % 2 ^ 8) (record_word c s.memory.words 0x28) ∷ [] else [])
            (state_is ∙ used))

        by_state : (st : CallState) → (x.records site).state ≡ st → Simulated mode image left s m p
        by_state Free e = goes_on true (call Free e) (suc b.place) (Entry.Done p site (x.records site).number ∷ []) (turned Free e)
            (λ u same k. (
              k,
              record { site = site; n = b.place; code = (item, ap (λ B. B item_tag) same ∙ means.1); next = refl },
              refl,
            ))
            (λ counted i. if (state_is ∙ call Free e) i == 0 then Entry.Done p (site_is i) (number_is counted i) ∷ [] else [])
        by_state Queued e = stays (call Queued e).0 (turned Queued e)
        by_state Taken e = stays (call Taken e).0 (turned Taken e)
