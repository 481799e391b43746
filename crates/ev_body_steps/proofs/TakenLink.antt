-- `take` stores a record's new link: the record is of a call that the context has, and the list that it turns round moves one on.
use Rattle.std.proofs.Common.{◌≡◌, ℕ, suc, ◌+◌, ◌*◌, ◌%◌, ◌<◌, ◌≤◌, Bool, true, false, ◌&&◌, List, [], ◌∷◌, get_or, length, Some, None, refl, sym, ap, ◌∙◌, subst, append_assoc, arith}
use Rattle.std.specs.Prelude.{pos, slice_get, ◌==◌, ◌++◌, ◌||◌, not, is_some, reverse}
use Rattle.std.proofs.lemmas.Bool.{false_from_ne_true, lt-ltb}
use Rattle.std.proofs.lemmas.List.{reverse-append}
use Rattle.ev_isa.specs.Word.{NatMap, displaced, put_at}
use Rattle.ev_isa.specs.Flags.{Flags}
use Rattle.ev_isa.specs.Spelling.{spelling, four_bytes}
use Rattle.ev_isa.specs.declared.instruction.Ins.{Ins}
use Rattle.ev_isa.specs.declared.instruction.Ins.TheVariants.{Store}
use Rattle.ev_isa.specs.declared.mode.Mode.{Mode}
use Rattle.ev_isa.specs.declared.mode.Mode.TheVariants.{Idt, Fred}
use Rattle.ev_body.specs.declared.body.Body.{Body}
use Rattle.ev_body.specs.declared.image.Image.{Image}
use Rattle.ev_body.specs.WellFormed.{IsImage}
use Rattle.ev_listing.specs.AddressMap.{pcpu, record_address}
use Rattle.ev_state.specs.Processor.{Processor, register}
use Rattle.ev_mem.specs.Memory.{Memory}
use Rattle.ev_abstract.specs.Context.{BodyContext, CallId}
use Rattle.ev_abstract.specs.CrossCall.{record_of}
use Rattle.ev_abstract.specs.Machine.{CallState, Free, Queued, Taken, CallRecord, Machine, processor}
use Rattle.ev_concrete.specs.ConcreteRun.{System, is_return}
use Rattle.ev_built.specs.Built.{IsBuilt}
use Rattle.ev_calls.specs.Lists.{HasFirst}
use Rattle.ev_calls.specs.Records.{Linked}
use Rattle.ev_call_law.specs.Calls.{is_id, is_taken, one_if, times, to_run}
use Rattle.ev_call_law.proofs.Counts.{id_self, same_call, times_same, times_append}
use Rattle.ev_law.specs.Legal.{runs_calls}
use Rattle.ev_symbolic.specs.Single.{Leads}
use Rattle.ev_symbolic.specs.State.{Block}
use Rattle.ev_symbolic.specs.Agrees.{Env, Code, Known, Stands as Lines, IsOpen, eval, FactsHold, At, edge_cell, with_words}
use Rattle.ev_symbolic.proofs.Single.{singles}
use Rattle.ev_symbolic.proofs.Words.{put_same, put_other}
use Rattle.ev_blocks.specs.Calls.{BehindTurn, AtOffset, turned_code, at_old_link, behind_turn, turn_edges}
use Rattle.ev_blocks.specs.Items.{InCall}
use Rattle.ev_blocks.specs.Blocks.{block, edges, item_edges}
use Rattle.ev_blocks.specs.Blocks as blocks
use Rattle.ev_paths.specs.CallEnds.{item_regs}
use Rattle.ev_table.specs.Table.{code_table}
use Rattle.ev_relation.specs.Filling.{first_fill}
use Rattle.ev_relation.specs.Named.{Named, RecordWord, UnknownTo}
use Rattle.ev_relation.specs.Active.{here, IsKernelSs, LocalsBut, BeginsCall, Taking, InTake, Turns, Active}
use Rattle.ev_relation.specs.Relation.{HoldsCall, CallIs, StandsOn, Stands, switches_at}
use Rattle.ev_relation.specs.Step.{Simulated}
use Rattle.ev_relation.proofs.CallHolders.{has_taken, taken_alone, taken_unfilled}
use Rattle.ev_relation.proofs.CallKinds.{origin_of, plain_knows}
use Rattle.ev_relation.proofs.CallNames.{list_spared}
use Rattle.ev_relation.proofs.Facts.{Facts}
use Rattle.ev_relation.proofs.Records.{times_reverse}
use Rattle.ev_relation.proofs.Spots.{is_spot}
use Rattle.ev_body_steps.proofs.Bodies.{body, layout_of, means_at, saved_again}
use Rattle.ev_body_steps.proofs.CallGoes.{block_is}
use Rattle.ev_body_steps.proofs.CallGoes as goes
use Rattle.ev_body_steps.proofs.CallPlaces.{item_regs_are, same_rsp}
use Rattle.ev_body_steps.proofs.CallSteps.{AreOfCalls}
use Rattle.ev_body_steps.proofs.CallSteps as calls
use Rattle.ev_body_steps.proofs.ItemAddresses.{area_open}
use Rattle.ev_body_steps.proofs.ItemCells.{edges_stand}
use Rattle.ev_body_steps.proofs.ItemState.{with_registers, opening_of, known_of, gone, any_known, beyond_registers}
use Rattle.ev_body_steps.proofs.ItemVisible.{goes_onward}
use Rattle.ev_body_steps.proofs.ItemWords.{writes_name, keeps_known}
use Rattle.ev_body_steps.proofs.KernelStep as step
use Rattle.ev_body_steps.proofs.TakenSteps.{edges_at_end, hand_edges, ends_at_hand, first_of, some_of, has_range}
use Rattle.ev_body_steps.proofs.TakenSteps as taken

-- ---- what a write of a link leaves

abbrev link_at : CallId → ℕ
link_at k = record_address k.from k.site + 0x18

-- what is said of each call
link_spares : (mode : Mode) (image : Image) (words : NatMap ℕ) (k : CallId) (n q site : ℕ) (r : CallRecord) → HoldsCall mode image words q site r
    → HoldsCall mode image (put_at words (link_at k) n) q site r
link_spares mode image words k n q site r h = record {
  from = beside 0x20 (λ e. omega (arith, e)) ∙ h.from;
  site = beside 0x30 (λ e. omega (arith, e)) ∙ h.site;
  number = beside 0x28 (λ e. omega (arith, e)) ∙ h.number;
  call = by_state r.state h.call;
}
  where
    beside : (i : ℕ) → (record_address q site + i ≡ link_at k → ⊥) → put_at words (link_at k) n (record_address q site + i) ≡ words (record_address q site + i)
    beside i ne = put_other words (link_at k) n (record_address q site + i) ne

    state : put_at words (link_at k) n (record_address q site) ≡ words (record_address q site)
    state = put_other words (link_at k) n (record_address q site) (λ e. omega (arith, e))

    by_state : (st : CallState) → CallIs mode image words (record_address q site) r st
        → CallIs mode image (put_at words (link_at k) n) (record_address q site) r st
    by_state Free c = state ∙ c
    by_state Queued c =
        (state ∙ c.0, beside 8 (λ e. omega (arith, e)) ∙ c.1, beside 0x10 (λ e. omega (arith, e)) ∙ c.2, beside 0x38 (λ e. omega (arith, e)) ∙ c.3)
    by_state Taken c =
        (state ∙ c.0, beside 8 (λ e. omega (arith, e)) ∙ c.1, beside 0x10 (λ e. omega (arith, e)) ∙ c.2, beside 0x38 (λ e. omega (arith, e)) ∙ c.3)

-- and of the first one, whose function begins
begins_still : (mode : Mode) (image : Image) (words : NatMap ℕ) (k : CallId) (n : ℕ) (b : BodyContext) (ks : List CallId) → BeginsCall mode image words b ks
    → BeginsCall mode image (put_at words (link_at k) n) b ks
begins_still mode image words k n b [] h = tt
begins_still mode image words k n b (j ∷ js) h = (
  put_other words (link_at k) n (record_address j.from j.site + 8) (λ e. omega (arith, e)) ∙ h.0,
  put_other words (link_at k) n (record_address j.from j.site + 0x10) (λ e. omega (arith, e)) ∙ h.1,
  put_other words (link_at k) n (record_address j.from j.site + 0x20) (λ e. omega (arith, e)) ∙ h.2,
)

one_at_most : (t : Bool) → one_if t ≤ 1
one_at_most true = omega arith
one_at_most false = omega arith

turned_spot : (mode : Mode) (n : ℕ) → is_spot mode (body mode (InCall (BehindTurn n))) ≡ true
turned_spot Fred n = refl
turned_spot Idt n = refl

turned_falls : (mode : Mode) (n : ℕ) → edges mode (body mode (InCall (BehindTurn n))) 0 < turn_edges item_edges n + 4
turned_falls Fred n = omega arith
turned_falls Idt n = omega arith

module _ (mode : Mode) (image : Image) (built : IsBuilt image) (good : IsImage image) (facts : Facts mode image)
    (left : NatMap ℕ) (s : System) (m : Machine) (h : Stands mode image left s m) (p : ℕ) (hp : p < image.processors)
    (o : step.Top mode image built good facts left s m h p hp) (body' : Body) (is : slice_get image.bodies o.b.body ≡ Some body') where
  abbrev c : Processor
  c = s.cpus p

  abbrev b : BodyContext
  b = o.b

  abbrev on : StandsOn mode image p (left p) s (processor m p)
  on = step.on mode image built good facts left s m h p hp

  abbrev words : NatMap ℕ
  words = s.memory.words

  abbrev Stood : ℕ → BodyContext → Processor → Memory → Type 0
  Stood now b cpu mem = Active mode image p now o.κ o.σ on.frame (switches_at mode image on.switching o.below) (first_fill on.fills) o.w b cpu mem

  small : p < 32
  small = step.small mode image built good facts left s m h p hp

  abbrev mine : CallId → Bool
  mine = has_taken mode image left s m h p hp b o.below o.bodies

  abbrev name : CallId → Named
  name k = RecordWord k.from k.site 0x18

  -- no call stands twice among those of a context
  once : (k : CallId) → times k b.calls ≤ 1
  once k =
      let t : Bool = is_taken (record_of m k).state && ((record_of m k).to == p) in
      let list : times k (to_run (processor m p).bodies) ≡ one_if t = (h.calls.placed k).list p in
      let all = ap (λ bs. times k (to_run bs)) o.bodies ∙ times_append k b.calls (to_run o.below) in
      let one = one_at_most t in omega (arith, list, all, one)

  -- the link of a call that the context has is a word of its calls
  link_is : (k : CallId) → 0 < times k b.calls → AreOfCalls p mine o.below (name k ∷ [])
  link_is k has =
      let range = has_range mode image built good facts left s m h p hp o body' is k has in
      let own = range.0 in let few = good.count.1 in record {
        allowed = record { written = ((omega (arith, own, few), range.1, omega arith, refl), tt); own = λ q d. (none q, tt) };
        of = (lt-ltb 0 (times k b.calls) has, tt);
        unknown = by_depth o.below;
        tasks = refl;
        slots = refl;
        cells = refl;
        pages = refl;
        user = refl;
      }
    where
      none : (q : ℕ) → None ≡ Some q → ⊥
      none q e = absurd (cc)

      by_depth : (ds : List BodyContext) → UnknownTo ds (name k ∷ [])
      by_depth [] = tt
      by_depth (d ∷ ds) = refl

  -- behind the store one record less is left
  moves_on : (n first turned value : ℕ) → value ≡ turned → (t : Turns mode image words first turned b.calls (suc n)) → (k : HasFirst words first t.list.ahead)
      → 0 < times k.first b.calls
      → Turns mode image (put_at words (link_at k.first) value) (words (link_at k.first)) first b.calls n
  moves_on n first turned value same t k has =
      let ahead : List CallId = t.list.ahead in
      let behind : List CallId = t.list.behind in
      let j : CallId = k.first in
      let words' : NatMap ℕ = put_at words (link_at j) value in
      let all = ap (times j) t.list.are ∙ times_append j (reverse ahead) behind in
      let turned_times = times_reverse j ahead in
      let one = ap (times j) k.are ∙ times_same j k.rest in
      let bound = once j in
      let many : suc (length k.rest) ≡ suc n = sym (ap length k.are) ∙ t.many in
      let is_link = link_is j has in record {
        list = record {
          ahead = k.rest;
          behind = j ∷ behind;
          are = t.list.are ∙ ap (λ ks. reverse ks ++ behind) k.are ∙ ap (λ ks. ks ++ behind) (reverse-append (j ∷ []) k.rest)
              ∙ append_assoc (reverse k.rest) (j ∷ []) behind;
          lead = spared j has (words (link_at j)) k.rest (omega (arith, all, turned_times, one, bound)) k.linked;
          follow = (
            k.is_call.0,
            k.is_call.1,
            k.at,
            subst (λ a. Linked words' a behind) (sym (ap (λ a. words' (a + 0x18)) k.at ∙ put_same words (link_at j) value ∙ same))
                (spared j has turned behind (omega (arith, all, turned_times, one, bound)) t.list.follow),
          );
        };
        many = omega (arith, many);
      }
    where
      spared : (j : CallId) → 0 < times j b.calls → (a : ℕ) (ks : List CallId) → times j ks ≡ 0 → Linked words a ks
          → Linked (put_at words (link_at j) value) a ks
      spared j has a ks none = list_spared p o.σ (name j ∷ []) small (step.narrow mode image built good facts left s m h p hp o) words
          (put_at words (link_at j) value) (link_is j has).allowed.written
          (writes_name mode image built good facts left s m h p hp o (name j) value) (λ i. is_id i j) (id_self j, tt) a ks
          (λ i some. false_from_ne_true (is_id i j) (λ q. let there = subst (λ y. 0 < times y ks) (same_call i j q) some in omega (arith, there, none)))

  module _ (unfilled : first_fill on.fills ≡ None) (act : Stood on.own b c s.memory) (ss : ℕ) (ss_is : IsKernelSs mode ss) (extra v : ℕ → ℕ) (f : Flags)
      (n : ℕ) where
    abbrev e : Env
    e = here mode p o.κ o.σ ss o.w extra v f

    abbrev hand : ℕ
    hand = at_old_link + 7

    -- the store, an edge
    pub at_new_link : At (code_table mode image)
        (block mode (body mode (InCall (AtOffset hand (turn_edges item_edges n + 4)))))
        (block mode (body mode (InCall (AtOffset hand (turn_edges item_edges n + 4))))).steps e c s.memory
        → Taking mode image (origin_of o.κ) e o.w b false false words → (i : InTake mode image e b) → Turns mode image words (v 0) (v 14) b.calls (suc n)
        → v 1 ≡ words (v 0 + 0x18) → edges_at_end mode (AtOffset hand (turn_edges item_edges n + 4)) ≤ on.own → Simulated mode image left s m p
    unfolding eval spelling four_bytes is_return
    at_new_link at t i turns old enough =
        let code : Code = code_table mode image in
        let z = goes.behind_block mode image built good facts left s m h p hp o (AtOffset hand (turn_edges item_edges n + 4)) refl unfilled act ss ss_is extra v
        f t.range at hand (omega arith) (item_regs (layout_of mode)) (ends_at_hand mode hand (turn_edges item_edges n + 4)) refl refl in
        let y = z.0 in
        let g : Flags = y.flags in
        let long : length c.regs ≡ 16 = y.state.long in
        let ahead : List CallId = turns.list.ahead in
        let first : HasFirst words (v 0) ahead = first_of words (v 0) ahead (some_of ahead n turns.many) turns.list.lead in
        let k : CallId = first.first in
        let all = ap (times k) turns.list.are ∙ times_append k (reverse ahead) turns.list.behind in
        let turned = times_reverse k ahead in
        let one = ap (times k) first.are ∙ times_same k first.rest in
        let has : 0 < times k b.calls = omega (arith, all, turned, one) in
        let range = has_range mode image built good facts left s m h p hp o body' is k has in
        let own = range.0 in
        let site = range.1 in
        let few = good.count.1 in
        let there : ℕ = link_at k in
        let value : ℕ = register c 14 in
        let words' : NatMap ℕ = put_at words there value in
        let cells = taken.cells mode image built good facts left s m h p hp o body' is ss extra v f i in
        let base : extra 20 ≡ taken.a mode image built good facts left s m h p hp o body' is ss extra v f i
        = taken.base mode image built good facts left s m h p hp o body' is ss extra v f i in
        let a : ℕ = taken.a mode image built good facts left s m h p hp o body' is ss extra v f i in
        let high = t.range.1 in
        let ins : Ins = Store 0 (pos 0x18) 14 in
        let next : ℕ = a + behind_turn in
        let found : code c.rip ≡ Some (edge_cell ins next)
        = ap code (goes.rip_is mode image built good facts left s m h p hp o ss extra v f hand y ∙ ap (λ q. q + hand) base) ∙ cells.new_link in
        let at_ins = goes.at_instruction mode image built good facts left s m h p hp o ss extra v f hand y ins next (omega arith) in
        let opened : IsOpen s.memory.regions there = subst (IsOpen s.memory.regions)
        (let q : pcpu k.from + (0x800 + 0x40 * k.site + 0x18) ≡ there = omega arith in q)
        (area_open image s.memory.regions h.regions_are k.from (0x800 + 0x40 * k.site + 0x18) own few (omega arith) (omega arith)) in
        let address : displaced (register c 0) (pos 0x18) ≡ there
        = ap (λ q. displaced q (pos 0x18)) (ap (λ (xs : List ℕ). get_or xs 0 0) z.1 ∙ first.at)
        ∙ (let q : (record_address k.from k.site + 0x18) % 18446744073709551616 ≡ there = omega arith in q) in
        let cpu : Processor = gone c c.regs g next in
        let leads : Leads c s.memory ins cpu words' = goes_onward c s.memory ins g c.regs next words' y.state.flags
        ((singles c s.memory next).stores 0 (pos 0x18) 14 there at_ins address opened) in
        let u : Env = here mode p o.κ o.σ ss o.w extra (with_registers c.regs v) g in
        let is_link = link_is k has in
        let known : Known e (known_of mode) words' (opening_of mode).words
        = keeps_known mode image built good facts left s m h p hp o ss extra v f (name k) value is_link.allowed.written.0 y.state.words in
        let stack = same_rsp mode p o.κ o.σ ss o.w extra v f c s.memory hand g y.state extra v refl refl refl in
        let stands : At code (block mode (body mode (InCall (BehindTurn n)))) 0 u cpu (with_words s.memory words')
        = goes.call_stands mode image built good facts left s m h p hp o ss extra v f hand y (BehindTurn n) refl (turned_spot mode n) extra v
        refl refl refl refl c.regs g next behind_turn words' long refl (omega arith) refl (item_regs_are mode u c.regs v refl long stack) known
        (any_known mode p o.κ o.σ ss o.w extra extra v f g c.regs words' known)
        (subst (λ (B : Block). FactsHold u B.ground.facts) (sym (block_is mode (BehindTurn n))) tt)
        (subst (λ (B : Block). Lines code u B.lines) (sym (block_is mode (BehindTurn n)))
        (edges_stand code u a behind_turn turned_code base (omega arith) cells.turned)) in
        let plain = step.plain_kind mode image built good facts left s m h p hp o in
        let next_turns : Turns mode image words' (v 1) (v 0) b.calls n
        = subst (λ q. Turns mode image words' q (v 0) b.calls n) (ap (λ q. words (q + 0x18)) (sym first.at) ∙ sym old)
        (moves_on n (v 0) (v 14) value (ap (λ (xs : List ℕ). get_or xs 14 0) z.1) turns first has) in
        let taking : Taking mode image (origin_of o.κ) u o.w b false false words' = record {
          range = t.range;
          saved = saved_again mode image (origin_of o.κ) e u o.w (beyond_registers c.regs v) refl refl refl t.saved;
          locals = subst (λ xs. LocalsBut mode image (not (runs_calls b.calls) || false) (not (runs_calls b.calls) || false) (with_registers xs v) b) (sym z.1)
              t.locals;
          flags = t.flags;
          begins = begins_still mode image words k value b b.calls t.begins;
        } in
        let falls = turned_falls mode n in
        let same = hand_edges mode hand (turn_edges item_edges n + 4) in
        calls.edge mode image built good facts left s m h p hp o mine (taken_alone mode image left s m h p hp b o.below o.bodies) words' (name k ∷ []) is_link
        (writes_name mode image built good facts left s m h p hp o (name k) value) on.fills refl (λ j off q. q) (edge_cell ins next) found refl refl y.kernel
        (step.outside mode image built good facts left s m h p hp o act) cpu leads (step.blocked mode image built good facts left s m h p hp) (λ q. refl)
        on.free (λ q j lq lj own' free. link_spares mode image words k value q j ((processor m q).records j) ((h.each q lq).records j lj
        (false_from_ne_true _ (λ filled. let clash : true ≡ false
        = sym own' ∙ taken_unfilled mode image left s m h p hp b o.below o.bodies q lq j filled in cc))))
        (edges mode (body mode (InCall (BehindTurn n))) 0) (omega arith)
        (record {
          stands = record {
            spot = body mode (InCall (BehindTurn n));
            k = 0;
            extra = extra;
            var = with_registers c.regs v;
            flags = g;
            ss = ss;
            ss_is = ss_is;
            masked = step.masks_flags mode image built good facts left s m h p hp o g y.state.flags;
            within = omega arith;
            enough = omega arith;
            at = stands;
            long = long;
          };
          switches = sym o.off;
          fills = sym (ap is_some unfilled);
          knows = plain_knows mode o.κ on.frame plain (blocks.holds (body mode (InCall (BehindTurn n))));
          means = means_at mode image o.κ plain (InCall (BehindTurn n)) u o.w b (first_fill on.fills) words' (
            taking,
            record { n = i.n; behind = i.behind; code = i.code; none = i.none },
            subst (λ xs. Turns mode image words' (get_or xs 1 0) (get_or xs 0 0) b.calls n) (sym z.1) next_turns,
          );
        })
