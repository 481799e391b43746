-- Steps of an activation behind the exchange of `take` that write nothing: from record to record of the list that it turns round, and to the function of the
-- first call.
use Rattle.std.proofs.Common.{◌≡◌, ℕ, zero, suc, ◌+◌, ◌-◌, ◌*◌, ◌%◌, ◌^◌, ◌<◌, ◌≤◌, Bool, true, false, not, ◌&&◌, List, [], ◌∷◌, get_or, set, map, length, None, Some, refl, sym, ap, ◌∙◌, subst, arith}
use Rattle.std.specs.Prelude.{pos, slice_get, ◌==◌, ◌||◌, if◌then◌else◌, reverse}
use Rattle.std.proofs.lemmas.Bool.{ne_eqb}
use Rattle.std.proofs.lemmas.List.{get_or-set_other, length-set}
use Rattle.ev_isa.specs.Word.{NatMap, displaced, is_canonical}
use Rattle.ev_isa.specs.Flags.{Flags}
use Rattle.ev_isa.specs.Spelling.{spelling, four_bytes}
use Rattle.ev_isa.specs.declared.instruction.Ins.{Ins}
use Rattle.ev_isa.specs.declared.instruction.Ins.TheVariants.{Load, JmpReg}
use Rattle.ev_isa.specs.declared.mode.Mode.{Mode}
use Rattle.ev_isa.specs.declared.mode.Mode.TheVariants.{Idt, Fred}
use Rattle.ev_body.specs.declared.item.Item.{Item}
use Rattle.ev_body.specs.declared.body.Body.{Body}
use Rattle.ev_body.specs.declared.image.Image.{Image}
use Rattle.ev_body.specs.WellFormed.{IsImage}
use Rattle.ev_listing.specs.AddressMap.{pcpu, record_address}
use Rattle.ev_listing.specs.Expansion.{item_address}
use Rattle.ev_state.specs.Processor.{Processor, register}
use Rattle.ev_mem.specs.Memory.{Memory}
use Rattle.ev_abstract.specs.Context.{BodyContext, CallId, local}
use Rattle.ev_abstract.specs.CrossCall.{record_of}
use Rattle.ev_abstract.specs.Machine.{CallState, Free, Queued, Taken, Machine, processor}
use Rattle.ev_abstract.specs.Run.{item_at}
use Rattle.ev_concrete.specs.ConcreteRun.{System, is_return}
use Rattle.ev_built.specs.Built.{IsBuilt, is_built_item}
use Rattle.ev_calls.specs.Lists.{HasFirst, IsTurning}
use Rattle.ev_calls.specs.Records.{Linked}
use Rattle.ev_calls.proofs.Lists.{first_elsewhere, lists_are_turned}
use Rattle.ev_call_law.specs.Calls.{is_free, is_taken, one_if, times, to_run, IsPlaced, IsInRange}
use Rattle.ev_call_law.proofs.Counts.{times_same, times_append, is_one}
use Rattle.ev_law.specs.Legal.{runs_calls}
use Rattle.ev_symbolic.specs.Value.{M, V, K, X}
use Rattle.ev_symbolic.specs.Single.{Leads, onward}
use Rattle.ev_symbolic.specs.Agrees.{Env, Code, IsOpen, eval, FactsHold, Agrees, At, edge_cell}
use Rattle.ev_symbolic.proofs.Blocks.{begins}
use Rattle.ev_symbolic.proofs.Single.{singles}
use Rattle.ev_symbolic.proofs.Values.{and_left}
use Rattle.ev_blocks.specs.Shapes.{FredFrame, IdtFrame}
use Rattle.ev_blocks.specs.Calls.{CallSpot, BehindTake, AtTurn, BehindTurn, AtTaken, AtOffset, block_of_call, none_left, is_none_of, says_none, turn_code, taken_code, at_turn, at_old_link, at_taken, at_function, take_end, turn_edges}
use Rattle.ev_blocks.specs.Items.{AtItem, InCall}
use Rattle.ev_blocks.specs.Blocks.{block, edges, item_edges}
use Rattle.ev_blocks.proofs.CallFalls.{call_edges}
use Rattle.ev_paths.specs.CallEnds.{CallComes, item_regs}
use Rattle.ev_table.specs.Table.{code_table}
use Rattle.ev_relation.specs.Filling.{first_fill}
use Rattle.ev_relation.specs.Active.{item_place, address_of_item, here, IsKernelSs, FlagsAre, HoldsCalls, Locals, LocalsBut, BeginsCall, Taking, InTake, Turns, IsByHand, BehindOldLink, BehindArgument, BehindCaller, BehindAddress, Active}
use Rattle.ev_relation.specs.Relation.{StandsOn, Stands, switches_at}
use Rattle.ev_relation.specs.Step.{Simulated}
use Rattle.ev_relation.proofs.CallKinds.{origin_of}
use Rattle.ev_relation.proofs.Facts.{Facts}
use Rattle.ev_relation.proofs.Fits.{InBodies}
use Rattle.ev_relation.proofs.ModeFacts.{is_fred}
use Rattle.ev_relation.proofs.Records.{times_reverse}
use Rattle.ev_relation.proofs.Spots.{is_spot}
use Rattle.ev_body_steps.proofs.Bodies.{body, layout_of, at_the_item, saved_again}
use Rattle.ev_body_steps.proofs.CallCells.{TakeCode, take_code}
use Rattle.ev_body_steps.proofs.CallGoes.{block_is, ends_of}
use Rattle.ev_body_steps.proofs.CallGoes as goes
use Rattle.ev_body_steps.proofs.ItemAddresses.{area_open}
use Rattle.ev_body_steps.proofs.ItemCells.{edges_stand}
use Rattle.ev_body_steps.proofs.ItemState.{with_registers, opening_of, gone, lands, any_registers, any_known, beyond_registers}
use Rattle.ev_body_steps.proofs.ItemVisible.{goes_onward}
use Rattle.ev_body_steps.proofs.ItemWait.{opens_behind}
use Rattle.ev_body_steps.proofs.KernelItems as items
use Rattle.ev_body_steps.proofs.KernelStep as step

-- ---- whether a list has a record

-- its address says so
head_told : (u : Env) (i : ℕ) (words : NatMap ℕ) (ks : List CallId) → Linked words (u.var i) ks → FactsHold u (says_none (X i) (not (runs_calls ks)) ∷ [])
unfolding eval
head_told u i words [] h = (ap (λ n. if (n + M - 0) % M == 0 then 1 else 0) h, tt)
head_told u i words (k ∷ ks) h = (
  ap (λ t. if t then 1 else 0) (ne_eqb ((u.var i + M - 0) % M) 0 (λ q.
      let from = h.0 in let site = h.1 in let at = h.2 in let z : (u.var i + M - 0) % M ≡ 0 = q in omega (arith, from, site, at, z))),
  tt,
)

none_of : (ks : List CallId) (n : ℕ) → length ks ≡ n → not (runs_calls ks) ≡ none_left n
none_of [] zero e = refl
none_of (k ∷ ks) (suc n) e = refl
none_of [] (suc n) e = absurd (omega (arith, e))
none_of (k ∷ ks) zero e = absurd (omega (arith, e))

none_is : (t : Bool) → not t ≡ is_none_of t
none_is true = refl
none_is false = refl

-- one that isn't empty has a first record
pub first_of : (words : NatMap ℕ) (a : ℕ) (ks : List CallId) → runs_calls ks ≡ true → Linked words a ks → HasFirst words a ks
first_of words a [] e h = let clash : false ≡ true = e in absurd (cc)
first_of words a (k ∷ ks) e h = first_elsewhere words a (k ∷ ks) (λ z. let at = h.2 in omega (arith, at, z)) h

zero_of : (words : NatMap ℕ) (a : ℕ) (ks : List CallId) → length ks ≡ 0 → Linked words a ks → a ≡ 0
zero_of words a [] e h = h
zero_of words a (k ∷ ks) e h = absurd (omega (arith, e))

pub some_of : (ks : List CallId) (n : ℕ) → length ks ≡ suc n → runs_calls ks ≡ true
some_of [] n e = absurd (omega (arith, e))
some_of (k ∷ ks) n e = refl

-- ---- the blocks

turn_spot : (mode : Mode) (left : ℕ) → is_spot mode (body mode (InCall (AtTurn left))) ≡ true
turn_spot Fred left = refl
turn_spot Idt left = refl

taken_spot : (mode : Mode) (is_some : Bool) → is_spot mode (body mode (InCall (AtTaken is_some))) ≡ true
taken_spot Fred is_some = refl
taken_spot Idt is_some = refl

-- the edges that are left where a spot's block ends
abbrev pub edges_at_end : Mode → CallSpot → ℕ
edges_at_end mode s = edges mode (body mode (InCall s)) (block mode (body mode (InCall s))).steps

turn_falls : (mode : Mode) (left : ℕ) → edges mode (body mode (InCall (AtTurn left))) 0 ≤ edges_at_end mode (BehindTake left)
turn_falls Fred left = (call_edges Fred FredFrame).turn left
turn_falls Idt left = (call_edges Idt IdtFrame).turn left

turn_again_falls : (mode : Mode) (left : ℕ) → edges mode (body mode (InCall (AtTurn left))) 0 ≤ edges_at_end mode (BehindTurn left)
turn_again_falls Fred left = (call_edges Fred FredFrame).turn_again left
turn_again_falls Idt left = (call_edges Idt IdtFrame).turn_again left

taken_falls : (mode : Mode) (is_some : Bool) → edges mode (body mode (InCall (AtTaken is_some))) 0 ≤ edges_at_end mode (AtTurn zero)
taken_falls Fred is_some = (call_edges Fred FredFrame).taken is_some
taken_falls Idt is_some = (call_edges Idt IdtFrame).taken is_some

old_link_falls : (mode : Mode) (n : ℕ) → turn_edges item_edges n + 4 < edges_at_end mode (AtTurn (suc n))
old_link_falls Fred n = omega arith
old_link_falls Idt n = omega arith

argument_falls : (mode : Mode) → item_edges + 3 < edges_at_end mode (AtTaken true)
argument_falls Fred = omega arith
argument_falls Idt = omega arith

pub hand_edges : (mode : Mode) (n k : ℕ) → edges_at_end mode (AtOffset n k) ≡ k
hand_edges Fred n k = omega arith
hand_edges Idt n k = omega arith

-- a block of no instruction ends where it begins
pub ends_at_hand : (mode : Mode) (n k : ℕ) → CallComes (is_fred mode) (layout_of mode) (AtOffset n k) n (item_regs (layout_of mode))
ends_at_hand mode n k = record { z = (block_of_call (is_fred mode) (layout_of mode) (AtOffset n k)).opening; runs = refl; is = refl }

item_fewer : (mode : Mode) → edges mode (body mode AtItem) 0 < item_edges + 1
item_fewer Fred = omega arith
item_fewer Idt = omega arith

none_falls : (mode : Mode) → edges mode (body mode AtItem) 0 ≤ edges_at_end mode (AtTaken false)
none_falls Fred = (call_edges Fred FredFrame).none
none_falls Idt = (call_edges Idt IdtFrame).none

-- ---- the calls that a context holds

empty_of : (ks : List CallId) → runs_calls ks ≡ false → ks ≡ []
empty_of [] e = refl
empty_of (k ∷ ks) e = let clash : true ≡ false = e in absurd (cc)

holds_linked : (mode : Mode) (image : Image) (words : NatMap ℕ) (a : ℕ) (ks : List CallId) → Linked words a ks → HoldsCalls mode image words a ks
holds_linked mode image words a [] h = tt
holds_linked mode image words a (k ∷ ks) h = h

module _ (mode : Mode) (image : Image) (built : IsBuilt image) (good : IsImage image) (facts : Facts mode image)
    (left : NatMap ℕ) (s : System) (m : Machine) (h : Stands mode image left s m) (p : ℕ) (hp : p < image.processors)
    (o : step.Top mode image built good facts left s m h p hp) (body' : Body) (is : slice_get image.bodies o.b.body ≡ Some body') where
  abbrev code : Code
  code = code_table mode image

  abbrev c : Processor
  c = s.cpus p

  abbrev b : BodyContext
  b = o.b

  abbrev on : StandsOn mode image p (left p) s (processor m p)
  on = step.on mode image built good facts left s m h p hp

  abbrev env : ℕ → (extra v : ℕ → ℕ) → Flags → Env
  env ss extra v f = here mode p o.κ o.σ ss o.w extra v f

  abbrev Stood : ℕ → BodyContext → Processor → Memory → Type 0
  Stood now b cpu mem = Active mode image p now o.κ o.σ on.frame (switches_at mode image on.switching o.below) (first_fill on.fills) o.w b cpu mem

  abbrev words : NatMap ℕ
  words = s.memory.words

  -- a call that it has is one of a processor of the image
  pub has_range : (k : CallId) → 0 < times k b.calls → (k.from < image.processors) × (k.site < 8)
  has_range k some =
      let placed : IsPlaced image m k = h.calls.placed k in
      let list : times k (to_run (processor m p).bodies) ≡ one_if (is_taken (record_of m k).state && ((record_of m k).to == p)) = placed.list p in
      let all : times k (to_run (processor m p).bodies) ≡ times k b.calls + times k (to_run o.below)
      = ap (λ bs. times k (to_run bs)) o.bodies ∙ times_append k b.calls (to_run o.below) in
      let fits : IsInRange image k (record_of m k) = placed.fits (not_free (record_of m k).state
      (and_left (is_taken (record_of m k).state) ((record_of m k).to == p)
      (is_one (is_taken (record_of m k).state && ((record_of m k).to == p)) (omega (arith, list, all, some))))) in
      (fits.from, fits.site)
    where
      not_free : (st : CallState) → is_taken st ≡ true → is_free st ≡ false
      not_free Free t = let clash : false ≡ true = t in absurd (cc)
      not_free Queued t = refl
      not_free Taken t = refl

  module _ (ss : ℕ) (extra v : ℕ → ℕ) (f : Flags) where
    abbrev e : Env
    e = env ss extra v f

    abbrev AtPlace : ℕ → Type 0
    AtPlace offset = goes.AtPlace mode image built good facts left s m h p hp o ss extra v f offset

    -- behind an instruction that leaves these registers, and these flags
    abbrev behind : List ℕ → Flags → Env
    behind regs g = env ss extra (with_registers regs v) g

    abbrev IsTaking : Env → Bool → Bool → Type 0
    IsTaking u nine ten = Taking mode image (origin_of o.κ) u o.w b nine ten words

    taking_behind : (nine ten nine' ten' : Bool) (regs : List ℕ) (g : Flags) → IsTaking e nine ten
        → LocalsBut mode image (not (runs_calls b.calls) || nine') (not (runs_calls b.calls) || ten') (with_registers regs v) b
        → IsTaking (behind regs g) nine' ten'
    taking_behind nine ten nine' ten' regs g t locals = record {
      range = t.range;
      saved = saved_again mode image (origin_of o.κ) e (behind regs g) o.w (beyond_registers regs v) refl refl refl t.saved;
      locals = locals;
      flags = t.flags;
      begins = t.begins;
    }

    in_take : (regs : List ℕ) (g : Flags) → InTake mode image e b → InTake mode image (behind regs g) b
    in_take regs g i = record { n = i.n; behind = i.behind; code = i.code; none = i.none }

    module _ (i : InTake mode image e b) where
      abbrev pub a : ℕ
      a = item_address mode b.body body' i.n

      pub cells : TakeCode code a (item_address mode b.body body' (suc i.n))
      cells = take_code mode image facts b.body body' is i.n (ap (λ q. item_at q i.n) (sym is) ∙ i.code.0)

      pub base : extra 20 ≡ a
      base = i.code.1 ∙ ap (address_of_item mode b.body i.n) is

      -- at the list, of which so many records are left
      to_turn : (at : AtPlace at_turn) (n : ℕ) → IsTaking (behind c.regs at.flags) false false
          → Turns mode image words (get_or c.regs 0 0) (get_or c.regs 14 0) b.calls n
          → edges mode (body mode (InCall (AtTurn n))) 0 ≤ on.own → Simulated mode image left s m p
      unfolding spelling four_bytes
      to_turn at n taking turns enough =
          let u : Env = behind c.regs at.flags in
          let base_is = base in
          let high = at.range.1 in
          goes.opens mode image built good facts left s m h p hp o ss extra v f at_turn at (AtTurn n) refl (turn_spot mode n) refl refl
          (subst (λ t. FactsHold u (says_none (X 0) t ∷ [])) (none_of turns.list.ahead n turns.many) (head_told u 0 words turns.list.ahead turns.list.lead))
          (edges_stand code u a at_turn turn_code base (omega arith) cells.turn) (omega arith)
          (taking, in_take c.regs at.flags i, turns) enough

      -- at the first of the calls, or where there is none
      to_taken : (at : AtPlace at_taken) (is_some : Bool) → runs_calls b.calls ≡ is_some → IsTaking (behind c.regs at.flags) false false
          → Linked words (get_or c.regs 14 0) b.calls → edges mode (body mode (InCall (AtTaken is_some))) 0 ≤ on.own → Simulated mode image left s m p
      unfolding spelling four_bytes
      to_taken at is_some some taking list enough =
          let u : Env = behind c.regs at.flags in
          let base_is = base in
          let high = at.range.1 in
          goes.opens mode image built good facts left s m h p hp o ss extra v f at_taken at (AtTaken is_some) refl (taken_spot mode is_some) refl refl
          (subst (λ t. FactsHold u (says_none (X 14) t ∷ [])) (none_is (runs_calls b.calls) ∙ ap is_none_of some) (head_told u 14 words b.calls list))
          (edges_stand code u a at_taken taken_code base (omega arith) cells.taken) (omega arith)
          (taking, in_take c.regs at.flags i, list, some) enough

      -- The load of a word of the record of a call that the context has, to what is made by hand behind it.
      loads : (offset : ℕ) (at : AtPlace offset) (d r w n edges' : ℕ) (k : CallId) → 0 < times k b.calls → register c r ≡ record_address k.from k.site
          → w < 0x40 → w % 8 ≡ 0 → (4 ≡ d → ⊥) → length (spelling (Load d r (pos w))) ≡ 7 → n ≡ offset + 7 → n < 0x100
          → code (a + offset) ≡ Some (edge_cell (Load d r (pos w)) (a + n)) → is_return (Some (Load d r (pos w))) ≡ false
          → IsByHand mode image (origin_of o.κ) (behind (set c.regs d (words (record_address k.from k.site + w))) at.flags) o.w b words n edges'
          → edges' < on.own → Simulated mode image left s m p
      loads offset at d r w n edges' k has from small even spares seven onto near cell inner means fewer =
          let range = has_range k has in
          let few = good.count.1 in
          let own = range.0 in
          let site = range.1 in
          let base_is = base in
          let there : ℕ = record_address k.from k.site + w in
          let ins : Ins = Load d r (pos w) in
          let regs : List ℕ = set c.regs d (words there) in
          let here_is : c.rip ≡ a + offset = goes.rip_is mode image built good facts left s m h p hp o ss extra v f offset at ∙ ap (λ y. y + offset) base in
          let at_ins = goes.at_instruction mode image built good facts left s m h p hp o ss extra v f offset at ins (a + n) (omega arith) in
          let opened : IsOpen s.memory.regions there = subst (IsOpen s.memory.regions)
          (let q : pcpu k.from + (0x800 + 0x40 * k.site + w) ≡ there = omega arith in q)
          (area_open image s.memory.regions h.regions_are k.from (0x800 + 0x40 * k.site + w) own few (omega arith) (omega arith)) in
          let address : displaced (register c r) (pos w) ≡ there = ap (λ y. displaced y (pos w)) from
          ∙ (let q : (record_address k.from k.site + w) % 18446744073709551616 ≡ there = omega arith in q) in
          goes.goes_by_hand mode image built good facts left s m h p hp o ss extra v f offset at n edges' near ins (a + n) (ap code here_is ∙ cell) inner
          regs (length-set c.regs d (words there) ∙ at.state.long) (get_or-set_other c.regs d 4 (words there) 0 spares) (omega arith)
          (goes_onward c s.memory ins at.flags regs (a + n) words at.state.flags ((singles c s.memory (a + n)).loads d r (pos w) there at_ins address opened))
          means fewer

      -- ---- where a block ends

      module _ (unfilled : first_fill on.fills ≡ None) (act : Stood on.own b c s.memory) (ss_is : IsKernelSs mode ss) where
        abbrev AtEnd : CallSpot → Type 0
        AtEnd s' = At code (block mode (body mode (InCall s'))) (block mode (body mode (InCall s'))).steps e c s.memory

        -- registers that keep the locals
        kept : (nine ten : Bool) (rs : List V) → c.regs ≡ map (eval e) rs → IsTaking e nine ten
            → LocalsBut mode image (not (runs_calls b.calls) || nine) (not (runs_calls b.calls) || ten) (with_registers (map (eval e) rs) v) b
            → (g : Flags) → IsTaking (behind c.regs g) nine ten
        kept nine ten rs same t locals g = taking_behind nine ten nine ten c.regs g t
            (subst (λ xs. LocalsBut mode image (not (runs_calls b.calls) || nine) (not (runs_calls b.calls) || ten) (with_registers xs v) b) (sym same) locals)

        -- behind the exchange
        pub at_take_end : (n : ℕ) → AtEnd (BehindTake n) → IsTaking e false false → Turns mode image words (v 0) 0 b.calls n
            → edges_at_end mode (BehindTake n) ≤ on.own → Simulated mode image left s m p
        unfolding eval
        at_take_end n at t turns enough =
            let rs : List V = set (item_regs (layout_of mode)) 14 (K 0) in
            let z = goes.behind_block mode image built good facts left s m h p hp o (BehindTake n) refl unfilled act ss ss_is extra v f t.range at at_turn
            (omega arith) rs ((ends_of mode).behind_take n) refl refl in
            let falls = turn_falls mode n in
            to_turn z.0 n (kept false false rs z.1 t t.locals z.0.flags)
            (subst (λ xs. Turns mode image words (get_or xs 0 0) (get_or xs 14 0) b.calls n) (sym z.1) turns) (omega arith)

        -- behind a record's new link
        pub at_turned_end : (n : ℕ) → AtEnd (BehindTurn n) → IsTaking e false false → Turns mode image words (v 1) (v 0) b.calls n
            → edges_at_end mode (BehindTurn n) ≤ on.own → Simulated mode image left s m p
        unfolding eval
        at_turned_end n at t turns enough =
            let rs : List V = set (set (item_regs (layout_of mode)) 14 (X 0)) 0 (X 1) in
            let z = goes.behind_block mode image built good facts left s m h p hp o (BehindTurn n) refl unfilled act ss ss_is extra v f t.range at at_turn
            (omega arith) rs ((ends_of mode).behind_turn n) refl refl in
            let falls = turn_again_falls mode n in
            to_turn z.0 n (kept false false rs z.1 t t.locals z.0.flags)
            (subst (λ xs. Turns mode image words (get_or xs 0 0) (get_or xs 14 0) b.calls n) (sym z.1) turns) (omega arith)

        -- where none is left
        pub at_last_end : AtEnd (AtTurn zero) → IsTaking e false false → Turns mode image words (v 0) (v 14) b.calls zero
            → edges_at_end mode (AtTurn zero) ≤ on.own → Simulated mode image left s m p
        unfolding eval
        at_last_end at t turns enough =
            let rs : List V = item_regs (layout_of mode) in
            let z = goes.behind_block mode image built good facts left s m h p hp o (AtTurn zero) refl unfilled act ss ss_is extra v f t.range at at_taken
            (omega arith) rs ((ends_of mode).turn zero) refl refl in
            let falls = taken_falls mode (runs_calls b.calls) in
            let none : v 0 ≡ 0 = zero_of words (v 0) turns.list.ahead turns.many turns.list.lead in
            let list : Linked words (v 14) b.calls
            = lists_are_turned words (v 14) b.calls (subst (λ y. IsTurning words y (v 14) b.calls) none turns.list) in
            to_taken z.0 (runs_calls b.calls) refl (kept false false rs z.1 t t.locals z.0.flags)
            (subst (λ xs. Linked words (get_or xs 14 0) b.calls) (sym z.1) list) (omega arith)

        -- where one is left: the load of its link
        pub at_turn_end : (n : ℕ) → AtEnd (AtTurn (suc n)) → IsTaking e false false → Turns mode image words (v 0) (v 14) b.calls (suc n)
            → edges_at_end mode (AtTurn (suc n)) ≤ on.own → Simulated mode image left s m p
        unfolding eval spelling four_bytes is_return
        at_turn_end n at t turns enough =
            let rs : List V = item_regs (layout_of mode) in
            let z = goes.behind_block mode image built good facts left s m h p hp o (AtTurn (suc n)) refl unfilled act ss ss_is extra v f t.range at at_old_link
            (omega arith) rs ((ends_of mode).turn (suc n)) refl refl in
            let falls = old_link_falls mode n in
            let ahead : List CallId = turns.list.ahead in
            let first : HasFirst words (v 0) ahead = first_of words (v 0) ahead (some_of ahead n turns.many) turns.list.lead in
            let k : CallId = first.first in
            let w : ℕ = words (record_address k.from k.site + 0x18) in
            let has : 0 < times k b.calls = let all = ap (times k) turns.list.are ∙ times_append k (reverse ahead) turns.list.behind in
            let turned = times_reverse k ahead in let one = ap (times k) first.are ∙ times_same k first.rest in omega (arith, all, turned, one) in
            loads at_old_link z.0 1 0 0x18 (at_old_link + 7) (turn_edges item_edges n + 4) k has
            (ap (λ (xs : List ℕ). get_or xs 0 0) z.1 ∙ first.at) (omega arith) refl (λ q. omega (arith, q)) refl refl (omega arith) cells.old_link refl
            (BehindOldLink n refl refl
            (taking_behind false false false false (set c.regs 1 w) z.0.flags t (subst (λ xs. LocalsBut mode image (not (runs_calls b.calls) || false)
            (not (runs_calls b.calls) || false) (with_registers (set xs 1 w) v) b) (sym z.1) t.locals))
            (in_take (set c.regs 1 w) z.0.flags i)
            (subst (λ xs. Turns mode image words (get_or (set xs 1 w) 0 0) (get_or (set xs 1 w) 14 0) b.calls (suc n)) (sym z.1) turns)
            (subst (λ xs. get_or (set xs 1 w) 1 0 ≡ words (get_or (set xs 1 w) 0 0 + 0x18)) (sym z.1) (ap (λ y. words (y + 0x18)) (sym first.at))))
            (omega arith)

        -- ---- the loads of the first call's words

        has_first : (first : HasFirst words (v 14) b.calls) → 0 < times first.first b.calls
        has_first first = let one = ap (times first.first) first.are ∙ times_same first.first first.rest in omega (arith, one)

        -- the argument
        to_argument : AtPlace at_function → c.regs ≡ map (eval e) (item_regs (layout_of mode)) → IsTaking e false false → runs_calls b.calls ≡ true
            → Linked words (v 14) b.calls → item_edges + 3 < on.own → Simulated mode image left s m p
        unfolding eval spelling four_bytes is_return
        to_argument at same t some list fewer =
            let first : HasFirst words (v 14) b.calls = first_of words (v 14) b.calls some list in
            let k : CallId = first.first in
            let w : ℕ = words (record_address k.from k.site + 0x10) in
            let says = subst (BeginsCall mode image words b) first.are t.begins in
            let locals : LocalsBut mode image false false v b
            = subst (λ r. LocalsBut mode image (not r || false) (not r || false) v b) some t.locals in
            let told : b.locals ≡ v 6 ∷ v 7 ∷ v 8 ∷ w ∷ local b 10 ∷ v 11 ∷ v 12 ∷ v 13 ∷ []
            = locals ∙ ap (λ n. v 6 ∷ v 7 ∷ v 8 ∷ n ∷ local b 10 ∷ v 11 ∷ v 12 ∷ v 13 ∷ []) (sym says.1) in
            loads at_function at 9 14 0x10 (at_function + 7) (item_edges + 3) k (has_first first)
            (ap (λ (xs : List ℕ). get_or xs 14 0) same ∙ first.at) (omega arith) refl (λ q. omega (arith, q)) refl refl (omega arith) cells.argument refl
            (BehindArgument refl refl
            (taking_behind false false true false (set c.regs 9 w) at.flags t
            (subst (λ r. LocalsBut mode image (not r || true) (not r || false) (with_registers (set c.regs 9 w) v) b) (sym some)
            (subst (λ xs. LocalsBut mode image true false (with_registers (set xs 9 w) v) b) (sym same) told)))
            (in_take (set c.regs 9 w) at.flags i) some
            (subst (λ xs. Linked words (get_or (set xs 9 w) 14 0) b.calls) (sym same) list))
            fewer

        -- the caller
        to_caller : AtPlace (at_function + 7) → c.regs ≡ map (eval e) (item_regs (layout_of mode)) → IsTaking e true false → runs_calls b.calls ≡ true
            → Linked words (v 14) b.calls → item_edges + 2 < on.own → Simulated mode image left s m p
        unfolding eval spelling four_bytes is_return
        to_caller at same t some list fewer =
            let first : HasFirst words (v 14) b.calls = first_of words (v 14) b.calls some list in
            let k : CallId = first.first in
            let w : ℕ = words (record_address k.from k.site + 0x20) in
            let says = subst (BeginsCall mode image words b) first.are t.begins in
            let locals : LocalsBut mode image true false v b
            = subst (λ r. LocalsBut mode image (not r || true) (not r || false) v b) some t.locals in
            let told : b.locals ≡ v 6 ∷ v 7 ∷ v 8 ∷ v 9 ∷ w ∷ v 11 ∷ v 12 ∷ v 13 ∷ []
            = locals ∙ ap (λ n. v 6 ∷ v 7 ∷ v 8 ∷ v 9 ∷ n ∷ v 11 ∷ v 12 ∷ v 13 ∷ []) (sym says.2) in
            loads (at_function + 7) at 10 14 0x20 (at_function + 14) (item_edges + 2) k (has_first first)
            (ap (λ (xs : List ℕ). get_or xs 14 0) same ∙ first.at) (omega arith) refl (λ q. omega (arith, q)) refl refl (omega arith) cells.caller refl
            (BehindCaller refl refl
            (taking_behind true false true true (set c.regs 10 w) at.flags t
            (subst (λ r. LocalsBut mode image (not r || true) (not r || true) (with_registers (set c.regs 10 w) v) b) (sym some)
            (subst (λ xs. LocalsBut mode image true true (with_registers (set xs 10 w) v) b) (sym same) told)))
            (in_take (set c.regs 10 w) at.flags i) some
            (subst (λ xs. Linked words (get_or (set xs 10 w) 14 0) b.calls) (sym same) list))
            fewer

        -- the address
        to_address : AtPlace (at_function + 14) → c.regs ≡ map (eval e) (item_regs (layout_of mode)) → IsTaking e true true → runs_calls b.calls ≡ true
            → Linked words (v 14) b.calls → item_edges + 1 < on.own → Simulated mode image left s m p
        unfolding eval spelling four_bytes is_return
        to_address at same t some list fewer =
            let first : HasFirst words (v 14) b.calls = first_of words (v 14) b.calls some list in
            let k : CallId = first.first in
            let w : ℕ = words (record_address k.from k.site + 8) in
            let says = subst (BeginsCall mode image words b) first.are t.begins in
            loads (at_function + 14) at 0 14 8 (at_function + 21) (item_edges + 1) k (has_first first)
            (ap (λ (xs : List ℕ). get_or xs 14 0) same ∙ first.at) (omega arith) refl (λ q. omega (arith, q)) refl refl (omega arith) cells.address refl
            (BehindAddress refl refl
            (taking_behind true true true true (set c.regs 0 w) at.flags t
            (subst (λ xs. LocalsBut mode image (not (runs_calls b.calls) || true) (not (runs_calls b.calls) || true) (with_registers (set xs 0 w) v) b)
            (sym same) t.locals))
            (in_take (set c.regs 0 w) at.flags i) some
            (subst (λ xs. Linked words (get_or (set xs 0 w) 14 0) b.calls) (sym same) list)
            (subst (λ xs. get_or (set xs 0 w) 0 0 ≡ w) (sym same) refl ∙ says.0))
            fewer

        -- where an instruction is made by hand
        at_hand : (n k : ℕ) → n < 0x100 → InBodies extra → AtEnd (AtOffset n k) → AtPlace n × (c.regs ≡ map (eval e) (item_regs (layout_of mode)))
        unfolding eval
        at_hand n k near range at = goes.behind_block mode image built good facts left s m h p hp o (AtOffset n k) refl unfilled act ss ss_is extra v f range
            at n near (item_regs (layout_of mode)) (ends_at_hand mode n k) refl refl

        -- at the end of the block that found a call
        pub at_some_end : AtEnd (AtTaken true) → IsTaking e false false → Linked words (v 14) b.calls → runs_calls b.calls ≡ true
            → edges_at_end mode (AtTaken true) ≤ on.own → Simulated mode image left s m p
        unfolding eval
        at_some_end at t list some enough =
            let z = goes.behind_block mode image built good facts left s m h p hp o (AtTaken true) refl unfilled act ss ss_is extra v f t.range at at_function
            (omega arith) (item_regs (layout_of mode)) ((ends_of mode).taken true) refl refl in
            let falls = argument_falls mode in
            to_argument z.0 z.1 t some list (omega arith)

        pub at_argument : AtEnd (AtOffset at_function (item_edges + 4)) → IsTaking e false false → runs_calls b.calls ≡ true → Linked words (v 14) b.calls
            → edges_at_end mode (AtOffset at_function (item_edges + 4)) ≤ on.own → Simulated mode image left s m p
        at_argument at t some list enough =
            let z = at_hand at_function (item_edges + 4) (omega arith) t.range at in
            let same = hand_edges mode at_function (item_edges + 4) in
            to_argument z.0 z.1 t some list (omega arith)

        pub at_caller : AtEnd (AtOffset (at_function + 7) (item_edges + 3)) → IsTaking e true false → runs_calls b.calls ≡ true → Linked words (v 14) b.calls
            → edges_at_end mode (AtOffset (at_function + 7) (item_edges + 3)) ≤ on.own → Simulated mode image left s m p
        at_caller at t some list enough =
            let z = at_hand (at_function + 7) (item_edges + 3) (omega arith) t.range at in
            let same = hand_edges mode (at_function + 7) (item_edges + 3) in
            to_caller z.0 z.1 t some list (omega arith)

        pub at_address : AtEnd (AtOffset (at_function + 14) (item_edges + 2)) → IsTaking e true true → runs_calls b.calls ≡ true → Linked words (v 14) b.calls
            → edges_at_end mode (AtOffset (at_function + 14) (item_edges + 2)) ≤ on.own → Simulated mode image left s m p
        at_address at t some list enough =
            let z = at_hand (at_function + 14) (item_edges + 2) (omega arith) t.range at in
            let same = hand_edges mode (at_function + 14) (item_edges + 2) in
            to_address z.0 z.1 t some list (omega arith)

        -- ---- where an item opens

        -- the jump to the function
        pub at_function_jump : AtEnd (AtOffset (at_function + 21) (item_edges + 1)) → IsTaking e true true → runs_calls b.calls ≡ true
            → Linked words (v 14) b.calls → v 0 ≡ item_place mode image b.body b.place
            → edges_at_end mode (AtOffset (at_function + 21) (item_edges + 1)) ≤ on.own → Simulated mode image left s m p
        unfolding eval spelling four_bytes is_return
        at_function_jump at t some list target enough =
            let z = at_hand (at_function + 21) (item_edges + 1) (omega arith) t.range at in
            let y : AtPlace (at_function + 21) = z.0 in
            let same = hand_edges mode (at_function + 21) (item_edges + 1) in
            let fewer = item_fewer mode in
            let base_is = base in
            let g : Flags = y.flags in
            let long : length c.regs ≡ 16 = y.state.long in
            let there : ℕ = item_place mode image b.body b.place in
            let here_is = step.place_is mode image built good facts left s m h p hp o body' is in
            let fine = facts.item_small b.body b.place body' is in
            let small : there + 16 < 2 ^ 64 = subst (λ n. n + 16 < 2 ^ 64) (sym here_is) fine.1 in
            let ins : Ins = JmpReg 0 in
            let next : ℕ = a + take_end in
            let found : code c.rip ≡ Some (edge_cell ins next)
            = ap code (goes.rip_is mode image built good facts left s m h p hp o ss extra v f (at_function + 21) y ∙ ap (λ n. n + (at_function + 21)) base)
            ∙ cells.jump in
            let at_ins = goes.at_instruction mode image built good facts left s m h p hp o ss extra v f (at_function + 21) y ins next (omega arith) in
            let rax : register c 0 ≡ there = ap (λ (xs : List ℕ). get_or xs 0 0) z.1 ∙ target in
            let leads : Leads c s.memory ins (gone c c.regs g there) words = goes_onward c s.memory ins g c.regs there words y.state.flags
            (subst (λ n. Leads c s.memory ins (onward c c.regs n) words) rax
            ((singles c s.memory next).jumps_to 0 at_ins (ap is_canonical (rax ∙ here_is) ∙ fine.0))) in
            let way = at_the_item mode in
            let extra' : ℕ → ℕ = λ i. there in
            let u : Env = env ss extra' (with_registers c.regs v) g in
            let windows = step.windows mode image built good facts left s m h p hp o body' is (body mode AtItem) way.over ss extra'
            (with_registers c.regs v) g in
            let state = goes.item_state_at mode image built good facts left s m h p hp o ss extra v f (at_function + 21) y in
            let agrees : Agrees u (block mode (body mode AtItem)).ground (opening_of mode) (gone c c.regs g there) s.memory
            = lands mode (behind c.regs g) u c s.memory (at_function + 21) (X 0) (X 1) (X 2) g state
            (any_registers mode p o.κ o.σ ss o.w o.w extra extra' (with_registers c.regs v) v g g c.regs refl refl refl) refl c.regs long refl v refl there refl
            small words (any_known mode p o.κ o.σ ss o.w extra extra' v f g c.regs words y.state.words) windows in
            let opened : At code (block mode (body mode AtItem)) 0 u (gone c c.regs g there) s.memory
            = begins code (block mode (body mode AtItem)) u (gone c c.regs g there) s.memory
            (step.fits mode image built good facts left s m h p hp o body' is (body mode AtItem) way.over ss extra' (with_registers c.regs v) g refl tt
            (way.told u)) agrees in
            let locals : Locals mode image v b = subst (λ r. LocalsBut mode image (not r || true) (not r || true) v b) some t.locals in
            goes.goes_to_spot mode image built good facts left s m h p hp o ss extra v f (at_function + 21) y AtItem refl ins next there found refl c.regs g
            long (step.masks_flags mode image built good facts left s m h p hp o g y.state.flags) leads extra' v opened (
              record {
                saved = saved_again mode image (origin_of o.κ) e u o.w (beyond_registers c.regs v) refl refl refl t.saved;
                locals = subst (λ xs. Locals mode image (with_registers xs v) b) (sym z.1) locals;
                flags = subst (λ q. FlagsAre mode image q g) (sym t.flags) tt;
                calls = holds_linked mode image words (get_or c.regs 14 0) b.calls (subst (λ xs. Linked words (get_or xs 14 0) b.calls) (sym z.1) list);
              },
              refl,
            )
            (omega arith) (step.outside mode image built good facts left s m h p hp o act)

        -- where there is no call the next item opens
        pub at_none_end : AtEnd (AtTaken false) → IsTaking e false false → runs_calls b.calls ≡ false → edges_at_end mode (AtTaken false) ≤ on.own
            → (item : Item) → is_built_item item ≡ true → item_at (Some body') b.place ≡ Some item → Simulated mode image left s m p
        unfolding eval
        at_none_end at t none enough item today hi =
            let z = goes.behind_block mode image built good facts left s m h p hp o (AtTaken false) refl unfilled act ss ss_is extra v f t.range at take_end
            (omega arith) (item_regs (layout_of mode)) ((ends_of mode).taken false) refl refl in
            let y : AtPlace take_end = z.0 in
            let falls = none_falls mode in
            let g : Flags = y.flags in
            let empty : b.calls ≡ [] = empty_of b.calls none in
            let locals : Locals mode image v b = subst (λ r. LocalsBut mode image (not r || false) (not r || false) v b) none t.locals in
            let next : extra 20 + take_end ≡ item_place mode image b.body b.place = ap (λ n. n + take_end) base ∙ cells.follows
            ∙ sym (ap (address_of_item mode b.body (suc i.n)) is) ∙ ap (item_place mode image b.body) (sym (i.none empty)) in
            let q = opens_behind mode image built good facts left s m h p hp o body' is unfilled ss ss_is extra (with_registers c.regs v) g take_end
            (X 0) (X 1) (X 2) g (goes.item_state_at mode image built good facts left s m h p hp o ss extra v f take_end y)
            (record {
              range = t.range;
              saved = saved_again mode image (origin_of o.κ) e (behind c.regs g) o.w (beyond_registers c.regs v) refl refl refl t.saved;
              locals = subst (λ xs. Locals mode image (with_registers xs v) b) (sym z.1) locals;
              calls = subst (HoldsCalls mode image words (get_or c.regs 14 0)) (sym empty) tt;
            }) next t.flags y.state.long (omega arith) in
            let w = q.next in
            items.by_item mode image built good facts left s m h p hp o body' is unfilled w.act ss ss_is w.extra _ q.flags w.at w.means w.place y.state.long
            w.enough item today hi
