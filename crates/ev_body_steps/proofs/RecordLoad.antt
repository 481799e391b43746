-- The load of a record's state, in `call` and `wait`: where the sum before it ends, what RBX is there and what is read, and how a block opens behind it.
use Rattle.std.proofs.Common.{◌≡◌, ℕ, ◌+◌, ◌*◌, ◌%◌, ◌^◌, ◌<◌, true, false, List, [], ◌∷◌, get_or, set, map, length, Option, None, refl, sym, ap, ◌∙◌, subst, arith}
use Rattle.std.specs.Prelude.{pos, ◌||◌}
use Rattle.std.proofs.lemmas.List.{get_or-set_same, get_or-set_other, length-set}
use Rattle.ev_isa.specs.Word.{NatMap, displaced, wrap}
use Rattle.ev_isa.specs.Flags.{Flags}
use Rattle.ev_isa.specs.Spelling.{spelling, four_bytes}
use Rattle.ev_isa.specs.declared.instruction.Ins.{Ins}
use Rattle.ev_isa.specs.declared.instruction.Ins.TheVariants.{Load}
use Rattle.ev_isa.specs.declared.mode.Mode.{Mode}
use Rattle.ev_body.specs.declared.image.Image.{Image}
use Rattle.ev_body.specs.WellFormed.{IsImage}
use Rattle.ev_listing.specs.AddressMap.{pcpu, record_address}
use Rattle.ev_state.specs.Processor.{Processor, register}
use Rattle.ev_mem.specs.Memory.{Memory}
use Rattle.ev_abstract.specs.Context.{BodyContext}
use Rattle.ev_abstract.specs.Machine.{Machine, processor}
use Rattle.ev_abstract.specs.Machine as abstract
use Rattle.ev_concrete.specs.ConcreteRun.{System}
use Rattle.ev_concrete.specs.Shown.{record_word}
use Rattle.ev_built.specs.Built.{IsBuilt}
use Rattle.ev_symbolic.specs.Value.{M, V, K, X, B, OAdd}
use Rattle.ev_symbolic.specs.State.{Block}
use Rattle.ev_symbolic.specs.Openings.{at_base}
use Rattle.ev_symbolic.specs.Names.{item_tag, top_less}
use Rattle.ev_symbolic.specs.Single.{Leads, onward}
use Rattle.ev_symbolic.specs.Agrees.{Env, Code, Stands as Lines, eval, FactsHold, IsOpen, At}
use Rattle.ev_symbolic.proofs.Single.{singles}
use Rattle.ev_blocks.specs.Shapes.{body_bytes}
use Rattle.ev_blocks.specs.Calls.{CallSpot, AtRecord, behind_state, fills_record, block_of_call}
use Rattle.ev_blocks.specs.Items.{InCall}
use Rattle.ev_blocks.specs.Blocks.{block}
use Rattle.ev_paths.specs.CallEnds.{item_regs}
use Rattle.ev_table.specs.Table.{code_table}
use Rattle.ev_relation.specs.Filling.{Filling, first_fill, rest_fills, is_of_site, is_filled}
use Rattle.ev_relation.specs.Active.{here, IsKernelSs, InCallSpot, Active}
use Rattle.ev_relation.specs.Relation.{HoldsCall, StandsOn, Stands, switches_at}
use Rattle.ev_relation.proofs.CallKinds.{origin_of}
use Rattle.ev_relation.proofs.Facts.{Facts}
use Rattle.ev_relation.proofs.ModeFacts.{is_fred}
use Rattle.ev_relation.proofs.Spots.{is_spot}
use Rattle.ev_body_steps.proofs.Bodies.{body, layout_of}
use Rattle.ev_body_steps.proofs.CallFirst.{AreKept}
use Rattle.ev_body_steps.proofs.CallGoes.{block_is, ends_of}
use Rattle.ev_body_steps.proofs.CallGoes as goes
use Rattle.ev_body_steps.proofs.CallPlaces.{rax_regs_are, same_rsp}
use Rattle.ev_body_steps.proofs.ItemAddresses.{area_open}
use Rattle.ev_body_steps.proofs.ItemState.{with_registers, any_known, gone}
use Rattle.ev_body_steps.proofs.ItemVisible.{goes_onward}
use Rattle.ev_body_steps.proofs.KernelStep as step

-- the registers behind the sum, and with what the load reads
pub record_regs : Mode → ℕ → List V
record_regs mode site = set (item_regs (layout_of mode)) 3 (B OAdd (X 3) (K (0x40 * site)))

record_rsp : (mode : Mode) (e : Env) (site : ℕ)
    → get_or (map (eval e) (record_regs mode site)) 4 0 ≡ eval e (top_less (body_bytes (layout_of mode)))
unfolding record_regs
record_rsp mode e site = refl

record_kept : (mode : Mode) (e : Env) (site n : ℕ) → AreKept e.var (set (map (eval e) (record_regs mode site)) 0 n)
unfolding record_regs eval
record_kept mode e site n = record { locals = refl; calls = refl }

-- none fills a record where the first doesn't, and none below
pub none_fills : (site : ℕ) (fs : List (Option Filling)) → first_fill fs ≡ None → is_filled site (rest_fills fs) ≡ false → is_filled site fs ≡ false
none_fills site [] first rest = refl
none_fills site (f ∷ fs) first rest = ap (λ g. is_of_site site g || is_filled site fs) first ∙ rest

module _ (mode : Mode) (image : Image) (built : IsBuilt image) (good : IsImage image) (facts : Facts mode image)
    (left : NatMap ℕ) (s : System) (m : Machine) (h : Stands mode image left s m) (p : ℕ) (hp : p < image.processors)
    (o : step.Top mode image built good facts left s m h p hp) where
  abbrev code : Code
  code = code_table mode image

  abbrev c : Processor
  c = s.cpus p

  abbrev b : BodyContext
  b = o.b

  abbrev x : abstract.Processor
  x = processor m p

  abbrev on : StandsOn mode image p (left p) s x
  on = step.on mode image built good facts left s m h p hp

  abbrev env : ℕ → (extra v : ℕ → ℕ) → Flags → Env
  env ss extra v f = here mode p o.κ o.σ ss o.w extra v f

  abbrev Stood : ℕ → BodyContext → Processor → Memory → Type 0
  Stood now b cpu mem = Active mode image p now o.κ o.σ on.frame (switches_at mode image on.switching o.below) (first_fill on.fills) o.w b cpu mem

  module _ (unfilled : first_fill on.fills ≡ None) (act : Stood on.own b c s.memory) (ss : ℕ) (ss_is : IsKernelSs mode ss) (extra v : ℕ → ℕ) (f : Flags)
      (site : ℕ) (at : At code (block mode (body mode (InCall (AtRecord site)))) (block mode (body mode (InCall (AtRecord site)))).steps (env ss extra v f) c
      s.memory)
      (means : InCallSpot mode image (origin_of o.κ) (AtRecord site) (env ss extra v f) o.w b (first_fill on.fills) s.memory.words) (low : site < 8) where
    abbrev e : Env
    e = env ss extra v f

    abbrev there : ℕ
    there = record_address p site

    abbrev pub AtLoad : Type 0
    AtLoad = goes.AtPlace mode image built good facts left s m h p hp o ss extra v f 16

    pub at_load : AtLoad × (c.regs ≡ map (eval e) (record_regs mode site))
    unfolding record_regs
    at_load = goes.behind_block mode image built good facts left s m h p hp o (AtRecord site) refl unfilled act ss ss_is extra v f means.0.range at 16
        (omega arith) (record_regs mode site) ((ends_of mode).site site) refl (record_rsp mode e site)

    small : p < 32
    small = step.small mode image built good facts left s m h p hp

    -- RBX is the record
    pub rbx : register c 3 ≡ there
    unfolding record_regs eval
    rbx = let near = small in ap (λ (xs : List ℕ). get_or xs 3 0) at_load.1 ∙ ap (λ n. (n + 0x40 * site) % M) means.3
        ∙ (let q : (pcpu p + 0x800 + 0x40 * site) % M ≡ record_address p site = omega arith in q)

    -- which holds what the abstract machine has of it, where no context below fills it
    pub held : is_filled site (rest_fills on.fills) ≡ false → HoldsCall mode image s.memory.words p site (x.records site)
    held none = on.records site low (none_fills site on.fills unfilled none)

    -- a word of the record
    pub word_is : (n : ℕ) → n < 0x40 → record_word c s.memory.words n ≡ s.memory.words (there + n)
    word_is n l = let near = small in
        ap (λ y. s.memory.words (wrap (y + n))) rbx
        ∙ ap s.memory.words (let q : (record_address p site + n) % 2 ^ 64 ≡ record_address p site + n = omega arith in q)

    -- the entry tells the site
    pub site_is : HoldsCall mode image s.memory.words p site (x.records site) → record_word c s.memory.words 0x30 % 2 ^ 8 ≡ site
    site_is call = ap (λ n. n % 2 ^ 8) (word_is 0x30 (omega arith) ∙ call.site) ∙ (let q : site % 2 ^ 8 ≡ site = omega arith in q)

    -- ---- behind the load

    module _ (n : ℕ) (reads : s.memory.words there ≡ n) where
      abbrev pub ins : Ins
      ins = Load 0 3 (pos 0)

      abbrev pub regs : List ℕ
      regs = set c.regs 0 n

      abbrev pub flags : Flags
      flags = at_load.0.flags

      pub loads : (next : ℕ) → next ≡ extra 20 + behind_state → Leads c s.memory ins (gone c regs flags next) s.memory.words
      unfolding spelling four_bytes
      loads next e' =
          let near = small in
          let few = good.count.1 in
          let from : displaced (register c 3) (pos 0) ≡ there = ap (λ k. displaced k (pos 0)) rbx
          ∙ (let q : (record_address p site + 0) % 2 ^ 64 ≡ record_address p site = omega arith in q) in
          let at_ins = goes.at_instruction mode image built good facts left s m h p hp o ss extra v f 16 at_load.0 ins next
          (let q : next ≡ extra 20 + 16 + 7 = omega arith in q) in
          let opened : IsOpen s.memory.regions there = subst (IsOpen s.memory.regions)
          (let q : pcpu p + (0x800 + 0x40 * site) ≡ record_address p site = omega arith in q)
          (area_open image s.memory.regions h.regions_are p (0x800 + 0x40 * site) hp few (omega arith) (omega arith)) in
          goes_onward c s.memory ins flags regs next s.memory.words at_load.0.state.flags
          (subst (λ k. Leads c s.memory ins (onward c (set c.regs 0 k) next) s.memory.words) reads
          ((singles c s.memory next).loads 0 3 (pos 0) there at_ins from opened))

      pub wide : length regs ≡ 16
      wide = length-set c.regs 0 n ∙ at_load.0.state.long

      pub same_stack : get_or regs 4 0 ≡ get_or c.regs 4 0
      same_stack = get_or-set_other c.regs 0 4 n 0 (λ e. omega arith)

      pub kept : AreKept v regs
      unfolding record_regs
      kept = subst (λ (xs : List ℕ). AreKept v (set xs 0 n)) (sym at_load.1) (record_kept mode e site n)

      -- a block that fills no record opens, with what was read in RAX
      pub opens_behind : (s' : CallSpot) → fills_record s' ≡ false → is_spot mode (body mode (InCall s')) ≡ true → (next : ℕ) → next ≡ extra 20 + behind_state
          → (block_of_call (is_fred mode) (layout_of mode) s').opening.rip ≡ at_base item_tag behind_state
          → (block_of_call (is_fred mode) (layout_of mode) s').opening.regs ≡ set (item_regs (layout_of mode)) 0 (K n)
          → (block_of_call (is_fred mode) (layout_of mode) s').ground.facts ≡ []
          → Lines code (env ss extra (with_registers regs v) flags) (block_of_call (is_fred mode) (layout_of mode) s').lines
          → At code (block mode (body mode (InCall s'))) 0 (env ss extra (with_registers regs v) flags) (gone c regs flags next) s.memory
      unfolding eval
      opens_behind s' off over next e' rip opens told lines =
          let y : AtLoad = at_load.0 in
          let u : Env = env ss extra (with_registers regs v) flags in
          let range = y.range in
          let high = range.1 in
          let long = y.state.long in
          let stack : get_or regs 4 0 ≡ eval u (top_less (body_bytes (layout_of mode)))
          = same_stack ∙ same_rsp mode p o.κ o.σ ss o.w extra v f c s.memory 16 flags y.state extra v refl refl refl in
          goes.call_stands mode image built good facts left s m h p hp o ss extra v f 16 y s' off over extra v refl refl refl refl regs flags next behind_state
          s.memory.words wide same_stack (omega arith) rip
          (rax_regs_are mode u regs v (K n) refl wide stack (get_or-set_same c.regs 0 n 0 (omega arith)) ∙ ap (map (eval u)) (sym opens)) y.state.words
          (any_known mode p o.κ o.σ ss o.w extra extra v f flags regs s.memory.words y.state.words)
          (subst (λ (B : Block). FactsHold u B.ground.facts) (sym (block_is mode s')) (subst (FactsHold u) (sym told) tt))
          (subst (λ (B : Block). Lines code u B.lines) (sym (block_is mode s')) lines)
