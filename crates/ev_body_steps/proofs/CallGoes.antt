-- Steps in the items of cross calls, from one place to the next: what an activation knows where a block has ended, and how it stands where another opens.
use Rattle.std.proofs.Common.{◌≡◌, ℕ, ◌+◌, ◌%◌, ◌<◌, ◌≤◌, false, true, List, [], ◌∷◌, get_or, map, length, None, Some, refl, sym, ap, ◌∙◌, subst, arith}
use Rattle.std.specs.Prelude.{is_some}
use Rattle.std.proofs.lemmas.Bool.{lt-ltb}
use Rattle.ev_isa.specs.Word.{NatMap}
use Rattle.ev_isa.specs.Flags.{Flags}
use Rattle.ev_isa.specs.declared.instruction.Ins.{Ins}
use Rattle.ev_isa.specs.declared.mode.Mode.{Mode}
use Rattle.ev_isa.specs.declared.mode.Mode.TheVariants.{Idt, Fred}
use Rattle.ev_isa.specs.Spelling.{spelling}
use Rattle.ev_body.specs.declared.image.Image.{Image}
use Rattle.ev_body.specs.WellFormed.{IsImage}
use Rattle.ev_mem.specs.Memory.{Memory}
use Rattle.ev_state.specs.Processor.{Processor, is_user}
use Rattle.ev_abstract.specs.Context.{BodyContext}
use Rattle.ev_abstract.specs.Machine.{Machine, processor}
use Rattle.ev_concrete.specs.ConcreteRun.{System}
use Rattle.ev_concrete.specs.Depth.{is_in_repeat}
use Rattle.ev_concrete.specs.ConcreteRun.{is_return}
use Rattle.ev_built.specs.Built.{IsBuilt}
use Rattle.ev_symbolic.specs.Value.{M, V, X, FVar, Fact}
use Rattle.ev_symbolic.specs.State.{SS, Block, Line}
use Rattle.ev_symbolic.specs.Single.{IsAt, Leads}
use Rattle.ev_symbolic.specs.Openings.{at_base}
use Rattle.ev_symbolic.specs.Names.{item_tag, top_less}
use Rattle.ev_symbolic.specs.Agrees.{Env, Code, Stands as Lines, eval, eval_flags, Known, Open, Fits, FactsHold, Agrees, At, with_words, edge_cell}
use Rattle.ev_symbolic.proofs.Blocks.{at_end, begins}
use Rattle.ev_state.proofs.FlagLaws.{kept}
use Rattle.ev_blocks.specs.Shapes.{body_bytes, body_forms, private, item_text, ground_over, over}
use Rattle.ev_paths.specs.CallEnds.{CallComes, CallEnds, item_regs}
use Rattle.ev_paths.proofs.CallEnds.{call_ends}
use Rattle.ev_relation.proofs.ModeFacts.{is_fred}
use Rattle.ev_relation.proofs.After.{none_spares}
use Rattle.ev_relation.proofs.CallKinds.{is_plain_kind}
use Rattle.ev_relation.proofs.Fits.{InBodies, fits_with, opens_at}
use Rattle.ev_blocks.specs.Blocks.{Spot, block, edges}
use Rattle.ev_blocks.specs.Blocks as blocks
use Rattle.ev_blocks.specs.Calls.{CallSpot, AtRecord, BehindWait, BehindBusy, AtFill, AtHead, AtLink, BehindFailure, BehindCall, AtTake, BehindTake, AtTurn, BehindTurn, AtTaken, AtFinish, BehindNext, AtOffset, fills_record, block_of_call, item_opening}
use Rattle.ev_blocks.specs.Items.{BodySpot, InCall, fills}
use Rattle.ev_table.specs.Table.{code_table}
use Rattle.ev_relation.specs.Active.{here, IsKernelSs, IsByHand, InCallSpot, InSpot, Active}
use Rattle.ev_relation.specs.Filling.{first_fill}
use Rattle.ev_relation.specs.Relation.{StandsOn, Stands, switches_at}
use Rattle.ev_relation.specs.Step.{Simulated}
use Rattle.ev_relation.proofs.Facts.{Facts}
use Rattle.ev_relation.proofs.Spots.{is_spot, layout_of, body}
use Rattle.ev_relation.proofs.CallKinds.{origin_of, plain_knows}
use Rattle.ev_body_steps.proofs.Bodies.{means_at}
use Rattle.ev_body_steps.proofs.ItemState.{with_registers, opening_of, known_of, ItemState, unblocked, any_registers, any_known, gone}
use Rattle.ev_body_steps.proofs.CallPlaces.{IsAtOffset, IsBeside, offset_from, place_behind, opens_from, item_regs_are, same_rsp}
use Rattle.ev_body_steps.proofs.KernelStep as step

-- ---- the blocks of call items

-- what the blocks come to, in the mode's layout
abbrev pub ends_of : (mode : Mode) → CallEnds (is_fred mode) (layout_of mode)
ends_of mode = call_ends (is_fred mode) (layout_of mode)

pub block_is : (mode : Mode) (s : CallSpot) → block mode (body mode (InCall s)) ≡ block_of_call (is_fred mode) (layout_of mode) s
block_is Fred s = refl
block_is Idt s = refl

-- Where no record is filled, a block of call items knows the words of a body's, and tells what an item's opening does, but for registers, RIP and flags.
pub record CallOpens (mode : Mode) (b : Block) : Type 0 where
  pub beside : IsBeside mode b.opening
  pub words : b.opening.words ≡ (opening_of mode).words
  pub known : b.ground.known ≡ known_of mode
  pub shared : b.ground.shared ≡ []
  pub flags : b.opening.flags ≡ FVar

-- so do those whose registers alone are told
plain_opens : (mode : Mode) (facts : List Fact) (lines : List Line) (offset : ℕ) (regs : List V) (steps : ℕ)
    → CallOpens mode (over (ground_over (is_fred mode) item_text (private (body_forms (layout_of mode))) facts) lines
    (record (item_opening (layout_of mode) offset) { regs = regs }) steps)
plain_opens Fred facts lines offset regs steps = record {
  beside = record { gs = refl; kernel_gs = refl; selector = refl; rsp0 = refl; cr2 = refl; blocked = refl };
  words = refl;
  known = refl;
  shared = refl;
  flags = refl;
}
plain_opens Idt facts lines offset regs steps = record {
  beside = record { gs = refl; kernel_gs = refl; selector = refl; rsp0 = refl; cr2 = refl; blocked = refl };
  words = refl;
  known = refl;
  shared = refl;
  flags = refl;
}

pub call_opens : (mode : Mode) (s : CallSpot) → fills_record s ≡ false → CallOpens mode (block_of_call (is_fred mode) (layout_of mode) s)
call_opens mode (AtRecord site) h = plain_opens mode _ _ _ _ _
call_opens mode (BehindWait is_done) h = plain_opens mode _ _ _ _ _
call_opens mode (BehindBusy r) h = plain_opens mode _ _ _ _ _
call_opens mode (BehindCall r is_first) h = plain_opens mode _ _ _ _ _
call_opens mode AtTake h = plain_opens mode _ _ _ _ _
call_opens mode (BehindTake n) h = plain_opens mode _ _ _ _ _
call_opens mode (AtTurn n) h = plain_opens mode _ _ _ _ _
call_opens mode (BehindTurn n) h = plain_opens mode _ _ _ _ _
call_opens mode (AtTaken is_some) h = plain_opens mode _ _ _ _ _
call_opens mode AtFinish h = plain_opens mode _ _ _ _ _
call_opens mode BehindNext h = plain_opens mode _ _ _ _ _
call_opens mode (AtOffset offset edges) h = plain_opens mode _ _ _ _ _
call_opens mode (AtFill address func to r) h = let clash : true ≡ false = h in absurd (cc)
call_opens mode (AtHead address func to) h = let clash : true ≡ false = h in absurd (cc)
call_opens mode (AtLink address func to stale) h = let clash : true ≡ false = h in absurd (cc)
call_opens mode (BehindFailure address func to) h = let clash : true ≡ false = h in absurd (cc)

-- the state that a block comes to tells the same, at its place
pub record ComesTo (mode : Mode) (z : SS) (offset : ℕ) (regs : List V) : Type 0 where
  pub beside : IsBeside mode z
  pub rip : z.rip ≡ at_base item_tag offset
  pub regs_are : z.regs ≡ regs
  pub words : z.words ≡ (opening_of mode).words

pub comes_to : (mode : Mode) (s : CallSpot) → fills_record s ≡ false → (offset : ℕ) (regs : List V)
    → (k : CallComes (is_fred mode) (layout_of mode) s offset regs) → ComesTo mode k.z offset regs
comes_to mode s h offset regs k =
    let o = call_opens mode s h in record {
      beside = record {
        gs = ap (λ (z : SS). z.gs) k.is ∙ o.beside.gs;
        kernel_gs = ap (λ (z : SS). z.kernel_gs) k.is ∙ o.beside.kernel_gs;
        selector = ap (λ (z : SS). z.selector) k.is ∙ o.beside.selector;
        rsp0 = ap (λ (z : SS). z.rsp0) k.is ∙ o.beside.rsp0;
        cr2 = ap (λ (z : SS). z.cr2) k.is ∙ o.beside.cr2;
        blocked = ap (λ (z : SS). z.blocked) k.is ∙ o.beside.blocked;
      };
      rip = ap (λ (z : SS). z.rip) k.is;
      regs_are = ap (λ (z : SS). z.regs) k.is;
      words = ap (λ (z : SS). z.words) k.is ∙ o.words;
    }

-- ---- places between blocks

pub offset_spot : (mode : Mode) (n e : ℕ) → n < 0x100 → is_spot mode (body mode (InCall (AtOffset n e))) ≡ true
offset_spot Fred n e l = lt-ltb n 0x100 l
offset_spot Idt n e l = lt-ltb n 0x100 l

pub offset_facts : (mode : Mode) (n k : ℕ) (e : Env) → FactsHold e (block mode (body mode (InCall (AtOffset n k)))).ground.facts
offset_facts Fred n k e = tt
offset_facts Idt n k e = tt

pub offset_lines : (mode : Mode) (code : Code) (n k : ℕ) (e : Env) → Lines code e (block mode (body mode (InCall (AtOffset n k)))).lines
offset_lines Fred code n k e = tt
offset_lines Idt code n k e = tt

offset_edges : (mode : Mode) (n k : ℕ) → edges mode (body mode (InCall (AtOffset n k))) 0 ≡ k
offset_edges Fred n k = omega arith
offset_edges Idt n k = omega arith

-- ---- an activation between the blocks

module _ (mode : Mode) (image : Image) (built : IsBuilt image) (good : IsImage image) (facts : Facts mode image)
    (left : NatMap ℕ) (s : System) (m : Machine) (h : Stands mode image left s m) (p : ℕ) (hp : p < image.processors)
    (o : step.Top mode image built good facts left s m h p hp) where
  abbrev code : Code
  code = code_table mode image

  abbrev c : Processor
  c = s.cpus p

  abbrev b : BodyContext
  b = o.b

  abbrev on : StandsOn mode image p (left p) s (processor m p)
  on = step.on mode image built good facts left s m h p hp

  abbrev env : ℕ → (extra v : ℕ → ℕ) → Flags → Env
  env ss extra v f = here mode p o.κ o.σ ss o.w extra v f

  abbrev Stood : ℕ → BodyContext → Processor → Memory → Type 0
  Stood now b cpu mem = Active mode image p now o.κ o.σ on.frame (switches_at mode image on.switching o.below) (first_fill on.fills) o.w b cpu mem

  plain : is_plain_kind o.κ ≡ true
  plain = step.plain_kind mode image built good facts left s m h p hp o

  -- It stands so many bytes behind the beginning of an item, and fills no record.
  pub record AtPlace (ss : ℕ) (extra v : ℕ → ℕ) (f : Flags) (offset : ℕ) : Type 0 where
    pub unfilled : first_fill on.fills ≡ None
    pub act : Stood on.own b c s.memory
    pub ss_is : IsKernelSs mode ss
    pub kernel : is_user c ≡ false
    pub range : InBodies extra
    pub near : offset < 0x100
    pub flags : Flags
    pub state : IsAtOffset mode (env ss extra v f) c s.memory offset flags

  -- so it does at the end of a block of call items
  pub behind_block : (s' : CallSpot) → fills_record s' ≡ false → first_fill on.fills ≡ None → (act : Stood on.own b c s.memory) (ss : ℕ) → IsKernelSs mode ss
      → (extra v : ℕ → ℕ) (f : Flags) → InBodies extra
      → At code (block mode (body mode (InCall s'))) (block mode (body mode (InCall s'))).steps (env ss extra v f) c s.memory
      → (offset : ℕ) → offset < 0x100 → (regs : List V) → CallComes (is_fred mode) (layout_of mode) s' offset regs → length regs ≡ 16
      → get_or (map (eval (env ss extra v f)) regs) 4 0 ≡ eval (env ss extra v f) (top_less (body_bytes (layout_of mode)))
      → AtPlace ss extra v f offset × (c.regs ≡ map (eval (env ss extra v f)) regs)
  behind_block s' off unfilled act ss ss_is extra v f range at offset near regs k long rsp =
      let B : Block = block_of_call (is_fred mode) (layout_of mode) s' in
      let e : Env = env ss extra v f in
      let y = comes_to mode s' off offset regs k in
      let opens = call_opens mode s' off in
      let there : At code B B.steps e c s.memory = subst (λ (q : Block). At code q q.steps e c s.memory) (block_is mode s') at in
      let a : Agrees e B.ground k.z c s.memory = at_end code B B.steps k.z k.runs e c s.memory there in
      let known : Known e (known_of mode) s.memory.words (opening_of mode).words
      = subst (λ ws. Known e (known_of mode) s.memory.words ws) y.words (subst (λ W. Known e W s.memory.words k.z.words) opens.known a.words) in (
        record {
          unfilled = unfilled;
          act = act;
          ss_is = ss_is;
          kernel = ap is_user a.rest;
          range = range;
          near = near;
          flags = eval_flags e k.z.flags;
          state = offset_from mode e B.ground k.z c s.memory offset y.beside y.rip (ap length y.regs_are ∙ long)
              (ap (λ vs. get_or (map (eval e) vs) 4 0) y.regs_are ∙ rsp) a known;
        },
        a.regs ∙ ap (map (eval e)) y.regs_are,
      )

  -- a block of an item opens, whose variables are these registers, and those beyond are as they were but for what no item's opening tells
  abbrev pub SpotOpens : (ss : ℕ) (extra v : ℕ → ℕ) (f : Flags) → Type 0
  SpotOpens ss extra v f =
      (s' : BodySpot) → CallOpens mode (block mode (body mode s')) → is_spot mode (body mode s') ≡ true → (extra' v' : ℕ → ℕ) → v 60 ≡ v' 60
      → v 61 ≡ v' 61 → v 63 ≡ v' 63 → extra' 20 ≡ extra 20 → (regs : List ℕ) (g : Flags) (next onto : ℕ) (words : NatMap ℕ) → length regs ≡ 16
      → get_or regs 4 0 ≡ get_or c.regs 4 0 → next ≡ (extra 20 + onto) % M → (block mode (body mode s')).opening.rip ≡ at_base item_tag onto
      → regs ≡ map (eval (env ss extra' (with_registers regs v') g)) (block mode (body mode s')).opening.regs
      → Known (env ss extra v f) (known_of mode) words (opening_of mode).words
      → Known (env ss extra' (with_registers regs v') g) (known_of mode) words (opening_of mode).words
      → FactsHold (env ss extra' (with_registers regs v') g) (block mode (body mode s')).ground.facts
      → Lines code (env ss extra' (with_registers regs v') g) (block mode (body mode s')).lines
      → At code (block mode (body mode s')) 0 (env ss extra' (with_registers regs v') g) (gone c regs g next) (with_words s.memory words)

  -- one of call items
  abbrev pub CallSpotOpens : (ss : ℕ) (extra v : ℕ → ℕ) (f : Flags) → Type 0
  CallSpotOpens ss extra v f =
      (s' : CallSpot) → fills_record s' ≡ false → is_spot mode (body mode (InCall s')) ≡ true → (extra' v' : ℕ → ℕ) → v 60 ≡ v' 60
      → v 61 ≡ v' 61 → v 63 ≡ v' 63 → extra' 20 ≡ extra 20 → (regs : List ℕ) (g : Flags) (next onto : ℕ) (words : NatMap ℕ) → length regs ≡ 16
      → get_or regs 4 0 ≡ get_or c.regs 4 0 → next ≡ (extra 20 + onto) % M
      → (block_of_call (is_fred mode) (layout_of mode) s').opening.rip ≡ at_base item_tag onto
      → regs ≡ map (eval (env ss extra' (with_registers regs v') g)) (block_of_call (is_fred mode) (layout_of mode) s').opening.regs
      → Known (env ss extra v f) (known_of mode) words (opening_of mode).words
      → Known (env ss extra' (with_registers regs v') g) (known_of mode) words (opening_of mode).words
      → FactsHold (env ss extra' (with_registers regs v') g) (block mode (body mode (InCall s'))).ground.facts
      → Lines code (env ss extra' (with_registers regs v') g) (block mode (body mode (InCall s'))).lines
      → At code (block mode (body mode (InCall s'))) 0 (env ss extra' (with_registers regs v') g) (gone c regs g next) (with_words s.memory words)

  -- At a place of an item any of them opens, whatever the activation fills.
  module _ (ss : ℕ) (extra v : ℕ → ℕ) (f : Flags) (offset : ℕ) (old : Flags) (state : IsAtOffset mode (env ss extra v f) c s.memory offset old)
      (range : InBodies extra) where
    pub spot_opens : SpotOpens ss extra v f
    spot_opens s' y over extra' v' other_gs chosen level base regs g next onto words long rsp rip opens registers known known' told lines =
        let B : Block = block mode (body mode s') in
        let u : Env = env ss extra' (with_registers regs v') g in
        let mem : Memory = with_words s.memory words in
        let d : Processor = gone c regs g next in
        let there : IsAtOffset mode (env ss extra v f) d mem onto g = place_behind mode p o.κ o.σ ss o.w extra v f c s.memory offset old state regs g next
        words onto long rsp rip known in
        let seat = step.in_seat mode image built good facts left s m h p hp o in
        let windows : Open u B.ground.known mem.regions
        = opens_at mode image p o.σ seat hp good.count.1 o.κ ss o.w extra' (with_registers regs v') g (body mode s') over mem h.regions_are in
        let fit : Fits code u B = fits_with mode image p o.σ seat hp good.count.1 o.κ ss o.w extra' (with_registers regs v') g facts (body mode s') over
        (step.fred_is mode image built good facts left s m h p hp o)
        (subst (λ n. (0xffffffff82000000 ≤ n) × (n + 0x100 ≤ M)) (sym base) range) told lines in
        begins code B u d mem fit
        (opens_from mode p o.κ o.σ ss o.w extra v f d mem onto g there extra' v' other_gs chosen level B.ground B.opening y.beside base opens y.flags registers
        (subst (λ W. Known u W words B.opening.words) (sym y.known) (subst (λ ws. Known u (known_of mode) words ws) (sym y.words) known'))
        windows y.shared)

    pub call_spot_opens : CallSpotOpens ss extra v f
    call_spot_opens s' off over extra' v' other_gs chosen level base regs g next onto words long rsp rip opens registers known known' told lines =
        let same = block_is mode s' in
        spot_opens (InCall s') (subst (CallOpens mode) (sym same) (call_opens mode s' off)) over extra' v' other_gs chosen level base regs g next onto words
        long rsp rip (ap (λ (q : Block). q.opening.rip) same ∙ opens)
        (registers ∙ ap (λ (q : Block). map (eval (env ss extra' (with_registers regs v') g)) q.opening.regs) (sym same)) known known' told lines

  module _ (ss : ℕ) (extra v : ℕ → ℕ) (f : Flags) (offset : ℕ) (a : AtPlace ss extra v f offset) where
    -- its address doesn't wrap
    pub rip_is : c.rip ≡ extra 20 + offset
    rip_is = let high = a.range.1 in let near = a.near in a.state.rip ∙ (let q : (extra 20 + offset) % M ≡ extra 20 + offset = omega arith in q)

    -- the instruction is here, before the next
    pub at_instruction : (i : Ins) (next : ℕ) → next ≡ extra 20 + offset + length (spelling i) → IsAt c i next
    at_instruction i next e = record {
      kernel = a.kernel;
      flags = kept c.flags a.flags a.state.flags;
      ends = ap (λ y. y + length (spelling i)) rip_is ∙ sym e;
    }

    -- so they do where it fills none
    pub spot_stands : SpotOpens ss extra v f
    spot_stands = spot_opens ss extra v f offset a.flags a.state a.range

    pub call_stands : CallSpotOpens ss extra v f
    call_stands = call_spot_opens ss extra v f offset a.flags a.state a.range

    -- An edge by an instruction that writes nothing, to the opening of a block of an item, which a jump finds elsewhere than behind it.
    pub goes_to_spot : (s' : BodySpot) → fills s' ≡ false → (i : Ins) (next onto : ℕ) → code c.rip ≡ Some (edge_cell i next) → is_return (Some i) ≡ false
        → (regs : List ℕ) (g : Flags) → length regs ≡ 16 → g.interrupts ≡ b.interrupts → Leads c s.memory i (gone c regs g onto) s.memory.words
        → (extra' v' : ℕ → ℕ)
        → At code (block mode (body mode s')) 0 (env ss extra' (with_registers regs v') g) (gone c regs g onto) s.memory
        → InSpot mode image (origin_of o.κ) s' (env ss extra' (with_registers regs v') g) o.w b (first_fill on.fills) s.memory.words
        → edges mode (body mode s') 0 < on.own → is_in_repeat c.rip ≡ false → Simulated mode image left s m p
    goes_to_spot s' off i next onto cell inner regs g long masked leads extra' v' at means fewer outside =
        step.edge mode image built good facts left s m h p hp o (edge_cell i next) cell refl inner a.kernel outside (gone c regs g onto) s.memory.words
        leads (step.blocked mode image built good facts left s m h p hp) [] (none_spares p) refl (step.unknown_none o.below) (λ y far near. refl)
        (edges mode (body mode s') 0) fewer
        (record {
          stands = record {
            spot = body mode s';
            k = 0;
            extra = extra';
            var = with_registers regs v';
            flags = g;
            ss = ss;
            ss_is = a.ss_is;
            masked = masked;
            within = omega arith;
            enough = omega arith;
            at = at;
            long = long;
          };
          switches = sym o.off;
          fills = off ∙ sym (ap is_some a.unfilled);
          knows = plain_knows mode o.κ on.frame plain (blocks.holds (body mode s'));
          means = means_at mode image o.κ plain s' (env ss extra' (with_registers regs v') g) o.w b (first_fill on.fills) s.memory.words means;
        })

    -- and of one of call items
    pub goes_to : (s' : CallSpot) → fills_record s' ≡ false → (i : Ins) (next : ℕ) → code c.rip ≡ Some (edge_cell i next) → is_return (Some i) ≡ false
        → (regs : List ℕ) (g : Flags) → length regs ≡ 16 → g.interrupts ≡ b.interrupts → Leads c s.memory i (gone c regs g next) s.memory.words
        → (extra' v' : ℕ → ℕ)
        → At code (block mode (body mode (InCall s'))) 0 (env ss extra' (with_registers regs v') g) (gone c regs g next) s.memory
        → InSpot mode image (origin_of o.κ) (InCall s') (env ss extra' (with_registers regs v') g) o.w b (first_fill on.fills) s.memory.words
        → edges mode (body mode (InCall s')) 0 < on.own → is_in_repeat c.rip ≡ false → Simulated mode image left s m p
    goes_to s' off i next = goes_to_spot (InCall s') off i next next

    -- Where a block has ended and another opens: the step is that one's first.
    pub opens : (s' : CallSpot) → fills_record s' ≡ false → is_spot mode (body mode (InCall s')) ≡ true
        → (block_of_call (is_fred mode) (layout_of mode) s').opening.rip ≡ at_base item_tag offset
        → (block_of_call (is_fred mode) (layout_of mode) s').opening.regs ≡ item_regs (layout_of mode)
        → FactsHold (env ss extra (with_registers c.regs v) a.flags) (block_of_call (is_fred mode) (layout_of mode) s').ground.facts
        → Lines code (env ss extra (with_registers c.regs v) a.flags) (block_of_call (is_fred mode) (layout_of mode) s').lines
        → 0 < (block_of_call (is_fred mode) (layout_of mode) s').steps
        → InCallSpot mode image (origin_of o.κ) s' (env ss extra (with_registers c.regs v) a.flags) o.w b (first_fill on.fills) s.memory.words
        → edges mode (body mode (InCall s')) 0 ≤ on.own → Simulated mode image left s m p
    opens s' off over rip regs told lines some means enough =
        let u : Env = env ss extra (with_registers c.regs v) a.flags in
        let long : length c.regs ≡ 16 = a.state.long in
        let stack : get_or c.regs 4 0 ≡ eval u (top_less (body_bytes (layout_of mode)))
        = same_rsp mode p o.κ o.σ ss o.w extra v f c s.memory offset a.flags a.state extra v refl refl refl in
        let same = block_is mode s' in
        let there = call_stands s' off over extra v refl refl refl refl c.regs a.flags c.rip offset s.memory.words long refl a.state.rip rip
        (item_regs_are mode u c.regs v refl long stack ∙ ap (map (eval u)) (sym regs)) a.state.words
        (any_known mode p o.κ o.σ ss o.w extra extra v f a.flags c.regs s.memory.words a.state.words)
        (subst (λ (B : Block). FactsHold u B.ground.facts) (sym same) told) (subst (λ (B : Block). Lines code u B.lines) (sym same) lines) in
        let stays : c ≡ gone c c.regs a.flags c.rip = λ i. record c { flags = a.state.flags i; sti_blocked = a.state.blocked i } in
        let act' : Stood on.own b c s.memory = record {
          stands = record {
            spot = body mode (InCall s');
            k = 0;
            extra = extra;
            var = with_registers c.regs v;
            flags = a.flags;
            ss = ss;
            ss_is = a.ss_is;
            masked = step.masks_flags mode image built good facts left s m h p hp o a.flags a.state.flags;
            within = omega arith;
            enough = enough;
            at = subst (λ y. At code (block mode (body mode (InCall s'))) 0 u y s.memory) (sym stays) there;
            long = long;
          };
          switches = sym o.off;
          fills = off ∙ sym (ap is_some a.unfilled);
          knows = plain_knows mode o.κ on.frame plain (blocks.holds (body mode (InCall s')));
          means = means_at mode image o.κ plain (InCall s') u o.w b (first_fill on.fills) s.memory.words means;
        } in
        step.inside mode image built good facts left s m h p hp o act' off (subst (λ (B : Block). 0 < B.steps) (sym same) some)

    -- An edge by an instruction that writes nothing, to one that is made by hand too.
    pub goes_by_hand : (n k : ℕ) → n < 0x100 → (i : Ins) (next : ℕ) → code c.rip ≡ Some (edge_cell i next) → is_return (Some i) ≡ false
        → (regs : List ℕ) → length regs ≡ 16 → get_or regs 4 0 ≡ get_or c.regs 4 0 → next ≡ extra 20 + n
        → Leads c s.memory i (gone c regs a.flags next) s.memory.words
        → IsByHand mode image (origin_of o.κ) (env ss extra (with_registers regs v) a.flags) o.w b s.memory.words n k → k < on.own
        → Simulated mode image left s m p
    unfolding eval
    goes_by_hand n k near i next cell inner regs long rsp onto leads means fewer =
        let u : Env = env ss extra (with_registers regs v) a.flags in
        let high = a.range.1 in
        let stack : get_or regs 4 0 ≡ eval u (top_less (body_bytes (layout_of mode)))
        = rsp ∙ same_rsp mode p o.κ o.σ ss o.w extra v f c s.memory offset a.flags a.state extra v refl refl refl in
        goes_to (AtOffset n k) refl i next cell inner regs a.flags long
        (step.masks_flags mode image built good facts left s m h p hp o a.flags a.state.flags) leads extra v
        (call_stands (AtOffset n k) refl (offset_spot mode n k near) extra v refl refl refl refl regs a.flags next n s.memory.words long rsp
        (let z : next ≡ (extra 20 + n) % M = omega arith in z) refl (item_regs_are mode u regs v refl long stack) a.state.words
        (any_known mode p o.κ o.σ ss o.w extra extra v f a.flags regs s.memory.words a.state.words) (offset_facts mode n k u) (offset_lines mode code n k u))
        means (subst (λ y. y < on.own) (sym (offset_edges mode n k)) fewer) (step.outside mode image built good facts left s m h p hp o a.act)

    -- an item's state there, of which the registers are the variables
    pub item_state_at : ItemState mode (env ss extra (with_registers c.regs v) a.flags) c s.memory offset (X 0) (X 1) (X 2) a.flags
    unfolding eval
    item_state_at =
        let u : Env = env ss extra (with_registers c.regs v) a.flags in
        let same = any_registers mode p o.κ o.σ ss o.w o.w extra extra v v f a.flags c.regs refl refl refl in record {
          regs = item_regs_are mode u c.regs v refl a.state.long
              (same_rsp mode p o.κ o.σ ss o.w extra v f c s.memory offset a.flags a.state extra v refl refl refl);
          rip = a.state.rip;
          flags = a.state.flags;
          gs = a.state.gs ∙ same.gs;
          kernel_gs = a.state.kernel_gs ∙ same.kernel_gs;
          selector = a.state.selector ∙ same.selector;
          levels = a.state.levels ∙ ap (λ n. n ∷ u.rest.msrs.rsp) same.rsp0;
          blocked = a.state.blocked ∙ sym (unblocked mode);
          rest = a.state.rest;
          words = any_known mode p o.κ o.σ ss o.w extra extra v f a.flags c.regs s.memory.words a.state.words;
        }
