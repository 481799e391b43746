-- What is visible in `kick`: WRMSR, which sends, and behind which a jump leads to the next item; or where it sends nothing an instruction that does nothing,
-- behind which the next item is.
use Rattle.std.proofs.Common.{◌≡◌, ℕ, suc, ◌+◌, ◌%◌, ◌<◌, ◌≤◌, Bool, true, false, not, ◌&&◌, List, [], ◌∷◌, map, get_or, length, Option, None, Some, refl, sym, ap, ◌∙◌, subst, arith}
use Rattle.std.specs.Prelude.{pos, is_some, nat_le, nat_lt, slice_get, ◌==◌, if◌then◌else◌}
use Rattle.std.proofs.lemmas.Bool.{ltb-true, not-false}
use Rattle.ev_isa.specs.Word.{NatMap}
use Rattle.ev_isa.specs.Flags.{Flags}
use Rattle.ev_isa.specs.Spelling.{spelling, four_bytes}
use Rattle.ev_isa.specs.declared.instruction.Ins.{Ins}
use Rattle.ev_isa.specs.declared.instruction.Ins.TheVariants.{Jmp, Wrmsr}
use Rattle.ev_isa.specs.declared.mode.Mode.{Mode}
use Rattle.ev_isa.specs.declared.mode.Mode.TheVariants.{Idt, Fred}
use Rattle.ev_body.specs.declared.key.Key.TheVariants.{Irq}
use Rattle.ev_body.specs.declared.item.Item.TheVariants.{Kick}
use Rattle.ev_body.specs.declared.body.Body.{Body}
use Rattle.ev_body.specs.declared.image.Image.{Image}
use Rattle.ev_body.specs.WellFormed.{IsImage}
use Rattle.ev_listing.specs.AddressMap.{nmi_entry, repeat_entry}
use Rattle.ev_listing.specs.Expansion.{item_address}
use Rattle.ev_listing.specs.Marks.{Always}
use Rattle.ev_apic.specs.declared.send.Send.{Send}
use Rattle.ev_mem.specs.Memory.{Memory}
use Rattle.ev_state.specs.Processor.{Processor, is_user}
use Rattle.ev_proc.specs.ProcessorStep.{executed}
use Rattle.ev_law.specs.Legal.{AreLegal, knows}
use Rattle.ev_law.proofs.Machines.{used_by_item, kick_sends}
use Rattle.ev_law.proofs.Ruled.{IsRuled, body_ruled}
use Rattle.ev_abstract.specs.Context.{BodyContext, local}
use Rattle.ev_abstract.specs.ItemMeaning.{item_step, with_context, with_mail, done, unknown_flags}
use Rattle.ev_abstract.specs.Machine.{Machine, processor}
use Rattle.ev_abstract.specs.Machine as abstract
use Rattle.ev_abstract.specs.Rules.{breaks_slots, is_used}
use Rattle.ev_abstract.specs.Run.{item_at, turn}
use Rattle.ev_concrete.specs.ConcreteRun.{System, is_return}
use Rattle.ev_concrete.specs.Depth.{is_in_repeat, is_jump}
use Rattle.ev_concrete.specs.Shown.{shown_always}
use Rattle.ev_built.specs.Built.{IsBuilt}
use Rattle.ev_symbolic.specs.Value.{M, K, X}
use Rattle.ev_symbolic.specs.State.{SS, Block}
use Rattle.ev_symbolic.specs.Run.{brun}
use Rattle.ev_symbolic.specs.Single.{IsAt, Leads, onward}
use Rattle.ev_symbolic.specs.Listed.{lines_at}
use Rattle.ev_symbolic.specs.Openings.{at_base}
use Rattle.ev_symbolic.specs.Names.{item_tag}
use Rattle.ev_symbolic.specs.Agrees.{Env, Code, eval, eval_flags, FactsHold, Fits, Stands as Lines, Agrees, At}
use Rattle.ev_symbolic.proofs.Single.{singles}
use Rattle.ev_symbolic.proofs.Blocks.{begins, at_end}
use Rattle.ev_blocks.specs.Shapes.{FredFrame, IdtFrame}
use Rattle.ev_blocks.specs.Calls.{AtOffset}
use Rattle.ev_blocks.specs.Items.{BodySpot, AtItem, AtKick, BehindKick, InCall, fills, behind_kick, at_quiet, kick_end}
use Rattle.ev_blocks.specs.Blocks.{block, edges}
use Rattle.ev_blocks.specs.Blocks as blocks
use Rattle.ev_paths.specs.CallEnds.{item_regs}
use Rattle.ev_paths.proofs.BodyEnds.{body_ends}
use Rattle.ev_table.specs.Table.{code_table}
use Rattle.ev_relation.specs.Filling.{first_fill}
use Rattle.ev_relation.specs.Active.{item_place, address_of_item, here, IsKernelSs, InSpot, Kicking, Active}
use Rattle.ev_relation.specs.Relation.{IsContext, Chain, StandsOn, Stands, switches_at}
use Rattle.ev_relation.specs.Step.{Simulated}
use Rattle.ev_relation.proofs.After.{none_spares}
use Rattle.ev_relation.proofs.CallKinds.{origin_of, plain_knows}
use Rattle.ev_relation.proofs.Depth.{goes_on_inside, sent_inside}
use Rattle.ev_relation.proofs.Facts.{Facts}
use Rattle.ev_relation.proofs.Fits.{InBodies, fits_at, opens_at}
use Rattle.ev_relation.proofs.Legality.{turn_legal}
use Rattle.ev_relation.proofs.Spots.{is_spot}
use Rattle.ev_relation.proofs.Standing.{went, went_activations, went_shows, went_stays}
use Rattle.ev_body_steps.proofs.Bodies.{body, layout_of, at_the_item, means_at, saved_again}
use Rattle.ev_body_steps.proofs.ItemState.{with_registers, known_of, Comes, ItemState, item_state, gone, lands, any_registers, any_known, beyond_registers}
use Rattle.ev_body_steps.proofs.ItemLocals.{locals_behind, calls_behind}
use Rattle.ev_body_steps.proofs.ItemVisible.{goes_onward, legal_context}
use Rattle.ev_body_steps.proofs.ItemVisible as visible
use Rattle.ev_body_steps.proofs.ItemCells.{edges_stand}
use Rattle.ev_body_steps.proofs.ItemMsr.{writes_command}
use Rattle.ev_body_steps.proofs.CallCells.{KickCode, kick_code}
use Rattle.ev_body_steps.proofs.CallPlaces.{item_regs_are}
use Rattle.ev_body_steps.proofs.CallGoes as goes
use Rattle.ev_body_steps.proofs.KickGoes.{place_of}
use Rattle.ev_body_steps.proofs.Mailing as mailing
use Rattle.ev_body_steps.proofs.ItemWords as words
use Rattle.ev_body_steps.proofs.KernelStep as step

-- ---- the blocks

-- where what it sends with ends
sending_end : (mode : Mode) (to : ℕ) → (z : SS) × (brun (block mode (body mode (AtKick to))) 3 ≡ Some z)
    × Comes mode z 43 (K 0x40fb) (K 0x830) (K to) × ((block mode (body mode (AtKick to))).ground.known ≡ known_of mode)
sending_end Fred to = let w = (body_ends true FredFrame).kick to in (w.z, w.runs, w.is, refl)
sending_end Idt to = let w = (body_ends false IdtFrame).kick to in (w.z, w.runs, w.is, refl)

pub sending_steps : (mode : Mode) (to : ℕ) → (block mode (body mode (AtKick to))).steps ≡ 3
sending_steps Fred to = refl
sending_steps Idt to = refl

-- how the place of what is visible opens where it sends nothing, which is where it ends
quiet_opens : (mode : Mode) → Comes mode (block mode (body mode (InCall (AtOffset at_quiet 0)))).opening at_quiet (X 0) (X 1) (X 2)
    × ((block mode (body mode (InCall (AtOffset at_quiet 0)))).ground.known ≡ known_of mode)
quiet_opens Fred = (refl, refl)
quiet_opens Idt = (refl, refl)

-- the jump behind WRMSR
jump_spot : (mode : Mode) → is_spot mode (body mode BehindKick) ≡ true
jump_spot Fred = refl
jump_spot Idt = refl

jump_facts : (mode : Mode) (e : Env) → FactsHold e (block mode (body mode BehindKick)).ground.facts
jump_facts Fred e = tt
jump_facts Idt e = tt

jump_lines : (mode : Mode) → (block mode (body mode BehindKick)).lines ≡ lines_at (at_base item_tag behind_kick) (Jmp (pos 1) ∷ [])
jump_lines Fred = refl
jump_lines Idt = refl

jump_opens : (mode : Mode) → goes.CallOpens mode (block mode (body mode BehindKick)) × ((block mode (body mode BehindKick)).opening.rip
    ≡ at_base item_tag behind_kick) × ((block mode (body mode BehindKick)).opening.regs ≡ item_regs (layout_of mode))
jump_opens Fred = (
  record {
    beside = record { gs = refl; kernel_gs = refl; selector = refl; rsp0 = refl; cr2 = refl; blocked = refl };
    words = refl;
    known = refl;
    shared = refl;
    flags = refl;
  },
  refl,
  refl,
)
jump_opens Idt = (
  record {
    beside = record { gs = refl; kernel_gs = refl; selector = refl; rsp0 = refl; cr2 = refl; blocked = refl };
    words = refl;
    known = refl;
    shared = refl;
    flags = refl;
  },
  refl,
  refl,
)

jump_few : (mode : Mode) → edges mode (body mode BehindKick) 0 ≤ 100
jump_few Fred = omega arith
jump_few Idt = omega arith

item_few : (mode : Mode) → edges mode (body mode AtItem) 0 ≤ 100
item_few Fred = omega arith
item_few Idt = omega arith

module _ (mode : Mode) (image : Image) (built : IsBuilt image) (good : IsImage image) (facts : Facts mode image)
    (left : NatMap ℕ) (s : System) (m : Machine) (h : Stands mode image left s m) (p : ℕ) (hp : p < image.processors)
    (o : step.Top mode image built good facts left s m h p hp) (body' : Body) (is : slice_get image.bodies o.b.body ≡ Some body') where
  abbrev code : Code
  code = code_table mode image

  abbrev c : Processor
  c = s.cpus p

  abbrev b : BodyContext
  b = o.b

  abbrev x : abstract.Processor
  x = processor m p

  abbrev on : StandsOn mode image p (left p) s x
  on = step.on mode image built good facts left s m h p hp

  abbrev env : ℕ → (extra v : ℕ → ℕ) → Flags → Env
  env ss extra v f = here mode p o.κ o.σ ss o.w extra v f

  abbrev Stood : ℕ → BodyContext → Processor → Memory → Type 0
  Stood now b cpu mem = Active mode image p now o.κ o.σ on.frame (switches_at mode image on.switching o.below) (first_fill on.fills) o.w b cpu mem

  -- the context behind `kick`
  abbrev behind : BodyContext
  behind = record b { place = suc b.place; flags = None }

  ruled : IsRuled image body'
  ruled = body_ruled image good built.accepted.1.kept b.body body' is

  module _ (ss : ℕ) (extra v : ℕ → ℕ) (f : Flags) (offset : ℕ) (y : goes.AtPlace mode image built good facts left s m h p hp o ss extra v f offset) where
    -- A visible instruction that writes nothing leads to the opening of a block, for the context behind `kick`.
    turns_to : (spot : BodySpot) → fills spot ≡ false → (ins : Ins) (next : ℕ) → code c.rip ≡ Some (record { ins = ins; next = next; mark = Always })
        → is_return (Some ins) ≡ false → (sent : Option Send) (z : step.Sends mode image built good facts left s m h p hp sent)
        → executed c (s.apics p) s.memory (s.latches p) (Some ins) ≡ went (gone c c.regs y.flags next) (s.apics p) s.memory.words (s.latches p) sent
        → turn image m p ≡ (with_context z.machine p behind, [])
        → step.Makes mode image built good facts left s m h p hp o z.machine z.machine s.memory.words x.tasks x.slots x.bodies → (extra' : ℕ → ℕ)
        → At code (block mode (body mode spot)) 0 (env ss extra' (with_registers c.regs v) y.flags) (gone c c.regs y.flags next) s.memory
        → InSpot mode image (origin_of o.κ) spot (env ss extra' (with_registers c.regs v) y.flags) o.w behind (first_fill on.fills) s.memory.words
        → edges mode (body mode spot) 0 ≤ 100 → went_shows p s Always ins (gone c c.regs y.flags next) s.memory.words sent ≡ []
        → Simulated mode image left s m p
    turns_to spot none ins next found inner sent z runs turns makes extra' at means few shows =
        let g : Flags = y.flags in
        let cpu : Processor = gone c c.regs g next in
        let m' : Machine = with_context z.machine p behind in
        let plain = step.plain_kind mode image built good facts left s m h p hp o in
        let now : ℕ = edges mode (body mode spot) 0 in
        let made = words.makes_context mode image built good facts left s m h p hp o z.machine z.machine s.memory.words x.tasks x.slots behind makes in
        let act' : Stood now behind cpu s.memory = record {
          stands = record {
            spot = body mode spot;
            k = 0;
            extra = extra';
            var = with_registers c.regs v;
            flags = g;
            ss = ss;
            ss_is = y.ss_is;
            masked = step.masks_flags mode image built good facts left s m h p hp o g y.state.flags;
            within = omega arith;
            enough = omega arith;
            at = at;
            long = y.state.long;
          };
          switches = sym o.off;
          fills = none ∙ sym (ap is_some y.unfilled);
          knows = plain_knows mode o.κ on.frame plain (blocks.holds (body mode spot));
          means = means_at mode image o.κ plain spot (env ss extra' (with_registers c.regs v) g) o.w behind (first_fill on.fills) s.memory.words means;
        } in
        let ctx : IsContext mode image behind = legal_context image (knows image m') behind o.below mode
        (subst (λ (q : abstract.Processor). AreLegal image (knows image m') q.bodies) made.own
        ((turn_legal image good built.accepted m p hp h.legal (m', []) turns).each p).bodies) in
        let outside = step.outside mode image built good facts left s m h p hp o y.act in
        let still_there : went_activations image.processors s p cpu sent ≡ o.last ∷ o.others
        = went_stays image.processors s p cpu sent ins (step.fetches mode image built good facts left s m h p hp c.rip _ found).1 inner ∙ o.acts in
        step.visible_with mode image built good facts left s m h p hp o (λ i. y.state.blocked) (record { ins = ins; next = next; mark = Always }) found refl
        y.kernel (s.apics p) cpu s.memory.words sent z runs (step.blocked mode image built good facts left s m h p hp) [] (none_spares p).free
        (λ k far off. refl) m' [] turns x.tasks x.slots on.fills on.free (λ k. refl) (behind ∷ o.below) made
        (visible.same_apic mode image built good facts left s m h p hp o body' is None (suc b.place) None)
        (sent_inside (length x.bodies) c ins sent
        (goes_on_inside (is_return (Some ins)) (not (is_user c)) (not (nat_le nmi_entry c.rip && nat_lt c.rip repeat_entry)) (is_jump (Some ins))
        (is_in_repeat c.rip) (length x.bodies) inner outside) ∙ ap length o.bodies)
        now (omega arith)
        (subst (λ as'. Chain mode image p now x.running on.returning (x.tasks on.returning) on.frame on.switching on.fills (behind ∷ o.below) as' cpu s.memory)
        (sym still_there)
        (step.with_last mode image built good facts left s m h p hp o behind o.kind ctx now cpu s.memory.words [] (none_spares p).free
        (step.unknown_none o.below) (λ k far off. refl) act'))
        (λ counted. shows)

  -- the answer decides what the turn is
  turned : Stood on.own b c s.memory → (sends : Bool) (to r : ℕ) → item_at (Some body') b.place ≡ Some (Kick to r) → (local b r == 2) ≡ sends
      → (b.interrupts ≡ true → c.sti_blocked ≡ false)
      → turn image m p ≡ (with_context (if sends then with_mail m to (Irq 0xfb) else m) p behind, [])
  unfolding item_step
  turned act sends to r hi answer unblocked =
      step.turns mode image built good facts left s m h p hp o unblocked (Kick to r) (ap (λ q. item_at q b.place) is ∙ hi)
      ∙ ap (λ t. done (if t then with_mail m to (Irq 0xfb) else m) p (unknown_flags b)) answer

  -- At the end of what it sends with: it sends.
  pub by_sending : first_fill on.fills ≡ None → (act : Stood on.own b c s.memory) (ss : ℕ) → IsKernelSs mode ss → (extra v : ℕ → ℕ) (f : Flags) (to : ℕ)
      → At code (block mode (body mode (AtKick to))) 3 (env ss extra v f) c s.memory
      → Kicking mode image (origin_of o.κ) (env ss extra v f) o.w b to true s.memory.words → Simulated mode image left s m p
  unfolding eval spelling four_bytes is_return breaks_slots shown_always mailing.sending
  by_sending unfilled act ss ss_is extra v f to at means =
      let e : Env = env ss extra v f in
      let B : Block = block mode (body mode (AtKick to)) in
      let a : ℕ = item_address mode b.body body' b.place in
      let base : extra 20 ≡ a = means.place ∙ ap (address_of_item mode b.body b.place) is in
      let range : InBodies extra = means.code.range in
      let high = range.1 in
      let hi : item_at (Some body') b.place ≡ Some (Kick to means.s) = ap (λ q. item_at q b.place) (sym is) ∙ means.item in
      let z = sending_end mode to in
      let g : Flags = eval_flags e z.0.flags in
      let agrees : Agrees e B.ground z.0 c s.memory = at_end code B 3 z.0 z.1 e c s.memory at in
      let state : ItemState mode e c s.memory 43 (K 0x40fb) (K 0x830) (K to) g
      = item_state mode e B.ground z.0 c s.memory 43 (K 0x40fb) (K 0x830) (K to) z.3 z.2 agrees in
      let y : goes.AtPlace mode image built good facts left s m h p hp o ss extra v f 43 = record {
        unfilled = unfilled;
        act = act;
        ss_is = ss_is;
        kernel = ap is_user agrees.rest;
        range = range;
        near = omega arith;
        flags = g;
        state = place_of mode e c s.memory 43 (K 0x40fb) (K 0x830) (K to) g state;
      } in
      let cells : KickCode code a (item_address mode b.body body' (suc b.place)) to means.s
      = kick_code mode image facts b.body body' is b.place to means.s hi in
      let next : ℕ = a + behind_kick in
      let rip : c.rip ≡ a + 43 = goes.rip_is mode image built good facts left s m h p hp o ss extra v f 43 y ∙ ap (λ k. k + 43) base in
      let found : code c.rip ≡ Some (record { ins = Wrmsr; next = next; mark = Always }) = ap code rip ∙ cells.sends in
      let at_ins : IsAt c Wrmsr next = goes.at_instruction mode image built good facts left s m h p hp o ss extra v f 43 y Wrmsr next
      (let q : next ≡ extra 20 + 43 + 2 = omega arith in q) in
      let there : to < image.processors = ltb-true to image.processors (not-false _ (ruled.slots b.place (Kick to means.s) hi)) in
      let few = good.count.1 in
      let used : is_used image (Irq 0xfb) ≡ true
      = used_by_item image (Irq 0xfb) b.body b.place body' (Kick to means.s) is hi (kick_sends image to means.s) in
      let runs = subst (λ n. executed c (s.apics p) s.memory (s.latches p) (Some Wrmsr)
      ≡ went (record (onward c c.regs next) { flags = n }) (s.apics p) s.memory.words (s.latches p) (Some (mailing.what mode image built good facts left s m h p
      hp o to 0xfb there refl used))) state.flags
      (writes_command c s.memory next at_ins 0xfb to (omega arith) (omega arith) (let l = there in omega arith)
      (ap (λ (xs : List ℕ). get_or xs 0 0) state.regs) (ap (λ (xs : List ℕ). get_or xs 1 0) state.regs) (ap (λ (xs : List ℕ). get_or xs 2 0) state.regs)
      (s.apics p) (s.latches p)) in
      let u : Env = env ss extra (with_registers c.regs v) g in
      let opens = jump_opens mode in
      let lines : Lines code u (block mode (body mode BehindKick)).lines = subst (Lines code u) (sym (jump_lines mode))
      (edges_stand code u a behind_kick (Jmp (pos 1) ∷ []) base (omega arith) cells.over) in
      let registers = item_regs_are mode u c.regs v refl y.state.long
      (y.state.rsp ∙ (any_registers mode p o.κ o.σ ss o.w o.w extra extra v v f g c.regs refl refl refl).rsp) in
      let stands = goes.spot_stands mode image built good facts left s m h p hp o ss extra v f 43 y BehindKick opens.0 (jump_spot mode) extra v refl refl refl
      refl c.regs g next behind_kick s.memory.words y.state.long refl (let q : next ≡ (extra 20 + 45) % M = omega arith in q) opens.1
      (registers ∙ ap (map (eval u)) (sym opens.2)) y.state.words
      (any_known mode p o.κ o.σ ss o.w extra extra v f g c.regs s.memory.words y.state.words) (jump_facts mode u) lines in
      turns_to ss extra v f 43 y BehindKick refl Wrmsr next found refl _
      (mailing.sending mode image built good facts left s m h p hp o to 0xfb there refl used) runs
      (turned act true to means.s hi means.answer (λ i. y.state.blocked))
      (mailing.still mode image built good facts left s m h p hp o to 0xfb there refl used) extra stands (
        record {
          range = range;
          saved = saved_again mode image (origin_of o.κ) e u o.w (beyond_registers c.regs v) refl refl refl means.code.saved;
          locals = locals_behind mode image e c s.memory 43 (K 0x40fb) (K 0x830) (K to) g state b means.code.locals None tt;
          calls = calls_behind mode image e c s.memory 43 (K 0x40fb) (K 0x830) (K to) g state b means.code.locals None tt s.memory.words (λ k l j lj. refl)
              means.code.calls;
        },
        ap (λ k. k + kick_end) base ∙ cells.follows ∙ sym (ap (address_of_item mode b.body (suc b.place)) is),
        refl,
      )
      (jump_few mode) refl

  -- Where it sends nothing: the next item is behind the instruction.
  pub by_quiet : first_fill on.fills ≡ None → (act : Stood on.own b c s.memory) (ss : ℕ) → IsKernelSs mode ss → (extra v : ℕ → ℕ) (f : Flags) (to : ℕ)
      → At code (block mode (body mode (InCall (AtOffset at_quiet 0)))) 0 (env ss extra v f) c s.memory
      → Kicking mode image (origin_of o.κ) (env ss extra v f) o.w b to false s.memory.words → Simulated mode image left s m p
  unfolding spelling four_bytes is_return shown_always
  by_quiet unfilled act ss ss_is extra v f to at means =
      let e : Env = env ss extra v f in
      let B : Block = block mode (body mode (InCall (AtOffset at_quiet 0))) in
      let a : ℕ = item_address mode b.body body' b.place in
      let base : extra 20 ≡ a = means.place ∙ ap (address_of_item mode b.body b.place) is in
      let range : InBodies extra = means.code.range in
      let high = range.1 in
      let hi : item_at (Some body') b.place ≡ Some (Kick to means.s) = ap (λ q. item_at q b.place) (sym is) ∙ means.item in
      let opens = quiet_opens mode in
      let g : Flags = eval_flags e B.opening.flags in
      let agrees : Agrees e B.ground B.opening c s.memory = at_end code B 0 B.opening refl e c s.memory at in
      let state : ItemState mode e c s.memory at_quiet (X 0) (X 1) (X 2) g
      = item_state mode e B.ground B.opening c s.memory at_quiet (X 0) (X 1) (X 2) opens.1 opens.0 agrees in
      let y : goes.AtPlace mode image built good facts left s m h p hp o ss extra v f at_quiet = record {
        unfilled = unfilled;
        act = act;
        ss_is = ss_is;
        kernel = ap is_user agrees.rest;
        range = range;
        near = omega arith;
        flags = g;
        state = place_of mode e c s.memory at_quiet (X 0) (X 1) (X 2) g state;
      } in
      let cells : KickCode code a (item_address mode b.body body' (suc b.place)) to means.s
      = kick_code mode image facts b.body body' is b.place to means.s hi in
      let next : ℕ = item_address mode b.body body' (suc b.place) in
      let rip : c.rip ≡ a + at_quiet = goes.rip_is mode image built good facts left s m h p hp o ss extra v f at_quiet y ∙ ap (λ k. k + 50) base in
      let follows = cells.follows in
      let found : code c.rip ≡ Some (record { ins = Ins.Nop; next = next; mark = Always }) = ap code rip ∙ cells.quiet
      ∙ ap (λ k. Some (record { ins = Ins.Nop; next = k; mark = Always })) follows in
      let at_ins : IsAt c Ins.Nop next = goes.at_instruction mode image built good facts left s m h p hp o ss extra v f at_quiet y Ins.Nop next
      (let q : next ≡ extra 20 + 50 + 1 = omega arith in q) in
      let leads : Leads c s.memory Ins.Nop (gone c c.regs g next) s.memory.words
      = goes_onward c s.memory Ins.Nop g c.regs next s.memory.words state.flags ((singles c s.memory next).rests at_ins) in
      let way = at_the_item mode in
      let further : ℕ → ℕ = λ k. item_place mode image b.body (suc b.place) in
      let next_is : item_place mode image b.body (suc b.place) ≡ next = ap (address_of_item mode b.body (suc b.place)) is in
      let u : Env = env ss further (with_registers c.regs v) g in
      let seat = step.in_seat mode image built good facts left s m h p hp o in
      let opening = lands mode e u c s.memory at_quiet (X 0) (X 1) (X 2) g state
      (any_registers mode p o.κ o.σ ss o.w o.w extra further v v f g c.regs refl refl refl) refl c.regs y.state.long refl v refl next next_is
      (facts.item_small b.body (suc b.place) body' is).1 s.memory.words
      (any_known mode p o.κ o.σ ss o.w extra further v f g c.regs s.memory.words y.state.words)
      (opens_at mode image p o.σ seat hp good.count.1 o.κ ss o.w further (with_registers c.regs v) g (body mode AtItem) way.over s.memory h.regions_are) in
      let fit : Fits code u (block mode (body mode AtItem)) = fits_at mode image p o.σ seat hp good.count.1 o.κ ss o.w further (with_registers c.regs v) g facts
      (body mode AtItem) way.over (step.fred_is mode image built good facts left s m h p hp o)
      (subst (λ k. (0xffffffff82000000 ≤ k) × (k + 0x100 ≤ M)) (sym next_is) (facts.item_range b.body (suc b.place) body' is)) tt (way.told u) in
      turns_to ss extra v f at_quiet y AtItem refl Ins.Nop next found refl None (step.sends_nothing mode image built good facts left s m h p hp)
      (leads (s.apics p) (s.latches p)) (turned act false to means.s hi means.answer (λ i. y.state.blocked))
      (words.makes_nothing mode image built good facts left s m h p hp o [] (none_spares p).free s.memory.words (λ k off far. refl)
      refl refl refl refl refl)
      further (begins code (block mode (body mode AtItem)) u (gone c c.regs g next) s.memory fit opening) (
        record {
          saved = saved_again mode image (origin_of o.κ) e u o.w (beyond_registers c.regs v) refl refl refl means.code.saved;
          locals = locals_behind mode image e c s.memory at_quiet (X 0) (X 1) (X 2) g state b means.code.locals None tt;
          flags = tt;
          calls = calls_behind mode image e c s.memory at_quiet (X 0) (X 1) (X 2) g state b means.code.locals None tt s.memory.words (λ k l j lj. refl)
              means.code.calls;
        },
        refl,
      )
      (item_few mode) refl
