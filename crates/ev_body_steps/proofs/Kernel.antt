-- A step of a processor on which a body stands: an interrupt, an instruction of the kernel's code, an item, or the return.
use Rattle.std.proofs.Common.{◌≡◌, ℕ, suc, ◌+◌, ◌-◌, ◌*◌, ◌<◌, ◌≤◌, Bool, true, false, not, ◌&&◌, List, [], ◌∷◌, length, Some, refl, sym, ap, ◌∙◌, subst, arith, ◌||◌, Option, None}
use Rattle.std.specs.Prelude.{ℤ, pos, ◌==◌, if◌then◌else◌, slice_get, nat_le, is_some}
use Rattle.std.proofs.lemmas.Bool.{eqb-true, ne_eqb, leb-true, leb-false}
use Rattle.std.specs.List.{list_any}
use Rattle.ev_isa.specs.Word.{NatMap, is_canonical, displaced}
use Rattle.ev_isa.specs.Flags.{Flags, flags_of}
use Rattle.ev_isa.specs.declared.instruction.Ins.{Ins}
use Rattle.ev_isa.specs.declared.instruction.Ins.TheVariants.{Jmp}
use Rattle.ev_isa.specs.declared.mode.Mode.{Mode}
use Rattle.ev_isa.specs.declared.mode.Mode.TheVariants.{Idt, Fred}
use Rattle.ev_effect.specs.Task.{Task}
use Rattle.ev_body.specs.declared.item.Item.TheVariants.{Ret}
use Rattle.ev_body.specs.declared.body.Body.{Body}
use Rattle.ev_body.specs.declared.image.Image.{Image}
use Rattle.ev_body.specs.WellFormed.{IsImage}
use Rattle.ev_listing.specs.AddressMap.{pcpu, repeat_entry, nlast_entry, body_code}
use Rattle.ev_listing.specs.Expansion.{item_address}
use Rattle.ev_state.specs.Processor.{Processor, is_user, register, selector}
use Rattle.ev_apic.specs.declared.apic.Apic.{Apic}
use Rattle.ev_mem.specs.Memory.{Memory}
use Rattle.ev_proc.specs.ProcessorStep.{executed, ran}
use Rattle.ev_proc.specs.declared.stepped.Stepped.{Stepped}
use Rattle.ev_abstract.specs.Context.{BodyContext}
use Rattle.ev_abstract.specs.Machine.{Machine, processor, with_processor, task}
use Rattle.ev_abstract.specs.Machine as abstract
use Rattle.ev_abstract.specs.Run.{item_at}
use Rattle.ev_listing.specs.Marks.{Always}
use Rattle.ev_concrete.specs.ConcreteRun.{System, Activation, without_last, activations_by, is_return}
use Rattle.ev_concrete.specs.Depth.{bodies_on, begins_body}
use Rattle.ev_built.specs.Built.{IsBuilt}
use Rattle.ev_symbolic.specs.State.{SS, Block}
use Rattle.ev_symbolic.specs.Value.{V, FVar}
use Rattle.ev_symbolic.specs.Names.{item_tag, key, says_ring}
use Rattle.ev_symbolic.specs.Join.{env_after}
use Rattle.ev_symbolic.specs.Agrees.{Env, Cell, Code, eval, FactsHold, Open, Fits, Agrees, At}
use Rattle.ev_symbolic.specs.Machine.{Fetches}
use Rattle.ev_symbolic.proofs.Blocks.{at_end}
use Rattle.ev_blocks.specs.Shapes.{Origin, UserCode, KernelCode, ring, FredFrame, IdtFrame}
use Rattle.ev_blocks.specs.Fred.{FromUser, FromKernel, FredToKernel, FredToTask, FredToNext, fred_block, way_values, kernel_values}
use Rattle.ev_blocks.specs.Fred as fred
use Rattle.ev_blocks.specs.Idt.{Stub, Sys, Common, IdtToKernel, IdtToTask, IdtToNext, idt_block, is_page_fault, table_of, stub_values, common_values, sys_values}
use Rattle.ev_blocks.specs.Idt as idt
use Rattle.ev_blocks.specs.Items as spots
use Rattle.ev_blocks.specs.Items.{BodySpot, AtTable, AtJump, AtItem, AtNumber, AtNumbers, AtUserWord, AtPageWord, BehindSti, InCall, AtKick, BehindKick}
use Rattle.ev_blocks.specs.Blocks.{Spot, InFred, InIdt, InBody, block, edges}
use Rattle.ev_blocks.specs.Blocks as blocks
use Rattle.ev_blocks.proofs.Falls.{edges_fall}
use Rattle.ev_grounds.specs.Facts.{FactLaws}
use Rattle.ev_grounds.proofs.Facts.{facts_tell}
use Rattle.ev_paths.specs.Lines.{HasKernel, StubJump, IsAtStub}
use Rattle.ev_paths.proofs.Lines.{stubs_jump}
use Rattle.ev_paths.proofs.FredEnds.{fred_enters}
use Rattle.ev_paths.proofs.IdtEnds.{idt_enters}
use Rattle.ev_deliver.specs.GoesOn.{GoesOn, with_item, continued}
use Rattle.ev_deliver.proofs.GoesOn.{stub_rip, stubs_go_on, entries_continue}
use Rattle.ev_activation.specs.Seat.{Kind, Seat, kind_of, seat_of}
use Rattle.ev_table.specs.Table.{code_table}
use Rattle.ev_user.specs.Tasks.{RunsTask}
use Rattle.ev_paths.specs.FredEnds.{fred_end}
use Rattle.ev_paths.specs.IdtEnds.{idt_end}
use Rattle.ev_paths.specs.Ends.{Enters}
use Rattle.ev_relation.specs.Domain.{IsInDomain}
use Rattle.ev_relation.specs.Filling.{Filling, first_fill, rest_fills}
use Rattle.ev_relation.specs.Active.{fills_record, HoldsCalls, item_place, number_of, numbers_of, here, IsKernelSs, Saved, SavedBody, AtLoad, AtStart, FlagsAre, HasPlace, InSpot, Matches, OverTask, OverBody, Active}
use Rattle.ev_relation.specs.Relation.{IsContext, switches_at, body_edges, Chain, StandsOn, Stands, serves}
use Rattle.ev_relation.specs.Step.{Simulated}
use Rattle.ev_relation.proofs.Facts.{Facts}
use Rattle.ev_relation.proofs.Spots.{is_spot}
use Rattle.ev_relation.proofs.ModeFacts.{is_fred}
use Rattle.ev_body_steps.proofs.Bodies.{body, Goes, goes_by, unlike, loads, jumps, at_the_table, at_the_jump, at_the_item, table_falls, jump_falls, saved_again, load_again, means_at, rax_at}
use Rattle.ev_relation.proofs.Standing.{ran_returns}
use Rattle.ev_relation.proofs.After.{none_spares, filled_below, free_below}
use Rattle.ev_relation.proofs.CallKinds.{is_over_task, is_over_body, is_plain_kind, origin_of, cs_of, level_of, OverOf, means_as, over_as, of_task, of_body, stands_on_body, plain_level}
use Rattle.ev_body_steps.proofs.Return.{Exits, fred_mark, idt_mark, fred_exits, idt_exits, fred_exits_to_body, idt_exits_to_body}
use Rattle.ev_relation.proofs.BodyTables.{table_place, table_reads}
use Rattle.ev_relation.proofs.Depth.{body_at, ends_a_body}
use Rattle.ev_relation.proofs.Items.{which}
use Rattle.ev_body_steps.proofs.ItemWords.{word_of}
use Rattle.ev_body_steps.proofs.ItemInside.{number_steps}
use Rattle.ev_body_steps.proofs.ItemMsr.{numbers_steps}
use Rattle.ev_body_steps.proofs.ItemAddress.{address_steps}
use Rattle.ev_body_steps.proofs.ItemPage.{page_block_steps}
use Rattle.ev_body_steps.proofs.KernelStep as step
use Rattle.ev_body_steps.proofs.KernelItems as items
use Rattle.ev_body_steps.proofs.ItemInterrupts.{behind_steps}
use Rattle.ev_body_steps.proofs.ItemState.{with_registers}
use Rattle.ev_body_steps.proofs.ItemInterrupts as interrupts
use Rattle.ev_body_steps.proofs.ItemWait as wait
use Rattle.ev_body_steps.proofs.ItemKick as kick
use Rattle.ev_body_steps.proofs.KickSteps as kicks
use Rattle.ev_body_steps.proofs.BodyInterrupt as arrivals
use Rattle.ev_body_steps.proofs.SwitchStep as switching
use Rattle.ev_body_steps.proofs.CallFills as fillings
use Rattle.ev_body_steps.proofs.KernelCalls as calls

-- ---- from the entry of a vector to the code in common

-- which way that goes: by what was interrupted, and as the vector says
common_told : (o : Origin) (e : Env) (g : Flags) (has : Bool) (v : ℕ) → v < 256 → selector (e.var 18) ≡ cs_of o
    → FactsHold (env_after e (stub_values has v) g) (idt_block (Common o (v == 14))).ground.facts
unfolding eval
common_told o e g has v small cs = (by_origin o cs, (by_vector (v == 14) refl, tt))
  where
    u : Env
    u = env_after e (stub_values has v) g

    laws : FactLaws u
    laws = facts_tell u

    by_origin : (o : Origin) → selector (e.var 18) ≡ cs_of o → eval u (says_ring (ring o)).val ≡ ring o
    by_origin UserCode h = laws.user h
    by_origin KernelCode h = laws.kernel h

    by_vector : (pf : Bool) → (v == 14) ≡ pf → eval u (is_page_fault pf).val ≡ (is_page_fault pf).is
    by_vector true q = laws.same key 14 (eqb-true v 14 q)
    by_vector false q = laws.other key 14 (unlike v 14 q) (omega arith) (omega arith)

-- a jump is no return
jump_stays : (n : ℤ) → is_return (Some (Jmp n)) ≡ false
unfolding is_return
jump_stays n = refl

-- what the variables are doesn't depend on the flags in between
loads_behind : (mode : Mode) (image : Image) (o : Origin) (e : Env) (g : Flags) (θ θ' : List V) (w : Processor) (b : BodyContext)
    → AtLoad mode image o (env_after (env_after e θ e.flags) θ' e.flags) w b → AtLoad mode image o (env_after (env_after e θ g) θ' g) w b
unfolding eval
loads_behind mode image o e g θ θ' w b l = load_again mode image o (env_after (env_after e θ e.flags) θ' e.flags) g w b l

-- ---- the opening at the table, in either mode

table_flags : (mode : Mode) → (block mode (body mode AtTable)).opening.flags ≡ FVar
table_flags Fred = refl
table_flags Idt = refl

table_shared : (mode : Mode) → (block mode (body mode AtTable)).ground.shared ≡ []
table_shared Fred = refl
table_shared Idt = refl

module _ (mode : Mode) (image : Image) (built : IsBuilt image) (good : IsImage image) (facts : Facts mode image)
    (left : NatMap ℕ) (s : System) (m : Machine) (h : Stands mode image left s m) (p : ℕ) (hp : p < image.processors) where
  abbrev code : Code
  code = code_table mode image

  abbrev c : Processor
  c = s.cpus p

  abbrev x : abstract.Processor
  x = processor m p

  abbrev Result : Type 0
  Result = Simulated mode image left s m p

  abbrev on : StandsOn mode image p (left p) s x
  on = step.on mode image built good facts left s m h p hp

  abbrev domain : IsInDomain x
  domain = step.domain mode image built good facts left s m h p hp

  abbrev small : p < 32
  small = step.small mode image built good facts left s m h p hp

  abbrev fetches : Fetches code s.memory
  fetches = step.fetches mode image built good facts left s m h p hp

  -- the task that runs, and that to which the bodies return
  abbrev r : ℕ
  r = x.running

  abbrev to : ℕ
  to = on.returning

  abbrev t : Task
  t = x.tasks to

  abbrev Executes : Ins → Processor → NatMap ℕ → Type 0
  Executes i cpu words = (a : Apic) (nmi : Bool) → executed c a s.memory nmi (Some i) ≡ ran cpu a words nmi

  module _ (o : step.Top mode image built good facts left s m h p hp) where
    abbrev b : BodyContext
    b = o.b

    abbrev below : List BodyContext
    below = o.below

    abbrev κ : Kind
    κ = o.κ

    abbrev σ : Seat
    σ = o.σ

    abbrev w : Processor
    w = o.w

    abbrev ctx : IsContext mode image b
    ctx = o.ctx

    abbrev plain_kind : is_plain_kind κ ≡ true
    plain_kind = step.plain_kind mode image built good facts left s m h p hp o

    abbrev blocked : c.nmi_blocked ≡ false
    blocked = step.blocked mode image built good facts left s m h p hp

    abbrev env : ℕ → (extra v : ℕ → ℕ) → Flags → Env
    env ss extra v f = here mode p κ σ ss w extra v f

    abbrev Stood : ℕ → BodyContext → Processor → Memory → Type 0
    Stood now b' cpu mem = Active mode image p now κ σ on.frame (switches_at mode image on.switching below) (first_fill on.fills) w b' cpu mem

    abbrev Alone : Type 0
    Alone = step.Alone mode image built good facts left s m h p hp o

    alone : is_over_task κ ≡ true → Alone
    alone over = step.alone mode image built good facts left s m h p hp o over

    module _ (body' : Body) (is : slice_get image.bodies b.body ≡ Some body') where
      -- ---- at the load of the body's address

      at_table : first_fill on.fills ≡ None → (act : Stood on.own b c s.memory) (ss : ℕ) → IsKernelSs mode ss → (extra v : ℕ → ℕ) (f : Flags)
          → At code (block mode (body mode AtTable)) 0 (env ss extra v f) c s.memory → AtLoad mode image (origin_of κ) (env ss extra v f) w b
          → extra 20 ≡ item_place mode image b.body b.place → length c.regs ≡ 16 → edges mode (body mode AtTable) 0 ≤ on.own → Result
      at_table unfilled act ss ss_is extra v f at l place long enough =
          let e : Env = env ss extra v f in
          let B : Block = block mode (body mode AtTable) in
          let a : ℕ = table_of (origin_of κ) + 8 * l.key in
          let g : Agrees e B.ground B.opening c s.memory = at_end code B 0 B.opening refl e c s.memory at in
          let small_key = l.small in
          let at_a : displaced (register c 0) (pos 0) ≡ a = ap (λ n. displaced n (pos 0)) (rax_at mode e c s.memory g ∙ l.place)
          ∙ table_place (origin_of κ) l.key l.small in
          let u : ℕ → ℕ = λ i. if i == 0 then body_code b.body else v i in
          let found = table_reads mode image good (origin_of κ) l.key l.small b.body l.found s.memory h.regions_are h.fixed in
          let way = at_the_jump mode in
          let falls = table_falls mode in
          step.goes mode image built good facts left s m h p hp o body' is unfilled act (body mode AtJump) ss ss_is extra u f
          (step.masks mode image built good facts left s m h p hp o B 0 e at) (ap is_user g.rest)
          (loads mode code e c s.memory a (body_code b.body) facts.kernel at at_a found.0 found.1
          (step.fits mode image built good facts left s m h p hp o body' is (body mode AtJump) way.over ss extra u f place tt (way.told (env ss extra u f)))
          (step.windows mode image built good facts left s m h p hp o body' is (body mode AtJump) way.over ss extra u f))
          (omega arith) long way.off refl
          (means_at mode image κ plain_kind AtJump (env ss extra u f) w b (first_fill on.fills) s.memory.words (
            record {
              code = refl;
              begins = l.begins;
              unknown = l.unknown;
              off = l.off;
              quiet = l.quiet;
              saved = saved_again mode image (origin_of κ) e (env ss extra u f) w (λ i low. beside_rax i low) refl refl refl l.saved;
              locals = l.locals;
            },
            place,
          ))
        where
          beside_rax : (i : ℕ) → 16 ≤ i → (if i == 0 then body_code b.body else v i) ≡ v i
          beside_rax i low = ap (λ t. if t then body_code b.body else v i) (ne_eqb i 0 (λ e. let z : ⊥ = omega arith in z))

      -- ---- at the jump to the body

      -- the item's base is its address already
      same_base : (e : Env) (a : ℕ) → e.base 20 ≡ a → with_item e a ≡ e
      same_base e a h = λ i. record e { base = λ t. at t i }
        where
          at : (t : ℕ) → (if t == item_tag then a else e.base t) ≡ e.base t
          at t = pick (t == item_tag) refl
            where
              pick : (q : Bool) → (t == item_tag) ≡ q → (if q then a else e.base t) ≡ e.base t
              pick true q = sym h ∙ ap e.base (sym (eqb-true t item_tag q))
              pick false q = refl

      at_jump : first_fill on.fills ≡ None → (act : Stood on.own b c s.memory) (ss : ℕ) → IsKernelSs mode ss → (extra v : ℕ → ℕ) (f : Flags)
          → At code (block mode (body mode AtJump)) 0 (env ss extra v f) c s.memory → AtStart mode image (origin_of κ) (env ss extra v f) w b
          → extra 20 ≡ item_place mode image b.body b.place → length c.regs ≡ 16 → edges mode (body mode AtJump) 0 ≤ on.own → Result
      at_jump unfilled act ss ss_is extra v f at l place long enough =
          let e : Env = env ss extra v f in
          let B : Block = block mode (body mode AtJump) in
          let g : Agrees e B.ground B.opening c s.memory = at_end code B 0 B.opening refl e c s.memory at in
          let first_is : item_address mode b.body body' b.place ≡ body_code b.body = ap (item_address mode b.body body') l.begins
          ∙ facts.first_item b.body body' in
          let target : v 0 ≡ item_address mode b.body body' b.place = l.code ∙ sym first_is in
          let fine = facts.item_small b.body b.place body' is in
          let item : with_item e (v 0) ≡ e = same_base e (v 0) (place ∙ step.place_is mode image built good facts left s m h p hp o body' is ∙ sym target) in
          let way = at_the_item mode in
          let falls = jump_falls mode in
          step.goes mode image built good facts left s m h p hp o body' is unfilled act (body mode AtItem) ss ss_is extra v f
          (step.masks mode image built good facts left s m h p hp o B 0 e at) (ap is_user g.rest)
          (subst (Goes code c s.memory (block mode (body mode AtItem))) item
          (jumps mode code e c s.memory facts.kernel at (ap is_canonical target ∙ fine.0) (let upper = fine.1 in omega arith)
          (subst (λ y. Fits code y (block mode (body mode AtItem))) (sym item)
          (step.fits mode image built good facts left s m h p hp o body' is (body mode AtItem) way.over ss extra v f place tt (way.told e)))
          (subst (λ y. Open y (block mode (body mode AtItem)).ground.known s.memory.regions) (sym item)
          (step.windows mode image built good facts left s m h p hp o body' is (body mode AtItem) way.over ss extra v f))))
          (omega arith) long way.off refl
          (means_at mode image κ plain_kind AtItem e w b (first_fill on.fills) s.memory.words (
            record {
              saved = l.saved;
              locals = l.locals;
              flags = subst (λ q. FlagsAre mode image q f) (sym l.unknown) tt;
              calls = subst (HoldsCalls mode image s.memory.words (v 14)) (sym l.quiet) tt;
            },
            place,
          ))

      -- ---- the exit's end: the return

      at_exit : first_fill on.fills ≡ None → Exits code c s.memory w → is_user c ≡ false → b.interrupts ≡ false → (below ≡ [] → x.resched ≡ false)
          → item_at (slice_get image.bodies b.body) b.place ≡ Some Ret → Result
      at_exit unfilled x hu off calm ret =
          let cell : Cell = record { ins = x.ins; next = x.next; mark = Always } in
          let hc : code c.rip ≡ Some cell = ap code x.rip ∙ x.cell in
          let back : Processor = record w { cr2 = c.cr2; nmi_blocked = false } in
          let gone : activations_by s p (s.activations p) back Stepped.Ran ≡ o.others
          = ran_returns s p back x.ins (fetches c.rip cell hc).1 x.is hu
          (ap (λ y. (y == nlast_entry + 12) && (back.rip == repeat_entry) && not (is_user back)) x.rip
          ∙ ap (λ q. q && (back.rip == repeat_entry) && not (is_user back)) x.unlike) ∙ ap without_last o.acts in
          let unblocked : step.Unblocked mode image built good facts left s m h p hp b
          = (λ on. let clash : true ≡ false = sym on ∙ off in absurd (cc)) in
          step.visible mode image built good facts left s m h p hp o unblocked cell hc refl hu back s.memory.words x.back refl [] (none_spares p).free
          (λ y far far'. refl) (with_processor m p (record (processor m p) { bodies = below })) []
          (step.ret_turn mode image built good facts left s m h p hp o unblocked calm ret) (processor m p).tasks (processor m p).slots
          (rest_fills on.fills) (free_below (processor m p).records on.fills on.free) (λ k. filled_below k on.fills unfilled) below
          (step.bodies_alone mode image built good facts left s m h p hp o [] (none_spares p).free s.memory.words (λ y far far'. refl) (none_spares p) refl
          below)
          (λ class. sym (ap (list_any (λ (a : BodyContext). serves mode image class a.service)) o.bodies
          ∙ ap (λ q. serves mode image class q || list_any (λ (a : BodyContext). serves mode image class a.service) below)
          (step.ret_serves mode image built good facts left s m h p hp o ret)))
          (ap (λ e. if e then length (processor m p).bodies - 1 else
          (if begins_body c (Some cell.ins) then suc (length (processor m p).bodies) else length (processor m p).bodies))
          (ends_a_body (Some cell.ins) c x.place x.rip x.outside hu x.is) ∙ ap (λ (bs : List BodyContext). length bs - 1) o.bodies
          ∙ one_less (length below)) (body_edges mode image) (omega arith)
          (subst (λ as'. Chain mode image p (body_edges mode image) r to t on.frame on.switching (rest_fills on.fills) below as' back s.memory) (sym gone)
          (step.returns_to_below mode image built good facts left s m h p hp o c.cr2)) (λ counted. x.silent p (bodies_on s p) c s.memory.words)
        where
          one_less : (n : ℕ) → suc n - 1 ≡ n
          one_less n = omega arith

      -- ---- every spot

      -- at the end of an entry, which comes to the load of the body's address
      at_entry : first_fill on.fills ≡ None → (act : Stood on.own b c s.memory) (B : Block) (z : SS) (θ : List V)
          → Enters B z θ (block mode (body mode AtTable)) → (ss : ℕ)
          → IsKernelSs mode ss → (extra v : ℕ → ℕ) (f : Flags) → At code B B.steps (env ss extra v f) c s.memory
          → AtLoad mode image (origin_of κ) (env_after (env ss extra v f) θ f) w b → extra 20 ≡ item_place mode image b.body b.place → length c.regs ≡ 16
          → edges mode (body mode AtTable) 0 ≤ on.own → Result
      at_entry unfilled act B z θ enters ss ss_is extra v f at l place long enough =
          let e : Env = env ss extra v f in
          let g : Flags = flags_of c.flags in
          let u : ℕ → ℕ = (continued e θ c).var in
          let fine = (at_the_table mode).over in
          at_table unfilled act ss ss_is extra u g
          (entries_continue code B (block mode (body mode AtTable)) z θ e c s.memory enters at (table_flags mode) (table_shared mode)
          (step.fits mode image built good facts left s m h p hp o body' is (body mode AtTable) fine ss extra u g place tt
          ((at_the_table mode).told (env ss extra u g)))
          (step.windows mode image built good facts left s m h p hp o body' is (body mode AtTable) fine ss extra u g))
          (load_again mode image (origin_of κ) (env_after e θ f) g w b l) place long enough

      -- at the end of a vector's entry, which jumps to the code in common
      at_stub : first_fill on.fills ≡ None → (act : Stood on.own b c s.memory) → Idt ≡ mode → (og : Origin) → origin_of κ ≡ og
          → (has : Bool) (v : ℕ) (ss : ℕ) → IsKernelSs mode ss
          → (extra u : ℕ → ℕ) (f : Flags)
          → At code (idt_block (Stub og has v)) (idt_block (Stub og has v)).steps (env ss extra u f) c s.memory
          → IsAtStub (env ss extra u f) (Stub og has v)
          → AtLoad mode image og (env_after (env_after (env ss extra u f) (stub_values has v) f) (common_values og (v == 14)) f) w b
          → selector (u 18) ≡ cs_of og → extra 20 ≡ item_place mode image b.body b.place → length c.regs ≡ 16
          → edges mode (InIdt (Common og (v == 14))) 0 < on.own → Result
      at_stub unfilled act q og oq has v ss ss_is extra u f there stub_at l ring place long enough =
          let e : Env = env ss extra u f in
          let pf : Bool = v == 14 in
          let spot : Spot = InIdt (Common og pf) in
          let g : Flags = flags_of c.flags in
          let u' : ℕ → ℕ = (continued e (stub_values has v) c).var in
          let small_vector : v < 256 = stub_at.0 in
          let j : StubJump code v has = subst (StubJump code v) stub_at.1
          (stubs_jump code (subst (λ m. HasKernel m code) (sym q) facts.kernel) v small_vector) in
          let fine : is_spot mode spot ≡ true = subst (λ m. is_spot m spot ≡ true) q (common_is og pf) in
          let told : FactsHold (env ss extra u' g) (idt_block (Common og pf)).ground.facts = common_told og e g has v small_vector ring in
          let on_way : GoesOn code c s.memory (idt_block (Common og pf)) (env ss extra u' g)
          = stubs_go_on code og has v pf e c s.memory small_vector refl stub_at.2 j there
          (subst (λ m. Fits code (env ss extra u' g) (block m spot)) (sym q)
          (step.fits mode image built good facts left s m h p hp o body' is spot fine ss extra u' g place tt
          (subst (λ m. FactsHold (env ss extra u' g) (block m spot).ground.facts) q told)))
          (subst (λ m. Open (env ss extra u' g) (block m spot).ground.known s.memory.regions) (sym q)
          (step.windows mode image built good facts left s m h p hp o body' is spot fine ss extra u' g)) in
          step.goes mode image built good facts left s m h p hp o body' is unfilled act spot ss ss_is extra u' g
          (step.masked mode image built good facts left s m h p hp o) (ap is_user there.agrees.rest)
          (subst (λ m. Goes code c s.memory (block m spot) (env ss extra u' g)) q
          (goes_by code c s.memory _ _ (Jmp j.distance) _ _ on_way
          (stub_rip code og has v e c s.memory small_vector stub_at.2 there) j.is (jump_stays j.distance)))
          enough long refl refl
          (means_as mode image κ plain_kind spot (env ss extra u' g) w b (first_fill on.fills) s.memory.words
          (subst (λ y. OverOf mode image y mode spot (env ss extra u' g) w b (first_fill on.fills) s.memory.words) (sym oq)
          (over_common og (env ss extra u' g) (loads_behind mode image og (env ss extra u f) g (stub_values has v) (common_values og pf) w b l) place)))
        where
          common_is : (og : Origin) (pf : Bool) → is_spot Idt (InIdt (Common og pf)) ≡ true
          common_is UserCode pf = refl
          common_is KernelCode pf = refl

          over_common : (og : Origin) (e : Env) → AtLoad mode image og (env_after e (common_values og (v == 14)) e.flags) w b → HasPlace mode image e b
              → OverOf mode image og mode (InIdt (Common og (v == 14))) e w b (first_fill on.fills) s.memory.words
          over_common UserCode e k a =
              subst (λ y. OverTask mode image y (InIdt (Common UserCode (v == 14))) e w b (first_fill on.fills) s.memory.words) q (k, a)
          over_common KernelCode e k a =
              subst (λ y. OverBody mode image y (InIdt (Common KernelCode (v == 14))) e w b (first_fill on.fills) s.memory.words) q (k, a)

      at_body : (act : Stood on.own b c s.memory) (spot : BodySpot) (unfilled : spots.fills spot ≡ false → first_fill on.fills ≡ None) (k ss : ℕ)
          → IsKernelSs mode ss → (extra v : ℕ → ℕ) (f : Flags)
          → k ≡ (block mode (body mode spot)).steps → At code (block mode (body mode spot)) k (env ss extra v f) c s.memory
          → InSpot mode image (origin_of κ) spot (env ss extra v f) w b (first_fill on.fills) s.memory.words → length c.regs ≡ 16 → edges mode
          (body mode spot) k ≤ on.own
          → item_at (Some body') b.place ≡ Some ctx.item → Result
      at_body act AtTable unfilled k ss ss_is extra v f n at means long enough hi =
          at_table (unfilled refl) act ss ss_is extra v f (subst (λ j. At code (block mode (body mode AtTable)) j (env ss extra v f) c s.memory)
          (n ∙ (at_the_table mode).steps) at)
          means.0 means.1 long (subst (λ j. edges mode (body mode AtTable) j ≤ on.own) (n ∙ (at_the_table mode).steps) enough)
      at_body act AtJump unfilled k ss ss_is extra v f n at means long enough hi =
          at_jump (unfilled refl) act ss ss_is extra v f (subst (λ j. At code (block mode (body mode AtJump)) j (env ss extra v f) c s.memory)
          (n ∙ (at_the_jump mode).steps) at)
          means.0 means.1 long (subst (λ j. edges mode (body mode AtJump) j ≤ on.own) (n ∙ (at_the_jump mode).steps) enough)
      at_body act AtItem unfilled k ss ss_is extra v f n at means long enough hi =
          items.by_item mode image built good facts left s m h p hp o body' is (unfilled refl) act ss ss_is extra v f
          (subst (λ j. At code (block mode (body mode AtItem)) j (env ss extra v f) c s.memory) (n ∙ (at_the_item mode).steps) at) means.0 means.1 long
          (subst (λ j. edges mode (body mode AtItem) j ≤ on.own) (n ∙ (at_the_item mode).steps) enough)
          ctx.item (which image built good b.body body' is b.place ctx.item hi) hi
      at_body act (AtNumber j) unfilled k ss ss_is extra v f n at means long enough hi =
          items.by_number mode image built good facts left s m h p hp o body' is (unfilled refl) act ss ss_is extra v f j
          (subst (λ i. At code (block mode (body mode (AtNumber j))) i (env ss extra v f) c s.memory) (n ∙ number_steps mode j) at) means.0 means.1 long
          ctx.item (ap number_of (sym hi) ∙ ap (λ o. number_of (item_at o b.place)) (sym is) ∙ means.2) hi
      at_body act (AtNumbers rcx rax rdx) unfilled k ss ss_is extra v f n at means long enough hi =
          items.by_numbers mode image built good facts left s m h p hp o body' is (unfilled refl) act ss ss_is extra v f rcx rax rdx
          (subst (λ i. At code (block mode (body mode (AtNumbers rcx rax rdx))) i (env ss extra v f) c s.memory) (n ∙ numbers_steps mode rcx rax rdx) at)
          means.0 means.1 long ctx.item (which image built good b.body body' is b.place ctx.item hi)
          (ap numbers_of (sym hi) ∙ ap (λ o. numbers_of (item_at o b.place)) (sym is) ∙ means.2) hi
      at_body act AtUserWord unfilled k ss ss_is extra v f n at means long enough hi =
          items.by_address mode image built good facts left s m h p hp o body' is (unfilled refl) ss ss_is extra v f
          (subst (λ i. At code (block mode (body mode AtUserWord)) i (env ss extra v f) c s.memory) (n ∙ address_steps mode) at) means.0 means.1 means.2 long
          (subst (λ i. edges mode (body mode AtUserWord) i ≤ on.own) (n ∙ address_steps mode) enough)
          ctx.item hi
      at_body act (AtPageWord is_page) unfilled k ss ss_is extra v f n at means long enough hi =
          items.by_page mode image built good facts left s m h p hp o body' is (unfilled refl) act ss ss_is extra v f is_page
          (subst (λ i. At code (block mode (body mode (AtPageWord is_page))) i (env ss extra v f) c s.memory) (n ∙ page_block_steps mode is_page) at)
          means.0 means.1 means.2 long ctx.item hi
      at_body act BehindSti unfilled k ss ss_is extra v f n at means long enough hi =
          let last : k ≡ 1 = n ∙ behind_steps mode in
          let z : interrupts.NextItem mode image built good facts left s m h p hp o body' is ss v f
          = interrupts.to_item mode image built good facts left s m h p hp o body' is (unfilled refl) ss ss_is extra v f
          (subst (λ j. At code (block mode (body mode BehindSti)) j (env ss extra v f) c s.memory) last at) means.0 means.1 long
          (subst (λ j. edges mode (body mode BehindSti) j ≤ on.own) last enough) in
          items.by_item mode image built good facts left s m h p hp o body' is (unfilled refl) z.act ss ss_is z.extra v f z.at z.means z.place long z.enough
          ctx.item (which image built good b.body body' is b.place ctx.item hi) hi
      at_body act (InCall spot) unfilled k ss ss_is extra v f n at means long enough hi =
          calls.by_call_spot mode image built good facts left s m h p hp o body' is act ss ss_is extra v f long hi spot unfilled
          (subst (λ j. At code (block mode (body mode (InCall spot))) j (env ss extra v f) c s.memory) n at) means
          (subst (λ j. edges mode (body mode (InCall spot)) j ≤ on.own) n enough)
      at_body act (AtKick target) unfilled k ss ss_is extra v f n at means long enough hi =
          kicks.at_kick_sends mode image built good facts left s m h p hp o body' is (unfilled refl) act k ss ss_is extra v f target n at means
      at_body act BehindKick unfilled k ss ss_is extra v f n at means long enough hi =
          let last : k ≡ 1 = n ∙ kick.jump_steps mode in
          let z : wait.Opens mode image built good facts left s m h p hp o body' is ss v
          = kick.behind_kick_opens mode image built good facts left s m h p hp o body' is (unfilled refl) ss ss_is extra v f
          (subst (λ j. At code (block mode (body mode BehindKick)) j (env ss extra v f) c s.memory) last at) means long
          (subst (λ j. edges mode (body mode BehindKick) j ≤ on.own) last enough) in
          items.by_item mode image built good facts left s m h p hp o body' is (unfilled refl) z.next.act ss ss_is z.next.extra (with_registers c.regs v)
          z.flags z.next.at z.next.means z.next.place long z.next.enough ctx.item (which image built good b.body body' is b.place ctx.item hi) hi

      -- where the exit to the task found the mark off, nothing asks for another one
      calm : Alone → s.memory.words (pcpu p + 0x20) ≡ 0 → x.resched ≡ false
      calm one off = by x.resched (sym (on.mark one.still) ∙ off)
        where
          by : (r : Bool) → word_of r ≡ 0 → r ≡ false
          by true z = absurd (cc)
          by false z = refl

      -- what returns to a body stands on one
      on_another : origin_of κ ≡ KernelCode → below ≡ [] → x.resched ≡ false
      on_another oq e = absurd (stands_on_body image b (ap is_over_body (ap (kind_of image b) (sym e) ∙ o.kind) ∙ of_body κ plain_kind oq))

      -- which of them, by what was interrupted and the mode
      at_the_end : (act : Stood on.own b c s.memory) (og : Origin) → origin_of κ ≡ og → (m : Mode) → m ≡ mode → (spot : Spot)
          → (fills_record spot ≡ false → first_fill on.fills ≡ None) → (k ss : ℕ) → IsKernelSs mode ss
          → (extra v : ℕ → ℕ) (f : Flags) → k ≡ (block m spot).steps → At code (block m spot) k (env ss extra v f) c s.memory
          → OverOf mode image og m spot (env ss extra v f) w b (first_fill on.fills) s.memory.words → length c.regs ≡ 16 → edges m spot k ≤ on.own
          → blocks.switches spot ≡ false → item_at (Some body') b.place ≡ Some ctx.item
          → Result
      unfolding eval
      at_the_end act UserCode oq Fred q (InFred (FromUser way)) unfilled k ss ss_is extra v f n at means long enough off hi =
          let falls = (edges_fall Fred).from_user way in
          at_entry (unfilled refl) act (fred_block (FromUser way)) _ (way_values way)
          (subst (λ y. Enters (fred_block (FromUser way)) (fred_end (FromUser way)) (way_values way) (block y (body y AtTable))) q (fred_enters.0 way))
          ss ss_is extra v f (subst (λ j. At code (fred_block (FromUser way)) j (env ss extra v f) c s.memory) n at)
          (subst (λ y. AtLoad mode image y (env_after (env ss extra v f) (way_values way) f) w b) (sym oq) means.0) means.1 long
          (subst (λ m. edges m (body m AtTable) 0 ≤ on.own) q (omega arith))
      at_the_end act UserCode oq Fred q (InFred (fred.Leaves FredToTask)) unfilled k ss ss_is extra v f n at means long enough off hi =
          let over = of_task κ plain_kind oq in
          let one : Alone = alone over in
          at_exit (unfilled refl) (fred_exits image p small κ σ to t w ss extra v f code c s.memory blocked (subst (λ m. HasKernel m code) (sym q) facts.kernel)
          (subst (λ m. RunsTask m image p to t w) (sym q) one.task) (level_of Fred κ w over) (subst (λ m. Saved m image v w) (sym q) means.saved)
          (subst (λ m. At code (fred_block (fred.Leaves FredToTask)) (fred_block (fred.Leaves FredToTask)).steps (here m p κ σ ss w extra v f) c s.memory)
          (sym q) (subst (λ j. At code (fred_block (fred.Leaves FredToTask)) j (env ss extra v f) c s.memory) n at)))
          (ap is_user at.agrees.rest) means.off (λ e. calm one (fred_mark mode p small κ σ w ss extra v f code c s.memory
          (subst (λ j. At code (fred_block (fred.Leaves FredToTask)) j (env ss extra v f) c s.memory) n at))) means.ret
      at_the_end act KernelCode oq Fred q (InFred FromKernel) unfilled k ss ss_is extra v f n at means long enough off hi =
          let falls = (edges_fall Fred).from_kernel in
          at_entry (unfilled refl) act (fred_block FromKernel) _ kernel_values
          (subst (λ y. Enters (fred_block FromKernel) (fred_end FromKernel) kernel_values (block y (body y AtTable))) q fred_enters.1)
          ss ss_is extra v f (subst (λ j. At code (fred_block FromKernel) j (env ss extra v f) c s.memory) n at)
          (subst (λ y. AtLoad mode image y (env_after (env ss extra v f) kernel_values f) w b) (sym oq) means.0) means.1 long
          (subst (λ m. edges m (body m AtTable) 0 ≤ on.own) q (omega arith))
      at_the_end act KernelCode oq Fred q (InFred (fred.Leaves FredToKernel)) unfilled k ss ss_is extra v f n at means long enough off hi =
          at_exit (unfilled refl) (fred_exits_to_body p small κ σ w ss extra v f code c s.memory blocked image
          (subst (λ m. HasKernel m code) (sym q) facts.kernel)
          (step.fred_is mode image built good facts left s m h p hp o ∙ ap is_fred (sym q)) (plain_level Fred κ w plain_kind)
          (subst (λ m. SavedBody m image (here m p κ σ ss w extra v f) w) (sym q) means.saved)
          (subst (λ m. At code (fred_block (fred.Leaves FredToKernel)) (fred_block (fred.Leaves FredToKernel)).steps (here m p κ σ ss w extra v f) c s.memory)
          (sym q) (subst (λ j. At code (fred_block (fred.Leaves FredToKernel)) j (env ss extra v f) c s.memory) n at)))
          (ap is_user at.agrees.rest) means.off (on_another oq) means.ret
      at_the_end act UserCode oq Fred q (InBody FredFrame spot) unfilled k ss ss_is extra v f n at means long enough off hi =
          at_body act spot unfilled k ss ss_is extra v f (n ∙ ap (λ m. (block m (body m spot)).steps) q)
          (subst (λ m. At code (block m (body m spot)) k (env ss extra v f) c s.memory) q at)
          (subst (λ y. InSpot mode image y spot (env ss extra v f) w b (first_fill on.fills) s.memory.words) (sym oq) means) long
          (subst (λ m. edges m (body m spot) k ≤ on.own) q enough) hi
      at_the_end act KernelCode oq Fred q (InBody FredFrame spot) unfilled k ss ss_is extra v f n at means long enough off hi =
          at_body act spot unfilled k ss ss_is extra v f (n ∙ ap (λ m. (block m (body m spot)).steps) q)
          (subst (λ m. At code (block m (body m spot)) k (env ss extra v f) c s.memory) q at)
          (subst (λ y. InSpot mode image y spot (env ss extra v f) w b (first_fill on.fills) s.memory.words) (sym oq) means) long
          (subst (λ m. edges m (body m spot) k ≤ on.own) q enough) hi
      at_the_end act UserCode oq Idt q (InIdt Sys) unfilled k ss ss_is extra v f n at means long enough off hi =
          let falls = (edges_fall Idt).call in
          at_entry (unfilled refl) act (idt_block Sys) _ sys_values
          (subst (λ y. Enters (idt_block Sys) (idt_end Sys) sys_values (block y (body y AtTable))) q idt_enters.call)
          ss ss_is extra v f (subst (λ j. At code (idt_block Sys) j (env ss extra v f) c s.memory) n at)
          (subst (λ y. AtLoad mode image y (env_after (env ss extra v f) sys_values f) w b) (sym oq) means.0) means.1 long
          (subst (λ m. edges m (body m AtTable) 0 ≤ on.own) q (omega arith))
      at_the_end act UserCode oq Idt q (InIdt (Stub UserCode has v)) unfilled k ss ss_is extra u f n at means long enough off hi =
          let falls = (edges_fall Idt).stub UserCode has v (v == 14) in
          let one : Alone = alone (of_task κ plain_kind oq) in
          at_stub (unfilled refl) act q UserCode oq has v ss ss_is extra u f
          (subst (λ i. At code (idt_block (Stub UserCode has v)) i (env ss extra u f) c s.memory) n at) means.0
          means.1 (means.1.saved.cs ∙ ap (λ (y : Processor). y.cs) one.task.is) means.2 long
          (subst (λ m. edges m (InIdt (Common UserCode (v == 14))) 0 < on.own) q (omega arith))
      at_the_end act KernelCode oq Idt q (InIdt (Stub KernelCode has v)) unfilled k ss ss_is extra u f n at means long enough off hi =
          let falls = (edges_fall Idt).stub KernelCode has v (v == 14) in
          at_stub (unfilled refl) act q KernelCode oq has v ss ss_is extra u f
          (subst (λ i. At code (idt_block (Stub KernelCode has v)) i (env ss extra u f) c s.memory) n at) means.0
          means.1 means.1.saved.cs means.2 long (subst (λ m. edges m (InIdt (Common KernelCode (v == 14))) 0 < on.own) q (omega arith))
      at_the_end act UserCode oq Idt q (InIdt (Common UserCode pf)) unfilled k ss ss_is extra v f n at means long enough off hi =
          let falls = (edges_fall Idt).common UserCode pf in
          at_entry (unfilled refl) act (idt_block (Common UserCode pf)) _ (common_values UserCode pf)
          (subst (λ y. Enters (idt_block (Common UserCode pf)) (idt_end (Common UserCode pf)) (common_values UserCode pf) (block y (body y AtTable))) q
          (idt_enters.common UserCode pf))
          ss ss_is extra v f (subst (λ j. At code (idt_block (Common UserCode pf)) j (env ss extra v f) c s.memory) n at)
          (subst (λ y. AtLoad mode image y (env_after (env ss extra v f) (common_values UserCode pf) f) w b) (sym oq) means.0) means.1 long
          (subst (λ m. edges m (body m AtTable) 0 ≤ on.own) q (omega arith))
      at_the_end act KernelCode oq Idt q (InIdt (Common KernelCode pf)) unfilled k ss ss_is extra v f n at means long enough off hi =
          let falls = (edges_fall Idt).common KernelCode pf in
          at_entry (unfilled refl) act (idt_block (Common KernelCode pf)) _ (common_values KernelCode pf)
          (subst (λ y. Enters (idt_block (Common KernelCode pf)) (idt_end (Common KernelCode pf)) (common_values KernelCode pf) (block y (body y AtTable))) q
          (idt_enters.common KernelCode pf))
          ss ss_is extra v f (subst (λ j. At code (idt_block (Common KernelCode pf)) j (env ss extra v f) c s.memory) n at)
          (subst (λ y. AtLoad mode image y (env_after (env ss extra v f) (common_values KernelCode pf) f) w b) (sym oq) means.0) means.1 long
          (subst (λ m. edges m (body m AtTable) 0 ≤ on.own) q (omega arith))
      at_the_end act UserCode oq Idt q (InIdt (idt.Leaves (IdtToTask by))) unfilled k ss ss_is extra v f n at means long enough off hi =
          let over = of_task κ plain_kind oq in
          let one : Alone = alone over in
          at_exit (unfilled refl) (idt_exits image p small κ σ to t w ss extra v f code c s.memory blocked by
          (subst (λ m. HasKernel m code) (sym q) facts.kernel)
          (subst (λ m. RunsTask m image p to t w) (sym q) one.task) (level_of Idt κ w over) (subst (λ m. Saved m image v w) (sym q) means.0.saved)
          (subst (λ m. Matches m image by (v 31) (v 17) (v 41) (v 19)) (sym q) means.1)
          (subst (λ m. At code (idt_block (idt.Leaves (IdtToTask by))) (idt_block (idt.Leaves (IdtToTask by))).steps (here m p κ σ ss w extra v f) c
          s.memory)
          (sym q) (subst (λ j. At code (idt_block (idt.Leaves (IdtToTask by))) j (env ss extra v f) c s.memory) n at)))
          (ap is_user at.agrees.rest) means.0.off (λ e. calm one (idt_mark mode p small κ σ w ss extra v f code c s.memory by
          (subst (λ j. At code (idt_block (idt.Leaves (IdtToTask by))) j (env ss extra v f) c s.memory) n at))) means.0.ret
      at_the_end act KernelCode oq Idt q (InIdt (idt.Leaves IdtToKernel)) unfilled k ss ss_is extra v f n at means long enough off hi =
          at_exit (unfilled refl) (idt_exits_to_body p small κ σ w ss extra v f code c s.memory blocked image
          (subst (λ m. HasKernel m code) (sym q) facts.kernel)
          (subst (IsKernelSs Idt) means.saved.same_ss (subst (λ m. IsKernelSs m ss) (sym q) ss_is)) (plain_level Idt κ w plain_kind)
          (subst (λ m. SavedBody m image (here m p κ σ ss w extra v f) w) (sym q) means.saved)
          (subst (λ m. At code (idt_block (idt.Leaves IdtToKernel)) (idt_block (idt.Leaves IdtToKernel)).steps (here m p κ σ ss w extra v f) c s.memory)
          (sym q) (subst (λ j. At code (idt_block (idt.Leaves IdtToKernel)) j (env ss extra v f) c s.memory) n at)))
          (ap is_user at.agrees.rest) means.off (on_another oq) means.ret
      at_the_end act UserCode oq Idt q (InBody IdtFrame spot) unfilled k ss ss_is extra v f n at means long enough off hi =
          at_body act spot unfilled k ss ss_is extra v f (n ∙ ap (λ m. (block m (body m spot)).steps) q)
          (subst (λ m. At code (block m (body m spot)) k (env ss extra v f) c s.memory) q at)
          (subst (λ y. InSpot mode image y spot (env ss extra v f) w b (first_fill on.fills) s.memory.words) (sym oq) means) long
          (subst (λ m. edges m (body m spot) k ≤ on.own) q enough) hi
      at_the_end act KernelCode oq Idt q (InBody IdtFrame spot) unfilled k ss ss_is extra v f n at means long enough off hi =
          at_body act spot unfilled k ss ss_is extra v f (n ∙ ap (λ m. (block m (body m spot)).steps) q)
          (subst (λ m. At code (block m (body m spot)) k (env ss extra v f) c s.memory) q at)
          (subst (λ y. InSpot mode image y spot (env ss extra v f) w b (first_fill on.fills) s.memory.words) (sym oq) means) long
          (subst (λ m. edges m (body m spot) k ≤ on.own) q enough) hi
      at_the_end act UserCode oq Fred q (InFred (fred.Leaves FredToNext)) unfilled k ss ss_is extra v f n at means long enough off hi = absurd (cc)
      at_the_end act UserCode oq Idt q (InIdt (idt.Leaves (IdtToNext by))) unfilled k ss ss_is extra v f n at means long enough off hi = absurd (cc)
      at_the_end act UserCode oq m q _ unfilled k ss ss_is extra v f n at means long enough off hi = absurd means
      at_the_end act KernelCode oq m q _ unfilled k ss ss_is extra v f n at means long enough off hi = absurd means

    act_step : Stood on.own b c s.memory → Result
    act_step act =
        let found = body_at (slice_get image.bodies b.body) b.place ctx.item ctx.is in
        pick (nat_le (suc act.stands.k) (block mode act.stands.spot).steps) refl found.0 found.1 found.2
      where
        unfilled : fills_record act.stands.spot ≡ false → first_fill on.fills ≡ None
        unfilled q = none_of (first_fill on.fills) (sym act.fills ∙ q)
          where
            none_of : (g : Option Filling) → is_some g ≡ false → g ≡ None
            none_of None q = refl
            none_of (Some f) q = let clash : true ≡ false = q in absurd (cc)

        pick : (t : Bool) → nat_le (suc act.stands.k) (block mode act.stands.spot).steps ≡ t → (body : Body) → slice_get image.bodies b.body ≡ Some body
            → item_at (Some body) b.place ≡ Some ctx.item → Result
        pick true q body is hi = within (fills_record act.stands.spot) refl
          where
            within : (t : Bool) → fills_record act.stands.spot ≡ t → Result
            within true e = fillings.inside mode image built good facts left s m h p hp o act e (leb-true _ _ q)
            within false e = step.inside mode image built good facts left s m h p hp o act e (leb-true _ _ q)
        pick false q body is hi =
            at_the_end body is act (origin_of κ) refl mode refl act.stands.spot unfilled act.stands.k act.stands.ss act.stands.ss_is act.stands.extra
            act.stands.var act.stands.flags (let up = leb-false _ _ q in let down = act.stands.within in omega arith) act.stands.at
            (over_as mode image κ act.stands.spot _ w b (first_fill on.fills) s.memory.words act.means) act.stands.long act.stands.enough
            (act.switches ∙ o.off) hi

  -- a step of a processor on which a body stands: an edge or a turn, and it writes no frame
  pub kernel_step : (b : BodyContext) (below : List BodyContext) → x.bodies ≡ b ∷ below → Result
  kernel_step b below hb = by_acts (s.activations p) refl
      (subst (λ bs. Chain mode image p on.own r to t on.frame on.switching on.fills bs (s.activations p) c s.memory) hb
      (step.chain mode image built good facts left s m h p hp))
    where
      by_acts : (as' : List Activation) → s.activations p ≡ as' → Chain mode image p on.own r to t on.frame on.switching on.fills
          (b ∷ below) as' c s.memory → Result
      by_acts [] e k = absurd k
      by_acts (a ∷ as') e k = by_switch (blocks.switches k.6.stands.spot) refl
        where
          at_boundary : blocks.switches k.6.stands.spot ≡ false → arrivals.Boundary mode image built good facts left s m h p hp b below hb a as' e k → Result
          at_boundary off (arrivals.Delivers z) = z
          at_boundary off (arrivals.Executes first chosen) = act_step (record {
            b = b;
            below = below;
            bodies = hb;
            κ = kind_of image b below;
            kind = refl;
            σ = seat_of mode image r (b ∷ below);
            seat = refl;
            ctx = k.1;
            last = a;
            others = as';
            acts = e;
            outer = k.2;
            w = k.0;
            interrupted = k.3;
            under = k.4;
            leads = k.5;
            off = sym k.6.switches ∙ off;
            first = first;
            chosen = chosen;
          }) k.6

          by_switch : (t : Bool) → blocks.switches k.6.stands.spot ≡ t → Result
          by_switch true on = switching.switch_step mode image built good facts left s m h p hp b below hb a as' e k on
          by_switch false off = at_boundary off (arrivals.boundary mode image built good facts left s m h p hp b below hb a as' e k)
