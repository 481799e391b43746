-- How an exit opens that switches to another task: the jump behind `ret`, where the mark is set.
use Rattle.std.proofs.Common.{◌≡◌, ⊎_elim, ℕ, suc, ◌+◌, ◌-◌, ◌*◌, ◌%◌, ◌^◌, ◌<◌, ◌≤◌, Bool, true, false, List, [], ◌∷◌, ◌++◌, get_or, map, length, Some, None, refl, sym, ap, ◌∙◌, subst, arith, Option}
use Rattle.std.specs.Prelude.{◌==◌, if◌then◌else◌, slice_get, is_some}
use Rattle.std.proofs.lemmas.Bool.{eqb-true}
use Rattle.std.proofs.lemmas.Bool.Decides.{eqb_tells}
use Rattle.std.proofs.Math.Nat.{mod-lt}
use Rattle.ev_isa.specs.Word.{NatMap, bit}
use Rattle.ev_isa.specs.Flags.{Flags}
use Rattle.ev_isa.specs.declared.mode.Mode.{Mode}
use Rattle.ev_isa.specs.declared.mode.Mode.TheVariants.{Idt, Fred}
use Rattle.ev_body.specs.declared.item.Item.TheVariants.{Ret}
use Rattle.ev_body.specs.declared.body.Body.{Body}
use Rattle.ev_body.specs.declared.image.Image.{Image}
use Rattle.ev_body.specs.WellFormed.{IsImage}
use Rattle.ev_effect.specs.Task.{Task}
use Rattle.ev_listing.specs.AddressMap.{pcpu, task_words, task_selector, stack_top, exit_entry, saved_rip, saved_cs, saved_flags, saved_ss}
use Rattle.ev_listing.specs.Expansion.{saved_offset}
use Rattle.ev_state.specs.Descriptors.{base_of}
use Rattle.ev_state.specs.Msr.{is_level_rsp}
use Rattle.ev_state.specs.Processor.{Processor, selector}
use Rattle.ev_mem.specs.Memory.{Memory}
use Rattle.ev_apic.specs.declared.apic.Apic.{Apic}
use Rattle.ev_proc.specs.ProcessorStep.{has_fred, executed, ran}
use Rattle.ev_proc.specs.declared.stepped.Stepped.{Stepped}
use Rattle.ev_abstract.specs.Context.{BodyContext}
use Rattle.ev_abstract.specs.Machine.{Machine, processor, task}
use Rattle.ev_abstract.specs.Machine as abstract
use Rattle.ev_abstract.specs.Run.{item_at}
use Rattle.ev_listing.specs.Marks.{Never}
use Rattle.ev_concrete.specs.ConcreteRun.{System, activations_by, is_seen, is_return}
use Rattle.ev_concrete.specs.LiveWords.{area_bytes}
use Rattle.ev_concrete.specs.Opening.{listings, code_of, tasks_of}
use Rattle.ev_built.specs.Built.{IsBuilt}
use Rattle.ev_symbolic.specs.Value.{M}
use Rattle.ev_symbolic.specs.Names.{next_rip, next_flags, next_saved, says_ring}
use Rattle.ev_symbolic.specs.State.{Block}
use Rattle.ev_symbolic.specs.Agrees.{Env, Cell, Code, untracked, eval, eval_flags, addr, FactsHold, Described, AreTops, Open, Fits, Agrees}
use Rattle.ev_symbolic.specs.Single.{onward}
use Rattle.ev_symbolic.proofs.Blocks.{begins}
use Rattle.ev_distances.specs.Form.{OnStack, wins_of}
use Rattle.ev_blocks.specs.Shapes.{FredFrame, IdtFrame, body_words}
use Rattle.ev_blocks.specs.Fred.{FredToNext, fexit}
use Rattle.ev_blocks.specs.Fred as fred
use Rattle.ev_blocks.specs.Idt.{IdtReturn, BySysret, ByOtherRip, ByOtherFlags, IdtToNext, return_facts}
use Rattle.ev_blocks.specs.Idt as idt
use Rattle.ev_blocks.specs.Items.{AtItem}
use Rattle.ev_blocks.specs.Blocks.{Spot, InFred, InIdt, block, edges}
use Rattle.ev_blocks.specs.Blocks as blocks
use Rattle.ev_blocks.proofs.Falls.{edges_fall}
use Rattle.ev_grounds.proofs.Facts.{facts_tell}
use Rattle.ev_activation.specs.Seat.{Kind, Seat, kind_of, seat_by, seat_of, room_of, plain_room, top_at}
use Rattle.ev_table.specs.Table.{code_table, other_exit}
use Rattle.ev_user.specs.Tasks.{IsTask, RunsTask, level_zero, task_processor}
use Rattle.ev_relation.specs.Filling.{Filling, first_fill}
use Rattle.ev_relation.specs.Tasks.{order, IsSaved, CurrentIs}
use Rattle.ev_relation.specs.Nmi.{Leads, inner_edges}
use Rattle.ev_relation.specs.Active.{here, level_in, rest_in, GivesBack, Matches, ToNext, OverTask, Saved, Active}
use Rattle.ev_relation.specs.Relation.{InTasks, Beneath, keeps_cr2, switches_at, chained, body_edges, Chain, StandsOn, Stands}
use Rattle.ev_relation.specs.Step.{Simulated}
use Rattle.ev_relation.proofs.Facts.{Facts, word_of_flags, word_of_canonical}
use Rattle.ev_relation.proofs.Maps.{at_same}
use Rattle.ev_relation.proofs.ModeFacts.{is_fred}
use Rattle.ev_relation.proofs.Domains.{four_tasks}
use Rattle.ev_relation.proofs.Areas.{words_map}
use Rattle.ev_relation.proofs.Chains.{chain_kept}
use Rattle.ev_relation.proofs.CallKinds.{is_over_task, means_by, plain_over, plain_knows, level_of, over_kind, seat_under}
use Rattle.ev_body_steps.proofs.Bodies.{body, known_and, nothing_open, unlike}
use Rattle.ev_relation.proofs.Fits.{IsSeat}
use Rattle.ev_relation.proofs.Switch.{switch_unfilled, is_switch, next_level, NamesTasks, switch_fits, switch_opens}
use Rattle.ev_relation.proofs.Legality.{off_at_ret}
use Rattle.ev_relation.proofs.Standing.{after_went, went_stays}
use Rattle.ev_relation.proofs.After.{none_spares, apic_again, own_stands}
use Rattle.ev_body_steps.proofs.ItemSaved.{rip_variable, saved_place, saved_ring, saved_status, saved_stack, saved_at, IsSavedWord, saved_register, each_below, saved_is}
use Rattle.ev_body_steps.proofs.ItemVisible as visible
use Rattle.ev_body_steps.proofs.ItemTask as task_items
use Rattle.ev_body_steps.proofs.NextTask.{task_word_is, descriptor_is, top_is_level, next_values, next_bases, gives_next}
use Rattle.ev_body_steps.proofs.SwitchStep.{rotates, first_of}
use Rattle.ev_body_steps.proofs.KernelStep as step

-- ---- in each mode

-- the words that name the tasks stand where the exit reads them, and the mark is set
pub record FindsNext (p task next : ℕ) (words : NatMap ℕ) : Type 0 where
  pub mark : words ((pcpu p + 0x20) % M) ≡ 1
  pub current : words ((pcpu p + 0x18) % M) ≡ (task_words p task + 0) % M
  pub next_words : words ((task_words p task + 0) % M) ≡ (task_words p next + 0) % M
  pub next_top : words ((task_words p next + 8) % M) ≡ (stack_top p next + 0) % M
  pub chosen : words ((task_words p next + 0x10) % M) ≡ task_selector p next

module _ (p : ℕ) (κ : Kind) (σ : Seat) (ss : ℕ) (w u : Processor) (extra v : ℕ → ℕ) (f : Flags) (c : Processor) (m : Memory) (task next base : ℕ)
    (finds : FindsNext p task next m.words) where
  abbrev pub env_next : Mode → Env
  env_next mode = here mode p κ σ ss u (next_bases p task next extra) (next_values mode m.words p next base v) f

  abbrev at_exit : ℕ → Processor
  at_exit a = record c { rip = a; sti_blocked = false }

  -- an exit that opens there
  pub record OpensNext (mode : Mode) (exit : ℕ) : Type 0 where
    pub spot : Spot
    pub is : is_switch mode spot ≡ true
    pub on : blocks.switches spot ≡ true
    pub told : FactsHold (env_next mode) (block mode spot).ground.facts
    pub fewer : edges mode spot 0 < edges mode (body mode AtItem) 0
    pub agrees : Open (env_next mode) (block mode spot).ground.known m.regions
        → Agrees (env_next mode) (block mode spot).ground (block mode spot).opening (at_exit exit) m
    pub descriptors : selector (task_selector p next) ≡ task_selector p next → base_of u.gdt (task_selector p next) ≡ Some base
        → Described (env_next mode) (block mode spot).ground.descriptors
    pub tops : is_level_rsp ((stack_top p next + 0) % M) ≡ true → AreTops (env_next mode) (block mode spot).ground.tops
    pub means : (image : Image) (b : BodyContext) (g : Option Filling) (words : NatMap ℕ)
        → ToNext mode image (next_level mode (env_next mode)) (env_next mode) u b → OverTask mode image mode spot (env_next mode) u b g words

  -- the processor behind the jump agrees with the exit's opening, where nothing that no block tells differs
  fred_opens : rest_in Fred κ ss u ≡ rest_in Fred κ ss w → selector (v 18) ≡ 0x33
      → Agrees (here Fred p κ σ ss w extra v f) (block Fred (body Fred AtItem)).ground (block Fred (body Fred AtItem)).opening c m → OpensNext Fred fexit
  unfolding eval eval_flags saved_offset
  fred_opens same ring a = record {
    spot = InFred (fred.Leaves FredToNext);
    is = refl;
    on = refl;
    told = ((facts_tell (env_next Fred)).user ring, tt);
    fewer = (edges_fall Fred).fred_exit FredFrame FredToNext;
    agrees = λ o. record {
      regs = a.regs;
      rip = refl;
      flags = a.flags;
      gs = a.gs;
      kernel_gs = a.kernel_gs;
      selector = a.selector;
      cr2 = tt;
      levels = a.levels ∙ ap (λ (y : Processor). v 63 ∷ y.msrs.rsp) (sym same);
      blocked = refl;
      rest = a.rest ∙ sym same;
      words =
          known_and (env_next Fred) (wins_of (OnStack 0xc0 ∷ [])) (block Fred (InFred (fred.Leaves FredToNext))).ground.known m.words (body_words FredFrame)
          fred.switch_words refl a.words (
            refl,
            finds.mark,
            (
              refl,
              finds.current,
              (
                refl,
                finds.next_words,
                (
                  refl,
                  finds.next_top,
                  (
                    refl,
                    finds.chosen,
                    (
                      refl,
                      refl,
                      (
                        refl,
                        refl,
                        (
                          refl,
                          refl,
                          (
                            refl,
                            refl,
                            (
                              refl,
                              refl,
                              (
                                refl,
                                refl,
                                (
                                  refl,
                                  refl,
                                  (
                                    refl,
                                    refl,
                                    (
                                      refl,
                                      refl,
                                      (
                                        refl,
                                        refl,
                                        (
                                          refl,
                                          refl,
                                          (
                                            refl,
                                            refl,
                                            (
                                              refl,
                                              refl,
                                              (
                                                refl,
                                                refl,
                                                (
                                                  refl,
                                                  refl,
                                                  (
                                                    refl,
                                                    refl,
                                                    (
                                                      refl,
                                                      refl,
                                                      (
                                                        refl,
                                                        refl,
                                                        (
                                                          refl,
                                                          refl,
                                                          (
                                                            refl,
                                                            refl,
                                                            (refl, refl, tt),
                                                          ),
                                                        ),
                                                      ),
                                                    ),
                                                  ),
                                                ),
                                              ),
                                            ),
                                          ),
                                        ),
                                      ),
                                    ),
                                  ),
                                ),
                              ),
                            ),
                          ),
                        ),
                      ),
                    ),
                  ),
                ),
              ),
            ),
          );
      known_open = o;
      shared_open = nothing_open (env_next Fred) m;
    };
    descriptors = λ small found. (small, found, tt);
    tops = λ level. (level, tt);
    means = λ image b g words t. t;
  }

  idt_opens_by : (by : IdtReturn) → (told : FactsHold (env_next Idt) (block Idt (InIdt (idt.Leaves (IdtToNext by)))).ground.facts)
      → ((image : Image) → Matches Idt image by ((env_next Idt).var 71) ((env_next Idt).var 54) ((env_next Idt).var 81) ((env_next Idt).var 56))
      → rest_in Idt κ ss u ≡ rest_in Idt κ ss w
      → Agrees (here Idt p κ σ ss w extra v f) (block Idt (body Idt AtItem)).ground (block Idt (body Idt AtItem)).opening c m → OpensNext Idt exit_entry
  unfolding eval eval_flags saved_offset
  idt_opens_by by told matches same a = record {
    spot = InIdt (idt.Leaves (IdtToNext by));
    is = refl;
    on = refl;
    told = told;
    fewer = (edges_fall Idt).idt_exit IdtFrame (IdtToNext by);
    agrees = λ o. record {
      regs = a.regs;
      rip = refl;
      flags = a.flags;
      gs = a.gs;
      kernel_gs = a.kernel_gs;
      selector = a.selector;
      cr2 = tt;
      levels = a.levels ∙ ap (λ (y : Processor). v 63 ∷ y.msrs.rsp) (sym same);
      blocked = refl;
      rest = a.rest ∙ sym same;
      words =
          known_and (env_next Idt) (wins_of (OnStack 0xb0 ∷ [])) (block Idt (InIdt (idt.Leaves (IdtToNext by)))).ground.known m.words (body_words IdtFrame)
          idt.switch_words refl a.words (
            refl,
            finds.mark,
            (
              refl,
              finds.current,
              (
                refl,
                finds.next_words,
                (
                  refl,
                  finds.next_top,
                  (
                    refl,
                    finds.chosen,
                    (
                      refl,
                      refl,
                      (
                        refl,
                        refl,
                        (
                          refl,
                          refl,
                          (
                            refl,
                            refl,
                            (
                              refl,
                              refl,
                              (
                                refl,
                                refl,
                                (
                                  refl,
                                  refl,
                                  (
                                    refl,
                                    refl,
                                    (
                                      refl,
                                      refl,
                                      (
                                        refl,
                                        refl,
                                        (
                                          refl,
                                          refl,
                                          (
                                            refl,
                                            refl,
                                            (
                                              refl,
                                              refl,
                                              (
                                                refl,
                                                refl,
                                                (
                                                  refl,
                                                  refl,
                                                  (
                                                    refl,
                                                    refl,
                                                    (
                                                      refl,
                                                      refl,
                                                      (
                                                        refl,
                                                        refl,
                                                        (
                                                          refl,
                                                          refl,
                                                          (
                                                            refl,
                                                            refl,
                                                            (refl, refl, (refl, refl, tt)),
                                                          ),
                                                        ),
                                                      ),
                                                    ),
                                                  ),
                                                ),
                                              ),
                                            ),
                                          ),
                                        ),
                                      ),
                                    ),
                                  ),
                                ),
                              ),
                            ),
                          ),
                        ),
                      ),
                    ),
                  ),
                ),
              ),
            ),
          );
      known_open = o;
      shared_open = nothing_open (env_next Idt) m;
    };
    descriptors = λ small found. (small, found, tt);
    tops = λ level. tt;
    means = λ image b g words t. (t, matches image);
  }

  -- by how RCX and R11 of the next task compare with its RIP and RFLAGS
  idt_opens : rest_in Idt κ ss u ≡ rest_in Idt κ ss w → selector (v 18) ≡ 0x33 → (env_next Idt).var 54 < 2 ^ 64 → (env_next Idt).var 56 < 2 ^ 64
      → (env_next Idt).var 71 < 2 ^ 64 → (env_next Idt).var 81 < 2 ^ 64
      → Agrees (here Idt p κ σ ss w extra v f) (block Idt (body Idt AtItem)).ground (block Idt (body Idt AtItem)).opening c m → OpensNext Idt exit_entry
  unfolding eval
  idt_opens same ring rip flags rcx r11 a = by_rip ((env_next Idt).var 71 == (env_next Idt).var 54) refl
    where
      ring_is : eval (env_next Idt) (says_ring 3).val ≡ 3
      ring_is = (facts_tell (env_next Idt)).user ring

      by_flags : (env_next Idt).var 71 ≡ (env_next Idt).var 54 → (t : Bool) → ((env_next Idt).var 81 == (env_next Idt).var 56) ≡ t → OpensNext Idt exit_entry
      by_flags q true h =
          let q' : (env_next Idt).var 81 ≡ (env_next Idt).var 56 = eqb-true _ _ h in
          idt_opens_by BySysret (
            ring_is,
            (
              (facts_tell (env_next Idt)).equal (next_saved 1) next_rip q,
              ((facts_tell (env_next Idt)).equal (next_saved 11) next_flags q', tt),
            ),
          ) (λ image. (q, q')) same a
      by_flags q false h =
          idt_opens_by ByOtherFlags (
            ring_is,
            (
              (facts_tell (env_next Idt)).equal (next_saved 1) next_rip q,
              (
                (facts_tell (env_next Idt)).unequal (next_saved 11) next_flags (unlike _ _ h) r11 flags,
                tt,
              ),
            ),
          ) (λ image. tt) same a

      by_rip : (t : Bool) → ((env_next Idt).var 71 == (env_next Idt).var 54) ≡ t → OpensNext Idt exit_entry
      by_rip true h = by_flags (eqb-true _ _ h) ((env_next Idt).var 81 == (env_next Idt).var 56) refl
      by_rip false h =
          idt_opens_by ByOtherRip (
            ring_is,
            (
              (facts_tell (env_next Idt)).unequal (next_saved 1) next_rip (unlike _ _ h) rcx rip,
              tt,
            ),
          ) (λ image. tt) same a

  next_opens : (mode : Mode) → rest_in mode κ ss u ≡ rest_in mode κ ss w → selector (v 18) ≡ 0x33 → (env_next mode).var 54 < 2 ^ 64
      → (env_next mode).var 56 < 2 ^ 64 → (env_next mode).var 71 < 2 ^ 64 → (env_next mode).var 81 < 2 ^ 64
      → Agrees (here mode p κ σ ss w extra v f) (block mode (body mode AtItem)).ground (block mode (body mode AtItem)).opening c m
      → OpensNext mode (other_exit mode)
  next_opens Fred same ring rip flags rcx r11 a = fred_opens same ring a
  next_opens Idt same ring rip flags rcx r11 a = idt_opens same ring rip flags rcx r11 a

  -- RSP of level 0 is that of the next task
  level_is : (mode : Mode) → v 63 ≡ level_zero mode p task → next_level mode (env_next mode) ≡ level_zero mode p next
  level_is Fred h = refl
  level_is Idt h = h

-- where the saved area of the task that runs lies
saved_address : (mode : Mode) (e : Env) (p r o : ℕ) → p < 32 → r < 7 → o < 0xb0 → e.base 16 ≡ stack_top p r
    → addr e (saved_at mode o) ≡ stack_top p r - area_bytes mode + o
saved_address Fred e p r o hp hr ho h = omega arith
saved_address Idt e p r o hp hr ho h = omega arith

-- ---- the jump

module _ (mode : Mode) (image : Image) (built : IsBuilt image) (good : IsImage image) (facts : Facts mode image)
    (left : NatMap ℕ) (s : System) (m : Machine) (h : Stands mode image left s m) (p : ℕ) (hp : p < image.processors)
    (o : step.Top mode image built good facts left s m h p hp) (body' : Body) (is : slice_get image.bodies o.b.body ≡ Some body')
    (ss : ℕ) (extra v : ℕ → ℕ) (f : Flags)
    (a : visible.AtVisible mode image built good facts left s m h p hp o body' is ss extra v f) (over : is_over_task o.κ ≡ true)
    (asked : (processor m p).resched ≡ true) where
  abbrev code : Code
  code = code_table mode image

  abbrev c : Processor
  c = s.cpus p

  abbrev b : BodyContext
  b = o.b

  abbrev x : abstract.Processor
  x = processor m p

  abbrev κ : Kind
  κ = o.κ

  abbrev w : Processor
  w = o.w

  abbrev on : StandsOn mode image p (left p) s x
  on = step.on mode image built good facts left s m h p hp

  abbrev words : NatMap ℕ
  words = s.memory.words

  abbrev env : Env
  env = here mode p κ o.σ ss w extra v f

  small : p < 32
  small = step.small mode image built good facts left s m h p hp

  -- the task that runs, and the next one
  abbrev r : ℕ
  r = x.running

  abbrev n : ℕ
  n = length (tasks_of image p)

  abbrev next : ℕ
  next = suc r % n

  four : n ≤ 4
  four = four_tasks image good p hp

  next_there : next < n
  next_there = let l = on.running in mod-lt (suc r) (omega arith)

  one : step.Alone mode image built good facts left s m h p hp o
  one = task_items.one mode image built good facts left s m h p hp o body' is ss extra v f a over

  saved : Saved mode image v w
  saved = task_items.saved mode image built good facts left s m h p hp o body' is ss extra v f a over

  to_is : on.returning ≡ r
  to_is = task_items.runs_is mode image built good facts left s m h p hp o body' is ss extra v f a over

  runs : RunsTask mode image p r (x.tasks r) w
  runs = subst (λ i. RunsTask mode image p i (x.tasks i) w) to_is one.task

  seat_is : o.σ ≡ record { stack = r; used = 0 }
  seat_is =
      let none : plain_room mode * 0 ≡ 0 = omega arith in
      step.under_is mode image built good facts left s m h p hp o ∙ ap (λ (ds : List BodyContext). seat_under mode r (length ds)) one.none
      ∙ ap (λ k. record { stack = r; used = k }) none

  top_is : top_at p o.σ ≡ stack_top p r
  top_is = ap (top_at p) seat_is ∙ (let e : stack_top p r - 0 ≡ stack_top p r = omega arith in e)

  -- ---- the saved area of the task that runs

  abbrev area : ℕ
  area = stack_top p r - area_bytes mode

  placed : (k : ℕ) → k < 0xb0 → words (area + k) ≡ words (addr env (saved_at mode k))
  placed k l = let l' = on.running in let t = four in sym (ap words (saved_address mode env p r k small (omega arith) l top_is))

  word : (k j : ℕ) → IsSavedWord mode k j → words (area + k) ≡ v j
  word k j t = placed k t.small ∙ saved_is mode env words k j t a.state.words

  register : (k : ℕ) → k < 16 → words (area + saved_offset k) ≡ get_or (x.tasks r).regs k 0
  register k l = placed (saved_offset k) (saved_register mode k l).small
      ∙ task_items.register_is mode image built good facts left s m h p hp o body' is ss extra v f a over k l

  abbrev registers : List ℕ
  registers = map (λ k. get_or (x.tasks r).regs k 0) order

  abbrev IsPlaced : ℕ → Type 0
  IsPlaced k = k < 15 → words (area + 8 * k) ≡ get_or registers k 0

  in_order : (k : ℕ) → IsPlaced k
  unfolding saved_offset
  in_order k l = each_below IsPlaced
      (λ l. register 15 (omega arith)) (λ l. register 14 (omega arith)) (λ l. register 13 (omega arith)) (λ l. register 12 (omega arith))
      (λ l. register 11 (omega arith)) (λ l. register 10 (omega arith)) (λ l. register 9 (omega arith)) (λ l. register 8 (omega arith))
      (λ l. register 7 (omega arith)) (λ l. register 6 (omega arith)) (λ l. register 5 (omega arith)) (λ l. register 3 (omega arith))
      (λ l. register 2 (omega arith)) (λ l. register 1 (omega arith)) (λ l. register 0 (omega arith)) (λ l. absurd (omega arith)) k (omega arith) l

  left_behind : IsSaved mode p r (x.tasks r) words
  unfolding saved_offset
  left_behind = record {
    regs = words_map words registers area (let l = on.running in let t = four in omega arith) in_order;
    rip = word saved_rip rip_variable (saved_place mode) ∙ saved.rip ∙ ap (λ (y : Processor). y.rip) runs.is;
    cs = ap selector (word saved_cs 18 (saved_ring mode)) ∙ saved.cs ∙ ap (λ (y : Processor). y.cs) runs.is;
    flags = word saved_flags 19 (saved_status mode) ∙ saved.flags ∙ ap (λ (y : Processor). y.flags) runs.is;
    rsp = register 4 (omega arith);
    ss = ap selector (word saved_ss 21 (saved_stack mode)) ∙ saved.ss ∙ ap (λ (y : Processor). y.ss) runs.is;
    sti = ap (bit 16) (word saved_ss 21 (saved_stack mode)) ∙ saved.sti ∙ ap (λ (y : Processor). y.sti_blocked) runs.is;
  }

  -- so has each task its own
  all_saved : (i : ℕ) → i < n → IsSaved mode p i (x.tasks i) words
  all_saved i l = ⊎_elim (λ e. subst (λ k. IsSaved mode p k (x.tasks k) words) (sym e.1) left_behind)
      (λ e. on.saved i l (λ q. e.1 (q ∙ to_is))) (eqb_tells i r)

  -- ---- what the exit finds

  abbrev t : Task
  t = x.tasks next

  is_task : IsTask t
  is_task = on.tasks next next_there

  -- the processor to which it returns
  abbrev u : Processor
  u = task_processor mode image p next t w.cr2 w.nmi_blocked

  next_runs : RunsTask mode image p next t u
  next_runs = record { is = refl; task = is_task }

  -- words of tasks, where the tables have them
  fixed : (i k : ℕ) → i < n → k < 0x40 → k % 8 ≡ 0 → words (task_words p i + k)
      ≡ (if k == 0 then task_words p (suc i % n) else (if k == 8 then stack_top p i else (if k == 0x10 then task_selector p i else 0)))
  fixed i k l l' even =
      let few = four in
      h.fixed (task_words p i + k) (InTasks (omega arith) (let z = small in omega arith))
      ∙ task_word_is (code_of (listings mode image)) mode image p i k hp good.count.1 (omega arith) l l' even

  current : CurrentIs mode p r words
  current = on.current one.still

  finds : FindsNext p r next words
  finds =
      let few = four in let there = next_there in let running = on.running in let p' = small in record {
        mark = ap words (let e : (pcpu p + 0x20) % M ≡ pcpu p + 0x20 = omega arith in e) ∙ on.mark one.still ∙ ap (λ z. if z then 1 else 0) asked;
        current = ap words (let e : (pcpu p + 0x18) % M ≡ pcpu p + 0x18 = omega arith in e) ∙ current.current
            ∙ (let e : task_words p r ≡ (task_words p r + 0) % M = omega arith in e);
        next_words = ap words (let e : (task_words p r + 0) % M ≡ task_words p r + 0 = omega arith in e) ∙ fixed r 0 on.running (omega arith) refl
            ∙ (let e : task_words p next ≡ (task_words p next + 0) % M = omega arith in e);
        next_top = ap words (let e : (task_words p next + 8) % M ≡ task_words p next + 8 = omega arith in e) ∙ fixed next 8 next_there (omega arith) refl
            ∙ (let e : stack_top p next ≡ (stack_top p next + 0) % M = omega arith in e);
        chosen = ap words (let e : (task_words p next + 0x10) % M ≡ task_words p next + 0x10 = omega arith in e)
            ∙ fixed next 0x10 next_there (omega arith) refl;
      }

  -- what no block tells of the processor is the same with the next task
  same_rest : rest_in mode κ ss u ≡ rest_in mode κ ss w
  same_rest =
      let same : untracked u ≡ untracked w = sym (ap untracked runs.is) in
      let level : level_in mode κ u ≡ level_in mode κ w
      = level_of mode κ u over ∙ sym (ap (λ (y : Processor). y.level) runs.is) ∙ sym (level_of mode κ w over) in
      (λ i. record (same i) { cpl = 0; cs = 0x10; ss = ss; level = level i })

  descriptor : base_of u.gdt (task_selector p next) ≡ Some t.gs
  descriptor =
      let given = good.tasks_given.0 in
      let found = descriptor_is 0 p image.tasks next (λ k l. four_tasks image good k (omega arith)) (omega arith) next_there in
      ap (λ k. base_of u.gdt (task_selector k next)) (let e : p ≡ 0 + p = omega arith in e) ∙ found ∙ ap Some (sym (h.bases p next))

  selector_small : selector (task_selector p next) ≡ task_selector p next
  selector_small = let few = four in let there = next_there in let p' = small in omega arith

  -- ---- the exit

  abbrev E : Env
  E = env_next p κ o.σ ss w u extra v f c s.memory r next t.gs finds mode

  top_level : next_level mode E ≡ level_zero mode p next
  top_level = level_is p κ o.σ ss w u extra v f c s.memory r next t.gs finds mode
      (saved.level ∙ ap (λ (y : Processor). get_or y.msrs.rsp 0 0) runs.is)

  gives : GivesBack mode image (λ k. E.var (70 + k)) (E.var 54) (E.var 55) (E.var 56) (E.var 57) (E.var 58) (E.var 51) (E.var 50) (next_level mode E) u
  gives = gives_next mode image p next t words v w.cr2 w.nmi_blocked (next_level mode E) small (let few = four in let l = next_there in omega arith) is_task
      (all_saved next next_there) top_level

  names : NamesTasks p (next_bases p r next extra) r next
  names = record {
    few = (let few = four in let l = on.running in omega arith, let few = four in let l = next_there in omega arith);
    words = refl;
    next_words = refl;
    next_top = refl;
  }

  -- a register of the next task, where the exit finds it
  found_register : (k : ℕ) → (y : ℕ) → get_or t.regs k 0 ≡ y → y < 2 ^ 64
  found_register k y e = subst (λ z. z < 2 ^ 64) e (is_task.words k)

  opens : Agrees env (block mode (body mode AtItem)).ground (block mode (body mode AtItem)).opening c s.memory
      → OpensNext p κ o.σ ss w u extra v f c s.memory r next t.gs finds mode (other_exit mode)
  opens ag = next_opens p κ o.σ ss w u extra v f c s.memory r next t.gs finds mode same_rest (saved.cs ∙ ap (λ (y : Processor). y.cs) runs.is)
      (subst (λ z. z < 2 ^ 64) (sym gives.rip) (word_of_canonical t.rip is_task.canonical))
      (subst (λ z. z < 2 ^ 64) (sym gives.flags) (word_of_flags t.flags))
      (found_register 1 _ (ap (λ xs. get_or xs 1 0) gives.regs)) (found_register 11 _ (ap (λ xs. get_or xs 11 0) gives.regs)) ag

  -- the jump to it is an edge, behind which the relation speaks of the next task
  pub leaves : Agrees env (block mode (body mode AtItem)).ground (block mode (body mode AtItem)).opening c s.memory
      → item_at (slice_get image.bodies b.body) b.place ≡ Some Ret → (cell : Cell) → code c.rip ≡ Some cell → cell.mark ≡ Never
      → is_return (Some cell.ins) ≡ false
      → ((ap' : Apic) (nmi : Bool) → executed c ap' s.memory nmi (Some cell.ins) ≡ ran (onward c c.regs (other_exit mode)) ap' words nmi)
      → f.interrupts ≡ b.interrupts → edges mode (body mode AtItem) 0 ≤ on.own → Simulated mode image left s m p
  leaves ag ret cell hc unmarked back does masked enough =
      let y = opens ag in
      let cpu : Processor = onward c c.regs (other_exit mode) in
      let B : Block = block mode y.spot in
      let now : ℕ = edges mode y.spot 0 in
      let fewer = y.fewer in
      let seat : IsSeat o.σ = step.in_seat mode image built good facts left s m h p hp o in
      let fred : has_fred u ≡ is_fred mode = (chain_kept mode image p 0 r next t on.frame false [] [] [] u s.memory (next_runs, refl, refl, refl)).fred in
      let level : is_level_rsp ((stack_top p next + 0) % M) ≡ true =
      let few = four in let l = next_there in let p' = small in
      ap is_level_rsp (let e : (stack_top p next + 0) % M ≡ stack_top p next = omega arith in e) ∙ top_is_level p next small (omega arith) in
      let fit : Fits code E B = switch_fits mode image p o.σ seat hp good.count.1 κ ss u (next_bases p r next extra)
      (next_values mode words p next t.gs v) f r next
      names facts y.spot y.is fred y.told (y.descriptors selector_small descriptor) (y.tops level) in
      let access : Open E B.ground.known s.memory.regions = switch_opens mode image p o.σ seat hp good.count.1 κ ss u (next_bases p r next extra)
      (next_values mode words p next t.gs v) f r next names y.spot y.is s.memory h.regions_are in
      let to_next : ToNext mode image (next_level mode E) E u b = record {
        off = off_at_ret image good built.accepted m p h.legal b o.below o.bodies ret;
        ret = ret;
        p = p;
        task = r;
        next = next;
        few = names.few;
        area = refl;
        words = refl;
        next_words = refl;
        next_top = refl;
        chosen = refl;
        gives = gives;
      } in
      let act : Active mode image p now κ o.σ on.frame true (first_fill on.fills) u b cpu s.memory = record {
        stands = record {
          spot = y.spot;
          k = 0;
          extra = next_bases p r next extra;
          var = next_values mode words p next t.gs v;
          flags = f;
          ss = ss;
          ss_is = a.ss_is;
          masked = masked;
          within = omega arith;
          enough = omega arith;
          at = begins code B E cpu s.memory fit (y.agrees access);
          long = a.long;
        };
        switches = y.on;
        fills = switch_unfilled mode y.spot y.is ∙ sym (ap is_some a.unfilled);
        knows = plain_knows mode κ on.frame (plain_over κ over) (blocks.holds y.spot);
        means = means_by mode image κ over y.spot E u b (first_fill on.fills) words (y.means image b (first_fill on.fills) words to_next);
      } in
      let kind : kind_of image b [] ≡ κ = ap (kind_of image b) (sym one.none) ∙ o.kind in
      let tail = subst (λ z. Beneath mode image (keeps_cr2 mode image z)
      (λ v. Chain mode image p (body_edges mode image) r next t on.frame (chained mode image true []) [] [] [] v s.memory) u
      × Leads mode p z on.frame u words
      × Active mode image p now z (seat_by mode z r (seat_of mode image r []) (room_of mode image [])) on.frame (switches_at mode image true [])
      (first_fill on.fills) u b cpu s.memory) (sym kind)
      (over_kind mode image p now r next t on.frame true (first_fill on.fills) u b cpu s.memory κ over next_runs
      (subst (λ z. Active mode image p now κ z on.frame true (first_fill on.fills) u b cpu s.memory) seat_is act)) in
      let lower = subst (λ gs. Beneath mode image (keeps_cr2 mode image (kind_of image b []))
      (λ v. Chain mode image p (body_edges mode image) r next t on.frame (chained mode image true []) gs [] [] v s.memory) u) (sym one.no_fills) tail.0 in
      let chain : Chain mode image p now r next t on.frame true on.fills (b ∷ []) (o.last ∷ []) cpu s.memory
      = (u, o.ctx, o.outer, tt, lower, tail.1, tail.2) in
      let alone : b ∷ [] ≡ x.bodies = ap (λ ds. b ∷ ds) (sym one.none) ∙ sym o.bodies in
      let stays : o.last ∷ [] ≡ activations_by s p (s.activations p) cpu Stepped.Ran
      = ap (λ ys. o.last ∷ ys) (sym one.no_others) ∙ sym o.acts
      ∙ sym (went_stays image.processors s p cpu None cell.ins (step.fetches mode image built good facts left s m h p hp c.rip cell hc).1 back) in
      let after : System = after_went image.processors s p (s.apics p) cpu words None in
      let there : StandsOn mode image p (now + inner_edges (s.latches p)) after x
      = own_stands mode image p (left p) now s after x x cpu _ words on
      (step.moves mode image built good facts left s m h p hp (s.apics p) cpu words None)
      (record {
        running = on.running;
        waiting = on.waiting;
        switching = true;
        marked = λ e. asked;
        returning = next;
        is_returning = sym (first_of x.waiting _ r next (ap (λ ws. ws ++ r ∷ []) on.waiting ∙ rotates n r on.running four));
        current = λ e. absurd (cc);
        mark = λ e. absurd (cc);
        saved = λ i l d. all_saved i l;
        tasks = on.tasks;
        latch = refl;
        blocked = step.blocked mode image built good facts left s m h p hp ∙ sym (step.none_is_nmi mode image built good facts left s m h p hp);
        apic = apic_again mode image (s.apics p) (after.apics p) x.pending x.bodies x.bodies (at_same s.apics p p (s.apics p) refl) (λ class. refl) on.apic;
        slots = on.slots;
        fills = on.fills;
        free = on.free;
        records = on.records;
        short = let l = on.short in omega arith;
        chain = subst (λ as'. Chain mode image p now r next t on.frame true on.fills x.bodies as' cpu s.memory) stays
            (subst (λ bs. Chain mode image p now r next t on.frame true on.fills bs (o.last ∷ []) cpu s.memory) alone chain);
      }) in
      let narrow : r < 7 = let few = four in let l = on.running in omega arith in
      step.edge_to mode image built good facts left s m h p hp (step.first mode image built good facts left s m h p hp o) cell hc
      (ap (λ k. is_seen k s c) unmarked) back a.kernel
      (step.outside mode image built good facts left s m h p hp o a.act) cpu words does (record { stack = r; used = 0 }) narrow [] (none_spares p).free
      refl refl refl (λ y far far'. refl) now (omega arith) there
