-- Items that reach the task: a register of its saved area is read or written, or the address where it goes on. Its activation's own block knows these words,
-- and what they give back is the task behind the item.
use Rattle.std.proofs.Common.{◌≡◌, ⊎_elim, ℕ, suc, ◌+◌, ◌-◌, ◌^◌, ◌<◌, ◌≤◌, Bool, true, false, not, List, [], ◌∷◌, set, get_or, length, Some, None, refl, sym, ap, ◌∙◌, subst, arith}
use Rattle.std.specs.Prelude.{pos, nat_le, slice_get, nat_lt, if◌then◌else◌}
use Rattle.std.proofs.lemmas.Bool.{ltb-true, leb-true, not-false, or_parts}
use Rattle.std.proofs.lemmas.Bool.Decides.{eqb_tells}
use Rattle.std.proofs.lemmas.List.{length-set}
use Rattle.ev_isa.specs.Word.{NatMap, put_at}
use Rattle.ev_isa.specs.Flags.{Flags}
use Rattle.ev_isa.specs.Spelling.{spelling, four_bytes}
use Rattle.ev_isa.specs.declared.instruction.Ins.{Ins}
use Rattle.ev_isa.specs.declared.instruction.Ins.TheVariants.{Load, Store}
use Rattle.ev_isa.specs.declared.mode.Mode.{Mode}
use Rattle.ev_isa.specs.declared.mode.Mode.TheVariants.{Idt, Fred}
use Rattle.ev_effect.specs.Task.{Task, reg, with_reg}
use Rattle.ev_body.specs.declared.item.Item.{Item}
use Rattle.ev_body.specs.declared.item.Item.TheVariants.{GetReg, SetReg, SetRip}
use Rattle.ev_body.specs.declared.body.Body.{Body}
use Rattle.ev_body.specs.declared.image.Image.{Image}
use Rattle.ev_body.specs.declared.key.Side.TheVariants.{Kernel}
use Rattle.ev_body.specs.Bodies.{covers}
use Rattle.ev_body.specs.WellFormed.{IsImage, is_local, has_operands}
use Rattle.ev_listing.specs.AddressMap.{saved_rip}
use Rattle.ev_listing.specs.Expansion.{saved_offset, item_address}
use Rattle.ev_state.specs.Processor.{Processor, register}
use Rattle.ev_mem.specs.Memory.{Memory}
use Rattle.ev_proc.specs.ProcessorStep.{has_fred}
use Rattle.ev_abstract.specs.Context.{BodyContext, local}
use Rattle.ev_abstract.specs.ItemMeaning.{item_step, with_context, with_task_at}
use Rattle.ev_abstract.specs.Rules.{may_reach_task, breaks_registers}
use Rattle.ev_abstract.specs.Chain.{is_legal, cons_body, bodies_of}
use Rattle.ev_abstract.specs.Machine.{Machine, processor, task}
use Rattle.ev_abstract.specs.Machine as abstract
use Rattle.ev_abstract.specs.Run.{item_at}
use Rattle.ev_law.specs.Legal.{AreLegal, knows, numbers}
use Rattle.ev_law.proofs.Ruled.{IsRuled}
use Rattle.ev_listing.specs.Marks.{Always}
use Rattle.ev_concrete.specs.ConcreteRun.{System, Activation, is_return}
use Rattle.ev_concrete.specs.Depth.{bodies_on}
use Rattle.ev_concrete.specs.Shown.{shown_always}
use Rattle.ev_built.specs.Built.{IsBuilt}
use Rattle.ev_symbolic.specs.State.{Loc, in_win}
use Rattle.ev_symbolic.specs.Agrees.{Env, Code, untracked, Known, Apart, addr, eval, IsOpen, with_words}
use Rattle.ev_symbolic.specs.Single.{IsAt, onward, Leads}
use Rattle.ev_symbolic.proofs.Single.{singles}
use Rattle.ev_symbolic.proofs.Words.{within_put}
use Rattle.ev_symbolic.proofs.Values.{and_left, and_right}
use Rattle.ev_symbolic.specs.Names.{top_less}
use Rattle.ev_blocks.specs.Shapes.{UserCode, body_bytes}
use Rattle.ev_blocks.specs.Items.{AtItem}
use Rattle.ev_blocks.specs.Blocks.{block}
use Rattle.ev_activation.specs.Seat.{Kind, SystemCall, FromTask, FromBody, NmiFromTask, NmiFromBody, Seat, kind_of, seat_by, seat_of, room_of}
use Rattle.ev_user.specs.Tasks.{IsTask, RunsTask, task_processor}
use Rattle.ev_user.proofs.Words.{set_words}
use Rattle.ev_user.proofs.Follows.{low_canonical}
use Rattle.ev_relation.specs.Named.{Changes}
use Rattle.ev_relation.specs.Filling.{first_fill}
use Rattle.ev_relation.specs.Active.{here, level_in, rest_in, Saved, SavedOf, Active}
use Rattle.ev_relation.specs.Relation.{IsContext, Beneath, keeps_cr2, switches_at, chained, body_edges, Chain, StandsOn, Stands}
use Rattle.ev_relation.specs.Nmi.{Leads as LeadsTo}
use Rattle.ev_relation.proofs.Facts.{Facts}
use Rattle.ev_relation.proofs.ModeFacts.{is_fred}
use Rattle.ev_user.specs.Numbers.{AreOfWords}
use Rattle.ev_relation.proofs.After.{none_spares}
use Rattle.ev_relation.proofs.Maps.{at_same, at_other}
use Rattle.ev_relation.proofs.Fits.{kernel_changes}
use Rattle.ev_body_steps.proofs.Bodies.{layout_of, body, at_the_item, saved_again}
use Rattle.ev_relation.proofs.CallKinds.{is_over_task, is_plain_kind, origin_of, saved_task, over_kind, level_of}
use Rattle.ev_body_steps.proofs.ItemSaved.{variable_of, rip_variable, saved_place, saved_with_rip, saved_at, IsSavedWord, saved_register, register_range, saved_registers, each_below, with_variable, the_variable, another_variable, saved_is, saved_address, saved_with_register, known_anew}
use Rattle.ev_body_steps.proofs.ItemCells.{bytes_of, before, visible_of, ItemCells}
use Rattle.ev_body_steps.proofs.ItemCode.{cells_of}
use Rattle.ev_body_steps.proofs.ItemState.{with_registers, opening_of, known_of, beyond_registers}
use Rattle.ev_body_steps.proofs.ItemVisible.{goes_onward}
use Rattle.ev_body_steps.proofs.ItemVisible as visible
use Rattle.ev_body_steps.proofs.ItemSteps as steps
use Rattle.ev_body_steps.proofs.ItemWords as words
use Rattle.ev_body_steps.proofs.KernelStep as step

module _ (mode : Mode) (image : Image) (built : IsBuilt image) (good : IsImage image) (facts : Facts mode image)
    (left : NatMap ℕ) (s : System) (m : Machine) (h : Stands mode image left s m) (p : ℕ) (hp : p < image.processors)
    (o : step.Top mode image built good facts left s m h p hp) (body' : Body) (is : slice_get image.bodies o.b.body ≡ Some body')
    (ss : ℕ) (extra v : ℕ → ℕ) (f : Flags)
    (a : visible.AtVisible mode image built good facts left s m h p hp o body' is ss extra v f) where
  abbrev code : Code
  code = steps.code mode image built good facts left s m h p hp o body' is ss extra v f a

  abbrev c : Processor
  c = s.cpus p

  abbrev b : BodyContext
  b = o.b

  abbrev x : abstract.Processor
  x = processor m p

  abbrev on : StandsOn mode image p (left p) s x
  on = step.on mode image built good facts left s m h p hp

  abbrev env : Env
  env = visible.env mode image built good facts left s m h p hp o body' is ss extra v f

  abbrev Does : Type 0
  Does = visible.Does mode image built good facts left s m h p hp o body' is ss extra v f a

  abbrev ruled : IsRuled image body'
  ruled = steps.ruled mode image built good facts left s m h p hp o body' is ss extra v f a

  -- ---- such a body stands on the task alone

  reaches : may_reach_task body' ≡ true → is_over_task o.κ ≡ true
  unfolding is_legal
  reaches q = by_below o.below refl
    where
      legal : AreLegal image (knows image m) (b ∷ o.below)
      legal = subst (AreLegal image (knows image m)) o.bodies (h.legal.each p).bodies

      no_kernel : (body : Body) → slice_get image.bodies b.body ≡ Some body → covers body.side Kernel ≡ true → ⊥
      no_kernel body e k =
          let same : body ≡ body' = (let z : Some body ≡ Some body' = sym e ∙ is in cc) in
          let clash : not (covers body'.side Kernel) ≡ true = and_left (not (covers body'.side Kernel)) _ q in
          let z : covers body'.side Kernel ≡ true = subst (λ (y : Body). covers y.side Kernel ≡ true) same k in
          let w : true ≡ false = sym clash ∙ ap not z in absurd (cc)

      by_kind : (κ : Kind) → is_plain_kind κ ≡ true → kind_of image b [] ≡ κ → is_over_task κ ≡ true
      by_kind SystemCall u e = refl
      by_kind FromTask u e = refl
      by_kind FromBody u e = absurd (not_body _ _ e)
        where
          not_body : (t u : Bool) → (if t then SystemCall else (if u then NmiFromTask else FromTask)) ≡ FromBody → ⊥
          not_body true u e = absurd (cc)
          not_body false true e = absurd (cc)
          not_body false false e = absurd (cc)
      by_kind NmiFromTask u e = absurd (cc)
      by_kind NmiFromBody u e = absurd (cc)

      by_below : (ds : List BodyContext) → o.below ≡ ds → is_over_task o.κ ≡ true
      by_below [] e = by_kind o.κ (step.plain_kind mode image built good facts left s m h p hp o) (ap (kind_of image b) (sym e) ∙ o.kind)
      by_below (d ∷ ds) e =
          let l : AreLegal image (knows image m) (b ∷ d ∷ ds) = subst (λ y. AreLegal image (knows image m) (b ∷ y)) e legal in
          let on_it : is_legal (l.0.body ∷ bodies_of image (numbers (d ∷ ds))) ≡ true = l.0.over.legal in
          let two : bodies_of image (numbers (d ∷ ds)) ≡ l.1.0.body ∷ bodies_of image (numbers ds)
          = ap (λ z. cons_body z (bodies_of image (numbers ds))) l.1.0.is_body in
          absurd (no_kernel l.0.body l.0.is_body (and_left (covers l.0.body.side Kernel) _
          (and_left _ _ (ap (λ z. is_legal (l.0.body ∷ z)) (sym two) ∙ on_it))))

  module _ (over : is_over_task o.κ ≡ true) where
    pub one : step.Alone mode image built good facts left s m h p hp o
    one = step.alone mode image built good facts left s m h p hp o over

    pub saved : Saved mode image v o.w
    saved = saved_task mode image o.κ over env o.w a.means.saved

    -- the task to which it returns is the running one
    pub runs_is : on.returning ≡ x.running
    runs_is = on.is_returning ∙ ap (λ t. if t then get_or x.waiting 0 x.running else x.running) one.still

    task_is : x.tasks on.returning ≡ task x
    task_is = ap x.tasks runs_is

    -- RSP, from which the words are reached
    stack : register c 4 ≡ eval env (top_less (body_bytes (layout_of mode)))
    stack = ap (λ (xs : List ℕ). get_or xs 4 0) a.state.regs

    opened : (n j : ℕ) → IsSavedWord mode n j → IsOpen s.memory.regions (addr env (saved_at mode n))
    opened n j w = step.windows mode image built good facts left s m h p hp o body' is (body mode AtItem) (at_the_item mode).over ss extra v f (saved_at mode n)
        w.inside

    -- ---- reading a register

    pub register_is : (r : ℕ) → r < 16 → s.memory.words (addr env (saved_at mode (saved_offset r))) ≡ reg (task x) r
    unfolding variable_of
    register_is r l =
        saved_is mode env s.memory.words (saved_offset r) (variable_of r) (saved_register mode r l) a.state.words
        ∙ each_below (λ r. v (variable_of r) ≡ get_or (saved_registers v) r 0)
        refl refl refl refl refl refl refl refl refl refl refl refl refl refl refl refl r l
        ∙ ap (λ (xs : List ℕ). get_or xs r 0) (sym saved.regs ∙ ap (λ (y : Processor). y.regs) one.task.is ∙ ap (λ (t : Task). t.regs) task_is)

  pub by_getreg : a.offset ≡ 0 → a.flags ≡ f → (d r : ℕ) → item_at (Some body') b.place ≡ Some (GetReg d r) → Does
  unfolding item_step has_operands visible_of before is_return shown_always breaks_registers
  by_getreg off same d r hi =
      let ops = (ruled.operands b.place (GetReg d r) hi).2 in
      let fits = steps.bounds mode image built good facts left s m h p hp o body' is ss extra v f a d (and_left _ _ ops) in
      let small : r < 16 = ltb-true r 16 (and_right (is_local d) _ ops) in
      let over : is_over_task o.κ ≡ true = reaches (not-false _ (ruled.registers b.place (GetReg d r) hi)) in
      let word = saved_register mode r small in
      let l : Loc = saved_at mode (saved_offset r) in
      let next : ℕ = visible.at mode image built good facts left s m h p hp o body' is (suc b.place) in
      let ins : Ins = Load d 4 (pos (saved_offset r)) in
      steps.does mode image built good facts left s m h p hp o body' is ss extra v f a (GetReg d r) hi ins refl off (omega arith) refl
      (Some (d, reg (task x) r)) fits a.flags b.flags
      (steps.known_flags mode image built good facts left s m h p hp o body' is ss extra v f a same) None tt
      (λ i. goes_onward c s.memory ins a.flags _ next s.memory.words a.state.flags
      (subst (λ n. Leads c s.memory ins (onward c (set c.regs d n) next) s.memory.words) (register_is over r small)
      ((singles c s.memory next).loads d 4 (pos (saved_offset r)) (addr env l) i
      (saved_address mode env (register c 4) (saved_offset r) word.small (stack over)) (opened over (saved_offset r) (variable_of r) word))))
      m x.slots (steps.nothing mode image built good facts left s m h p hp o body' is ss extra v f a) [] refl refl

  -- ---- writing a word of the saved area

  -- what a return to the task is told by, as its activation has it
  saved_as : (κ : Kind) → is_over_task κ ≡ true → (e : Env) (w : Processor) → Saved mode image e.var w → SavedOf mode image (origin_of κ) e w
  saved_as SystemCall u e w k = k
  saved_as FromTask u e w k = k
  saved_as FromBody u e w k = let clash : false ≡ true = u in absurd (cc)
  saved_as NmiFromTask u e w k = let clash : false ≡ true = u in absurd (cc)
  saved_as NmiFromBody u e w k = let clash : false ≡ true = u in absurd (cc)

  seat_alone : (κ : Kind) → is_over_task κ ≡ true → (r n : ℕ) (σ : Seat) → seat_by mode κ r σ n ≡ record { stack = r; used = 0 }
  seat_alone SystemCall u r n σ = refl
  seat_alone FromTask u r n σ = refl
  seat_alone FromBody u r n σ = let clash : false ≡ true = u in absurd (cc)
  seat_alone NmiFromTask u r n σ = let clash : false ≡ true = u in absurd (cc)
  seat_alone NmiFromBody u r n σ = let clash : false ≡ true = u in absurd (cc)

  -- it writes what it knows
  own_is : (k : Mode) → (block k (body k AtItem)).ground.own ≡ known_of k
  own_is Idt = refl
  own_is Fred = refl

  -- The word and its variable, the number that is written, and what the activation returns to behind the write: the processor of the task t.
  module _ (over : is_over_task o.κ ≡ true) (n j value : ℕ) (word : IsSavedWord mode n j) (low : 16 ≤ j) (high : j < 60)
      (w : Processor) (t : Task) (saved : Saved mode image (with_variable j value v) w) (runs : RunsTask mode image p on.returning t w)
      (rest : rest_in mode o.κ ss w ≡ rest_in mode o.κ ss o.w) (fred : has_fred w ≡ is_fred mode) where
    abbrev l : Loc
    l = saved_at mode n

    abbrev var : ℕ → ℕ
    var = with_variable j value v

    abbrev ws : NatMap ℕ
    ws = put_at s.memory.words (addr env l) value

    abbrev tasks : NatMap Task
    tasks = put_at x.tasks x.running t

    alone_is : step.Alone mode image built good facts left s m h p hp o
    alone_is = step.alone mode image built good facts left s m h p hp o over

    -- it is written on the activation's own stretch of the stack
    changes : Changes p o.σ [] s.memory.words ws
    changes = kernel_changes mode image p o.σ (step.in_seat mode image built good facts left s m h p hp o) hp good.count.1 o.κ ss o.w extra v f
        (body mode AtItem) (at_the_item mode).over s.memory.words ws
        (within_put env (block mode (body mode AtItem)).ground.own (block mode (body mode AtItem)).ground.shared s.memory.words l value
        (ap (λ W. in_win W l) (own_is mode) ∙ word.inside))

    known : (regs : List ℕ) (extra' : ℕ → ℕ) (f' : Flags)
        → Known (here mode p o.κ o.σ ss w extra' (with_registers regs var) f') (known_of mode) ws (opening_of mode).words
    known regs extra' f' =
        let u : Env = here mode p o.κ o.σ ss w extra' (with_registers regs var) f' in
        let written : u.var j ≡ value = beyond_registers regs var j low ∙ the_variable j value v in
        let sep : Apart env (known_of mode) (known_of mode) = subst (Apart env (known_of mode)) (own_is mode)
        (step.fits mode image built good facts left s m h p hp o body' is (body mode AtItem) (at_the_item mode).over ss extra v f a.place tt
        ((at_the_item mode).told env)).ground.sep in
        subst (λ y. Known u (known_of mode) (put_at s.memory.words (addr env l) y) (opening_of mode).words) written
        (known_anew env u (known_of mode) l j s.memory.words sep word.inside refl
        (λ i q d. beyond_registers regs var i q ∙ another_variable j value v i d) (opening_of mode).words word.alone a.state.words)

    chains : (b' : BodyContext) → kind_of image b' o.below ≡ o.κ → IsContext mode image b' → (now : ℕ) (cpu : Processor)
        → Active mode image p now o.κ o.σ on.frame (switches_at mode image on.switching o.below) (first_fill on.fills) w b' cpu (with_words s.memory ws)
        → Chain mode image p now x.running on.returning (tasks on.returning) on.frame on.switching on.fills (b' ∷ o.below) (o.last ∷ o.others) cpu
        (with_words s.memory ws)
    chains b' kind ctx now cpu act = over_nothing o.below alone_is.none o.others alone_is.no_others kind act seat_is
      where
        mem : Memory
        mem = with_words s.memory ws

        seat_is : o.σ ≡ record { stack = x.running; used = 0 }
        seat_is = sym o.seat ∙ seat_alone o.κ over x.running (room_of mode image o.below) (seat_of mode image x.running o.below)

        written : tasks on.returning ≡ t
        written = at_same x.tasks x.running on.returning t (on.is_returning
            ∙ ap (λ t. if t then get_or x.waiting 0 x.running else x.running) alone_is.still)

        alone : kind_of image b' [] ≡ o.κ → Active mode image p now o.κ o.σ on.frame (switches_at mode image on.switching []) (first_fill on.fills) w b' cpu mem
            → o.σ ≡ record { stack = x.running; used = 0 }
            → Chain mode image p now x.running on.returning (tasks on.returning) on.frame on.switching on.fills (b' ∷ []) (o.last ∷ []) cpu mem
        alone k act q =
            let tail = subst (λ z. Beneath mode image (keeps_cr2 mode image z)
            (λ v. Chain mode image p (body_edges mode image) x.running on.returning t on.frame (chained mode image on.switching []) [] [] [] v mem) w
            × LeadsTo mode p z on.frame w mem.words
            × Active mode image p now z (seat_by mode z x.running (seat_of mode image x.running []) (room_of mode image [])) on.frame
            (switches_at mode image on.switching []) (first_fill on.fills) w b' cpu mem) (sym k)
            (over_kind mode image p now x.running on.returning t on.frame on.switching (first_fill on.fills) w b' cpu mem o.κ over runs
            (subst (λ z. Active mode image p now o.κ z on.frame on.switching (first_fill on.fills) w b' cpu mem) q act)) in
            let lower = subst (λ gs. Beneath mode image (keeps_cr2 mode image (kind_of image b' []))
            (λ v. Chain mode image p (body_edges mode image) x.running on.returning t on.frame (chained mode image on.switching []) gs [] [] v mem) w)
            (sym alone_is.no_fills) tail.0 in
            subst (λ z. Chain mode image p now x.running on.returning z on.frame on.switching on.fills (b' ∷ []) (o.last ∷ []) cpu mem) (sym written)
            (w, ctx, o.outer, tt, lower, tail.1, tail.2)

        over_nothing : (ds : List BodyContext) → ds ≡ [] → (as' : List Activation) → as' ≡ [] → kind_of image b' ds ≡ o.κ
            → Active mode image p now o.κ o.σ on.frame (switches_at mode image on.switching ds) (first_fill on.fills) w b' cpu mem
            → o.σ ≡ record { stack = x.running; used = 0 }
            → Chain mode image p now x.running on.returning (tasks on.returning) on.frame on.switching on.fills (b' ∷ ds) (o.last ∷ as') cpu mem
        over_nothing [] e [] e' k act q = alone k act q
        over_nothing [] e (z ∷ zs) e' k act q = absurd (cc)
        over_nothing (d ∷ ds) e as' e' k act q = absurd (cc)

    stands_over : visible.StandsOver mode image built good facts left s m h p hp o body' is ss v ws w var tasks
    stands_over = record {
      other_gs = sym (another_variable j value v 60 (λ e. omega arith));
      chosen = sym (another_variable j value v 61 (λ e. omega arith));
      level = sym (another_variable j value v 63 (λ e. omega arith));
      rest = rest;
      fred = fred;
      saved = λ regs extra' f'. saved_as o.κ over (here mode p o.κ o.σ ss w extra' (with_registers regs var) f') w
          (saved_again mode image UserCode (here mode p o.κ o.σ ss w extra' var f') (here mode p o.κ o.σ ss w extra' (with_registers regs var) f') w
          (beyond_registers regs var) refl refl refl saved);
      known = known;
      chains = chains;
    }

    makes : words.Makes mode image built good facts left s m h p hp o (with_task_at m p t) ws tasks x.slots x.bodies
    makes = record {
      resched = x.resched;
      asked = λ e. e;
      own = at_same m.processors p p (record x { tasks = tasks }) refl;
      others = λ q e. at_other m.processors p q (record x { tasks = tasks }) e;
      same_tasks = λ i d. ⊎_elim (λ e. absurd (d (e.1 ∙ sym (runs_is over)))) (λ e. at_other x.tasks x.running i t e.0) (eqb_tells i x.running);
      good_tasks = λ i q. ⊎_elim (λ e. subst IsTask (sym (at_same x.tasks x.running i t e.1)) runs.task)
          (λ e. subst IsTask (sym (at_other x.tasks x.running i t e.0)) (on.tasks i q)) (eqb_tells i x.running);
      current = step.same_current mode image built good facts left s m h p hp o [] (none_spares p).free ws changes refl;
      mark = step.same_mark mode image built good facts left s m h p hp o [] (none_spares p).free ws changes refl;
      slots_are = step.same_slots mode image built good facts left s m h p hp o [] (none_spares p).free ws changes refl;
      user = step.same_user mode image built good facts left s m h p hp o [] (none_spares p).free ws changes refl;
      held = h.shares.held;
      pages = step.same_pages mode image built good facts left s m h p hp o [] (none_spares p).free ws changes refl;
      cells = step.same_cells mode image built good facts left s m h p hp o [] (none_spares p).free ws changes refl;
    }

    writes : (item : Item) → item_at (Some body') b.place ≡ Some item → (ins : Ins) → visible_of item ≡ Some ins → a.offset ≡ bytes_of (before item)
        → a.offset < 0x100 → a.flags ≡ f → is_return (Some ins) ≡ false
        → (IsAt c ins (steps.at mode image built good facts left s m h p hp o body' is ss extra v f a (suc b.place))
        → Leads c s.memory ins (onward c c.regs (steps.at mode image built good facts left s m h p hp o body' is ss extra v f a (suc b.place))) ws)
        → item_step image m p b item
        ≡ (
          with_context (with_task_at m p t) p (steps.behind mode image built good facts left s m h p hp
              o body' is ss extra v f a None (suc b.place) b.flags),
          [],
        )
        → shown_always p (bodies_on s p) c s.memory.words (Some ins) ≡ [] → Does
    writes item hi ins seen offset near same back does meaning shows =
        let next : ℕ = steps.at mode image built good facts left s m h p hp o body' is ss extra v f a (suc b.place) in
        let b' : BodyContext = steps.behind mode image built good facts left s m h p hp o body' is ss extra v f a None (suc b.place) b.flags in
        let cells : ItemCells code (item_address mode b.body body' b.place) next item ins
        = cells_of mode image facts b.body body' is b.place item ins hi seen in
        let here : code c.rip ≡ Some (record { ins = ins; next = next; mark = Always })
        = ap code (steps.rip_is mode image built good facts left s m h p hp o body' is ss extra v f a near
        ∙ ap (λ k. item_address mode b.body body' b.place + k) offset) ∙ cells.seen in record {
          cell = record { ins = ins; next = next; mark = Always };
          found = here;
          marked = refl;
          no_return = back;
          write = None;
          local = tt;
          place = suc b.place;
          flags = a.flags;
          status = b.flags;
          flags_are = (steps.known_flags mode image built good facts left s m h p hp o body' is ss extra v f a same).0;
          interrupts = b.interrupts;
          masked = steps.same_interrupts mode image built good facts left s m h p hp o body' is ss extra v f a;
          words = ws;
          apic = s.apics p;
          sent = None;
          sends = step.sends_nothing mode image built good facts left s m h p hp;
          runs = goes_onward c s.memory ins a.flags c.regs next ws a.state.flags
              (does (steps.at_ins mode image built good facts left s m h p hp o body' is ss extra v f a ins next here)) (s.apics p) (s.latches p);
          service = b.service;
          apic_is = visible.same_apic mode image built good facts left s m h p hp o body' is None (suc b.place) b.flags;
          names = [];
          allowed = (none_spares p).free;
          unknown = step.unknown_none o.below;
          changes = changes;
          w = w;
          var = var;
          tasks = tasks;
          over = stands_over;
          machine = with_context (with_task_at m p t) p b';
          entries = [];
          turns = steps.turns mode image built good facts left s m h p hp o body' is ss extra v f a item hi ∙ meaning;
          slots = x.slots;
          makes = words.makes_context mode image built good facts left s m h p hp o m (with_task_at m p t) ws tasks x.slots b' makes;
          shows = shows;
        }

  -- ---- the two of them

  -- what no symbolic state tells of the processor stays
  same_rest : is_over_task o.κ ≡ true → (w : Processor) → untracked w ≡ untracked o.w → w.level ≡ o.w.level
      → rest_in mode o.κ ss w ≡ rest_in mode o.κ ss o.w
  same_rest over w e l = (λ i. record (e i) { cpl = 0; cs = 0x10; ss = ss; level = level_is i })
    where
      level_is : level_in mode o.κ w ≡ level_in mode o.κ o.w
      level_is = level_of mode o.κ w over ∙ l ∙ sym (level_of mode o.κ o.w over)

  -- locals are words
  local_small : (q : ℕ) → local b q < 2 ^ 64
  local_small q = (subst AreOfWords o.bodies (h.numbers.each p).bodies).0.locals (q - 6)

  running : IsTask (task x)
  running = on.tasks x.running on.running

  pub by_setreg : a.offset ≡ 0 → a.flags ≡ f → (r q : ℕ) → item_at (Some body') b.place ≡ Some (SetReg r q) → Does
  unfolding item_step has_operands visible_of before is_return shown_always breaks_registers
  by_setreg off same r q hi =
      let ops = (ruled.operands b.place (SetReg r q) hi).2 in
      let small : r < 16 = ltb-true r 16 (and_left (nat_lt r 16) _ ops) in
      let value : register c q ≡ local b q = steps.is_the_local mode image built good facts left s m h p hp o body' is ss extra v f a q
      (and_right (nat_lt r 16) _ ops) in
      let over : is_over_task o.κ ≡ true = reaches (not-false _ ((or_parts _ _ (ruled.registers b.place (SetReg r q) hi)).0)) in
      let word = saved_register mode r small in
      let range = register_range r small in
      let t : Task = with_reg (task x) r (local b q) in
      let w : Processor = record o.w { regs = set o.w.regs r (local b q) } in
      let ran : RunsTask mode image p on.returning t w = record {
        is = ap (λ (y : Processor). record y { regs = set y.regs r (local b q) }) (one over).task.is
            ∙ ap (λ (k : Task). task_processor mode image p on.returning (with_reg k r (local b q)) o.w.cr2 o.w.nmi_blocked) (task_is over);
        task = record {
          long = length-set (task x).regs r (local b q) ∙ running.long;
          canonical = running.canonical;
          interrupts = running.interrupts;
          words = set_words (task x).regs r (local b q) running.words (local_small q);
        };
      } in
      let next : ℕ = steps.at mode image built good facts left s m h p hp o body' is ss extra v f a (suc b.place) in
      writes over (saved_offset r) (variable_of r) (local b q) word
      (⊎_elim (λ e. omega arith) (λ e. let z = e.0 in omega arith) range) (⊎_elim (λ e. omega arith) (λ e. let z = e.1 in omega arith) range)
      w t (saved_with_register mode image v o.w r (local b q) small (saved over)) ran (same_rest over w refl refl)
      (step.fred_is mode image built good facts left s m h p hp o)
      (SetReg r q) hi (Store 4 (pos (saved_offset r)) q) refl off (omega arith) same refl
      (λ i. subst (λ n. Leads c s.memory (Store 4 (pos (saved_offset r)) q) (onward c c.regs next)
      (put_at s.memory.words (addr env (saved_at mode (saved_offset r))) n)) value
      ((singles c s.memory next).stores 4 (pos (saved_offset r)) q (addr env (saved_at mode (saved_offset r))) i
      (saved_address mode env (register c 4) (saved_offset r) word.small (stack over)) (opened over (saved_offset r) (variable_of r) word)))
      refl refl

  pub by_setrip : a.offset ≡ 10 → a.flags ≡ f → (n : ℕ) → register c 0 ≡ n → item_at (Some body') b.place ≡ Some (SetRip n) → Does
  unfolding item_step has_operands visible_of before is_return shown_always breaks_registers spelling four_bytes
  by_setrip off same n rax hi =
      let over : is_over_task o.κ ≡ true = reaches (not-false _ (ruled.registers b.place (SetRip n) hi)) in
      let word = saved_place mode in
      let upper : n ≤ 0x400000 + length image.text = leb-true n _ (and_right (nat_le 0x400000 n) _ (ruled.operands b.place (SetRip n) hi).2) in
      let fits = good.text_fits in
      let t : Task = record (task x) { rip = n } in
      let w : Processor = record o.w { rip = n } in
      let ran : RunsTask mode image p on.returning t w = record {
        is = ap (λ (y : Processor). record y { rip = n }) (one over).task.is
            ∙ ap (λ (k : Task). task_processor mode image p on.returning (record k { rip = n }) o.w.cr2 o.w.nmi_blocked) (task_is over);
        task = record { long = running.long; canonical = low_canonical n (omega arith); interrupts = running.interrupts; words = running.words };
      } in
      let next : ℕ = steps.at mode image built good facts left s m h p hp o body' is ss extra v f a (suc b.place) in
      let ins : Ins = Store 4 (pos saved_rip) 0 in
      writes over saved_rip rip_variable n word (omega arith) (omega arith)
      w t (saved_with_rip mode image v o.w n (saved over)) ran (same_rest over w refl refl)
      (step.fred_is mode image built good facts left s m h p hp o)
      (SetRip n) hi ins refl off (omega arith) same refl
      (λ i. subst (λ n. Leads c s.memory ins (onward c c.regs next)
      (put_at s.memory.words (addr env (saved_at mode saved_rip)) n)) rax
      ((singles c s.memory next).stores 4 (pos saved_rip) 0 (addr env (saved_at mode saved_rip)) i
      (saved_address mode env (register c 4) saved_rip word.small (stack over)) (opened over saved_rip rip_variable word)))
      refl refl
