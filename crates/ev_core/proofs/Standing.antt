-- What a machine that stands for an abstract state says of its edges.
use Rattle.std.proofs.Common.{◌≡◌, ◌≢◌, ℕ, suc, ◌+◌, ◌-◌, ◌<◌, ◌≤◌, ⊎_elim, true, false, List, [], ◌++◌, length, Some, refl, ap, sym, ◌∙◌, subst, arith}
use Rattle.std.specs.Prelude.{◌==◌, nat_lt, is_some, if◌then◌else◌}
use Rattle.std.proofs.lemmas.Bool.{eqb-true, eq-eqb}
use Rattle.std.proofs.lemmas.Bool.Decides.{leb_tells}
use Rattle.ev_isa.specs.Word.{bit}
use Rattle.ev_isa.specs.Flags.{flags_word}
use Rattle.ev_isa.specs.declared.mode.Mode.TheVariants.{Idt, Fred}
use Rattle.ev_isa.specs.declared.mode.Mode.{Mode}
use Rattle.ev_event.specs.declared.frame_note.FrameNote.{FrameNote}
use Rattle.ev_body.specs.declared.image.Image.{Image}
use Rattle.ev_abstract.specs.Machine as abstract
use Rattle.ev_effect.specs.Task.{Task}
use Rattle.ev_state.specs.Descriptors.{base_of}
use Rattle.ev_listing.specs.AddressMap.{pcpu, stack_top, task_selector, task_words}
use Rattle.ev_mem.specs.Mapped.{memory}
use Rattle.ev_proc.specs.Conditions.{HasEntries, IsInCode}
use Rattle.ev_concrete.specs.ConcreteRun.{System, Marks, marks_of, is_visible, concrete_step, edges, with_frames}
use Rattle.ev_concrete.specs.Depth.{bodies_on}
use Rattle.ev_concrete.specs.LiveWords.{area_bytes}
use Rattle.ev_concrete.specs.Opening.{tasks_of, control}
use Rattle.ev_relation.specs.Tasks.{IsSaved}
use Rattle.ev_relation.proofs.Saved.{registers_saved}
use Rattle.ev_relation.specs.Told.{Tells}
use Rattle.ev_refine.specs.Claims.{Settles}
use Rattle.ev_relation.proofs.Laws.{tells}
use Rattle.ev_refine.proofs.Refine.{all_settle}
use Rattle.ev_layout.specs.Marks.{marks_in}
use Rattle.ev_core.specs.State.{Parts, Shows, CanStep, EdgesTell, local_of}
use Rattle.ev_core.specs.Run.{MachineView, IsStandingAs, IsStanding}
use Rattle.ev_state.specs.Processor.{Processor}
use Rattle.ev_core.specs.Task.{IsTaskView, area_at, saved_view}
use Rattle.ev_core.specs.declared.task_view.TaskView.{TaskView}
use Rattle.ev_core.proofs.Selectors.{descriptor_tells, descriptor_has}
use Rattle.ev_core.specs.declared.local.Local.{Local}
use Rattle.ev_core.proofs.Parts.{same_value}
use Rattle.ev_core.proofs.Edges.{edges_more}

-- ---- in a given state

module _ (mode : Mode) (image : Image) (s : System) (m : abstract.Machine) (v : MachineView) (so : IsStandingAs mode image s m v) (p : ℕ)
    (lt : p < image.processors) where
  abbrev pub marks : Marks
  marks = marks_of mode image

  pub settling : Settles mode image so.left s m p
  settling = all_settle mode image so.can.built so.can.image_is so.left s m so.stands p lt

  pub telling : Tells mode image s m p
  telling = tells mode image so.can.built so.can.image_is so.left s m so.stands p lt

  -- edges tell how many bodies stand
  pub tell : EdgesTell (marks_in v.places) image.processors s p
  tell = subst (λ k. EdgesTell k image.processors s p) (sym so.at.marks) settling.counts

  -- what the machine keeps as the depth is the number of contexts
  pub depth_is : (l : Local) → l ≡ local_of s p → l.depth ≡ length (abstract.processor m p).bodies
  depth_is l e = ap (λ (y : Local). y.depth) e ∙ telling.depth

  -- ---- the tasks, where no body stands

  module _ (none : (abstract.processor m p).bodies ≡ []) (i : ℕ) (small : i < 4) (c : Processor) (is : c ≡ s.cpus p) where
    -- descriptors tell which tasks there are, and their bases
    pub has_is : is_some (base_of c.gdt (task_selector p i)) ≡ nat_lt i (length (tasks_of image p))
    has_is = ap (λ (d : Processor). is_some (base_of d.gdt (task_selector p i))) is
        ∙ ap (λ ds. is_some (base_of ds (task_selector p i))) (telling.descriptors none) ∙ descriptor_tells image so.can.image_is p i small

    module _ (there : i < length (tasks_of image p)) where
      pub base_is : base_of c.gdt (task_selector p i) ≡ Some ((abstract.processor m p).tasks i).gs
      base_is = ap (λ (d : Processor). base_of d.gdt (task_selector p i)) is ∙ ap (λ ds. base_of ds (task_selector p i)) (telling.descriptors none)
          ∙ descriptor_has image so.can.image_is p i small there ∙ ap Some (sym (telling.bases p i))

      -- the area names the running task alone
      runs_it : (s.memory.words (pcpu p + 0x18) == task_words p i) ≡ true → (abstract.processor m p).running ≡ i
      runs_it h =
          let named : s.memory.words (pcpu p + 0x18) ≡ task_words p i = eqb-true (s.memory.words (pcpu p + 0x18)) (task_words p i) h in
          let current = (telling.current none).current in omega arith

      waits : (s.memory.words (pcpu p + 0x18) == task_words p i) ≡ false → i ≢ (abstract.processor m p).running
      waits h e =
          let named = eq-eqb (s.memory.words (pcpu p + 0x18)) (task_words p i) ((telling.current none).current ∙ ap (task_words p) (sym e)) in
          let clash : true ≡ false = sym named ∙ h in absurd (cc)

      -- the running task is the processor's own state
      pub running_is : (s.memory.words (pcpu p + 0x18) == task_words p i) ≡ true → (v : TaskView) → v.regs ≡ c.regs → v.rip ≡ c.rip → v.flags ≡ c.flags
          → v.gs ≡ ((abstract.processor m p).tasks i).gs → IsTaskView v ((abstract.processor m p).tasks i)
      running_is h v regs rip flags gs =
          let same : (abstract.processor m p).running ≡ i = runs_it h in record {
            regs = regs ∙ ap (λ (d : Processor). d.regs) is ∙ telling.regs none ∙ ap (λ n. ((abstract.processor m p).tasks n).regs) same;
            rip = rip ∙ ap (λ (d : Processor). d.rip) is ∙ telling.rip none ∙ ap (λ n. ((abstract.processor m p).tasks n).rip) same;
            flags = flags ∙ ap (λ (d : Processor). d.flags) is ∙ telling.flags none
                ∙ ap (λ n. flags_word ((abstract.processor m p).tasks n).flags) same;
            gs = gs;
          }

      area_is : area_at c p i ≡ stack_top p i - area_bytes mode
      area_is = ap (λ (d : Processor). area_at d p i) is ∙ ap (λ n. if bit 32 n then stack_top p i - 0xc0 else stack_top p i - 0xb0) (telling.control none)
          ∙ by_mode mode
        where
          by_mode : (mode : Mode) → (if bit 32 (control mode) then stack_top p i - 0xc0 else stack_top p i - 0xb0) ≡ stack_top p i - area_bytes mode
          by_mode Idt = refl
          by_mode Fred = refl

      -- the others are what their saved areas say
      pub waiting_is : (s.memory.words (pcpu p + 0x18) == task_words p i) ≡ false → (gs : ℕ) → gs ≡ ((abstract.processor m p).tasks i).gs
          → IsTaskView (saved_view s.memory.words (area_at c p i) gs) ((abstract.processor m p).tasks i)
      waiting_is h gs base =
          let t : Task = (abstract.processor m p).tasks i in
          let saved : IsSaved mode p i t s.memory.words = telling.saved none i there (waits h) in
          let few = so.can.image_is.count.1 in
          subst (λ a. IsTaskView (saved_view s.memory.words a gs) t) (sym area_is) (record {
            regs = registers_saved mode p i t s.memory.words (omega arith) (omega arith) (telling.long i there) saved;
            rip = saved.rip;
            flags = saved.flags;
            gs = base;
          })

  -- parts that show the state can make a step
  pub can_step : (w : Parts) → Shows image.processors w s → CanStep w p
  can_step w h =
      record {
        entries = λ c e. subst (λ y. HasEntries y (memory w.mem)) (same_value (s.cpus p) c (sym (h.cpu p lt) ∙ e))
            (subst (λ y. HasEntries (s.cpus p) y) (sym h.memory) telling.entries);
        in_code = λ c e. subst (λ y. IsInCode y (memory w.mem)) (same_value (s.cpus p) c (sym (h.cpu p lt) ∙ e))
            (subst (λ y. IsInCode (s.cpus p) y) (sym h.memory) telling.in_code);
        depth = λ l e. let d : bodies_on s p ≡ l.depth = ap (λ (y : Local). y.depth) (same_value (local_of s p) l (sym (h.own p lt) ∙ e)) in
            let n = telling.depth in
            let f = telling.few in omega arith;
      }

  -- before a visible step stand fewer than 1,024 edges
  pub hidden_few : (k : ℕ) → is_visible marks (edges k marks image.processors s p).0 p ≡ false → k + 1 ≤ 1023
  hidden_few k h =
      let most = settling.bounded in
      ⊎_elim (λ e. absurd (let seen = settling.seen k e.1 in cc)) (λ e. let b = e.1 in omega arith) (leb_tells (so.left p) k)

-- ---- in the state that the machine's type keeps

module _ (v : MachineView) (h : IsStanding v) (p : ℕ) (within : p < length v.parts.cpus) where
  abbrev pub seen_marks : Marks
  seen_marks = marks_in v.places

  abbrev pub processors : ℕ
  processors = h.image.processors

  pub lt : p < processors
  lt = subst (λ k. p < k) h.so.at.shows.processors within

  settles : Settles h.mode h.image h.so.left h.system h.machine p
  settles = settling h.mode h.image h.system h.machine v h.so p lt

  pub few_frames : (k : ℕ) → length (edges k seen_marks processors h.system p).1 ≤ 1
  few_frames k = subst (λ ks. length (edges k ks processors h.system p).1 ≤ 1) (sym h.so.at.marks) (settles.few k)

  pub edges_tell : EdgesTell seen_marks processors h.system p
  edges_tell = tell h.mode h.image h.system h.machine v h.so p lt

  pub can_step_after : (k : ℕ) (w : Parts) → Shows processors w (edges k seen_marks processors h.system p).0 → CanStep w p
  can_step_after k w shows =
      let after = settles.after k in
      let there : System = (edges k (marks_of h.mode h.image) processors h.system p).0 in
      let here : Shows processors w there = subst (λ ks. Shows processors w (edges k ks processors h.system p).0) h.so.at.marks shows in
      can_step h.mode h.image there h.machine (record { parts = w; places = v.places })
      (record { can = h.so.can; at = record { marks = h.so.at.marks; shows = here }; left = after.0; stands = after.1 }) p lt w here

  pub few_edges : (k : ℕ) → is_visible seen_marks (edges k seen_marks processors h.system p).0 p ≡ false → k + 1 ≤ 1023
  few_edges k e = hidden_few h.mode h.image h.system h.machine v h.so p lt k
      (subst (λ ks. is_visible ks (edges k ks processors h.system p).0 p ≡ false) h.so.at.marks e)

-- ---- one edge more

module _ (marks : Marks) (n p i j : ℕ) (s : System) (next : j ≡ suc i) (hidden : is_visible marks (edges i marks n s p).0 p ≡ false) where
  more : edges j marks n s p ≡ with_frames (edges i marks n s p).1 (concrete_step n (edges i marks n s p).0 p)
  more = ap (λ k. edges k marks n s p) next ∙ edges_more marks n p i s hidden

  pub more_shows : (v : Parts) → Shows n v (concrete_step n (edges i marks n s p).0 p).0 → Shows n v (edges j marks n s p).0
  more_shows v h = subst (λ (r : System × List FrameNote). Shows n v r.0) (sym more) h

  pub more_frames : (fs gs new : List FrameNote) → fs ≡ (edges i marks n s p).1 → new ≡ (concrete_step n (edges i marks n s p).0 p).1 → gs ≡ fs ++ new
      → gs ≡ (edges j marks n s p).1
  more_frames fs gs new a b c = c ∙ (λ k. a k ++ b k) ∙ sym (ap (λ (r : System × List FrameNote). r.1) more)
