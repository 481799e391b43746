-- A turn of the task: what both machines find, the relation behind it, and the turns that raise no event.
use Rattle.std.proofs.Common.{◌≡◌, ℕ, suc, ◌+◌, ◌-◌, ◌<◌, ◌≤◌, Bool, true, false, ◌&&◌, not, List, [], length, Option, Some, None, refl, inl, inr, ⊎_elim, sym, ap, ◌∙◌, subst, arith}
use Rattle.std.specs.List.{list_any}
use Rattle.std.proofs.lemmas.Bool.Decides.{eqb_tells}
use Rattle.std.specs.Prelude.{◌||◌, ◌++◌, if◌then◌else◌, nat_le, nat_lt}
use Rattle.ev_event.specs.Boundary.{interrupt_or_instruction}
use Rattle.ev_apic.specs.Apic.{next_vector}
use Rattle.ev_relation.proofs.Chains.{word_interrupts}
use Rattle.ev_relation.proofs.Vectors.{next_is}
use Rattle.ev_isa.specs.Word.{NatMap, put_at, NatSet}
use Rattle.ev_isa.specs.declared.mode.Mode.{Mode}
use Rattle.ev_body.specs.declared.image.Image.{Image}
use Rattle.ev_body.specs.WellFormed.{IsImage}
use Rattle.ev_effect.specs.Task.{Task}
use Rattle.ev_state.specs.Processor.{Processor, is_user}
use Rattle.ev_proc.specs.declared.stepped.Stepped.{Stepped}
use Rattle.ev_proc.specs.ProcessorStep.{After, step, ran, next_of, instruction_at}
use Rattle.ev_abstract.specs.Machine.{Machine, processor, with_processor, task, with_task, user_memory}
use Rattle.ev_abstract.specs.Machine as abstract
use Rattle.ev_law.specs.Bases.{HasBases}
use Rattle.ev_law.specs.Legal.{Legal}
use Rattle.ev_abstract.specs.Boundary.{is_nmi_body, choice, interrupt_or_next}
use Rattle.ev_abstract.specs.Context.{BodyContext}
use Rattle.ev_symbolic.specs.Agrees.{with_words}
use Rattle.ev_abstract.specs.UserCode.{Goes, user_step}
use Rattle.ev_abstract.specs.Run.{turn, task_step}
use Rattle.ev_concrete.specs.Opening.{tasks_of}
use Rattle.ev_concrete.specs.ConcreteRun.{System, marks_of, mark_at, is_visible, is_visible_by, is_seen, after_step, activations_by, is_return, is_repeated, without_last, Activation, starts_inner}
use Rattle.ev_built.specs.Built.{IsBuilt}
use Rattle.ev_concrete.specs.Depth.{is_in_repeat, bodies_on, is_jump}
use Rattle.ev_listing.specs.AddressMap.{nmi_entry, repeat_entry}
use Rattle.ev_user.specs.Tasks.{IsTask, task_processor, RunsTask}
use Rattle.ev_relation.specs.Nmi.{inner_edges}
use Rattle.ev_relation.specs.Named.{Named, Outside, Changes}
use Rattle.ev_user.specs.Sees.{IsUserWord, with_write}
use Rattle.ev_user.specs.Words.{HoldsWords}
use Rattle.ev_user.specs.Numbers.{AreOfWords, HoldsNumbers}
use Rattle.ev_user.proofs.KeepsNumbers.{put_numbers}
use Rattle.ev_user.specs.Claims.{Site, GoesOn}
use Rattle.ev_user.proofs.Follows.{user_goes_on}
use Rattle.ev_symbolic.proofs.Words.{put_other}
use Rattle.ev_activation.specs.Seat.{Seat}
use Rattle.ev_relation.specs.Domain.{IsInDomain}
use Rattle.ev_abstract.specs.declared.entry.Entry.{Entry}
use Rattle.ev_call_law.specs.Calls.{KeepsCallRecords}
use Rattle.ev_relation.specs.Filling.{Filling, is_filled, AreFree}
use Rattle.ev_relation.specs.Relation.{ApicIs, Chain, serves, StandsOn, Stands}
use Rattle.ev_relation.proofs.Maps.{at_same, at_other}
use Rattle.ev_relation.proofs.Standing.{vector_first, Moves, step_moves}
use Rattle.ev_relation.proofs.After.{AreSparing, word_names, word_spares, latch_parts, apic_again, own_after, left_behind, stands_after}
use Rattle.ev_relation.proofs.Domains.{four_tasks}
use Rattle.ev_relation.proofs.Legality.{turn_legal, turn_bases, turn_calls, turn_few}
use Rattle.ev_relation.proofs.Depth.{stands_depth}
use Rattle.ev_relation.proofs.Tells.{AtRest, at_rest}
use Rattle.ev_relation.proofs.Facts.{Facts}
use Rattle.ev_relation.proofs.UserState.{TurnsTo}
use Rattle.ev_task_steps.proofs.UserStep.{task_turns, task_choice}

module _ (mode : Mode) (image : Image) (formed : IsImage image) (built : IsBuilt image) (facts : Facts mode image) where
  -- the task that runs, and what it sees of memory, on both sides
  pub record AtUser (left : NatMap ℕ) (s : System) (m : Machine) (p : ℕ) : Type 0 where
    pub on : StandsOn mode image p (left p) s (processor m p)
    pub rest : AtRest mode image p (left p) s (processor m p) on
    pub domain : IsInDomain (processor m p)
    pub latch : s.latches p ≡ false
    pub open_to : (s.cpus p).nmi_blocked ≡ false
    pub at_cpl3 : is_user (s.cpus p) ≡ true
    pub next : next_of (s.cpus p) (s.apics p) (s.latches p) ≡ interrupt_or_instruction (next_vector (s.apics p))
    pub chosen : choice image (processor m p) ≡ interrupt_or_next (next_vector (s.apics p))
    pub not_inner : starts_inner s p (next_of (s.cpus p) (s.apics p) (s.latches p)) ≡ false
    pub seen : is_visible (marks_of mode image) s p ≡ true

  pub at_user : (left : NatMap ℕ) (s : System) (m : Machine) → Stands mode image left s m → (p : ℕ) → p < image.processors → (processor m p).bodies ≡ []
      → AtUser left s m p
  unfolding is_visible
  at_user left s m h p lt hb =
      let x : abstract.Processor = processor m p in
      let c : Processor = s.cpus p in
      let on : StandsOn mode image p (left p) s x = h.each p lt in
      let domain : IsInDomain x = h.domain p lt in
      let rest : AtRest mode image p (left p) s x on = at_rest mode image p (left p) s x on hb in
      let latches = latch_parts on.layer on.frame _ (s.latches p) c.nmi_blocked x.nmi on.latch in
      let latch : s.latches p ≡ false = sym latches.0 ∙ domain.nmi in
      let is_it : is_user c ≡ true = ap is_user rest.task.is in
      let next : next_of c (s.apics p) (s.latches p) ≡ interrupt_or_instruction (next_vector (s.apics p))
      = vector_first c (s.apics p) (s.latches p) latch (ap (λ (y : Processor). y.sti_blocked) rest.task.is)
      (word_interrupts c (task x).flags (ap (λ (y : Processor). y.flags) rest.task.is) ∙ rest.task.task.interrupts) in
      record {
        on = on;
        rest = rest;
        domain = domain;
        latch = latch;
        open_to = latches.1 ∙ ap (list_any (is_nmi_body image)) hb;
        at_cpl3 = is_it;
        next = next;
        chosen = task_choice image x domain.nmi hb ∙ ap interrupt_or_next (sym (next_is mode image (s.apics p) x on.apic (λ v e.
            ((h.legal.each p).pending.each v e).from)));
        not_inner = ap (starts_inner s p) next ∙ never_inner s p (next_vector (s.apics p));
        seen = ap (is_visible_by (marks_of mode image) s p c) next ∙ always_seen s p c is_it (next_vector (s.apics p));
      }
    where
      never_inner : (s : System) (p : ℕ) (o : Option ℕ) → starts_inner s p (interrupt_or_instruction o) ≡ false
      never_inner s p None = refl
      never_inner s p (Some v) = refl

      always_seen : (s : System) (p : ℕ) (c : Processor) → is_user c ≡ true → (o : Option ℕ)
          → is_visible_by (marks_of mode image) s p c (interrupt_or_instruction o) ≡ true
      always_seen s p c e None = ap (λ b. b || is_seen (mark_at (marks_of mode image) c.rip) s c) e
      always_seen s p c e (Some v) = refl

  -- no interrupt comes, so the task runs
  pub record AtInstruction (left : NatMap ℕ) (s : System) (m : Machine) (p : ℕ) : Type 0 where
    pub site : Site mode image p (processor m p).running (task (processor m p)) (user_memory image m) (s.cpus p) (s.apics p) s.memory (s.latches p)
    pub turns : turn image m p ≡ task_step image m p (user_step (user_memory image m) (task (processor m p)))

  pub at_instruction : (left : NatMap ℕ) (s : System) (m : Machine) → Stands mode image left s m → (p : ℕ) → (processor m p).bodies ≡ [] → AtUser left s m p
      → next_vector (s.apics p) ≡ None → AtInstruction left s m p
  at_instruction left s m h p hb u none = record {
    site = record {
      formed = formed;
      runs = u.rest.task;
      sees = record {
        regions_are = h.regions_are;
        text_is = refl;
        holds = facts.holds s.memory h.fixed;
        words = h.shares.user;
        held = h.shares.held;
        pages = h.shares.pages;
      };
      chosen = u.next ∙ ap interrupt_or_instruction none;
    };
    turns = task_turns image m p (u.chosen ∙ ap interrupt_or_next none) hb;
  }

  -- ---- the relation after a step of the task

  -- The task is another, and these bodies stand on it, of which the last one's activation was begun; all else is as it was.
  pub user_after : (left : NatMap ℕ) (s s' : System) (m : Machine) (p : ℕ) (lt : p < image.processors) (h : Stands mode image left s m)
      (u : AtUser left s m p) (cpu : Processor) (as' : List Activation) (words : NatMap ℕ) (t : Task) (fs : List (Option Filling)) (bs : List BodyContext)
      (set : NatSet)
      (own : ℕ) → (processor m p).bodies ≡ []
      → Moves p s s' cpu as' words → (names : List Named) → AreSparing p names
      → Changes p (record { stack = (processor m p).running; used = 0 }) names s.memory.words words
      → (memory : NatMap ℕ) → ((a : ℕ) → IsUserWord a → words a ≡ memory a) → HoldsWords memory
      → Legal image (with_processor (record m { words = memory }) p (record (with_task (processor m p) t) { bodies = bs; pending = set }))
      → HasBases image (with_processor (record m { words = memory }) p (record (with_task (processor m p) t) { bodies = bs; pending = set }))
      → (told : List Entry) → length told ≤ suc s.totals.steps → KeepsCallRecords image (with_processor (record m { words = memory }) p
      (record (with_task (processor m p) t) { bodies = bs; pending = set })) told
      → AreOfWords bs → IsTask t → cpu.nmi_blocked ≡ list_any (is_nmi_body image) bs
      → ApicIs mode image (s'.apics p) set bs → own ≤ 500 → AreFree (processor m p).records fs → ((k : ℕ) → is_filled k fs ≡ is_filled k [])
      → ((r : ℕ) → r ≡ (processor m p).running → Chain mode image p own (processor m p).running r t u.on.frame u.on.switching fs bs as' cpu
      (with_words s.memory words))
      → (StandsOn mode image p (own + inner_edges (s.latches p)) s' (record (with_task (processor m p) t) { bodies = bs; pending = set }))
      × Stands mode image (left_behind mode image p (own + inner_edges (s.latches p))) s'
      (with_processor (record m { words = memory }) p (record (with_task (processor m p) t) { bodies = bs; pending = set }))
  user_after left s s' m p lt h u cpu as' words t fs bs set own hb mv names sparing changes memory user held legal bases told few_told calls of_words good
      blocked apic few free filled chain =
      let x : abstract.Processor = processor m p in
      let y : abstract.Processor = record (with_task x t) { bodies = bs; pending = set } in
      let small : p < 32 = let eight = formed.count.1 in omega arith in
      let four = four_tasks image formed p lt in
      let narrow : x.running < 7 = let l = u.on.running in omega arith in
      let there : StandsOn mode image p (own + inner_edges (s.latches p)) s' y
      = own_after mode image p (left p) s s' x (record { stack = x.running; used = 0 }) cpu as' words (put_at x.tasks x.running t) fs bs own u.on small four
      mv
      (λ i d. inl (λ e. d (e ∙ sym u.rest.returning))) narrow names sparing changes (λ i d. others i (λ e. d (e ∙ sym u.rest.returning))) tasks blocked
      set apic free (λ k. filled k ∙ ap (is_filled k) (sym u.rest.fills)) (omega arith)
      (subst (λ k. Chain mode image p own x.running u.on.returning k u.on.frame u.on.switching fs bs as' cpu (with_words s.memory words))
      (sym (at_same x.tasks x.running u.on.returning t u.rest.returning)) (chain u.on.returning u.rest.returning)) in
      let inside : IsInDomain y = record {
        nmi = u.domain.nmi;
        mail_nmi = u.domain.mail_nmi;
      } in
      let has = h.numbers.each p in
      let numbers : HoldsNumbers (with_processor (record m { words = memory }) p y)
      = put_numbers (record m { words = memory }) p y (record { each = h.numbers.each; cells = h.numbers.cells })
      (record { bodies = of_words; slots = has.slots; arguments = has.arguments; queue = has.queue }) in (
        there,
        stands_after mode image left s s' m (with_processor (record m { words = memory }) p y) p (own + inner_edges (s.latches p)) y
            (record { stack = x.running; used = 0 }) cpu as'
            words
            formed built.accepted (four_tasks image formed) h lt mv narrow names sparing changes user held
            (record {
              own = at_same m.processors p p y refl;
              others = λ q e. at_other m.processors p q y e;
              present = refl;
              cells = refl;
              mail = refl;
              mail_nmi = refl;
              records = refl;
              queue = refl;
            }) legal bases numbers told few_told calls inside there,
      )
    where
      others : (i : ℕ) → (i ≡ (processor m p).running → ⊥) → put_at (processor m p).tasks (processor m p).running t i ≡ (processor m p).tasks i
      others i d = ⊎_elim (λ e. absurd (d e.1)) (λ e. at_other (processor m p).tasks (processor m p).running i t e.0) (eqb_tells i (processor m p).running)

      tasks : (i : ℕ) → i < length (tasks_of image p) → IsTask (put_at (processor m p).tasks (processor m p).running t i)
      tasks i l = ⊎_elim (λ e. subst IsTask (sym (at_same (processor m p).tasks (processor m p).running i t e.1)) good)
          (λ e. subst IsTask (sym (at_other (processor m p).tasks (processor m p).running i t e.0)) (u.on.tasks i l)) (eqb_tells i (processor m p).running)

  -- a step of user code leaves the activations
  same_activations : (s : System) (p : ℕ) (as' : List Activation) (d : Processor) → is_user (s.cpus p) ≡ true → activations_by s p as' d Stepped.Ran ≡ as'
  same_activations s p as' d h =
      ap (λ u. if is_return (instruction_at s.memory.words (s.cpus p).rip) && not u && not (is_repeated (s.cpus p) d) then without_last as' else as') h
      ∙ pick (is_return (instruction_at s.memory.words (s.cpus p).rip)) (not (is_repeated (s.cpus p) d))
    where
      pick : (a b : Bool) → (if a && false && b then without_last as' else as') ≡ as'
      pick true b = refl
      pick false b = refl

  -- and the number of bodies
  user_leaves : (a b d e user : Bool) (n : ℕ) → user ≡ true
      → (if a && not user && not b then n - 1 else (if d && not user && e then suc n else n)) ≡ n
  user_leaves a b d e user n h = ap (λ u. if a && not u && not b then n - 1 else (if d && not u && e then suc n else n)) h ∙ pick a d
    where
      pick : (a d : Bool) → (if a && false && not b then n - 1 else (if d && false && e then suc n else n)) ≡ n
      pick true true = refl
      pick true false = refl
      pick false true = refl
      pick false false = refl

  -- where user code goes on: it writes one word of a data page, or none
  writes : (p : ℕ) (σ : Seat) (w : Option (ℕ × ℕ)) (m : NatMap ℕ) → Changes p σ (word_names w) m (with_write m w)
  writes p σ None m a off d = refl
  writes p σ (Some w) m a off d = put_other m w.0 w.1 a (apart d.0)
    where
      apart : Outside w.0 (w.0 + 8) a → a ≡ w.0 → ⊥
      apart (inl l) q = omega arith
      apart (inr l) q = omega arith

  pub goes_turn : (left : NatMap ℕ) (s : System) (m : Machine) → Stands mode image left s m → (p : ℕ) → p < image.processors → (processor m p).bodies ≡ []
      → (u : AtUser left s m p) → AtInstruction left s m p → (t : Task) (memory : NatMap ℕ)
      → user_step (user_memory image m) (task (processor m p)) ≡ Goes t memory
      → TurnsTo mode image left s m p
  goes_turn left s m h p lt hb u i t memory goes =
      let x : abstract.Processor = processor m p in
      let c : Processor = s.cpus p in
      let g : GoesOn mode image p x.running (task x) (user_memory image m) c (s.apics p) s.memory (s.latches p) t memory
      (step c (s.apics p) s.memory (s.latches p))
      = user_goes_on mode image p x.running (task x) (user_memory image m) c (s.apics p) s.memory (s.latches p) i.site t memory goes in
      let d : Processor = task_processor mode image p x.running t c.cr2 c.nmi_blocked in
      let words : NatMap ℕ = with_write s.memory.words g.write in
      let r : After = ran d (s.apics p) words (s.latches p) in
      let s' : System = after_step s p r in
      let as' : List Activation = activations_by s p (s.activations p) d Stepped.Ran in
      let none : as' ≡ [] = same_activations s p (s.activations p) d u.at_cpl3 ∙ u.rest.none in
      let mv : Moves p s s' d as' words = step_moves s p r refl in
      let same : record (with_task x t) { bodies = [] } ≡ with_task x t = ap (λ (bs : List BodyContext). record (with_task x t) { bodies = bs }) (sym hb) in
      let turned : turn image m p ≡ (with_processor (record m { words = memory }) p (record (with_task x t) { bodies = [] }), [])
      = i.turns ∙ ap (task_step image m p) goes ∙ ap (λ z. (with_processor (record m { words = memory }) p z, [])) (sym same) in
      let after = user_after left s s' m p lt h u d as' words t [] [] x.pending 0 hb mv (word_names g.write) (word_spares p m.present g.write g.place)
      (writes p (record { stack = x.running; used = 0 }) g.write s.memory.words) memory g.sees.words g.sees.held
      (turn_legal image formed built.accepted m p lt h.legal (with_processor (record m { words = memory }) p (record (with_task x t) { bodies = [] }), [])
      turned)
      (turn_bases image m p h.bases (with_processor (record m { words = memory }) p (record (with_task x t) { bodies = [] }), []) turned)
      (h.told ++ []) (turn_few image formed built.accepted m p lt h.legal h.told h.calls s.totals.steps h.few
      (with_processor (record m { words = memory }) p (record (with_task x t) { bodies = [] }), []) turned)
      (turn_calls image formed built.accepted m p lt h.legal h.told h.calls
      (with_processor (record m { words = memory }) p (record (with_task x t) { bodies = [] }), []) turned)
      tt g.runs.task u.open_to
      (apic_again mode image (s.apics p) _ x.pending x.bodies [] (at_same s.apics p p (s.apics p) refl)
      (λ class. sym (ap (list_any (λ (b : BodyContext). serves mode image class b.service)) hb)) u.on.apic)
      (omega arith) tt (λ k. refl)
      (λ r e. (subst (λ z. RunsTask mode image p z t d) (sym e) g.runs, u.rest.still, none, refl)) in
      record {
        after = r;
        steps = g.step_is;
        machine = with_processor (record m { words = memory }) p (with_task x t);
        entries = [];
        turns = i.turns ∙ ap (task_step image m p) goes;
        seen = u.seen;
        now_left = 0 + inner_edges (s.latches p);
        stands = subst (λ z. Stands mode image (left_behind mode image p (0 + inner_edges (s.latches p))) s'
            (with_processor (record m { words = memory }) p z)) same
            after.1;
        shows = λ told. ap (λ b. if b then [] else told) u.at_cpl3;
        counts = stands_depth mode image facts p _ s' _ after.0 ∙ sym (stands_depth mode image facts p (left p) s x u.on ∙ ap length hb)
            ∙ sym (user_leaves (is_return (instruction_at s.memory.words c.rip)) (nat_le nmi_entry c.rip && nat_lt c.rip repeat_entry)
            (is_jump (instruction_at s.memory.words c.rip)) (is_in_repeat c.rip) (is_user c) (bodies_on s p) u.at_cpl3);
        safe = refl;
      }
