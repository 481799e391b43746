-- A step of user code: the processor's is the task's, or the delivery of what the task raises.
use Rattle.std.proofs.Common.{◌≡◌, ℕ, ◌+◌, ◌-◌, ◌*◌, ◌/◌, ◌^◌, ◌<◌, ◌≤◌, Bool, true, false, length, get_or, Option, Some, None, Result, Ok, Err, refl, sym, ap, ◌∙◌, subst, arith}
use Rattle.std.specs.Prelude.{◌==◌, ◌||◌, if◌then◌else◌}
use Rattle.std.proofs.lemmas.Bool.{eq-eqb, eqb-true, eqb-false}
use Rattle.ev_isa.specs.Word.{is_canonical}
use Rattle.ev_isa.specs.Flags.{Flags}
use Rattle.ev_isa.specs.Pages.{UserMemory, fault_at, place_of}
use Rattle.ev_isa.specs.Instruction.{user_may}
use Rattle.ev_isa.specs.Spelling.{spelling}
use Rattle.ev_isa.specs.Reading.{reading}
use Rattle.ev_isa.specs.declared.instruction.Ins.{Ins}
use Rattle.ev_isa.specs.declared.instruction.Ins.TheVariants.{IntN, Int3, Int1, Syscall, Sti, Cli, Ud2, Sysretq, Iretq, Swapgs, Eretu, Erets, Lkgs, MovGs, ReadCr2, WriteCr2, Rdmsr, Wrmsr}
use Rattle.ev_isa.specs.declared.mode.Mode.{Mode}
use Rattle.ev_event.specs.declared.event.Event.{Event}
use Rattle.ev_event.specs.declared.boundary.Next.TheVariants.{Instruction}
use Rattle.ev_event.specs.declared.event.EventType.TheVariants.{SoftInt}
use Rattle.ev_event.specs.Event.{gp, software}
use Rattle.ev_body.specs.declared.image.Image.{Image}
use Rattle.ev_body.specs.WellFormed.{IsImage}
use Rattle.ev_effect.specs.Task.{Task}
use Rattle.ev_effect.specs.Effect.{Changed, effect}
use Rattle.ev_state.specs.Processor.{Processor, task_of, with_effect}
use Rattle.ev_state.proofs.FlagLaws.{flags_of-flags_word}
use Rattle.ev_apic.specs.declared.apic.Apic.{Apic}
use Rattle.ev_mem.specs.Memory.{Memory, view}
use Rattle.ev_exec.specs.Exec.{exec, changed, completed}
use Rattle.ev_proc.specs.ProcessorStep.{After, step, step_by, fetched, executed, after_exec, special, fault, ran, delivering, next_of}
use Rattle.ev_code.specs.Coding.{FieldsFit}
use Rattle.ev_code.proofs.Spelled.{spelling_length}
use Rattle.ev_abstract.specs.UserCode.{UserStep, Goes, Raises, step_of, user_step, fetch_step, read_step, user_view, text_bytes}
use Rattle.ev_abstract.specs.UserCode as user
use Rattle.ev_fetch.proofs.Regions.{all_small}
use Rattle.ev_user.specs.Tasks.{IsTask, task_processor}
use Rattle.ev_user.specs.Words.{HoldsWords}
use Rattle.ev_user.specs.Sees.{Sees, with_write}
use Rattle.ev_user.specs.Causes.{Fault, Undefined, Protection, Page, Faulted, Debug, Breakpoint, Three, Refused, Call, IsCause, fault_event}
use Rattle.ev_user.specs.Claims.{Site, GoesOn, Raised, UserGoesOn, UserRaises}
use Rattle.ev_user.proofs.Places.{pages_fault_alike}
use Rattle.ev_user.proofs.Zero.{vector_byte}
use Rattle.ev_user.proofs.Fetch.{InText, fetched_in_text, reads_alike, byte_small}
use Rattle.ev_user.proofs.Alike.{Keeps, Did, Alike, effects}
use Rattle.ev_user.proofs.Words.{KeepsWords, keeps, fields_fit}
use Rattle.ev_user.proofs.Writes.{small_code, views_alike, is_write, others_stay, sees_again}

pub low_canonical : (a : ℕ) → a < 2 ^ 47 → is_canonical a ≡ true
low_canonical a h = ap (λ b. b || (a / 2 ^ 47 == 2 ^ 17 - 1)) (eq-eqb (a / 2 ^ 47) 0 (let e : a / 140737488355328 ≡ 0 = omega arith in e))

-- a fault has no length
no_length : (f : Fault) → (fault_event f).length ≡ 0
no_length Undefined = refl
no_length Fault.Stack = refl
no_length Protection = refl
no_length (Page code address) = refl
no_length Fault.Alignment = refl

module _ (mode : Mode) (image : Image) (p r : ℕ) (t : Task) (u : UserMemory) (cr2 : ℕ) (blocked : Bool) (a : Apic) (m : Memory) (nmi : Bool)
    (formed : IsImage image) (is_task : IsTask t) (sees : Sees image u m) where
  abbrev cpu : Task → Processor
  cpu x = task_processor mode image p r x cr2 blocked

  abbrev c : Processor
  c = cpu t

  -- what the step s is, by what the task does
  abbrev Follows : UserStep → After → Type 0
  Follows (Goes t' words) s = GoesOn mode image p r t u c a m nmi t' words s
  Follows (Raises saved e) s = Raised t c a m nmi saved e s

  -- a fault at RIP
  faulted : (f : Fault) → IsCause (Faulted f) → Follows (Raises t.rip (fault_event f)) (fault c a m nmi (fault_event f))
  faulted f h =
      let at_rip : t.rip ≡ t.rip + (fault_event f).length = omega (arith, no_length f) in
      record {
        cause = Faulted f;
        is = h;
        event = refl;
        saved_is = at_rip;
        own = refl;
        canonical = is_task.canonical;
        behind = λ e. let z : ⊥ = omega (arith, e, no_length f) in absurd z;
        step_is = ap (delivering c a m nmi (fault_event f)) at_rip;
      }

  -- the processor after an effect is that of the task after it
  processor_after : (x : Task) → x.gs ≡ t.gs → with_effect (completed c) x ≡ cpu x
  processor_after x h = ap (λ g. cpu (record x { gs = g })) (sym h)

  task_at : (next : ℕ) → record (task_of c) { rip = next } ≡ record t { rip = next }
  task_at next = ap (λ (f : Flags). record t { rip = next; flags = f }) (flags_of-flags_word t.flags)

  -- a plain instruction, whose effect is the same over both views
  plain : (i j : Ins) (next : ℕ) → is_canonical next ≡ true → FieldsFit i
      → Follows (step_of t (effect (user_view u) (record t { rip = next }) i))
      (after_exec c a m nmi next j (changed c (effect (view m true) (record (task_of c) { rip = next }) i)))
  unfolding KeepsWords
  plain i j next h fit =
      subst (λ (x : Task). Follows (step_of t (effect (user_view u) at i)) (after_exec c a m nmi next j (changed c (effect (view m true) x i))))
      (sym (task_at next))
      (pick (effect (user_view u) at i) (effect (view m true) at i) (effects (user_view u) (view m true) (views_alike image u m formed sees) at i)
      (keeps (user_view u) at is_task.words sees.held i fit))
    where
      at : Task
      at = record t { rip = next }

      did : (x y : Changed) → Did (user_view u) (view m true) (views_alike image u m formed sees) at x y → KeepsWords (Ok x)
          → Follows (Goes x.0 x.1) (ran (with_effect (completed c) y.0) a y.1 nmi)
      did x y d w =
          let place = is_write u d.write d.open_to in
          let k : Keeps at x.0 = d.keeps in record {
            write = d.write;
            words_are = d.left;
            place = place;
            step_is = ap (λ (z : Task). ran (with_effect (completed c) z) a y.1 nmi) (sym d.task) ∙ ap (λ z. ran z a y.1 nmi) (processor_after x.0 k.gs)
                ∙ ap (λ ws. ran (cpu x.0) a ws nmi) d.right;
            runs = record {
              is = refl;
              task = record { long = k.long ∙ is_task.long; canonical = k.canonical h; interrupts = k.interrupts ∙ is_task.interrupts; words = w.0 };
            };
            gs = k.gs;
            sees = subst (λ ws. Sees image (record u { words = ws }) (record m { words = with_write m.words d.write })) (sym d.left)
                (sees_again image u m d.write sees place (subst HoldsWords d.left w.1));
            others = others_stay u.present m.words d.write place;
          }

      pick : (x y : Result Changed Event) → Alike (user_view u) (view m true) (views_alike image u m formed sees) at x y → KeepsWords x
          → Follows (step_of t x) (after_exec c a m nmi next j (changed c y))
      pick (Ok x) (Ok y) d w = did x y d w
      pick (Err e) (Err f) d w =
          subst (λ (g : Event). Follows (Raises t.rip e) (fault c a m nmi g)) d.same
          (subst (λ (g : Event). Follows (Raises t.rip g) (fault c a m nmi g)) (sym d.event) (faulted d.fault d.is))
      pick (Ok x) (Err f) d w = absurd d
      pick (Err e) (Ok y) d w = absurd d

  -- INT n: the processor's own event has its vector
  numbered : (n : ℕ) → n < 2 ^ 8 → is_canonical (t.rip + length (spelling (IntN n))) ≡ true → t.rip + 2 < 2 ^ 64
      → Follows (user.executed (user_view u) t (t.rip + length (spelling (IntN n))) (IntN n))
      (delivering c a m nmi (software SoftInt n 2) (t.rip + length (spelling (IntN n))))
  unfolding user.executed spelling
  numbered n small next short = pick (n == 3) refl
    where
      pick : (b : Bool) → (n == 3) ≡ b → Follows (if b then Raises (t.rip + 2) (software SoftInt 3 2) else Raises t.rip (gp (8 * n + 2)))
          (delivering c a m nmi (software SoftInt n 2) (t.rip + 2))
      pick true q = record {
        cause = Three;
        is = tt;
        event = refl;
        saved_is = refl;
        own = refl;
        canonical = next;
        behind = λ e. short;
        step_is = ap (λ k. delivering c a m nmi (software SoftInt k 2) (t.rip + 2)) (eqb-true n 3 q);
      }
      pick false q = record {
        cause = Refused n;
        is = (small, eqb-false n 3 q);
        event = refl;
        saved_is = omega arith;
        own = refl;
        canonical = is_task.canonical;
        behind = λ e. short;
        step_is = refl;
      }

  -- every instruction
  instruction : (i : Ins) → ((n : ℕ) → i ≡ IntN n → n < 2 ^ 8) → is_canonical (t.rip + length (spelling i)) ≡ true → t.rip + 2 < 2 ^ 64 → FieldsFit i
      → Follows (user.executed (user_view u) t (t.rip + length (spelling i)) i)
      (executed c a m nmi (Some i))
  unfolding user.executed exec special user_may spelling
  instruction Int1 n h short fit = record {
    cause = Debug;
    is = tt;
    event = refl;
    saved_is = refl;
    own = refl;
    canonical = h;
    behind = λ e. short;
    step_is = refl;
  }
  instruction Int3 n h short fit = record {
    cause = Breakpoint;
    is = tt;
    event = refl;
    saved_is = refl;
    own = refl;
    canonical = h;
    behind = λ e. short;
    step_is = refl;
  }
  instruction Syscall n h short fit = record {
    cause = Call;
    is = tt;
    event = refl;
    saved_is = refl;
    own = refl;
    canonical = h;
    behind = λ e. short;
    step_is = refl;
  }
  instruction (IntN k) n h short fit = numbered k (n k refl) h short
  instruction Sti n h short fit = faulted Protection tt
  instruction Cli n h short fit = faulted Protection tt
  instruction Ud2 n h short fit = faulted Undefined tt
  instruction Sysretq n h short fit = faulted Undefined tt
  instruction Iretq n h short fit = faulted Undefined tt
  instruction Swapgs n h short fit = faulted Undefined tt
  instruction Eretu n h short fit = faulted Undefined tt
  instruction Erets n h short fit = faulted Undefined tt
  instruction (Lkgs s) n h short fit = faulted Undefined tt
  instruction (MovGs s) n h short fit = faulted Undefined tt
  instruction (ReadCr2 d) n h short fit = faulted Undefined tt
  instruction (WriteCr2 s) n h short fit = faulted Undefined tt
  instruction Rdmsr n h short fit = faulted Undefined tt
  instruction Wrmsr n h short fit = faulted Undefined tt
  instruction i n h short fit = plain i i (t.rip + length (spelling i)) h fit

  -- what was read at RIP
  by_read : InText t.rip → (o : Option Ins) → reading (text_bytes u.text t.rip) ≡ o → Follows (read_step (user_view u) t o) (executed c a m nmi o)
  by_read text None q = faulted Undefined tt
  by_read text (Some i) q =
      let hi : t.rip < 0x410000 = text.to in
      instruction i
      (λ n e. let byte : n ≡ get_or (text_bytes image.text t.rip) 1 0 = vector_byte (text_bytes u.text t.rip) n (q ∙ ap Some e)
      ∙ ap (λ bytes. get_or (text_bytes bytes t.rip) 1 0) sees.text_is in
      let small = byte_small image.text t.rip 1 (all_small image.text formed.text_bytes) in omega arith)
      (low_canonical (t.rip + length (spelling i)) (let l : length (spelling i) ≤ 15 = spelling_length i in omega arith))
      (let e : t.rip + 2 < 2 ^ 64 = omega arith in e)
      (fields_fit u t (λ k. subst (λ bytes. get_or bytes k 0 < 256) (sym sees.text_is) (all_small image.text formed.text_bytes k)) i q)

  by_fetch : (o : Option ℕ) → fault_at u.present (record { user = true; write = false; fetch = true }) (place_of t.rip) ≡ o
      → Follows (fetch_step u t o) (fetched c a m nmi o)
  by_fetch None q =
      subst (λ i. Follows (read_step (user_view u) t (reading (text_bytes u.text t.rip))) (executed c a m nmi i))
      (sym (reads_alike image u m formed sees t.rip q))
      (by_read (fetched_in_text u.present t.rip q) (reading (text_bytes u.text t.rip)) refl)
  by_fetch (Some code) q =
      faulted (Page code t.rip) (small_code u.present (record { user = true; write = false; fetch = true }) (place_of t.rip) code q, is_task.canonical)

  -- a step, where the boundary chooses the instruction
  pub follows : next_of c a nmi ≡ Instruction → Follows (user_step u t) (step c a m nmi)
  unfolding step user_step
  follows chosen =
      subst (Follows (user_step u t))
      (sym (ap (step_by c a m nmi) chosen ∙ ap (fetched c a m nmi) (pages_fault_alike image u m formed sees false true t.rip)))
      (by_fetch (fault_at u.present (record { user = true; write = false; fetch = true }) (place_of t.rip)) refl)

-- ---- any processor that runs the task

module _ (mode : Mode) (image : Image) (p r : ℕ) (t : Task) (u : UserMemory) (c : Processor) (a : Apic) (m : Memory) (nmi : Bool)
    (site : Site mode image p r t u c a m nmi) where
  abbrev same : Processor
  same = task_processor mode image p r t c.cr2 c.nmi_blocked

  all_steps : (x : UserStep) → user_step u t ≡ x
      → Follows mode image p r t u c.cr2 c.nmi_blocked a m nmi site.formed site.runs.task site.sees x (step same a m nmi)
  all_steps x h =
      subst (λ y. Follows mode image p r t u c.cr2 c.nmi_blocked a m nmi site.formed site.runs.task site.sees y (step same a m nmi)) h
      (follows mode image p r t u c.cr2 c.nmi_blocked a m nmi site.formed site.runs.task site.sees
      (ap (λ z. next_of z a nmi) (sym site.runs.is) ∙ site.chosen))

pub user_goes_on : UserGoesOn
user_goes_on mode image p r t u c a m nmi site t' words h =
    subst (λ z. GoesOn mode image p r t u z a m nmi t' words (step z a m nmi)) (sym site.runs.is)
    (all_steps mode image p r t u c a m nmi site (Goes t' words) h)

pub user_raises : UserRaises
user_raises mode image p r t u c a m nmi site saved e h =
    subst (λ z. Raised t z a m nmi saved e (step z a m nmi)) (sym site.runs.is)
    (all_steps mode image p r t u c a m nmi site (Raises saved e) h)
