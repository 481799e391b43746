-- A step of a processor leads from parts that show a system to parts that show the next one.
use Rattle.std.proofs.Common.{◌≡◌, ℕ, ◌<◌, List, set, get_or, length, Option, Some, ap, refl, sym, ◌∙◌, ◌||◌, subst, ⊎_elim}
use Rattle.std.specs.Prelude.{filter, slice_get}
use Rattle.std.proofs.lemmas.Option.{slice_get_read}
use Rattle.std.proofs.lemmas.Bool.Decides.{eqb_tells}
use Rattle.ev_isa.specs.Word.{put_at}
use Rattle.ev_isa.specs.declared.instruction.Ins.{Ins}
use Rattle.ev_event.specs.declared.boundary.Next.{Next}
use Rattle.ev_listing.specs.Marks.{Mark, Never, Always, IfNonzero, IfEqual}
use Rattle.ev_state.specs.Processor.{Processor, is_user}
use Rattle.ev_mem.specs.Memory.{Memory}
use Rattle.ev_mem.specs.Mapped.{memory}
use Rattle.ev_proc.specs.ProcessorStep.{After, has_fred, step, next_of, instruction_at}
use Rattle.ev_proc.specs.Conditions.{HasEntries, IsInCode}
use Rattle.ev_concrete.specs.ConcreteRun.{System, Marks, is_visible, is_visible_by, is_seen, mark_at, after_step, concrete_step, activations_by, interrupted, starts_inner}
use Rattle.ev_concrete.specs.Depth.{has_body, bodies_on, ends_body, begins_body, bodies_after, told_bodies}
use Rattle.ev_concrete.specs.Shown.{shown, shown_by, told_at}
use Rattle.ev_core.specs.Local.{optional, still, counted, after_act, frame_by}
use Rattle.ev_core.specs.Step.{LocalStep, local_after}
use Rattle.ev_core.specs.State.{Parts, Shows, TellsBodies, CanStep, local_of}
use Rattle.ev_core.specs.declared.local.Local.{Local}
use Rattle.ev_core.specs.declared.local.Made.{Made}
use Rattle.ev_core.proofs.Acts.{put_same, put_other, put_shown, own_after, acted_bodies, rest_after, totals_after, frames_after}

-- a step of what p has in a system
pub moved : (mark : Mark) (p : ℕ) (s : System) (c : Processor) (l : Local) (m : Memory) (c' : Processor) (l' : Local) (m' : Memory) (made : Made)
    → c ≡ s.cpus p → l ≡ local_of s p → m ≡ s.memory → LocalStep mark p c l m c' l' m' made → LocalStep mark p (s.cpus p) (local_of s p) s.memory c' l' m' made
moved mark p s c l m c' l' m' made e f g h =
    subst (λ x. LocalStep mark p (s.cpus p) (local_of s p) x c' l' m' made) g
    (subst (λ x. LocalStep mark p (s.cpus p) x m c' l' m' made) f
    (subst (λ x. LocalStep mark p x l m c' l' m' made) e h))

module _ (n p : ℕ) (s : System) where
  abbrev pub next : After
  next = step (s.cpus p) (s.apics p) s.memory (s.latches p)

  -- what p has tells whether an inner NMI begins
  inner_there : (x : Next) → starts_inner (still (s.cpus p) (local_of s p) s.memory) p x ≡ starts_inner s p x
  inner_there Next.Nmi = refl
  inner_there (Next.Interrupt v) = refl
  inner_there Next.Debug = refl
  inner_there Next.Instruction = refl

  -- the number of bodies is what the step tells
  depth_there : TellsBodies n s p → (local_after p (s.cpus p) (local_of s p) s.memory next).depth ≡ bodies_on (after_step s p next) p
  unfolding concrete_step told_bodies
  depth_there tells =
      let i : Option Ins = instruction_at s.memory.words (s.cpus p).rip in
      ap (λ b. bodies_after (bodies_on s p) b (ends_body (s.cpus p) i) (begins_body (s.cpus p) i) next.step)
      (inner_there (next_of (s.cpus p) (s.apics p) (s.latches p)))
      ∙ sym tells ∙ acted_bodies n p p next.step (after_step s p next)

  pub own_there : TellsBodies n s p → (q : ℕ)
      → put_at (local_of s) p (local_after p (s.cpus p) (local_of s p) s.memory next) q ≡ local_of (after_step s p next) q
  own_there tells q =
      ⊎_elim
      (λ e. subst (λ x. put_at (local_of s) p (local_after p (s.cpus p) (local_of s p) s.memory next) x ≡ local_of (after_step s p next) x) (sym e.1) here)
      (λ e. there e.1) (eqb_tells q p)
    where
      here : put_at (local_of s) p (local_after p (s.cpus p) (local_of s p) s.memory next) p ≡ local_of (after_step s p next) p
      here = put_same (local_of s) p _
          ∙ (λ i. record {
            apic = sym (put_same s.apics p next.apic) i;
            latch = sym (put_same s.latches p next.nmi) i;
            inbox = s.inboxes p;
            depth = depth_there tells i;
          })

      there : (q ≡ p → ⊥) → put_at (local_of s) p (local_after p (s.cpus p) (local_of s p) s.memory next) q ≡ local_of (after_step s p next) q
      there d = put_other (local_of s) p _ q d
          ∙ (λ i. record {
            apic = sym (put_other s.apics p next.apic q d) i;
            latch = sym (put_other s.latches p next.nmi q d) i;
            inbox = s.inboxes q;
            depth = length (filter has_body (interrupted (sym (put_other s.cpus p next.cpu q d) i)
                (sym (put_other s.activations p (activations_by s p (s.activations p) next.cpu next.step) q d) i)));
          })

  -- the parts after the step
  pub stepped_shows : (mark : Mark) (v w : Parts) (c' : Processor) (l' : Local) (m' : Memory) (made : Made) → Shows n v s
      → TellsBodies n s p → p < n → length v.locals ≡ n
      → LocalStep mark p (s.cpus p) (local_of s p) s.memory c' l' m' made
      → w.cpus ≡ set v.cpus p c'
      → ((q : ℕ) (x : Local) → slice_get (set v.locals p l') q ≡ Some x → slice_get w.locals q ≡ Some (after_act made.stepped p q x))
      → length w.cpus ≡ n → memory w.mem ≡ m' → w.totals ≡ counted v.totals made.stepped → Shows n w (concrete_step n s p).0
  unfolding concrete_step
  stepped_shows mark v w c' l' m' made h tells lt same is cpus locals len mem totals = record {
    processors = len;
    cpu = λ q b. subst (λ xs. slice_get xs q ≡ Some (put_at s.cpus p next.cpu q)) (sym (cpus ∙ ap (set v.cpus p) is.cpu))
        (put_shown v.cpus s.cpus n p next.cpu (subst (λ k. p < k) (sym h.processors) lt) h.cpu q b)
        ∙ ap (λ f. Some (f q)) (sym (rest_after n p next.step (after_step s p next)).0);
    own = λ q b. locals q _ (put_shown v.locals (local_of s) n p l' (subst (λ k. p < k) (sym same) lt) h.own q b)
        ∙ ap (λ x. Some (after_act made.stepped p q (put_at (local_of s) p x q))) is.own
        ∙ ap (λ st. Some (after_act st p q (put_at (local_of s) p (local_after p (s.cpus p) (local_of s p) s.memory next) q))) is.step
        ∙ ap (λ x. Some (after_act next.step p q x)) (own_there tells q)
        ∙ ap (λ x. Some x) (sym (own_after n p q next.step (after_step s p next) b));
    memory = mem ∙ is.memory ∙ sym (rest_after n p next.step (after_step s p next)).1;
    totals = totals ∙ ap (λ st. counted v.totals st) is.step ∙ ap (λ t. counted t next.step) h.totals
        ∙ sym (totals_after n p next.step (after_step s p next) s refl);
  }

  pub stepped_frame : (mark : Mark) (c' : Processor) (l' : Local) (m' : Memory) (made : Made)
      → LocalStep mark p (s.cpus p) (local_of s p) s.memory c' l' m' made → frame_by c' m'.words made.stepped ≡ (concrete_step n s p).1
  unfolding concrete_step
  stepped_frame mark c' l' m' made is =
      ap (λ c. frame_by c m'.words made.stepped) (is.cpu ∙ sym (put_same s.cpus p next.cpu))
      ∙ ap (λ m. frame_by (put_at s.cpus p next.cpu p) m.words made.stepped) is.memory
      ∙ ap (λ st. frame_by (put_at s.cpus p next.cpu p) next.words st) is.step ∙ frames_after n p next.step (after_step s p next)

  pub stepped_entry : (marks : Marks) (mark : Mark) (rip : ℕ) (c' : Processor) (l' : Local) (m' : Memory) (made : Made)
      → mark ≡ mark_at marks rip → rip ≡ (s.cpus p).rip
      → LocalStep mark p (s.cpus p) (local_of s p) s.memory c' l' m' made → optional made.entry ≡ shown marks s p
  unfolding shown
  stepped_entry marks mark rip c' l' m' made at here is =
      is.entry
      ∙ ap (λ k. shown_by p (bodies_on s p) (is_user (s.cpus p)) (has_fred (s.cpus p)) (told_at k s p) next.cpu next.words next.step)
      (at ∙ ap (mark_at marks) here)

-- ---- what the code reads

pub same_value : {X : Type 0} (a b : X) → Some a ≡ Some b → a ≡ b
same_value a b e = cc

pub read_is : {X : Type 0} (xs : List X) (m : ℕ → X) (n k : ℕ) (x : X) → k < length xs → k < n → x ≡ get_or xs k x
    → ((i : ℕ) → i < n → slice_get xs i ≡ Some (m i)) → x ≡ m k
read_is xs m n k x lt ltn e each = same_value x (m k) (sym (slice_get_read xs (length xs) k x refl lt e) ∙ each k ltn)

-- the processor that is read is the system's
pub read_cpu : (v w : Parts) (n p : ℕ) (s : System) (c : Processor) → v ≡ w → Shows n w s → p < length w.cpus → c ≡ get_or v.cpus p c → c ≡ s.cpus p
read_cpu v w n p s c is h lt e =
    let hv : Shows n v s = subst (λ y. Shows n y s) (sym is) h in
    let lc : p < length v.cpus = subst (λ y. p < length y.cpus) (sym is) lt in
    read_is v.cpus s.cpus n p c lc (subst (λ k. p < k) hv.processors lc) e hv.cpu

-- what belongs to the processor that is read
pub read_local : (v w : Parts) (n p : ℕ) (s : System) (l : Local) → v ≡ w → Shows n w s → length v.locals ≡ length v.cpus → p < length w.cpus
    → l ≡ get_or v.locals p l → l ≡ local_of s p
read_local v w n p s l is h same lt e =
    let hv : Shows n v s = subst (λ y. Shows n y s) (sym is) h in
    let lc : p < length v.cpus = subst (λ y. p < length y.cpus) (sym is) lt in
    read_is v.locals (local_of s) n p l (subst (λ k. p < k) (sym same) lc) (subst (λ k. p < k) hv.processors lc) e hv.own

-- what a step asks, of the parts v that are seen as w
pub can_enter : (v w : Parts) (p : ℕ) (x : Processor) → v ≡ w → p < length w.cpus → CanStep w p → x ≡ get_or v.cpus p x
    → HasEntries x (memory v.mem) × IsInCode x (memory v.mem)
can_enter v w p x is lt can e =
    let c : CanStep v p = subst (λ y. CanStep y p) (sym is) can in
    let g : slice_get v.cpus p ≡ Some x = slice_get_read v.cpus (length v.cpus) p x refl (subst (λ y. p < length y.cpus) (sym is) lt) e in
    (c.entries x g, c.in_code x g)

pub can_deepen : (v w : Parts) (p : ℕ) (x : Local) → v ≡ w → length v.locals ≡ length v.cpus → p < length w.cpus → CanStep w p → x ≡ get_or v.locals p x
    → x.depth < 255
can_deepen v w p x is same lt can e =
    let c : CanStep v p = subst (λ y. CanStep y p) (sym is) can in
    c.depth x (slice_get_read v.locals (length v.locals) p x refl (subst (λ k. p < k) (sym same) (subst (λ y. p < length y.cpus) (sym is) lt)) e)

pub moved_step : (mark : Mark) (v w : Parts) (n p : ℕ) (s : System) (c : Processor) (l : Local) (c' : Processor) (l' : Local) (m' : Memory) (made : Made)
    → v ≡ w → Shows n w s → length v.locals ≡ length v.cpus → p < length w.cpus → c ≡ get_or v.cpus p c → l ≡ get_or v.locals p l
    → LocalStep mark p c l (memory v.mem) c' l' m' made → LocalStep mark p (s.cpus p) (local_of s p) s.memory c' l' m' made
moved_step mark v w n p s c l c' l' m' made is h same lt e f step =
    let hv : Shows n v s = subst (λ y. Shows n y s) (sym is) h in
    let lc : p < length v.cpus = subst (λ y. p < length y.cpus) (sym is) lt in
    let ln : p < n = subst (λ k. p < k) hv.processors lc in
    moved mark p s c l (memory v.mem) c' l' m' made (read_is v.cpus s.cpus n p c lc ln e hv.cpu)
    (read_is v.locals (local_of s) n p l (subst (λ k. p < k) (sym same) lc) ln f hv.own) hv.memory step

-- whether the next step is visible, told from what p has
seen_there : (k : Mark) (s : System) (p : ℕ) → is_seen k (still (s.cpus p) (local_of s p) s.memory) (s.cpus p) ≡ is_seen k s (s.cpus p)
seen_there Never s p = refl
seen_there Always s p = refl
seen_there IfNonzero s p = refl
seen_there IfEqual s p = refl

still_visible : (marks : Marks) (s : System) (p : ℕ) (x : Next) → is_visible_by marks (still (s.cpus p) (local_of s p) s.memory) p (s.cpus p) x
    ≡ is_visible_by marks s p (s.cpus p) x
still_visible marks s p Next.Nmi = refl
still_visible marks s p (Next.Interrupt v) = refl
still_visible marks s p Next.Debug = ap (λ b. is_user (s.cpus p) || b) (seen_there (mark_at marks (s.cpus p).rip) s p)
still_visible marks s p Next.Instruction = ap (λ b. is_user (s.cpus p) || b) (seen_there (mark_at marks (s.cpus p).rip) s p)

pub visible_there : (marks : Marks) (v w : Parts) (n p : ℕ) (s : System) (c : Processor) (l : Local) → v ≡ w → Shows n w s → length v.locals ≡ length v.cpus
    → p < length w.cpus
    → c ≡ get_or v.cpus p c → l ≡ get_or v.locals p l → is_visible marks (still c l (memory v.mem)) p ≡ is_visible marks s p
unfolding is_visible
visible_there marks v w n p s c l is h same lt e f =
    let hv : Shows n v s = subst (λ y. Shows n y s) (sym is) h in
    let lc : p < length v.cpus = subst (λ y. p < length y.cpus) (sym is) lt in
    let ln : p < n = subst (λ k. p < k) hv.processors lc in
    (λ i. is_visible marks (still (read_is v.cpus s.cpus n p c lc ln e hv.cpu i)
    (read_is v.locals (local_of s) n p l (subst (λ k. p < k) (sym same) lc) ln f hv.own i) (hv.memory i)) p)
    ∙ still_visible marks s p (next_of (s.cpus p) (s.apics p) (s.latches p))
