-- Steps of a processor as steps of the whole machine: the choice at the boundary, what a step shows, and what it leaves of the system.
use Rattle.std.proofs.Common.{◌≡◌, ℕ, suc, Bool, true, false, not, ◌&&◌, ◌||◌, List, [], ◌∷◌, Option, Some, None, refl, sym, ap, ◌∙◌, subst, inl}
use Rattle.std.specs.Prelude.{if◌then◌else◌, ◌==◌}
use Rattle.std.specs.List.{list_any}
use Rattle.ev_isa.specs.Word.{NatMap, put_at}
use Rattle.ev_isa.specs.declared.instruction.Ins.{Ins}
use Rattle.ev_isa.specs.declared.mode.Mode.{Mode}
use Rattle.ev_event.specs.declared.boundary.Next.{Next}
use Rattle.ev_event.specs.declared.event.Event.{Event}
use Rattle.ev_event.specs.Boundary.{first_of, interrupt_or_instruction}
use Rattle.ev_event.specs.declared.frame_note.FrameNote.{FrameNote}
use Rattle.ev_body.specs.declared.image.Image.{Image}
use Rattle.ev_abstract.specs.declared.entry.Entry.{Entry}
use Rattle.ev_listing.specs.Marks.{Mark}
use Rattle.ev_state.specs.Processor.{Processor, is_user, interrupts_on}
use Rattle.ev_apic.specs.declared.apic.Apic.{Apic}
use Rattle.ev_apic.specs.declared.inbox.Inbox.{Inbox}
use Rattle.ev_apic.specs.declared.send.Send.{Send}
use Rattle.ev_apic.specs.declared.send.SendKey.{SendKey}
use Rattle.ev_apic.specs.Inbox.{mailed}
use Rattle.ev_apic.specs.Apic.{next_vector}
use Rattle.ev_proc.specs.ProcessorStep.{After, ran, next_of, step, has_fred, instruction_at}
use Rattle.ev_proc.specs.declared.stepped.Stepped.{Stepped}
use Rattle.ev_concrete.specs.ConcreteRun.{System, Activation, Marks, mark_at, is_seen, is_visible, is_visible_by, is_return, is_repeated, without_last, targets, posted, acted, activations_by, after_step, concrete_step}
use Rattle.ev_concrete.specs.Depth.{bodies_on}
use Rattle.ev_concrete.specs.LiveWords.{IsSafeStep, overwrites}
use Rattle.ev_concrete.specs.Shown.{shown, shown_instruction, shown_by, told_at}
use Rattle.ev_relation.specs.Step.{EdgeWrites}
use Rattle.ev_relation.proofs.Maps.{at_same, at_other}

-- ---- the boundary

-- with IF off no vector comes
pub masked_first : (c : Processor) (a : Apic) (nmi : Bool) → nmi ≡ false → interrupts_on c ≡ false → next_of c a nmi ≡ Next.Instruction
unfolding next_of first_of
masked_first c a nmi hn hi =
    ap (next_of c a) hn
    ∙ ap (λ b. first_of (record {
      debug = false;
      nmi = false;
      nmi_blocked = c.nmi_blocked;
      sti_blocked = c.sti_blocked;
      if_set = b;
      vector = next_vector a;
    })) hi

-- an instruction, or where they may come the next vector of the APIC
pub open_first : (c : Processor) (a : Apic) (nmi : Bool) → nmi ≡ false
    → next_of c a nmi ≡ (if interrupts_on c && not c.sti_blocked then interrupt_or_instruction (next_vector a) else Next.Instruction)
unfolding next_of first_of
open_first c a nmi hn = ap (next_of c a) hn

-- with IF on and nothing blocked the next vector of the APIC comes, or an instruction
pub vector_first : (c : Processor) (a : Apic) (nmi : Bool) → nmi ≡ false → c.sti_blocked ≡ false → interrupts_on c ≡ true
    → next_of c a nmi ≡ interrupt_or_instruction (next_vector a)
unfolding next_of first_of
vector_first c a nmi hn hs hi =
    ap (next_of c a) hn
    ∙ ap (λ b. first_of (record {
      debug = false;
      nmi = false;
      nmi_blocked = c.nmi_blocked;
      sti_blocked = b;
      if_set = interrupts_on c;
      vector = next_vector a;
    })) hs
    ∙ ap (λ b. first_of (record {
      debug = false;
      nmi = false;
      nmi_blocked = c.nmi_blocked;
      sti_blocked = false;
      if_set = b;
      vector = next_vector a;
    })) hi

-- ---- whether the step is visible

pub hidden : (marks : Marks) (s : System) (p : ℕ) → next_of (s.cpus p) (s.apics p) (s.latches p) ≡ Next.Instruction → is_user (s.cpus p) ≡ false
    → is_seen (mark_at marks (s.cpus p).rip) s (s.cpus p) ≡ false → is_visible marks s p ≡ false
unfolding is_visible
hidden marks s p hn hu hm = ap (is_visible_by marks s p (s.cpus p)) hn ∙ ap (λ b. is_user (s.cpus p) || b) hm ∙ ap (λ b. b || false) hu

pub seen : (marks : Marks) (s : System) (p : ℕ) → next_of (s.cpus p) (s.apics p) (s.latches p) ≡ Next.Instruction → is_user (s.cpus p) ≡ false
    → is_seen (mark_at marks (s.cpus p).rip) s (s.cpus p) ≡ true → is_visible marks s p ≡ true
unfolding is_visible
seen marks s p hn hu hm = ap (is_visible_by marks s p (s.cpus p)) hn ∙ ap (λ b. is_user (s.cpus p) || b) hm ∙ ap (λ b. b || true) hu

-- ---- a step that ran an instruction, which may have sent an interrupt

-- what the step was
abbrev pub sends : Option Send → Stepped
sends None = Stepped.Ran
sends (Some m) = Stepped.Sent m

-- what was sent stands in the mail
abbrev pub inboxes_by : ℕ → System → ℕ → Option Send → NatMap Inbox
inboxes_by n s p None = s.inboxes
inboxes_by n s p (Some m) = (posted s m.key (targets n p m.target)).inboxes

-- and nothing else has changed
abbrev pub posted_by : ℕ → System → ℕ → Option Send → System
posted_by n s p sent = record s { inboxes = inboxes_by n s p sent }

-- with the local APIC behind it
abbrev pub went : Processor → Apic → NatMap ℕ → Bool → Option Send → After
went c a words nmi sent = record (ran c a words nmi) { step = sends sent }

abbrev pub after_went : ℕ → System → ℕ → Apic → Processor → NatMap ℕ → Option Send → System
after_went n s p a cpu words sent = after_step (posted_by n s p sent) p (went cpu a words (s.latches p) sent)

abbrev pub Went : System → ℕ → Apic → Processor → NatMap ℕ → Option Send → Type 0
Went s p a cpu words sent = step (s.cpus p) (s.apics p) s.memory (s.latches p) ≡ went cpu a words (s.latches p) sent

-- what is sent leaves all but the mail
pub posted_keeps : (s : System) (key : SendKey) (ts : List ℕ) → posted s key ts ≡ record s { inboxes = (posted s key ts).inboxes }
posted_keeps s key [] = refl
posted_keeps s key (t ∷ ts) = posted_keeps (record s { inboxes = put_at s.inboxes t (mailed (s.inboxes t) key) }) key ts

-- it is the same whether mail comes before the rest of the step or behind it
posted_first : (key : SendKey) (ts : List ℕ) (s : System) (p : ℕ) (a : Apic) (cpu : Processor) (words : NatMap ℕ) (nmi : Bool) (m : Send)
    → posted (after_step s p (went cpu a words nmi (Some m))) key ts
    ≡ after_step (record s { inboxes = (posted s key ts).inboxes }) p (went cpu a words nmi (Some m))
posted_first key [] s p a cpu words nmi m = refl
posted_first key (t ∷ ts) s p a cpu words nmi m =
    posted_first key ts (record s { inboxes = put_at s.inboxes t (mailed (s.inboxes t) key) }) p a cpu words nmi m

pub went_step : (n : ℕ) (s : System) (p : ℕ) (a : Apic) (cpu : Processor) (words : NatMap ℕ) (sent : Option Send) → Went s p a cpu words sent
    → concrete_step n s p ≡ (after_went n s p a cpu words sent, [])
unfolding concrete_step
went_step n s p a cpu words None h = ap (λ r. acted n (after_step s p r) p r.step) h
went_step n s p a cpu words (Some m) h = ap (λ r. acted n (after_step s p r) p r.step) h
    ∙ ap (λ t. (t, [])) (posted_first m.key (targets n p m.target) s p a cpu words (s.latches p) m)

-- writes no frame, and leaves the NMI latch
pub went_writes : (n : ℕ) (s : System) (p : ℕ) (a : Apic) (cpu : Processor) (words : NatMap ℕ) (sent : Option Send) → Went s p a cpu words sent
    → EdgeWrites (s.latches p) ((concrete_step n s p).0.latches p) (concrete_step n s p).1
went_writes n s p a cpu words sent h = subst (λ (r : System × List FrameNote). EdgeWrites (s.latches p) (r.0.latches p) r.1)
    (sym (went_step n s p a cpu words sent h)) (inl (refl, at_same s.latches p p (s.latches p) refl))

pub went_safe : (mode : Mode) (image : Image) (s : System) (p : ℕ) (a : Apic) (cpu : Processor) (words : NatMap ℕ) (sent : Option Send)
    → Went s p a cpu words sent → IsSafeStep mode image s p
went_safe mode image s p a cpu words sent h =
    ap (λ (r : System × List FrameNote). list_any (overwrites mode image s) r.1) (went_step image.processors s p a cpu words sent h)

-- what it shows; a step that sends shows nothing
abbrev pub went_shows : ℕ → System → Mark → Ins → Processor → NatMap ℕ → Option Send → List Entry
went_shows p s mark i cpu words sent = shown_by p (bodies_on s p) false (has_fred (s.cpus p))
    (shown_instruction p (bodies_on s p) (s.cpus p) s.memory.words mark (Some i)) cpu words (sends sent)

pub went_shown : (marks : Marks) (s : System) (p : ℕ) (a : Apic) (cpu : Processor) (words : NatMap ℕ) (sent : Option Send)
    (mark : Mark) (i : Ins) → Went s p a cpu words sent → is_user (s.cpus p) ≡ false
    → mark_at marks (s.cpus p).rip ≡ mark → instruction_at s.memory.words (s.cpus p).rip ≡ Some i
    → shown marks s p ≡ went_shows p s mark i cpu words sent
unfolding shown
went_shown marks s p a cpu words sent mark i h hu hm hi =
    ap (λ r. by (is_user (s.cpus p)) (told_at (mark_at marks (s.cpus p).rip) s p) r.cpu r.words r.step) h
    ∙ ap (λ u. by u (told_at (mark_at marks (s.cpus p).rip) s p) cpu words (sends sent)) hu
    ∙ ap (λ k. by false (told_at k s p) cpu words (sends sent)) hm
    ∙ ap (λ o. by false (shown_instruction p (bodies_on s p) (s.cpus p) s.memory.words mark o) cpu words (sends sent)) hi
  where
    by : Bool → List Entry → Processor → NatMap ℕ → Stepped → List Entry
    by user told cpu words act = shown_by p (bodies_on s p) user (has_fred (s.cpus p)) told cpu words act

-- ---- its activations

-- of a step that sends what it may
abbrev pub went_activations : ℕ → System → ℕ → Processor → Option Send → List Activation
went_activations n s p cpu sent = activations_by (posted_by n s p sent) p (s.activations p) cpu (sends sent)

pub went_stays : (n : ℕ) (s : System) (p : ℕ) (cpu : Processor) (sent : Option Send) (i : Ins) → instruction_at s.memory.words (s.cpus p).rip ≡ Some i
    → is_return (Some i) ≡ false → went_activations n s p cpu sent ≡ s.activations p
went_stays n s p cpu (Some m) i hi hr = refl
went_stays n s p cpu None i hi hr = ap (λ b. if b && not (is_user (s.cpus p)) && not (is_repeated (s.cpus p) cpu) then without_last (s.activations p) else
    s.activations p) (ap is_return hi ∙ hr)

pub ran_returns : (s : System) (p : ℕ) (cpu : Processor) (i : Ins) → instruction_at s.memory.words (s.cpus p).rip ≡ Some i → is_return (Some i) ≡ true
    → is_user (s.cpus p) ≡ false → is_repeated (s.cpus p) cpu ≡ false → activations_by s p (s.activations p) cpu Stepped.Ran ≡ without_last (s.activations p)
ran_returns s p cpu i hi hr hu hl =
    ap (λ b. if b && not (is_user (s.cpus p)) && not (is_repeated (s.cpus p) cpu) then without_last (s.activations p) else s.activations p)
    (ap is_return hi ∙ hr)
    ∙ ap (λ b. if not b && not (is_repeated (s.cpus p) cpu) then without_last (s.activations p) else s.activations p) hu
    ∙ ap (λ b. if not b then without_last (s.activations p) else s.activations p) hl

-- ---- what it leaves of the system

-- p has this processor and these activations now, and memory these words; of the others nothing has changed
pub record Moves (p : ℕ) (s s' : System) (cpu : Processor) (as' : List Activation) (words : NatMap ℕ) : Type 0 where
  pub cpu_is : s'.cpus p ≡ cpu
  pub activations_are : s'.activations p ≡ as'
  pub latch : s'.latches p ≡ s.latches p
  pub inboxes : s'.inboxes ≡ s.inboxes
  pub regions : s'.memory.regions ≡ s.memory.regions
  pub words_are : s'.memory.words ≡ words
  pub steps : s'.totals.steps ≡ suc s.totals.steps
  pub other_cpu : (q : ℕ) → (q == p) ≡ false → s'.cpus q ≡ s.cpus q
  pub other_activations : (q : ℕ) → (q == p) ≡ false → s'.activations q ≡ s.activations q
  pub other_apic : (q : ℕ) → (q == p) ≡ false → s'.apics q ≡ s.apics q
  pub other_latch : (q : ℕ) → (q == p) ≡ false → s'.latches q ≡ s.latches q

-- a step that takes no NMI
pub step_moves : (s : System) (p : ℕ) (r : After) → r.nmi ≡ s.latches p
    → Moves p s (after_step s p r) r.cpu (activations_by s p (s.activations p) r.cpu r.step) r.words
step_moves s p r hn = record {
  cpu_is = at_same s.cpus p p r.cpu refl;
  activations_are = at_same s.activations p p _ refl;
  latch = at_same s.latches p p r.nmi refl ∙ hn;
  inboxes = refl;
  regions = refl;
  words_are = refl;
  steps = refl;
  other_cpu = λ q d. at_other s.cpus p q r.cpu d;
  other_activations = λ q d. at_other s.activations p q _ d;
  other_apic = λ q d. at_other s.apics p q r.apic d;
  other_latch = λ q d. at_other s.latches p q r.nmi d;
}

-- and a delivery that is counted
pub delivery_moves : (n p : ℕ) (s s' : System) (cpu : Processor) (as' : List Activation) (words : NatMap ℕ) (e : Event) (frame : Option ℕ)
    → Moves p s s' cpu as' words → Moves p s (acted n s' p (Stepped.Delivered e frame)).0 cpu as' words
delivery_moves n p s s' cpu as' words e None h = h
delivery_moves n p s s' cpu as' words e (Some a) h = record {
  cpu_is = h.cpu_is;
  activations_are = h.activations_are;
  latch = h.latch;
  inboxes = h.inboxes;
  regions = h.regions;
  words_are = h.words_are;
  steps = h.steps;
  other_cpu = h.other_cpu;
  other_activations = h.other_activations;
  other_apic = h.other_apic;
  other_latch = h.other_latch;
}

-- the count leaves the local APICs
pub delivery_apic : (n p q : ℕ) (s' : System) (e : Event) (frame : Option ℕ) → (acted n s' p (Stepped.Delivered e frame)).0.apics q ≡ s'.apics q
delivery_apic n p q s' e None = refl
delivery_apic n p q s' e (Some a) = refl
