-- What a mark looks at in memory: the state of a record that its own processor doesn't fill, or the head of a queue. Both are told by the abstract machine, so
-- an edge of another processor, behind which the machine stands for the same one, leaves it as it is whether the step is visible.
use Rattle.std.proofs.Common.{◌≡◌, ℕ, ◌+◌, ◌<◌, Bool, true, false, not, ◌||◌, ◌&&◌, List, [], ◌∷◌, Option, Some, None, refl, sym, ap, ◌∙◌, subst, arith}
use Rattle.std.specs.Prelude.{◌==◌, reverse, if◌then◌else◌}
use Rattle.ev_isa.specs.Word.{NatMap}
use Rattle.ev_isa.specs.declared.mode.Mode.{Mode}
use Rattle.ev_event.specs.declared.boundary.Next.{Next}
use Rattle.ev_event.specs.Boundary.{interrupt_or_instruction}
use Rattle.ev_apic.specs.Apic.{next_vector}
use Rattle.ev_body.specs.declared.image.Image.{Image}
use Rattle.ev_listing.specs.AddressMap.{pcpu, record_address, head_offset}
use Rattle.ev_listing.specs.Marks.{Mark, IfNonzero, IfEqual}
use Rattle.ev_state.specs.Processor.{Processor, is_user, interrupts_on, register}
use Rattle.ev_abstract.specs.Context.{CallId}
use Rattle.ev_abstract.specs.Machine.{Machine, processor, CallState, Free, Queued, Taken, CallRecord}
use Rattle.ev_concrete.specs.ConcreteRun.{System, marks_of, mark_at, is_seen, is_visible, is_visible_by}
use Rattle.ev_calls.specs.Records.{Linked}
use Rattle.ev_calls.specs.Lists.{QueueIs}
use Rattle.ev_table.specs.Table.{reads_no_memory}
use Rattle.ev_relation.specs.Filling.{Filling, is_filled}
use Rattle.ev_relation.specs.Relation.{CallIs, Stands}
use Rattle.ev_proc.specs.ProcessorStep.{next_of}
use Rattle.ev_relation.proofs.Facts.{Facts}
use Rattle.ev_relation.proofs.Visible.{SameOn, plain_seen, next_is}

-- ---- words that the abstract machine tells

-- the head of a queue
abbrev head_of : List CallId → ℕ
head_of [] = 0
head_of (k ∷ ks) = record_address k.from k.site

first_linked : (words : NatMap ℕ) (a : ℕ) (ks : List CallId) → Linked words a ks → a ≡ head_of ks
first_linked words a [] h = h
first_linked words a (k ∷ ks) h = h.2

heads_alike : (m n : NatMap ℕ) (q : ℕ) (queue : List CallId) → QueueIs m q queue → QueueIs n q queue → n (pcpu q + head_offset) ≡ m (pcpu q + head_offset)
heads_alike m n q queue h h' = first_linked n (n (pcpu q + head_offset)) (reverse queue) h' ∙ sym (first_linked m (m (pcpu q + head_offset)) (reverse queue) h)

-- whether a record is in use
states_alike : (mode : Mode) (image : Image) (m n : NatMap ℕ) (a : ℕ) (r : CallRecord) (st : CallState) → CallIs mode image m a r st
    → CallIs mode image n a r st → n a ≡ m a
states_alike mode image m n a r Free h h' = h' ∙ sym h
states_alike mode image m n a r Queued h h' = h'.0 ∙ sym h.0
states_alike mode image m n a r Taken h h' = h'.0 ∙ sym h.0

module _ (mode : Mode) (image : Image) where
  -- what a mark looks at, by registers of the processor q
  pub data LooksAt (q : ℕ) (fills : List (Option Filling)) (c : Processor) (mark : Mark) : Type 0 where
    Nothing : reads_no_memory mark ≡ true → LooksAt q fills c mark
    State : mark ≡ IfNonzero → (site : ℕ) → site < 8 → register c 3 ≡ record_address q site → is_filled site fills ≡ false → LooksAt q fills c mark
    Queue : mark ≡ IfEqual → (to : ℕ) → to < image.processors → register c 2 ≡ pcpu to + head_offset → LooksAt q fills c mark

  same_site : (q i j a : ℕ) → a ≡ record_address q i → a ≡ record_address q j → i ≡ j
  same_site q i j a e f = omega (arith, e, f)

  same_queue : (i j a : ℕ) → a ≡ pcpu i + head_offset → a ≡ pcpu j + head_offset → i ≡ j
  same_queue i j a e f = omega (arith, e, f)

  module _ (left left' : NatMap ℕ) (s s' : System) (m : Machine) (h : Stands mode image left s m) (h' : Stands mode image left' s' m) (q : ℕ)
      (lq : q < image.processors) where
    -- it sees the same in two states that stand for one of the abstract machine
    pub seen_alike : (c : Processor) (mark : Mark) → LooksAt q (h.each q lq).fills c mark → LooksAt q (h'.each q lq).fills c mark
        → is_seen mark s' c ≡ is_seen mark s c
    seen_alike c mark (Nothing plain) l = plain_seen mark s s' c plain
    seen_alike c mark l (Nothing plain) = plain_seen mark s s' c plain
    seen_alike c mark (State is site small at unfilled) (State is' site' small' at' unfilled') =
        let same : site' ≡ site = same_site q site' site (register c 3) at' at in
        let on = (h.each q lq).records site small unfilled in
        let on' = (h'.each q lq).records site small (subst (λ i. is_filled i (h'.each q lq).fills ≡ false) same unfilled') in
        let word : s'.memory.words (record_address q site) ≡ s.memory.words (record_address q site)
        = states_alike mode image s.memory.words s'.memory.words (record_address q site) ((processor m q).records site) ((processor m q).records site).state
        on.call on'.call in
        ap (λ k. is_seen k s' c) is
        ∙ ap (λ w. not (w == 0)) (ap s'.memory.words at ∙ word ∙ sym (ap s.memory.words at))
        ∙ sym (ap (λ k. is_seen k s c) is)
    seen_alike c mark (Queue is to few at) (Queue is' to' few' at') =
        let word : s'.memory.words (pcpu to + head_offset) ≡ s.memory.words (pcpu to + head_offset)
        = heads_alike s.memory.words s'.memory.words to (processor m to).queue (h.shares.queues to few) (h'.shares.queues to few) in
        ap (λ k. is_seen k s' c) is
        ∙ ap (λ w. w == register c 0) (ap s'.memory.words at ∙ word ∙ sym (ap s.memory.words at))
        ∙ sym (ap (λ k. is_seen k s c) is)
    seen_alike c mark (State is site small at unfilled) (Queue is' to few at') = absurd (let clash : IfNonzero ≡ IfEqual = sym is ∙ is' in cc)
    seen_alike c mark (Queue is to few at) (State is' site small at' unfilled) = absurd (let clash : IfNonzero ≡ IfEqual = sym is' ∙ is in cc)

    -- So whether the next step of q is visible is the same in both, where q itself is the same: a task's steps all are, and of kernel code the mark looks at
    -- what the abstract machine tells.
    pub visible_alike : Facts mode image → SameOn s s' q
        → (is_user (s.cpus q) ≡ false → LooksAt q (h.each q lq).fills (s.cpus q) (mark_at (marks_of mode image) (s.cpus q).rip))
        → (is_user (s.cpus q) ≡ false → LooksAt q (h'.each q lq).fills (s.cpus q) (mark_at (marks_of mode image) (s.cpus q).rip))
        → is_visible (marks_of mode image) s' q ≡ is_visible (marks_of mode image) s q
    unfolding is_visible
    visible_alike facts same looks looks' =
        (λ i. is_visible_by (marks_of mode image) s' q (same.cpu i) (next_of (same.cpu i) (same.apic i) (same.latch i)))
        ∙ ap (is_visible_by (marks_of mode image) s' q (s.cpus q)) (next_is mode image facts left s m h q lq)
        ∙ pick (interrupts_on (s.cpus q) && not (s.cpus q).sti_blocked) (next_vector (s.apics q))
        ∙ sym (ap (is_visible_by (marks_of mode image) s q (s.cpus q)) (next_is mode image facts left s m h q lq))
      where
        instruction : (t : Bool) → is_user (s.cpus q) ≡ t
            → (t || is_seen (mark_at (marks_of mode image) (s.cpus q).rip) s' (s.cpus q))
            ≡ (t || is_seen (mark_at (marks_of mode image) (s.cpus q).rip) s (s.cpus q))
        instruction true e = refl
        instruction false e = seen_alike (s.cpus q) (mark_at (marks_of mode image) (s.cpus q).rip) (looks e) (looks' e)

        pick : (b : Bool) (o : Option ℕ)
            → is_visible_by (marks_of mode image) s' q (s.cpus q) (if b then interrupt_or_instruction o else Next.Instruction)
            ≡ is_visible_by (marks_of mode image) s q (s.cpus q) (if b then interrupt_or_instruction o else Next.Instruction)
        pick true None = instruction (is_user (s.cpus q)) refl
        pick true (Some v) = refl
        pick false o = instruction (is_user (s.cpus q)) refl
