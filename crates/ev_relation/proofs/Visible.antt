-- Whether the next step of a processor is visible: its own state, which a step of another leaves, and the mark of its instruction say so, and no NMI is next.
use Rattle.std.proofs.Common.{◌≡◌, ℕ, ◌<◌, true, false, List, [], ◌∷◌, Some, None, refl, sym, ◌∙◌, not, ◌&&◌, if◌then◌else◌}
use Rattle.std.specs.Prelude.{◌==◌}
use Rattle.ev_event.specs.Boundary.{interrupt_or_instruction}
use Rattle.ev_apic.specs.Apic.{next_vector}
use Rattle.ev_isa.specs.Word.{NatMap, put_at}
use Rattle.ev_isa.specs.declared.mode.Mode.{Mode}
use Rattle.ev_event.specs.declared.boundary.Next.{Next}
use Rattle.ev_body.specs.declared.image.Image.{Image}
use Rattle.ev_state.specs.Processor.{Processor, interrupts_on}
use Rattle.ev_apic.specs.declared.send.SendKey.{SendKey}
use Rattle.ev_apic.specs.Inbox.{mailed}
use Rattle.ev_proc.specs.declared.stepped.Stepped.{Stepped}
use Rattle.ev_proc.specs.ProcessorStep.{After, next_of, step}
use Rattle.ev_abstract.specs.Machine.{Machine, processor}
use Rattle.ev_listing.specs.Marks.{Mark, Never, Always, IfNonzero, IfEqual}
use Rattle.ev_concrete.specs.ConcreteRun.{System, is_seen, posted, targets, acted, after_step, concrete_step}
use Rattle.ev_table.specs.Table.{reads_no_memory}
use Rattle.ev_relation.specs.Relation.{Stands, StandsOn}
use Rattle.ev_relation.specs.Domain.{IsInDomain}
use Rattle.ev_relation.proofs.Facts.{Facts}
use Rattle.ev_relation.proofs.Maps.{at_other}
use Rattle.ev_relation.proofs.Standing.{open_first}
use Rattle.ev_relation.proofs.After.{latch_parts}

-- ---- what a step of another processor leaves

-- registers, local APIC and latch of q
pub record SameOn (s s' : System) (q : ℕ) : Type 0 where
  pub cpu : s'.cpus q ≡ s.cpus q
  pub apic : s'.apics q ≡ s.apics q
  pub latch : s'.latches q ≡ s.latches q

posted_same : (s : System) (key : SendKey) (q : ℕ) (ts : List ℕ) (t : System) → SameOn s t q → SameOn s (posted t key ts) q
posted_same s key q [] t h = h
posted_same s key q (x ∷ xs) t h =
    posted_same s key q xs (record t { inboxes = put_at t.inboxes x (mailed (t.inboxes x) key) }) (record { cpu = h.cpu; apic = h.apic; latch = h.latch })

acted_same : (n : ℕ) (s t : System) (p q : ℕ) (r : Stepped) → SameOn s t q → SameOn s (acted n t p r).0 q
acted_same n s t p q Stepped.Ran h = h
acted_same n s t p q Stepped.Shutdown h = h
acted_same n s t p q (Stepped.Sent m) h = posted_same s m.key q (targets n p m.target) t h
acted_same n s t p q (Stepped.Delivered e None) h = h
acted_same n s t p q (Stepped.Delivered e (Some a)) h = record { cpu = h.cpu; apic = h.apic; latch = h.latch }

pub step_leaves : (n : ℕ) (s : System) (p q : ℕ) → (q == p) ≡ false → SameOn s (concrete_step n s p).0 q
unfolding concrete_step
step_leaves n s p q d =
    let r : After = step (s.cpus p) (s.apics p) s.memory (s.latches p) in
    acted_same n s (after_step s p r) p q r.step (record {
      cpu = at_other s.cpus p q r.cpu d;
      apic = at_other s.apics p q r.apic d;
      latch = at_other s.latches p q r.nmi d;
    })

-- ---- whether a step is visible

pub plain_seen : (k : Mark) (s s' : System) (c : Processor) → reads_no_memory k ≡ true → is_seen k s' c ≡ is_seen k s c
plain_seen Never s s' c h = refl
plain_seen Always s s' c h = refl
plain_seen IfNonzero s s' c h = absurd (cc)
plain_seen IfEqual s s' c h = absurd (cc)

module _ (mode : Mode) (image : Image) (facts : Facts mode image) (left : NatMap ℕ) (s : System) (m : Machine) (h : Stands mode image left s m) where
  -- no NMI comes next
  pub next_is : (q : ℕ) → q < image.processors → next_of (s.cpus q) (s.apics q) (s.latches q)
      ≡ (if interrupts_on (s.cpus q) && not (s.cpus q).sti_blocked then interrupt_or_instruction (next_vector (s.apics q)) else Next.Instruction)
  next_is q lt =
      let on : StandsOn mode image q (left q) s (processor m q) = h.each q lt in
      let domain : IsInDomain (processor m q) = h.domain q lt in
      open_first (s.cpus q) (s.apics q) (s.latches q)
      (sym (latch_parts on.layer on.frame _ (s.latches q) (s.cpus q).nmi_blocked (processor m q).nmi on.latch).0 ∙ domain.nmi)
