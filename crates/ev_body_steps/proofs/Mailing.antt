-- An interrupt is sent: it goes to the mail of its target, and of the sender nothing else is another.
use Rattle.std.proofs.Common.{◌≡◌, ℕ, ◌<◌, true, [], ◌∷◌, Some, refl, sym, ap, ◌∙◌, subst}
use Rattle.std.specs.Prelude.{if◌then◌else◌, nat_lt, nat_le}
use Rattle.std.proofs.Common.{⊎_elim}
use Rattle.std.proofs.lemmas.Bool.{lt-ltb, ltb-true}
use Rattle.std.proofs.lemmas.Bool.Decides.{eqb_tells}
use Rattle.ev_isa.specs.Word.{NatMap, NatSet, put_at}
use Rattle.ev_isa.specs.declared.mode.Mode.{Mode}
use Rattle.ev_body.specs.declared.key.Key.TheVariants.{Irq}
use Rattle.ev_body.specs.declared.image.Image.{Image}
use Rattle.ev_body.specs.Bodies.{key_number}
use Rattle.ev_body.specs.WellFormed.{IsImage, is_sendable}
use Rattle.ev_apic.specs.declared.send.Send.{Send}
use Rattle.ev_apic.specs.declared.send.SendKey.TheVariants.{Fixed}
use Rattle.ev_apic.specs.declared.send.Target.TheVariants.{One}
use Rattle.ev_abstract.specs.ItemMeaning.{with_mail, mailed}
use Rattle.ev_abstract.specs.Machine.{Machine, processor}
use Rattle.ev_abstract.specs.Machine as abstract
use Rattle.ev_abstract.specs.Rules.{is_used}
use Rattle.ev_concrete.specs.ConcreteRun.{System, posted}
use Rattle.ev_built.specs.Built.{IsBuilt}
use Rattle.ev_symbolic.proofs.Values.{and_right}
use Rattle.ev_relation.specs.Relation.{Stands}
use Rattle.ev_relation.proofs.Facts.{Facts}
use Rattle.ev_relation.proofs.Maps.{at_same, at_other}
use Rattle.ev_relation.proofs.Arrivals.{sending_stands}
use Rattle.ev_relation.proofs.After.{none_spares}
use Rattle.ev_body_steps.proofs.ItemWords as words
use Rattle.ev_body_steps.proofs.KernelStep as step

module _ (mode : Mode) (image : Image) (built : IsBuilt image) (good : IsImage image) (facts : Facts mode image)
    (left : NatMap ℕ) (s : System) (m : Machine) (h : Stands mode image left s m) (p : ℕ) (hp : p < image.processors)
    (o : step.Top mode image built good facts left s m h p hp) (to n : ℕ) (there : to < image.processors) (sendable : is_sendable (Irq n) ≡ true)
    (used : is_used image (Irq n) ≡ true) where
  abbrev x : abstract.Processor
  x = processor m p

  abbrev pub what : Send
  what = record { target = One to; key = Fixed n }

  -- the machine with it in the mail of its target
  abbrev pub mailed_to : Machine
  mailed_to = with_mail m to (Irq n)

  pub sender : processor mailed_to p ≡ record x { mail = (processor mailed_to p).mail; mail_nmi = (processor mailed_to p).mail_nmi }
  sender = ⊎_elim
      (λ e. by (put_at x.mail (key_number (Irq n)) true) (at_same m.processors to p (mailed (processor m to) (Irq n)) e.1
      ∙ ap (λ q. mailed (processor m q) (Irq n)) (sym e.1)))
      (λ e. by x.mail (at_other m.processors to p (mailed (processor m to) (Irq n)) e.0)) (eqb_tells p to)
    where
      by : (mail : NatSet) → processor mailed_to p ≡ record x { mail = mail }
          → processor mailed_to p ≡ record x { mail = (processor mailed_to p).mail; mail_nmi = (processor mailed_to p).mail_nmi }
      by mail e = e ∙ sym (ap (λ (y : abstract.Processor). record x { mail = y.mail; mail_nmi = y.mail_nmi }) e)

  unfoldable pub sending : step.Sends mode image built good facts left s m h p hp (Some what)
  sending = record {
    machine = mailed_to;
    own = sender;
    stands = subst (λ t. Stands mode image left
        (record s { inboxes = (posted s (Fixed n) (if t then to ∷ [] else [])).inboxes }) mailed_to) (sym (lt-ltb to image.processors there))
        (sending_stands mode image left s m h to n there (ltb-true n 0x100 (and_right (nat_le 0x20 n) (nat_lt n 0x100) sendable)) sendable used);
  }

  pub still : step.Makes mode image built good facts left s m h p hp o mailed_to mailed_to s.memory.words x.tasks x.slots x.bodies
  still =
      let none = words.makes_nothing mode image built good facts left s m h p hp o [] (none_spares p).free s.memory.words (λ y off far. refl)
      refl refl refl refl refl in record {
        resched = x.resched;
        asked = λ e. e;
        own = λ i. record (processor mailed_to p) {
          tasks = (sender i).tasks;
          slots = (sender i).slots;
          resched = (sender i).resched;
          bodies = (sender i).bodies;
        };
        others = λ q e. refl;
        same_tasks = none.same_tasks;
        good_tasks = none.good_tasks;
        current = none.current;
        mark = (step.on mode image built good facts left s m h p hp).mark;
        slots_are = none.slots_are;
        user = none.user;
        held = none.held;
        pages = none.pages;
        cells = none.cells;
      }
