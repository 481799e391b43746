-- What comes to a processor between steps: its local APIC has other requested vectors, or its mail is another, and all else is as it was.
use Rattle.std.proofs.Common.{◌≡◌, ℕ, zero, suc, ◌<◌, ◌≤◌, Bool, true, false, ◌||◌, List, [], ◌∷◌, length, get_or, refl, sym, ap, ◌∙◌, subst, ⊎_elim, arith, append-nil}
use Rattle.std.specs.Prelude.{◌==◌, ◌+◌, ◌^◌, ◌++◌}
use Rattle.std.specs.List.{list_any}
use Rattle.std.proofs.Math.Bool.{or-false}
use Rattle.std.proofs.lemmas.Bool.Decides.{eqb_tells}
use Rattle.std.proofs.lemmas.Nat.{or_lt}
use Rattle.ev_isa.specs.Word.{NatMap, NatSet, put_at, union, no_numbers}
use Rattle.ev_isa.specs.declared.mode.Mode.{Mode}
use Rattle.ev_body.specs.Bodies.{key_number}
use Rattle.ev_body.specs.declared.key.Key.TheVariants.{Irq}
use Rattle.ev_body.specs.declared.image.Image.{Image}
use Rattle.ev_body.specs.WellFormed.{IsImage, is_sendable}
use Rattle.ev_apic.specs.Vectors.{vectors_of, with_vector}
use Rattle.ev_apic.specs.Inbox.{no_mail, mailed, united, with_mail}
use Rattle.ev_apic.specs.declared.apic.Apic.{Apic}
use Rattle.ev_apic.specs.declared.inbox.Inbox.{Inbox}
use Rattle.ev_apic.specs.declared.send.SendKey.TheVariants.{Fixed}
use Rattle.ev_apic.proofs.Laws.{puts, unites}
use Rattle.ev_abstract.specs.Accepted.{IsAccepted}
use Rattle.ev_abstract.specs.Boundary.{is_nmi_body}
use Rattle.ev_abstract.specs.Machine.{Machine, processor, with_processor, CallRecord}
use Rattle.ev_abstract.specs.Machine as abstract
use Rattle.ev_abstract.specs.ItemMeaning as meaning
use Rattle.ev_abstract.specs.Rules.{is_used}
use Rattle.ev_abstract.specs.Run.{line_step}
use Rattle.ev_abstract.specs.Script.{is_line}
use Rattle.ev_abstract.specs.declared.script_line.Line.TheVariants.{Arrive, Accept}
use Rattle.ev_effect.specs.Task.{Task}
use Rattle.ev_concrete.specs.ConcreteRun.{System, arrived_at, accept_mail}
use Rattle.ev_law.specs.Legal.{Legal}
use Rattle.ev_law.proofs.Lines.{lines_keep_legal}
use Rattle.ev_law.proofs.Machines.{alike_mail}
use Rattle.ev_user.specs.Numbers.{AreCallers, AreOfWords, HasWords}
use Rattle.ev_user.specs.Words.{HoldsWords}
use Rattle.ev_relation.specs.Domain.{IsInDomain}
use Rattle.ev_relation.specs.Nmi.{LatchIs, inner_edges}
use Rattle.ev_calls.specs.Lists.{QueueIs}
use Rattle.ev_call_law.proofs.Records.{put_same, same_calls, same_kept}
use Rattle.ev_relation.specs.Relation.{ApicIs, InboxIs, Stands, StandsOn}
use Rattle.ev_relation.proofs.Maps.{at_same, at_other}
use Rattle.ev_relation.proofs.NoVectors.{zero_words, no_vector}

-- ---- two sets of vectors together

united_small : (xs ys : List ℕ) → length xs ≡ length ys → ((i : ℕ) → get_or xs i 0 < 2 ^ 64) → ((i : ℕ) → get_or ys i 0 < 2 ^ 64) → (i : ℕ)
    → get_or (united xs ys) i 0 < 2 ^ 64
united_small [] [] e hx hy i = omega arith
united_small [] (y ∷ ys) e hx hy i = absurd (omega arith)
united_small (x ∷ xs) [] e hx hy i = absurd (omega arith)
united_small (x ∷ xs) (y ∷ ys) e hx hy zero = or_lt 64 x y (hx 0) (hy 0)
united_small (x ∷ xs) (y ∷ ys) e hx hy (suc i) = united_small xs ys (omega arith) (λ k. hx (suc k)) (λ k. hy (suc k)) i

module _ (mode : Mode) (image : Image) where
  -- of a processor nothing but its local APIC asks for pending vectors, nothing but its NMI latch for the abstract one, and nothing for mail
  unfoldable pub comes_to : (q left : ℕ) (s : System) (apics : NatMap Apic) (latches : NatSet) (inboxes : NatMap Inbox) (x : abstract.Processor)
      (set mail : NatSet) (nmi mail_nmi : Bool) → latches q ≡ s.latches q → nmi ≡ x.nmi → StandsOn mode image q left s x
      → ApicIs mode image (apics q) set x.bodies
      → StandsOn mode image q left (record s { apics = apics; latches = latches; inboxes = inboxes })
      (record x { pending = set; nmi = nmi; mail = mail; mail_nmi = mail_nmi })
  comes_to q left s apics latches inboxes x set mail nmi mail_nmi same same_nmi on a = record {
    few = on.few;
    own = on.own;
    short = on.short;
    more = on.more;
    enough = subst (λ b. on.own + on.more + inner_edges b ≤ left) (sym same) on.enough;
    running = on.running;
    waiting = on.waiting;
    layer = on.layer;
    frame = on.frame;
    switching = on.switching;
    marked = on.marked;
    returning = on.returning;
    is_returning = on.is_returning;
    current = on.current;
    mark = on.mark;
    saved = on.saved;
    tasks = on.tasks;
    latch = subst (λ (z : Bool × Bool). LatchIs on.layer on.frame (list_any (is_nmi_body image) x.bodies) z.0 (s.cpus q).nmi_blocked z.1)
        (λ i. (sym same i, sym same_nmi i)) on.latch;
    apic = a;
    slots = on.slots;
    fills = on.fills;
    free = on.free;
    records = on.records;
    runs = on.runs;
  }

  module _ (left : NatMap ℕ) (s : System) (m : Machine) (h : Stands mode image left s m) (p : ℕ) (lt : p < image.processors)
      (apics : NatMap Apic) (latches : NatSet) (inboxes : NatMap Inbox) (set mail : NatSet) (nmi mail_nmi : Bool) where
    -- either machine with these vectors, latches and mail
    abbrev concrete : System
    concrete = record s { apics = apics; latches = latches; inboxes = inboxes }

    abbrev now : abstract.Processor
    now = record (processor m p) { pending = set; nmi = nmi; mail = mail; mail_nmi = mail_nmi }

    abbrev behind : Machine
    behind = with_processor m p now

    -- what came to p is this, and nothing came to others
    pub record Comes : Type 0 where
      pub apic : ApicIs mode image (apics p) set (processor m p).bodies
      pub other_apics : (q : ℕ) → (q == p) ≡ false → apics q ≡ s.apics q
      pub latch : (q : ℕ) → latches q ≡ s.latches q
      pub nmi_is : nmi ≡ (processor m p).nmi
      pub inbox : InboxIs mode image (inboxes p) mail mail_nmi
      pub other_inboxes : (q : ℕ) → (q == p) ≡ false → inboxes q ≡ s.inboxes q
      pub legal : Legal image behind
      pub inside : IsInDomain now

    own : processor behind p ≡ now
    own = at_same m.processors p p now refl

    others : (q : ℕ) → (q == p) ≡ false → processor behind q ≡ processor m q
    others q e = at_other m.processors p q now e

    component : {Z : Type 0} (f : abstract.Processor → Z) → f now ≡ f (processor m p) → (q : ℕ) → f (processor m q) ≡ f (processor behind q)
    component f same q = sym (⊎_elim (λ e. ap (λ r. f (processor behind r)) e.1 ∙ ap f own ∙ same ∙ sym (ap (λ r. f (processor m r)) e.1))
        (λ e. ap f (others q e.0)) (eqb_tells q p))

    -- of p and of each other processor
    by_processor : (P : ℕ → abstract.Processor → Type 0) → P p now → ((q : ℕ) → q < image.processors → (q == p) ≡ false → P q (processor m q)) → (q : ℕ)
        → q < image.processors → P q (processor behind q)
    by_processor P here there q lq = ⊎_elim (λ e. subst (λ r. P r (processor behind r)) (sym e.1) (subst (P p) (sym own) here))
        (λ e. subst (P q) (sym (others q e.0)) (there q lq e.0)) (eqb_tells q p)

    words_kept : (q : ℕ) → HasWords (processor behind q)
    words_kept q =
        let w = h.numbers.each q in record {
          bodies = subst (λ bs. AreOfWords bs) (component (λ (y : abstract.Processor). y.bodies) refl q) w.bodies;
          slots = subst HoldsWords (component (λ (y : abstract.Processor). y.slots) refl q) w.slots;
          arguments = λ k. subst (λ (rs : NatMap CallRecord). (rs k).arg < 2 ^ 64) (component (λ (y : abstract.Processor). y.records) refl q) (w.arguments k);
          queue = subst AreCallers (component (λ (y : abstract.Processor). y.queue) refl q) w.queue;
        }

    -- so the machines stand for each other as before
    pub comes : Comes → Stands mode image left concrete behind
    comes c = record {
      regions_are = h.regions_are;
      fixed = h.fixed;
      shares = record {
        user = h.shares.user;
        held = h.shares.held;
        pages = h.shares.pages;
        cells = h.shares.cells;
        mail = by_processor (λ q x. InboxIs mode image (inboxes q) x.mail x.mail_nmi) c.inbox
            (λ q lq e. subst (λ i. InboxIs mode image i (processor m q).mail (processor m q).mail_nmi) (sym (c.other_inboxes q e)) (h.shares.mail q lq));
        queues = λ q lq. subst (QueueIs s.memory.words q) (component (λ (y : abstract.Processor). y.queue) refl q) (h.shares.queues q lq);
      };
      legal = c.legal;
      bases = λ q i. sym (ap (λ (ts : NatMap Task). (ts i).gs) (component (λ (y : abstract.Processor). y.tasks) refl q)) ∙ h.bases q i;
      numbers = record { each = words_kept; cells = h.numbers.cells };
      told = h.told ++ [];
      few = subst (λ es. length es ≤ s.totals.steps) (sym (append-nil h.told)) h.few;
      calls = (same_kept image m behind h.told [] h.calls (same_calls image m behind (put_same m p now refl refl refl)) tt tt (omega arith)).kept;
      domain = by_processor (λ q x. IsInDomain x) c.inside (λ q lq e. h.domain q lq);
      each = by_processor (λ q x. StandsOn mode image q (left q) concrete x)
          (comes_to p (left p) s apics latches inboxes (processor m p) set mail nmi mail_nmi (c.latch p) c.nmi_is (h.each p lt) c.apic)
          (λ q lq e. comes_to q (left q) s apics latches inboxes (processor m q) (processor m q).pending (processor m q).mail (processor m q).nmi
          (processor m q).mail_nmi (c.latch q) refl (h.each q lq)
          (subst (λ a. ApicIs mode image a (processor m q).pending (processor m q).bodies) (sym (c.other_apics q e)) (h.each q lq).apic));
    }

  -- an interrupt's vector that arrives is requested, whether or not it was
  pub arrival_stands : (good : IsImage image) (accepted : IsAccepted image) (left : NatMap ℕ) (s : System) (m : Machine) → Stands mode image left s m
      → (p v : ℕ) → p < image.processors → v < 256 → is_line image (Arrive p (Irq v)) ≡ true
      → Stands mode image left (arrived_at s p (Irq v)) (line_step image m (Arrive p (Irq v))).0
  unfolding line_step key_number
  arrival_stands good accepted left s m h p v lt small line =
      let x : abstract.Processor = processor m p in
      let a : Apic = s.apics p in
      let now : Apic = record a { irr = with_vector a.irr v true } in
      let on = (h.each p lt).apic in
      let put = puts a.irr v true on.irr.four on.irr.small small in
      let domain = h.domain p lt in
      comes left s m h p lt (put_at s.apics p now) s.latches s.inboxes (put_at x.pending v true) x.mail x.nmi x.mail_nmi (record {
        apic = subst (λ a. ApicIs mode image a (put_at x.pending v true) x.bodies) (sym (at_same s.apics p p now refl)) (record {
          tpr = on.tpr;
          irr = record { four = put.1; small = put.2 };
          isr = on.isr;
          pending = λ u lu. put.0 u ∙ pending u lu;
          service = on.service;
          single = on.single;
        });
        other_apics = λ q e. at_other s.apics p q now e;
        latch = λ q. refl;
        nmi_is = refl;
        inbox = h.shares.mail p lt;
        other_inboxes = λ q e. refl;
        legal = lines_keep_legal image m (Arrive p (Irq v)) good accepted line h.legal;
        inside = record { nmi = domain.nmi; mail_nmi = domain.mail_nmi };
      })
    where
      pending : (u : ℕ) → u < 256 → put_at (vectors_of (s.apics p).irr) v true u ≡ put_at (processor m p).pending v true u
      pending u lu = ap (λ (b : Bool). elim (u == v) [ true ↦ true | false ↦ b ]) ((h.each p lt).apic.pending u lu)

  -- the mail of a processor moves to its local APIC, whose vectors are then those of both
  pub acceptance_stands : (good : IsImage image) (accepted : IsAccepted image) (left : NatMap ℕ) (s : System) (m : Machine) → Stands mode image left s m
      → (p : ℕ) → p < image.processors → is_line image (Accept p) ≡ true → Stands mode image left (accept_mail s p) (line_step image m (Accept p)).0
  unfolding line_step
  acceptance_stands good accepted left s m h p lt line =
      let x : abstract.Processor = processor m p in
      let a : Apic = s.apics p in
      let i : Inbox = s.inboxes p in
      let on = (h.each p lt).apic in
      let mail = h.shares.mail p lt in
      let domain = h.domain p lt in
      let long : length a.irr ≡ length i.vectors = on.irr.four ∙ sym mail.words.four in
      let both = unites a.irr i.vectors long in
      let no_nmi : i.nmi ≡ false = mail.nmi_is ∙ domain.mail_nmi in
      let latch : NatSet = put_at s.latches p (s.latches p || i.nmi) in
      let same_nmi : (x.nmi || x.mail_nmi) ≡ x.nmi = ap (λ b. x.nmi || b) domain.mail_nmi ∙ or-false x.nmi in
      comes left s m h p lt (put_at s.apics p (with_mail a i)) latch (put_at s.inboxes p no_mail) (union x.pending x.mail) no_numbers
      (x.nmi || x.mail_nmi) false (record {
        apic = subst (λ a. ApicIs mode image a (union x.pending x.mail) x.bodies) (sym (at_same s.apics p p (with_mail a i) refl)) (record {
          tpr = on.tpr;
          irr = record {
            four = both.1 ∙ on.irr.four;
            small = united_small a.irr i.vectors long on.irr.small mail.words.small;
          };
          isr = on.isr;
          pending = λ v lv. both.0 v ∙ (λ k. on.pending v lv k || mail.vectors v lv k);
          service = on.service;
          single = on.single;
        });
        other_apics = λ q e. at_other s.apics p q (with_mail a i) e;
        latch = λ q. ⊎_elim (λ e. at_same s.latches p q (s.latches p || i.nmi) e.1 ∙ ap (λ b. s.latches p || b) no_nmi ∙ or-false (s.latches p)
            ∙ sym (ap s.latches e.1)) (λ e. at_other s.latches p q (s.latches p || i.nmi) e.0) (eqb_tells q p);
        nmi_is = same_nmi;
        inbox = subst (λ i. InboxIs mode image i no_numbers false) (sym (at_same s.inboxes p p no_mail refl)) (record {
          words = record { four = refl; small = zero_words };
          vectors = λ v lv. no_vector v;
          nmi_is = refl;
        });
        other_inboxes = λ q e. at_other s.inboxes p q no_mail e;
        legal = lines_keep_legal image m (Accept p) good accepted line h.legal;
        inside = record { nmi = same_nmi ∙ domain.nmi; mail_nmi = refl };
      })

  -- an interrupt that is sent to a processor stands in its mail, whether or not it did
  pub sending_stands : (left : NatMap ℕ) (s : System) (m : Machine) → Stands mode image left s m → (to v : ℕ) → to < image.processors → v < 256
      → is_sendable (Irq v) ≡ true → is_used image (Irq v) ≡ true
      → Stands mode image left (record s { inboxes = put_at s.inboxes to (mailed (s.inboxes to) (Fixed v)) }) (meaning.with_mail m to (Irq v))
  unfolding key_number
  sending_stands left s m h to v lt small sendable used =
      let x : abstract.Processor = processor m to in
      let i : Inbox = s.inboxes to in
      let now : Inbox = mailed i (Fixed v) in
      let mail = h.shares.mail to lt in
      let put = puts i.vectors v true mail.words.four mail.words.small small in
      let domain = h.domain to lt in
      comes left s m h to lt s.apics s.latches (put_at s.inboxes to now) x.pending (put_at x.mail v true) x.nmi x.mail_nmi (record {
        apic = (h.each to lt).apic;
        other_apics = λ q e. refl;
        latch = λ q. refl;
        nmi_is = refl;
        inbox = subst (λ i. InboxIs mode image i (put_at x.mail v true) x.mail_nmi) (sym (at_same s.inboxes to to now refl)) (record {
          words = record { four = put.1; small = put.2 };
          vectors = λ u lu. put.0 u ∙ ap (λ (b : Bool). elim (u == v) [ true ↦ true | false ↦ b ]) (mail.vectors u lu);
          nmi_is = mail.nmi_is;
        });
        other_inboxes = λ q e. at_other s.inboxes to q now e;
        legal = (alike_mail image m to (Irq v) sendable used).legal h.legal;
        inside = record { nmi = domain.nmi; mail_nmi = domain.mail_nmi };
      })
