-- A turn of the abstract machine by a step that writes words of calls, from what it leaves: the contexts beneath, and of each processor the calls of its
-- contexts, the records that it fills and those that it doesn't.
use Rattle.std.proofs.Common.{◌≡◌, ℕ, ◌+◌, ◌<◌, ◌≤◌, true, false, not, ◌&&◌, List, ◌∷◌, length, Option, Some, None, refl, sym, ap, ◌∙◌, subst, arith, eq-eqb}
use Rattle.std.specs.Prelude.{◌==◌, ◌++◌, ◌||◌, if◌then◌else◌, nat_le, nat_lt}
use Rattle.std.specs.List.{list_any}
use Rattle.ev_isa.specs.Word.{NatMap}
use Rattle.ev_isa.specs.declared.mode.Mode.{Mode}
use Rattle.ev_body.specs.declared.image.Image.{Image}
use Rattle.ev_body.specs.WellFormed.{IsImage}
use Rattle.ev_listing.specs.AddressMap.{nmi_entry, repeat_entry}
use Rattle.ev_listing.specs.Marks.{Mark}
use Rattle.ev_state.specs.Processor.{Processor, is_user}
use Rattle.ev_proc.specs.declared.stepped.Stepped.{Stepped}
use Rattle.ev_abstract.specs.Boundary.{is_nmi_body}
use Rattle.ev_abstract.specs.Context.{BodyContext}
use Rattle.ev_abstract.specs.declared.entry.Entry.{Entry}
use Rattle.ev_abstract.specs.Machine.{Machine, processor}
use Rattle.ev_abstract.specs.Machine as abstract
use Rattle.ev_abstract.specs.Run.{turn}
use Rattle.ev_built.specs.Built.{IsBuilt}
use Rattle.ev_calls.specs.Lists.{QueueIs}
use Rattle.ev_concrete.specs.ConcreteRun.{System, is_seen, is_return, activations_by}
use Rattle.ev_concrete.specs.Depth.{is_in_repeat, is_jump}
use Rattle.ev_symbolic.specs.Agrees.{Cell, with_words}
use Rattle.ev_relation.specs.Nmi.{inner_edges}
use Rattle.ev_relation.specs.Named.{Named, is_task_word, is_slot, is_cell, is_page_bit, is_user_word, have_none, UnknownTo, Changes}
use Rattle.ev_relation.specs.Filling.{Filling, first_fill, is_filled, AreFree}
use Rattle.ev_relation.specs.Active.{Active}
use Rattle.ev_relation.specs.Relation.{switches_at, body_edges, serves, Chain, HoldsCall, StandsOn, Stands}
use Rattle.ev_relation.specs.Step.{IsCounted, Simulated}
use Rattle.ev_relation.proofs.Facts.{Facts}
use Rattle.ev_relation.proofs.Maps.{at_same}
use Rattle.ev_relation.proofs.Domains.{four_tasks}
use Rattle.ev_relation.proofs.Standing.{went_shows, went_stays}
use Rattle.ev_relation.proofs.Depth.{goes_on_inside}
use Rattle.ev_relation.proofs.After.{AreNames, KeepsCalls, current_is, mark_is, slot_same, cell_same, page_same, user_same, tasks_same, AreSameWords, apic_again, own_stands, stands_become}
use Rattle.ev_relation.proofs.Words.{beside_stays, saved_stays}
use Rattle.ev_relation.proofs.CallKinds.{none_nmi}
use Rattle.ev_relation.proofs.Chains.{chain_plain}
use Rattle.ev_relation.proofs.Legality.{turn_legal, turn_bases, turn_calls, turn_few}
use Rattle.ev_user.specs.Words.{HoldsWords}
use Rattle.ev_body_steps.proofs.KernelStep as step

-- the names are words of calls alone
pub record AreCallWords (p : ℕ) (below : List BodyContext) (names : List Named) : Type 0 where
  pub allowed : AreNames p names
  pub unknown : UnknownTo below names
  pub tasks : have_none is_task_word names ≡ true
  pub slots : have_none is_slot names ≡ true
  pub cells : have_none is_cell names ≡ true
  pub pages : have_none is_page_bit names ≡ true
  pub user : have_none is_user_word names ≡ true

module _ (mode : Mode) (image : Image) (built : IsBuilt image) (good : IsImage image) (facts : Facts mode image)
    (left : NatMap ℕ) (s : System) (m : Machine) (h : Stands mode image left s m) (p : ℕ) (hp : p < image.processors)
    (o : step.Top mode image built good facts left s m h p hp) where
  abbrev c : Processor
  c = s.cpus p

  abbrev x : abstract.Processor
  x = processor m p

  abbrev on : StandsOn mode image p (left p) s x
  on = step.on mode image built good facts left s m h p hp

  small : p < 32
  small = step.small mode image built good facts left s m h p hp

  narrow : o.σ.stack < 7
  narrow = step.narrow mode image built good facts left s m h p hp o

  module _ (words : NatMap ℕ) (names : List Named) (are : AreCallWords p o.below names) (changes : Changes p o.σ names s.memory.words words)
      (fs : List (Option Filling)) where
    differ : (q : ℕ) → (q == p) ≡ false → q ≡ p → ⊥
    differ q e d = let clash : false ≡ true = sym e ∙ eq-eqb q p d in cc

    words_same : AreSameWords p o.σ names small narrow s.memory.words words are.allowed.written changes p
    words_same = tasks_same p o.σ names small narrow s.memory.words words are.allowed.written changes are.tasks p small

    -- What a turn makes of the abstract machine, and memory of its calls: of p the last context is this one, and its records and queue may be others, as may
    -- those of other processors. It fills these records behind the step.
    pub record Keeps (m' : Machine) (b' : BodyContext) : Type 0 where
      pub own : processor m' p
          ≡ record x { records = (processor m' p).records; queue = (processor m' p).queue; bodies = b' ∷ o.below }
      pub others : (q : ℕ) → (q == p) ≡ false
          → processor m' q ≡ record (processor m q) { records = (processor m' q).records; queue = (processor m' q).queue }
      pub same_words : m'.words ≡ m.words
      pub same_pages : m'.present ≡ m.present
      pub same_cells : m'.cells ≡ m.cells
      pub queues : (q : ℕ) → q < image.processors → QueueIs words q (processor m' q).queue
      pub free : AreFree (processor m' p).records fs
      pub records : (k : ℕ) → k < 8 → is_filled k fs ≡ false → HoldsCall mode image words p k ((processor m' p).records k)
      pub each : (q : ℕ) (lq : q < image.processors) → (q == p) ≡ false
          → KeepsCalls mode image q (left q) s (processor m q) (h.each q lq) (processor m' q).records words
      pub chain : (now : ℕ) (cpu : Processor)
          → Active mode image p now o.κ o.σ on.frame (switches_at mode image on.switching o.below) (first_fill fs) o.w b' cpu (with_words s.memory words)
          → Chain mode image p now x.running on.returning (x.tasks on.returning) on.frame on.switching fs (b' ∷ o.below) (o.last ∷ o.others) cpu
          (with_words s.memory words)

    -- a turn
    pub turns : step.Unblocked mode image built good facts left s m h p hp o.b
        → (cell : Cell) → step.code mode image built good facts left s m h p hp c.rip ≡ Some cell → (mark : Mark) → cell.mark ≡ mark
        → is_seen mark s c ≡ true → is_return (Some cell.ins) ≡ false → is_user c ≡ false → is_in_repeat c.rip ≡ false
        → (cpu : Processor) → step.Executes mode image built good facts left s m h p hp cell.ins cpu words → cpu.nmi_blocked ≡ false
        → (m' : Machine) (es : List Entry) → turn image m p ≡ (m', es) → (b' : BodyContext) → b'.service ≡ o.b.service → Keeps m' b'
        → (now : ℕ) → now ≤ body_edges mode image
        → Active mode image p now o.κ o.σ on.frame (switches_at mode image on.switching o.below) (first_fill fs) o.w b' cpu (with_words s.memory words)
        → (IsCounted s → went_shows p s mark cell.ins cpu words None ≡ es) → Simulated mode image left s m p
    turns unblocked cell hc mark hm is hr hu out cpu he hb m' es ht b' service y now few act hes =
        let s' : System = step.Behind mode image built good facts left s m h p hp (s.apics p) cpu words None in
        let moves = step.moves mode image built good facts left s m h p hp (s.apics p) cpu words None in
        let x' : abstract.Processor = record x { records = (processor m' p).records; queue = (processor m' p).queue; bodies = b' ∷ o.below } in
        let serving : (class : ℕ) → list_any (λ (a : BodyContext). serves mode image class a.service) (b' ∷ o.below)
        ≡ list_any (λ (a : BodyContext). serves mode image class a.service) x.bodies
        = λ class. ap (λ q. serves mode image class q || list_any (λ (a : BodyContext). serves mode image class a.service) o.below) service
        ∙ sym (ap (list_any (λ (a : BodyContext). serves mode image class a.service)) o.bodies) in
        let same : activations_by s p (s.activations p) cpu Stepped.Ran ≡ o.last ∷ o.others
        = went_stays image.processors s p cpu None cell.ins (step.fetches mode image built good facts left s m h p hp c.rip cell hc).1 hr ∙ o.acts in
        let chain = y.chain now cpu act in
        let none : list_any (is_nmi_body image) (b' ∷ o.below) ≡ false = none_nmi image (b' ∷ o.below)
        (chain_plain mode image p now x.running on.returning (x.tasks on.returning) on.frame on.switching fs (b' ∷ o.below) (o.last ∷ o.others) cpu
        (with_words s.memory words) chain) in
        let there : StandsOn mode image p (now + inner_edges (s.latches p)) s' x'
        = own_stands mode image p (left p) now s s' x x' cpu _ words on moves (record {
          running = on.running;
          waiting = on.waiting;
          switching = on.switching;
          marked = on.marked;
          returning = on.returning;
          is_returning = on.is_returning;
          current = λ e. current_is p o.σ names small narrow s.memory.words words are.allowed.written changes p words_same mode x.running (on.current e);
          mark = λ e. mark_is p o.σ names small narrow s.memory.words words are.allowed.written changes p words_same ∙ on.mark e;
          saved = λ i lt d. saved_stays mode p i (x.tasks i) s.memory.words words small (let n = four_tasks image good p hp in omega (arith, n, lt))
              (beside_stays p o.σ names s.memory.words words small narrow are.allowed.written changes mode i
              (let n = four_tasks image good p hp in omega (arith, n, lt))
              (step.beside mode image built good facts left s m h p hp o i d))
              (on.saved i lt d);
          tasks = on.tasks;
          latch = refl;
          blocked = hb ∙ sym none;
          apic = apic_again mode image (s.apics p) _ x.pending x.bodies (b' ∷ o.below) (at_same s.apics p p (s.apics p) refl) serving on.apic;
          slots = λ k lt. slot_same p o.σ names small narrow s.memory.words words are.allowed.written changes are.slots p k small lt ∙ on.slots k lt;
          fills = fs;
          free = y.free;
          records = y.records;
          short = few;
          chain = subst (λ as'. Chain mode image p now x.running on.returning (x.tasks on.returning) on.frame on.switching fs (b' ∷ o.below) as' cpu
              (with_words s.memory words)) (sym same) chain;
        }) in
        step.turn_with mode image built good facts left s m h p hp (step.first mode image built good facts left s m h p hp o) cell hc mark hm is hu (s.apics p)
        cpu words None (he (s.apics p) (s.latches p)) m' es ht x'
        (goes_on_inside (is_return (Some cell.ins)) (not (is_user c)) (not (nat_le nmi_entry c.rip && nat_lt c.rip repeat_entry)) (is_jump (Some cell.ins))
        (is_in_repeat c.rip) (length x.bodies) hr out ∙ ap length o.bodies)
        now there
        (stands_become mode image left s s' m m' p (now + inner_edges (s.latches p)) x' o.σ cpu _ words good built.accepted (four_tasks image good) h hp moves
        narrow names are.allowed changes
        (record {
          own = y.own;
          others = y.others;
          mail = refl;
          mail_nmi = refl;
          queues = y.queues;
          user = λ a u. user_same p o.σ names small narrow s.memory.words words are.allowed.written changes are.user a u ∙ h.shares.user a u
              ∙ sym (ap (λ (w : NatMap ℕ). w a) y.same_words);
          held = subst HoldsWords (sym y.same_words) h.shares.held;
          pages = λ i l. page_same p o.σ names small narrow s.memory.words words are.allowed.written changes are.pages i l ∙ h.shares.pages i l
              ∙ sym (ap (λ w. if w i then 1 else 0) y.same_pages);
          cells = λ k l. cell_same p o.σ names small narrow s.memory.words words are.allowed.written changes are.cells k l ∙ h.shares.cells k l
              ∙ sym (ap (λ w. w k) y.same_cells);
        })
        y.each
        (turn_legal image good built.accepted m p hp h.legal (m', es) ht) (turn_bases image m p h.bases (m', es) ht)
        (step.numbers_behind mode image built good facts left s m h p hp o unblocked m' es ht) (h.told ++ es)
        (turn_few image good built.accepted m p hp h.legal h.told h.calls s.totals.steps h.few (m', es) ht)
        (turn_calls image good built.accepted m p hp h.legal h.told h.calls (m', es) ht)
        (let d = step.domain mode image built good facts left s m h p hp in record { nmi = d.nmi; mail_nmi = d.mail_nmi }) there)
        hes
