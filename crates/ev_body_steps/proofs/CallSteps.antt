-- Steps that write words of calls which are the last context's own: those that it has taken, or the one whose record it fills. What they give: an edge, or a
-- turn of the abstract machine.
use Rattle.std.proofs.Common.{◌≡◌, ℕ, ◌+◌, ◌<◌, ◌≤◌, Bool, true, false, List, ◌∷◌, Option, Some, None, refl, sym, ◌∙◌, subst, arith, eq-eqb}
use Rattle.std.specs.Prelude.{◌==◌}
use Rattle.ev_isa.specs.Word.{NatMap}
use Rattle.ev_isa.specs.declared.mode.Mode.{Mode}
use Rattle.ev_body.specs.declared.image.Image.{Image}
use Rattle.ev_body.specs.WellFormed.{IsImage}
use Rattle.ev_listing.specs.Marks.{Mark}
use Rattle.ev_state.specs.Processor.{Processor, is_user}
use Rattle.ev_proc.specs.declared.stepped.Stepped.{Stepped}
use Rattle.ev_abstract.specs.Context.{BodyContext, CallId}
use Rattle.ev_abstract.specs.declared.entry.Entry.{Entry}
use Rattle.ev_abstract.specs.Machine.{Machine, processor}
use Rattle.ev_abstract.specs.Machine as abstract
use Rattle.ev_abstract.specs.Run.{turn}
use Rattle.ev_built.specs.Built.{IsBuilt}
use Rattle.ev_calls.specs.Lists.{QueueIs}
use Rattle.ev_concrete.specs.ConcreteRun.{System, is_seen, is_return, activations_by}
use Rattle.ev_concrete.specs.Depth.{is_in_repeat}
use Rattle.ev_symbolic.specs.Agrees.{Cell, with_words}
use Rattle.ev_activation.specs.Seat.{kind_of}
use Rattle.ev_relation.specs.Nmi.{inner_edges}
use Rattle.ev_relation.specs.Named.{Named, is_task_word, is_slot, is_cell, is_page_bit, is_user_word, have_none, AreOf, UnknownTo, Changes}
use Rattle.ev_relation.specs.Filling.{Filling, first_fill, rest_fills, is_filled, AreFree}
use Rattle.ev_relation.specs.Active.{Active}
use Rattle.ev_relation.specs.Relation.{IsContext, switches_at, body_edges, Chain, HoldsCall, StandsOn, Stands}
use Rattle.ev_relation.specs.Step.{IsCounted, Simulated}
use Rattle.ev_relation.proofs.Facts.{Facts}
use Rattle.ev_relation.proofs.Maps.{at_same}
use Rattle.ev_relation.proofs.Domains.{four_tasks}
use Rattle.ev_relation.proofs.Standing.{went_shows, went_stays}
use Rattle.ev_relation.proofs.Stays.{AreKept}
use Rattle.ev_relation.proofs.CallNames.{is_head_of, records_spared}
use Rattle.ev_relation.proofs.CallHolders.{AreAlone, beneath_kept, others_kept, queue_kept}
use Rattle.ev_relation.proofs.After.{AreNames, current_is, mark_is, slot_same, cell_same, page_same, user_same, tasks_same, AreSameWords, apic_again, own_becomes, stands_become}
use Rattle.ev_body_steps.proofs.CallKeeps as keeps
use Rattle.ev_body_steps.proofs.KernelStep as step

-- the names are words of calls alone, of records those of these calls
pub record AreOfCalls (p : ℕ) (mine : CallId → Bool) (below : List BodyContext) (names : List Named) : Type 0 where
  pub allowed : AreNames p names
  pub of : AreOf mine names
  pub unknown : UnknownTo below names
  pub tasks : have_none is_task_word names ≡ true
  pub slots : have_none is_slot names ≡ true
  pub cells : have_none is_cell names ≡ true
  pub pages : have_none is_page_bit names ≡ true
  pub user : have_none is_user_word names ≡ true

module _ (mode : Mode) (image : Image) (built : IsBuilt image) (good : IsImage image) (facts : Facts mode image)
    (left : NatMap ℕ) (s : System) (m : Machine) (h : Stands mode image left s m) (p : ℕ) (hp : p < image.processors)
    (o : step.Top mode image built good facts left s m h p hp) (mine : CallId → Bool)
    (alone : AreAlone mode image left s m h p hp o.b o.below o.bodies mine) where
  abbrev c : Processor
  c = s.cpus p

  abbrev x : abstract.Processor
  x = processor m p

  abbrev on : StandsOn mode image p (left p) s x
  on = step.on mode image built good facts left s m h p hp

  small : p < 32
  small = step.small mode image built good facts left s m h p hp

  narrow : o.σ.stack < 7
  narrow = step.narrow mode image built good facts left s m h p hp o

  module _ (words : NatMap ℕ) (names : List Named) (are : AreOfCalls p mine o.below names) (changes : Changes p o.σ names s.memory.words words)
      (fs : List (Option Filling)) (rest : rest_fills fs ≡ rest_fills on.fills)
      (unfilled : (k : ℕ) → mine (record { from = p; site = k }) ≡ false → is_filled k fs ≡ false → is_filled k on.fills ≡ false) where
    differ : (q : ℕ) → (q == p) ≡ false → q ≡ p → ⊥
    differ q e d = let clash : false ≡ true = sym e ∙ eq-eqb q p d in cc

    words_same : AreSameWords p o.σ names small narrow s.memory.words words are.allowed.written changes p
    words_same = tasks_same p o.σ names small narrow s.memory.words words are.allowed.written changes are.tasks p small

    -- the contexts below stand as they did, and the last one as it is given
    pub chain_behind : (b' : BodyContext) → kind_of image b' o.below ≡ o.κ → IsContext mode image b' → (now : ℕ) (cpu : Processor)
        → Active mode image p now o.κ o.σ on.frame (switches_at mode image on.switching o.below) (first_fill fs) o.w b' cpu (with_words s.memory words)
        → Chain mode image p now x.running on.returning (x.tasks on.returning) on.frame on.switching fs (b' ∷ o.below) (o.last ∷ o.others) cpu
        (with_words s.memory words)
    chain_behind b' k ctx now cpu act = step.with_last_filling mode image built good facts left s m h p hp o b' k ctx now cpu words names are.allowed.written
        are.unknown changes
        (subst (λ (y : StandsOn mode image p (left p) s x). AreKept p (rest_fills y.fills) o.below s.memory.words words)
        (sym (step.on_is mode image built good facts left s m h p hp))
        (beneath_kept mode image left s m h p hp o.b o.below o.bodies o.σ words names narrow good.count.1 are.allowed.written changes mine are.of alone))
        fs rest act

    -- an edge
    pub edge : (cell : Cell) → step.code mode image built good facts left s m h p hp c.rip ≡ Some cell → is_seen cell.mark s c ≡ false
        → is_return (Some cell.ins) ≡ false → is_user c ≡ false → is_in_repeat c.rip ≡ false
        → (cpu : Processor) → step.Executes mode image built good facts left s m h p hp cell.ins cpu words → cpu.nmi_blocked ≡ false
        → ((q : ℕ) → have_none (is_head_of q) names ≡ true) → AreFree x.records fs
        → ((q k : ℕ) → q < image.processors → k < 8 → mine (record { from = q; site = k }) ≡ true → (q ≡ p → is_filled k fs ≡ false)
        → HoldsCall mode image words q k ((processor m q).records k))
        → (now : ℕ) → now < on.own
        → Active mode image p now o.κ o.σ on.frame (switches_at mode image on.switching o.below) (first_fill fs) o.w o.b cpu (with_words s.memory words)
        → Simulated mode image left s m p
    edge cell hc hm hr hu out cpu he hb heads free held now fewer act =
        let same : activations_by s p (s.activations p) cpu Stepped.Ran ≡ o.last ∷ o.others
        = went_stays image.processors s p cpu None cell.ins (step.fetches mode image built good facts left s m h p hp c.rip cell hc).1 hr ∙ o.acts in
        let chain = subst (λ as'. Chain mode image p now x.running on.returning (x.tasks on.returning) on.frame on.switching fs x.bodies as' cpu
        (with_words s.memory words)) (sym same)
        (subst (λ bs. Chain mode image p now x.running on.returning (x.tasks on.returning) on.frame on.switching fs bs (o.last ∷ o.others) cpu
        (with_words s.memory words)) (sym o.bodies) (chain_behind o.b o.kind o.ctx now cpu act)) in
        let there : StandsOn mode image p (now + inner_edges (s.latches p))
        (step.Behind mode image built good facts left s m h p hp (s.apics p) cpu words None) x
        = own_becomes mode image p (left p) s (step.Behind mode image built good facts left s m h p hp (s.apics p) cpu words None) x o.σ cpu _ words x.tasks
        x.slots x.resched fs x.bodies now on small (four_tasks image good p hp)
        (step.moves mode image built good facts left s m h p hp (s.apics p) cpu words None) (step.beside mode image built good facts left s m h p hp o) narrow
        names are.allowed changes on.marked
        (λ e. current_is p o.σ names small narrow s.memory.words words are.allowed.written changes p words_same mode x.running (on.current e))
        (λ e. mark_is p o.σ names small narrow s.memory.words words are.allowed.written changes p words_same ∙ on.mark e)
        (λ k lt. slot_same p o.σ names small narrow s.memory.words words are.allowed.written changes are.slots p k small lt ∙ on.slots k lt)
        (λ i d. refl) on.tasks (hb ∙ sym (step.none_is_nmi mode image built good facts left s m h p hp)) x.pending
        (apic_again mode image (s.apics p) _ x.pending x.bodies x.bodies (at_same s.apics p p (s.apics p) refl) (λ class. refl) on.apic)
        free
        (records_spared p o.σ names small narrow s.memory.words words are.allowed.written changes mine are.of mode image p fs x.records x.records small
        (λ k lt off. refl) (λ k lt off e. on.records k lt (unfilled k off e)) (λ k lt is e. held p k hp lt is (λ d. e)))
        (let l = on.short in omega arith) chain in
        step.edge_with mode image built good facts left s m h p hp (step.first mode image built good facts left s m h p hp o) cell hc hm hr hu out cpu words he
        now fewer there
        (stands_become mode image left s (step.Behind mode image built good facts left s m h p hp (s.apics p) cpu words None) m m p
        (now + inner_edges (s.latches p)) x o.σ cpu _ words good built.accepted (four_tasks image good) h hp
        (step.moves mode image built good facts left s m h p hp (s.apics p) cpu words None) narrow names are.allowed changes
        (record {
          own = refl;
          others = λ q e. refl;
          mail = refl;
          mail_nmi = refl;
          queues = λ q lq. queue_kept mode image left s m h p hp o.b o.below o.bodies o.σ words names narrow good.count.1 are.allowed.written changes mine
              are.of alone q lq (heads q);
          user = λ a u. user_same p o.σ names small narrow s.memory.words words are.allowed.written changes are.user a u ∙ h.shares.user a u;
          held = h.shares.held;
          pages = λ i l. page_same p o.σ names small narrow s.memory.words words are.allowed.written changes are.pages i l ∙ h.shares.pages i l;
          cells = λ k l. cell_same p o.σ names small narrow s.memory.words words are.allowed.written changes are.cells k l ∙ h.shares.cells k l;
        })
        (λ q lq e. others_kept mode image left s m h p hp o.b o.below o.bodies o.σ words names narrow good.count.1 are.allowed.written changes mine are.of alone
        q lq (λ d. differ q e d) (processor m q).records (λ k lt off. refl) (λ k lt is off. held q k lq lt is (λ d. absurd (differ q e d))))
        h.legal h.bases h.numbers h.told (let few = h.few in omega (arith, few)) h.calls (step.domain mode image built good facts left s m h p hp) there)

    -- What a turn makes of the abstract machine: of p the last context is this one, and its records and queue may be others, as may those of other processors
    -- for these calls; memory holds them. It fills these records behind the step.
    pub record Makes (m' : Machine) (b' : BodyContext) : Type 0 where
      pub own : processor m' p
          ≡ record x { records = (processor m' p).records; queue = (processor m' p).queue; bodies = b' ∷ o.below }
      pub others : (q : ℕ) → (q == p) ≡ false
          → processor m' q ≡ record (processor m q) { records = (processor m' q).records; queue = (processor m' q).queue }
      pub same_words : m'.words ≡ m.words
      pub same_pages : m'.present ≡ m.present
      pub same_cells : m'.cells ≡ m.cells
      pub queues : (q : ℕ) → q < image.processors → QueueIs words q (processor m' q).queue
      pub old : (q k : ℕ) → k < 8 → mine (record { from = q; site = k }) ≡ false → (processor m' q).records k ≡ (processor m q).records k
      pub held : (q k : ℕ) → q < image.processors → k < 8 → mine (record { from = q; site = k }) ≡ true → (q ≡ p → is_filled k fs ≡ false)
          → HoldsCall mode image words q k ((processor m' q).records k)
      pub free : AreFree (processor m' p).records fs

    pub turns : step.Unblocked mode image built good facts left s m h p hp o.b
        → (cell : Cell) → step.code mode image built good facts left s m h p hp c.rip ≡ Some cell → (mark : Mark) → cell.mark ≡ mark
        → is_seen mark s c ≡ true → is_return (Some cell.ins) ≡ false → is_user c ≡ false → is_in_repeat c.rip ≡ false
        → (cpu : Processor) → step.Executes mode image built good facts left s m h p hp cell.ins cpu words → cpu.nmi_blocked ≡ false
        → (m' : Machine) (es : List Entry) → turn image m p ≡ (m', es) → (b' : BodyContext) → kind_of image b' o.below ≡ o.κ → IsContext mode image b'
        → b'.service ≡ o.b.service → Makes m' b' → (now : ℕ) → now ≤ body_edges mode image
        → Active mode image p now o.κ o.σ on.frame (switches_at mode image on.switching o.below) (first_fill fs) o.w b' cpu (with_words s.memory words)
        → (IsCounted s → went_shows p s mark cell.ins cpu words None ≡ es) → Simulated mode image left s m p
    turns unblocked cell hc mark hm is hr hu out cpu he hb m' es ht b' kind ctx service y now few act hes =
        keeps.turns mode image built good facts left s m h p hp o words names
        (record {
          allowed = are.allowed;
          unknown = are.unknown;
          tasks = are.tasks;
          slots = are.slots;
          cells = are.cells;
          pages = are.pages;
          user = are.user;
        })
        changes fs unblocked cell hc mark hm is hr hu out cpu he hb m' es ht b' service
        (record {
          own = y.own;
          others = y.others;
          same_words = y.same_words;
          same_pages = y.same_pages;
          same_cells = y.same_cells;
          queues = y.queues;
          free = y.free;
          records = records_spared p o.σ names small narrow s.memory.words words are.allowed.written changes mine are.of mode image p fs x.records
              (processor m' p).records small (y.old p) (λ k lt off e. on.records k lt (unfilled k off e)) (λ k lt is e. y.held p k hp lt is (λ d. e));
          each = λ q lq e. others_kept mode image left s m h p hp o.b o.below o.bodies o.σ words names narrow good.count.1 are.allowed.written changes mine
              are.of alone q lq (λ d. differ q e d) (processor m' q).records (y.old q) (λ k lt is off. y.held q k lq lt is (λ d. absurd (differ q e d)));
          chain = chain_behind b' kind ctx;
        })
        now few act hes
