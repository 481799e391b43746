-- The exchange of `take` writes the head of its processor's queue alone. What memory has of calls behind it: the queue is empty and its calls are left to be
-- turned round, and all else is as it was.
use Rattle.std.proofs.Common.{◌≡◌, inl, inr, ℕ, ◌+◌, ◌<◌, Bool, true, false, ◌&&◌, List, [], ◌∷◌, None, Some, refl, sym, ap, ◌∙◌, subst, arith, eqb-true}
use Rattle.std.specs.Prelude.{◌==◌, nat_lt, not}
use Rattle.std.proofs.lemmas.Bool.{false_from_ne_true, ltb-true, lt-ltb}
use Rattle.ev_isa.specs.Word.{NatMap, put_at}
use Rattle.ev_isa.specs.declared.mode.Mode.{Mode}
use Rattle.ev_body.specs.declared.image.Image.{Image}
use Rattle.ev_body.specs.WellFormed.{IsImage}
use Rattle.ev_listing.specs.AddressMap.{pcpu, head_offset}
use Rattle.ev_abstract.specs.Context.{BodyContext, CallId}
use Rattle.ev_abstract.specs.CrossCall.{record_of}
use Rattle.ev_abstract.specs.Machine.{CallState, Free, Queued, Taken, CallRecord, Machine, processor}
use Rattle.ev_abstract.specs.Machine as abstract
use Rattle.ev_built.specs.Built.{IsBuilt}
use Rattle.ev_calls.specs.Lists.{IsTurning, QueueIs}
use Rattle.ev_call_law.specs.Calls.{is_free, is_queued, is_taken, one_if, times}
use Rattle.ev_call_law.proofs.Counts.{equal_sym}
use Rattle.ev_concrete.specs.ConcreteRun.{System}
use Rattle.ev_relation.specs.Named.{Named, Head, have_none, UnknownTo, Changes}
use Rattle.ev_relation.specs.Filling.{is_filled}
use Rattle.ev_relation.specs.Relation.{HoldsCall, Stands}
use Rattle.ev_relation.proofs.After.{KeepsCalls, calls_bounded}
use Rattle.ev_relation.proofs.CallHolders.{filled_free}
use Rattle.ev_relation.proofs.CallNames.{is_head_of, calls_spared, record_spared, queue_spared, queue_taken}
use Rattle.ev_relation.proofs.Facts.{Facts}
use Rattle.ev_relation.proofs.Maps.{at_same}
use Rattle.ev_relation.proofs.Records.{call_stays}
use Rattle.ev_body_steps.proofs.CallKeeps.{AreCallWords}
use Rattle.ev_body_steps.proofs.ItemWords.{writes_name}
use Rattle.ev_body_steps.proofs.KernelStep as step
use Rattle.ev_body_steps.proofs.QueueLength.{not_free, queued_here, queue_within}
use Rattle.ev_body_steps.proofs.TakeQueue.{IsOrTaken, emptied, behind, own_is, other_queue, record_behind, record_emptied, holds_taken}

-- a call that is queued isn't taken, nor free
not_taken : (st : CallState) → is_queued st ≡ true → is_taken st ≡ false
not_taken Free e = refl
not_taken Queued e = refl
not_taken Taken e = let clash : false ≡ true = e in absurd (cc)

never_free : (st : CallState) → is_queued st ≡ true → st ≡ Free → ⊥
never_free st e q = let clash : false ≡ true = sym (ap is_queued q) ∙ e in cc

-- the head of a queue is no private word
unknown_head : (p : ℕ) (below : List BodyContext) → UnknownTo below (Head p ∷ [])
unknown_head p [] = tt
unknown_head p (b ∷ below) = refl

-- a call that isn't there isn't counted
none_there : (n : ℕ) (t u : Bool) → n ≡ one_if (t && u) → t ≡ false → 0 < n → ⊥
none_there n true u e f l = absurd (cc)
none_there n false u e f l = omega (arith, e, l)

module _ (mode : Mode) (image : Image) (built : IsBuilt image) (good : IsImage image) (facts : Facts mode image)
    (left : NatMap ℕ) (s : System) (m : Machine) (h : Stands mode image left s m) (p : ℕ) (hp : p < image.processors)
    (o : step.Top mode image built good facts left s m h p hp) where
  abbrev x : abstract.Processor
  x = processor m p

  abbrev queue : List CallId
  queue = x.queue

  abbrev words : NatMap ℕ
  words = s.memory.words

  abbrev head : ℕ
  head = pcpu p + head_offset

  -- memory behind the exchange
  abbrev pub words' : NatMap ℕ
  words' = put_at words head 0

  abbrev pub names : List Named
  names = Head p ∷ []

  small : p < 32
  small = step.small mode image built good facts left s m h p hp

  narrow : o.σ.stack < 7
  narrow = step.narrow mode image built good facts left s m h p hp o

  -- the head is a word of calls, and no record is among the names
  pub are : AreCallWords p o.below names
  are = record {
    allowed = record { written = (small, tt); own = λ q d. (none q, tt) };
    unknown = unknown_head p o.below;
    tasks = refl;
    slots = refl;
    cells = refl;
    pages = refl;
    user = refl;
  }
    where
      none : (q : ℕ) → None ≡ Some q → ⊥
      none q e = absurd (cc)

  pub changes : Changes p o.σ names words words'
  changes = writes_name mode image built good facts left s m h p hp o (Head p) 0

  -- ---- the queues

  abbrev no_call : CallId → Bool
  no_call k = false

  -- its calls are left to be turned round
  pub turning : IsTurning words' (words head) 0 queue × QueueIs words' p []
  turning = queue_taken p o.σ names small narrow words words' are.allowed.written changes no_call tt p queue small (λ j some. refl)
      (at_same words head head 0 refl) (h.shares.queues p hp)

  -- and all other queues are as they were
  pub queues : (d : BodyContext) (q : ℕ) → q < image.processors → QueueIs words' q (processor (behind m p o.b o.below o.bodies d) q).queue
  queues d q lq = pick (q == p) refl
    where
      pick : (t : Bool) → (q == p) ≡ t → QueueIs words' q (processor (behind m p o.b o.below o.bodies d) q).queue
      pick true e = subst (λ i. QueueIs words' i (processor (behind m p o.b o.below o.bodies d) i).queue) (sym (eqb-true q p e))
          (subst (QueueIs words' p) (sym (ap (λ (y : abstract.Processor). y.queue) (own_is m p o.b o.below o.bodies d))) turning.1)
      pick false e = subst (QueueIs words' q) (sym (other_queue m p o.b o.below o.bodies d q e))
          (queue_spared p o.σ names small narrow words words' are.allowed.written changes no_call tt q (processor m q).queue
          (let few = good.count.1 in omega (arith, lq, few)) (none_other q e) (λ k some. refl) (h.shares.queues q lq))
        where
          none_other : (q : ℕ) → (q == p) ≡ false → have_none (is_head_of q) names ≡ true
          none_other q e = ap (λ t. not t && true) (equal_sym p q ∙ e)

  -- ---- the records

  abbrev pub has_queued : CallId → Bool
  has_queued k = nat_lt 0 (times k queue)

  -- a call of the queue is queued
  queued : (k : CallId) → 0 < times k queue → is_queued (record_of m k).state ≡ true
  queued = queued_here image m h.told h.calls p

  -- A record that nobody fills is held by memory as it is behind the step.
  holds : (d : BodyContext) (q k : ℕ) → q < image.processors → k < 8 → HoldsCall mode image words q k ((processor m q).records k)
      → HoldsCall mode image words' q k ((processor (behind m p o.b o.below o.bodies d) q).records k)
  holds d q k lq lk held = pick (record_behind m p o.b o.below o.bodies d key)
    where
      key : CallId
      key = record { from = q; site = k }

      stays : HoldsCall mode image words' q k (record_of m key)
      stays = call_stays mode image words words' q k (record_of m key) (record_spared p o.σ names small narrow words words' are.allowed.written changes no_call
          tt key refl (let few = good.count.1 in omega (arith, lq, few)) lk) held

      pick : IsOrTaken queue key (record_of (behind m p o.b o.below o.bodies d) key) (record_of m key)
          → HoldsCall mode image words' q k (record_of (behind m p o.b o.below o.bodies d) key)
      pick (inl e) = subst (HoldsCall mode image words' q k) (sym e) stays
      pick (inr e) = subst (HoldsCall mode image words' q k) (sym e.1) (holds_taken mode image words' q k (record_of m key) (queued key e.0) stays)

  -- What it keeps of a processor's calls.
  pub keeps : (d : BodyContext) (q : ℕ) (lq : q < image.processors)
      → KeepsCalls mode image q (left q) s (processor m q) (h.each q lq) (processor (behind m p o.b o.below o.bodies d) q).records words'
  keeps d q lq =
      let few = good.count.1 in
      calls_spared p o.σ names small narrow words words' are.allowed.written changes has_queued tt mode image q (left q) s (processor m q) (h.each q lq) refl
      (omega (arith, lq, few)) (processor (behind m p o.b o.below o.bodies d) q).records
      (λ k some. let bounds = calls_bounded mode image m h.told h.calls few q k some in (
        false_from_ne_true (has_queued k) (λ t. none_there _ (is_taken (record_of m k).state) _ ((h.calls.placed k).list q)
            (not_taken (record_of m k).state (queued k (ltb-true 0 (times k queue) t))) some),
        bounds.0,
        bounds.1,
      ))
      (λ site e. false_from_ne_true (has_queued (record { from = q; site = site })) (λ t. never_free _
      (queued (record { from = q; site = site }) (ltb-true 0 (times (record { from = q; site = site }) queue) t))
      (filled_free (processor m q).records (h.each q lq).fills (h.each q lq).free site e)))
      (λ site lt off. same site off (record_behind m p o.b o.below o.bodies d (record { from = q; site = site })))
      (λ site lt on e. holds d q site lq lt ((h.each q lq).records site lt e))
    where
      same : (site : ℕ) → has_queued (record { from = q; site = site }) ≡ false
          → IsOrTaken queue (record { from = q; site = site }) (record_of (behind m p o.b o.below o.bodies d) (record { from = q; site = site }))
          (record_of m (record { from = q; site = site }))
          → (processor (behind m p o.b o.below o.bodies d) q).records site ≡ (processor m q).records site
      same site off (inl e) = e
      same site off (inr e) = let clash : false ≡ true = sym off ∙ lt-ltb 0 (times (record { from = q; site = site }) queue) e.0 in absurd (cc)

  -- A call of the queue is under way behind the step, and memory holds its record.
  pub taken_here : (d : BodyContext) (k : CallId) → 0 < times k queue
      → HoldsCall mode image words' k.from k.site (record_of (emptied m p o.b o.below o.bodies) k)
      × (is_free (record_of (emptied m p o.b o.below o.bodies) k).state ≡ false)
  taken_here d k some =
      let within = queue_within image m h.told h.calls p k some in
      let same : record_of (emptied m p o.b o.below o.bodies) k ≡ record_of (behind m p o.b o.below o.bodies d) k
      = record_emptied m p o.b o.below o.bodies d k in
      let unfilled : is_filled k.site (h.each k.from within.0).fills ≡ false = false_from_ne_true (is_filled k.site (h.each k.from within.0).fills)
      (λ t. never_free _ (queued k some)
      (filled_free (processor m k.from).records (h.each k.from within.0).fills (h.each k.from within.0).free k.site t)) in (
        subst (HoldsCall mode image words' k.from k.site) (sym same)
            (holds d k.from k.site within.0 within.1 ((h.each k.from within.0).records k.site within.1 unfilled)),
        ap (λ (r : CallRecord). is_free r.state) same ∙ pick (record_behind m p o.b o.below o.bodies d k),
      )
    where
      pick : IsOrTaken queue k (record_of (behind m p o.b o.below o.bodies d) k) (record_of m k)
          → is_free (record_of (behind m p o.b o.below o.bodies d) k).state ≡ false
      pick (inl e) = ap (λ (r : CallRecord). is_free r.state) e ∙ not_free (record_of m k).state (queued k some)
      pick (inr e) = ap (λ (r : CallRecord). is_free r.state) e.1
