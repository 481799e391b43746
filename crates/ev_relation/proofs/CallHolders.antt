-- Whose a call is: no other context, and no queue, has a call that a context has taken, or whose record it fills. So a step that writes the records of these
-- calls alone leaves what is said of all others.
use Rattle.std.proofs.Common.{◌≡◌, ℕ, ◌+◌, ◌<◌, ◌≤◌, Bool, true, false, ◌&&◌, List, [], ◌∷◌, Option, Some, None, refl, sym, ap, ◌∙◌, subst, arith}
use Rattle.std.specs.Prelude.{◌==◌, ◌||◌, nat_lt}
use Rattle.std.proofs.lemmas.Bool.{eqb-true, false_from_ne_true, ltb-true}
use Rattle.ev_isa.specs.Word.{NatMap}
use Rattle.ev_isa.specs.declared.mode.Mode.{Mode}
use Rattle.ev_body.specs.declared.image.Image.{Image}
use Rattle.ev_abstract.specs.Context.{BodyContext, CallId}
use Rattle.ev_abstract.specs.Machine.{Machine, processor, CallRecord, CallState, Free, Queued, Taken}
use Rattle.ev_abstract.specs.CrossCall.{record_of}
use Rattle.ev_concrete.specs.ConcreteRun.{System}
use Rattle.ev_calls.specs.Lists.{QueueIs}
use Rattle.ev_call_law.specs.Calls.{is_id, is_queued, is_taken, one_if, times, to_run, IsPlaced}
use Rattle.ev_call_law.proofs.Counts.{same_call, times_append, is_one}
use Rattle.ev_symbolic.proofs.Values.{and_left, and_right}
use Rattle.ev_activation.specs.Seat.{Seat}
use Rattle.ev_relation.specs.Named.{Named, have_none, AreWritten, AreOf, Changes}
use Rattle.ev_relation.specs.Filling.{Filling, first_fill, rest_fills, is_filled, IsFree, AreFree}
use Rattle.ev_relation.specs.Relation.{HoldsCall, Stands}
use Rattle.ev_relation.proofs.Stays.{AreKept, free_small, rest_small}
use Rattle.ev_relation.proofs.After.{filled_below, KeepsCalls, calls_bounded}
use Rattle.ev_relation.proofs.CallNames.{is_head_of, contexts_spared, calls_spared, queue_spared, filled_rest}

-- ---- records that are filled

-- what is filled is free
pub filled_free : (records : NatMap CallRecord) (fs : List (Option Filling)) → AreFree records fs → (k : ℕ) → is_filled k fs ≡ true
    → (records k).state ≡ Free
filled_free records [] h k e = absurd (cc)
filled_free records (None ∷ fs) h k e = filled_free records fs h.1 k e
filled_free records (Some f ∷ fs) h k e = by_site (f.site == k) refl e (λ l. filled_free records fs h.1 k l)
  where
    by_site : (t : Bool) → (f.site == k) ≡ t → (t || is_filled k fs) ≡ true → (is_filled k fs ≡ true → (records k).state ≡ Free) → (records k).state ≡ Free
    by_site true q l next = subst (λ i. (records i).state ≡ Free) (eqb-true f.site k q) h.0.free
    by_site false q l next = next l

-- so is what the last context fills, and no other one fills it
pub first_free : (records : NatMap CallRecord) (fs : List (Option Filling)) (f : Filling) → AreFree records fs → first_fill fs ≡ Some f
    → IsFree records f (rest_fills fs)
first_free records [] f h e = absurd (cc)
first_free records (None ∷ fs) f h e = absurd (cc)
first_free records (Some g ∷ fs) f h e = let same : g ≡ f = cc in subst (λ i. IsFree records i fs) same h.0

-- a step that fills the record of a site that nobody filled
pub free_more : (records : NatMap CallRecord) (fs : List (Option Filling)) (site number : ℕ) → site < 8 → (records site).state ≡ Free
    → (records site).number ≡ number → first_fill fs ≡ None → is_filled site fs ≡ false → AreFree records fs
    → AreFree records (Some (record { site = site; number = number }) ∷ rest_fills fs)
free_more records fs site number small free same none unfilled h = (
  record { small = small; free = free; number = same; alone = filled_below site fs none ∙ unfilled },
  free_rest fs h,
)
  where
    free_rest : (fs : List (Option Filling)) → AreFree records fs → AreFree records (rest_fills fs)
    free_rest [] h = tt
    free_rest (f ∷ fs) h = h.1

-- ---- where calls are

one_small : (t : Bool) → one_if t ≤ 1
one_small true = omega arith
one_small false = omega arith

not_queued : (st : CallState) → is_taken st ≡ true → is_queued st ≡ false
not_queued Free h = refl
not_queued Queued h = let clash : false ≡ true = h in absurd (cc)
not_queued Taken h = refl

not_free : (st : CallState) → is_taken st ≡ true → st ≡ Free → ⊥
not_free st h e = let clash : false ≡ true = sym (ap is_taken e) ∙ h in cc

none_there : (n : ℕ) (t u : Bool) → n ≡ one_if (t && u) → t ≡ false → n ≡ 0
none_there n true u h e = absurd (cc)
none_there n false u h e = h

none_here : (n : ℕ) (t u : Bool) → n ≡ one_if (t && u) → u ≡ false → n ≡ 0
none_here n t true h e = absurd (cc)
none_here n true false h e = h
none_here n false false h e = h

-- a call of no list
never_there : (n : ℕ) → n ≡ 0 → 0 < n → ⊥
never_there n e l = omega (arith, e, l)

module _ (mode : Mode) (image : Image) (left : NatMap ℕ) (s : System) (m : Machine) (h : Stands mode image left s m) (p : ℕ) (lp : p < image.processors)
    (b : BodyContext) (below : List BodyContext) (hb : (processor m p).bodies ≡ b ∷ below) where
  -- These calls are the last context's alone: no other context has one of them or fills its record, and no queue has one.
  pub record AreAlone (mine : CallId → Bool) : Type 0 where
    pub beneath : (k : CallId) → 0 < times k (to_run below) → mine k ≡ false
    pub others : (q : ℕ) → (q ≡ p → ⊥) → (k : CallId) → 0 < times k (to_run (processor m q).bodies) → mine k ≡ false
    pub queues : (q : ℕ) (k : CallId) → 0 < times k (processor m q).queue → mine k ≡ false
    pub filled_beneath : (site : ℕ) → is_filled site (rest_fills (h.each p lp).fills) ≡ true → mine (record { from = p; site = site }) ≡ false
    pub filled : (q : ℕ) (lq : q < image.processors) → (q ≡ p → ⊥) → (site : ℕ) → is_filled site (h.each q lq).fills ≡ true
        → mine (record { from = q; site = site }) ≡ false

  -- how often the last context and those below it have a call
  counted : (k : CallId) → times k (to_run (processor m p).bodies) ≡ times k b.calls + times k (to_run below)
  counted k = ap (λ bs. times k (to_run bs)) hb ∙ times_append k b.calls (to_run below)

  -- ---- calls that it has taken

  -- whether it has taken a call
  abbrev pub has_taken : CallId → Bool
  has_taken k = nat_lt 0 (times k b.calls)

  taken_here : (k : CallId) → has_taken k ≡ true
      → (is_taken (record_of m k).state ≡ true) × ((record_of m k).to ≡ p) × (times k (to_run below) ≡ 0)
  taken_here k e =
      let placed : IsPlaced image m k = h.calls.placed k in
      let some : 0 < times k b.calls = ltb-true 0 (times k b.calls) e in
      let is : times k (to_run (processor m p).bodies) ≡ one_if (is_taken (record_of m k).state && ((record_of m k).to == p)) = placed.list p in
      let c = counted k in
      let small = one_small (is_taken (record_of m k).state && ((record_of m k).to == p)) in
      let both = is_one (is_taken (record_of m k).state && ((record_of m k).to == p)) (omega (arith, is, c, some)) in (
        and_left (is_taken (record_of m k).state) _ both,
        eqb-true (record_of m k).to p (and_right (is_taken (record_of m k).state) _ both),
        omega (arith, is, c, some, small),
      )

  -- no record that is filled is one of theirs
  pub taken_unfilled : (q : ℕ) (lq : q < image.processors) (site : ℕ) → is_filled site (h.each q lq).fills ≡ true
      → has_taken (record { from = q; site = site }) ≡ false
  taken_unfilled q lq site e = false_from_ne_true (has_taken (record { from = q; site = site })) (λ t.
      not_free _ (taken_here (record { from = q; site = site }) t).0 (filled_free (processor m q).records (h.each q lq).fills (h.each q lq).free site e))

  pub taken_alone : AreAlone has_taken
  taken_alone = record {
    beneath = λ k some. false_from_ne_true (has_taken k) (λ t. never_there _ (taken_here k t).2 some);
    others = λ q d k some. false_from_ne_true (has_taken k) (λ t.
        never_there _ (none_here _ (is_taken (record_of m k).state) ((record_of m k).to == q) ((h.calls.placed k).list q)
        (false_from_ne_true ((record_of m k).to == q) (λ e. d (sym (eqb-true (record_of m k).to q e) ∙ (taken_here k t).1)))) some);
    queues = λ q k some. false_from_ne_true (has_taken k) (λ t.
        never_there _ (none_there _ (is_queued (record_of m k).state) ((record_of m k).to == q) ((h.calls.placed k).queue q)
        (not_queued (record_of m k).state (taken_here k t).0)) some);
    filled_beneath = λ site e. taken_unfilled p lp site (filled_rest site (h.each p lp).fills e);
    filled = λ q lq d site e. taken_unfilled q lq site e;
  }

  -- ---- the call whose record it fills

  -- whether it is the call of a site of the processor
  abbrev pub is_of : ℕ → CallId → Bool
  is_of site k = is_id k (record { from = p; site = site })

  -- a call whose record is free is nowhere
  pub free_nowhere : (k : CallId) → (record_of m k).state ≡ Free → (q : ℕ)
      → (times k (to_run (processor m q).bodies) ≡ 0) × (times k (processor m q).queue ≡ 0)
  free_nowhere k e q = (
    none_there _ (is_taken (record_of m k).state) ((record_of m k).to == q) ((h.calls.placed k).list q) (ap is_taken e),
    none_there _ (is_queued (record_of m k).state) ((record_of m k).to == q) ((h.calls.placed k).queue q) (ap is_queued e),
  )

  pub filled_alone : (f : Filling) → first_fill (h.each p lp).fills ≡ Some f → AreAlone (is_of f.site)
  filled_alone f first = record {
    beneath = λ k some. away k (λ e. never_there _ (free_nowhere k e p).0 (let c = counted k in omega (arith, c, some)));
    others = λ q d k some. away k (λ e. never_there _ (free_nowhere k e q).0 some);
    queues = λ q k some. away k (λ e. never_there _ (free_nowhere k e q).1 some);
    filled_beneath = λ site e. false_from_ne_true (is_of f.site (record { from = p; site = site })) (λ t.
        let same : site ≡ f.site = ap (λ (i : CallId). i.site) (same_call (record { from = p; site = site }) (record { from = p; site = f.site }) t) in
        let clash : false ≡ true = sym (free_first.alone) ∙ subst (λ i. is_filled i (rest_fills (h.each p lp).fills) ≡ true) same e in cc);
    filled = λ q lq d site e. false_from_ne_true (is_of f.site (record { from = q; site = site })) (λ t.
        d (ap (λ (i : CallId). i.from) (same_call (record { from = q; site = site }) (record { from = p; site = f.site }) t)));
  }
    where
      free_first : IsFree (processor m p).records f (rest_fills (h.each p lp).fills)
      free_first = first_free (processor m p).records (h.each p lp).fills f (h.each p lp).free first

      away : (k : CallId) → ((record_of m k).state ≡ Free → ⊥) → is_of f.site k ≡ false
      away k never = false_from_ne_true (is_of f.site k) (λ t. never
          (subst (λ (i : CallId). (record_of m i).state ≡ Free) (sym (same_call k (record { from = p; site = f.site }) t)) free_first.free))

  -- ---- a step that writes the records of such calls alone

  module _ (σ : Seat) (words : NatMap ℕ) (names : List Named) (hs : σ.stack < 7) (eight : image.processors ≤ 8) (written : AreWritten names)
      (changes : Changes p σ names s.memory.words words) (mine : CallId → Bool) (of : AreOf mine names) (alone : AreAlone mine) where
    hp : p < 32
    hp = omega (arith, lp, eight)

    -- leaves those of the contexts beneath
    pub beneath_kept : AreKept p (rest_fills (h.each p lp).fills) below s.memory.words words
    beneath_kept = contexts_spared p σ names hp hs s.memory.words words written changes mine of p hp (rest_fills (h.each p lp).fills)
        (rest_small (h.each p lp).fills (free_small (processor m p).records (h.each p lp).fills (h.each p lp).free)) below
        (λ k some. let l = calls_bounded mode image m h.told h.calls eight p k (let c = counted k in omega (arith, c, some)) in
        (alone.beneath k some, l.0, l.1))
        alone.filled_beneath

    -- those of another processor, whose records are those of before but for these calls
    pub others_kept : (q : ℕ) (lq : q < image.processors) → (q ≡ p → ⊥) → (rs : NatMap CallRecord)
        → ((site : ℕ) → site < 8 → mine (record { from = q; site = site }) ≡ false → rs site ≡ (processor m q).records site)
        → ((site : ℕ) → site < 8 → mine (record { from = q; site = site }) ≡ true → is_filled site (h.each q lq).fills ≡ false
        → HoldsCall mode image words q site (rs site))
        → KeepsCalls mode image q (left q) s (processor m q) (h.each q lq) rs words
    others_kept q lq d rs old new = calls_spared p σ names hp hs s.memory.words words written changes mine of mode image q (left q) s (processor m q)
        (h.each q lq) refl (omega (arith, lq, eight)) rs
        (λ k some. let l = calls_bounded mode image m h.told h.calls eight q k some in (alone.others q d k some, l.0, l.1)) (alone.filled q lq d) old new

    -- and a queue whose head it doesn't write
    pub queue_kept : (q : ℕ) → q < image.processors → have_none (is_head_of q) names ≡ true → QueueIs words q (processor m q).queue
    queue_kept q lq none = queue_spared p σ names hp hs s.memory.words words written changes mine of q (processor m q).queue (omega (arith, lq, eight)) none
        (alone.queues q) (h.shares.queues q lq)
