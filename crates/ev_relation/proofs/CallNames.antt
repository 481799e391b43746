-- Steps that write words of call records, or the head of a queue: they leave the records of all other calls, the contexts that have those or fill them, and the
-- queues that hold those. And whose calls no other context and no queue has.
use Rattle.std.proofs.Common.{◌≡◌, ◌⊎◌, inl, inr, ℕ, ◌+◌, ◌*◌, ◌<◌, ◌≤◌, Bool, true, false, not, List, [], ◌∷◌, Option, Some, None, refl, sym, ap, ◌∙◌, subst, arith}
use Rattle.std.specs.Prelude.{◌%◌, ◌++◌, ◌==◌, reverse}
use Rattle.std.proofs.lemmas.Bool.{ne_eqb, or_left, or_right, eq-eqb}
use Rattle.ev_isa.specs.Word.{NatMap, put_at}
use Rattle.ev_isa.specs.declared.mode.Mode.{Mode}
use Rattle.ev_body.specs.declared.image.Image.{Image}
use Rattle.ev_listing.specs.AddressMap.{pcpu, record_address, head_offset}
use Rattle.ev_abstract.specs.Context.{BodyContext, CallId}
use Rattle.ev_abstract.specs.Machine.{Machine, processor, CallRecord, CallState, Free, Queued, Taken}
use Rattle.ev_abstract.specs.Machine as abstract
use Rattle.ev_concrete.specs.ConcreteRun.{System}
use Rattle.ev_calls.specs.Records.{Linked}
use Rattle.ev_calls.specs.Lists.{IsCall, link_of, IsTurning, QueueIs}
use Rattle.ev_calls.specs.Lists.{address_of as list_address}
use Rattle.ev_calls.proofs.Lists.{queues_grow, queues_are_taken}
use Rattle.ev_relation.proofs.Maps.{at_same, at_other}
use Rattle.ev_call_law.specs.Calls.{is_id, times, to_run}
use Rattle.ev_call_law.proofs.Counts.{same_call, times_other, times_append}
use Rattle.ev_activation.specs.Seat.{Seat}
use Rattle.ev_relation.specs.Named.{Named, Head, RecordWord, address_of, have_none, IsWritten, AreWritten, AreOf, Outside, NotNamed, Changes}
use Rattle.ev_relation.specs.Filling.{Filling, first_fill, rest_fills, is_of_site, is_filled, AreFree}
use Rattle.ev_relation.specs.Relation.{HoldsCall, StandsOn}
use Rattle.ev_relation.proofs.Words.{three_orders, area_word}
use Rattle.ev_relation.proofs.Records.{RecordStays, times_reverse, linked_again, turning_again, call_stays}
use Rattle.ev_relation.proofs.Stays.{IsSmall, AreSmall, FillStays, AreKept, free_small, first_is_small, rest_small}
use Rattle.ev_relation.proofs.After.{call_apart, record_word, free, KeepsCalls}

-- ---- words of records

-- a word of another record
other_record : (p i j q k o : ℕ) → j + 8 ≤ 0x40 → i < 8 → k < 8 → o < 0x40 → (p ≡ q → i ≡ k → ⊥)
    → Outside (record_address p i + j) (record_address p i + j + 8) (record_address q k + o)
other_record p i j q k o hj hi hk ho differ = by_processor (three_orders p q)
  where
    by_site : p ≡ q → (i < k) ⊎ ((i ≡ k) ⊎ (k < i)) → Outside (record_address p i + j) (record_address p i + j + 8) (record_address q k + o)
    by_site e (inl l) = inr (omega arith)
    by_site e (inr (inl same)) = absurd (differ e same)
    by_site e (inr (inr l)) = inl (omega arith)

    by_processor : (p < q) ⊎ ((p ≡ q) ⊎ (q < p)) → Outside (record_address p i + j) (record_address p i + j + 8) (record_address q k + o)
    by_processor (inl l) = inr (omega arith)
    by_processor (inr (inl e)) = by_site e (three_orders i k)
    by_processor (inr (inr l)) = inl (omega arith)

-- a multiple of eight below the end of a record leaves room for its word
word_fits : (o : ℕ) → o < 0x40 → o % 8 ≡ 0 → o + 8 ≤ 0x40
word_fits o l e = omega (arith, l, e)

-- whether a name is the head of this processor's queue
abbrev pub is_head_of : ℕ → Named → Bool
is_head_of q (Head p) = p == q
is_head_of q x = false

head_apart : (x : Named) → (q : ℕ) → q < 32 → IsWritten x → not (is_head_of q x) ≡ true
    → Outside (address_of x) (address_of x + 8) (pcpu q + head_offset)
head_apart (Head p) q hq w h = by_processor (three_orders p q)
  where
    by_processor : (p < q) ⊎ ((p ≡ q) ⊎ (q < p)) → Outside (pcpu p + 0x30) (pcpu p + 0x30 + 8) (pcpu q + head_offset)
    by_processor (inl l) = inr (omega arith)
    by_processor (inr (inl e)) = let same : (p == q) ≡ true = eq-eqb p q e in absurd (cc)
    by_processor (inr (inr l)) = inl (omega arith)
head_apart (RecordWord p k o) q hq w h =
    let l = w.1 in let b = w.2 in
    subst (λ z. Outside z (z + 8) (pcpu q + head_offset)) (sym (record_word p k o))
    (area_word p q (0x800 + 0x40 * k + o) 0x30 (omega (arith, l, b)) (omega arith) (inl (omega arith)))
head_apart x q hq w h = call_apart x w refl q 0x30 hq (omega arith, omega arith, inl (omega arith))

-- what the last context fills is filled, and what those below it fill
pub filled_first : (site : ℕ) (fs : List (Option Filling)) → is_of_site site (first_fill fs) ≡ true → is_filled site fs ≡ true
filled_first site [] h = h
filled_first site (f ∷ fs) h = or_left (is_of_site site f) (is_filled site fs) h

pub filled_rest : (site : ℕ) (fs : List (Option Filling)) → is_filled site (rest_fills fs) ≡ true → is_filled site fs ≡ true
filled_rest site [] h = h
filled_rest site (f ∷ fs) h = or_right (is_of_site site f) (is_filled site fs) h

-- a call of a list in memory is one of a processor and a site
pub linked_bounded : (words : NatMap ℕ) (a : ℕ) (ks : List CallId) → Linked words a ks → (k : CallId) → 0 < times k ks → (k.from < 32) × (k.site < 8)
linked_bounded words a [] h k some = absurd (omega (arith, some))
linked_bounded words a (j ∷ js) h k some = by_first (is_id k j) refl (λ l. linked_bounded words (words (a + 0x18)) js h.3 k l)
  where
    by_first : (t : Bool) → is_id k j ≡ t → (0 < times k js → (k.from < 32) × (k.site < 8)) → (k.from < 32) × (k.site < 8)
    by_first true e next = subst (λ (i : CallId). (i.from < 32) × (i.site < 8)) (sym (same_call k j e)) (h.0, h.1)
    by_first false e next = next (let c = times_other k j js e in omega (arith, c, some))

module _ (p : ℕ) (σ : Seat) (names : List Named) (hp : p < 32) (hs : σ.stack < 7) (m n : NatMap ℕ) (written : AreWritten names)
    (changes : Changes p σ names m n) where
  -- the head of a queue that isn't among the names
  pub head_spared : (q : ℕ) → q < 32 → have_none (is_head_of q) names ≡ true → n (pcpu q + head_offset) ≡ m (pcpu q + head_offset)
  head_spared q hq none = changes (pcpu q + head_offset) (inl (omega arith))
      (free (is_head_of q) (pcpu q + head_offset) (λ x w s. head_apart x q hq w s) names written none)

  module _ (mine : CallId → Bool) (of : AreOf mine names) where
    -- no word of the names is one of another call's record
    apart : (xs : List Named) → AreWritten xs → AreOf mine xs → (k : CallId) → mine k ≡ false → k.from < 32 → k.site < 8 → (o : ℕ) → o < 0x40
        → NotNamed xs (record_address k.from k.site + o)
    apart [] w a k off hf hk o ho = tt
    apart (RecordWord q i j ∷ xs) w a k off hf hk o ho = (
      other_record q i j k.from k.site o (word_fits j w.0.2 w.0.3) w.0.1 hk ho (λ e f. not_mine e f),
      apart xs w.1 a.1 k off hf hk o ho,
    )
      where
        not_mine : q ≡ k.from → i ≡ k.site → ⊥
        not_mine e f =
            let on : mine k ≡ true = subst (λ t. mine (record { from = k.from; site = t }) ≡ true) f
            (subst (λ r. mine (record { from = r; site = i }) ≡ true) e a.0) in
            let clash : true ≡ false = sym on ∙ off in cc
    apart (Head q ∷ xs) w a k off hf hk o ho = (
      subst (Outside (pcpu q + 0x30) (pcpu q + 0x30 + 8)) (sym (record_word k.from k.site o))
          (area_word q k.from 0x30 (0x800 + 0x40 * k.site + o) (omega arith) (omega (arith, hk, ho)) (inr (omega arith))),
      apart xs w.1 a k off hf hk o ho,
    )
    apart (x ∷ xs) w a k off hf hk o ho = (
      subst (Outside (address_of x) (address_of x + 8)) (sym (record_word k.from k.site o))
          (call_apart x w.0 refl k.from (0x800 + 0x40 * k.site + o) hf (omega (arith, hk, ho), omega arith, inr (omega arith))),
      apart xs w.1 a k off hf hk o ho,
    )

    -- the record of a call that isn't one of these
    pub record_spared : (k : CallId) → mine k ≡ false → k.from < 32 → k.site < 8 → RecordStays k m n
    record_spared k off hf hk o ho = changes (record_address k.from k.site + o) (inl (omega (arith, hf, hk, ho)))
        (apart names written of k off hf hk o ho)

    -- those of the calls of contexts, and those that they fill
    pub contexts_spared : (q : ℕ) → q < 32 → (fs : List (Option Filling)) → AreSmall fs → (bs : List BodyContext)
        → ((k : CallId) → 0 < times k (to_run bs) → (mine k ≡ false) × (k.from < 32) × (k.site < 8))
        → ((site : ℕ) → is_filled site fs ≡ true → mine (record { from = q; site = site }) ≡ false) → AreKept q fs bs m n
    contexts_spared q hq fs small [] calls filled = tt
    contexts_spared q hq fs small (b ∷ below) calls filled = (
      (
        (λ k h. let c = calls k (let e = times_append k b.calls (to_run below) in omega (arith, e, h)) in record_spared k c.0 c.1 c.2),
        first_spared (first_fill fs) (first_is_small fs small) (λ site h. filled site (filled_first site fs h)),
      ),
      contexts_spared q hq (rest_fills fs) (rest_small fs small) below
          (λ k h. calls k (let e = times_append k b.calls (to_run below) in omega (arith, e, h))) (λ site h. filled site (filled_rest site fs h)),
    )
      where
        first_spared : (g : Option Filling) → IsSmall g → ((site : ℕ) → is_of_site site g ≡ true → mine (record { from = q; site = site }) ≡ false)
            → FillStays q g m n
        first_spared None l away = tt
        first_spared (Some f) l away = record_spared (record { from = q; site = f.site }) (away f.site (eq-eqb f.site f.site refl)) hq l

    -- The records of a processor's calls that nobody fills behind the step, which are rs: those of before, but for the calls that are among the names, of which
    -- memory has to hold what is new.
    pub records_spared : (mode : Mode) (image : Image) (q : ℕ) (fs : List (Option Filling)) (xs rs : NatMap CallRecord) → q < 32
        → ((site : ℕ) → site < 8 → mine (record { from = q; site = site }) ≡ false → rs site ≡ xs site)
        → ((site : ℕ) → site < 8 → mine (record { from = q; site = site }) ≡ false → is_filled site fs ≡ false → HoldsCall mode image m q site (xs site))
        → ((site : ℕ) → site < 8 → mine (record { from = q; site = site }) ≡ true → is_filled site fs ≡ false → HoldsCall mode image n q site (rs site))
        → (site : ℕ) → site < 8 → is_filled site fs ≡ false → HoldsCall mode image n q site (rs site)
    records_spared mode image q fs xs rs hq old held new k lt unfilled = by_call (mine (record { from = q; site = k })) refl
      where
        by_call : (t : Bool) → mine (record { from = q; site = k }) ≡ t → HoldsCall mode image n q k (rs k)
        by_call true e = new k lt e unfilled
        by_call false e = subst (HoldsCall mode image n q k) (sym (old k lt e))
            (call_stays mode image m n q k (xs k) (record_spared (record { from = q; site = k }) e hq lt) (held k lt e unfilled))

    -- What memory holds of another processor's calls, whose records are rs behind the step.
    pub calls_spared : (mode : Mode) (image : Image) (q left : ℕ) (s : System) (x : abstract.Processor) (on : StandsOn mode image q left s x)
        → s.memory.words ≡ m → q < 32 → (rs : NatMap CallRecord)
        → ((k : CallId) → 0 < times k (to_run x.bodies) → (mine k ≡ false) × (k.from < 32) × (k.site < 8))
        → ((site : ℕ) → is_filled site on.fills ≡ true → mine (record { from = q; site = site }) ≡ false)
        → ((site : ℕ) → site < 8 → mine (record { from = q; site = site }) ≡ false → rs site ≡ x.records site)
        → ((site : ℕ) → site < 8 → mine (record { from = q; site = site }) ≡ true → is_filled site on.fills ≡ false
        → HoldsCall mode image n q site (rs site))
        → KeepsCalls mode image q left s x on rs n
    calls_spared mode image q left s x on same hq rs calls filled old new = record {
      kept = subst (λ w. AreKept q on.fills x.bodies w n) (sym same)
          (contexts_spared q hq on.fills (free_small x.records on.fills on.free) x.bodies calls filled);
      free = free_again on.fills filled on.free;
      records = records_spared mode image q on.fills x.records rs hq old
          (λ k lt e unfilled. subst (λ w. HoldsCall mode image w q k (x.records k)) same (on.records k lt unfilled)) new;
    }
      where
        free_again : (fs : List (Option Filling)) → ((site : ℕ) → is_filled site fs ≡ true → mine (record { from = q; site = site }) ≡ false)
            → AreFree x.records fs → AreFree rs fs
        free_again [] away h = tt
        free_again (None ∷ fs) away h = (tt, free_again fs away h.1)
        free_again (Some f ∷ fs) away h =
            let same = old f.site h.0.small (away f.site (or_left (f.site == f.site) (is_filled f.site fs) (eq-eqb f.site f.site refl))) in (
              record {
                small = h.0.small;
                free = ap (λ (r : CallRecord). r.state) same ∙ h.0.free;
                number = ap (λ (r : CallRecord). r.number) same ∙ h.0.number;
                alone = h.0.alone;
              },
              free_again fs (λ site e. away site (or_right (f.site == site) (is_filled site fs) e)) h.1,
            )

    -- a list of other calls, and a queue of those whose head isn't among the names
    pub list_spared : (a : ℕ) (ks : List CallId) → ((k : CallId) → 0 < times k ks → mine k ≡ false) → Linked m a ks → Linked n a ks
    list_spared a ks away h = linked_again m n a ks (λ k some. let l = linked_bounded m a ks h k some in record_spared k (away k some) l.0 l.1) h

    pub queue_spared : (q : ℕ) (ks : List CallId) → q < 32 → have_none (is_head_of q) names ≡ true → ((k : CallId) → 0 < times k ks → mine k ≡ false)
        → QueueIs m q ks → QueueIs n q ks
    queue_spared q ks hq none away h = subst (λ a. Linked n a (reverse ks)) (sym (head_spared q hq none))
        (list_spared (m (pcpu q + head_offset)) (reverse ks) (λ k some. away k (let e = times_reverse k ks in omega (arith, e, some))) h)

    -- ---- queues whose head is written

    -- Records are over m with another head what they are in memory behind the step.
    over_head : (q v : ℕ) → q < 32 → (k : CallId) → mine k ≡ false → k.from < 32 → k.site < 8 → RecordStays k (put_at m (pcpu q + head_offset) v) n
    over_head q v hq k off hf hk o ho =
        record_spared k off hf hk o ho
        ∙ sym (at_other m (pcpu q + head_offset) (record_address k.from k.site + o) v (ne_eqb _ _ (λ e. differ e)))
      where
        differ : record_address k.from k.site + o ≡ pcpu q + head_offset → ⊥
        differ e = by_processor (three_orders q k.from)
          where
            by_processor : (q < k.from) ⊎ ((q ≡ k.from) ⊎ (k.from < q)) → ⊥
            by_processor (inl l) = omega (arith, l, e, hk, ho)
            by_processor (inr (inl l)) = omega (arith, l, e, hk, ho)
            by_processor (inr (inr l)) = omega (arith, l, e, hk, ho)

    -- the exchange of `call`: its record, which has the old head as its link, is the last one
    pub queue_pushed : (q : ℕ) (k : CallId) (ks : List CallId) → q < 32 → IsCall k → mine k ≡ false → ((j : CallId) → 0 < times j ks → mine j ≡ false)
        → m (link_of k) ≡ m (pcpu q + head_offset) → n (pcpu q + head_offset) ≡ list_address k → QueueIs m q ks → QueueIs n q (ks ++ k ∷ [])
    queue_pushed q k ks hq bounds off away link head h =
        let old : NatMap ℕ = put_at m (pcpu q + head_offset) (list_address k) in
        let first : old (pcpu q + head_offset) ≡ list_address k = at_same m (pcpu q + head_offset) (pcpu q + head_offset) (list_address k) refl in
        let grown : QueueIs old q (ks ++ k ∷ []) = queues_grow m q k ks hq bounds link h in
        subst (λ a. Linked n a (reverse (ks ++ k ∷ []))) (first ∙ sym head)
        (linked_again old n (old (pcpu q + head_offset)) (reverse (ks ++ k ∷ []))
        (λ j some. let l = linked_bounded old (old (pcpu q + head_offset)) (reverse (ks ++ k ∷ [])) grown j some in
        over_head q (list_address k) hq j (among j (let e = times_reverse j (ks ++ k ∷ []) in omega (arith, e, some))) l.0 l.1) grown)
      where
        among : (j : CallId) → 0 < times j (ks ++ k ∷ []) → mine j ≡ false
        among j some = by_call (is_id j k) refl
          where
            by_call : (t : Bool) → is_id j k ≡ t → mine j ≡ false
            by_call true e = subst (λ i. mine i ≡ false) (sym (same_call j k e)) off
            by_call false e = away j (let a = times_append j ks (k ∷ []) in let c = times_other j k [] e in omega (arith, a, c, some))

    -- that of `take`: the calls of the queue are left to be turned, and the queue is empty
    pub queue_taken : (q : ℕ) (ks : List CallId) → q < 32 → ((j : CallId) → 0 < times j ks → mine j ≡ false) → n (pcpu q + head_offset) ≡ 0
        → QueueIs m q ks → IsTurning n (m (pcpu q + head_offset)) 0 ks × QueueIs n q []
    queue_taken q ks hq away head h = (
      turning_again (put_at m (pcpu q + head_offset) 0) n (m (pcpu q + head_offset)) 0 ks
          (λ j some. let l = linked_bounded m (m (pcpu q + head_offset)) (reverse ks) h j (let e = times_reverse j ks in omega (arith, e, some)) in
          over_head q 0 hq j (away j some) l.0 l.1) (queues_are_taken m q ks hq h).0,
      head,
    )
