-- What the exchange of `call` makes of memory and of records: the record is the last one of the queue, and nobody fills it.
use Rattle.std.proofs.Common.{◌≡◌, Bool, ℕ, suc, ◌+◌, ◌%◌, ◌<◌, ◌≤◌, false, true, List, [], ◌∷◌, ◌++◌, Some, refl, sym, ap, ◌∙◌, arith, ⊎_elim, Option, None}
use Rattle.std.specs.Prelude.{◌==◌, ◌||◌}
use Rattle.ev_isa.specs.Word.{NatMap, put_at}
use Rattle.ev_isa.specs.Flags.{Flags}
use Rattle.ev_isa.specs.declared.mode.Mode.{Mode}
use Rattle.ev_body.specs.declared.image.Image.{Image}
use Rattle.ev_body.specs.WellFormed.{IsImage}
use Rattle.ev_listing.specs.AddressMap.{pcpu, head_offset, record_address}
use Rattle.ev_abstract.specs.Context.{BodyContext, CallId, local}
use Rattle.ev_abstract.specs.Machine.{Machine, processor, CallRecord, CallState, Free, Queued}
use Rattle.ev_abstract.specs.Machine as abstract
use Rattle.ev_concrete.specs.ConcreteRun.{System}
use Rattle.ev_built.specs.Built.{IsBuilt}
use Rattle.ev_symbolic.specs.Value.{M}
use Rattle.ev_symbolic.specs.Agrees.{eval}
use Rattle.ev_relation.specs.Filling.{first_fill, Filling, is_of_site, is_filled, rest_fills, AreFree}
use Rattle.ev_relation.specs.Relation.{StandsOn, Stands, HoldsCall}
use Rattle.ev_relation.proofs.CallHolders.{first_free}
use Rattle.ev_relation.proofs.Facts.{Facts}
use Rattle.ev_body_steps.proofs.KernelStep as step
use Rattle.std.proofs.lemmas.Bool.{ne_eqb}
use Rattle.ev_calls.specs.Lists.{QueueIs}
use Rattle.ev_relation.proofs.Maps.{at_same, at_other}
use Rattle.ev_body_steps.proofs.ItemCallAgain.{AtFilled}
use Rattle.ev_abstract.specs.CrossCall.{new_record}
use Rattle.ev_relation.specs.Named.{Named, Head, Changes, UnknownTo}
use Rattle.ev_relation.proofs.CallNames.{queue_pushed}
use Rattle.ev_body_steps.proofs.CallSteps.{AreOfCalls}

-- ---- lists of fillings

first_false : (t u : Bool) → (t || u) ≡ false → t ≡ false
first_false true u h = let clash : true ≡ false = h in cc
first_false false u h = refl

second_false : (t u : Bool) → (t || u) ≡ false → u ≡ false
second_false true u h = let clash : true ≡ false = h in cc
second_false false u h = h

-- the record of a site that none fills becomes another
pub still_free : (records : NatMap CallRecord) (site : ℕ) (r : CallRecord) (fs : List (Option Filling)) → is_filled site fs ≡ false → AreFree records fs
    → AreFree (put_at records site r) fs
still_free records site r [] e h = tt
still_free records site r (None ∷ fs) e h = (tt, still_free records site r fs e h.1)
still_free records site r (Some g ∷ fs) e h =
    let same : put_at records site r g.site ≡ records g.site
    = at_other records site g.site r (first_false (g.site == site) (is_filled site fs) e) in (
      record {
        small = h.0.small;
        free = ap (λ (k : CallRecord). k.state) same ∙ h.0.free;
        number = ap (λ (k : CallRecord). k.number) same ∙ h.0.number;
        alone = h.0.alone;
      },
      still_free records site r fs (second_false (g.site == site) (is_filled site fs) e) h.1,
    )

-- what none fills but maybe the last context, none fills, where that one fills another
pub unfilled_before : (fs : List (Option Filling)) (f : Filling) → first_fill fs ≡ Some f → (k : ℕ) → (f.site == k) ≡ false
    → is_filled k (rest_fills fs) ≡ false → is_filled k fs ≡ false
unfilled_before [] f e k off rest = absurd (cc)
unfilled_before (g ∷ fs) f e k off rest = ap (λ t. is_of_site k t || is_filled k fs) e ∙ ap (λ t. t || is_filled k fs) off ∙ rest

-- ---- the head and records

record_apart : (to p site n : ℕ) → site < 8 → n < 0x40 → record_address p site + n ≡ pcpu to + head_offset → ⊥
record_apart to p site n ls ln e = omega (arith, ls, ln, e)

module _ (mode : Mode) (image : Image) (built : IsBuilt image) (good : IsImage image) (facts : Facts mode image)
    (left : NatMap ℕ) (s : System) (m : Machine) (h : Stands mode image left s m) (p : ℕ) (hp : p < image.processors)
    (o : step.Top mode image built good facts left s m h p hp) (to : ℕ) (lto : to < image.processors) (site : ℕ) (low : site < 8) where
  abbrev x : abstract.Processor
  x = processor m p

  abbrev on_p : StandsOn mode image p (left p) s x
  on_p = step.on mode image built good facts left s m h p hp

  abbrev head : ℕ
  head = pcpu to + head_offset

  abbrev call : CallId
  call = record { from = p; site = site }

  -- the names that it writes, and the words behind it
  abbrev pub pushed_names : List Named
  pushed_names = Head to ∷ []

  abbrev pub pushed_words : NatMap ℕ
  pushed_words = put_at s.memory.words head (record_address p site)

  small_target : to < 32
  small_target = let few = good.count.1 in omega (arith, few, lto)

  small : p < 32
  small = step.small mode image built good facts left s m h p hp

  pub pushed_changes : Changes p o.σ pushed_names s.memory.words pushed_words
  pushed_changes a far off = at_other s.memory.words head a (record_address p site) (ne_eqb a head (λ e. ⊎_elim (λ l. under e l) (λ l. over e l) off.0))
    where
      under : a ≡ head → a < head → ⊥
      under e l = omega (arith, e, l)

      over : a ≡ head → head + 8 ≤ a → ⊥
      over e l = omega (arith, e, l)

  -- Names of calls alone.
  pub pushed_are : (mine : CallId → Bool) → AreOfCalls p mine o.below pushed_names
  pushed_are mine = record {
    allowed = record { written = (small_target, tt); own = λ q d. (λ e. none q e, tt) };
    of = tt;
    unknown = by_depth o.below;
    tasks = refl;
    slots = refl;
    cells = refl;
    pages = refl;
    user = refl;
  }
    where
      none : (q : ℕ) → None ≡ Some q → ⊥
      none q e = absurd (cc)

      by_depth : (ds : List BodyContext) → UnknownTo ds pushed_names
      by_depth [] = tt
      by_depth (d ∷ ds) = refl

  -- The record whose link is the old head is the last one of the target's queue.
  pub queue_behind : s.memory.words (record_address p site + 0x18) ≡ s.memory.words head → QueueIs pushed_words to ((processor m to).queue ++ call ∷ [])
  queue_behind link = queue_pushed p o.σ pushed_names small (step.narrow mode image built good facts left s m h p hp o) s.memory.words pushed_words
      (small_target, tt) pushed_changes (λ k. false) tt to call (processor m to).queue small_target (small, low) refl (λ j some. refl) link
      (at_same s.memory.words head head (record_address p site) refl) (h.shares.queues to lto)

  -- a word of the record stays
  pub word_stays : (n : ℕ) → n < 0x40 → pushed_words (record_address p site + n) ≡ s.memory.words (record_address p site + n)
  word_stays n l = at_other s.memory.words head (record_address p site + n) (record_address p site)
      (ne_eqb (record_address p site + n) head (λ e. record_apart to p site n low l e))

  module _ (ss : ℕ) (extra v : ℕ → ℕ) (f : Flags) (address func : ℕ)
      (y : AtFilled mode image built good facts left s m h p hp o ss extra v f 154 address func to) (same_site : y.filled.fills.site ≡ site) where
    -- The record behind the step is what the abstract machine makes of it.
    pub held_behind : HoldsCall mode image pushed_words p site (new_record (x.records site) to func (local o.b y.filled.s))
    unfolding eval
    held_behind =
        let few = good.count.1 in
        let filled = y.filled in
        let fills = filled.fills in
        let free = first_free x.records on_p.fills (record { site = fills.site; number = fills.number }) on_p.free fills.is in
        let record_is : extra 22 ≡ record_address p site = fills.at ∙ ap (record_address p) same_site in
        let at_word = λ (n : ℕ) (l : n < 0x40). word_stays n l
        ∙ ap s.memory.words (let q : record_address p site + n ≡ (extra 22 + n) % M = omega (arith, record_is, low, l, few, hp) in q) in
        let k = y.known in
        let number : suc fills.number ≡ suc (x.records site).number
        = ap suc (sym free.number ∙ ap (λ i. (x.records i).number) same_site) in
        let from = fills.from in record {
          from = at_word 0x20 (omega arith) ∙ k.2.2.2.2.2.1 ∙ (let q : v 27 ≡ p = omega (arith, from) in q);
          site = at_word 0x30 (omega arith) ∙ k.2.2.2.2.2.2.1 ∙ fills.from_site ∙ same_site;
          number = at_word 0x28 (omega arith) ∙ k.2.2.2.1 ∙ filled.number ∙ ap (λ n. n % M) number;
          call = (
            ap pushed_words (let q : record_address p site ≡ record_address p site + 0 = omega arith in q) ∙ at_word 0 (omega arith) ∙ k.1,
            at_word 8 (omega arith) ∙ k.2.1 ∙ fills.address_is,
            at_word 0x10 (omega arith) ∙ k.2.2.1 ∙ filled.argument,
            at_word 0x38 (omega arith) ∙ k.2.2.2.2.1,
          );
        }
