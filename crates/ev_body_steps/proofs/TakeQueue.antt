-- What `take` makes of the abstract machine: the calls of the processor's queue are taken, and the queue is empty. Memory has the same of each of them.
use Rattle.std.proofs.Common.{◌≡◌, ◌⊎◌, inl, inr, ℕ, ◌<◌, Bool, true, false, ◌&&◌, List, [], ◌∷◌, refl, sym, ap, ◌∙◌, subst, arith, eqb-true}
use Rattle.std.specs.Prelude.{◌==◌}
use Rattle.ev_isa.specs.Word.{NatMap}
use Rattle.ev_isa.specs.declared.mode.Mode.{Mode}
use Rattle.ev_body.specs.declared.image.Image.{Image}
use Rattle.ev_abstract.specs.Context.{BodyContext, CallId}
use Rattle.ev_abstract.specs.CrossCall.{record_of, with_record, in_state, with_queue, all_taken}
use Rattle.ev_abstract.specs.ItemMeaning.{replace_last, with_context}
use Rattle.ev_abstract.specs.Machine.{CallState, Free, Queued, Taken, CallRecord, Machine, processor}
use Rattle.ev_abstract.specs.Machine as abstract
use Rattle.ev_call_law.specs.Calls.{is_id, is_queued, times}
use Rattle.ev_call_law.proofs.Counts.{same_call, times_same, times_other}
use Rattle.ev_listing.specs.AddressMap.{record_address}
use Rattle.ev_relation.specs.Relation.{HoldsCall, CallIs}
use Rattle.ev_relation.proofs.Maps.{at_same, at_other}

-- ---- records that are taken

-- a record that is another one leaves all else of its processor
abbrev IsBeside : Machine → CallId → CallRecord → ℕ → Type 0
IsBeside m k r q = processor (with_record m k r) q ≡ record (processor m q) { records = (processor (with_record m k r) q).records }

record_beside : (m : Machine) (k : CallId) (r : CallRecord) (q : ℕ) → IsBeside m k r q
record_beside m k r q = pick (q == k.from) refl
  where
    pick : (t : Bool) → (q == k.from) ≡ t → IsBeside m k r q
    pick true t = subst (IsBeside m k r) (sym (eqb-true q k.from t)) (let e = at_same m.processors k.from k.from _ refl in
        e ∙ sym (ap (λ (y : abstract.Processor). record (processor m k.from) { records = y.records }) e))
    pick false t = let e = at_other m.processors k.from q _ t in e ∙ sym (ap (λ (y : abstract.Processor). record (processor m q) { records = y.records }) e)

-- so do the records that are taken
taken_beside : (ks : List CallId) (m : Machine) (q : ℕ)
    → processor (all_taken m ks) q ≡ record (processor m q) { records = (processor (all_taken m ks) q).records }
taken_beside [] m q = refl
taken_beside (k ∷ ks) m q =
    let next : Machine = with_record m k (in_state (record_of m k) Taken) in
    taken_beside ks next q
    ∙ ap (λ (y : abstract.Processor). record y { records = (processor (all_taken next ks) q).records }) (record_beside m k (in_state (record_of m k) Taken) q)

-- which record is another one
same_record : (m : Machine) (k : CallId) (r : CallRecord) → record_of (with_record m k r) k ≡ r
same_record m k r = ap (λ (y : abstract.Processor). y.records k.site) (at_same m.processors k.from k.from _ refl)
    ∙ at_same (processor m k.from).records k.site k.site r refl

other_record : (m : Machine) (k : CallId) (r : CallRecord) (j : CallId) → is_id j k ≡ false → record_of (with_record m k r) j ≡ record_of m j
other_record m k r j e = pick (j.from == k.from) refl e
  where
    pick : (t : Bool) → (j.from == k.from) ≡ t → (t && (j.site == k.site)) ≡ false → record_of (with_record m k r) j ≡ record_of m j
    pick true t e = ap (λ (y : abstract.Processor). y.records j.site) (at_same m.processors k.from j.from _ (eqb-true j.from k.from t))
        ∙ at_other (processor m k.from).records k.site j.site r e ∙ ap (λ i. (processor m i).records j.site) (sym (eqb-true j.from k.from t))
    pick false t e = ap (λ (y : abstract.Processor). y.records j.site) (at_other m.processors k.from j.from _ t)

-- a record is the one of before, or that of a call of the list and taken
abbrev pub IsOrTaken : List CallId → CallId → CallRecord → CallRecord → Type 0
IsOrTaken ks j r old = (r ≡ old) ⊎ ((0 < times j ks) × (r ≡ in_state old Taken))

taken_at : (ks : List CallId) (m : Machine) (j : CallId) → IsOrTaken ks j (record_of (all_taken m ks) j) (record_of m j)
taken_at [] m j = inl refl
taken_at (k ∷ ks) m j = pick (is_id j k) refl (taken_at ks next j)
  where
    next : Machine
    next = with_record m k (in_state (record_of m k) Taken)

    first : is_id j k ≡ true → (0 < times j (k ∷ ks)) × (record_of next j ≡ in_state (record_of m j) Taken)
    first e =
        let same = same_call j k e in (
          subst (λ i. 0 < times i (k ∷ ks)) (sym same) (let n = times_same k ks in omega (arith, n)),
          subst (λ i. record_of next i ≡ in_state (record_of m i) Taken) (sym same) (same_record m k (in_state (record_of m k) Taken)),
        )

    pick : (t : Bool) → is_id j k ≡ t → IsOrTaken ks j (record_of (all_taken next ks) j) (record_of next j)
        → IsOrTaken (k ∷ ks) j (record_of (all_taken next ks) j) (record_of m j)
    pick true e (inl q) = inr ((first e).0, q ∙ (first e).1)
    pick true e (inr q) = inr ((first e).0, q.1 ∙ ap (λ r. in_state r Taken) (first e).1)
    pick false e (inl q) = inl (q ∙ other_record m k _ j e)
    pick false e (inr q) = inr (
      (let n = times_other j k ks e in let l = q.0 in omega (arith, n, l)),
      q.1 ∙ ap (λ r. in_state r Taken) (other_record m k _ j e),
    )

-- nothing that processors share is another
taken_shares : (A : Type 0) (get : Machine → A) → ((m : Machine) (k : CallId) (r : CallRecord) → get (with_record m k r) ≡ get m) → (ks : List CallId)
    (m : Machine) → get (all_taken m ks) ≡ get m
taken_shares A get same [] m = refl
taken_shares A get same (k ∷ ks) m = taken_shares A get same ks (with_record m k (in_state (record_of m k) Taken)) ∙ same m k _

-- memory has the same of a call that is queued and of one that is taken
pub holds_taken : (mode : Mode) (image : Image) (words : NatMap ℕ) (q k : ℕ) (r : CallRecord) → is_queued r.state ≡ true
    → HoldsCall mode image words q k r → HoldsCall mode image words q k (in_state r Taken)
holds_taken mode image words q k r queued h = record { from = h.from; site = h.site; number = h.number; call = by_state r.state queued h.call }
  where
    by_state : (st : CallState) → is_queued st ≡ true → CallIs mode image words (record_address q k) r st
        → CallIs mode image words (record_address q k) r Taken
    by_state Free e c = let clash : false ≡ true = e in absurd (cc)
    by_state Queued e c = c
    by_state Taken e c = let clash : false ≡ true = e in absurd (cc)

-- ---- the machine behind `take`

module _ (m : Machine) (p : ℕ) (b : BodyContext) (below : List BodyContext) (bodies : (processor m p).bodies ≡ b ∷ below) where
  abbrev queue : List CallId
  queue = (processor m p).queue

  -- the calls of the queue are taken, and it is empty
  abbrev pub emptied : Machine
  emptied = with_queue (all_taken m queue) p []

  -- and this is the last context
  module _ (d : BodyContext) where
    abbrev pub behind : Machine
    behind = with_context emptied p d

    abbrev x : abstract.Processor
    x = processor m p

    -- words of user code, pages and cells stay
    pub same_words : behind.words ≡ m.words
    same_words = taken_shares _ (λ n. n.words) (λ n k r. refl) queue m

    pub same_pages : behind.present ≡ m.present
    same_pages = taken_shares _ (λ n. n.present) (λ n k r. refl) queue m

    pub same_cells : behind.cells ≡ m.cells
    same_cells = taken_shares _ (λ n. n.cells) (λ n k r. refl) queue m

    -- of the processor its context, queue and records are others
    pub own_is : processor behind p ≡ record x { records = (processor (all_taken m queue) p).records; queue = []; bodies = d ∷ below }
    own_is =
        let e : processor emptied p ≡ record (processor (all_taken m queue) p) { queue = [] } = at_same (all_taken m queue).processors p p _ refl in
        at_same emptied.processors p p _ refl ∙ ap (λ (y : abstract.Processor). record y { bodies = replace_last d y.bodies }) e
        ∙ ap (λ (y : abstract.Processor). record y { queue = []; bodies = replace_last d y.bodies }) (taken_beside queue m p)
        ∙ ap (λ bs. record x { records = (processor (all_taken m queue) p).records; queue = []; bodies = replace_last d bs }) bodies

    pub own_stays : processor behind p
        ≡ record x { records = (processor behind p).records; queue = (processor behind p).queue; bodies = d ∷ below }
    own_stays = own_is ∙ sym (ap (λ (y : abstract.Processor). record x { records = y.records; queue = y.queue; bodies = d ∷ below }) own_is)

    -- and of others some records
    others_are : (q : ℕ) → (q == p) ≡ false → processor behind q ≡ processor (all_taken m queue) q
    others_are q e = at_other emptied.processors p q _ e ∙ at_other (all_taken m queue).processors p q _ e

    pub other_queue : (q : ℕ) → (q == p) ≡ false → (processor behind q).queue ≡ (processor m q).queue
    other_queue q e = ap (λ (y : abstract.Processor). y.queue) (others_are q e ∙ taken_beside queue m q)

    pub others_stay : (q : ℕ) → (q == p) ≡ false
        → processor behind q ≡ record (processor m q) { records = (processor behind q).records; queue = (processor behind q).queue }
    others_stay q e =
        let all = others_are q e ∙ taken_beside queue m q in
        all ∙ sym (ap (λ (y : abstract.Processor). record (processor m q) { records = y.records; queue = y.queue }) all)

    records_are : (q : ℕ) → (processor behind q).records ≡ (processor (all_taken m queue) q).records
    records_are q = pick (q == p) refl
      where
        pick : (t : Bool) → (q == p) ≡ t → (processor behind q).records ≡ (processor (all_taken m queue) q).records
        pick true t = subst (λ i. (processor behind i).records ≡ (processor (all_taken m queue) i).records) (sym (eqb-true q p t))
            (ap (λ (y : abstract.Processor). y.records) own_is)
        pick false t = ap (λ (y : abstract.Processor). y.records) (others_are q t)

    -- of its records each is the one of before, or that of a call of the queue and taken
    pub record_behind : (j : CallId) → IsOrTaken queue j (record_of behind j) (record_of m j)
    record_behind j = pick (taken_at queue m j)
      where
        same : record_of behind j ≡ record_of (all_taken m queue) j
        same = ap (λ (y : NatMap CallRecord). y j.site) (records_are j.from)

        pick : IsOrTaken queue j (record_of (all_taken m queue) j) (record_of m j) → IsOrTaken queue j (record_of behind j) (record_of m j)
        pick (inl q) = inl (same ∙ q)
        pick (inr q) = inr (q.0, same ∙ q.1)

    -- the records are those of the machine before the context is another one
    pub record_emptied : (j : CallId) → record_of emptied j ≡ record_of behind j
    record_emptied j = sym (pick (j.from == p) refl)
      where
        pick : (t : Bool) → (j.from == p) ≡ t → record_of behind j ≡ record_of emptied j
        pick true t = ap (λ (y : abstract.Processor). y.records j.site) (at_same emptied.processors p j.from _ (eqb-true j.from p t))
            ∙ ap (λ i. (processor emptied i).records j.site) (sym (eqb-true j.from p t))
        pick false t = ap (λ (y : abstract.Processor). y.records j.site) (at_other emptied.processors p j.from _ t)
