-- The abstract machine behind the exchange of `call`: its call is queued, and its last context is another.
use Rattle.std.proofs.Common.{◌≡◌, not, Bool, ℕ, ◌+◌, ◌<◌, false, true, List, [], ◌∷◌, ◌++◌, refl, sym, ap, ◌∙◌, subst, eq-eqb, Option, None}
use Rattle.std.specs.Prelude.{◌==◌, ◌++◌, ◌&&◌}
use Rattle.ev_isa.specs.Word.{NatMap}
use Rattle.ev_isa.specs.declared.mode.Mode.{Mode}
use Rattle.ev_body.specs.declared.image.Image.{Image}
use Rattle.ev_body.specs.WellFormed.{IsImage}
use Rattle.ev_listing.specs.AddressMap.{pcpu, head_offset, record_address}
use Rattle.ev_abstract.specs.Context.{BodyContext, CallId}
use Rattle.ev_abstract.specs.Machine.{Machine, processor, CallRecord, CallState, Free, Queued}
use Rattle.ev_abstract.specs.Machine as abstract
use Rattle.ev_concrete.specs.ConcreteRun.{System}
use Rattle.ev_built.specs.Built.{IsBuilt}
use Rattle.ev_relation.specs.Filling.{Filling, is_filled, AreFree}
use Rattle.ev_relation.specs.Relation.{Stands}
use Rattle.ev_relation.proofs.CallHolders.{queue_kept}
use Rattle.ev_relation.proofs.Facts.{Facts}
use Rattle.ev_body_steps.proofs.CallTurns as alike
use Rattle.ev_body_steps.proofs.KernelStep as step
use Rattle.std.proofs.lemmas.Bool.{eqb-true, ne_eqb}
use Rattle.ev_calls.specs.Lists.{QueueIs}
use Rattle.ev_relation.proofs.Maps.{at_same, at_other}
use Rattle.ev_abstract.specs.CrossCall.{queued}
use Rattle.ev_body_steps.proofs.CallQueued.{queued_but, queued_record, other_records, queued_last, other_queues}
use Rattle.ev_body_steps.proofs.ItemCallPushed.{still_free, pushed_names, pushed_words, pushed_changes, pushed_are, queue_behind}
use Rattle.ev_abstract.specs.ItemMeaning.{replace_last, with_context}
use Rattle.ev_call_law.proofs.Counts.{id_self}
use Rattle.ev_call_law.specs.Calls.{is_id}

module _ (mode : Mode) (image : Image) (built : IsBuilt image) (good : IsImage image) (facts : Facts mode image)
    (left : NatMap ℕ) (s : System) (m : Machine) (h : Stands mode image left s m) (p : ℕ) (hp : p < image.processors)
    (o : step.Top mode image built good facts left s m h p hp) (to : ℕ) (lto : to < image.processors) (site : ℕ) (low : site < 8) (r : CallRecord)
    (same_to : r.to ≡ to) (b' : BodyContext) where
  abbrev x : abstract.Processor
  x = processor m p

  abbrev call : CallId
  call = record { from = p; site = site }

  abbrev behind : Machine
  behind = queued m call r

  abbrev m' : Machine
  m' = with_context behind p b'

  -- of the processor itself the last context is another too
  pub own_behind : processor m' p ≡ record x { records = (processor m' p).records; queue = (processor m' p).queue; bodies = b' ∷ o.below }
  own_behind =
      let same : processor m' p ≡ record x {
        records = (processor behind p).records;
        queue = (processor behind p).queue;
        bodies = b' ∷ o.below;
      } = at_same behind.processors p p _ refl
      ∙ ap (λ (w : abstract.Processor). record w { bodies = replace_last b' w.bodies }) (queued_but m call r p)
      ∙ ap (λ bs. record x { records = (processor behind p).records; queue = (processor behind p).queue; bodies = replace_last b' bs }) o.bodies in
      same ∙ sym (ap (λ (w : abstract.Processor). record x { records = w.records; queue = w.queue; bodies = b' ∷ o.below }) same)

  pub others_behind : (q : ℕ) → (q == p) ≡ false
      → processor m' q ≡ record (processor m q) { records = (processor m' q).records; queue = (processor m' q).queue }
  others_behind q e =
      let same : processor m' q ≡ record (processor m q) { records = (processor behind q).records; queue = (processor behind q).queue }
      = at_other behind.processors p q _ e ∙ queued_but m call r q in
      same ∙ sym (ap (λ (w : abstract.Processor). record (processor m q) { records = w.records; queue = w.queue }) same)

  -- records and queues are those behind the queuing
  part_behind : (A : Type 0) (f : abstract.Processor → A) → ((w : abstract.Processor) → f (record w { bodies = replace_last b' w.bodies }) ≡ f w) → (q : ℕ)
      → f (processor m' q) ≡ f (processor behind q)
  part_behind A f keeps q = pick (q == p) refl
    where
      pick : (t : Bool) → (q == p) ≡ t → f (processor m' q) ≡ f (processor behind q)
      pick true e = ap f (at_same behind.processors p q _ (eqb-true q p e)) ∙ keeps (processor behind p)
          ∙ ap (λ i. f (processor behind i)) (sym (eqb-true q p e))
      pick false e = ap f (at_other behind.processors p q _ e)

  pub queue_of : (q : ℕ) → (processor m' q).queue ≡ (processor behind q).queue
  queue_of q = part_behind _ (λ w. w.queue) (λ w. refl) q

  pub records_of : (q : ℕ) → (processor m' q).records ≡ (processor behind q).records
  records_of q = part_behind _ (λ w. w.records) (λ w. refl) q

  -- each queue
  pub queues_behind : s.memory.words (record_address p site + 0x18) ≡ s.memory.words (pcpu to + head_offset) → (q : ℕ) → q < image.processors
      → QueueIs (pushed_words mode image built good facts left s m h p hp o to lto site low) q (processor m' q).queue
  queues_behind link q lq = subst (QueueIs (pushed_words mode image built good facts left s m h p hp o to lto site low) q) (sym (queue_of q))
      (pick (q == to) refl)
    where
      pick : (t : Bool) → (q == to) ≡ t → QueueIs (pushed_words mode image built good facts left s m h p hp o to lto site low) q (processor behind q).queue
      pick true e = subst (λ i. QueueIs (pushed_words mode image built good facts left s m h p hp o to lto site low) i (processor behind i).queue)
          (sym (eqb-true q to e))
          (subst (λ i. QueueIs (pushed_words mode image built good facts left s m h p hp o to lto site low) to (processor behind i).queue) same_to
          (subst (QueueIs (pushed_words mode image built good facts left s m h p hp o to lto site low) to)
          (sym (queued_last m call r ∙ ap (λ i. (processor m i).queue ++ call ∷ []) same_to))
          (queue_behind mode image built good facts left s m h p hp o to lto site low link)))
      pick false e = subst (QueueIs (pushed_words mode image built good facts left s m h p hp o to lto site low) q)
          (sym (other_queues m call r q (ap (λ i. q == i) same_to ∙ e)))
          (queue_kept mode image left s m h p hp o.b o.below o.bodies o.σ _ (pushed_names mode image built good facts left s m h p hp o to lto site low)
          (step.narrow mode image built good facts left s m h p hp o) good.count.1
          ((pushed_are mode image built good facts left s m h p hp o to lto site low (λ k. false)).allowed.written)
          (pushed_changes mode image built good facts left s m h p hp o to lto site low) (λ k. false) tt
          (alike.none_alone mode image built good facts left s m h p hp o) q lq
          (ap (λ t. not t && true) (ne_eqb to q (λ z. let clash : false ≡ true = sym e ∙ eq-eqb q to (sym z) in absurd (cc)))))

  -- the records of all other calls
  pub old_behind : (q k : ℕ) → is_id (record { from = q; site = k }) call ≡ false → (processor m' q).records k ≡ (processor m q).records k
  old_behind q k off = ap (λ (rs : NatMap CallRecord). rs k) (records_of q) ∙ pick (q == p) refl
    where
      pick : (t : Bool) → (q == p) ≡ t → (processor behind q).records k ≡ (processor m q).records k
      pick true e =
          let there : q ≡ p = eqb-true q p e in
          ap (λ i. (processor behind i).records k) there ∙ ap (λ (rs : NatMap CallRecord). rs k) (queued_record m call r)
          ∙ at_other x.records site k r (ne_eqb k site (λ z.
          let on : is_id (record { from = q; site = k }) call ≡ true
          = subst (λ i. is_id (record { from = q; site = k }) (record { from = i; site = site }) ≡ true)
          there (subst (λ i. is_id (record { from = q; site = k }) (record { from = q; site = i }) ≡ true) z (id_self (record { from = q; site = k }))) in
          let clash : false ≡ true = sym off ∙ on in absurd (cc)))
          ∙ ap (λ i. (processor m i).records k) (sym there)
      pick false e = ap (λ (rs : NatMap CallRecord). rs k) (other_records m call r q e)

  -- and what is filled still: that record isn't
  pub free_behind : (fs : List (Option Filling)) → is_filled site fs ≡ false → AreFree x.records fs → AreFree (processor m' p).records (None ∷ fs)
  free_behind fs e free = (tt, subst (λ rs. AreFree rs fs) (sym (records_of p ∙ queued_record m call r)) (still_free x.records site r fs e free))
