-- The abstract machine where a call has been queued: of each processor records and queues alone are others.
use Rattle.std.proofs.Common.{◌≡◌, ℕ, Bool, true, false, [], ◌∷◌, refl, sym, ap, ◌∙◌}
use Rattle.std.specs.Prelude.{◌==◌, ◌++◌}
use Rattle.std.proofs.lemmas.Bool.{eqb-true}
use Rattle.ev_isa.specs.Word.{NatMap, put_at}
use Rattle.ev_abstract.specs.Context.{CallId}
use Rattle.ev_abstract.specs.CrossCall.{with_record, queued}
use Rattle.ev_abstract.specs.Machine.{CallRecord, Machine, processor}
use Rattle.ev_abstract.specs.Machine as abstract
use Rattle.ev_relation.proofs.Maps.{at_same, at_other}

module _ (m : Machine) (k : CallId) (r : CallRecord) where
  abbrev recorded : Machine
  recorded = with_record m k r

  abbrev behind : Machine
  behind = queued m k r

  -- where its record alone is another
  record_but : (q : ℕ) → processor recorded q ≡ record (processor m q) { records = (processor recorded q).records }
  record_but q = pick (q == k.from) refl
    where
      pick : (t : Bool) → (q == k.from) ≡ t → processor recorded q ≡ record (processor m q) { records = (processor recorded q).records }
      pick true e =
          let there : q ≡ k.from = eqb-true q k.from e in
          let rs : NatMap CallRecord = put_at (processor m k.from).records k.site r in
          let same : processor recorded q ≡ record (processor m q) { records = rs } = at_same m.processors k.from q _ there
          ∙ ap (λ i. record (processor m i) { records = rs }) (sym there) in
          same ∙ sym (ap (λ (w : abstract.Processor). record (processor m q) { records = w.records }) same)
      pick false e =
          let same : processor recorded q ≡ processor m q = at_other m.processors k.from q _ e in
          same ∙ sym (ap (λ (w : abstract.Processor). record (processor m q) { records = w.records }) same)

  queue_but : (q : ℕ) → processor behind q ≡ record (processor recorded q) { queue = (processor behind q).queue }
  queue_but q = pick (q == r.to) refl
    where
      pick : (t : Bool) → (q == r.to) ≡ t → processor behind q ≡ record (processor recorded q) { queue = (processor behind q).queue }
      pick true e =
          let there : q ≡ r.to = eqb-true q r.to e in
          let same : processor behind q ≡ record (processor recorded q) { queue = (processor recorded r.to).queue ++ k ∷ [] }
          = at_same recorded.processors r.to q _ there
          ∙ ap (λ i. record (processor recorded i) { queue = (processor recorded r.to).queue ++ k ∷ [] }) (sym there) in
          same ∙ sym (ap (λ (w : abstract.Processor). record (processor recorded q) { queue = w.queue }) same)
      pick false e =
          let same : processor behind q ≡ processor recorded q = at_other recorded.processors r.to q _ e in
          same ∙ sym (ap (λ (w : abstract.Processor). record (processor recorded q) { queue = w.queue }) same)

  -- of each processor
  pub queued_but : (q : ℕ) → processor behind q ≡ record (processor m q) { records = (processor behind q).records; queue = (processor behind q).queue }
  queued_but q =
      let same : processor behind q
      ≡ record (processor m q) { records = (processor recorded q).records; queue = (processor behind q).queue }
      = queue_but q ∙ ap (λ (w : abstract.Processor). record w { queue = (processor behind q).queue }) (record_but q) in
      same ∙ sym (ap (λ (w : abstract.Processor). record (processor m q) { records = w.records; queue = w.queue }) same)

  -- its record
  pub queued_record : (processor behind k.from).records ≡ put_at (processor m k.from).records k.site r
  queued_record = ap (λ (w : abstract.Processor). w.records) (queue_but k.from)
      ∙ ap (λ (w : abstract.Processor). w.records) (at_same m.processors k.from k.from _ refl)

  pub other_records : (q : ℕ) → (q == k.from) ≡ false → (processor behind q).records ≡ (processor m q).records
  other_records q e = ap (λ (w : abstract.Processor). w.records) (queue_but q)
      ∙ ap (λ (w : abstract.Processor). w.records) (at_other m.processors k.from q _ e)

  -- the queue of its target, which it ends
  pub queued_last : (processor behind r.to).queue ≡ (processor m r.to).queue ++ k ∷ []
  queued_last = ap (λ (w : abstract.Processor). w.queue) (at_same recorded.processors r.to r.to _ refl)
      ∙ ap (λ (w : abstract.Processor). w.queue ++ k ∷ []) (record_but r.to)

  pub other_queues : (q : ℕ) → (q == r.to) ≡ false → (processor behind q).queue ≡ (processor m q).queue
  other_queues q e = ap (λ (w : abstract.Processor). w.queue) (at_other recorded.processors r.to q _ e)
      ∙ ap (λ (w : abstract.Processor). w.queue) (record_but q)
