-- The turns of the task: its user code goes on, or raises an event, which begins an activation.
use Rattle.std.proofs.Common.{◌≡◌, ℕ, suc, ◌+◌, ◌^◌, ◌<◌, Bool, true, false, List, [], ◌∷◌, set, length, Option, Some, None, refl, sym, ap, ◌∙◌, subst, arith, inr, ⊎_elim}
use Rattle.std.specs.Prelude.{◌||◌, ◌++◌, if◌then◌else◌, slice_get, is_some}
use Rattle.std.proofs.lemmas.List.{length-set}
use Rattle.std.specs.List.{list_any}
use Rattle.std.proofs.lemmas.Bool.Decides.{eqb_tells}
use Rattle.ev_event.specs.Event.{interrupt_event}
use Rattle.ev_event.specs.Boundary.{interrupt_or_instruction}
use Rattle.ev_apic.specs.declared.apic.Apic.{Apic}
use Rattle.ev_apic.specs.Apic.{begun, next_vector}
use Rattle.ev_apic.specs.Vectors.{IsGreatestBelow}
use Rattle.ev_apic.proofs.Greatest.{greatest_law}
use Rattle.ev_abstract.specs.Boundary.{deliverable, interrupt_or_next}
use Rattle.ev_law.specs.Legal.{IsInterrupt}
use Rattle.ev_symbolic.proofs.Values.{and_left}
use Rattle.ev_relation.proofs.Vectors.{next_is, begun_is}
use Rattle.ev_isa.specs.Word.{NatMap, is_canonical, NatSet, put_at}
use Rattle.ev_isa.specs.Flags.{flags_word}
use Rattle.ev_isa.specs.declared.mode.Mode.{Mode}
use Rattle.ev_isa.specs.declared.mode.Mode.TheVariants.{Idt, Fred}
use Rattle.ev_event.specs.declared.event.Event.{Event}
use Rattle.ev_body.specs.declared.key.Side.TheVariants.{User}
use Rattle.ev_body.specs.declared.body.Body.{Body}
use Rattle.ev_body.specs.declared.image.Image.{Image}
use Rattle.ev_body.specs.Bodies.{first_body}
use Rattle.ev_body.specs.WellFormed.{IsImage}
use Rattle.ev_effect.specs.Task.{Task}
use Rattle.ev_state.specs.Processor.{Processor, is_user}
use Rattle.ev_mem.specs.Memory.{Memory}
use Rattle.ev_proc.specs.ProcessorStep.{After, step, has_fred, next_of, step_by, delivering}
use Rattle.ev_proc.specs.declared.stepped.Stepped.{Stepped}
use Rattle.ev_abstract.specs.Context.{BodyContext}
use Rattle.ev_abstract.specs.declared.entry.Entry.{Entry}
use Rattle.ev_abstract.specs.declared.entry.Entry.TheVariants.{Enter}
use Rattle.ev_abstract.specs.Machine.{Machine, processor, with_processor, task, with_task, user_memory}
use Rattle.ev_abstract.specs.Machine as abstract
use Rattle.ev_abstract.specs.Delivery.{event_key, service_of, body_at_start, delivered, entered}
use Rattle.ev_abstract.specs.UserCode.{UserStep, Goes, Raises, user_step}
use Rattle.ev_abstract.specs.Run.{turn, task_step, chosen_step}
use Rattle.ev_concrete.specs.ConcreteRun.{System, Activation, acted, after_step, activations_by, interrupted, starts_inner}
use Rattle.ev_concrete.specs.Depth.{bodies_on}
use Rattle.ev_law.proofs.Required.{user_events_have_bodies, interrupt_has_bodies}
use Rattle.ev_built.specs.Built.{IsBuilt}
use Rattle.ev_symbolic.specs.Agrees.{with_words}
use Rattle.ev_concrete.specs.Shown.{shown_by, shown_event, told_event, told_rip, is_refused, saved_rip, key_of}
use Rattle.ev_activation.specs.Seat.{Kind, kind_from, key_by, kind_of, seat_by, seat_of, room_of}
use Rattle.ev_user.specs.Tasks.{IsTask, task_processor, RunsTask}
use Rattle.ev_user.specs.Causes.{Fault, Undefined, Protection, Page, Cause, Faulted, Debug, Breakpoint, Three, Refused, Call, Arrived, IsCause, is_own, own_event, raised_event, raising}
use Rattle.ev_user.specs.Claims.{Raised}
use Rattle.ev_user.proofs.Follows.{user_raises}
use Rattle.ev_user.proofs.Words.{set_words}
use Rattle.ev_relation.specs.Tasks.{CurrentIs}
use Rattle.ev_relation.specs.Nmi.{Leads, inner_edges}
use Rattle.ev_relation.specs.Active.{Active}
use Rattle.ev_relation.specs.Relation.{IsContext, serves, Beneath, keeps_cr2, chained, switches_at, body_edges, Chain, Stands, ApicIs}
use Rattle.ev_relation.specs.Step.{Simulated}
use Rattle.ev_relation.proofs.Facts.{Facts, word_of_canonical, word_of_flags}
use Rattle.ev_relation.proofs.CallKinds.{is_over_task, plain_no_nmi, over_kind}
use Rattle.ev_relation.proofs.Domains.{four_tasks}
use Rattle.ev_relation.proofs.Maps.{at_same, at_other}
use Rattle.ev_user.proofs.KeepsNumbers.{starts_with_words, causes_small}
use Rattle.ev_relation.proofs.Legality.{turn_legal, turn_bases, turn_calls, turn_few}
use Rattle.ev_relation.proofs.Standing.{Moves, step_moves, delivery_moves, delivery_apic}
use Rattle.ev_relation.proofs.After.{apic_again, kernel_names, kernel_spares, kernel_user}
use Rattle.ev_relation.proofs.Depth.{stands_depth}
use Rattle.ev_relation.proofs.UserState.{put_same, TurnsTo, makes_turn, is_safe, tells_bodies}
use Rattle.ev_task_steps.proofs.UserPlain.{AtUser, at_user, user_after, goes_turn, AtInstruction, at_instruction}
use Rattle.ev_task_steps.proofs.Raising.{cause_key, kind_at, saved_at, over_one, entry_edges, returning, arrival, raiser, over, context, Ready, Begins}
use Rattle.ev_relation.proofs.UserBody.{key_from, interrupt_key, HasBody, has_body}
use Rattle.ev_task_steps.proofs.UserSafe.{OnlyTask}
use Rattle.ev_task_steps.proofs.RaisingFred as fred
use Rattle.ev_task_steps.proofs.SystemCallIdt as idt
use Rattle.ev_task_steps.proofs.RaisingIdt as through_gates

-- the event of a system call
abbrev call_event : Event
call_event = own_event Call

-- nothing is interrupted
nothing_under : (c : Processor) (as' : List Activation) → as' ≡ [] → interrupted c as' ≡ []
nothing_under c as' h = ap (interrupted c) h

the_some : {X : Type 0} (o : Option X) → is_some o ≡ true → (x : X) × (o ≡ Some x)
the_some None h = absurd (cc)
the_some (Some x) h = (x, refl)

-- ---- what the abstract machine makes of it

-- the key that is told is that of the body, no interrupt is in service, and the task that the body returns to is one
record Starts (t : Task) (cause : Cause) : Type 0 where
  key : key_from (cause_key cause) ≡ key_of (raised_event cause).kind (raised_event cause).vector
  service : is_own cause ≡ true → service_of (raised_event cause).kind (raised_event cause).vector ≡ None
  rip : (returning t cause).rip ≡ saved_at t cause
  task : IsTask (returning t cause)

starts : (t : Task) (cause : Cause) → IsCause cause → IsTask t → is_canonical (saved_at t cause) ≡ true → saved_at t cause < 2 ^ 64 → Starts t cause
unfolding key_of
starts t (Faulted Undefined) is h g l = record {
  key = refl;
  service = λ o. refl;
  rip = refl;
  task = record { long = h.long; canonical = g; interrupts = h.interrupts; words = h.words };
}
starts t (Faulted Fault.Stack) is h g l = record {
  key = refl;
  service = λ o. refl;
  rip = refl;
  task = record { long = h.long; canonical = g; interrupts = h.interrupts; words = h.words };
}
starts t (Faulted Protection) is h g l = record {
  key = refl;
  service = λ o. refl;
  rip = refl;
  task = record { long = h.long; canonical = g; interrupts = h.interrupts; words = h.words };
}
starts t (Faulted (Page code address)) is h g l = record {
  key = refl;
  service = λ o. refl;
  rip = refl;
  task = record { long = h.long; canonical = g; interrupts = h.interrupts; words = h.words };
}
starts t (Faulted Fault.Alignment) is h g l = record {
  key = refl;
  service = λ o. refl;
  rip = refl;
  task = record { long = h.long; canonical = g; interrupts = h.interrupts; words = h.words };
}
starts t (Arrived v) is h g l =
    record {
      key = interrupt_key v is.0 is.1;
      service = λ o. let clash : false ≡ true = o in absurd (cc);
      rip = refl;
      task = record { long = h.long; canonical = g; interrupts = h.interrupts; words = h.words };
    }
starts t Debug is h g l = record {
  key = refl;
  service = λ o. refl;
  rip = refl;
  task = record { long = h.long; canonical = g; interrupts = h.interrupts; words = h.words };
}
starts t Breakpoint is h g l = record {
  key = refl;
  service = λ o. refl;
  rip = refl;
  task = record { long = h.long; canonical = g; interrupts = h.interrupts; words = h.words };
}
starts t Three is h g l = record {
  key = refl;
  service = λ o. refl;
  rip = refl;
  task = record { long = h.long; canonical = g; interrupts = h.interrupts; words = h.words };
}
starts t (Refused n) is h g l = record {
  key = refl;
  service = λ o. refl;
  rip = refl;
  task = record { long = h.long; canonical = g; interrupts = h.interrupts; words = h.words };
}
starts t Call is h g l = record {
  key = refl;
  service = λ o. refl;
  rip = refl;
  task = record {
    long = length-set (set t.regs 1 (t.rip + 2)) 11 (flags_word t.flags) ∙ length-set t.regs 1 (t.rip + 2) ∙ h.long;
    canonical = g;
    interrupts = h.interrupts;
    words = set_words (set t.regs 1 (t.rip + 2)) 11 (flags_word t.flags) (set_words t.regs 1 (t.rip + 2) h.words l) (word_of_flags t.flags);
  };
}

-- the entry of an event
abbrev entry_of : ℕ → Event → ℕ → Entry
entry_of p e rip = Enter p (key_of e.kind e.vector) e.kind User 1 e.error e.info (Some rip)

entered_is : (p : ℕ) (x : abstract.Processor) (n : ℕ) (e : Event) (bodies : List Body) (b : Body) → slice_get bodies n ≡ Some b
    → entered p (record x { bodies = [] }) e User (Some n) bodies
    ≡ (record x { bodies = body_at_start n User e ∷ [] }, Enter p b.key e.kind User 1 e.error e.info (Some (task x).rip) ∷ [])
entered_is p x n e bodies b h = rw h refl

delivered_is : (image : Image) (p : ℕ) (x : abstract.Processor) (n : ℕ) (e : Event) (b : HasBody image (event_key e.kind e.vector) n) → x.bodies ≡ []
    → first_body 0 image.bodies (event_key e.kind e.vector) User ≡ Some n → b.body.key ≡ key_of e.kind e.vector
    → delivered image p x e ≡ (record x { bodies = body_at_start n User e ∷ [] }, entry_of p e (task x).rip ∷ [])
unfolding delivered
delivered_is image p x n e b hb hf hk =
    ap (λ (bs : List BodyContext). delivered image p (record x { bodies = bs }) e) hb
    ∙ ap (λ o. entered p (record x { bodies = [] }) e User o image.bodies) hf
    ∙ entered_is p x n e image.bodies b.body b.is
    ∙ ap (λ k. (record x { bodies = body_at_start n User e ∷ [] }, Enter p k e.kind User 1 e.error e.info (Some (task x).rip) ∷ [])) hk

-- the processor p in the body, over the task that will go on
abbrev raised_in : abstract.Processor → Cause → (body : ℕ) → (pending : NatSet) → abstract.Processor
raised_in x cause body set = record (with_task x (returning (task x) cause)) { bodies = body_at_start body User (raised_event cause) ∷ []; pending = set }

raise_steps : (image : Image) (m : Machine) (p : ℕ) (cause : Cause) (body : ℕ) (b : HasBody image (cause_key cause) body) → (processor m p).bodies ≡ []
    → first_body 0 image.bodies (cause_key cause) User ≡ Some body → Starts (task (processor m p)) cause
    → task_step image m p (Raises (saved_at (task (processor m p)) cause) (raised_event cause))
    ≡ (
      with_processor m p (raised_in (processor m p) cause body (processor m p).pending),
      entry_of p (raised_event cause) (saved_at (task (processor m p)) cause) ∷ [],
    )
raise_steps image m p cause body b hb hf st =
    let x : abstract.Processor = processor m p in
    let back : Task = returning (task x) cause in
    ap (λ (q : abstract.Processor × List Entry). (with_processor m p q.0, q.1))
    (delivered_is image p (with_task x back) body (raised_event cause) b hb hf (b.key_is ∙ st.key))
    ∙ ap (λ (t : Task). (with_processor m p (raised_in x cause body x.pending), entry_of p (raised_event cause) t.rip ∷ [])) (put_same x.tasks x.running back)
    ∙ ap (λ n. (with_processor m p (raised_in x cause body x.pending), entry_of p (raised_event cause) n ∷ [])) st.rip

-- ---- what the processor's step shows of it

shown_is : (p depth : ℕ) (user fred : Bool) (told : List Entry) (c : Processor) (words : NatMap ℕ) (event : Event) (frame : Option ℕ) (e : Event) (next : ℕ)
    → user ≡ true → depth ≡ 0 → told_event (is_refused fred event) event ≡ e
    → told_rip (is_refused fred event) (saved_rip fred c words event frame) ≡ next
    → shown_by p depth user fred told c words (Stepped.Delivered event frame) ≡ entry_of p e next ∷ []
shown_is p depth user fred told c words event frame e next hu hd he hs =
    let is : Event = told_event (is_refused fred event) event in
    let rip : ℕ = told_rip (is_refused fred event) (saved_rip fred c words event frame) in
    ap (λ u. shown_event p (suc depth) u is rip ∷ []) hu ∙ ap (λ d. shown_event p (suc d) true is rip ∷ []) hd
    ∙ ap (λ x. shown_event p 1 true x rip ∷ []) he ∙ ap (λ n. shown_event p 1 true e n ∷ []) hs

-- ---- what the delivery comes to, by the mode

-- a system call under IDT writes no frame
begins_entry : (mode : Mode) (image : Image) (built : IsBuilt image) (p n : ℕ) (t : Task) (cr2 : ℕ) (cause : Cause) (body : ℕ) (m : Memory)
    → Ready mode image p n t cr2 cause body m → Begins mode image p n t cr2 cause body m
begins_entry Fred image built p n t cr2 cause body m ready = fred.begins_fred image built p n t cr2 cause body m ready
begins_entry Idt image built p n t cr2 Call body m ready = idt.begins_call image p n t cr2 body m ready
begins_entry Idt image built p n t cr2 (Faulted f) body m ready = through_gates.begins_idt image built p n t cr2 (Faulted f) body m ready (λ e. cc)
begins_entry Idt image built p n t cr2 (Arrived v) body m ready = through_gates.begins_idt image built p n t cr2 (Arrived v) body m ready (λ e. cc)
begins_entry Idt image built p n t cr2 Debug body m ready = through_gates.begins_idt image built p n t cr2 Debug body m ready (λ e. cc)
begins_entry Idt image built p n t cr2 Breakpoint body m ready = through_gates.begins_idt image built p n t cr2 Breakpoint body m ready (λ e. cc)
begins_entry Idt image built p n t cr2 Three body m ready = through_gates.begins_idt image built p n t cr2 Three body m ready (λ e. cc)
begins_entry Idt image built p n t cr2 (Refused k) body m ready = through_gates.begins_idt image built p n t cr2 (Refused k) body m ready (λ e. cc)

module _ (mode : Mode) (image : Image) (formed : IsImage image) (built : IsBuilt image) (facts : Facts mode image) where
  -- What the task raises, or an interrupt that comes to it, where there is a body: both machines begin it, with the local APIC as it is behind that.
  pub raise_turn : (left : NatMap ℕ) (s : System) (m : Machine) → Stands mode image left s m → (p : ℕ) → p < image.processors → (processor m p).bodies ≡ []
      → (u : AtUser mode image formed built facts left s m p) (cause : Cause) → IsCause cause → (body : ℕ)
      → first_body 0 image.bodies (cause_key cause) User ≡ Some body → (a : Apic) (set : NatSet)
      → ApicIs mode image a set (body_at_start body User (raised_event cause) ∷ [])
      → turn image m p
      ≡ (with_processor m p (raised_in (processor m p) cause body set), entry_of p (raised_event cause) (saved_at (task (processor m p)) cause) ∷ [])
      → step (s.cpus p) (s.apics p) s.memory (s.latches p) ≡ raising (s.cpus p) a s.memory (s.latches p) cause
      → is_canonical (saved_at (task (processor m p)) cause) ≡ true
      → ((own_event cause).length ≡ 2 → (task (processor m p)).rip + 2 < 2 ^ 64) → TurnsTo mode image left s m p
  raise_turn left s m h p lt hb u cause is_cause body found a set apic turns steps next_good next_small =
      let x : abstract.Processor = processor m p in
      let c : Processor = s.cpus p in
      let t : Task = task x in
      let n : ℕ = x.running in
      let next : ℕ = saved_at t cause in
      let κ : Kind = kind_at cause in
      let holder : HasBody image (cause_key cause) body = has_body image formed (cause_key cause) body User found in
      let st : Starts t cause = starts t cause is_cause u.rest.task.task next_good (word_of_canonical next next_good) in
      let small : p < 32 = let eight = formed.count.1 in omega arith in
      let first : n < 4 = let l = u.on.running in let four = four_tasks image formed p lt in omega arith in
      let words : NatMap ℕ = s.memory.words in
      let current : CurrentIs mode p n words = u.on.current u.rest.still in
      let is_raiser : c ≡ raiser mode image p n t c.cr2 cause body = u.rest.task.is ∙ ap (task_processor mode image p n t c.cr2) u.open_to in
      let begun : Begins mode image p n t c.cr2 cause body s.memory = begins_entry mode image built p n t c.cr2 cause body s.memory (record {
        running = first;
        within = lt;
        few = formed.count.1;
        formed = formed;
        facts = facts;
        long = u.rest.task.task.long;
        is_cause = is_cause;
        rip_small = next_small;
        regions_are = h.regions_are;
        fixed = h.fixed;
        found = found;
        stands = holder.body;
        is = holder.is;
        top_is = current.top;
        tss = current.tss;
      }) in
      let d : Processor = begun.cpu in
      let words' : NatMap ℕ = begun.words in
      let w : Processor = over mode image p n t c.cr2 cause body in
      let b : BodyContext = context mode image p n t c.cr2 cause body in
      let back : Task = returning t cause in
      let r : After = arrival d words' begun.event begun.frame a false in
      let s' : System = (acted image.processors (after_step s p r) p r.step).0 in
      let kind : kind_of image b [] ≡ κ = ap (λ o. kind_from (key_by o) []) holder.is ∙ ap (λ k. kind_from k []) holder.number in
      let as' : List Activation = activations_by s p (s.activations p) d r.step in
      let last : Activation = record { rsp = 0; rip = 0; inner = false } in
      let begins_last : as' ≡ last ∷ []
      = (λ i. record { rsp = 0; rip = 0; inner = starts_inner_not i } ∷ nothing_under c (s.activations p) u.rest.none i) in
      let mv : Moves p s s' d as' words' = delivery_moves image.processors p s (after_step s p r) d as' words' begun.event begun.frame
      (step_moves s p r (sym u.latch)) in
      let mem : Memory = with_words s.memory words' in
      let under : RunsTask mode image p n back w = record { is = refl; task = st.task } in
      let stood : Active mode image p entry_edges κ (record { stack = n; used = 0 }) u.on.frame u.on.switching None w b d mem
      = subst (λ g. Active mode image p entry_edges κ (record { stack = n; used = 0 }) u.on.frame g None w b d mem) (sym u.rest.still)
      (begun.active u.on.frame) in
      let tail = subst (λ k. Beneath mode image (keeps_cr2 mode image k)
      (λ v. Chain mode image p (body_edges mode image) n n back u.on.frame (chained mode image u.on.switching []) [] [] [] v mem) w
      × Leads mode p k u.on.frame w mem.words
      × Active mode image p entry_edges k (seat_by mode k n (seat_of mode image n []) (room_of mode image [])) u.on.frame
      (switches_at mode image u.on.switching []) None w b d mem) (sym kind)
      (over_kind mode image p entry_edges n n back u.on.frame u.on.switching None w b d mem κ (over_one cause is_cause) under stood) in
      let is_context : IsContext mode image b = record { item = holder.item; is = holder.first } in
      let chain : Chain mode image p entry_edges n n back u.on.frame u.on.switching (None ∷ []) (b ∷ []) (last ∷ []) d mem =
      (w, is_context, refl, tt, tail.0, tail.1, tail.2) in
      let after = user_after mode image formed built facts left s s' m p lt h u d as' words' back (None ∷ []) (b ∷ []) set entry_edges hb mv
      (kernel_names p)
      (kernel_spares p small) begun.changes m.words
      (kernel_user p (record { stack = n; used = 0 }) small (omega arith) words words' m.words begun.changes h.shares.user) h.shares.held
      (turn_legal image formed built.accepted m p lt h.legal (with_processor m p (raised_in x cause body set), entry_of p (raised_event cause) next ∷ []) turns)
      (turn_bases image m p h.bases (with_processor m p (raised_in x cause body set), entry_of p (raised_event cause) next ∷ []) turns)
      (h.told ++ entry_of p (raised_event cause) next ∷ [])
      (turn_few image formed built.accepted m p lt h.legal h.told h.calls s.totals.steps h.few
      (with_processor m p (raised_in x cause body set), entry_of p (raised_event cause) next ∷ []) turns)
      (turn_calls image formed built.accepted m p lt h.legal h.told h.calls
      (with_processor m p (raised_in x cause body set), entry_of p (raised_event cause) next ∷ []) turns)
      (starts_with_words body User (raised_event cause) (causes_small cause is_cause), tt) st.task
      (begun.blocking ∙ sym (plain_no_nmi image b (ap is_over_task kind ∙ over_one cause is_cause)))
      (subst (λ y. ApicIs mode image y set (b ∷ []))
      (sym (delivery_apic image.processors p p (after_step s p r) begun.event begun.frame ∙ at_same s.apics p p a refl)) apic)
      (omega arith) (tt, tt) (λ k. refl)
      (λ q e. subst (λ ys. Chain mode image p entry_edges n q back u.on.frame u.on.switching (None ∷ []) (b ∷ []) ys d (with_words s.memory words'))
      (sym begins_last)
      (subst (λ z. Chain mode image p entry_edges n z back u.on.frame u.on.switching (None ∷ []) (b ∷ []) (last ∷ []) d (with_words s.memory words'))
      (sym e) chain)) in
      let shallow : bodies_on s p ≡ 0 = stands_depth mode image facts p (left p) s x u.on ∙ ap length hb in
      let only : OnlyTask s p n = record { none = u.rest.none; user = u.at_cpl3; task_is = current.current } in
      record {
        after = r;
        steps = steps ∙ ap (λ nmi. raising c a s.memory nmi cause) u.latch
            ∙ ap (λ z. raising z a s.memory false cause) is_raiser ∙ begun.runs a false;
        machine = with_processor m p (raised_in x cause body set);
        entries = entry_of p (raised_event cause) next ∷ [];
        turns = turns;
        seen = u.seen;
        now_left = entry_edges + inner_edges (s.latches p);
        stands = after.1;
        counts = stands_depth mode image facts p _ s' _ after.0
            ∙ ap suc (sym shallow) ∙ sym (ap (λ i. if i then bodies_on s p else suc (bodies_on s p)) u.not_inner);
        shows = λ told. shown_is p (bodies_on s p) (is_user c) (has_fred c) told begun.cpu begun.words begun.event begun.frame (raised_event cause) next
            u.at_cpl3 shallow
            (ap (λ q. told_event (is_refused (has_fred q) begun.event) begun.event) is_raiser ∙ begun.told)
            (ap (λ q. told_rip (is_refused (has_fred q) begun.event) (saved_rip (has_fred q) begun.cpu begun.words begun.event begun.frame)) is_raiser
            ∙ begun.saved);
        safe = begun.safe s only image.processors (after_step s p r) (at_same s.cpus p p d refl);
      }
    where
      starts_inner_not : starts_inner s p (next_of (s.cpus p) (s.apics p) (s.latches p)) ≡ false
      starts_inner_not = u.not_inner

  -- whatever the task raises has one
  pub raised_turn : (left : NatMap ℕ) (s : System) (m : Machine) → Stands mode image left s m → (p : ℕ) → p < image.processors → (processor m p).bodies ≡ []
      → AtUser mode image formed built facts left s m p → AtInstruction mode image formed built facts left s m p → (saved : ℕ) (e : Event)
      → user_step (user_memory image m) (task (processor m p)) ≡ Raises saved e → TurnsTo mode image left s m p
  raised_turn left s m h p lt hb u i saved e raises =
      let x : abstract.Processor = processor m p in
      let t : Task = task x in
      let c : Processor = s.cpus p in
      let r : Raised t c (s.apics p) s.memory (s.latches p) saved e (step c (s.apics p) s.memory (s.latches p))
      = user_raises mode image p x.running t (user_memory image m) c (s.apics p) s.memory (s.latches p) i.site saved e raises in
      let has : is_some (first_body 0 image.bodies (event_key e.kind e.vector) User) ≡ true
      = user_events_have_bodies image (user_memory image m) t saved e formed built.accepted raises in
      let found = the_some (first_body 0 image.bodies (cause_key r.cause) User)
      (subst (λ (z : Event). is_some (first_body 0 image.bodies (event_key z.kind z.vector) User) ≡ true) r.event has) in
      let good : is_canonical (saved_at t r.cause) ≡ true = subst (λ n. is_canonical n ≡ true) r.saved_is r.canonical in
      let holder : HasBody image (cause_key r.cause) found.0 = has_body image formed (cause_key r.cause) found.0 User found.1 in
      let st : Starts t r.cause = starts t r.cause r.is u.rest.task.task good (word_of_canonical (saved_at t r.cause) good) in
      raise_turn left s m h p lt hb u r.cause r.is found.0 found.1 (s.apics p) x.pending
      (apic_again mode image (s.apics p) (s.apics p) x.pending x.bodies (body_at_start found.0 User (raised_event r.cause) ∷ []) refl
      (λ class. ap (λ o. serves mode image class o || false) (st.service r.own)
      ∙ sym (ap (list_any (λ (b : BodyContext). serves mode image class b.service)) hb)) u.on.apic)
      (i.turns ∙ ap (task_step image m p) (raises ∙ ap (λ n. Raises n e) r.saved_is ∙ ap (Raises (saved_at t r.cause)) r.event)
      ∙ raise_steps image m p r.cause found.0 holder hb found.1 st)
      r.step_is good r.behind

  -- An interrupt comes before the next instruction.
  put_back : {X : Type 0} (m : NatMap X) (k i : ℕ) → put_at m k (m k) i ≡ m i
  put_back m k i = ⊎_elim (λ e. at_same m k i (m k) e.1 ∙ ap m (sym e.1)) (λ e. at_other m k i (m k) e.0) (eqb_tells i k)

  interrupt_turn : (left : NatMap ℕ) (s : System) (m : Machine) → Stands mode image left s m → (p : ℕ) → p < image.processors → (processor m p).bodies ≡ []
      → AtUser mode image formed built facts left s m p → (v : ℕ) → next_vector (s.apics p) ≡ Some v → TurnsTo mode image left s m p
  unfolding turn step
  interrupt_turn left s m h p lt hb u v is =
      let x : abstract.Processor = processor m p in
      let t : Task = task x in
      let c : Processor = s.cpus p in
      let e : Event = interrupt_event v in
      let greatest : IsGreatestBelow 256 (deliverable x) (Some v)
      = subst (IsGreatestBelow 256 (deliverable x)) (sym (next_is mode image (s.apics p) x u.on.apic (λ v e. ((h.legal.each p).pending.each v e).from)) ∙ is)
      (greatest_law 256 (deliverable x)) in
      let comes : IsInterrupt image v = (h.legal.each p).pending.each v (and_left (x.pending v) _ greatest.1) in
      let is_cause : IsCause (Arrived v) = (comes.from, comes.to) in
      let found = the_some (first_body 0 image.bodies v User) (interrupt_has_bodies image v built.accepted.1.kept comes).0 in
      let set : NatSet = put_at x.pending v false in
      let same : t.rip ≡ t.rip + 0 = omega arith in
      let here : c.rip ≡ c.rip + 0 = omega arith in
      let good : is_canonical (saved_at t (Arrived v)) ≡ true = subst (λ n. is_canonical n ≡ true) same u.rest.task.task.canonical in
      let holder : HasBody image v found.0 = has_body image formed v found.0 User found.1 in
      let st : Starts t (Arrived v) = starts t (Arrived v) is_cause u.rest.task.task good (word_of_canonical (saved_at t (Arrived v)) good) in
      let bs : List BodyContext = body_at_start found.0 User e ∷ [] in
      raise_turn left s m h p lt hb u (Arrived v) is_cause found.0 found.1 (begun (s.apics p) v) set
      (begun_is mode image (s.apics p) x.pending [] v (body_at_start found.0 User e)
      (subst (ApicIs mode image (s.apics p) x.pending) hb u.on.apic) comes.to refl refl)
      (ap (chosen_step image m p) (u.chosen ∙ ap interrupt_or_next is)
      ∙ ap (λ (q : abstract.Processor × List Entry). (with_processor m p q.0, q.1))
      (delivered_is image p (record x { pending = set }) found.0 e holder hb found.1 (holder.key_is ∙ st.key))
      ∙ ap (λ (ts : NatMap Task). (with_processor m p (record x { tasks = ts; bodies = bs; pending = set }), entry_of p e t.rip ∷ []))
      (λ i k. sym (put_back x.tasks x.running k) i)
      ∙ ap (λ n. (with_processor m p (record x { tasks = put_at x.tasks x.running (record t { rip = n }); bodies = bs; pending = set }), entry_of p e n ∷ []))
      same)
      (ap (step_by c (s.apics p) s.memory (s.latches p)) (u.next ∙ ap interrupt_or_instruction is)
      ∙ ap (delivering c (begun (s.apics p) v) s.memory (s.latches p) e) here)
      good (λ q. let z : ⊥ = omega arith in absurd z)

  task_turn : (left : NatMap ℕ) (s : System) (m : Machine) → Stands mode image left s m → (p : ℕ) → p < image.processors → (processor m p).bodies ≡ []
      → AtUser mode image formed built facts left s m p → AtInstruction mode image formed built facts left s m p → (x : UserStep)
      → user_step (user_memory image m) (task (processor m p)) ≡ x → TurnsTo mode image left s m p
  task_turn left s m h p lt hb u i (Goes t memory) goes = goes_turn mode image formed built facts left s m h p lt hb u i t memory goes
  task_turn left s m h p lt hb u i (Raises saved e) raises = raised_turn left s m h p lt hb u i saved e raises

  -- an interrupt, or an instruction
  next_turn : (left : NatMap ℕ) (s : System) (m : Machine) → Stands mode image left s m → (p : ℕ) → p < image.processors → (processor m p).bodies ≡ []
      → AtUser mode image formed built facts left s m p → (o : Option ℕ) → next_vector (s.apics p) ≡ o → TurnsTo mode image left s m p
  next_turn left s m h p lt hb u None none =
      task_turn left s m h p lt hb u (at_instruction mode image formed built facts left s m h p hb u none)
      (user_step (user_memory image m) (task (processor m p))) refl
  next_turn left s m h p lt hb u (Some v) is = interrupt_turn left s m h p lt hb u v is

  -- a turn of the task is visible, and the abstract machine makes the same; it writes over no live word
  pub user_turn : (left : NatMap ℕ) (s : System) (m : Machine) → Stands mode image left s m → (p : ℕ) → p < image.processors → (processor m p).bodies ≡ []
      → Simulated mode image left s m p
  user_turn left s m h p lt hb =
      let u : AtUser mode image formed built facts left s m p = at_user mode image formed built facts left s m h p lt hb in
      let t : TurnsTo mode image left s m p = next_turn left s m h p lt hb u (next_vector (s.apics p)) refl in record {
        safe = is_safe mode image left s m p t;
        counts = tells_bodies mode image left s m p t;
        how = inr (makes_turn mode image left s m p t);
      }
