-- Every line of a script keeps the machine legal, from the opening on.
use Rattle.std.specs.Prelude.{◌≡◌, refl, ℕ, zero, suc, ◌≤◌, ◌<◌, Bool, true, false, not, ◌&&◌, if◌then◌else◌, List, [], ◌∷◌, Option, Some, None, slice_get, ◌||◌}
use Rattle.std.specs.List.{list_any}
use Rattle.std.proofs.Common.{arith, ap, sym, ◌∙◌, subst, inl, inr}
use Rattle.std.proofs.lemmas.Bool.{and_parts, not-true, or_cases, or_right}
use Rattle.ev_isa.specs.Word.{NatSet, put_at, greatest_below}
use Rattle.ev_event.specs.Event.{nmi_event, interrupt_event}
use Rattle.ev_body.specs.declared.key.Key.{Key}
use Rattle.ev_body.specs.declared.key.Key.TheVariants.{Nmi, Irq}
use Rattle.ev_body.specs.declared.item.Item.{Item}
use Rattle.ev_body.specs.declared.body.Body.{Body}
use Rattle.ev_body.specs.declared.image.Image.{Image}
use Rattle.ev_body.specs.Bodies.{body_items, key_number}
use Rattle.ev_body.specs.WellFormed.{is_sendable}
use Rattle.ev_abstract.specs.Context.{CallId, BodyContext}
use Rattle.ev_abstract.specs.Machine.{Processor, Machine, processor, task, with_task, user_memory}
use Rattle.ev_abstract.specs.Boundary.{Choice, Interrupt, Next, choice, maskable, interrupt_or_next, deliverable, open_to_interrupts, is_nmi_body}
use Rattle.ev_abstract.specs.Delivery.{delivered, nmi_delivered, interrupt_delivered, saved_by}
use Rattle.ev_abstract.specs.UserCode.{UserStep, Goes, Raises, user_step}
use Rattle.ev_abstract.specs.Script.{is_line, has_body_of}
use Rattle.ev_abstract.specs.declared.script_line.Line.{Line}
use Rattle.ev_abstract.specs.declared.script_line.Line.TheVariants.{Turn, Edge, Arrive, Accept}
use Rattle.ev_abstract.specs.Run.{turn, line_step, task_step, item_at, item_or_nothing, next_step, chosen_step, arrived, accepted}
use Rattle.ev_law.specs.Legal.{AreLegal, IsLegalProcessor, Legal, knows}
use Rattle.ev_law.specs.Laws.{LinesKeepLegal}
use Rattle.ev_law.proofs.Ruled.{IsRuled, body_ruled}
use Rattle.ev_law.proofs.Delivery.{CanCome, delivered_legal, delivered_records, nmi_can_come, interrupt_can_come, fault_can_come}
use Rattle.ev_law.proofs.Machines.{put_legal, alike_words, put_vector, sendable_interrupt, used_by_body}
use Rattle.ev_law.proofs.Items.{item_legal}
use Rattle.ev_law.proofs.UserFaults.{RaisesFaults, user_step_faults}

greatest_found : (n : ℕ) (s : NatSet) (v : ℕ) → greatest_below n s ≡ Some v → (v < n) × (s v ≡ true)
greatest_found zero s v h = absurd (cc)
greatest_found (suc n) s v h = pick (s n) refl h (greatest_found n s v)
  where
    pick : (b : Bool) → s n ≡ b → (elim b as (λ y. Option ℕ) [ true ↦ Some n | false ↦ greatest_below n s ]) ≡ Some v
        → (greatest_below n s ≡ Some v → (v < n) × (s v ≡ true)) → (v < suc n) × (s v ≡ true)
    pick true q e k = let same : n ≡ v = cc in (omega arith, ap s (sym same) ∙ q)
    pick false q e k = let f = k e in let l : v < n = f.0 in (omega arith, f.1)

module _ (image : Image) (ruled : (n : ℕ) (b : Body) → slice_get image.bodies n ≡ Some b → IsRuled image b) where
  -- ---- the task

  task_legal : (m : Machine) (p : ℕ) (s : UserStep) → RaisesFaults s → Legal image m → (processor m p).bodies ≡ []
      → Legal image (task_step image m p s).0
  task_legal m p (Goes t words) f h e =
      put_legal image (record m { words = words }) p (with_task (processor m p) t) refl ((alike_words image m words).legal h)
      (record { bodies = (h.each p).bodies; pending = (h.each p).pending; mail = (h.each p).mail; nmi = (h.each p).nmi; queue = (h.each p).queue })
  task_legal m p (Raises saved event) f h e =
      let x : Processor = with_task (processor m p) (saved_by event.kind (record (task (processor m p)) { rip = saved })) in
      put_legal image m p (delivered image p x event).0 (delivered_records image p x event) h
      (delivered_legal image (knows image m) ruled p x event
      (record { bodies = (h.each p).bodies; pending = (h.each p).pending; mail = (h.each p).mail; nmi = (h.each p).nmi; queue = (h.each p).queue })
      (subst (λ bs. CanCome image bs event) (sym e) (fault_can_come image (knows image m) ruled event f)))

  -- ---- the last context

  item_or_nothing_legal : (m : Machine) (p : ℕ) (c : BodyContext) (below : List BodyContext) (h : Legal image m) (e : (processor m p).bodies ≡ c ∷ below)
      (top : AreLegal image (knows image m) (c ∷ below))
      → (o : Option Item) → slice_get (body_items top.0.body) c.place ≡ o → Legal image (item_or_nothing image m p c o).0
  item_or_nothing_legal m p c below h e top None q = h
  item_or_nothing_legal m p c below h e top (Some item) q = item_legal image ruled m p c below h e top item q

  next_legal : (m : Machine) (p : ℕ) (bodies : List BodyContext) → (processor m p).bodies ≡ bodies → Legal image m
      → Legal image (next_step image m p bodies).0
  next_legal m p [] e h =
      task_legal m p (user_step (user_memory image m) (task (processor m p))) (user_step_faults (user_memory image m) (task (processor m p))) h e
  next_legal m p (c ∷ below) e h =
      let top : AreLegal image (knows image m) (c ∷ below) = subst (AreLegal image (knows image m)) e ((h.each p).bodies) in
      subst (λ o. Legal image (item_or_nothing image m p c (item_at o c.place)).0) (sym top.0.is_body)
      (item_or_nothing_legal m p c below h e top (slice_get (body_items top.0.body) c.place) refl)

  -- ---- a turn

  nmi_legal : (m : Machine) (p : ℕ) → Legal image m → list_any (is_nmi_body image) (processor m p).bodies ≡ false
      → Legal image (chosen_step image m p Choice.Nmi).0
  nmi_legal m p h alone =
      put_legal image m p (nmi_delivered image p (processor m p)).0 (delivered_records image p (record (processor m p) { nmi = false }) nmi_event) h
      (delivered_legal image (knows image m) ruled p (record (processor m p) { nmi = false }) nmi_event
      (record {
        bodies = (h.each p).bodies;
        pending = (h.each p).pending;
        mail = (h.each p).mail;
        nmi = λ e. (h.each p).nmi
            (or_right (processor m p).nmi (processor m p).mail_nmi e);
        queue = (h.each p).queue;
      })
      (nmi_can_come image (knows image m) ruled (processor m p).bodies ((h.each p).bodies) alone))

  interrupt_legal : (m : Machine) (p v : ℕ) → Legal image m → open_to_interrupts (processor m p).bodies ≡ true → v < 256
      → deliverable (processor m p) v ≡ true → Legal image (chosen_step image m p (Interrupt v)).0
  interrupt_legal m p v h on hi may =
      let q = and_parts ((processor m p).pending v) _ may in
      put_legal image m p (interrupt_delivered image p (processor m p) v).0
      (delivered_records image p (record (processor m p) { pending = put_at (processor m p).pending v false }) (interrupt_event v)) h
      (delivered_legal image (knows image m) ruled p (record (processor m p) { pending = put_at (processor m p).pending v false }) (interrupt_event v)
      (record {
        bodies = (h.each p).bodies;
        pending = put_vector image (processor m p).pending v false (λ e. absurd (cc)) (h.each p).pending;
        mail = (h.each p).mail;
        nmi = (h.each p).nmi;
        queue = (h.each p).queue;
      })
      (interrupt_can_come image (knows image m) ruled v (processor m p).bodies ((h.each p).bodies) ((h.each p).pending.each v q.0).from hi on q.1))

  turn_legal : (m : Machine) (p : ℕ) → Legal image m → Legal image (turn image m p).0
  unfolding turn choice
  turn_legal m p h = pick ((processor m p).nmi && not (list_any (is_nmi_body image) (processor m p).bodies)) refl
    where
      found : (n : ℕ) → n ≤ 256 → open_to_interrupts (processor m p).bodies ≡ true → (o : Option ℕ)
          → greatest_below n (deliverable (processor m p)) ≡ o → Legal image (chosen_step image m p (interrupt_or_next o)).0
      found n l on None q = next_legal m p (processor m p).bodies refl h
      found n l on (Some v) q =
          let f = greatest_found n (deliverable (processor m p)) v q in
          let u : v < n = f.0 in interrupt_legal m p v h on (omega arith) f.1

      boundary : (b : Bool) → open_to_interrupts (processor m p).bodies ≡ b
          → Legal image (chosen_step image m p (if b then interrupt_or_next (greatest_below 256 (deliverable (processor m p))) else Next)).0
      boundary true q = found 256 (omega arith) q (greatest_below 256 (deliverable (processor m p))) refl
      boundary false q = next_legal m p (processor m p).bodies refl h

      pick : (b : Bool) → ((processor m p).nmi && not (list_any (is_nmi_body image) (processor m p).bodies)) ≡ b
          → Legal image (chosen_step image m p (if b then Choice.Nmi else maskable (processor m p))).0
      pick true q = nmi_legal m p h (not-true _ (and_parts _ _ q).1)
      pick false q = boundary (open_to_interrupts (processor m p).bodies) refl

  -- ---- arrivals

  arrived_records : (x : Processor) (key : Key) → (arrived x key).records ≡ x.records
  arrived_records x Nmi = refl
  arrived_records x _ = refl

  arrived_legal : (known : CallId → Bool) (x : Processor) (key : Key) → is_sendable key ≡ true → has_body_of image key ≡ true
      → IsLegalProcessor image known x → IsLegalProcessor image known (arrived x key)
  unfolding key_number
  arrived_legal known x Nmi h b k = record { bodies = k.bodies; pending = k.pending; mail = k.mail; nmi = λ e. used_by_body image Nmi b; queue = k.queue }
  arrived_legal known x (Irq v) h b k = record {
    bodies = k.bodies;
    pending = put_vector image x.pending v true (λ e. sendable_interrupt image v h (used_by_body image (Irq v) b)) k.pending;
    mail = k.mail;
    nmi = k.nmi;
    queue = k.queue;
  }
  arrived_legal known x _ h b k = absurd (cc)

  accepted_legal : (known : CallId → Bool) (x : Processor) → IsLegalProcessor image known x → IsLegalProcessor image known (accepted x)
  accepted_legal known x k = record {
    bodies = k.bodies;
    pending = record { each = λ v e. elim (or_cases (x.pending v) (x.mail v) e) [ inl a ↦ k.pending.each v a | inr a ↦ k.mail.each v a ] };
    mail = record { each = λ v e. absurd (cc) };
    nmi = λ e. k.nmi (elim (or_cases (x.nmi || x.mail_nmi) false e) [ inl a ↦ a | inr b ↦ absurd (cc) ]);
    queue = k.queue;
  }

  line_legal : (m : Machine) (l : Line) → is_line image l ≡ true → Legal image m → Legal image (line_step image m l).0
  unfolding line_step is_line
  line_legal m (Turn p) k h = turn_legal m p h
  line_legal m (Edge p n) k h = h
  line_legal m (Arrive p key) k h =
      let s = and_parts _ (has_body_of image key) k in
      put_legal image m p (arrived (processor m p) key) (arrived_records (processor m p) key) h
      (arrived_legal (knows image m) (processor m p) key (and_parts _ (is_sendable key) s.0).1 s.1 (h.each p))
  line_legal m (Accept p) k h = put_legal image m p (accepted (processor m p)) refl h (accepted_legal (knows image m) (processor m p) (h.each p))

pub lines_keep_legal : LinesKeepLegal
lines_keep_legal image m l is accepted k h = line_legal image (body_ruled image is accepted.1.kept) m l k h
