-- Each line of a script keeps the records of calls.
use Rattle.std.specs.Prelude.{◌≡◌, refl, ℕ, ◌<◌, true, false, List, [], ◌∷◌, Option, Some, None, slice_get}
use Rattle.std.proofs.Common.{arith, sym, subst}
use Rattle.std.proofs.lemmas.Bool.{ltb-true}
use Rattle.ev_isa.specs.Word.{put_at}
use Rattle.ev_event.specs.Event.{nmi_event, interrupt_event}
use Rattle.ev_body.specs.declared.key.Key.{Key}
use Rattle.ev_body.specs.declared.key.Key.TheVariants.{Nmi}
use Rattle.ev_body.specs.declared.item.Item.{Item}
use Rattle.ev_body.specs.declared.body.Body.{Body}
use Rattle.ev_body.specs.declared.image.Image.{Image}
use Rattle.ev_body.specs.Bodies.{body_items}
use Rattle.ev_abstract.specs.Context.{BodyContext}
use Rattle.ev_abstract.specs.Machine.{Machine, processor, with_processor, task, with_task, user_memory}
use Rattle.ev_abstract.specs.Boundary.{Choice, Interrupt, Next, choice}
use Rattle.ev_abstract.specs.Delivery.{saved_by}
use Rattle.ev_abstract.specs.UserCode.{UserStep, Goes, Raises, user_step}
use Rattle.ev_abstract.specs.Script.{is_line}
use Rattle.ev_abstract.specs.declared.entry.Entry.{Entry}
use Rattle.ev_abstract.specs.declared.script_line.Line.{Line}
use Rattle.ev_abstract.specs.declared.script_line.Line.TheVariants.{Turn, Edge, Arrive, Accept}
use Rattle.ev_abstract.specs.Run.{turn, line_step, task_step, item_at, item_or_nothing, next_step, chosen_step, arrived, accepted}
use Rattle.ev_law.specs.Legal.{AreLegal, Legal, knows}
use Rattle.ev_call_law.specs.Calls.{KeepsCallRecords}
use Rattle.ev_law.proofs.Ruled.{IsRuled}
use Rattle.ev_call_law.proofs.Functions.{IsParted}
use Rattle.ev_call_law.proofs.Records.{KeptStep, Same, same_self, same_words, put_same, same_calls, put_calls, same_kept}
use Rattle.ev_call_law.proofs.Items.{delivered_kept, item_kept}

arrived_same : (m : Machine) (p : ℕ) (key : Key) → Same m (with_processor m p (arrived (processor m p) key))
arrived_same m p Nmi = put_same m p (arrived (processor m p) Nmi) refl refl refl
arrived_same m p key = put_same m p (arrived (processor m p) key) refl refl refl

module _ (image : Image) (ruled : (n : ℕ) (b : Body) → slice_get image.bodies n ≡ Some b → IsRuled image b)
    (parted : (n : ℕ) (b : Body) → slice_get image.bodies n ≡ Some b → IsParted b) where
  module _ (m : Machine) (past : List Entry) (keeps : KeepsCallRecords image m past) where
    unchanged : (n : Machine) → Same m n → KeptStep image past (n, [])
    unchanged n same = same_kept image m n past [] keeps (same_calls image m n same) tt tt (omega arith)

    task_kept : (p : ℕ) (s : UserStep) → KeptStep image past (task_step image m p s)
    task_kept p (Goes t words) = let n : Machine = record m { words = words } in
        same_kept image m (with_processor n p (with_task (processor m p) t)) past [] keeps
        (put_calls image m n p (with_task (processor m p) t) (same_words m words) refl refl refl (λ h. h)) tt tt (omega arith)
    task_kept p (Raises saved e) = delivered_kept image ruled parted m m p
        (with_task (processor m p) (saved_by e.kind (record (task (processor m p)) { rip = saved }))) e past keeps (same_self m) refl refl refl

    module _ (legal : Legal image m) (p : ℕ) (within : p < image.processors) where
      item_or_nothing_kept : (c : BodyContext) (below : List BodyContext) (here : (processor m p).bodies ≡ c ∷ below)
          (top : AreLegal image (knows image m) (c ∷ below)) (o : Option Item) → slice_get (body_items top.0.body) c.place ≡ o
          → KeptStep image past (item_or_nothing image m p c o)
      item_or_nothing_kept c below here top None q = unchanged m (same_self m)
      item_or_nothing_kept c below here top (Some item) q = item_kept image ruled parted m p c below past legal keeps here within top item q

      next_kept : (bodies : List BodyContext) → (processor m p).bodies ≡ bodies → KeptStep image past (next_step image m p bodies)
      next_kept [] e = task_kept p (user_step (user_memory image m) (task (processor m p)))
      next_kept (c ∷ below) e =
          let top : AreLegal image (knows image m) (c ∷ below) = subst (AreLegal image (knows image m)) e ((legal.each p).bodies) in
          subst (λ o. KeptStep image past (item_or_nothing image m p c (item_at o c.place))) (sym top.0.is_body)
          (item_or_nothing_kept c below e top (slice_get (body_items top.0.body) c.place) refl)

      chosen_kept : (c : Choice) → KeptStep image past (chosen_step image m p c)
      chosen_kept Choice.Nmi =
          delivered_kept image ruled parted m m p (record (processor m p) { nmi = false }) nmi_event past keeps (same_self m) refl refl refl
      chosen_kept (Interrupt v) =
          delivered_kept image ruled parted m m p (record (processor m p) { pending = put_at (processor m p).pending v false }) (interrupt_event v) past keeps
          (same_self m) refl refl refl
      chosen_kept Next = next_kept (processor m p).bodies refl

      turn_kept : KeptStep image past (turn image m p)
      unfolding turn
      turn_kept = chosen_kept (choice image (processor m p))

    pub line_kept : Legal image m → (l : Line) → is_line image l ≡ true → KeptStep image past (line_step image m l)
    unfolding line_step is_line
    line_kept legal (Turn p) k = turn_kept legal p (ltb-true p image.processors k)
    line_kept legal (Edge p n) k = unchanged m (same_self m)
    line_kept legal (Arrive p key) k = unchanged (with_processor m p (arrived (processor m p) key)) (arrived_same m p key)
    line_kept legal (Accept p) k =
        unchanged (with_processor m p (accepted (processor m p))) (put_same m p (accepted (processor m p)) refl refl refl)
