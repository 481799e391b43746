-- The boundary at which a task runs: what the abstract machine chooses.
use Rattle.std.proofs.Common.{◌≡◌, ℕ, false, ◌&&◌, not, [], ap, ◌∙◌}
use Rattle.std.specs.Prelude.{if◌then◌else◌}
use Rattle.std.specs.List.{list_any}
use Rattle.ev_isa.specs.Word.{greatest_below}
use Rattle.ev_body.specs.declared.image.Image.{Image}
use Rattle.ev_abstract.specs.Machine.{Machine, processor, task, user_memory}
use Rattle.ev_abstract.specs.Machine as abstract
use Rattle.ev_abstract.specs.UserCode.{user_step}
use Rattle.ev_abstract.specs.Boundary.{Choice, Next as NextItem, choice, maskable, interrupt_or_next, is_nmi_body, open_to_interrupts, deliverable}
use Rattle.ev_abstract.specs.Run.{turn, chosen_step, next_step, task_step}

-- no NMI comes, and it is open to interrupts
pub task_choice : (image : Image) (x : abstract.Processor) → x.nmi ≡ false → x.bodies ≡ []
    → choice image x ≡ interrupt_or_next (greatest_below 256 (deliverable x))
unfolding choice
task_choice image x hn hb =
    ap (λ b. if b && not (list_any (is_nmi_body image) x.bodies) then Choice.Nmi else maskable x) hn
    ∙ ap (λ bs. if open_to_interrupts bs then interrupt_or_next (greatest_below 256 (deliverable x)) else NextItem) hb

-- with none of these a turn is the step of its user code
pub task_turns : (image : Image) (m : Machine) (p : ℕ) → choice image (processor m p) ≡ NextItem → (processor m p).bodies ≡ []
    → turn image m p ≡ task_step image m p (user_step (user_memory image m) (task (processor m p)))
unfolding turn
task_turns image m p hc hb = ap (chosen_step image m p) hc ∙ ap (next_step image m p) hb
