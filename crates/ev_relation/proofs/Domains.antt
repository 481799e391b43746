-- What an image gives of each processor's tasks, and the task with another CR2.
use Rattle.std.proofs.Common.{◌≡◌, ℕ, ◌<◌, ◌≤◌, Bool, true, false, ◌&&◌, List, [], length, get_or, refl, sym, ap, ◌∙◌, arith}
use Rattle.std.specs.Prelude.{nat_lt, nat_le}
use Rattle.std.specs.List.{list_all}
use Rattle.std.proofs.lemmas.Bool.{and_parts, leb-true, ltb-true}
use Rattle.std.proofs.lemmas.List.Folds.{list_all_at}
use Rattle.ev_isa.specs.declared.mode.Mode.{Mode}
use Rattle.ev_body.specs.declared.image.Image.{Image}
use Rattle.ev_body.specs.declared.image.TaskSpec.{TaskSpec}
use Rattle.ev_body.specs.WellFormed.{IsImage, is_task}
use Rattle.ev_effect.specs.Task.{Task}
use Rattle.ev_state.specs.Processor.{Processor}
use Rattle.ev_abstract.specs.Machine.{no_task}
use Rattle.ev_concrete.specs.Opening.{tasks_of}
use Rattle.ev_user.specs.Tasks.{RunsTask}

-- what a test of a list's elements says of the one that is read
all_read : {X : Type 0} (test : X → Bool) (xs : List X) (i : ℕ) (d : X) → list_all test xs ≡ true → i < length xs → test (get_or xs i d) ≡ true
all_read test xs i d h lt = pick (test (get_or xs i d)) refl
  where
    pick : (b : Bool) → test (get_or xs i d) ≡ b → b ≡ true
    pick true e = refl
    pick false e = let clash : true ≡ false = sym h ∙ list_all_at test xs i d lt e in absurd (cc)

-- what an image gives of the tasks of a processor: there is one at least and four at most
pub record HasTasks (image : Image) (p : ℕ) : Type 0 where
  pub some : 0 < length (tasks_of image p)
  pub few : length (tasks_of image p) ≤ 4
  pub each : (i : ℕ) → i < length (tasks_of image p) → is_task (length image.text) (get_or (tasks_of image p) i no_task) ≡ true

pub has_tasks : (image : Image) → IsImage image → (p : ℕ) → p < image.processors → HasTasks image p
has_tasks image given p lt =
    let row : List TaskSpec = tasks_of image p in
    let h = all_read (λ (ts : List TaskSpec). nat_lt 0 (length ts) && nat_le (length ts) 4 && list_all (is_task (length image.text)) ts) image.tasks p []
    given.tasks_given.1 (let n = given.tasks_given.0 in omega arith) in
    let x = and_parts (nat_lt 0 (length row) && nat_le (length row) 4) (list_all (is_task (length image.text)) row) h in
    let y = and_parts (nat_lt 0 (length row)) (nat_le (length row) 4) x.0 in record {
      some = ltb-true 0 (length row) y.0;
      few = leb-true (length row) 4 y.1;
      each = λ i l. all_read (is_task (length image.text)) row i no_task x.1 l;
    }

pub four_tasks : (image : Image) → IsImage image → (p : ℕ) → p < image.processors → length (tasks_of image p) ≤ 4
four_tasks image given p lt = (has_tasks image given p lt).few

-- no task depends on CR2, or on whether NMIs are blocked
pub with_cr2 : (mode : Mode) (image : Image) (p r : ℕ) (t : Task) (w : Processor) (a : ℕ) → RunsTask mode image p r t w
    → RunsTask mode image p r t (record w { cr2 = a })
with_cr2 mode image p r t w a h = record { is = ap (λ (y : Processor). record y { cr2 = a }) h.is; task = h.task }

pub with_cr2_open : (mode : Mode) (image : Image) (p r : ℕ) (t : Task) (w : Processor) (a : ℕ) → RunsTask mode image p r t w
    → RunsTask mode image p r t (record w { cr2 = a; nmi_blocked = false })
with_cr2_open mode image p r t w a h = record { is = ap (λ (y : Processor). record y { cr2 = a; nmi_blocked = false }) h.is; task = h.task }
