-- The lines of the end.
use Rattle.std.proofs.Common.{◌≡◌, ℕ, suc, zero, ◌-◌, ◌%◌, ◌<◌, ◌≤◌, List, [], ◌∷◌, ◌++◌, length, ap, refl, sym, ◌∙◌, arith}
use Rattle.std.proofs.lemmas.List.{length-map}
use Rattle.ev_abstract.specs.Machine.{Machine, Processor, processor}
use Rattle.ev_abstract.specs.EntryText.{Text, line_text, state_words, busy_words, task_lines, end_lines, all_end_lines}
use Rattle.ev_isa.specs.Word.{numbers_from}
use Rattle.ev_isa.specs.declared.mode.Mode.{Mode}
use Rattle.ev_body.specs.declared.image.Image.{Image}
use Rattle.ev_concrete.specs.ConcreteRun.{System}
use Rattle.ev_concrete.specs.Opening.{tasks_of}
use Rattle.ev_relation.proofs.Domains.{four_tasks}
use Rattle.ev_relation.proofs.Laws.{tells}
use Rattle.ev_core.specs.Run.{MachineView, IsStandingAs}
use Rattle.ev_core.specs.Task.{IsTaskView}
use Rattle.ev_core.specs.declared.task_view.TaskView.{TaskView}

-- the lines of processor p before those of the later ones
pub next_lines : (mode : Text) (m : Machine) (p q n : ℕ) → q ≡ suc p → p < n
    → all_end_lines mode m p (n - p) ≡ end_lines mode p (processor m p) (length (processor m p).bodies) ++ all_end_lines mode m q (n - q)
next_lines mode m p q n is lt =
    let e : n - p ≡ suc (n - suc p) = omega arith in
    ap (all_end_lines mode m p) e ∙ ap (λ k. end_lines mode p (processor m p) (length (processor m p).bodies) ++ all_end_lines mode m k (n - k)) (sym is)

pub busy_line : (mode : Text) (p depth : ℕ) (x : Processor) → 0 < depth → line_text mode (busy_words p depth) ≡ end_lines mode p x depth
busy_line mode p zero x h = absurd (omega arith)
busy_line mode p (suc depth) x h = refl

-- the lines of the tasks from number i on, of n
module _ (mode : Text) (p i j n : ℕ) (x : Processor) (next : j ≡ suc i) where
  pub next_task : i < n → (t : TaskView) → IsTaskView t (x.tasks i)
      → task_lines mode p x i (n - i) ≡ line_text mode (state_words p i t.regs t.rip t.flags t.gs) ++ task_lines mode p x j (n - j)
  next_task lt t is =
      let e : n - i ≡ suc (n - suc i) = omega arith in
      ap (task_lines mode p x i) e
      ∙ (λ k. line_text mode (state_words p i (sym is.regs k) (sym is.rip k) (sym is.flags k) (sym is.gs k)) ++ task_lines mode p x (sym next k)
      (n - sym next k))

  pub none_next : n ≤ i → task_lines mode p x i (n - i) ≡ task_lines mode p x j (n - j)
  none_next h =
      let a : n - i ≡ 0 = omega arith in
      let b : n - j ≡ 0 = omega arith in ap (task_lines mode p x i) a ∙ sym (ap (task_lines mode p x j) b)

pub no_more : (mode : Text) (p i n : ℕ) (x : Processor) → n ≤ i → task_lines mode p x i (n - i) ≡ []
no_more mode p i n x h = let a : n - i ≡ 0 = omega arith in ap (task_lines mode p x i) a

pub no_bodies : {X : Type 0} (xs : List X) → length xs ≡ 0 → xs ≡ []
no_bodies [] e = refl
no_bodies (x ∷ xs) e = absurd (omega arith)

-- where no body stands the end shows every task
module _ (mode : Mode) (image : Image) (s : System) (m : Machine) (v : MachineView) (so : IsStandingAs mode image s m v) (p : ℕ) (lt : p < image.processors)
  where
    pub task_count : length (tasks_of image p) ≤ 4
    task_count = four_tasks image so.can.image_is p lt

    pub tasks_end : (word : Text) (depth : ℕ) → depth ≡ 0
        → task_lines word p (processor m p) 0 (length (tasks_of image p)) ≡ end_lines word p (processor m p) depth
    tasks_end word depth none =
        let told = tells mode image so.can.built so.can.image_is so.left s m so.stands p lt in
        let running = told.running in
        let count : length (processor m p).waiting ≡ length (tasks_of image p) - 1
        = ap length told.waiting ∙ length-map (numbers_from (suc (processor m p).running) (length (tasks_of image p) - 1)) (λ k. k % length (tasks_of image p))
        ∙ counted (suc (processor m p).running) (length (tasks_of image p) - 1) in
        let e : length (tasks_of image p) ≡ suc (length (processor m p).waiting) = omega arith in
        ap (task_lines word p (processor m p) 0) e ∙ ap (λ d. end_lines word p (processor m p) d) (sym none)
      where
        counted : (a n : ℕ) → length (numbers_from a n) ≡ n
        counted a zero = refl
        counted a (suc n) = ap suc (counted (suc a) n)
