-- Lines of tasks keep what stands of them, and a processor's tasks are tasks.
use Rattle.std.proofs.Common.{◌≡◌, ℕ, zero, suc, ◌+◌, ◌^◌, ◌≤◌, ◌<◌, Bool, true, false, ◌&&◌, List, [], ◌∷◌, ◌++◌, length, filter, set, refl, ap, ◌∙◌, arith, length-append}
use Rattle.std.specs.Prelude.{◌==◌, nat_lt, nat_le, if◌then◌else◌}
use Rattle.std.specs.List.{list_all}
use Rattle.std.proofs.lemmas.List.{length-set, length-map}
use Rattle.std.proofs.lemmas.Bool.{and_parts, and_from}
use Rattle.std.proofs.lemmas.List.Folds.{list_all-map}
use Rattle.std.proofs.lemmas.List.Elements.{filter-append}
use Rattle.ev_body.specs.WellFormed.{is_text_place, is_word, is_task}
use Rattle.ev_body.specs.declared.image.TaskSpec.{TaskSpec}
use Rattle.ev_image.specs.declared.kernel.TaskLine.{TaskLine}
use Rattle.ev_image.specs.Head.{of_processor, tasks_of, tasks_by, each_has_one, new_task, with_register}
use Rattle.ev_image.proofs.Kept.{AreTasks}
use Rattle.ev_image.proofs.Lists.{less, at_most, is_same, all_more, all_parts_pass, all_chosen, all_set}

abbrev fits : ℕ → TaskLine → Bool
fits bytes t = is_task bytes t.task

abbrev is_of : ℕ → TaskLine → Bool
is_of p t = t.processor == p

-- how many tasks of a processor one task is
abbrev one_if : Bool → ℕ
one_if true = 1
one_if false = 0

one_of : (t : TaskLine) (b : Bool) → length (let ts : List TaskLine = if b then t ∷ [] else [] in ts) ≡ one_if b
one_of t true = refl
one_of t false = refl

count_more : (ts : List TaskLine) (t : TaskLine) (p : ℕ) → length (of_processor (ts ++ t ∷ []) p) ≡ length (of_processor ts p) + one_if (t.processor == p)
count_more ts t p = ap length (filter-append (is_of p) ts (t ∷ [])) ∙ length-append (of_processor ts p) (filter (is_of p) (t ∷ []))
    ∙ ap (λ (n : ℕ). length (of_processor ts p) + n) (one_of t (t.processor == p))

-- a task more
pub task_more : (bytes : ℕ) (ts : List TaskLine) (t : TaskLine) → AreTasks bytes ts → is_task bytes t.task ≡ true
    → length (of_processor ts t.processor) < 4 → AreTasks bytes (ts ++ t ∷ [])
task_more bytes ts t g h l = record {
  fit = all_more (fits bytes) ts t g.fit h;
  few = λ p. by p (t.processor == p) refl;
}
  where
    by : (p : ℕ) (b : Bool) → (t.processor == p) ≡ b → length (of_processor (ts ++ t ∷ []) p) ≤ 4
    by p true e =
        let same = is_same t.processor p e in
        let k = ap (λ (q : ℕ). length (of_processor ts q)) same in
        let one = ap one_if e in
        omega (arith, count_more ts t p, k, one, l)
    by p false e = let one = ap one_if e in omega (arith, count_more ts t p, one, g.few p)

pub new_task_fits : (bytes p start gs : ℕ) → is_text_place bytes start ≡ true → gs ≤ 0xffffffff → is_task bytes (new_task p start gs).task ≡ true
new_task_fits bytes p start gs h l = and_from _ _ (and_from _ _ (and_from _ _ h (less gs (2 ^ 32) (omega arith))) refl) refl

-- ---- a register

set_fits : (bytes : ℕ) (t : TaskSpec) (r n : ℕ) → is_task bytes t ≡ true → is_word n ≡ true → is_task bytes (record t { regs = set t.regs r n }) ≡ true
set_fits bytes t r n h k =
    let a = and_parts ((is_text_place bytes t.start && nat_lt t.gs (2 ^ 32)) && (length t.regs == 16)) (list_all is_word t.regs) h in
    let b = and_parts (is_text_place bytes t.start && nat_lt t.gs (2 ^ 32)) (length t.regs == 16) a.0 in
    and_from _ _ (and_from _ _ b.0 (ap (λ (m : ℕ). m == 16) (length-set t.regs r n) ∙ b.1)) (all_set is_word t.regs r n a.1 k)

pub register_more : (bytes : ℕ) (ts : List TaskLine) (t : TaskLine) (r n : ℕ) → AreTasks bytes (ts ++ t ∷ []) → is_word n ≡ true
    → AreTasks bytes (ts ++ with_register t r n ∷ [])
register_more bytes ts t r n g h =
    let k = all_parts_pass (fits bytes) ts t g.fit in
    record {
      fit = all_more (fits bytes) ts (with_register t r n) k.0 (set_fits bytes t.task r n k.1 h);
      few = λ p. omega (arith, count_more ts t p, count_more ts (with_register t r n) p, g.few p);
    }

-- ---- the tasks of each processor

pub rows_many : (ts : List TaskLine) (n : ℕ) → length (tasks_by ts n) ≡ n
unfolding tasks_by
rows_many ts zero = refl
rows_many ts (suc n) = let k = rows_many ts n in omega (arith, length-append (tasks_by ts n) (tasks_of ts n ∷ []), k)

abbrev pub is_row : ℕ → List TaskSpec → Bool
is_row bytes ts = nat_lt 0 (length ts) && nat_le (length ts) 4 && list_all (is_task bytes) ts

row_fits : (bytes : ℕ) (ts : List TaskLine) (p : ℕ) → AreTasks bytes ts → nat_lt 0 (length (tasks_of ts p)) ≡ true → is_row bytes (tasks_of ts p) ≡ true
row_fits bytes ts p g h =
    let long = length-map (of_processor ts p) (λ (t : TaskLine). t.task) in
    and_from _ _ (and_from _ _ h (at_most (length (tasks_of ts p)) 4 (omega (arith, long, g.few p))))
    (list_all-map (is_task bytes) (λ (t : TaskLine). t.task) (of_processor ts p) ∙ all_chosen (fits bytes) (is_of p) ts g.fit)

pub rows_fit : (bytes : ℕ) (ts : List TaskLine) (n : ℕ) → AreTasks bytes ts → each_has_one (tasks_by ts n) ≡ true
    → list_all (is_row bytes) (tasks_by ts n) ≡ true
unfolding tasks_by
rows_fit bytes ts zero g h = refl
rows_fit bytes ts (suc n) g h =
    let k = all_parts_pass (λ (row : List TaskSpec). nat_lt 0 (length row)) (tasks_by ts n) (tasks_of ts n) h in
    all_more (is_row bytes) (tasks_by ts n) (tasks_of ts n) (rows_fit bytes ts n g k.0) (row_fits bytes ts n g k.1)
