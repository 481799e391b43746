-- The words of the stacks of tasks that wait.
use Rattle.std.proofs.Common.{◌≡◌, ℕ, zero, suc, ◌<◌, true, List, [], ◌∷◌, length, get_or, sym, ap, ◌∙◌, subst, refl, arith, ltb-true}
use Rattle.std.specs.Prelude.{nat_lt}
use Rattle.std.proofs.lemmas.Bool.{lt-ltb}
use Rattle.ev_isa.specs.declared.mode.Mode.{Mode}
use Rattle.ev_body.specs.declared.image.Image.{Image}
use Rattle.ev_body.specs.declared.image.TaskSpec.{TaskSpec}
use Rattle.ev_abstract.specs.Machine.{no_task}
use Rattle.ev_concrete.specs.Opening.{below_top, saved_words, stack_word, tasks_of}

pub other_default : {X : Type 0} (xs : List X) (n : ℕ) (d e : X) → n < length xs → get_or xs n d ≡ get_or xs n e
other_default [] n d e h = absurd (omega arith)
other_default (x ∷ xs) zero d e h = refl
other_default (x ∷ xs) (suc n) d e h = other_default xs n d e (omega arith)

pub within_by : (n m : ℕ) → true ≡ nat_lt n m → n < m
within_by n m h = ltb-true n m (sym h)

pub stack_is : (mode : Mode) (image : Image) (p n o : ℕ) (ts : List TaskSpec) (t : TaskSpec) → (n ≡ 0 → ⊥) → ts ≡ tasks_of image p → n < length ts
    → t ≡ get_or ts n t → below_top (saved_words mode t) o ≡ stack_word mode image p n o
stack_is mode image p n o ts t some h lt e =
    let a : nat_lt 0 n ≡ true = lt-ltb 0 n (omega arith) in
    let b : nat_lt n (length (tasks_of image p)) ≡ true = lt-ltb n (length (tasks_of image p)) (subst (λ (xs : List TaskSpec). n < length xs) h lt) in
    rw (a, b)
    (ap (λ (x : TaskSpec). below_top (saved_words mode x) o)
    (e ∙ other_default ts n t no_task lt ∙ ap (λ (xs : List TaskSpec). get_or xs n no_task) h))
