-- The descriptor of a task's selector has the task's GS base, and a task that isn't there has no descriptor.
use Rattle.std.proofs.Common.{◌≡◌, ◌⊎◌, inl, inr, ⊎_elim, ℕ, zero, suc, ◌+◌, ◌<◌, ◌≤◌, Bool, true, false, List, [], ◌∷◌, ◌++◌, length, get_or, Option, Some, None, refl, sym, ap, ◌∙◌, subst, arith, ne_eqb, eq-eqb}
use Rattle.std.specs.Prelude.{nat_lt, is_some, if◌then◌else◌}
use Rattle.std.proofs.lemmas.Bool.{lt-ltb, le-ltb, ltb-true, ltb-false}
use Rattle.ev_body.specs.declared.image.TaskSpec.{TaskSpec}
use Rattle.ev_body.specs.declared.image.Image.{Image}
use Rattle.ev_body.specs.WellFormed.{IsImage}
use Rattle.ev_abstract.specs.Machine.{no_task}
use Rattle.ev_state.specs.Descriptors.{base_of}
use Rattle.ev_listing.specs.AddressMap.{task_selector}
use Rattle.ev_concrete.specs.Opening.{tasks_of, descriptors_of, all_descriptors}
use Rattle.ev_relation.proofs.Domains.{four_tasks}

-- the base of task i of these, if there is one
abbrev given_base : List TaskSpec → ℕ → Option ℕ
given_base [] i = None
given_base (t ∷ ts) zero = Some t.gs
given_base (t ∷ ts) (suc i) = given_base ts i

-- there is one where the task is
given_at : (ts : List TaskSpec) (i : ℕ) → i < length ts → given_base ts i ≡ Some (get_or ts i no_task).gs
given_at [] i l = absurd (omega arith)
given_at (t ∷ ts) zero l = refl
given_at (t ∷ ts) (suc i) l = given_at ts i (omega arith)

given_tells : (ts : List TaskSpec) (i : ℕ) → is_some (given_base ts i) ≡ nat_lt i (length ts)
given_tells [] i = sym (le-ltb i 0 (omega arith))
given_tells (t ∷ ts) zero = sym (lt-ltb 0 (suc (length ts)) (omega arith))
given_tells (t ∷ ts) (suc i) = given_tells ts i ∙ same (nat_lt i (length ts)) refl
  where
    same : (b : Bool) → nat_lt i (length ts) ≡ b → nat_lt i (length ts) ≡ nat_lt (suc i) (suc (length ts))
    same true h = let l = ltb-true i (length ts) h in h ∙ sym (lt-ltb (suc i) (suc (length ts)) (omega arith))
    same false h = let l = ltb-false i (length ts) h in h ∙ sym (le-ltb (suc i) (suc (length ts)) (omega arith))

abbrev or_base : Option ℕ → Option ℕ → Option ℕ
or_base None b = b
or_base (Some a) b = Some a

-- the tasks of the processor itself
row_found : (p i j : ℕ) (ts : List TaskSpec) (rest : List (ℕ × ℕ)) → base_of (descriptors_of p j ts ++ rest) (task_selector p (j + i))
    ≡ or_base (given_base ts i) (base_of rest (task_selector p (j + i)))
row_found p i j [] rest = refl
row_found p zero j (t ∷ ts) rest =
    ap (λ b. if b then Some t.gs else base_of (descriptors_of p (suc j) ts ++ rest) (task_selector p (j + 0)))
    (eq-eqb (task_selector p j) (task_selector p (j + 0)) (omega arith))
row_found p (suc i) j (t ∷ ts) rest =
    ap (λ b. if b then Some t.gs else base_of (descriptors_of p (suc j) ts ++ rest) (task_selector p (j + suc i)))
    (ne_eqb (task_selector p j) (task_selector p (j + suc i)) (λ e. omega arith))
    ∙ subst (λ k. base_of (descriptors_of p (suc j) ts ++ rest) (task_selector p k) ≡ or_base (given_base ts i) (base_of rest (task_selector p k)))
    (let e : suc j + i ≡ j + suc i = omega arith in e) (row_found p i (suc j) ts rest)

-- those of another one
row_passed : (q p i j : ℕ) (ts : List TaskSpec) (rest : List (ℕ × ℕ)) → i < 4 → ((q < p) × (j + length ts ≤ 4)) ⊎ (p < q)
    → base_of (descriptors_of q j ts ++ rest) (task_selector p i) ≡ base_of rest (task_selector p i)
row_passed q p i j [] rest l o = refl
row_passed q p i j (t ∷ ts) rest l o =
    ap (λ b. if b then Some t.gs else base_of (descriptors_of q (suc j) ts ++ rest) (task_selector p i))
    (ne_eqb (task_selector q j) (task_selector p i) (λ e. ⊎_elim (λ x. let a = x.0 in let b = x.1 in omega arith) (λ (x : p < q). omega arith) o))
    ∙ row_passed q p i (suc j) ts rest l (⊎_elim (λ x. let a = x.0 in let b = x.1 in inl (a, omega arith)) (λ (x : p < q). inr x) o)

-- each processor has four tasks at most
abbrev AreShort : List (List TaskSpec) → Type 0
AreShort [] = Unit {0}
AreShort (ts ∷ rest) = (length ts ≤ 4) × AreShort rest

are_short : (tss : List (List TaskSpec)) → ((q : ℕ) → q < length tss → length (get_or tss q []) ≤ 4) → AreShort tss
are_short [] h = tt
are_short (ts ∷ rest) h = (h 0 (omega arith), are_short rest (λ q l. h (suc q) (omega arith)))

later_none : (q p i : ℕ) (tss : List (List TaskSpec)) → i < 4 → p < q → base_of (all_descriptors q tss) (task_selector p i) ≡ None
later_none q p i [] l h = refl
later_none q p i (ts ∷ rest) l h = row_passed q p i 0 ts (all_descriptors (suc q) rest) l (inr h) ∙ later_none (suc q) p i rest l (omega arith)

or_none : (a : Option ℕ) → or_base a None ≡ a
or_none None = refl
or_none (Some a) = refl

-- k processors on
base_behind : (q k i : ℕ) (tss : List (List TaskSpec)) → i < 4 → AreShort tss
    → base_of (all_descriptors q tss) (task_selector (q + k) i) ≡ given_base (get_or tss k []) i
base_behind q k i [] l h = refl
base_behind q zero i (ts ∷ rest) l h =
    ap (λ p. base_of (all_descriptors q (ts ∷ rest)) (task_selector p i)) (let e : q + 0 ≡ q = omega arith in e)
    ∙ subst (λ k. base_of (all_descriptors q (ts ∷ rest)) (task_selector q k)
    ≡ or_base (given_base ts i) (base_of (all_descriptors (suc q) rest) (task_selector q k))) (let e : 0 + i ≡ i = omega arith in e)
    (row_found q i 0 ts (all_descriptors (suc q) rest))
    ∙ ap (or_base (given_base ts i)) (later_none (suc q) q i rest l (omega arith))
    ∙ or_none (given_base ts i)
base_behind q (suc k) i (ts ∷ rest) l h =
    row_passed q (q + suc k) i 0 ts (all_descriptors (suc q) rest) l (inl (omega arith, (let few = h.0 in omega arith)))
    ∙ ap (λ p. base_of (all_descriptors (suc q) rest) (task_selector p i)) (let e : q + suc k ≡ suc q + k = omega arith in e)
    ∙ base_behind (suc q) k i rest l h.1

module _ (image : Image) (given : IsImage image) (p i : ℕ) (small : i < 4) where
  found : base_of (all_descriptors 0 image.tasks) (task_selector p i) ≡ given_base (tasks_of image p) i
  found = ap (λ q. base_of (all_descriptors 0 image.tasks) (task_selector q i)) (let e : p ≡ 0 + p = omega arith in e)
      ∙ base_behind 0 p i image.tasks small (are_short image.tasks (λ q l. four_tasks image given q (let n = given.tasks_given.0 in omega arith)))

  -- the descriptor tells whether there is a task, and its base
  pub descriptor_tells : is_some (base_of (all_descriptors 0 image.tasks) (task_selector p i)) ≡ nat_lt i (length (tasks_of image p))
  descriptor_tells = ap is_some found ∙ given_tells (tasks_of image p) i

  pub descriptor_has : i < length (tasks_of image p)
      → base_of (all_descriptors 0 image.tasks) (task_selector p i) ≡ Some (get_or (tasks_of image p) i no_task).gs
  descriptor_has l = found ∙ given_at (tasks_of image p) i l
