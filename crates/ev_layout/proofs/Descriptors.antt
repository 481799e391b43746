-- The descriptors of tasks, one task and one processor further.
use Rattle.std.proofs.Common.{drop-cons, ◌≡◌, ℕ, zero, suc, ◌+◌, ◌^◌, ◌<◌, ◌≤◌, Bool, true, false, ◌&&◌, List, [], ◌∷◌, ◌++◌, length, get_or, drop, None, refl, sym, ap, ◌∙◌, arith, append_assoc, length-append}
use Rattle.std.specs.Prelude.{nat_lt, nat_le, ◌==◌}
use Rattle.std.specs.List.{list_all}
use Rattle.std.proofs.lemmas.Bool.{lt-ltb, ltb-true, leb-true}
use Rattle.std.proofs.lemmas.Bool.Decides.{nat_tests}
use Rattle.ev_body.specs.declared.image.TaskSpec.{TaskSpec}
use Rattle.ev_body.specs.declared.image.Image.{Image}
use Rattle.ev_body.specs.WellFormed.{IsImage, is_task, is_word, is_text_place}
use Rattle.ev_isa.specs.Word.{is_canonical}
use Rattle.ev_abstract.specs.Machine.{no_task}
use Rattle.ev_state.specs.Descriptors.{base_of}
use Rattle.ev_listing.specs.AddressMap.{task_selector}
use Rattle.ev_concrete.specs.Opening.{descriptors_of, all_descriptors, tasks_of}
use Rattle.ev_stub.proofs.Listed.{item_at}
use Rattle.ev_fetch.proofs.Regions.{and_both}
use Rattle.ev_layout.specs.Processors.{have_bases, are_below}
use Rattle.ev_layout.proofs.Among.{split}
use Rattle.ev_layout.proofs.Apart.{low_canonical}

-- a selector above all has no descriptor
pub none_below : (s : ℕ) (es : List (ℕ × ℕ)) → are_below s es ≡ true → base_of es s ≡ None
none_below s [] h = refl
none_below s (e ∷ es) h =
    let k = split (nat_lt e.0 s) (are_below s es) h in
    let lt = ltb-true e.0 s k.0 in
    let other : (e.0 == s) ≡ false = grind (arith, nat_tests) in
    rw other (none_below s es k.1)

pub below_more : (s t : ℕ) (es : List (ℕ × ℕ)) → s ≤ t → are_below s es ≡ true → are_below t es ≡ true
below_more s t [] l h = refl
below_more s t (e ∷ es) l h =
    let k = split (nat_lt e.0 s) (are_below s es) h in
    let lt = ltb-true e.0 s k.0 in
    and_both _ _ (lt-ltb e.0 t (omega arith)) (below_more s t es l k.1)

pub below_append : (s : ℕ) (es fs : List (ℕ × ℕ)) → are_below s es ≡ true → are_below s fs ≡ true → are_below s (es ++ fs) ≡ true
below_append s [] fs h k = k
below_append s (e ∷ es) fs h k = let t = split (nat_lt e.0 s) (are_below s es) h in and_both _ _ t.0 (below_append s es fs t.1 k)

-- one descriptor more
pub below_push : (p i s base : ℕ) (es new : List (ℕ × ℕ)) → are_below (task_selector p i) es ≡ true → s ≡ task_selector p i → new ≡ es ++ (s, base) ∷ []
    → are_below (task_selector p (i + 1)) new ≡ true
below_push p i s base es new h q e =
    ap (are_below (task_selector p (i + 1))) e
    ∙ below_append (task_selector p (i + 1)) es ((s, base) ∷ []) (below_more (task_selector p i) (task_selector p (i + 1)) es (omega arith) h)
    (and_both _ _ (lt-ltb s (task_selector p (i + 1)) (omega arith)) refl)

pub longer : (s base : ℕ) (es new : List (ℕ × ℕ)) → new ≡ es ++ (s, base) ∷ [] → length new ≡ suc (length es)
longer s base es new e = ap length e ∙ (let k = length-append es ((s, base) ∷ []) in omega (arith, k))

pub base_at : (ts : List TaskSpec) (i : ℕ) (t : TaskSpec) → have_bases ts ≡ true → i < length ts → t ≡ get_or ts i t → t.gs < 2 ^ 32
base_at [] i t h lt e = absurd (omega arith)
base_at (x ∷ xs) zero t h lt e = ltb-true t.gs (2 ^ 32) (ap (λ (y : TaskSpec). nat_lt y.gs (2 ^ 32)) e ∙ (split (nat_lt x.gs (2 ^ 32)) (have_bases xs) h).0)
base_at (x ∷ xs) (suc i) t h lt e = base_at xs i t ((split (nat_lt x.gs (2 ^ 32)) (have_bases xs) h).1) (omega arith) e

pub tasks_step : (p : ℕ) (ts : List TaskSpec) (n m s : ℕ) (d : TaskSpec) (done more W : List (ℕ × ℕ)) → n < length ts → m ≡ suc n → s ≡ task_selector p n
    → more ≡ done ++ (s, (get_or ts n d).gs) ∷ [] → done ++ descriptors_of p n (drop n ts) ≡ W → more ++ descriptors_of p m (drop m ts) ≡ W
tasks_step p ts n m s d done more W lt k q g w =
    let rest : List (ℕ × ℕ) = descriptors_of p (suc n) (drop (suc n) ts) in
    ap (λ (x : ℕ). more ++ descriptors_of p x (drop x ts)) k ∙ ap (λ (x : List (ℕ × ℕ)). x ++ rest) g
    ∙ append_assoc done ((s, (get_or ts n d).gs) ∷ []) rest
    ∙ ap (λ (x : ℕ). done ++ (x, (get_or ts n d).gs) ∷ rest) q
    ∙ ap (λ (x : List TaskSpec). done ++ descriptors_of p n x) (sym (drop-cons ts n d lt)) ∙ w

pub processors_step : (tss : List (List TaskSpec)) (n m : ℕ) (ts : List TaskSpec) (done more W : List (ℕ × ℕ)) → n < length tss → m ≡ suc n
    → ts ≡ get_or tss n ts → more ≡ done ++ descriptors_of n 0 ts → done ++ all_descriptors n (drop n tss) ≡ W
    → more ++ all_descriptors m (drop m tss) ≡ W
processors_step tss n m ts done more W lt k e g w =
    rw (k, g) (append_assoc done (descriptors_of n 0 ts) (all_descriptors (suc n) (drop (suc n) tss))
    ∙ ap (λ (x : List (List TaskSpec)). done ++ all_descriptors n x) (sym (item_at tss n ts lt e)) ∙ w)

-- ---- the tasks of an image

abbrev pub are_tasks : ℕ → List TaskSpec → Bool
are_tasks bytes ts = nat_lt 0 (length ts) && nat_le (length ts) 4 && list_all (is_task bytes) ts

pub tasks_at : (bytes : ℕ) (tss : List (List TaskSpec)) (n : ℕ) (ts : List TaskSpec) → list_all (are_tasks bytes) tss ≡ true → n < length tss
    → ts ≡ get_or tss n ts → are_tasks bytes ts ≡ true
tasks_at bytes [] n ts h lt e = absurd (omega arith)
tasks_at bytes (x ∷ xs) zero ts h lt e = ap (are_tasks bytes) e ∙ (split (are_tasks bytes x) (list_all (are_tasks bytes) xs) h).0
tasks_at bytes (x ∷ xs) (suc n) ts h lt e = tasks_at bytes xs n ts ((split (are_tasks bytes x) (list_all (are_tasks bytes) xs) h).1) (omega arith) e

pub bases_by : (bytes : ℕ) (ts : List TaskSpec) → list_all (is_task bytes) ts ≡ true → have_bases ts ≡ true
bases_by bytes [] h = refl
bases_by bytes (t ∷ ts) h =
    let s = split (is_task bytes t) (list_all (is_task bytes) ts) h in
    let a = (split _ (list_all _ t.regs) s.0).0 in
    let b = (split _ (length t.regs == 16) a).0 in
    let c = (split _ (nat_lt t.gs (2 ^ 32)) b).1 in
    and_both _ _ c (bases_by bytes ts s.1)

pub bases_of : (bytes : ℕ) (ts : List TaskSpec) → are_tasks bytes ts ≡ true → have_bases ts ≡ true
bases_of bytes ts h = bases_by bytes ts (split (nat_lt 0 (length ts) && nat_le (length ts) 4) (list_all (is_task bytes) ts) h).1

-- ---- the first tasks

abbrev IsFit : TaskSpec → Type 0
IsFit t = (is_canonical t.start ≡ true) × (is_canonical t.gs ≡ true)

task_fits : (bytes : ℕ) (t : TaskSpec) → bytes ≤ 65520 → is_task bytes t ≡ true → IsFit t
task_fits bytes t few h =
    let a = (split _ (list_all is_word t.regs) h).0 in
    let b = (split _ (length t.regs == 16) a).0 in
    let c = split (is_text_place bytes t.start) (nat_lt t.gs (2 ^ 32)) b in
    let d = split (nat_le 0x400000 t.start) (nat_le t.start (0x400000 + bytes)) c.0 in
    let e = leb-true t.start (0x400000 + bytes) d.1 in
    let g = ltb-true t.gs (2 ^ 32) c.1 in
    (low_canonical t.start (omega arith), low_canonical t.gs (omega arith))

first_of : (bytes : ℕ) (ts : List TaskSpec) → bytes ≤ 65520 → are_tasks bytes ts ≡ true → IsFit (get_or ts 0 no_task)
first_of bytes [] few h = absurd cc
first_of bytes (t ∷ ts) few h =
    let s = (split (nat_lt 0 (length (t ∷ ts)) && nat_le (length (t ∷ ts)) 4) (list_all (is_task bytes) (t ∷ ts)) h).1 in
    task_fits bytes t few (split (is_task bytes t) (list_all (is_task bytes) ts) s).0

first_in : (bytes : ℕ) (tss : List (List TaskSpec)) (p : ℕ) → bytes ≤ 65520 → list_all (are_tasks bytes) tss ≡ true → IsFit (get_or (get_or tss p []) 0 no_task)
first_in bytes [] p few h = (refl, refl)
first_in bytes (ts ∷ tss) zero few h = first_of bytes ts few (split (are_tasks bytes ts) (list_all (are_tasks bytes) tss) h).0
first_in bytes (ts ∷ tss) (suc p) few h = first_in bytes tss p few (split (are_tasks bytes ts) (list_all (are_tasks bytes) tss) h).1

pub first_fits : (image : Image) → IsImage image → (p : ℕ) → (is_canonical (get_or (tasks_of image p) 0 no_task).start ≡ true)
    × (is_canonical (get_or (tasks_of image p) 0 no_task).gs ≡ true)
first_fits image is p = first_in (length image.text) image.tasks p is.text_fits is.tasks_given.1
