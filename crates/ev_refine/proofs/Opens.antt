-- The opening of the concrete machine stands for that of the abstract one.
use Rattle.std.proofs.Common.{◌≡◌, ◌≢◌, ◌++◌, ℕ, suc, ◌+◌, ◌-◌, ◌*◌, ◌/◌, ◌%◌, ◌^◌, ◌<◌, ◌≤◌, ◌⊎◌, inl, inr, zero, Bool, true, false, ◌&&◌, List, [], ◌∷◌, get_or, length, map, drop, refl, sym, ap, ◌∙◌, subst, arith, ⊎_elim}
use Rattle.std.specs.Prelude.{◌==◌, nat_lt, nat_le, if◌then◌else◌}
use Rattle.std.specs.List.{list_all}
use Rattle.std.proofs.lemmas.Bool.{and_parts, eqb-true, ltb-true, leb-true, eq-eqb, le-leb, lt-ltb, lt-leb, le-ltb}
use Rattle.std.proofs.lemmas.Bool.Decides.{eqb_tells}
use Rattle.std.proofs.Math.Nat.{mod-eq_of_lt}
use Rattle.std.proofs.lemmas.List.{length-append, get_or_append_left}
use Rattle.ev_isa.specs.Word.{numbers_from, is_aligned, is_canonical, members, values, bit}
use Rattle.ev_isa.specs.declared.mode.Mode.{Mode}
use Rattle.ev_isa.specs.declared.mode.Mode.TheVariants.{Idt, Fred}
use Rattle.ev_body.specs.declared.image.Image.{Image}
use Rattle.ev_body.specs.declared.image.TaskSpec.{TaskSpec}
use Rattle.ev_body.specs.WellFormed.{IsImage, is_task, is_text_place, is_word}
use Rattle.ev_state.specs.Processor.{selector}
use Rattle.ev_mem.specs.Memory.{page_map}
use Rattle.ev_listing.specs.AddressMap.{pcpu, slot_offset, record_address, user_table, kernel_table, idt_base, cells_base, task_words, stack_top, fred_page}
use Rattle.ev_abstract.specs.Machine.{opening, processor, no_task, task_at_start}
use Rattle.ev_concrete.specs.ConcreteRun.{opening_system}
use Rattle.ev_concrete.specs.Opening.{Placed, opening_word, word_there, pcpu_word, stack_word, below_top, saved_words, within, tasks_of, opening_cpu}
use Rattle.ev_user.specs.Tasks.{IsTask, level_zero}
use Rattle.ev_relation.specs.Tasks.{order, IsSaved, TssIs, CurrentIs}
use Rattle.ev_relation.specs.Nmi.{Held, Plain}
use Rattle.ev_user.specs.Sees.{IsUserWord}
use Rattle.ev_user.specs.Words.{AreWords, HoldsWords}
use Rattle.ev_user.proofs.Opened.{opening_sees}
use Rattle.ev_symbolic.proofs.Values.{and_left, and_right}
use Rattle.ev_relation.specs.Domain.{IsInDomain}
use Rattle.ev_call_law.proofs.Runs.{opening_keeps_calls}
use Rattle.ev_relation.specs.Relation.{Shares, Stands, StandsOn, first_word}
use Rattle.ev_law.proofs.Runs.{opening_is_legal}
use Rattle.ev_law.proofs.Bases.{opening_has_bases}
use Rattle.ev_user.proofs.KeepsNumbers.{opening_holds_numbers}
use Rattle.ev_relation.proofs.Areas.{opening_area, words_map}
use Rattle.ev_relation.proofs.NoVectors.{zero_words, no_vector, none_served}
use Rattle.ev_relation.proofs.Domains.{HasTasks, has_tasks}
use Rattle.ev_user.proofs.Follows.{low_canonical}

-- ---- words of stacks, d bytes below the top

-- the word d bytes below the top of the stack of a task that waits is one of its saved words
saved_word : (es : Placed) (mode : Mode) (image : Image) (p n d : ℕ) → image.processors ≤ 8 → p < image.processors → 0 < n
    → n < length (tasks_of image p) → n < 4 → 0 < d → d ≤ 0x2000 → d % 8 ≡ 0
    → opening_word es mode image (stack_top p n - d) ≡ below_top (saved_words mode (get_or (tasks_of image p) n no_task)) d
unfolding opening_word word_there
saved_word es mode image p n d few hp waits there small some most al =
    let a : ℕ = stack_top p n - d in
    let aligned : is_aligned a ≡ true = eq-eqb (a % 8) 0 (omega arith) in
    let upper : nat_lt a (2 ^ 63) ≡ false = le-ltb a (2 ^ 63) (omega arith) in
    let code : nat_le fred_page a ≡ false = lt-leb fred_page a (omega arith) in
    let from : nat_le (stack_top 0 0 - 0x4000) a ≡ true = le-leb (stack_top 0 0 - 0x4000) a (omega arith) in
    let to : nat_lt a (stack_top 0 0 - 0x4000 + 0x100000 * image.processors) ≡ true
    = lt-ltb a (stack_top 0 0 - 0x4000 + 0x100000 * image.processors) (omega arith) in
    let number : (a - (stack_top 0 0 - 0x4000)) / 0x100000 ≡ p = omega arith in
    let stack : (a - (stack_top 0 0 - 0x4000)) % 0x100000 / 0x4000 ≡ n = omega arith in
    let below : 0x4000 - a % 0x4000 ≡ d = omega arith in
    let one : nat_lt 0 n ≡ true = lt-ltb 0 n waits in
    let is : nat_lt n (length (tasks_of image p)) ≡ true = lt-ltb n (length (tasks_of image p)) there in
    rw (aligned, upper, code, from, to) (λ i. stack_word mode image (number i) (stack i) (below i))
    ∙ ap (λ b. if b && nat_lt n (length (tasks_of image p)) then below_top (saved_words mode (get_or (tasks_of image p) n no_task)) d else 0) one
    ∙ ap (λ b. if b then below_top (saved_words mode (get_or (tasks_of image p) n no_task)) d else 0) is

-- ---- words of user code, pages and cells

user_word : (es : Placed) (mode : Mode) (image : Image) (a : ℕ) → IsUserWord a → opening_word es mode image a ≡ (opening image).words a
unfolding opening_word word_there opening
user_word es mode image a h =
    let low : a < 2 ^ 63 = ⊎_elim (λ t. let k = t.1 in omega arith) (λ t. let k = t.1 in omega arith) h.1 in
    let lower : nat_lt a (2 ^ 63) ≡ true = lt-ltb a (2 ^ 63) low in
    rw (h.0, lower) refl

-- an address between the IDT and the words of tasks, from 20000H of the tables on: of the page map and of the cells
in_maps : (es : Placed) (mode : Mode) (image : Image) (a : ℕ) → image.processors ≤ 8 → 0xffff888000820000 ≤ a → a < 0xffff888000840000 → a % 8 ≡ 0
    → opening_word es mode image a ≡ (if within page_map (8 * 256) a then (if members image.pages ((a - page_map) / 8) then 1 else 0)
    else (if within cells_base (8 * 256) a then values image.cells ((a - cells_base) / 8) else 0))
unfolding opening_word word_there
in_maps es mode image a one from to al =
    let aligned : is_aligned a ≡ true = eq-eqb (a % 8) 0 al in
    let upper : nat_lt a (2 ^ 63) ≡ false = le-ltb a (2 ^ 63) (omega arith) in
    let code : nat_le fred_page a ≡ false = lt-leb fred_page a (omega arith) in
    let stacks : nat_le (stack_top 0 0 - 0x4000) a ≡ false = lt-leb (stack_top 0 0 - 0x4000) a (omega arith) in
    let areas : within (pcpu 0) (0x10000 * image.processors) a ≡ false = behind (pcpu 0) (0x10000 * image.processors) a (omega arith) in
    let tasks : nat_le (task_words 0 0) a ≡ false = lt-leb (task_words 0 0) a (omega arith) in
    let users : within user_table (8 * 257) a ≡ false = behind user_table (8 * 257) a (omega arith) in
    let kernels : within kernel_table (8 * 257) a ≡ false = behind kernel_table (8 * 257) a (omega arith) in
    let idt : within idt_base (16 * 256) a ≡ false = behind idt_base (16 * 256) a (omega arith) in
    rw (aligned, upper, code, stacks, areas, tasks, users, kernels, idt) refl
  where
    neither : (x y : Bool) → y ≡ false → (x && y) ≡ false
    neither true y h = h
    neither false y h = refl

    behind : (base bytes a : ℕ) → base + bytes ≤ a → within base bytes a ≡ false
    behind base bytes a h = neither (nat_le base a) (nat_lt a (base + bytes)) (le-ltb a (base + bytes) h)

page_word : (es : Placed) (mode : Mode) (image : Image) (i : ℕ) → image.processors ≤ 8 → i < 256
    → opening_word es mode image (page_map + 8 * i) ≡ (if members image.pages i then 1 else 0)
page_word es mode image i one lt =
    let a : ℕ = page_map + 8 * i in
    let from : nat_le page_map a ≡ true = le-leb page_map a (omega arith) in
    let to : nat_lt a (page_map + 8 * 256) ≡ true = lt-ltb a (page_map + 8 * 256) (omega arith) in
    let n : (a - page_map) / 8 ≡ i = omega arith in
    in_maps es mode image a one (omega arith) (omega arith) (omega arith)
    ∙ ap (λ b. if b && nat_lt a (page_map + 8 * 256) then (if members image.pages ((a - page_map) / 8) then 1 else 0)
    else (if within cells_base (8 * 256) a then values image.cells ((a - cells_base) / 8) else 0)) from
    ∙ ap (λ b. if b then (if members image.pages ((a - page_map) / 8) then 1 else 0)
    else (if within cells_base (8 * 256) a then values image.cells ((a - cells_base) / 8) else 0)) to
    ∙ ap (λ k. if members image.pages k then 1 else 0) n

cell_word : (es : Placed) (mode : Mode) (image : Image) (k : ℕ) → image.processors ≤ 8 → k < 256
    → opening_word es mode image (cells_base + 8 * k) ≡ values image.cells k
cell_word es mode image k one lt =
    let a : ℕ = cells_base + 8 * k in
    let past : nat_lt a (page_map + 8 * 256) ≡ false = le-ltb a (page_map + 8 * 256) (omega arith) in
    let from : nat_le cells_base a ≡ true = le-leb cells_base a (omega arith) in
    let to : nat_lt a (cells_base + 8 * 256) ≡ true = lt-ltb a (cells_base + 8 * 256) (omega arith) in
    let n : (a - cells_base) / 8 ≡ k = omega arith in
    in_maps es mode image a one (omega arith) (omega arith) (omega arith)
    ∙ ap (λ b. if nat_le page_map a && b then (if members image.pages ((a - page_map) / 8) then 1 else 0)
    else (if within cells_base (8 * 256) a then values image.cells ((a - cells_base) / 8) else 0)) past
    ∙ neither (nat_le page_map a) (if members image.pages ((a - page_map) / 8) then 1 else 0)
    (if within cells_base (8 * 256) a then values image.cells ((a - cells_base) / 8) else 0)
    ∙ ap (λ b. if b && nat_lt a (cells_base + 8 * 256) then values image.cells ((a - cells_base) / 8) else 0) from
    ∙ ap (λ b. if b then values image.cells ((a - cells_base) / 8) else 0) to
    ∙ ap (values image.cells) n
  where
    neither : (b : Bool) (x y : ℕ) → (if b && false then x else y) ≡ y
    neither true x y = refl
    neither false x y = refl

-- ---- what an area holds

differs : (o k : ℕ) → (k < o) ⊎ (o < k) → (o == k) ≡ false
differs o k h = ⊎_elim (λ e. absurd (clash e.1 h)) (λ e. e.0) (eqb_tells o k)
  where
    clash : o ≡ k → (k < o) ⊎ (o < k) → ⊥
    clash e (inl l) = omega arith
    clash e (inr l) = omega arith

-- the mark, the head of the queue, and the slots
pcpu_zero : (p o : ℕ) → (o ≡ 0x20) ⊎ ((o ≡ 0x30) ⊎ ((0x200 ≤ o) × (o < 0x400))) → pcpu_word p o ≡ 0
unfolding pcpu_word
pcpu_zero p o (inl h) = subst (λ k. pcpu_word p k ≡ 0) (sym h) refl
pcpu_zero p o (inr (inl h)) = subst (λ k. pcpu_word p k ≡ 0) (sym h) refl
pcpu_zero p o (inr (inr h)) =
    let a : 0x200 ≤ o = h.0 in
    let b : o < 0x400 = h.1 in
    rw (
      differs o 0 (inl (omega arith)),
      differs o 0x10 (inl (omega arith)),
      differs o 0x18 (inl (omega arith)),
      differs o 0x38 (inl (omega arith)),
      differs o 0x408 (inr (omega arith)),
      differs o 0x428 (inr (omega arith)),
      differs o 0x430 (inr (omega arith)),
      differs o 0x468 (inr (omega arith)),
      lt-leb 0x800 o (omega arith),
    ) refl

-- A call record is free and has the number 0, and says whose it is and of which site.
abbrev first_of_record : (p k r : ℕ) → ℕ
first_of_record p k r = if r == 0x20 then p else (if r == 0x30 then k else 0)

record_first : (p k r : ℕ) → k < 8 → r < 0x40 → pcpu_word p (0x800 + 0x40 * k + r) ≡ first_of_record p k r
unfolding pcpu_word
record_first p k r hk small =
    let o : ℕ = 0x800 + 0x40 * k + r in
    let part : o % 0x40 ≡ r = omega arith in
    rw (
      differs o 0 (inl (omega arith)),
      differs o 0x10 (inl (omega arith)),
      differs o 0x18 (inl (omega arith)),
      differs o 0x38 (inl (omega arith)),
      differs o 0x408 (inl (omega arith)),
      differs o 0x428 (inl (omega arith)),
      differs o 0x430 (inl (omega arith)),
      differs o 0x468 (inl (omega arith)),
      le-leb 0x800 o (omega arith),
      lt-ltb o 0xa00 (omega arith),
      part,
    ) (ap (λ j. first_of_record p j r) place_at)
  where
    place_at : (0x800 + 0x40 * k + r - 0x800) / 0x40 ≡ k
    place_at = omega arith

-- ---- the first task

are_words : (xs : List ℕ) → list_all is_word xs ≡ true → AreWords xs
are_words [] h r = omega arith
are_words (x ∷ xs) h zero = ltb-true x (2 ^ 64) (and_left (is_word x) (list_all is_word xs) h)
are_words (x ∷ xs) h (suc r) = are_words xs (and_right (is_word x) (list_all is_word xs) h) r

-- what a task of the image is given
record IsGiven (bytes : ℕ) (t : TaskSpec) : Type 0 where
  place : is_text_place bytes t.start ≡ true
  long : length t.regs ≡ 16
  words : AreWords t.regs

given_by : (n : ℕ) (t : TaskSpec) → is_task n t ≡ true → IsGiven n t
given_by n t h =
    let c = and_parts (is_text_place n t.start && nat_lt t.gs (2 ^ 32) && (length t.regs == 16)) (list_all is_word t.regs) h in
    let d = and_parts (is_text_place n t.start && nat_lt t.gs (2 ^ 32)) (length t.regs == 16) c.0 in
    let e = and_parts (is_text_place n t.start) (nat_lt t.gs (2 ^ 32)) d.0 in
    record { place = e.0; long = eqb-true (length t.regs) 16 d.1; words = are_words t.regs c.1 }

-- numbers below n are what they are modulo n
numbers_below : (n i k : ℕ) → i + k ≤ n → numbers_from i k ≡ map (λ j. j % n) (numbers_from i k)
numbers_below n i zero h = refl
numbers_below n i (suc k) h = (λ j. sym (mod-eq_of_lt {n = i} {m = n} (omega arith)) j ∷ numbers_below n (suc i) k (omega arith) j)

-- ---- a task that waits

-- its saved words tell its registers, and a frame that returns to it
module _ (mode : Mode) (image : Image) (p n : ℕ) (few : image.processors ≤ 8) (hp : p < image.processors) (waits : 0 < n)
    (there : n < length (tasks_of image p)) (small : n < 4) where
  abbrev spec : TaskSpec
  spec = get_or (tasks_of image p) n no_task

  abbrev registers : List ℕ
  registers = map (λ r. get_or spec.regs r 0) order

  at : (d : ℕ) → 0 < d → d ≤ 0x2000 → d % 8 ≡ 0 → first_word mode image (stack_top p n - d) ≡ below_top (saved_words mode spec) d
  at d some most al = saved_word _ mode image p n d few hp waits there small some most al

  -- the word at an offset of the area
  offset : (area o : ℕ) → o < area → area ≤ 0x2000 → (area - o) % 8 ≡ 0
      → first_word mode image (stack_top p n - area + o) ≡ below_top (saved_words mode spec) (area - o)
  offset area o lt most al = ap (first_word mode image) (let e : stack_top p n - area + o ≡ stack_top p n - (area - o) = omega arith in e)
      ∙ at (area - o) (omega arith) (omega arith) al

  -- register k of the area
  register : (k n bytes : ℕ) (above : List ℕ) → k < 15 → 15 + length above ≡ n → bytes ≡ 8 * n
      → below_top (registers ++ above) (bytes - 8 * k) ≡ get_or registers k 0
  register k n bytes above l e h =
      let long : length (registers ++ above) ≡ n = length-append registers above ∙ e in
      let within : nat_le (bytes - 8 * k) (8 * length (registers ++ above)) ≡ true = le-leb (bytes - 8 * k) (8 * length (registers ++ above)) (omega arith) in
      let place : length (registers ++ above) - (bytes - 8 * k) / 8 ≡ k = omega arith in
      ap (λ b. if b then get_or (registers ++ above) (length (registers ++ above) - (bytes - 8 * k) / 8) 0 else 0) within
      ∙ ap (λ j. get_or (registers ++ above) j 0) place ∙ get_or_append_left registers above 0 k l

-- the words behind the registers
abbrev frame_of : Mode → TaskSpec → List ℕ
frame_of mode t = drop 15 (saved_words mode t)

task_saved : (mode : Mode) (image : Image) (p n : ℕ) → image.processors ≤ 8 → p < image.processors → 0 < n → n < length (tasks_of image p) → n < 4
    → IsSaved mode p n (task_at_start (get_or (tasks_of image p) n no_task)) (first_word mode image)
task_saved Idt image p n few hp waits there small = record {
  regs = words_map (first_word Idt image) (registers Idt image p n few hp waits there small) (stack_top p n - 0xb0) (omega arith)
      (λ k l. offset Idt image p n few hp waits there small 0xb0 (8 * k) (omega arith) (omega arith) (omega arith)
      ∙ register Idt image p n few hp waits there small k 22 0xb0 (frame_of Idt (get_or (tasks_of image p) n no_task)) l refl refl);
  rip = offset Idt image p n few hp waits there small 0xb0 0x88 (omega arith) (omega arith) refl;
  cs = ap selector (offset Idt image p n few hp waits there small 0xb0 0x90 (omega arith) (omega arith) refl);
  flags = offset Idt image p n few hp waits there small 0xb0 0x98 (omega arith) (omega arith) refl;
  rsp = offset Idt image p n few hp waits there small 0xb0 0xa0 (omega arith) (omega arith) refl;
  ss = ap selector (offset Idt image p n few hp waits there small 0xb0 0xa8 (omega arith) (omega arith) refl);
  sti = ap (bit 16) (offset Idt image p n few hp waits there small 0xb0 0xa8 (omega arith) (omega arith) refl);
}
task_saved Fred image p n few hp waits there small = record {
  regs = words_map (first_word Fred image) (registers Fred image p n few hp waits there small) (stack_top p n - 0xc0) (omega arith)
      (λ k l. offset Fred image p n few hp waits there small 0xc0 (8 * k) (omega arith) (omega arith) (omega arith)
      ∙ register Fred image p n few hp waits there small k 24 0xc0 (frame_of Fred (get_or (tasks_of image p) n no_task)) l refl refl);
  rip = offset Fred image p n few hp waits there small 0xc0 0x88 (omega arith) (omega arith) refl;
  cs = ap selector (offset Fred image p n few hp waits there small 0xc0 0x90 (omega arith) (omega arith) refl);
  flags = offset Fred image p n few hp waits there small 0xc0 0x98 (omega arith) (omega arith) refl;
  rsp = offset Fred image p n few hp waits there small 0xc0 0xa0 (omega arith) (omega arith) refl;
  ss = ap selector (offset Fred image p n few hp waits there small 0xc0 0xa8 (omega arith) (omega arith) refl);
  sti = ap (bit 16) (offset Fred image p n few hp waits there small 0xc0 0xa8 (omega arith) (omega arith) refl);
}

level_first : (mode : Mode) (p : ℕ) → level_zero mode p 0 ≡ stack_top p 0
level_first Idt p = refl
level_first Fred p = refl

module _ (mode : Mode) (image : Image) (given : IsImage image) where
  few : image.processors ≤ 8
  few = given.count.1

  module _ (p : ℕ) (hp : p < image.processors) where
    tasks : HasTasks image p
    tasks = has_tasks image given p hp

    task_given : (i : ℕ) → i < length (tasks_of image p) → IsGiven (length image.text) (get_or (tasks_of image p) i no_task)
    task_given i l = given_by (length image.text) (get_or (tasks_of image p) i no_task) (tasks.each i l)

    -- in the text or at its end
    start_canonical : (i : ℕ) → i < length (tasks_of image p) → is_canonical (get_or (tasks_of image p) i no_task).start ≡ true
    start_canonical i l =
        let start : ℕ = (get_or (tasks_of image p) i no_task).start in
        let high = leb-true start (0x400000 + length image.text) (and_right (nat_le 0x400000 start) _ (task_given i l).place) in
        low_canonical start (omega (arith, given.text_fits))

    task_good : (i : ℕ) → i < length (tasks_of image p) → IsTask (task_at_start (get_or (tasks_of image p) i no_task))
    task_good i l = record { long = (task_given i l).long; words = (task_given i l).words; canonical = start_canonical i l; interrupts = refl }

    word : (o : ℕ) → o < 0x10000 → o % 8 ≡ 0 → first_word mode image (pcpu p + o) ≡ pcpu_word p o
    word o lt al = opening_area _ mode image p o hp few lt al

    tss_first : (mode' : Mode) → TssIs mode' p 0 (first_word mode image)
    unfolding pcpu_word
    tss_first Fred = tt
    tss_first Idt = word 0x408 (omega arith) refl

    current_first : CurrentIs mode p 0 (first_word mode image)
    unfolding pcpu_word
    current_first = record { top = word 0x10 (omega arith) refl; current = word 0x18 (omega arith) refl; tss = tss_first mode }

    record_word : (k r : ℕ) → k < 8 → r < 0x40 → r % 8 ≡ 0 → first_word mode image (record_address p k + r) ≡ first_of_record p k r
    record_word k r hk small even =
        let at : record_address p k + r ≡ pcpu p + (0x800 + 0x40 * k + r) = omega arith in
        ap (first_word mode image) at ∙ word (0x800 + 0x40 * k + r) (omega arith) (omega arith) ∙ record_first p k r hk small

    opening_processor : StandsOn mode image p 0 (opening_system mode image) (processor (opening image) p)
    unfolding opening_system opening
    opening_processor =
        let some = tasks.some in
        let four = tasks.few in
        record {
          few = omega arith;
          own = 0;
          short = omega arith;
          more = 0;
          enough = omega arith;
          running = some;
          waiting = numbers_below (length (tasks_of image p)) 1 (length (tasks_of image p) - 1) (omega arith);
          layer = Plain;
          frame = Held;
          switching = false;
          marked = λ h. absurd (cc);
          returning = 0;
          is_returning = refl;
          current = λ h. current_first;
          mark = λ h. word 0x20 (omega arith) refl ∙ pcpu_zero p 0x20 (inl refl);
          saved = λ i lt d. task_saved mode image p i few hp (above_zero i d) lt (omega arith);
          tasks = task_good;
          latch = (refl, refl);
          apic = record {
            tpr = refl;
            irr = record { four = refl; small = zero_words };
            isr = record { four = refl; small = zero_words };
            pending = λ v lt. no_vector v;
            service = λ class. none_served class (numbers_from 0 256);
            single = λ u v lu lv hu hv e. let clash : false ≡ true = sym (no_vector u) ∙ hu in absurd (cc);
          };
          slots = λ k lt. ap (first_word mode image) (let e : pcpu p + slot_offset k ≡ pcpu p + (0x200 + 8 * k) = omega arith in e)
              ∙ word (0x200 + 8 * k) (omega arith) (omega arith) ∙ pcpu_zero p (0x200 + 8 * k) (inr (inr (omega arith, omega arith)));
          fills = [];
          free = tt;
          records = λ k lt unfilled. record {
            from = record_word k 0x20 lt (omega arith) refl;
            site = record_word k 0x30 lt (omega arith) refl;
            number = record_word k 0x28 lt (omega arith) refl;
            call = ap (first_word mode image) (let e : record_address p k ≡ record_address p k + 0 = omega arith in e) ∙ record_word k 0 lt (omega arith) refl;
          };
          runs = (
            record {
              is = λ i. record (opening_cpu mode image p) {
                msrs = record ((opening_cpu mode image p).msrs) { rsp = sym (level_first mode p) i ∷ stack_top p 6 ∷ stack_top p 4 ∷ stack_top p 5 ∷ [] };
              };
              task = task_good 0 some;
            },
            refl,
            refl,
            refl,
          );
        }
      where
        above_zero : (i : ℕ) → i ≢ 0 → 0 < i
        above_zero zero d = absurd (d refl)
        above_zero (suc i) d = omega arith

  held_first : HoldsWords (opening image).words
  held_first = let sees = opening_sees mode image given in sees.held

  shares : Shares mode image (opening_system mode image) (opening image)
  unfolding opening_system opening
  shares = record {
    user = λ a u. user_word _ mode image a u;
    held = held_first;
    pages = λ i lt. page_word _ mode image i few lt;
    cells = λ k lt. cell_word _ mode image k few lt;
    mail = λ p lt. record { words = record { four = refl; small = zero_words }; vectors = λ v lv. no_vector v; nmi_is = refl };
    queues = λ p lt. word p lt 0x30 (omega arith) refl ∙ pcpu_zero p 0x30 (inr (inl refl));
  }

  domain : (p : ℕ) → IsInDomain (processor (opening image) p)
  unfolding opening
  domain p = record {
    nmi = refl;
    mail_nmi = refl;
  }

  pub opens : Stands mode image (λ p. 0) (opening_system mode image) (opening image)
  unfolding opening_system
  opens = record {
    regions_are = refl;
    fixed = λ a f. refl;
    shares = shares;
    legal = opening_is_legal image;
    bases = opening_has_bases image;
    numbers = opening_holds_numbers image given;
    told = [];
    few = omega arith;
    calls = opening_keeps_calls image;
    domain = λ p lt. domain p;
    each = opening_processor;
  }
