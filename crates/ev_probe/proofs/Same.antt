-- What comes of a line in a bare memory is what comes of it in the whole kernel's memory.
use Rattle.std.proofs.Common.{◌≡◌, ℕ, zero, suc, drop, ◌+◌, ◌-◌, ◌*◌, ◌^◌, ◌<◌, ◌≤◌, ⊎_elim, inl, inr, Bool, true, false, List, [], ◌∷◌, length, filter, refl, sym, ap, ◌∙◌, subst, arith}
use Rattle.ev_isa.specs.Word.{wrap}
use Rattle.ev_isa.specs.declared.mode.Mode.{Mode}
use Rattle.ev_effect.specs.Frame.{addresses, placed}
use Rattle.ev_state.specs.Processor.{Processor, rsp}
use Rattle.std.specs.Prelude.{if◌then◌else◌}
use Rattle.std.specs.Int.{w64, from_le_bytes}
use Rattle.ev_isa.specs.Word.{is_aligned}
use Rattle.ev_mem.specs.Memory.{Memory}
use Rattle.ev_mem.specs.Mapped.{MappedWords, is_within, memory}
use Rattle.ev_mem.specs.declared.region.Region.{Region}
use Rattle.ev_mem.specs.declared.region.RegionKind.{RegionKind}
use Rattle.ev_mem.specs.Conditions.{first_by, first_in, first_words}
use Rattle.ev_listing.specs.AddressMap.{stack_top}
use Rattle.ev_concrete.specs.Opening.{opening_word, regions}
use Rattle.ev_probe.specs.declared.line.Op.{Op}
use Rattle.ev_probe.specs.declared.line.Values.{Values}
use Rattle.ev_probe.specs.declared.line.ProbeLine.{ProbeLine}
use Rattle.ev_probe.specs.ProbeLine.{event_of, is_allowed, is_return}
use Rattle.ev_probe.specs.Probe.{bare, is_mapped, probe_cpu, probe_memory}
use Rattle.ev_probe.specs.Answer.{probe_of, told_from, told_of, words_by}
use Rattle.ev_probe.specs.Told.{Told}
use Rattle.ev_probe.specs.BareMemory.{AreAlike, HoldsGates, HoldsStacks, IsInStacks, few_regions}
use Rattle.ev_probe.proofs.Places.{AllIn, in_addresses, placed_same}
use Rattle.ev_probe.proofs.Alike.{IsBare}
use Rattle.ev_probe.proofs.Tries.{erets_same, eretu_same, iretq_same, report_same}
use Rattle.ev_probe.proofs.Regions.{same_faults}
use Rattle.ev_probe.proofs.Lines.{AreValues, IsReturnStack, are_values, delivery_stack, return_stack}
use Rattle.ev_probe.proofs.Opened.{opened_gates, opened_stacks, opened_tss, placed_gates, placed_tss}

-- ---- the memories

-- the regions of mapped words
pub same_regions : (m : MappedWords) → (memory m).regions ≡ m.regions
unfolding memory
same_regions m = refl

-- words that were never written
no_more : (n : ℕ) → drop {A = ℕ} n [] ≡ []
no_more zero = refl
no_more (suc n) = refl

zero_by : (k : RegionKind) (n : ℕ) → first_by k [] n ≡ 0
zero_by RegionKind.Text n = ap (from_le_bytes w64) (no_more n)
zero_by (RegionKind.Page i) n = refl
zero_by RegionKind.Kernel n = refl

zero_in : (rs : List Region) (a : ℕ) → first_in rs [] a ≡ 0
zero_in [] a = refl
zero_in (r ∷ rs) a = by (is_within r a) (zero_by r.kind (a - r.base)) (zero_in rs a)
  where
    by : (t : Bool) {x y : ℕ} → x ≡ 0 → y ≡ 0 → (if t then x else y) ≡ 0
    by true p q = p
    by false p q = q

pub zero_first : (rs : List Region) (a : ℕ) → first_words rs [] a ≡ 0
unfolding first_words
zero_first rs a = by (is_aligned a) (zero_in rs a)
  where
    by : (t : Bool) {x : ℕ} → x ≡ 0 → (if t then x else 0) ≡ 0
    by true p = p
    by false p = refl

-- memory with the tables, and nothing on the stacks
pub record HoldsTables (m : Memory) (bad : ℕ) : Type 0 where
  pub regions : m.regions ≡ few_regions bad
  pub gates : HoldsGates 512 m.words
  pub stacks : HoldsStacks m.words
  pub others : (a : ℕ) → IsInStacks a → m.words a ≡ 0

-- the state with these words at RSP
abbrev whole : Mode → ℕ → ℕ → List ℕ → Memory
whole mode bad a ws = record { regions = filter (is_mapped bad) (regions bare); words = placed (opening_word [] mode bare) a ws }

alike : (mode : Mode) (m m' : Memory) (bad a : ℕ) (ws : List ℕ) → HoldsTables m bad → m' ≡ record m { words = placed m.words a ws }
    → HoldsGates 512 (placed m.words a ws) → HoldsGates 512 (placed (opening_word [] mode bare) a ws)
    → HoldsStacks (placed m.words a ws) → HoldsStacks (placed (opening_word [] mode bare) a ws) → AreAlike m' (whole mode bad a ws)
alike mode m m' bad a ws h e g g' s s' =
    let n : Memory = record m { words = placed m.words a ws } in
    subst (λ (x : Memory). AreAlike x (whole mode bad a ws)) (sym e) (record {
      faults = same_faults n (whole mode bad a ws) bad h.regions refl;
      words = placed_same m.words (opening_word [] mode bare) a ws (λ b p. h.others b p ∙ sym (opened_stacks mode b p));
      gates = g;
      same_gates = g';
      stacks = s;
      same_stacks = s';
    })

-- for a delivery
pub alike_delivery : (mode : Mode) (m : Memory) (bad a : ℕ) → HoldsTables m bad → AreAlike m (whole mode bad a [])
alike_delivery mode m bad a h = alike mode m m bad a [] h refl h.gates (opened_gates mode) h.stacks (opened_tss mode)

-- for a return
pub alike_return : (mode : Mode) (m m' : Memory) (bad a : ℕ) (ws : List ℕ) → HoldsTables m bad → m' ≡ record m { words = placed m.words a ws }
    → stack_top 0 0 - 0x4000 ≤ a → a + 8 * length ws < 2 ^ 64 → AreAlike m' (whole mode bad a ws)
alike_return mode m m' bad a ws h e lo hi =
    alike mode m m' bad a ws h e (placed_gates m.words a ws lo hi h.gates) (placed_gates (opening_word [] mode bare) a ws lo hi (opened_gates mode))
    (placed_tss m.words a ws lo hi h.stacks) (placed_tss (opening_word [] mode bare) a ws lo hi (opened_tss mode))

-- ---- what is told

pub bare_cpu : (l : ProbeLine) → AreValues l.mode Op.Deliver l.values → IsBare (probe_cpu (probe_of l))
unfolding probe_of
bare_cpu l v = record {
  idt = refl;
  tss = refl;
  rsps = refl;
  config = refl;
  level = v.level;
  stack = ⊎_elim (λ k. inl k) (λ k. let s = k.1 in let lo = s.low in let hi = s.high in let n = s.number in inr (omega arith, omega arith))
      (delivery_stack l.values v.stack);
}

rsp_is : (l : ProbeLine) → rsp (probe_cpu (probe_of l)) ≡ l.values.rsp
unfolding probe_of
rsp_is l = refl

-- words of a return that lie in a stack
in_return : (v : Values) (a k : ℕ) → IsReturnStack v → v.rsp ≤ a → a + 8 * k ≤ v.rsp + 64 → AllIn (addresses a k)
in_return v a k s lo hi =
    let o = s.on in
    let l = o.low in let h = o.high in let n = o.number in
    in_addresses k a (omega arith) (omega arith)

pub vector_small : (v : Values) → v.vector < 256 → (event_of v).vector < 256
unfolding event_of
vector_small v h = h

told_same : (op : Op) (l : ProbeLine) (m n : Memory) → AreValues l.mode op l.values → AreAlike m n
    → told_from op (probe_cpu (probe_of l)) m (event_of l.values) ≡ told_from op (probe_cpu (probe_of l)) n (event_of l.values)
unfolding told_from is_return
told_same Op.Deliver l m n v h =
    report_same 4 m n h (probe_cpu (probe_of l)) (event_of l.values) false (bare_cpu l v) (vector_small l.values v.vector)
told_same Op.Iretq l m n v h =
    let s : IsReturnStack l.values = return_stack Op.Iretq l.values refl v.stack in
    iretq_same m n h (probe_cpu (probe_of l))
    (subst (λ (a : ℕ). AllIn (addresses a 5)) (sym (rsp_is l)) (in_return l.values l.values.rsp 5 s (omega arith) (omega arith)))
told_same Op.Eretu l m n v h =
    let s : IsReturnStack l.values = return_stack Op.Eretu l.values refl v.stack in
    let o = s.on in let hi = o.high in let k = o.number in
    let e : wrap (l.values.rsp + 8) ≡ l.values.rsp + 8 = omega arith in
    eretu_same m n h (probe_cpu (probe_of l))
    (subst (λ (a : ℕ). AllIn (addresses (wrap (a + 8)) 5)) (sym (rsp_is l)) (in_return l.values (wrap (l.values.rsp + 8)) 5 s (omega arith) (omega arith)))
told_same Op.Erets l m n v h =
    let s : IsReturnStack l.values = return_stack Op.Erets l.values refl v.stack in
    let o = s.on in let hi = o.high in let k = o.number in
    let e : wrap (l.values.rsp + 8) ≡ l.values.rsp + 8 = omega arith in
    erets_same m n h (probe_cpu (probe_of l))
    (subst (λ (a : ℕ). AllIn (addresses (wrap (a + 8)) 5)) (sym (rsp_is l)) (in_return l.values (wrap (l.values.rsp + 8)) 5 s (omega arith) (omega arith)))

pub told_is : (l : ProbeLine) (m : Memory) → AreValues l.mode l.op l.values → AreAlike m (probe_memory (probe_of l))
    → told_from l.op (probe_cpu (probe_of l)) m (event_of l.values) ≡ told_of l
unfolding told_of
told_is l m v h = told_same l.op l m (probe_memory (probe_of l)) v h

-- ---- the memory of a line

pub line_delivery : (l : ProbeLine) (m : Memory) → is_return l.op ≡ false → HoldsTables m l.values.bad → AreAlike m (probe_memory (probe_of l))
unfolding probe_of
line_delivery l m h t =
    let e : words_by l.op l.values.words ≡ [] = rw h refl in
    subst (λ (ws : List ℕ). AreAlike m (whole l.mode l.values.bad l.values.rsp ws)) (sym e) (alike_delivery l.mode m l.values.bad l.values.rsp t)

pub line_return : (l : ProbeLine) (m m' : Memory) → is_return l.op ≡ true → AreValues l.mode l.op l.values → length l.values.words ≤ 8
    → HoldsTables m l.values.bad → m' ≡ record m { words = placed m.words l.values.rsp l.values.words } → AreAlike m' (probe_memory (probe_of l))
unfolding probe_of
line_return l m m' h v few t e =
    let s : IsReturnStack l.values = return_stack l.op l.values h v.stack in
    let o = s.on in let lo = o.low in let hi = o.high in let n = o.number in
    let w : words_by l.op l.values.words ≡ l.values.words = rw h refl in
    subst (λ (ws : List ℕ). AreAlike m' (whole l.mode l.values.bad l.values.rsp ws)) (sym w)
    (alike_return l.mode m m' l.values.bad l.values.rsp l.values.words t e (omega arith) (omega arith))

-- what is told by a processor and a memory of the line
pub line_told : (l : ProbeLine) (c : Processor) (m : Memory) (r : Told) → is_allowed l.mode l.op l.values ≡ true → c ≡ probe_cpu (probe_of l)
    → AreAlike m (probe_memory (probe_of l)) → r ≡ told_from l.op c m (event_of l.values) → r ≡ told_of l
line_told l c m r v e h p =
    p ∙ ap (λ (x : Processor). told_from l.op x m (event_of l.values)) e ∙ told_is l m (are_values l.mode l.op l.values v) h
