-- The delivery of any event through the IDT.
use Rattle.std.proofs.Common.{◌≡◌, ◌≢◌, ℕ, ◌+◌, ◌-◌, ◌*◌, ◌%◌, ◌<◌, Bool, true, false, ◌&&◌, List, [], ◌∷◌, ◌++◌, get_or, set, drop, map, length, reverse, None, refl, sym, ap, ◌∙◌, arith}
use Rattle.std.specs.Prelude.{◌==◌, nat_lt, if◌then◌else◌}
use Rattle.std.proofs.lemmas.Bool.{eqb-true}
use Rattle.std.proofs.lemmas.List.{length-set}
use Rattle.ev_isa.specs.Flags.{flags_word}
use Rattle.ev_event.specs.declared.event.Event.{Event}
use Rattle.ev_event.specs.declared.event.EventType.{EventType}
use Rattle.ev_event.specs.Event.{gp, has_error_code, is_hardware, nmi_event}
use Rattle.ev_effect.specs.Frame.{addresses, first_event}
use Rattle.ev_gate.specs.declared.gate.Gate.{Gate}
use Rattle.ev_listing.specs.AddressMap.{vector_stub, nmi_entry}
use Rattle.ev_concrete.specs.Opening.{gate}
use Rattle.ev_state.specs.Outcome.{Outcome, Went, Met, with_cr2, below, frame_written}
use Rattle.ev_state.specs.Processor.{Processor, is_user, rsp}
use Rattle.ev_mem.specs.Memory.{Memory, view}
use Rattle.ev_idt.specs.IdtDelivery.{idt_delivery, in_handler, through_gate, is_gated, new_rsp, syscall_idt}
use Rattle.ev_symbolic.specs.Value.{M}
use Rattle.ev_symbolic.specs.State.{Win, top_tag}
use Rattle.ev_symbolic.specs.Agrees.{Env, eval, eval_flags, untracked, IsTold, Known, Open, Code, Agrees, Fits, with_words}
use Rattle.ev_symbolic.specs.Openings.{gs_tag}
use Rattle.ev_symbolic.specs.Names.{stub_tag}
use Rattle.ev_symbolic.specs.Placed.{all_in}
use Rattle.ev_symbolic.proofs.Blocks.{begins, levels_split}
use Rattle.ev_symbolic.proofs.Placed.{listed_known, places_open, no_event, five_open, six_open}
use Rattle.ev_blocks.specs.Shapes.{Origin, UserCode, KernelCode, from_top, interrupted}
use Rattle.ev_blocks.specs.Idt.{Stub, Sys, pushed, pushed_bytes, told_cr2, idt_block}
use Rattle.ev_blocks.specs.Nmi.{Choice, FirstFromTask, FirstLow, FirstHigh, InnerLow, InnerHigh, InnerAtLast, InnerInRepeat, GsBase, TaskGs, KernelGs, Choosing, nmi_block, reads_running, running_if}
use Rattle.ev_deliver.specs.FredDelivers.{other_base, cr2_after, faulted}
use Rattle.ev_deliver.specs.IdtDelivers.{origin_by, stub_of, frame_at, idt_handler, idt_words, IdtSite, StubSite, IdtDelivers, IdtRefuses, running_at, NmiSite, NmiDelivers, CallDelivers}
use Rattle.ev_deliver.proofs.FredDelivers.{listed_is, tabled, with_cr2_is}

-- ---- the delivery through a gate

module _ (c : Processor) (m : Memory) (e : Event) (env : Env) (site : IdtSite c m e env) where
  abbrev has : Bool
  has = has_error_code e.vector

  below_is : (b : Bool) → below (env.base top_tag) (length (pushed b)) ≡ frame_at env b
  below_is true = ap (λ z. z % M) (let q : env.base top_tag + M - 48 ≡ env.base top_tag + (M - 48) = omega arith in q)
  below_is false = ap (λ z. z % M) (let q : env.base top_tag + M - 40 ≡ env.base top_tag + (M - 40) = omega arith in q)

  frame_open : (b : Bool) (K : List Win) → Open env K m.regions → all_in K (M - pushed_bytes b) (length (pushed b)) ≡ true
      → first_event (view m false) true (reverse (addresses (frame_at env b) (length (pushed b)))) ≡ None
  frame_open true K o i = no_event m true (reverse (addresses (frame_at env true) 6))
      (six_open m.regions _ _ _ _ _ _ (places_open env K m.regions o 6 (M - 48) i))
  frame_open false K o i = no_event m true (reverse (addresses (frame_at env false) 5))
      (five_open m.regions _ _ _ _ _ (places_open env K m.regions o 5 (M - 40) i))

  -- what the processor writes, by whether it has an error code
  abbrev written : Processor → Bool → List ℕ
  written d b = (if b then e.error ∷ [] else []) ++ d.rip ∷ d.cs ∷ d.flags ∷ rsp d ∷ d.ss ∷ []

  went : (frame : (b : Bool) → b ≡ has → written (faulted c e) b ≡ map (eval env) (pushed b)) (K : List Win) → Open env K m.regions
      → all_in K (M - pushed_bytes has) (length (pushed has)) ≡ true
      → idt_delivery c m e ≡ Went (idt_handler c e (frame_at env has)) (idt_words env has m.words) (frame_at env has)
  unfolding idt_delivery
  went frame K o i =
      ap (λ (g : Gate). if is_gated e.kind && is_user c && nat_lt g.dpl 3 then met else through_gate (with_cr2 c e) m e g) site.gate_is
      ∙ ap (λ (b : Bool). if b then met else through_gate (with_cr2 c e) m e (gate e.vector)) site.passes
      ∙ ap (λ (d : Processor). through_gate d m e (gate e.vector)) (with_cr2_is c e)
      ∙ ap (λ (b : Bool). by_frame (written (faulted c e) b) (new_rsp c m.words (gate e.vector))) site.error
      ∙ ap (λ f. by_frame f (new_rsp c m.words (gate e.vector))) (frame has refl)
      ∙ ap (by_frame (map (eval env) (pushed has))) site.top
      ∙ ap (λ n. by_place (map (eval env) (pushed has)) (below (env.base top_tag) n) n) (same_length has)
      ∙ ap (λ a. by_place (map (eval env) (pushed has)) a (length (pushed has))) (below_is has)
      ∙ ap (frame_written (faulted c e) (idt_handler c e (frame_at env has)) m.words (frame_at env has) (map (eval env) (pushed has))) (frame_open has K o i)
    where
      met : Outcome
      met = Met c (gp (8 * e.vector + 2))

      by_place : List ℕ → ℕ → ℕ → Outcome
      by_place f a n =
          frame_written (faulted c e) (in_handler (faulted c e) (gate e.vector) e.kind a) m.words a f
          (first_event (view m false) true (reverse (addresses a n)))

      by_frame : List ℕ → ℕ → Outcome
      by_frame f t = by_place f (below t (length f)) (length f)

      same_length : (b : Bool) → length (map (eval env) (pushed b)) ≡ length (pushed b)
      same_length true = refl
      same_length false = refl

  levels_are : (n : ℕ) → n ≡ get_or c.msrs.rsp 0 0 → (r : Processor) → r.msrs.rsp ≡ drop 1 c.msrs.rsp → c.msrs.rsp ≡ n ∷ r.msrs.rsp
  levels_are n h r k = levels_split c.msrs.rsp site.levels ∙ ap (λ x. x ∷ drop 1 c.msrs.rsp) (sym h) ∙ ap (λ xs. n ∷ xs) (sym k)

low_area : (e : Env) (n : ℕ) → e.base gs_tag < M → n ≡ e.base gs_tag → n ≡ (e.base gs_tag + 0) % M
low_area e n small h = h ∙ (let q : e.base gs_tag ≡ (e.base gs_tag + 0) % M = omega arith in q)

nothing : (e : Env) (m : Memory) → Open e [] m.regions
nothing e m l h = let clash : false ≡ true = h in absurd (cc)

-- ---- through the entry of a vector

module _ (code : Code) (c : Processor) (m : Memory) (e : Event) (env : Env) (s : StubSite c m e env) where
  open s use {site}

  frame_is : (b : Bool) → b ≡ has_error_code e.vector → written c m e env site (faulted c e) b ≡ map (eval env) (pushed b)
  unfolding eval
  frame_is true q =
      let error : (if is_hardware e.kind && has_error_code e.vector then e.error else 0) ≡ e.error =
      ap (λ t. if t then e.error else 0) (site.error ∙ sym q) in
      ap (λ x. x ∷ c.rip ∷ c.cs ∷ c.flags ∷ rsp c ∷ c.ss ∷ []) (sym error)
      ∙ ap (λ (f : ℕ → ℕ). f 16 ∷ f 17 ∷ f 18 ∷ f 19 ∷ f 20 ∷ f 21 ∷ []) (sym s.var)
  frame_is false q = ap (λ (f : ℕ → ℕ). f 17 ∷ f 18 ∷ f 19 ∷ f 20 ∷ f 21 ∷ []) (sym s.var)

  offset_is : (gate e.vector).offset ≡ (env.base stub_tag + 0) % M
  offset_is = pick (e.vector == 2) refl
    where
      pick : (b : Bool) → (e.vector == 2) ≡ b → (if b then nmi_entry else vector_stub e.vector) ≡ (env.base stub_tag + 0) % M
      pick true q = absurd (s.other (eqb-true e.vector 2 q))
      pick false q =
          let small : e.vector < 256 = site.small in
          (let z : vector_stub e.vector ≡ (vector_stub e.vector + 0) % M = omega arith in z) ∙ ap (λ x. (x + 0) % M) (sym s.stub)

  known_by : (o : Origin) (b : Bool) → Fits code env (idt_block (Stub o b e.vector))
      → Known env (idt_block (Stub o b e.vector)).ground.known (idt_words env b m.words) (from_top (pushed_bytes b) (pushed b))
  known_by o true fit = listed_known env (idt_block (Stub o true e.vector)).ground.known (idt_block (Stub o true e.vector)).ground.own fit.ground.sep
      (pushed true) (M - 48) m.words [] (from_top 0x30 (pushed true)) refl refl tt refl
  known_by o false fit = listed_known env (idt_block (Stub o false e.vector)).ground.known (idt_block (Stub o false e.vector)).ground.own fit.ground.sep
      (pushed false) (M - 40) m.words [] (from_top 0x28 (pushed false)) refl refl tt refl

  -- a page fault's entry finds its address in CR2
  cr2_is : (h : Bool) → IsTold env (told_cr2 (e.vector == 14)) (idt_handler c e (frame_at env h)).cr2
  unfolding eval
  cr2_is h = pick (e.vector == 14)
    where
      pick : (b : Bool) → IsTold env (told_cr2 b) (cr2_after e c.cr2)
      pick true = ap (λ f. f 62) (sym s.var)
      pick false = tt

  agrees : (b : Bool) → is_user c ≡ b → (h : Bool) → env.rest ≡ untracked (idt_handler c e (frame_at env h))
      → (idt_handler c e (frame_at env h)).flags ≡ flags_word env.flags → Fits code env (idt_block (Stub (origin_by b) h e.vector))
      → Open env (idt_block (Stub (origin_by b) h e.vector)).ground.known m.regions
      → Agrees env (idt_block (Stub (origin_by b) h e.vector)).ground (idt_block (Stub (origin_by b) h e.vector)).opening
      (idt_handler c e (frame_at env h)) (with_words m (idt_words env h m.words))
  unfolding eval eval_flags
  agrees true q h rest flags fit o = record {
    regs = ap (λ xs. set xs 4 (frame_at env h)) (listed_is c.regs site.long) ∙ ap (λ f. tabled f (frame_at env h)) (sym s.var);
    rip = offset_is;
    flags = flags;
    gs = sym (ap (λ b. other_base b c) q) ∙ ap (λ f. f 60) (sym s.var);
    kernel_gs = low_area env c.msrs.kernel_gs_base s.area_small
        (sym (ap (λ b. if b then c.msrs.kernel_gs_base else c.msrs.gs_base) q) ∙ s.area);
    selector = ap (λ f. f 61) (sym s.var);
    cr2 = cr2_is h;
    levels = levels_are c m e env site (env.var 63) (ap (λ f. f 63) s.var) env.rest (ap (λ (r : Processor). r.msrs.rsp) rest);
    blocked = refl;
    rest = sym rest;
    words = known_by UserCode h fit;
    known_open = o;
    shared_open = nothing env m;
  }
  agrees false q h rest flags fit o = record {
    regs = ap (λ xs. set xs 4 (frame_at env h)) (listed_is c.regs site.long) ∙ ap (λ f. tabled f (frame_at env h)) (sym s.var);
    rip = offset_is;
    flags = flags;
    gs = low_area env c.msrs.gs_base s.area_small (sym (ap (λ b. if b then c.msrs.kernel_gs_base else c.msrs.gs_base) q) ∙ s.area);
    kernel_gs = sym (ap (λ b. other_base b c) q) ∙ ap (λ f. f 60) (sym s.var);
    selector = ap (λ f. f 61) (sym s.var);
    cr2 = cr2_is h;
    levels = levels_are c m e env site (env.var 63) (ap (λ f. f 63) s.var) env.rest (ap (λ (r : Processor). r.msrs.rsp) rest);
    blocked = refl;
    rest = sym rest;
    words = known_by KernelCode h fit;
    known_open = o;
    shared_open = nothing env m;
  }

  placed_in : (o : Origin) (b : Bool)
      → all_in (idt_block (Stub o b e.vector)).ground.known (M - pushed_bytes b) (length (pushed b)) ≡ true
  placed_in o true = refl
  placed_in o false = refl

pub idt_delivers : IdtDelivers
idt_delivers code c m e env s rest flags fit o =
    let h : Bool = has_error_code e.vector in
    record {
      went = went c m e env s.site (frame_is code c m e env s) (idt_block (stub_of c e)).ground.known o
          (placed_in code c m e env s (origin_by (is_user c)) h);
      at = begins code (idt_block (stub_of c e)) env (idt_handler c e (frame_at env h)) (with_words m (idt_words env h m.words)) fit
          (agrees code c m e env s (is_user c) refl h rest flags fit o);
    }

-- ---- a gate that is closed to the task

not_three : (v : ℕ) → v ≢ 3 → (v == 3) ≡ false
not_three v h = pick (v == 3) refl
  where
    pick : (b : Bool) → (v == 3) ≡ b → b ≡ false
    pick true q = absurd (h (eqb-true v 3 q))
    pick false q = refl

pub idt_refuses : IdtRefuses
unfolding idt_delivery
idt_refuses c m e gate_is kind user other =
    ap (λ (g : Gate). if is_gated e.kind && is_user c && nat_lt g.dpl 3 then met else through_gate (with_cr2 c e) m e g) gate_is
    ∙ ap (λ (k : EventType). if is_gated k && is_user c && nat_lt (gate e.vector).dpl 3 then met else through_gate (with_cr2 c e) m e (gate e.vector)) kind
    ∙ ap (λ (b : Bool). if b && nat_lt (gate e.vector).dpl 3 then met else through_gate (with_cr2 c e) m e (gate e.vector)) user
    ∙ ap (λ (b : Bool). if nat_lt (if b then 3 else 0) 3 then met else through_gate (with_cr2 c e) m e (gate e.vector)) (not_three e.vector other)
  where
    met : Outcome
    met = Met c (gp (8 * e.vector + 2))

-- ---- an NMI

module _ (code : Code) (c : Processor) (m : Memory) (g : GsBase) (env : Env) (s : NmiSite c m g env) where
  open s use {site}

  nmi_frame_is : (b : Bool) → b ≡ false → written c m nmi_event env site (faulted c nmi_event) b ≡ map (eval env) (pushed b)
  unfolding eval
  nmi_frame_is true q = absurd (cc)
  nmi_frame_is false q = ap (λ (f : ℕ → ℕ). f 17 ∷ f 18 ∷ f 19 ∷ f 20 ∷ f 21 ∷ []) (sym s.var)

  -- the word that tells whether a body runs
  runs_is : m.words (running_at env) ≡ env.var 25
  runs_is = ap (λ f. f 25) (sym s.var)

  abbrev Knows : Choice → Type 0
  Knows choice =
      Fits code env (nmi_block (Choosing choice g))
      → Known env (nmi_block (Choosing choice g)).ground.known (idt_words env false m.words)
      (from_top 0x28 interrupted ++ running_if (reads_running choice))

  knows : (choice : Choice) → Knows choice
  unfolding eval
  knows FirstFromTask fit = listed_known env (nmi_block (Choosing FirstFromTask g)).ground.known (nmi_block (Choosing FirstFromTask g)).ground.own
      fit.ground.sep interrupted (M - 40) m.words [] (from_top 0x28 interrupted) refl refl tt refl
  knows FirstLow fit = listed_known env (nmi_block (Choosing FirstLow g)).ground.known (nmi_block (Choosing FirstLow g)).ground.own
      fit.ground.sep interrupted (M - 40) m.words (running_if true) (from_top 0x28 interrupted ++ running_if true) refl refl (refl, runs_is, tt) refl
  knows FirstHigh fit = listed_known env (nmi_block (Choosing FirstHigh g)).ground.known (nmi_block (Choosing FirstHigh g)).ground.own
      fit.ground.sep interrupted (M - 40) m.words (running_if true) (from_top 0x28 interrupted ++ running_if true) refl refl (refl, runs_is, tt) refl
  knows InnerLow fit = listed_known env (nmi_block (Choosing InnerLow g)).ground.known (nmi_block (Choosing InnerLow g)).ground.own
      fit.ground.sep interrupted (M - 40) m.words (running_if true) (from_top 0x28 interrupted ++ running_if true) refl refl (refl, runs_is, tt) refl
  knows InnerHigh fit = listed_known env (nmi_block (Choosing InnerHigh g)).ground.known (nmi_block (Choosing InnerHigh g)).ground.own
      fit.ground.sep interrupted (M - 40) m.words (running_if true) (from_top 0x28 interrupted ++ running_if true) refl refl (refl, runs_is, tt) refl
  knows InnerAtLast fit = listed_known env (nmi_block (Choosing InnerAtLast g)).ground.known (nmi_block (Choosing InnerAtLast g)).ground.own
      fit.ground.sep interrupted (M - 40) m.words [] (from_top 0x28 interrupted) refl refl tt refl
  knows InnerInRepeat fit = listed_known env (nmi_block (Choosing InnerInRepeat g)).ground.known (nmi_block (Choosing InnerInRepeat g)).ground.own
      fit.ground.sep interrupted (M - 40) m.words [] (from_top 0x28 interrupted) refl refl tt refl

  told : (choice : Choice) → IsTold env (nmi_block (Choosing choice g)).opening.cr2 c.cr2
  unfolding eval
  told FirstFromTask = ap (λ f. f 62) (sym s.var)
  told FirstLow = ap (λ f. f 62) (sym s.var)
  told FirstHigh = ap (λ f. f 62) (sym s.var)
  told InnerLow = tt
  told InnerHigh = tt
  told InnerAtLast = tt
  told InnerInRepeat = tt

  nmi_rip : env.base 1000 ≡ 0 → nmi_entry ≡ (env.base 1000 + nmi_entry) % M
  nmi_rip z = let q : 0xffffffff81004000 ≡ (env.base 1000 + 0xffffffff81004000) % M = omega (arith, z) in q

  nmi_places : (choice : Choice) → all_in (nmi_block (Choosing choice g)).ground.known (M - 40) 5 ≡ true
  nmi_places FirstFromTask = refl
  nmi_places FirstLow = refl
  nmi_places FirstHigh = refl
  nmi_places InnerLow = refl
  nmi_places InnerHigh = refl
  nmi_places InnerAtLast = refl
  nmi_places InnerInRepeat = refl

-- the bases of GS, by which is in use
base_is : (c : Processor) (m : Memory) (g : GsBase) (env : Env) → NmiSite c m g env
    → (c.msrs.gs_base ≡ eval env (nmi_block (Choosing InnerInRepeat g)).opening.gs)
    × (c.msrs.kernel_gs_base ≡ eval env (nmi_block (Choosing InnerInRepeat g)).opening.kernel_gs)
unfolding eval
base_is c m TaskGs env s = (ap (λ f. f 60) (sym s.var), low_area env c.msrs.kernel_gs_base s.area_small s.area)
base_is c m KernelGs env s = (low_area env c.msrs.gs_base s.area_small s.area, ap (λ f. f 60) (sym s.var))

nmi_agrees : (code : Code) (c : Processor) (m : Memory) (choice : Choice) (g : GsBase) (env : Env) (s : NmiSite c m g env)
    → env.rest ≡ untracked (idt_handler c nmi_event (frame_at env false)) → (idt_handler c nmi_event (frame_at env false)).flags ≡ flags_word env.flags
    → Fits code env (nmi_block (Choosing choice g)) → Open env (nmi_block (Choosing choice g)).ground.known m.regions
    → Agrees env (nmi_block (Choosing choice g)).ground (nmi_block (Choosing choice g)).opening (idt_handler c nmi_event (frame_at env false))
    (with_words m (idt_words env false m.words))
unfolding eval eval_flags
nmi_agrees code c m choice TaskGs env s rest flags fit o = record {
  regs = ap (λ xs. set xs 4 (frame_at env false)) (listed_is c.regs s.site.long) ∙ ap (λ f. tabled f (frame_at env false)) (sym s.var);
  rip = nmi_rip code c m TaskGs env s fit.ground.zero_base;
  flags = flags;
  gs = (base_is c m TaskGs env s).0;
  kernel_gs = (base_is c m TaskGs env s).1;
  selector = ap (λ f. f 61) (sym s.var);
  cr2 = told code c m TaskGs env s choice;
  levels = levels_are c m nmi_event env s.site (env.var 63) (ap (λ f. f 63) s.var) env.rest (ap (λ (r : Processor). r.msrs.rsp) rest);
  blocked = refl;
  rest = sym rest;
  words = knows code c m TaskGs env s choice fit;
  known_open = o;
  shared_open = nothing env m;
}
nmi_agrees code c m choice KernelGs env s rest flags fit o = record {
  regs = ap (λ xs. set xs 4 (frame_at env false)) (listed_is c.regs s.site.long) ∙ ap (λ f. tabled f (frame_at env false)) (sym s.var);
  rip = nmi_rip code c m KernelGs env s fit.ground.zero_base;
  flags = flags;
  gs = (base_is c m KernelGs env s).0;
  kernel_gs = (base_is c m KernelGs env s).1;
  selector = ap (λ f. f 61) (sym s.var);
  cr2 = told code c m KernelGs env s choice;
  levels = levels_are c m nmi_event env s.site (env.var 63) (ap (λ f. f 63) s.var) env.rest (ap (λ (r : Processor). r.msrs.rsp) rest);
  blocked = refl;
  rest = sym rest;
  words = knows code c m KernelGs env s choice fit;
  known_open = o;
  shared_open = nothing env m;
}

pub nmi_delivers : NmiDelivers
nmi_delivers code c m choice g env s rest flags fit o = record {
  went = went c m nmi_event env s.site (λ b q. nmi_frame_is code c m g env s b q) (nmi_block (Choosing choice g)).ground.known o
      (nmi_places code c m g env s choice);
  at = begins code (nmi_block (Choosing choice g)) env (idt_handler c nmi_event (frame_at env false)) (with_words m (idt_words env false m.words)) fit
      (nmi_agrees code c m choice g env s rest flags fit o);
}

-- ---- SYSCALL

pub call_delivers : CallDelivers
unfolding syscall_idt eval eval_flags
call_delivers code c m env s rest flags fit o = begins code (idt_block Sys) env (syscall_idt c) m fit (record {
  regs = listed_is (set (set c.regs 1 c.rip) 11 c.flags) (length-set (set c.regs 1 c.rip) 11 c.flags ∙ length-set c.regs 1 c.rip ∙ s.long)
      ∙ ap (λ f. tabled f (f 4)) (sym s.var);
  rip = s.entry ∙ (let z : env.base 1000 ≡ 0 = fit.ground.zero_base in let q : 0xffffffff81003000 ≡ (env.base 1000 + 0xffffffff81003000) % M =
      omega (arith, z) in q);
  flags = flags;
  gs = ap (λ f. f 60) (sym s.var);
  kernel_gs = let small : env.base gs_tag + 0x10 < M = s.area_small in low_area env c.msrs.kernel_gs_base (omega arith) s.area;
  selector = ap (λ f. f 61) (sym s.var);
  cr2 = tt;
  levels = levels_split c.msrs.rsp s.levels ∙ ap (λ f. f 63 ∷ drop 1 c.msrs.rsp) (sym s.var)
      ∙ ap (λ xs. env.var 63 ∷ xs) (sym (ap (λ (r : Processor). r.msrs.rsp) rest));
  blocked = refl;
  rest = sym rest;
  words = (
    refl,
    ap m.words (let small : env.base gs_tag + 0x10 < M = s.area_small in let q : (env.base gs_tag + 0x10) % M ≡ env.base gs_tag + 0x10 = omega arith in q)
        ∙ s.top ∙ (let small : env.base top_tag < M = s.top_small in let q : env.base top_tag ≡ (env.base top_tag + 0) % M = omega arith in q),
    tt,
  );
  known_open = o;
  shared_open = nothing env m;
})
