-- Symbolic steps of instructions that touch the processor's own state: GS, MSRs and CR2.
use Rattle.std.proofs.Common.{◌≡◌, ℕ, ◌+◌, ◌*◌, ◌/◌, ◌%◌, ◌^◌, Bool, true, false, ◌&&◌, List, set, map, length, Option, Some, None, refl, sym, ap, ◌∙◌, length-set}
use Rattle.std.specs.Prelude.{if◌then◌else◌, bit_and}
use Rattle.std.proofs.lemmas.Nat.{and_mask}
use Rattle.ev_isa.specs.Spelling.{spelling}
use Rattle.ev_isa.specs.declared.instruction.Ins.{Ins}
use Rattle.ev_isa.specs.declared.instruction.Ins.TheVariants.{Lkgs, MovGs, ReadCr2, Swapgs, Rdmsr, Wrmsr}
use Rattle.ev_event.specs.Event.{ud}
use Rattle.ev_state.specs.Descriptors.{base_of}
use Rattle.ev_state.specs.Msr.{msr, written, given}
use Rattle.ev_state.specs.Processor.{Processor, register, selector}
use Rattle.ev_mem.specs.Memory.{Memory}
use Rattle.ev_exec.specs.Exec.{Special, at_next, by_outcome, with_gs, mov_gs, exec}
use Rattle.ev_apic.specs.declared.apic.Apic.{Apic}
use Rattle.ev_idt.specs.IdtDelivery.{swapgs}
use Rattle.ev_fred.specs.FredDelivery.{lkgs, with_kernel_gs}
use Rattle.ev_proc.specs.ProcessorStep.{has_fred, executed, ran, fault, after_outcome, after_read, after_write, write_msr, special, low32}
use Rattle.ev_symbolic.specs.Value.{OAnd, OShr, V, K, v_eq, norm, sop}
use Rattle.ev_symbolic.specs.State.{Loc, SS, Descriptor, Ground, sreg, is_listed}
use Rattle.ev_symbolic.specs.Run.{moved, slkgs, sread_cr2, smov_gs, is_msr, srdmsr, is_word, swrmsr}
use Rattle.ev_symbolic.specs.Agrees.{Env, untracked, eval, addr, Grounded, IsTold, Agrees, Steps, StepsIf}
use Rattle.ev_symbolic.proofs.Values.{and_left, and_right, v_same, nop_ok}
use Rattle.ev_symbolic.proofs.Words.{set_ok}
use Rattle.ev_symbolic.proofs.Effects.{executes, drop_set, other_levels, halves, listed_ok, Selects, word_lt, msr_is}
use Rattle.ev_symbolic.proofs.Plain.{reg_ok, kernel_ok}

module _ (e : Env) (G : Ground) (h : Grounded e G) where
  -- ---- instructions that touch the processor's own state

  pub quiet : (i : Ins) (next : ℕ) (nl : Loc) (s : SS) (c : Processor) (m : Memory) → Agrees e G s c m → next ≡ addr e nl
      → (regs : List ℕ) (sregs : List V) → length regs ≡ length c.regs → regs ≡ map (eval e) sregs
      → (cr2 : ℕ) (vcr2 : Option V) → IsTold e vcr2 cr2 → (sel : ℕ) (vsel : V) → sel ≡ eval e vsel
      → (gs : ℕ) (vgs : V) → gs ≡ eval e vgs → (kernel : ℕ) (vkernel : V) → kernel ≡ eval e vkernel
      → ((a : Apic) (nmi : Bool)
      → executed c a m nmi (Some i) ≡ ran
      (record c { regs = regs; rip = next; cr2 = cr2; gs = sel; sti_blocked = false; msrs = record c.msrs { gs_base = gs; kernel_gs_base = kernel } }) a
      m.words nmi)
      → Steps e G i (record (moved s sregs nl) { cr2 = vcr2; selector = vsel; gs = vgs; kernel_gs = vkernel }) c m
  quiet i next nl s c m g hl regs sregs hlen hr cr2 vcr2 h2 sel vsel hs gs vgs hg kernel vkernel hk hx = record {
    cpu = record c { regs = regs; rip = next; cr2 = cr2; gs = sel; sti_blocked = false; msrs = record c.msrs { gs_base = gs; kernel_gs_base = kernel } };
    words = m.words;
    runs = hx;
    long = hlen;
    blocking = refl;
    agrees = record {
      regs = hr;
      rip = hl;
      flags = g.flags;
      gs = hg;
      kernel_gs = hk;
      selector = hs;
      cr2 = h2;
      levels = g.levels;
      blocked = refl;
      rest = g.rest;
      words = g.words;
      known_open = g.known_open;
      shared_open = g.shared_open;
    };
    within = λ x far far'. refl;
  }

  -- what the descriptor table says of a selector that is found
  pub gdt_ok : (s : SS) (c : Processor) (m : Memory) → Agrees e G s c m → (d : Descriptor) → base_of e.rest.gdt (eval e d.selector) ≡ Some (eval e d.base)
      → base_of c.gdt (eval e d.selector) ≡ Some (eval e d.base)
  gdt_ok s c m g d q = ap (λ t. base_of t.gdt (eval e d.selector)) g.rest ∙ q

  pub swapgs_ok : (next : ℕ) (nl : Loc) (s : SS) (c : Processor) (m : Memory) → Agrees e G s c m → c.rip + length (spelling Swapgs) ≡ next → next ≡ addr e nl
      → (b : Bool) → G.fred ≡ b → StepsIf e G Swapgs (if b then None else Some (record (moved s s.regs nl) { gs = s.kernel_gs; kernel_gs = s.gs })) c m
  unfolding exec special
  swapgs_ok next nl s c m g hn hl true q = tt
  swapgs_ok next nl s c m g hn hl false q =
      quiet Swapgs next nl s c m g hl c.regs s.regs refl g.regs c.cr2 s.cr2 g.cr2 c.gs s.selector g.selector c.msrs.kernel_gs_base s.kernel_gs g.kernel_gs
      c.msrs.gs_base s.gs g.gs
      (λ a nmi. executes c m Swapgs next Special (kernel_ok e G h s c m g) hn refl a nmi ∙ does a nmi)
    where
      does : (a : Apic) (nmi : Bool) → special c a m nmi next Swapgs ≡ ran (at_next (swapgs c) next) a m.words nmi
      does a nmi = ap (λ b. if b then fault c a m nmi ud else ran (at_next (swapgs c) next) a m.words nmi) (ap has_fred g.rest ∙ h.fred ∙ q)

  pub lkgs_ok : (r next : ℕ) (nl : Loc) (s : SS) (c : Processor) (m : Memory) → Agrees e G s c m → c.rip + length (spelling (Lkgs r)) ≡ next → next ≡ addr e nl
      → (o : Option Descriptor) → Selects e (sreg s r) o → StepsIf e G (Lkgs r) (slkgs nl s o) c m
  unfolding exec special lkgs
  lkgs_ok r next nl s c m g hn hl None q = tt
  lkgs_ok r next nl s c m g hn hl (Some d) q =
      let sel : selector (register c r) ≡ eval e d.selector = ap selector (reg_ok e G h s c m g r) ∙ q.0 in
      quiet (Lkgs r) next nl s c m g hl c.regs s.regs refl g.regs c.cr2 s.cr2 g.cr2 (eval e d.selector) d.selector refl c.msrs.gs_base s.gs g.gs
      (eval e d.base) d.base refl
      (λ a nmi. executes c m (Lkgs r) next Special (kernel_ok e G h s c m g) hn refl a nmi
      ∙ ap (λ x. after_outcome a m nmi next (with_kernel_gs c m.words x (base_of c.gdt x))) sel
      ∙ ap (λ o. after_outcome a m nmi next (with_kernel_gs c m.words (eval e d.selector) o)) (gdt_ok s c m g d q.1))

  pub mov_gs_ok : (r next : ℕ) (nl : Loc) (s : SS) (c : Processor) (m : Memory) → Agrees e G s c m → c.rip + length (spelling (MovGs r)) ≡ next
      → next ≡ addr e nl → (o : Option Descriptor) → Selects e (sreg s r) o → StepsIf e G (MovGs r) (smov_gs nl s o) c m
  unfolding exec mov_gs
  mov_gs_ok r next nl s c m g hn hl None q = tt
  mov_gs_ok r next nl s c m g hn hl (Some d) q =
      let sel : selector (register c r) ≡ eval e d.selector = ap selector (reg_ok e G h s c m g r) ∙ q.0 in
      let out : exec c m (MovGs r) next ≡ by_outcome next (with_gs c m.words (eval e d.selector) (Some (eval e d.base))) =
      ap (λ x. by_outcome next (with_gs c m.words x (base_of c.gdt x))) sel ∙ ap (λ o. by_outcome next (with_gs c m.words (eval e d.selector) o))
      (gdt_ok s c m g d q.1) in
      quiet (MovGs r) next nl s c m g hl c.regs s.regs refl g.regs c.cr2 s.cr2 g.cr2 (eval e d.selector) d.selector refl
      (eval e d.base) d.base refl c.msrs.kernel_gs_base s.kernel_gs g.kernel_gs
      (executes c m (MovGs r) next (by_outcome next (with_gs c m.words (eval e d.selector) (Some (eval e d.base)))) (kernel_ok e G h s c m g) hn out)

  pub rdmsr_ok : (next : ℕ) (nl : Loc) (s : SS) (c : Processor) (m : Memory) → Agrees e G s c m → c.rip + length (spelling Rdmsr) ≡ next → next ≡ addr e nl
      → StepsIf e G Rdmsr (srdmsr G nl s) c m
  unfolding exec special msr eval
  rdmsr_ok next nl s c m g hn hl = pick (is_msr 0xc0000101 (sreg s 1)) refl
    where
      low : V
      low = norm G.facts (sop OAnd s.gs (K 4294967295))

      high : V
      high = norm G.facts (sop OShr s.gs (K 32))

      low_ok : low32 c.msrs.gs_base ≡ eval e low
      low_ok = sym (and_mask c.msrs.gs_base 32) ∙ ap (λ x. bit_and x 4294967295) g.gs ∙ sym (nop_ok e G.facts h.facts OAnd s.gs (K 4294967295))

      high_ok : c.msrs.gs_base / 2 ^ 32 ≡ eval e high
      high_ok = ap (λ x. x / 2 ^ 32) g.gs ∙ sym (nop_ok e G.facts h.facts OShr s.gs (K 32))

      regs : List ℕ
      regs = set (set c.regs 0 (low32 c.msrs.gs_base)) 2 (c.msrs.gs_base / 2 ^ 32)

      sregs : List V
      sregs = set (set s.regs 0 low) 2 high

      pick : (b : Bool) → is_msr 0xc0000101 (sreg s 1) ≡ b → StepsIf e G Rdmsr (if b then Some (moved s sregs nl) else None) c m
      pick false q = tt
      pick true q =
          quiet Rdmsr next nl s c m g hl regs sregs (length-set (set c.regs 0 (low32 c.msrs.gs_base)) 2 _ ∙ length-set c.regs 0 _)
          (set_ok e (set c.regs 0 (low32 c.msrs.gs_base)) (set s.regs 0 low) 2 (c.msrs.gs_base / 2 ^ 32) high
          (set_ok e c.regs s.regs 0 (low32 c.msrs.gs_base) low g.regs low_ok) high_ok)
          c.cr2 s.cr2 g.cr2 c.gs s.selector g.selector c.msrs.gs_base s.gs g.gs c.msrs.kernel_gs_base s.kernel_gs g.kernel_gs
          (λ a nmi. executes c m Rdmsr next Special (kernel_ok e G h s c m g) hn refl a nmi ∙ ap (λ n. after_read c a m nmi next (msr c.msrs n))
          (ap low32 (reg_ok e G h s c m g 1) ∙ msr_is e 0xc0000101 (sreg s 1) q))

  pub wrmsr_ok : (next : ℕ) (nl : Loc) (s : SS) (c : Processor) (m : Memory) → Agrees e G s c m → c.rip + length (spelling Wrmsr) ≡ next → next ≡ addr e nl
      → StepsIf e G Wrmsr (swrmsr G nl s) c m
  unfolding exec special written eval
  wrmsr_ok next nl s c m g hn hl =
      pick (is_msr 0x1cc (sreg s 1) && (v_eq (norm G.facts (sop OShr (sreg s 0) (K 32))) (sreg s 2) && (is_word (sreg s 0) && is_listed (sreg s 0) G.tops)))
      refl
    where
      value : V
      value = sreg s 0

      pick : (b : Bool) → (is_msr 0x1cc (sreg s 1)
          && (v_eq (norm G.facts (sop OShr (sreg s 0) (K 32))) (sreg s 2) && (is_word (sreg s 0) && is_listed (sreg s 0) G.tops))) ≡ b
          → StepsIf e G Wrmsr (if b then Some (record (moved s s.regs nl) { rsp0 = sreg s 0 }) else None) c m
      pick false q = tt
      pick true q =
          let is_rsp0 = and_left (is_msr 0x1cc (sreg s 1)) _ q in
          let q1 = and_right (is_msr 0x1cc (sreg s 1)) _ q in
          let is_high = and_left (v_eq (norm G.facts (sop OShr (sreg s 0) (K 32))) (sreg s 2)) _ q1 in
          let q2 = and_right (v_eq (norm G.facts (sop OShr (sreg s 0) (K 32))) (sreg s 2)) _ q1 in
          let fits = word_lt e (sreg s 0) (and_left (is_word (sreg s 0)) _ q2) in
          let top = listed_ok e (sreg s 0) G.tops h.tops (and_right (is_word (sreg s 0)) _ q2) in
          let n : ℕ = eval e (sreg s 0) in
          let number_is : low32 (register c 1) ≡ 0x1cc = ap low32 (reg_ok e G h s c m g 1) ∙ msr_is e 0x1cc (sreg s 1) is_rsp0 in
          let high : register c 2 ≡ n / 2 ^ 32 =
          reg_ok e G h s c m g 2 ∙ ap (eval e) (sym (v_same (norm G.facts (sop OShr (sreg s 0) (K 32))) (sreg s 2) is_high))
          ∙ nop_ok e G.facts h.facts OShr (sreg s 0) (K 32) in
          let value_is : low32 (register c 0) + 2 ^ 32 * low32 (register c 2) ≡ n =
          ap (λ x. x % 2 ^ 32 + 2 ^ 32 * low32 (register c 2)) (reg_ok e G h s c m g 0)
          ∙ ap (λ x. n % 2 ^ 32 + 2 ^ 32 * (x % 2 ^ 32)) high ∙ halves n fits in
          record {
            cpu = record c { rip = next; sti_blocked = false; msrs = record c.msrs { rsp = set c.msrs.rsp 0 n } };
            words = m.words;
            runs = λ a nmi. executes c m Wrmsr next Special (kernel_ok e G h s c m g) hn refl a nmi
                ∙ ap (λ x. write_msr c a m nmi next x (low32 (register c 0) + 2 ^ 32 * low32 (register c 2))) number_is
                ∙ ap (λ x. write_msr c a m nmi next 0x1cc x) value_is
                ∙ ap (λ b. after_write c a m nmi next (given b (record c.msrs { rsp = set c.msrs.rsp 0 n }))) top;
            long = refl;
            blocking = refl;
            agrees = record {
              regs = g.regs;
              rip = hl;
              flags = g.flags;
              gs = g.gs;
              kernel_gs = g.kernel_gs;
              selector = g.selector;
              cr2 = g.cr2;
              levels = ap (λ l. set l 0 n) g.levels;
              blocked = refl;
              rest = ap (other_levels (untracked c)) (drop_set c.msrs.rsp n) ∙ g.rest;
              words = g.words;
              known_open = g.known_open;
              shared_open = g.shared_open;
            };
            within = λ x far far'. refl;
          }

  pub read_cr2_ok : (d next : ℕ) (nl : Loc) (s : SS) (c : Processor) (m : Memory) → Agrees e G s c m
      → c.rip + length (spelling (ReadCr2 d)) ≡ next → next ≡ addr e nl
      → (o : Option V) → IsTold e o c.cr2 → StepsIf e G (ReadCr2 d) (sread_cr2 nl s d o) c m
  unfolding exec
  read_cr2_ok d next nl s c m g hn hl None q = tt
  read_cr2_ok d next nl s c m g hn hl (Some v) q =
      quiet (ReadCr2 d) next nl s c m g hl (set c.regs d c.cr2) (set s.regs d v) (length-set c.regs d c.cr2) (set_ok e c.regs s.regs d c.cr2 v g.regs q)
      c.cr2 s.cr2 g.cr2 c.gs s.selector g.selector c.msrs.gs_base s.gs g.gs c.msrs.kernel_gs_base s.kernel_gs g.kernel_gs
      (executes c m (ReadCr2 d) next _ (kernel_ok e G h s c m g) hn refl)
