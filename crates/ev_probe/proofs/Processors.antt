-- The processor of a line, field by field.
use Rattle.std.proofs.Common.{◌≡◌, ◌≢◌, ℕ, zero, suc, ◌+◌, ◌<◌, ◌≤◌, ⊎_elim, Bool, true, false, ◌&&◌, ◌==◌, List, [], ◌∷◌, refl, sym, ap, ◌∙◌, subst, arith, eqb-true}
use Rattle.std.proofs.lemmas.Bool.{eq-eqb, leb-true, ne_eqb}
use Rattle.std.specs.Prelude.{if◌then◌else◌, nat_le}
use Rattle.ev_isa.specs.Word.{bit}
use Rattle.ev_isa.specs.Flags.{modelled}
use Rattle.ev_isa.specs.declared.mode.Mode.{Mode}
use Rattle.ev_isa.specs.declared.mode.Mode.TheVariants.{Idt, Fred}
use Rattle.ev_event.specs.declared.event.Event.{Event}
use Rattle.ev_event.specs.declared.event.EventType.{EventType}
use Rattle.ev_mem.specs.Memory.{Memory}
use Rattle.ev_proc.specs.Conditions.{HasEntries, IsDeliverable}
use Rattle.ev_state.specs.Msr.{Msrs}
use Rattle.ev_state.specs.Processor.{Processor}
use Rattle.ev_listing.specs.AddressMap.{idt_base, pcpu}
use Rattle.ev_concrete.specs.Opening.{control}
use Rattle.ev_probe.specs.declared.line.Op.{Op}
use Rattle.ev_probe.specs.declared.line.Values.{Values}
use Rattle.ev_probe.specs.declared.line.ProbeLine.{ProbeLine}
use Rattle.ev_probe.specs.ProbeLine.{event_of, is_allowed, is_idt_delivery, is_kind, is_return, kind_of}
use Rattle.ev_probe.specs.BareMemory.{FindsTables}
use Rattle.ev_probe.specs.Probe.{probe_cpu}
use Rattle.ev_probe.specs.Answer.{probe_of}
use Rattle.ev_probe.proofs.Lines.{are_values, either, split}

pub level_fits : (mode : Mode) (op : Op) (v : Values) → is_allowed mode op v ≡ true → v.level < 256
level_fits mode op v h = let l = (are_values mode op v h).level in omega arith

-- a selector by the privilege level
pub user_selector : (cpl r x y : ℕ) → cpl ≡ 3 → r ≡ x → r ≡ (if cpl == 3 then x else y)
user_selector cpl r x y h e = let t : (cpl == 3) ≡ true = eq-eqb cpl 3 h in e ∙ by (cpl == 3) t
  where
    by : (b : Bool) → b ≡ true → x ≡ (if b then x else y)
    by true k = refl
    by false k = absurd cc

pub kernel_selector : (cpl r x y : ℕ) → (cpl ≡ 3 → ⊥) → r ≡ y → r ≡ (if cpl == 3 then x else y)
kernel_selector cpl r x y h e = let t : (cpl == 3) ≡ false = ne_eqb cpl 3 h in e ∙ by (cpl == 3) t
  where
    by : (b : Bool) → b ≡ false → y ≡ (if b then x else y)
    by true k = absurd cc
    by false k = refl

pub cpu_is : (l : ProbeLine) (flags cr4 cs ss : ℕ) (msrs : Msrs) (gdt : List (ℕ × ℕ)) → flags ≡ modelled l.values.flags → cr4 ≡ control l.mode
    → cs ≡ (if l.values.cpl == 3 then 0x33 else 0x10) → ss ≡ (if l.values.cpl == 3 then 0x2b else 0x18) → msrs ≡ (probe_cpu (probe_of l)).msrs
    → gdt ≡ record { 0 = 0x43; 1 = 0 } ∷ []
    → (let c : Processor = record {
      regs = 0 ∷ 0 ∷ 0 ∷ 0 ∷ l.values.rsp ∷ 0 ∷ 0 ∷ 0 ∷ 0 ∷ 0 ∷ 0 ∷ 0 ∷ 0 ∷ 0 ∷ 0 ∷ 0 ∷ [];
      rip = l.values.rip;
      flags = flags;
      cr2 = 0;
      cr4 = cr4;
      cpl = l.values.cpl;
      level = l.values.level;
      cs = cs;
      ss = ss;
      gs = 0x43;
      nmi_blocked = l.values.nmi == 1;
      sti_blocked = l.values.sti == 1;
      idt = idt_base;
      tss = pcpu 0 + 0x404;
      msrs = msrs;
      gdt = gdt;
    } in c) ≡ probe_cpu (probe_of l)
unfolding probe_of
cpu_is l flags cr4 cs ss msrs gdt hf hc hs ht hm hg = rw (hf, hc, hs, ht, hm, hg) refl

-- ---- what a delivery asks

-- the tables, under IDT
pub entries : (l : ProbeLine) (c : Processor) (m : Memory) → c ≡ probe_cpu (probe_of l) → FindsTables m → HasEntries c m
unfolding probe_of
entries l c m e h =
    subst (λ (x : Processor). HasEntries x m) (sym e) (record { tables = λ no_fred. h (probe_cpu (probe_of l)) refl refl })

-- a type other than 7, where it isn't that of SYSCALL
not_other : (n : ℕ) → n ≤ 7 → is_kind Idt Op.Deliver n ≡ true → kind_of n ≡ EventType.Other → ⊥
unfolding is_idt_delivery
not_other zero l h e = absurd cc
not_other (suc zero) l h e = absurd cc
not_other (suc (suc zero)) l h e = absurd cc
not_other (suc (suc (suc zero))) l h e = absurd cc
not_other (suc (suc (suc (suc zero)))) l h e = absurd cc
not_other (suc (suc (suc (suc (suc zero))))) l h e = absurd cc
not_other (suc (suc (suc (suc (suc (suc zero)))))) l h e = absurd cc
not_other (suc (suc (suc (suc (suc (suc (suc zero))))))) l h e = absurd cc
not_other (suc (suc (suc (suc (suc (suc (suc (suc n)))))))) l h e = absurd (omega (arith, l))

most : (n : ℕ) → is_kind Idt Op.Deliver n ≡ true → n ≤ 7
most n h = ⊎_elim (λ k. omega (arith, eqb-true n 0 k)) (λ k. leb-true _ _ (split (nat_le 2 n) (nat_le n 7) k).1)
    (either (n == 0) (nat_le 2 n && nat_le n 7) (split _ _ h).0)

kind_in : (mode : Mode) (v : Values) → is_kind mode Op.Deliver v.kind ≡ true → bit 32 (control mode) ≡ false → kind_of v.kind ≢ EventType.Other
kind_in Idt v h f = not_other v.kind (most v.kind h) h
kind_in Fred v h f = absurd cc

pub is_delivery : (op : Op) → is_return op ≡ false → op ≡ Op.Deliver
unfolding is_return
is_delivery Op.Deliver h = refl
is_delivery Op.Iretq h = absurd cc
is_delivery Op.Eretu h = absurd cc
is_delivery Op.Erets h = absurd cc

-- the event of a delivery
pub deliverable : (l : ProbeLine) (c : Processor) (e : Event) → is_allowed l.mode l.op l.values ≡ true → is_return l.op ≡ false
    → c ≡ probe_cpu (probe_of l) → e ≡ event_of l.values → e.length < 16 → IsDeliverable c e
unfolding probe_of event_of
deliverable l c e h r hc he short = record {
  short = short;
  kind = λ no_fred other.
      let v = are_values l.mode l.op l.values h in
      let k : is_kind l.mode Op.Deliver l.values.kind ≡ true =
      ap (λ (x : Op). is_kind l.mode x l.values.kind) (sym (is_delivery l.op r)) ∙ v.kind in
      let f : bit 32 (control l.mode) ≡ false = ap (λ (x : Processor). bit 32 x.cr4) (sym hc) ∙ no_fred in
      kind_in l.mode l.values k f (ap (λ (x : Event). x.kind) (sym he) ∙ other);
}

pub vector_fits : (l : ProbeLine) → is_allowed l.mode l.op l.values ≡ true → l.values.vector < 256
vector_fits l h = (are_values l.mode l.op l.values h).vector
