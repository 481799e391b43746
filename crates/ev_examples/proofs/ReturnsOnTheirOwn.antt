-- Returns on their own: the processor after each, or the event that it raises.
use Rattle.std.specs.Prelude.{◌≡◌, refl, ℕ, List, [], ◌∷◌, true, false, codes, decimal}
use Rattle.ev_isa.specs.declared.mode.Mode.{Mode}
use Rattle.ev_isa.specs.declared.mode.Mode.TheVariants.{Fred, Idt}
use Rattle.ev_mem.specs.Memory.{Memory}
use Rattle.ev_state.specs.Outcome.{Met, Outcome, Went}
use Rattle.ev_state.specs.Processor.{Processor}
use Rattle.ev_idt.specs.IdtDelivery.{iretq}
use Rattle.ev_fred.specs.FredDelivery.{erets, eretu}
use Rattle.ev_abstract.specs.EntryText.{Text, hex, words}
use Rattle.ev_probe.specs.Probe.{Probe, cpu_text, line, probe_cpu, probe_memory}
use Rattle.ev_examples.proofs.ComputesConcrete.{stepping}

-- a return of kernel code with RSP below the top of the task's stack, on a level, with NMIs blocked, and these words at RSP
unfoldable pub returning : Mode → ℕ → List ℕ → Probe
returning mode level words =
    record {
      mode = mode;
      cpl = 0;
      rip = 0xffffffff81003400;
      flags = 2;
      rsp = 0xffffc90000003f00;
      level = level;
      sti = false;
      nmi = true;
      stklvls =
          0x30020;
      bad = 0;
      words = words;
    }

unfoldable pub outcome_text : Outcome → Text
outcome_text (Went c words frame) = cpu_text c
outcome_text (Met c e) = line (codes "raise" ∷ decimal e.vector ∷ codes "error" ∷ hex e.error ∷ [])

unfoldable pub returned_by : (Processor → Memory → Outcome) → Probe → Text
unfolding outcome_text
returned_by return q = outcome_text (return (probe_cpu q) (probe_memory q))

unfoldable pub trying : Unit {0}
unfolding stepping returning outcome_text returned_by
trying = tt

-- IRETQ to user code and to the kernel; it ends the blocking of NMIs
iretq_to_user : returned_by iretq (returning Idt 0 (0x400000 ∷ 0x33 ∷ 0x40202 ∷ 0x10000ff8 ∷ 0x2b ∷ [])) ≡
    codes "cpu rip 400000 cs 33 ss 2b flags 40202 rsp 10000ff8 level 0 nmi 0 cr2 0\n"
unfolding trying
iretq_to_user = refl

iretq_to_kernel : returned_by iretq (returning Idt 0 (0xffffffff82000001 ∷ 0x10 ∷ 2 ∷ 0xffffc90000003f80 ∷ 0 ∷ [])) ≡
    codes "cpu rip ffffffff82000001 cs 10 ss 0 flags 2 rsp ffffc90000003f80 level 0 nmi 0 cr2 0\n"
unfolding trying
iretq_to_kernel = refl

-- selectors that are none of the project's
iretq_refused : returned_by iretq (returning Idt 0 (0x400000 ∷ 0x33 ∷ 0x40202 ∷ 0x10000ff8 ∷ 0x18 ∷ [])) ≡ codes "raise 13 error 0\n"
unfolding trying
iretq_refused = refl

-- ERETU ends the blocking of NMIs only where bit 18 of the SS word is set
eretu_to_user : returned_by eretu (returning Fred 0 (0 ∷ 0x400000 ∷ 0x33 ∷ 0x40202 ∷ 0x10000ff8 ∷ 0x2b ∷ [])) ≡
    codes "cpu rip 400000 cs 33 ss 2b flags 40202 rsp 10000ff8 level 0 nmi 1 cr2 0\n"
unfolding trying
eretu_to_user = refl

eretu_from_nmi : returned_by eretu (returning Fred 0 (0 ∷ 0x400000 ∷ 0x33 ∷ 0x40202 ∷ 0x10000ff8 ∷ 0x4002b ∷ [])) ≡
    codes "cpu rip 400000 cs 33 ss 2b flags 40202 rsp 10000ff8 level 0 nmi 0 cr2 0\n"
unfolding trying
eretu_from_nmi = refl

-- on level 1
eretu_refused : returned_by eretu (returning Fred 1 (0 ∷ 0x400000 ∷ 0x33 ∷ 2 ∷ 0 ∷ 0x2b ∷ [])) ≡ codes "raise 13 error 0\n"
unfolding trying
eretu_refused = refl

-- ERETS goes back to the level in the CS word, which isn't above the present one
erets_down : returned_by erets (returning Fred 2 (0 ∷ 0xffffffff82000001 ∷ 0x10010 ∷ 2 ∷ 0xffffc90000003f80 ∷ 0x40018 ∷ [])) ≡
    codes "cpu rip ffffffff82000001 cs 10 ss 18 flags 2 rsp ffffc90000003f80 level 1 nmi 0 cr2 0\n"
unfolding trying
erets_down = refl

erets_refused : returned_by erets (returning Fred 0 (0 ∷ 0xffffffff82000001 ∷ 0x10010 ∷ 2 ∷ 0xffffc90000003f80 ∷ 0x18 ∷ [])) ≡ codes "raise 13 error 0\n"
unfolding trying
erets_refused = refl
