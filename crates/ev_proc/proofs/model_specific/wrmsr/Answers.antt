use Rattle.std.proofs.Common.{◌≡◌, ◌+◌, ◌*◌, ◌^◌, ℕ, ap, ◌∙◌}
use Rattle.ev_state.specs.Processor.{register}
use Rattle.ev_mem.specs.Mapped.{memory}
use Rattle.ev_proc.specs.ProcessorStep.{low32, write_msr}
use Rattle.ev_proc.proofs.Specials.{is_wrmsr}
use Rattle.ev_proc.proofs.model_specific.wrmsr.Goals as goal

value : (l l' h h' a b : ℕ) → l' ≡ l → h' ≡ h → l ≡ a → h ≡ b → l' + 4294967296 * h' ≡ a + 2 ^ 32 * b
value l l' h h' a b p q r s = ap (λ (x : ℕ). x + 4294967296 * h') (p ∙ r) ∙ ap (λ (x : ℕ). a + 4294967296 * x) (q ∙ s)

pub returns-clause-is : goal.returns-clause-is
returns-clause-is c = λ nmi.
    c.write_msr.ensures.is nmi
    ∙ ap (λ (n : ℕ). write_msr c.args.cpu.now c.args.apic.now (memory c.args.mem.now) nmi c.args.next n (c.from.result + 4294967296 * c.from-2.result))
    c.low_half-n.ensures
    ∙ ap (λ (v : ℕ). write_msr c.args.cpu.now c.args.apic.now (memory c.args.mem.now) nmi c.args.next (low32 (register c.args.cpu.now 1)) v)
    (value c.low_half.result c.from.result c.low_half-2.result c.from-2.result (low32 (register c.args.cpu.now 0)) (low32 (register c.args.cpu.now 2))
    c.from.ensures c.from-2.ensures c.low_half.ensures c.low_half-2.ensures)
    ∙ is_wrmsr c.args.cpu.now c.args.apic.now (memory c.args.mem.now) nmi c.args.next
