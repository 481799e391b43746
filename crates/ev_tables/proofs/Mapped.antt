-- The kernel reads the words of the IDT and of the TSS, by the regions of the opening.
use Rattle.std.proofs.Common.{◌≡◌, ℕ, ◌+◌, ◌*◌, ◌^◌, ◌<◌, ◌≤◌, List, None, ap, ◌∙◌, arith}
use Rattle.std.specs.Prelude.{false}
use Rattle.ev_isa.specs.Pages.{KernelWord, fault_at}
use Rattle.ev_body.specs.declared.image.Image.{Image}
use Rattle.ev_mem.specs.declared.region.Region.{Region}
use Rattle.ev_mem.specs.Memory.{Memory, data_access, page_fault, place_in, present_in}
use Rattle.ev_idt.specs.Tables.{IsReadable}
use Rattle.ev_listing.specs.AddressMap.{pcpu, idt_base}
use Rattle.ev_concrete.specs.Opening.{regions}
use Rattle.ev_distances.proofs.Regions.{area_covered, idt_covered}
use Rattle.ev_tables.proofs.Gates.{upper_canonical}

kernel_reads : (m : Memory) (a : ℕ) → place_in m.regions a ≡ KernelWord → page_fault m (data_access false false) a ≡ None
unfolding fault_at
kernel_reads m a h = ap (fault_at (present_in m) (data_access false false)) h

readable : (image : Image) (m : Memory) (a : ℕ) → m.regions ≡ regions image → place_in (regions image) a ≡ KernelWord → 0xffff800000000000 ≤ a → a < 2 ^ 64
    → IsReadable m a
readable image m a same place lo hi = record {
  canonical = upper_canonical a lo hi;
  mapped = kernel_reads m a (ap (λ (rs : List Region). place_in rs a) same ∙ place);
}

pub idt_readable : (image : Image) (m : Memory) (k : ℕ) → m.regions ≡ regions image → k < 512 → IsReadable m (idt_base + 8 * k)
idt_readable image m k same h =
    readable image m (idt_base + 8 * k) same
    (idt_covered image 0x10000 0x1000 (omega arith) (omega arith) (idt_base + 8 * k) (record { from = omega arith; to = omega arith })) (omega arith)
    (omega arith)

pub tss_readable : (image : Image) (m : Memory) (p k : ℕ) → m.regions ≡ regions image → p < image.processors → p < 8 → k < 11
    → IsReadable m (pcpu p + 0x408 + 8 * k)
tss_readable image m p k same hp few h =
    readable image m (pcpu p + 0x408 + 8 * k) same
    (area_covered image p 0 0x10000 hp (omega arith) (pcpu p + 0x408 + 8 * k) (record { from = omega arith; to = omega arith })) (omega arith)
    (omega arith)
