-- The words that items read and write are open to the kernel: those of the processor's area, cells, and the page map.
use Rattle.std.proofs.Common.{◌≡◌, ℕ, ◌+◌, ◌*◌, ◌%◌, ◌^◌, ◌<◌, ◌≤◌, List, ap, ◌∙◌, arith}
use Rattle.std.proofs.lemmas.Bool.{eq-eqb}
use Rattle.ev_isa.specs.Word.{displaced}
use Rattle.std.specs.Prelude.{pos}
use Rattle.ev_isa.specs.Pages.{KernelWord}
use Rattle.ev_body.specs.declared.image.Image.{Image}
use Rattle.ev_mem.specs.declared.region.Region.{Region}
use Rattle.ev_mem.specs.Memory.{place_in, page_map}
use Rattle.ev_listing.specs.AddressMap.{pcpu, cells_base}
use Rattle.ev_concrete.specs.Opening.{regions}
use Rattle.ev_symbolic.specs.Agrees.{IsOpen}
use Rattle.ev_distances.proofs.Regions.{area_covered, cells_covered, page_map_covered}
use Rattle.ev_tables.proofs.Gates.{upper_canonical}

module _ (image : Image) (rs : List Region) (regions_are : rs ≡ regions image) where
  -- a word of the upper half that is the kernel's
  opened : (a : ℕ) → 0xffff800000000000 ≤ a → a < 2 ^ 64 → a % 8 ≡ 0 → place_in (regions image) a ≡ KernelWord → IsOpen rs a
  opened a lo hi even at = record {
    kernel = ap (λ (x : List Region). place_in x a) regions_are ∙ at;
    canonical = upper_canonical a lo hi;
    aligned = eq-eqb (a % 8) 0 even;
  }

  pub area_open : (p o : ℕ) → p < image.processors → image.processors ≤ 8 → o % 8 ≡ 0 → o + 8 ≤ 0x10000 → IsOpen rs (pcpu p + o)
  area_open p o hp few even small = opened (pcpu p + o) (omega arith) (omega arith) (omega arith)
      (area_covered image p o 8 hp small (pcpu p + o) (record { from = omega arith; to = omega arith }))

  pub cell_open : (k : ℕ) → k < 256 → IsOpen rs (cells_base + 8 * k)
  cell_open k hk = opened (cells_base + 8 * k) (omega arith) (omega arith) (omega arith)
      (cells_covered image 0x30000 0x800 (omega arith) (omega arith) (cells_base + 8 * k) (record { from = omega arith; to = omega arith }))

  -- the word behind the last page's is there too, and nobody reads it
  pub page_word_open : (i : ℕ) → i ≤ 256 → IsOpen rs (page_map + 8 * i)
  page_word_open i hi = opened (page_map + 8 * i) (omega arith) (omega arith) (omega arith)
      (page_map_covered image 0x20000 0x808 (omega arith) (omega arith) (page_map + 8 * i) (record { from = omega arith; to = omega arith }))

-- ---- addresses of operands

-- a displacement of 0 is none
pub displaced_zero : (a : ℕ) → a < 2 ^ 64 → displaced a (pos 0) ≡ a
displaced_zero a h = let e : (a + 0) % 18446744073709551616 ≡ a = omega arith in e

-- an offset in the area, from the GS base
pub displaced_area : (p o : ℕ) → p < 32 → o < 0x10000 → displaced ((pcpu p + 0) % 18446744073709551616) (pos o) ≡ pcpu p + o
displaced_area p o hp ho =
    let e : ((pcpu p + 0) % 18446744073709551616 + o) % 18446744073709551616 ≡ pcpu p + o = omega arith in e
