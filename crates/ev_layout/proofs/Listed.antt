-- The regions of an image, part by part.
use Rattle.std.proofs.Common.{◌≡◌, ℕ, ◌+◌, ◌-◌, ◌*◌, List, [], ◌∷◌, ◌++◌, map, length, ap, ◌∙◌, append_assoc}
use Rattle.std.specs.Prelude.{flat_map}
use Rattle.ev_isa.specs.Word.{numbers_from}
use Rattle.ev_isa.specs.Pages.{text_base, page_base}
use Rattle.ev_body.specs.declared.image.Image.{Image}
use Rattle.ev_mem.specs.declared.region.Region.{Region}
use Rattle.ev_mem.specs.declared.region.RegionKind.TheVariants.{Text, Page, Kernel}
use Rattle.ev_mem.specs.Memory.{page_map}
use Rattle.ev_listing.specs.AddressMap.{pcpu, user_table, kernel_table, idt_base, cells_base, task_words, fred_page, code_end, body_code}
use Rattle.ev_concrete.specs.Opening.{region, stack_regions, regions}

abbrev pub areas : ℕ → List Region
areas n = map (λ p. region (pcpu p) 0x10000 Kernel) (numbers_from 0 n)

abbrev pub user_regions : List Region
user_regions = region text_base 0x10000 Text ∷ map (λ i. region (page_base + 0x1000 * i) 0x1000 (Page i)) (numbers_from 0 256)

pub regions_are : (image : Image) (p n : ℕ) (k1 k2 k3 k4 k5 k6 k7 k8 : Region) (stacks front fixed all : List Region) → p ≡ image.processors
    → n ≡ length image.bodies
    → stacks ≡ flat_map stack_regions (numbers_from 0 p) → front ≡ stacks ++ areas p
    → k1 ≡ region user_table (8 * 257) Kernel → k2 ≡ region kernel_table (8 * 257) Kernel → k3 ≡ region idt_base 0x1000 Kernel
    → k4 ≡ region page_map (8 * 257) Kernel
    → k5 ≡ region cells_base 0x800 Kernel → k6 ≡ region (task_words 0 0) (0x100 * p) Kernel → k7 ≡ region fred_page (code_end - fred_page) Kernel
    → k8 ≡ region (body_code 0) (0x20000 * n) Kernel → fixed ≡ front ++ k1 ∷ k2 ∷ k3 ∷ k4 ∷ k5 ∷ k6 ∷ k7 ∷ k8 ∷ [] → all ≡ fixed ++ user_regions
    → all ≡ regions image
regions_are image p n k1 k2 k3 k4 k5 k6 k7 k8 stacks front fixed all ep en es ef e1 e2 e3 e4 e5 e6 e7 e8 eg ea =
    let s : stacks ≡ flat_map stack_regions (numbers_from 0 image.processors) = es ∙ ap (λ (x : ℕ). flat_map stack_regions (numbers_from 0 x)) ep in
    let f : front ≡ flat_map stack_regions (numbers_from 0 image.processors) ++ areas image.processors = ef ∙ (λ i. s i ++ areas (ep i)) in
    let t6 : k6 ≡ region (task_words 0 0) (0x100 * image.processors) Kernel = e6 ∙ ap (λ (x : ℕ). region (task_words 0 0) (0x100 * x) Kernel) ep in
    let t8 : k8 ≡ region (body_code 0) (0x20000 * length image.bodies) Kernel = e8 ∙ ap (λ (x : ℕ). region (body_code 0) (0x20000 * x) Kernel) en in
    ea ∙ ap (λ (x : List Region). x ++ user_regions) (eg ∙ (λ i. f i ++ e1 i ∷ e2 i ∷ e3 i ∷ e4 i ∷ e5 i ∷ t6 i ∷ e7 i ∷ t8 i ∷ []))
    ∙ append_assoc (flat_map stack_regions (numbers_from 0 image.processors) ++ areas image.processors) _ user_regions
