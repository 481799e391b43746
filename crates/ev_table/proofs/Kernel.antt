-- The kernel's own cells in each mode: closed tests of the listings.
use Rattle.std.proofs.Common.{◌≡◌, true, refl}
use Rattle.ev_isa.specs.Spelling.{spelling, four_bytes}
use Rattle.ev_isa.specs.declared.mode.Mode.{Mode}
use Rattle.ev_isa.specs.declared.mode.Mode.TheVariants.{Idt, Fred}
use Rattle.ev_body.specs.declared.key.Key.{Key}
use Rattle.ev_body.specs.declared.key.Key.TheVariants.{Nmi}
use Rattle.ev_asm.specs.Assembly.{size, place, places}
use Rattle.ev_listing.specs.Expansion.{exit_of}
use Rattle.ev_listing.specs.IdtCode.{idt_listings}
use Rattle.ev_listing.specs.FredCode.{fred_listings}
use Rattle.ev_listing.specs.Marks.{all_places}
use Rattle.ev_concrete.specs.Opening.{kernel_listings}
use Rattle.ev_symbolic.specs.Listed.{Cells, cells_in}
use Rattle.ev_table.specs.Table.{exit_address}
use Rattle.ev_table.proofs.Labels.{all_inner}
use Rattle.ev_table.proofs.Marked.{all_unmarked, all_plain}

unfoldable pub kernel_cells : Mode → Cells
kernel_cells mode = cells_in (all_places (kernel_listings mode)) (kernel_listings mode)

pub kernel_inner : (mode : Mode) → all_inner (kernel_listings mode) ≡ true
unfolding idt_listings fred_listings
kernel_inner Idt = refl
kernel_inner Fred = refl

pub kernel_unmarked : (mode : Mode) → all_unmarked (kernel_listings mode) ≡ true
unfolding idt_listings fred_listings
kernel_unmarked Idt = refl
kernel_unmarked Fred = refl

pub kernel_plain : (mode : Mode) → all_plain (kernel_listings mode) ≡ true
unfolding idt_listings fred_listings
kernel_plain Idt = refl
kernel_plain Fred = refl

pub exit_is : (mode : Mode) (key : Key) → place (all_places (kernel_listings mode)) (exit_of mode key) ≡ exit_address mode key
unfolding idt_listings fred_listings spelling four_bytes size places
exit_is Idt Nmi = refl
exit_is Idt _ = refl
exit_is Fred Nmi = refl
exit_is Fred _ = refl
