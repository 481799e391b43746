-- Single cells of the kernel's code, each looked up by computation.
use Rattle.std.proofs.Common.{◌≡◌, ℕ, Bool, true, false, [], ◌∷◌, Some, refl, sym, ap, ◌∙◌}
use Rattle.std.specs.Prelude.{◌==◌, if◌then◌else◌, ◌+◌}
use Rattle.std.proofs.lemmas.Bool.{eqb-true}
use Rattle.ev_isa.specs.Spelling.{spelling, four_bytes}
use Rattle.ev_isa.specs.declared.mode.Mode.TheVariants.{Idt}
use Rattle.ev_asm.specs.Assembly.{size, places, distance}
use Rattle.ev_listing.specs.AddressMap.{nbody_entry}
use Rattle.ev_listing.specs.FredCode.{fred_listings}
use Rattle.ev_listing.specs.IdtCode.{idt_listings}
use Rattle.ev_listing.specs.Marks.{Listing, all_places}
use Rattle.ev_symbolic.specs.Agrees.{Code, Cell}
use Rattle.ev_symbolic.specs.Listed.{Cells, cells_from, cells_in, cell_at, AllFound, IsIn}
use Rattle.ev_symbolic.proofs.Parts.{one_found}
use Rattle.ev_blocks.specs.Idt.{common_listing, exit_listing, nmi_listing, repeat_listing, nbody_listing, nlast_listing, idt_places}
use Rattle.ev_paths.specs.Cells.{FredCellsStand, IdtCellsStand}
use Rattle.ev_paths.specs.Lines.{HasKernel}
use Rattle.ev_paths.specs.NmiEnds.{repeat_jump}
use Rattle.ev_paths.proofs.Lines.{in_places, common_in, exit_in, nmi_in, repeat_in, nbody_in, exitn_in}

-- a cell that is looked up among those that the code has
looked_up : (code : Code) (xs : Cells) (a : ℕ) (x : Cell) → AllFound code xs → cell_at xs a ≡ Some x → code a ≡ Some x
looked_up code [] a x f h = absurd (cc)
looked_up code (y ∷ ys) a x f h = pick (y.0 == a) refl h (looked_up code ys a x f.1)
  where
    pick : (b : Bool) → (y.0 == a) ≡ b → (if b then Some y.1 else cell_at ys a) ≡ Some x → (cell_at ys a ≡ Some x → code a ≡ Some x) → code a ≡ Some x
    pick true q r k = ap code (sym (eqb-true y.0 a q)) ∙ f.0 ∙ r
    pick false q r k = k r

-- ---- FRED

pub fred_cells : FredCellsStand
unfolding fred_listings spelling four_bytes size places distance
fred_cells code f =
    let xs = cells_in (all_places fred_listings) fred_listings in
    record {
      table = record { load = looked_up code xs _ _ f refl; jump = looked_up code xs _ _ f refl };
      eretu = looked_up code xs _ _ f refl;
      erets = looked_up code xs _ _ f refl;
    }

-- ---- IDT, by sections

section : (code : Code) → HasKernel Idt code → (b : Listing) → IsIn b idt_listings → (a : ℕ) (x : Cell)
    → cell_at (cells_from idt_places b.address b.lines) a ≡ Some x → code a ≡ Some x
section code f b h a x q =
    looked_up code (cells_from idt_places b.address b.lines) a x (one_found code idt_places b idt_listings h (in_places code f)) q

pub idt_cells : IdtCellsStand
unfolding idt_places spelling four_bytes size places distance
idt_cells code f = record {
  table = record {
    load = section code f common_listing common_in.0 _ _ refl;
    jump = section code f common_listing common_in.0 _ _ refl;
  };
  nmi_table = record { load = section code f nbody_listing nbody_in.0 _ _ refl; jump = section code f nbody_listing nbody_in.0 _ _ refl };
  sysretq = section code f exit_listing exit_in.0 _ _ refl;
  iretq = section code f exit_listing exit_in.0 _ _ refl;
  inner = section code f nmi_listing nmi_in.0 _ _ refl;
  last = section code f nlast_listing exitn_in.1.0 _ _ refl;
  repeats = record {
    distance = distance nbody_entry (repeat_jump + 5);
    is = section code f repeat_listing repeat_in.0 _ _ refl;
    leads = refl;
  };
}
