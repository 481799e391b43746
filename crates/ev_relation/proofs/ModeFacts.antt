-- What depends on the mode alone.
use Rattle.std.proofs.Common.{◌≡◌, Bool, true, false, refl}
use Rattle.ev_isa.specs.Word.{bit}
use Rattle.ev_isa.specs.declared.mode.Mode.{Mode}
use Rattle.ev_isa.specs.declared.mode.Mode.TheVariants.{Idt, Fred}
use Rattle.ev_concrete.specs.Opening.{control}

-- whether FRED transitions are on
abbrev pub is_fred : Mode → Bool
is_fred Fred = true
is_fred Idt = false

pub controls : (mode : Mode) → bit 32 (control mode) ≡ is_fred mode
controls Fred = refl
controls Idt = refl
