-- User code stands at addresses of the kernel's code when an NMI comes: in both modes as many bodies stand as there are contexts.
use Rattle.std.specs.Prelude.{◌≡◌, refl, ℕ, ◌+◌, Bool, true, ◌&&◌, ◌==◌, List, [], ◌∷◌, ◌++◌, length}
use Rattle.std.specs.List.{list_all}
use Rattle.ev_isa.specs.declared.instruction.Ins.TheVariants.{JmpReg, MovImm}
use Rattle.ev_isa.specs.declared.mode.Mode.{Mode}
use Rattle.ev_isa.specs.declared.mode.Mode.TheVariants.{Fred, Idt}
use Rattle.ev_body.specs.KernelImage.{KernelImage}
use Rattle.ev_body.specs.declared.item.Item.{Item}
use Rattle.ev_body.specs.declared.key.Key.{Key}
use Rattle.ev_body.specs.declared.key.Side.TheVariants.{Both}
use Rattle.ev_abstract.specs.declared.script_line.Line.{Line}
use Rattle.ev_abstract.specs.declared.script_line.Line.TheVariants.{Arrive}
use Rattle.ev_abstract.specs.Run.{run}
use Rattle.ev_abstract.specs.Machine.{processor}
use Rattle.ev_listing.specs.AddressMap.{fred_page, sys_entry, exit_entry, nmi_entry, repeat_entry, nbody_entry, nlast_entry}
use Rattle.ev_concrete.specs.ConcreteRun.{concrete_run}
use Rattle.ev_concrete.specs.Depth.{bodies_on}
use Rattle.ev_examples.proofs.ComputesConcrete.{stepping}
use Rattle.ev_examples.proofs.Documents.{body, simple, turns}

-- a jump to an address, whose fetch has not faulted yet
unfoldable pub jumps_to : ℕ → KernelImage
jumps_to a = simple 2 (MovImm 0 a ∷ JmpReg 0 ∷ []) (body Key.Nmi Both (Item.Ret ∷ []) ∷ body Key.Pf Both (Item.Ret ∷ []) ∷ [])

-- the entry of system calls, the exit, the NMI code, REPEAT and what follows it, and FRED's page
unfoldable pub addresses : List ℕ
addresses = sys_entry ∷ (sys_entry + 3) ∷ (sys_entry + 12) ∷ exit_entry ∷ nmi_entry ∷ repeat_entry ∷ nbody_entry ∷ (nlast_entry + 12) ∷ fred_page ∷ []

-- the jump; an NMI at its target; the NMI's return; the page fault
unfoldable pub jumped : List Line
jumped = turns 0 2

unfoldable pub at_nmi : List Line
unfolding jumped
at_nmi = jumped ++ Arrive 0 Key.Nmi ∷ turns 0 1

unfoldable pub returned : List Line
unfolding at_nmi
returned = at_nmi ++ turns 0 1

unfoldable pub faulted : List Line
unfolding returned
faulted = returned ++ turns 0 1

unfoldable pub stand : Mode → List Line → ℕ → ℕ → Bool
stand mode script n a = (bodies_on (concrete_run mode (jumps_to a) script).0 0 == n) && (length (processor (run (jumps_to a) script) 0).bodies == n)

unfoldable pub tells : Mode → ℕ → Bool
unfolding jumped at_nmi returned faulted stand
tells mode a = stand mode jumped 0 a && stand mode at_nmi 1 a && stand mode returned 0 a && stand mode faulted 1 a

idt_tells : list_all (tells Idt) addresses ≡ true
unfolding stepping jumps_to addresses jumped at_nmi returned faulted stand tells
idt_tells = refl

fred_tells : list_all (tells Fred) addresses ≡ true
unfolding stepping jumps_to addresses jumped at_nmi returned faulted stand tells
fred_tells = refl
