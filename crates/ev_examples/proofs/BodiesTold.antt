-- How many bodies stand is told from the activations: also where a held NMI's body follows another one, and where an inner NMI stands on REPEAT.
use Rattle.std.specs.Prelude.{◌≡◌, refl, Bool, true, ◌&&◌, ◌==◌, List, [], ◌∷◌, ◌++◌, length, replicate}
use Rattle.ev_isa.specs.declared.mode.Mode.{Mode}
use Rattle.ev_isa.specs.declared.mode.Mode.TheVariants.{Fred, Idt}
use Rattle.ev_body.specs.KernelImage.{KernelImage}
use Rattle.ev_body.specs.declared.key.Key.{Key}
use Rattle.ev_abstract.specs.Machine.{Machine, opening, processor}
use Rattle.ev_abstract.specs.Run.{line_step}
use Rattle.ev_abstract.specs.declared.script_line.Line.{Line}
use Rattle.ev_abstract.specs.declared.script_line.Line.TheVariants.{Arrive, Edge}
use Rattle.ev_concrete.specs.ConcreteRun.{System, Marks, concrete_line, marks_of, opening_system}
use Rattle.ev_concrete.specs.Depth.{bodies_on}
use Rattle.ev_examples.proofs.ComputesConcrete.{stepping}
use Rattle.ev_examples.proofs.Documents.{turns}
use Rattle.ev_examples.proofs.MergedNmis.{breakpoint_in_nmi}

unfoldable pub agree : System → Machine → Bool
agree s m = bodies_on s 0 == length (processor m 0).bodies

-- before each line of a script, and behind the last one
unfoldable pub all_agree : Marks → KernelImage → System → Machine → List Line → Bool
unfolding agree
all_agree marks image s m [] = agree s m
all_agree marks image s m (l ∷ ls) = agree s m && all_agree marks image (concrete_line marks image.processors s l).0 (line_step image m l).0 ls

unfoldable pub tells : Mode → KernelImage → List Line → Bool
tells mode image script = all_agree (marks_of mode image) image (opening_system mode image) (opening image) script

-- an NMI whose body has a breakpoint; a further one is held, and begins behind the return of the first; one comes while REPEAT runs
unfoldable pub by_edges : List Line
by_edges = Arrive 0 Key.Nmi ∷ turns 0 3 ++ Arrive 0 Key.Nmi ∷ replicate 30 (Edge 0 1) ++ turns 0 1 ++ replicate 45 (Edge 0 1) ++ Arrive 0 Key.Nmi
    ∷ replicate 60 (Edge 0 1) ++ turns 0 3

idt_tells : tells Idt breakpoint_in_nmi by_edges ≡ true
unfolding stepping breakpoint_in_nmi by_edges agree all_agree tells
idt_tells = refl

fred_tells : tells Fred breakpoint_in_nmi by_edges ≡ true
unfolding stepping breakpoint_in_nmi by_edges agree all_agree tells
fred_tells = refl
