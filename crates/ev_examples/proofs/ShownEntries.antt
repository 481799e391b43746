-- What the concrete machine's visible steps show, told from it alone, is what the abstract machine's turns add to its trace: on a made script, and on examples
-- with calls, with a call at a busy site, with INT n and with a held NMI.
use Rattle.std.specs.Prelude.{◌≡◌, refl, ℕ, List, [], ◌∷◌, ◌++◌, Bool, true, ◌&&◌}
use Rattle.ev_isa.specs.declared.mode.Mode.{Mode}
use Rattle.ev_isa.specs.declared.mode.Mode.TheVariants.{Fred, Idt}
use Rattle.ev_body.specs.KernelImage.{KernelImage}
use Rattle.ev_abstract.specs.EntryText.{trace_text}
use Rattle.ev_abstract.specs.Generator.{made_lines, made_script}
use Rattle.ev_abstract.specs.Machine.{Machine, opening}
use Rattle.ev_abstract.specs.Run.{line_step}
use Rattle.ev_abstract.specs.declared.entry.Entry.{Entry}
use Rattle.ev_abstract.specs.declared.script_line.Line.{Line}
use Rattle.ev_abstract.specs.declared.script_line.Line.TheVariants.{Accept, Turn}
use Rattle.ev_concrete.specs.ConcreteRun.{Marks, System, concrete_line, marks_of, opening_system, settled}
use Rattle.ev_concrete.specs.Shown.{key_of, shown, shown_always}
use Rattle.ev_examples.proofs.AgreementOfMachines.{same_numbers, varied}
use Rattle.ev_examples.proofs.BusySite.{calling_twice}
use Rattle.ev_examples.proofs.ComputesConcrete.{stepping}
use Rattle.ev_examples.proofs.CrossingCalls.{call_handler, calling, crossing, crossing_script}
use Rattle.ev_examples.proofs.Documents.{turns}
use Rattle.ev_examples.proofs.MergedNmis.{breakpoint_in_nmi, merging}
use Rattle.ev_examples.proofs.SoftwareInterrupts.{interrupt_skipped}

-- what a line shows on the concrete machine: the last step of a turn
unfoldable pub shown_of : Marks → ℕ → System → Line → List Entry
shown_of marks n s (Turn p) = shown marks (settled marks n s p).0 p
shown_of marks n s _ = []

unfoldable pub shows_lines : Marks → KernelImage → Machine → System → List Line → Bool
unfolding same_numbers shown_of
shows_lines marks image m s [] = true
shows_lines marks image m s (l ∷ ls) =
    same_numbers (trace_text [] (shown_of marks image.processors s l)) (trace_text [] (line_step image m l).1)
    && shows_lines marks image (line_step image m l).0 (concrete_line marks image.processors s l).0 ls

unfoldable pub shows : Mode → KernelImage → List Line → Bool
unfolding shows_lines
shows mode image script = shows_lines (marks_of mode image) image (opening image) (opening_system mode image) script

unfoldable pub showing : Unit {0}
unfolding stepping same_numbers key_of shown shown_always shown_of shows_lines shows varied made_lines
showing = tt

idt_shows : shows Idt varied (made_script varied 1 60) ≡ true
unfolding showing
idt_shows = refl

fred_shows : shows Fred varied (made_script varied 1 60) ≡ true
unfolding showing
fred_shows = refl

-- calls that cross: call, log, ran, done
idt_crossing : shows Idt crossing crossing_script ≡ true
unfolding showing call_handler calling crossing crossing_script
idt_crossing = refl

fred_crossing : shows Fred crossing crossing_script ≡ true
unfolding showing call_handler calling crossing crossing_script
fred_crossing = refl

-- a second call at a site whose first isn't done
idt_busy : shows Idt calling_twice (turns 0 6 ++ Accept 1 ∷ turns 1 6) ≡ true
unfolding showing call_handler calling calling_twice
idt_busy = refl

-- INT n, which FRED delivers as itself
fred_interrupt : shows Fred (interrupt_skipped 0x40) (turns 0 4) ≡ true
unfolding showing interrupt_skipped
fred_interrupt = refl

-- a held NMI, which the last jump of REPEAT delivers
held_shows : shows Idt breakpoint_in_nmi merging ≡ true
unfolding showing breakpoint_in_nmi merging
held_shows = refl
