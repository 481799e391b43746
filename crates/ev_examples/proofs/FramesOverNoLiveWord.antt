-- No delivery of these runs writes a frame over a live word.
use Rattle.std.specs.Prelude.{◌≡◌, refl, ℕ, zero, suc, List, [], ◌∷◌, Bool, true, false, ◌||◌}
use Rattle.std.specs.List.{list_any}
use Rattle.ev_isa.specs.declared.mode.Mode.{Mode}
use Rattle.ev_isa.specs.declared.mode.Mode.TheVariants.{Fred, Idt}
use Rattle.ev_event.specs.declared.frame_note.FrameNote.{FrameNote}
use Rattle.ev_body.specs.KernelImage.{KernelImage}
use Rattle.ev_abstract.specs.declared.script_line.Line.{Line}
use Rattle.ev_abstract.specs.declared.script_line.Line.TheVariants.{Edge, Turn}
use Rattle.ev_listing.specs.Marks.{marks}
use Rattle.ev_concrete.specs.ConcreteRun.{Marks, System, concrete_line, concrete_step, is_visible, marks_of, opening_system, settled_run}
use Rattle.ev_concrete.specs.LiveWords.{is_live, overwrites}
use Rattle.ev_examples.proofs.ComputesConcrete.{stepping}
use Rattle.ev_examples.proofs.Documents.{turns}
use Rattle.ev_examples.proofs.MergedNmis.{breakpoint_in_nmi, merging}
use Rattle.ev_examples.proofs.PageFaultInABody.{write_in_body}

-- whether a step of p from s writes over a live word, and the state after it
unfoldable pub watched_step : Mode → KernelImage → System → ℕ → Bool × System
watched_step mode image s p = let r : System × List FrameNote = concrete_step image.processors s p in (list_any (overwrites mode image s) r.1, r.0)

unfoldable pub and_then : Bool → Bool × System → Bool × System
and_then bad r = (bad || r.0, r.1)

unfoldable pub watched_edges : ℕ → Marks → Mode → KernelImage → System → ℕ → Bool × System
unfolding watched_step and_then
watched_edges zero marks mode image s p = (false, s)
watched_edges (suc k) marks mode image s p = elim (is_visible marks s p) [
  | true ↦ (false, s)
  | false ↦ let r : Bool × System = watched_step mode image s p in and_then r.0 (watched_edges k marks mode image r.1 p)
]

unfoldable pub watched_turn : Marks → Mode → KernelImage → Bool × System → ℕ → Bool × System
watched_turn marks mode image r p = and_then r.0 (watched_step mode image r.1 p)

unfoldable pub watched_line : Marks → Mode → KernelImage → System → Line → Bool × System
watched_line marks mode image s (Turn p) = watched_turn marks mode image (watched_edges 1024 marks mode image s p) p
watched_line marks mode image s (Edge p k) = watched_edges k marks mode image s p
watched_line marks mode image s l = (false, (concrete_line marks image.processors s l).0)

unfoldable pub watched : Marks → Mode → KernelImage → Bool × System → List Line → Bool × System
watched marks mode image r [] = r
watched marks mode image r (l ∷ ls) = watched marks mode image (and_then r.0 (watched_line marks mode image r.1 l)) ls

-- whether some step of the script writes a frame over a live word
unfoldable pub is_unsafe : Mode → KernelImage → List Line → Bool
is_unsafe mode image script = let marks : Marks = marks_of mode image in (watched marks mode image (false, opening_system mode image) script).0

unfoldable pub watching : Unit {0}
unfolding stepping is_live watched_step and_then watched_edges watched_turn watched_line watched is_unsafe
watching = tt

merging_idt : is_unsafe Idt breakpoint_in_nmi merging ≡ false
unfolding watching breakpoint_in_nmi merging
merging_idt = refl

merging_fred : is_unsafe Fred breakpoint_in_nmi merging ≡ false
unfolding watching breakpoint_in_nmi merging
merging_fred = refl

fault_fred : is_unsafe Fred write_in_body (turns 0 9) ≡ false
unfolding watching write_in_body
fault_fred = refl

fault_idt : is_unsafe Idt write_in_body (turns 0 9) ≡ false
unfolding watching write_in_body
fault_idt = refl

-- in the body of a system call the saved SS is live, and a word below RSP isn't; while the task runs, neither is
saved_live : is_live Idt write_in_body (settled_run Idt write_in_body (turns 0 1)).0 0xffffc90000003ff8 ≡ true
unfolding watching write_in_body
saved_live = refl

below_dead : is_live Idt write_in_body (settled_run Idt write_in_body (turns 0 1)).0 0xffffc90000003f48 ≡ false
unfolding watching write_in_body
below_dead = refl

user_dead : is_live Idt write_in_body (settled_run Idt write_in_body []).0 0xffffc90000003ff8 ≡ false
unfolding watching write_in_body
user_dead = refl
