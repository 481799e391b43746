-- Laws of runs: scripts after each other, and what a step of one processor leaves of the others. Own.
use Rattle.std.specs.Prelude.{◌≡◌, ◌≢◌, ℕ, Bool, true, false, not, ◌==◌, List, [], ◌∷◌, ◌++◌}
use Rattle.std.specs.List.{list_all}
use Rattle.ev_isa.specs.Word.{no_numbers}
use Rattle.ev_body.specs.declared.item.Item.{Item}
use Rattle.ev_body.specs.declared.image.Image.{Image}
use Rattle.ev_abstract.specs.Context.{BodyContext}
use Rattle.ev_abstract.specs.Machine.{Processor, Machine, processor, no_call}
use Rattle.ev_abstract.specs.ItemMeaning.{item_step}
use Rattle.ev_abstract.specs.declared.script_line.Line.{Line}
use Rattle.ev_abstract.specs.declared.script_line.Line.TheVariants.{Turn, Edge, Arrive, Accept}
use Rattle.ev_abstract.specs.Run.{turn, after, entries_from, run, trace, entries_of}

-- the run of two scripts is that of the second from where the first ended
abbrev pub RunOfTwoScripts : Type 0
RunOfTwoScripts = (image : Image) (s t : List Line) → run image (s ++ t) ≡ after image (run image s) t

-- its trace is the one after the other
abbrev pub TraceOfTwoScripts : Type 0
TraceOfTwoScripts = (image : Image) (s t : List Line) → trace image (s ++ t) ≡ trace image s ++ entries_from image (run image s) t

-- one more line adds its entries
abbrev pub TraceOfOneMoreLine : Type 0
TraceOfOneMoreLine = (image : Image) (s : List Line) (l : Line) → trace image (s ++ l ∷ []) ≡ trace image s ++ entries_of image s l

-- a processor without what others write: its mail, its queue of calls and its call records
abbrev pub private_part : Processor → Processor
private_part x = record x { mail = no_numbers; mail_nmi = false; queue = []; records = λ k. no_call }

-- An item of p leaves every other processor but for mail, queue and records: its tasks, bodies, pending vectors, NMI latch, slots and mark.
abbrev pub ItemLeavesOthers : Type 0
ItemLeavesOthers = (image : Image) (m : Machine) (p q : ℕ) (c : BodyContext) (item : Item) → q ≢ p
    → private_part (processor (item_step image m p c item).0 q) ≡ private_part (processor m q)

-- so does every step of p
abbrev pub StepLeavesOthers : Type 0
StepLeavesOthers = (image : Image) (m : Machine) (p q : ℕ) → q ≢ p → private_part (processor (turn image m p).0 q) ≡ private_part (processor m q)

-- the line is one of another processor than q
abbrev pub is_of_another : ℕ → Line → Bool
is_of_another q (Turn p) = not (q == p)
is_of_another q (Edge p n) = not (q == p)
is_of_another q (Arrive p key) = not (q == p)
is_of_another q (Accept p) = not (q == p)

-- and so do scripts of the other processors
abbrev pub ScriptLeavesOthers : Type 0
ScriptLeavesOthers = (image : Image) (m : Machine) (q : ℕ) (script : List Line) → list_all (is_of_another q) script ≡ true
    → private_part (processor (after image m script) q) ≡ private_part (processor m q)
