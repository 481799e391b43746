-- The laws of calls in the runs of accepted images. Own.
use Rattle.std.specs.Prelude.{◌≡◌, ℕ, ◌≤◌, true, List, [], ◌∷◌, ◌++◌, length, Some, slice_get}
use Rattle.ev_body.specs.declared.item.Item.TheVariants.{Finish}
use Rattle.ev_body.specs.declared.body.Body.{Body}
use Rattle.ev_body.specs.declared.image.Image.{Image}
use Rattle.ev_body.specs.Bodies.{body_items}
use Rattle.ev_body.specs.WellFormed.{IsImage}
use Rattle.ev_abstract.specs.Context.{CallId, BodyContext}
use Rattle.ev_abstract.specs.Machine.{Taken, Machine, processor, opening}
use Rattle.ev_abstract.specs.CrossCall.{record_of}
use Rattle.ev_abstract.specs.Accepted.{IsAccepted}
use Rattle.ev_abstract.specs.Script.{is_line, IsScript}
use Rattle.ev_abstract.specs.declared.entry.Entry.{Entry}
use Rattle.ev_abstract.specs.declared.script_line.Line.{Line}
use Rattle.ev_abstract.specs.Run.{line_step, run, trace}
use Rattle.ev_law.specs.Legal.{Legal}
use Rattle.ev_call_law.specs.Calls.{HasEntry, RunsItsCall, KeepsCallRecords}

-- ---- the invariant

-- it holds at the opening, and every line of a script keeps it, with the entries that the line adds
abbrev pub OpeningKeepsCalls : Type 0
OpeningKeepsCalls = (image : Image) → KeepsCallRecords image (opening image) []

abbrev pub LinesKeepCalls : Type 0
LinesKeepCalls = (image : Image) (m : Machine) (entries : List Entry) (l : Line) → IsImage image
    → IsAccepted image → is_line image l ≡ true → Legal image m → KeepsCallRecords image m entries
    → KeepsCallRecords image (line_step image m l).0 (entries ++ (line_step image m l).1)

-- so it holds after every script, with the trace
abbrev pub RunsKeepCalls : Type 0
RunsKeepCalls = (image : Image) (script : List Line) → IsImage image → IsAccepted image
    → IsScript image script → KeepsCallRecords image (run image script) (trace image script)

-- ---- what follows of each call

-- a call runs on the processor for which it was queued before
abbrev pub RunsOnItsTarget : List Entry → Type 0
RunsOnItsTarget entries = (before rest : List Entry) (p from site number : ℕ)
    → entries ≡ before ++ Entry.Ran p from site number ∷ rest
    → (func arg : ℕ) × HasEntry (record { from = from; site = site }) number p func arg before

-- in the trace of every script
abbrev pub CallsRunOnTheirTargets : Type 0
CallsRunOnTheirTargets = (image : Image) (script : List Line) → IsImage image → IsAccepted image
    → IsScript image script → RunsOnItsTarget (trace image script)

-- ---- what follows of numbers

-- a line adds at most one entry, so that a trace is no longer than its script
abbrev pub TracesAreShort : Type 0
TracesAreShort = (image : Image) (script : List Line) → IsImage image → IsAccepted image
    → IsScript image script → length (trace image script) ≤ length script

-- and no site's number exceeds the number of lines
abbrev pub NumbersAreBounded : Type 0
NumbersAreBounded = (image : Image) (script : List Line) (k : CallId) → IsImage image
    → IsAccepted image → IsScript image script
    → (record_of (run image script) k).number ≤ length script

-- ---- what follows of each context

-- each context on a processor stands in the function of its first call, and in none without a call
abbrev pub ContextsRunTheirCalls : Type 0
ContextsRunTheirCalls = (image : Image) (script : List Line) (p : ℕ) (c : BodyContext)
    (above below : List BodyContext) → IsImage image → IsAccepted image → IsScript image script
    → (processor (run image script) p).bodies ≡ above ++ c ∷ below
    → RunsItsCall image (run image script) c

-- the context has a first call, which this processor has taken
pub record HasACall (m : Machine) (p : ℕ) (c : BodyContext) : Type 0 where
  pub call : CallId
  pub rest : List CallId
  pub calls : c.calls ≡ call ∷ rest
  pub taken : (record_of m call).state ≡ Taken
  pub to : (record_of m call).to ≡ p

-- so `finish` always has a call to finish
abbrev pub FinishesHaveCalls : Type 0
FinishesHaveCalls = (image : Image) (script : List Line) (p : ℕ) (c : BodyContext) (b : Body)
    (above below : List BodyContext) → IsImage image → IsAccepted image → IsScript image script
    → (processor (run image script) p).bodies ≡ above ++ c ∷ below
    → slice_get image.bodies c.body ≡ Some b → slice_get (body_items b) c.place ≡ Some Finish
    → HasACall (run image script) p c
