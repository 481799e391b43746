-- What is answered to a text, step by step.
use Rattle.std.proofs.Common.{◌≡◌, ℕ, ◌++◌, List, Ok, ap, sym, ◌∙◌}
use Rattle.std.specs.Prelude.{flat_map}
use Rattle.ev_io.specs.Tokens.{tokens_of}
use Rattle.ev_line.specs.Operands.{then_make}
use Rattle.ev_probe.specs.declared.line.ProbeLine.{ProbeLine}
use Rattle.ev_probe.specs.ProbeLine.{probe_line}
use Rattle.ev_probe.specs.Told.{Told}
use Rattle.ev_probe.specs.Answer.{Refuses, answer_to, probe_text, told_of}
use Rattle.ev_probe.specs.declared.probing.ProbeFault.{ProbeFault}
use Rattle.ev_probe.specs.Probe.{end_text, frame_text, report_text, try_text}

pub answers : (text : List ℕ) (l : ProbeLine) (t : Told) → probe_line (tokens_of text) ≡ Ok l → t ≡ told_of l → answer_to text ≡ Ok t
unfolding answer_to
answers text l t h e = ap (then_make told_of) h ∙ ap (λ (x : Told). Ok x) (sym e)

pub refuses : (text : List ℕ) (f : ProbeFault) → Refuses (probe_line (tokens_of text)) f → Refuses (answer_to text) f
unfolding answer_to
refuses text (ProbeFault.BadLine cause) h = ap (then_make told_of) h
refuses text ProbeFault.NoMemory h = tt

-- the text of what is answered
pub prints : (text bytes : List ℕ) (t : Told) → bytes ≡ report_text t → answer_to text ≡ Ok t → probe_text text ≡ Ok bytes
unfolding probe_text
prints text bytes t e h = ap (then_make report_text) h ∙ ap (λ (x : List ℕ). Ok x) (sym e)

-- the text of a report, part by part
pub report_is : (t : Told) (a b out : List ℕ) → a ≡ flat_map try_text t.tries → b ≡ a ++ frame_text t.frame → out ≡ b ++ end_text t.end → out ≡ report_text t
report_is t a b out tries frame end =
    end ∙ ap (λ (x : List ℕ). x ++ end_text t.end) (frame ∙ ap (λ (x : List ℕ). x ++ frame_text t.frame) tries)
