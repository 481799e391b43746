use Rattle.std.proofs.Common.{◌∙◌, List, ℕ, ap, sym}
use Rattle.ev_isa.specs.declared.mode.Mode.{Mode}
use Rattle.ev_concrete.specs.Opening.{below_top, saved_words}
use Rattle.ev_layout.proofs.saved.saved_word.Goals as goal

pub returns-in-Idt : goal.returns-in-Idt
returns-in-Idt c = c.below_top.ensures ∙ ap (λ (ws : List ℕ). below_top ws c.args.offset)
    (c.idt_words.ensures ∙ ap (λ (m : Mode). saved_words m c.args.task.now) (sym c.in-Idt.is))

pub returns-in-Fred : goal.returns-in-Fred
returns-in-Fred c = c.below_top-in-Fred.ensures ∙ ap (λ (ws : List ℕ). below_top ws c.args.offset)
    (c.fred_words.ensures ∙ ap (λ (m : Mode). saved_words m c.args.task.now) (sym c.in-Fred.is))
