use Rattle.std.proofs.Common.{◌++◌, [], ◌∷◌, ◌∙◌, pos, ap, sym}
use Rattle.ev_isa.specs.declared.instruction.Ins.TheVariants.{Load, Store}
use Rattle.ev_listing.specs.Expansion.{user_word, expansion}
use Rattle.ev_listing.specs.Statements.{seen}
use Rattle.ev_stub.specs.declared.names.Registers.{Registers}
use Rattle.ev_abstract.specs.Rules.{breaks_slots}
use Rattle.ev_items.specs.Lines.{lines_of}
use Rattle.ev_items.proofs.Slots.{call_small}
use Rattle.ev_items.proofs.expand.expansion.Goals as goal

pub returns-in-Uget : goal.returns-in-Uget
unfolding expansion
returns-in-Uget c = λ mode b key f n h.
    ap (lines_of mode b key n) c.held-in-Uget.ensures ∙ c.user_word.ensures mode b key n
    ∙ ap (λ (r : Registers). user_word c.in-Uget.s ++ seen (Load c.in-Uget.d r.rax (pos 0)) ∷ []) c.by_name-r.ensures
    ∙ ap (expansion mode b key f n) (sym c.in-Uget.is)

pub returns-in-Uput : goal.returns-in-Uput
unfolding expansion
returns-in-Uput c = λ mode b key f n h.
    ap (lines_of mode b key n) c.held-in-Uput.ensures ∙ c.user_word-in-Uput.ensures mode b key n
    ∙ ap (λ (r : Registers). user_word c.in-Uput.s ++ seen (Store r.rax (pos 0) c.in-Uput.t) ∷ []) c.by_name-r.ensures
    ∙ ap (expansion mode b key f n) (sym c.in-Uput.is)

pub returns-in-Map : goal.returns-in-Map
unfolding expansion
returns-in-Map c = λ mode b key f n h. ap (lines_of mode b key n) c.held-in-Map.ensures ∙ c.page_word.ensures mode b key n
    ∙ ap (expansion mode b key f n) (sym c.in-Map.is)

pub returns-in-Unmap : goal.returns-in-Unmap
unfolding expansion
returns-in-Unmap c = λ mode b key f n h. ap (lines_of mode b key n) c.held-in-Unmap.ensures ∙ c.page_word-in-Unmap.ensures mode b key n
    ∙ ap (expansion mode b key f n) (sym c.in-Unmap.is)

pub returns-in-Call : goal.returns-in-Call
returns-in-Call c = λ mode b key f n h.
    let small = call_small c.in-Call.site c.in-Call.to c.in-Call.func c.in-Call.s (ap (breaks_slots 8) (sym c.in-Call.is) ∙ c.requires.slots) in
    ap (lines_of mode b key n) c.held-in-Call.ensures ∙ c.call_lines.ensures mode b key f n (sym (h c.in-Call.func small))
    ∙ ap (expansion mode b key f n) (sym c.in-Call.is)

pub returns-in-Kick : goal.returns-in-Kick
returns-in-Kick c = λ mode b key f n h. ap (lines_of mode b key n) c.held-in-Kick.ensures ∙ c.kick_lines.ensures mode b key f n
    ∙ ap (expansion mode b key f n) (sym c.in-Kick.is)

pub returns-in-Wait : goal.returns-in-Wait
returns-in-Wait c = λ mode b key f n h. ap (lines_of mode b key n) c.held-in-Wait.ensures ∙ c.wait_lines.ensures mode b key f n
    ∙ ap (expansion mode b key f n) (sym c.in-Wait.is)

pub returns-in-Take : goal.returns-in-Take
returns-in-Take c = λ mode b key f n h. ap (lines_of mode b key n) c.held-in-Take.ensures ∙ c.take_lines.ensures mode b key f n
    ∙ ap (expansion mode b key f n) (sym c.in-Take.is)

pub returns-in-Finish : goal.returns-in-Finish
returns-in-Finish c = λ mode b key f n h. ap (lines_of mode b key n) c.held-in-Finish.ensures ∙ c.finish_lines.ensures mode b key f n
    ∙ ap (expansion mode b key f n) (sym c.in-Finish.is)
