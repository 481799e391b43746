use Rattle.std.proofs.Common.{◌∙◌, ◌^◌, ◌<◌, ◌++◌, ◌∷◌, ap, sym, arith, append_assoc}
use Rattle.std.specs.Prelude.{codes, decimal}
use Rattle.ev_abstract.specs.Script.{is_line}
use Rattle.ev_abstract.specs.EntryText.{key_text}
use Rattle.ev_script.specs.LineText.{line_words, line_text}
use Rattle.ev_script.specs.ScriptLine.{line_of}
use Rattle.ev_script.proofs.TextLaws.{turn_reads, accept_reads, edge_reads, arrive_reads}
use Rattle.ev_script.proofs.text.print_line.Goals as goal

pub returns-in-Turn-clause-text : goal.returns-in-Turn-clause-text
unfolding line_words
returns-in-Turn-clause-text c = rw c.in-Turn.is c.word_and_processor.ensures.bytes

pub returns-in-Turn-clause-back : goal.returns-in-Turn-clause-back
unfolding line_words
returns-in-Turn-clause-back c = λ image k.
    let small : c.in-Turn.p < 2 ^ 64 = omega arith in
    rw c.in-Turn.is (ap (λ t. line_of t image) c.word_and_processor.ensures.bytes ∙ turn_reads image c.in-Turn.p small
    (sym (ap (is_line image) c.in-Turn.is) ∙ k))

pub returns-in-Accept-clause-text : goal.returns-in-Accept-clause-text
unfolding line_words
returns-in-Accept-clause-text c = rw c.in-Accept.is c.word_and_processor-in-Accept.ensures.bytes

pub returns-in-Accept-clause-back : goal.returns-in-Accept-clause-back
unfolding line_words
returns-in-Accept-clause-back c = λ image k.
    let small : c.in-Accept.p < 2 ^ 64 = omega arith in
    rw c.in-Accept.is (ap (λ t. line_of t image) c.word_and_processor-in-Accept.ensures.bytes ∙ accept_reads image c.in-Accept.p small
    (sym (ap (is_line image) c.in-Accept.is) ∙ k))

pub returns-in-Edge-clause-text : goal.returns-in-Edge-clause-text
unfolding line_words
returns-in-Edge-clause-text c =
    rw c.in-Edge.is (c.push_decimal.ensures.bytes ∙ ap (λ t. t ++ 32 ∷ decimal c.from.result) c.word_and_processor-in-Edge.ensures.bytes
    ∙ append_assoc (codes "edge") (32 ∷ decimal c.in-Edge.p) (32 ∷ decimal c.from.result)
    ∙ ap (λ n. codes "edge" ++ (32 ∷ decimal c.in-Edge.p ++ 32 ∷ decimal n)) c.from.ensures)

pub returns-in-Edge-clause-back : goal.returns-in-Edge-clause-back
unfolding line_words
returns-in-Edge-clause-back c = λ image k.
    let small : c.in-Edge.p < 2 ^ 64 = omega arith in
    let few : c.in-Edge.n < 2 ^ 64 = omega arith in
    let text = returns-in-Edge-clause-text c in
    rw c.in-Edge.is (ap (λ t. line_of t image) text ∙ ap (λ l. line_of (line_text l) image) c.in-Edge.is
    ∙ edge_reads image c.in-Edge.p c.in-Edge.n small few (sym (ap (is_line image) c.in-Edge.is) ∙ k))

pub returns-in-Arrive-clause-text : goal.returns-in-Arrive-clause-text
unfolding line_words
returns-in-Arrive-clause-text c =
    rw c.in-Arrive.is (c.push_key.ensures.bytes ∙ ap (λ t. t ++ 32 ∷ key_text c.in-Arrive.key) c.word_and_processor-in-Arrive.ensures.bytes
    ∙ append_assoc (codes "arrive") (32 ∷ decimal c.in-Arrive.p) (32 ∷ key_text c.in-Arrive.key))

pub returns-in-Arrive-clause-back : goal.returns-in-Arrive-clause-back
unfolding line_words
returns-in-Arrive-clause-back c = λ image k.
    let small : c.in-Arrive.p < 2 ^ 64 = omega arith in
    let text = returns-in-Arrive-clause-text c in
    rw c.in-Arrive.is (ap (λ t. line_of t image) text ∙ ap (λ l. line_of (line_text l) image) c.in-Arrive.is
    ∙ arrive_reads image c.in-Arrive.p c.in-Arrive.key small (sym (ap (is_line image) c.in-Arrive.is) ∙ k))
