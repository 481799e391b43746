use Rattle.std.proofs.Common.{◌≡◌, ◌++◌, ◌∙◌, ap, sym}
use Rattle.std.specs.Option.{option_or, option_map}
use Rattle.ev_stub.specs.Position.{position_in}
use Rattle.ev_stub_idt.specs.Position.{stub_blocks, entry_blocks, place_of}
use Rattle.ev_stub_idt.proofs.Positions.{position_append}
use Rattle.ev_stub_idt.proofs.position.idt_place_at.Goals as goal

pub returns-in-Some : goal.returns-in-Some
returns-in-Some c =
    let rip = c.args.rip in
    let all : c.or_in_entries.result ≡ position_in rip (stub_blocks ++ entry_blocks) =
    c.or_in_entries.ensures ∙ ap (λ x. option_or x (position_in rip entry_blocks)) c.in_stubs.ensures ∙ position_append rip stub_blocks entry_blocks in
    ap (option_map place_of) (sym c.in-Some.is ∙ all)

pub returns-in-None : goal.returns-in-None
returns-in-None c =
    let rip = c.args.rip in
    let all : c.or_in_entries.result ≡ position_in rip (stub_blocks ++ entry_blocks) =
    c.or_in_entries.ensures ∙ ap (λ x. option_or x (position_in rip entry_blocks)) c.in_stubs.ensures ∙ position_append rip stub_blocks entry_blocks in
    ap (option_map place_of) (sym c.in-None.is ∙ all)
