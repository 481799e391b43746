use Rattle.std.proofs.Common.{◌+◌, ◌∙◌, ap, sym}
use Rattle.std.specs.Option.{option_or}
use Rattle.ev_listing.specs.AddressMap.{fred_page}
use Rattle.ev_listing.specs.FredCode.{exits}
use Rattle.ev_stub.specs.Position.{index_from, is_countable}
use Rattle.ev_stub_fred.proofs.Positions.{entries_countable, exits_countable, in_both}
use Rattle.ev_stub_fred.proofs.position.in_handlers.Goals as goal

pub index_from-requires-clause-lines : goal.index_from-requires-clause-lines
index_from-requires-clause-lines c = ap (is_countable (fred_page + 0x200)) c.entries.ensures ∙ entries_countable

pub index_from-requires-in-None-clause-lines : goal.index_from-requires-in-None-clause-lines
index_from-requires-in-None-clause-lines c = ap (is_countable (fred_page + 0x379)) c.exits.ensures ∙ exits_countable

pub returns-in-Some : goal.returns-in-Some
returns-in-Some c =
    ap (λ x. option_or x (index_from 80 (fred_page + 0x379) c.args.rip exits))
    (sym c.in-Some.is ∙ c.index_from.ensures ∙ ap (index_from 0 (fred_page + 0x200) c.args.rip) c.entries.ensures) ∙ sym (in_both c.args.rip)

pub returns-in-None : goal.returns-in-None
returns-in-None c =
    c.index_from-in-None.ensures ∙ ap (index_from 80 (fred_page + 0x379) c.args.rip) c.exits.ensures
    ∙ ap (λ x. option_or x (index_from 80 (fred_page + 0x379) c.args.rip exits))
    (sym c.in-None.is ∙ c.index_from.ensures ∙ ap (index_from 0 (fred_page + 0x200) c.args.rip) c.entries.ensures) ∙ sym (in_both c.args.rip)
