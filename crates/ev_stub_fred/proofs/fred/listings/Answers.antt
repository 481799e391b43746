use Rattle.std.proofs.Common.{◌+◌, List, [], ◌∷◌, map, None, ap, ◌∙◌}
use Rattle.ev_listing.specs.AddressMap.{fred_page, no_body}
use Rattle.ev_listing.specs.FredCode.{fred_listings}
use Rattle.ev_listing.specs.IdtCode.{none}
use Rattle.ev_listing.specs.Marks.{Marked, Listing}
use Rattle.ev_stub.specs.declared.label.StubLabel.TheVariants.{Fu, Fk}
use Rattle.ev_stub.specs.declared.line.Line.TheVariants.{Jump}
use Rattle.ev_stub.specs.Lines.{marked_of}
use Rattle.ev_stub_fred.proofs.fred.listings.Goals as goal

abbrev around : List Marked → List Listing
around lines =
    record { address = fred_page; lines = map marked_of (Jump None Fu ∷ []) } ∷ record {
      address = fred_page + 0x100;
      lines =
          map marked_of (Jump None Fk ∷ []);
    }
    ∷ record { address = fred_page + 0x200; lines = lines } ∷ record { address = no_body; lines = none } ∷ []

pub returns : goal.returns
unfolding fred_listings
returns c =
    rw (c.in_ok-add_listing-4.ensures.ok, c.in_ok-add_listing-3.ensures.ok, c.in_ok-add_listing-2.ensures.ok, c.in_ok-add_listing.ensures.ok, c.new-listings.ensures.items)
    (ap around (ap (map marked_of) c.deref.ensures.value ∙ c.in_ok-handlers.ensures))
