use Rattle.std.proofs.Common.{◌≡◌, take, map}
use Rattle.ev_stub.specs.Blocks.{section_of}
use Rattle.ev_stub.specs.Lines.{listings_of}
use Rattle.ev_stub.proofs.section.all_sections.Given as goal

abbrev pub invariant-loop-listing : goal.invariant-loop-listing
invariant-loop-listing l = l.sections.items ≡ map section_of (listings_of (take l.listing-index l.listings))
