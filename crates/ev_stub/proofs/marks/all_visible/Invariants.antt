use Rattle.std.proofs.Common.{◌≡◌, ◌++◌, drop}
use Rattle.ev_listing.specs.Marks.{all_marks}
use Rattle.ev_stub.specs.Blocks.{always}
use Rattle.ev_stub.specs.Lines.{listings_of}
use Rattle.ev_stub.proofs.marks.all_visible.Given as goal

abbrev pub invariant-loop-listing : goal.invariant-loop-listing
invariant-loop-listing l = always l.visible.items ++ all_marks (listings_of (drop l.listing-index l.listings)) ≡ all_marks (listings_of l.listings)
