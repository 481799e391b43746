-- The listings of vectors' stubs. Own.
use Rattle.std.specs.Prelude.{List}
use Rattle.ev_listing.specs.IdtCode.{stubs}
use Rattle.ev_listing.specs.Marks.{Listing}

unfoldable pub vector_stubs : List Listing
vector_stubs = stubs 0 256
