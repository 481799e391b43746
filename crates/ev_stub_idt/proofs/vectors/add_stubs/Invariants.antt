use Rattle.std.proofs.Common.{◌≡◌, ◌++◌}
use Rattle.ev_stub.specs.Lines.{listings_of}
use Rattle.ev_stub_idt.specs.Listings.{vector_stubs}
use Rattle.ev_stub_idt.proofs.Stubs.{stubs_from}
use Rattle.ev_stub_idt.proofs.vectors.add_stubs.Given as goal

abbrev pub invariant-loop-vector : goal.invariant-loop-vector
invariant-loop-vector l = listings_of l.listings.items ++ stubs_from l.vector ≡ listings_of l.fn.listings.items ++ vector_stubs
