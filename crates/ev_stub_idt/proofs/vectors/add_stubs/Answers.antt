use Rattle.std.proofs.Common.{◌+◌, ◌++◌, List, ap, arith}
use Rattle.ev_listing.specs.Marks.{Listing}
use Rattle.ev_stub.specs.Lines.{listings_of}
use Rattle.ev_stub_idt.proofs.Stubs.{stubs_all, stubs_step, stubs_end}
use Rattle.ev_stub_idt.proofs.vectors.add_stubs.Goals as goal

pub loop-vector-init : goal.loop-vector-init
loop-vector-init c = ap (λ (x : List Listing). listings_of c.args.listings.now.items ++ x) stubs_all

pub loop-vector-preserved : goal.loop-vector-preserved
loop-vector-preserved c =
    stubs_step c.loop-vector.vector (c.loop-vector.vector + 1) (listings_of c.loop-vector.listings.items) _ _ (omega arith)
    (omega arith) c.in_ok-add_stub.ensures c.loop-vector.invariant

pub returns-in_ok-add_stub : goal.returns-in_ok-add_stub
returns-in_ok-add_stub c =
    stubs_end c.loop-vector.vector (listings_of c.loop-vector.listings.items) _ _ (omega arith) c.in_ok-add_stub.ensures c.loop-vector.invariant
