use Rattle.std.proofs.Common.{◌≡◌, map, ap, ◌∙◌}
use Rattle.ev_listing.specs.Marks.{stmts_of}
use Rattle.ev_stub.specs.Lines.{marked_of, stmt_of}
use Rattle.ev_stub.proofs.Listed.{stmts_same}
use Rattle.ev_stub.proofs.section.section.Goals as goal

pub returns : goal.returns
returns c =
    let e : c.from_vec.result ≡ stmts_of (map marked_of c.args.listing.now.lines) =
    c.from_vec.ensures ∙ c.in_ok-stmts.ensures ∙ ap (map stmt_of) c.as_slice.ensures ∙ stmts_same c.args.listing.now.lines in
    λ i. record { address = c.args.listing.now.address; stmts = e i }
