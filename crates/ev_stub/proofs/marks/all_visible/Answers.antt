use Rattle.std.proofs.Common.{◌≡◌, ◌∙◌, ap, map, arith}
use Rattle.ev_asm.specs.Assembly.{total_size}
use Rattle.ev_asm.specs.Assembled.{are_instructions}
use Rattle.ev_asm.specs.Linked.{section_places}
use Rattle.ev_listing.specs.Marks.{stmts_of}
use Rattle.ev_stub.specs.Blocks.{section_of}
use Rattle.ev_stub.specs.Lines.{marked_of, stmt_of, listings_of}
use Rattle.ev_stub.proofs.Listed.{stmts_same, listing_linkable}
use Rattle.ev_stub.proofs.marks.all_visible.Goals as goal

pub note_all-requires-clause-counts : goal.note_all-requires-clause-counts
note_all-requires-clause-counts c =
    ap are_instructions (ap (map stmt_of) c.as_slice.ensures ∙ stmts_same c.listing-item.result.lines)
    ∙ (listing_linkable (section_places (map section_of (listings_of c.args.listings.now))) c.args.listings.now c.loop-listing.listing-index
    c.listing-item.result c.requires c.loop-listing-test.true c.listing-item.is).counts

pub note_all-requires-clause-room : goal.note_all-requires-clause-room
note_all-requires-clause-room c =
    let e : total_size (map stmt_of c.as_slice.result.now) ≡ total_size (stmts_of (map marked_of c.listing-item.result.lines)) =
    ap total_size (ap (map stmt_of) c.as_slice.ensures ∙ stmts_same c.listing-item.result.lines) in
    omega (
      arith,
      e,
      (listing_linkable (section_places (map section_of (listings_of c.args.listings.now))) c.args.listings.now c.loop-listing.listing-index
          c.listing-item.result c.requires c.loop-listing-test.true c.listing-item.is).room,
    )
