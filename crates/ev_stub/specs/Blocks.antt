-- The sections and blocks of listings. Own.
use Rattle.std.specs.Prelude.{ℕ, List, map}
use Rattle.ev_asm.specs.declared.block.Block.{Block}
use Rattle.ev_asm.specs.declared.linking.Section.{Section}
use Rattle.ev_asm.specs.Assembly.{Places, code}
use Rattle.ev_listing.specs.Marks.{Mark, Always, Listing, stmts_of, all_places}

abbrev pub section_of : Listing → Section
section_of b = record { address = b.address; stmts = stmts_of b.lines }

abbrev pub block_of : Places → Listing → Block
block_of env b = record { address = b.address; bytes = code env b.address (stmts_of b.lines) }

abbrev pub blocks_of : List Listing → List Block
blocks_of bs = map (block_of (all_places bs)) bs

-- addresses of instructions of which the abstract machine sees each
abbrev pub always : List ℕ → List (ℕ × Mark)
always as' = map (λ (a : ℕ). (a, Always)) as'
