use Rattle.std.proofs.Common.{◌≡◌, ℕ, ◌++◌, drop}
use Rattle.ev_listing.specs.Expansion.{expansions}
use Rattle.ev_listing.specs.Marks.{stmts_of}
use Rattle.ev_items.specs.Lines.{AreAddresses}
use Rattle.ev_items.proofs.body.body_stmts.Given as goal

abbrev pub invariant-loop-n : goal.invariant-loop-n
invariant-loop-n l = (f : ℕ → ℕ) → AreAddresses f l.functions → l.stmts.items ++ stmts_of (expansions l.mode l.b l.key f l.n (drop l.n l.items))
    ≡ stmts_of (expansions l.mode l.b l.key f 0 l.items)
