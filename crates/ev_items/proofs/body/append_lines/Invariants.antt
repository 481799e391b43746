use Rattle.std.proofs.Common.{◌≡◌, ◌++◌, take}
use Rattle.ev_listing.specs.Marks.{stmts_of}
use Rattle.ev_items.specs.Lines.{lines_of}
use Rattle.ev_items.proofs.body.append_lines.Given as goal

abbrev pub invariant-loop-line : goal.invariant-loop-line
invariant-loop-line l = l.stmts.items ≡ l.fn.stmts.items ++ stmts_of (lines_of l.mode l.b l.key l.n (take l.line-index l.lines))
