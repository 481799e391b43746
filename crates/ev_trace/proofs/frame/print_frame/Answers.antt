use Rattle.std.proofs.Common.{◌∷◌, map, decimal, codes}
use Rattle.ev_abstract.specs.EntryText.{hex}
use Rattle.ev_trace.proofs.Line.{line_is}
use Rattle.ev_trace.proofs.frame.print_frame.Goals as goal

pub returns : goal.returns
returns c =
    let note = c.args.frame.now in
    line_is _ (decimal c.args.p ∷ codes "frame" ∷ hex note.address ∷ map hex note.words.items) _ _ _ c.start_line.ensures.bytes c.push_frame.ensures.bytes
    c.end_line.ensures
