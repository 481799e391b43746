use Rattle.std.proofs.Common.{◌∷◌, ◌++◌, ◌∙◌, ap, codes, map, sym, List, ℕ}
use Rattle.std.specs.Option.{option_map}
use Rattle.ev_abstract.specs.EntryText.{hex}
use Rattle.ev_probe.specs.Told.{noted}
use Rattle.ev_probe.specs.Probe.{frame_text, line}
use Rattle.ev_probe.proofs.FrameText.{frame_is}
use Rattle.ev_probe.proofs.text.push_frame.Goals as goal

pub returns-in-Some-clause-bytes : goal.returns-in-Some-clause-bytes
returns-in-Some-clause-bytes c =
    frame_is c.args.out.now.bytes c.push_str.new.self.bytes c.push_hex.new.out.bytes c.push_words.new.out.bytes c.end_line.new.out.bytes
    c.in-Some.frame.address c.as_slice.result.now c.push_str.ensures.bytes c.push_hex.ensures.bytes c.push_words.ensures.bytes c.end_line.ensures.bytes
    ∙ ap (λ (ws : List ℕ). c.args.out.now.bytes ++ line (codes "frame" ∷ hex c.in-Some.frame.address ∷ map hex ws)) c.as_slice.ensures.value
    ∙ ap (λ f. c.args.out.now.bytes ++ frame_text (option_map noted f)) (sym c.in-Some.is)
