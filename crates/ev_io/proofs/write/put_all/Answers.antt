use Rattle.std.proofs.Common.{length, take, drop, ap, sym, ◌∙◌, arith}
use Rattle.std.proofs.lemmas.List.{length-drop, take_rest}
use Rattle.std.proofs.Math.Seq.{take-add}
use Rattle.std.specs.Io.KnownBytes.{append_known}
use Rattle.ev_io.proofs.Bytes.{append_append}
use Rattle.ev_io.proofs.write.put_all.Goals as goal

pub loop-at-preserved : goal.loop-at-preserved
loop-at-preserved g c =
    let at = c.loop-at.at in
    let n = c.in_ok-at.field-0 in
    let piece = c.args.piece.now in
    let taken = g.K.Sink.taken in
    let wrote = c.in_ok-at.ensures in
    let rest = take_rest piece at in
    record {
      within = omega (arith, wrote.within, ap length rest, length-drop at piece);
      taken =
          wrote.bytes ∙ ap (λ xs. append_known (taken c.loop-at.sink) (take n xs)) rest
          ∙ ap (λ o. append_known o (take n (drop at piece))) c.loop-at.invariant.taken
          ∙ append_append (taken c.args.sink.now) (take at piece) (take n (drop at piece))
          ∙ ap (append_known (taken c.args.sink.now)) (sym (take-add at n piece));
      count = omega (arith, c.loop-at.invariant.count, c.write.ensures.later);
    }
