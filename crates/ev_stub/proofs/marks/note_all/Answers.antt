use Rattle.std.proofs.Common.{◌≡◌, ◌+◌, ap, ◌∙◌, arith}
use Rattle.ev_asm.specs.Assembly.{size}
use Rattle.ev_asm.specs.Assembled.{is_encoded}
use Rattle.ev_stub.specs.Lines.{stmt_of}
use Rattle.ev_stub.proofs.Listed.{encoded_at, marks_step, marks_end, room_step}
use Rattle.ev_stub.proofs.marks.note_all.Goals as goal

pub size-requires : goal.size-requires
size-requires c = ap is_encoded c.statement.ensures ∙ encoded_at c.args.lines.now c.loop-line.line-index c.line-item.result c.requires.counts
    (omega arith) c.line-item.is

pub loop-line-preserved : goal.loop-line-preserved
loop-line-preserved c =
    let next : c.loop-line.at + c.size.result ≡ c.loop-line.at + size (stmt_of c.line-item.result) =
    ap (λ x. c.loop-line.at + x) (c.size.ensures.is ∙ ap size c.statement.ensures) in
    record {
      noted = marks_step c.args.lines.now c.loop-line.line-index _ c.loop-line.at _ c.line-item.result _ _ _ (omega arith)
          (omega arith) c.line-item.is next c.in_ok-note.ensures c.loop-line.invariant.noted;
      room = omega (
        arith,
        next,
        room_step c.args.lines.now c.loop-line.line-index (c.loop-line.line-index + 1) c.line-item.result (omega arith)
            (omega arith) c.line-item.is,
        c.loop-line.invariant.room,
      );
    }

pub returns : goal.returns
returns c = marks_end c.args.lines.now c.loop-line.line-index c.loop-line.at _ _ c.loop-line-test.false c.loop-line.invariant.noted
