use Rattle.std.proofs.Common.{◌≡◌, ◌+◌, ap, sym, ◌∙◌, arith}
use Rattle.ev_asm.specs.Assembly.{size}
use Rattle.ev_asm.specs.Assembled.{is_encoded}
use Rattle.ev_stub.specs.Lines.{marked_of, stmt_of}
use Rattle.ev_stub.proofs.Listed.{encoded_at, room_step}
use Rattle.ev_stub.proofs.Positions.{countable, label_step, past_step, found_step, none_left}
use Rattle.ev_stub.proofs.position.index_from.Goals as goal
use Rattle.ev_stub.proofs.position.index_from.Goals.{then-is_counted+else-at-rip, else-is_counted}

pub returns-then-at-rip : goal.returns-then-at-rip
returns-then-at-rip c =
    found_step marked_of c.loop-line.index c.loop-line.at c.args.rip c.args.lines.now c.loop-line.line-index c.line-item.result _ c.loop-line-test.true
    c.line-item.is (sym c.is_counted.ensures ∙ c.if-is_counted.true) c.if-at-rip.true c.loop-line.invariant.same

pub size-requires : goal.size-requires
size-requires c =
    ap is_encoded c.statement.ensures ∙ encoded_at c.args.lines.now c.loop-line.line-index c.line-item.result
    (countable c.args.address c.args.lines.now c.requires.lines).counts c.loop-line-test.true c.line-item.is

pub overflow_add-at : goal.overflow_add-at
overflow_add-at c =
    omega (
      arith,
      ap (λ x. c.loop-line.at + x) (c.size.ensures.is ∙ ap size c.statement.ensures),
      room_step c.args.lines.now c.loop-line.line-index (c.loop-line.line-index + 1) c.line-item.result c.loop-line-test.true (omega arith) c.line-item.is,
      c.loop-line.invariant.room,
      (countable c.args.address c.args.lines.now c.requires.lines).room,
    )

pub loop-line-preserved : goal.loop-line-preserved
loop-line-preserved c =
    let next : c.loop-line.at + c.size.result ≡ c.loop-line.at + size (stmt_of c.line-item.result) =
    ap (λ x. c.loop-line.at + x) (c.size.ensures.is ∙ ap size c.statement.ensures) in
    record {
      same = elim c.if-is_counted.branch [
        | then-is_counted+else-at-rip w ↦ past_step marked_of c.loop-line.index _ c.loop-line.at _ c.args.rip c.args.lines.now c.loop-line.line-index _
            c.line-item.result _ c.loop-line-test.true (omega arith) c.line-item.is (sym c.is_counted.ensures ∙ w.if-is_counted.true) w.if-at-rip.false
            (omega (arith, w.index-is)) next c.loop-line.invariant.same
        | else-is_counted w ↦ label_step marked_of c.loop-line.index _ c.loop-line.at _ c.args.rip c.args.lines.now c.loop-line.line-index _
            c.line-item.result _ c.loop-line-test.true (omega arith) c.line-item.is (sym c.is_counted.ensures ∙ w.if-is_counted.false)
            w.index-is next c.loop-line.invariant.same
      ];
      room = omega (
        arith,
        next,
        room_step c.args.lines.now c.loop-line.line-index (c.loop-line.line-index + 1) c.line-item.result c.loop-line-test.true (omega arith)
            c.line-item.is,
        c.loop-line.invariant.room,
      );
      few = elim c.if-is_counted.branch [
        | then-is_counted+else-at-rip w ↦ omega (arith, w.index-is, c.loop-line.invariant.few)
        | else-is_counted w ↦ omega (arith, w.index-is, c.loop-line.invariant.few)
      ];
    }

pub returns : goal.returns
returns c =
    none_left marked_of c.loop-line.index c.loop-line.at c.args.rip c.args.lines.now c.loop-line.line-index _ c.loop-line-test.false c.loop-line.invariant.same
