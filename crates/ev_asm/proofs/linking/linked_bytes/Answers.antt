use Rattle.std.proofs.Common.{◌≡◌, ◌+◌, ◌++◌, List, ℕ, ap, ◌∙◌, length, arith}
use Rattle.ev_asm.specs.Assembly.{size}
use Rattle.ev_asm.proofs.Statements.{code_step, bytes_size, total_step, code_end}
use Rattle.ev_asm.proofs.Sections.{reach_step}
use Rattle.ev_asm.proofs.linking.linked_bytes.Goals as goal

pub statement-code-requires-clause-reaches : goal.statement-code-requires-clause-reaches
statement-code-requires-clause-reaches c =
    (reach_step c.args.labels.now c.args.stmts.now c.loop-s.s-index (c.loop-s.s-index + 1) c.loop-s.at _ c.s-item.result (omega arith)
    (omega arith) c.s-item.is (λ i. c.loop-s.at + size c.s-item.result) c.loop-s.invariant.reach).0

pub overflow_add-at : goal.overflow_add-at
overflow_add-at c =
    omega (
      arith,
      c.len.ensures.value,
      ap length c.statement-code.ensures,
      bytes_size c.args.labels.now c.loop-s.at c.s-item.result,
      total_step c.args.stmts.now c.loop-s.s-index (c.loop-s.s-index + 1) _ (omega arith) (omega arith) c.s-item.is,
      c.loop-s.invariant.room,
    )

pub loop-s-preserved : goal.loop-s-preserved
loop-s-preserved c =
    let env = c.args.labels.now in
    let size-is = ap length c.statement-code.ensures in
    let next : c.loop-s.at + c.len.result ≡ c.loop-s.at + size c.s-item.result =
    omega (arith, c.len.ensures.value, size-is, bytes_size env c.loop-s.at c.s-item.result) in
    let total = total_step c.args.stmts.now c.loop-s.s-index (c.loop-s.s-index + 1) c.s-item.result (omega arith) (omega arith) c.s-item.is in
    record {
      written = code_step env c.args.stmts.now c.loop-s.s-index _ c.loop-s.at _ c.s-item.result _ _ _ (omega arith) (omega arith) c.s-item.is next
          (c.in_ok-extend_from_slice.ensures.items ∙ ap (λ (x : List ℕ). c.loop-s.bytes.items ++ x) (c.deref.ensures.0 ∙ c.statement-code.ensures))
          c.loop-s.invariant.written;
      reach = (reach_step env c.args.stmts.now c.loop-s.s-index _ c.loop-s.at _ c.s-item.result (omega arith)
          (omega arith) c.s-item.is next c.loop-s.invariant.reach).1;
      room = omega (arith, next, total, c.loop-s.invariant.room);
    }

pub returns : goal.returns
returns c = code_end c.args.labels.now c.args.stmts.now c.loop-s.s-index c.loop-s.at _ _ c.loop-s-test.false c.loop-s.invariant.written
