use Rattle.std.proofs.Common.{◌≡◌, ℕ, List, ◌+◌, ◌++◌, not, length, arith, ap, ◌∙◌, inr, Ok}
use Rattle.ev_asm.specs.Assembly.{Places, code, size}
use Rattle.ev_asm.specs.Linked.{reaches}
use Rattle.ev_asm.proofs.Statements.{code_step, addresses_step, kept, bytes_size, total_step, code_end, addresses_end, reached}
use Rattle.ev_asm.proofs.assembly.written.Goals as goal

pub statement-code-requires-clause-reaches : goal.statement-code-requires-clause-reaches
statement-code-requires-clause-reaches c =
    let total = total_step c.args.stmts.now c.loop-s.s-index (c.loop-s.s-index + 1) _ (omega arith) (omega arith) c.s-item.is in
    ap (λ (env : Places). reaches env c.loop-s.at c.s-item.result) c.requires.labels
    ∙ reached c.args.stmts.now c.args.base c.loop-s.at c.s-item.result (c.requires.leads c.loop-s.s-index c.s-item.result (omega arith) c.s-item.is)
    c.requires.limit c.loop-s.invariant.starts (omega (arith, total, c.loop-s.invariant.room))

pub overflow_add-at : goal.overflow_add-at
overflow_add-at c =
    omega (
      arith,
      c.len.ensures.value,
      ap length c.statement-code.ensures,
      bytes_size c.args.labels.now c.loop-s.at c.s-item.result,
      total_step c.args.stmts.now c.loop-s.s-index (c.loop-s.s-index + 1) _ (omega arith) (omega arith) c.s-item.is,
      c.loop-s.invariant.room,
    )

pub loop-s-preserved : goal.loop-s-preserved
loop-s-preserved c =
    let size-is = ap length c.statement-code.ensures in
    let next : c.loop-s.at + c.len.result ≡ c.loop-s.at + size c.s-item.result =
    omega (arith, c.len.ensures.value, size-is, bytes_size c.args.labels.now c.loop-s.at c.s-item.result) in
    let total = total_step c.args.stmts.now c.loop-s.s-index (c.loop-s.s-index + 1) c.s-item.result (omega arith) (omega arith) c.s-item.is in
    record {
      written = code_step _ c.args.stmts.now c.loop-s.s-index _ c.loop-s.at _ c.s-item.result _ _ _ (omega arith) (omega arith) c.s-item.is next
          (kept _ _ _ _ (c.is_err-in-loop-s.ensures.negation ∙ ap not c.if-is_err-2.false) c.extend_from_slice.ensures.items
          ∙ ap (λ (x : List ℕ). c.loop-s.bytes.items ++ x) (c.deref.ensures.0 ∙ c.statement-code.ensures))
          c.loop-s.invariant.written;
      placed = addresses_step c.args.stmts.now c.loop-s.s-index _ c.loop-s.at _ c.s-item.result _ _ _ (omega arith) (omega arith) c.s-item.is next
          (kept _ _ _ _ (c.is_err.ensures.negation ∙ ap not c.if-is_err.false) c.push.ensures.items)
          c.loop-s.invariant.placed;
      starts = omega (arith, c.loop-s.invariant.starts);
      room = omega (arith, next, total, c.loop-s.invariant.room);
    }

pub returns : goal.returns
returns c =
    let b = c.from_vec.ensures ∙ code_end _ c.args.stmts.now c.loop-s.s-index c.loop-s.at _ _ c.loop-s-test.false c.loop-s.invariant.written
    ∙ ap (λ (env : Places). code env c.args.base c.args.stmts.now) c.requires.labels in
    let p = c.from_vec-2.ensures ∙ addresses_end c.args.stmts.now c.loop-s.s-index c.loop-s.at _ _ c.loop-s-test.false c.loop-s.invariant.placed in
    inr (λ i. Ok (record { base = c.args.base; bytes = b i; places = p i }))
