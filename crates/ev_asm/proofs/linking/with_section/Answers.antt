use Rattle.std.proofs.Common.{◌≡◌, ◌+◌, ap, arith}
use Rattle.ev_asm.specs.Assembly.{size}
use Rattle.ev_asm.proofs.FirstLabels.{section_step, section_end}
use Rattle.ev_asm.proofs.Statements.{total_step}
use Rattle.ev_asm.proofs.linking.with_section.Goals as goal

pub loop-s-preserved : goal.loop-s-preserved
loop-s-preserved c =
    let next : c.loop-s.at + c.size.result ≡ c.loop-s.at + size c.s-item.result = ap (λ n. c.loop-s.at + n) c.size.ensures.is in
    let total = total_step c.as_slice-s-items.result.now c.loop-s.s-index (c.loop-s.s-index + 1) c.s-item.result (omega arith) (omega arith) c.s-item.is in
    record {
      alike = section_step c.as_slice-s-items.result.now c.loop-s.s-index _ c.loop-s.at _ c.s-item.result c.loop-s.labels _ _ (omega arith) (omega arith)
          c.s-item.is next c.in_ok-labels.ensures c.loop-s.invariant.alike;
      room = omega (arith, next, total, c.loop-s.invariant.room);
    }

pub returns : goal.returns
returns c = section_end c.as_slice-s-items.result.now c.loop-s.s-index c.loop-s.at c.loop-s.labels _ c.loop-s-test.false c.loop-s.invariant.alike
