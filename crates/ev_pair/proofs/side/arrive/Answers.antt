use Rattle.std.proofs.Common.{◌≡◌, true, false, sym, ◌∙◌}
use Rattle.ev_abstract.specs.Run.{run}
use Rattle.ev_core.proofs.Turns.{as_run}
use Rattle.ev_pair.proofs.Opened.{arrival_line}
use Rattle.ev_pair.proofs.side.arrive.Goals.{else-is_sendable-via-then-is_sendable+else-has_body, else-is_sendable-via-else-is_sendable}
use Rattle.ev_pair.proofs.side.arrive.Goals as goal

pub arrive-requires-clause-body : goal.arrive-requires-clause-body
arrive-requires-clause-body c mode image s m so = sym (c.has_body.ensures mode image s m so) ∙ c.if-has_body.true

pub returns-else-is_sendable-clause-run : goal.returns-else-is_sendable-clause-run
returns-else-is_sendable-clause-run c mode image done r is =
    let line = arrival_line image c.args.p c.args.key is in
    absurd (elim c.else-is_sendable.branch [
      | else-is_sendable-via-then-is_sendable+else-has_body w ↦
          let told = w.has_body.ensures mode image _ (run image done) (as_run mode image done _ r c.args.p c.requires.place) in
          let clash : true ≡ false = sym line.1 ∙ sym told ∙ w.if-has_body.false in
          cc
      | else-is_sendable-via-else-is_sendable w ↦
          let clash : true ≡ false = sym line.0 ∙ sym c.is_sendable.ensures ∙ w.if-is_sendable.false in
          cc
    ])
