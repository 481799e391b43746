use Rattle.std.proofs.Common.{◌∙◌, arith}
use Rattle.ev_listing.specs.AddressMap.{vector_stub}
use Rattle.ev_stub.specs.Position.{is_countable}
use Rattle.ev_stub_idt.proofs.Positions.{stub_countable}
use Rattle.ev_stub_idt.proofs.position.in_stub.Goals as goal

pub index_from-requires-clause-lines : goal.index_from-requires-clause-lines
index_from-requires-clause-lines c =
    (λ i. is_countable (vector_stub (c.from.ensures i)) (c.short_stub.ensures i)) ∙ stub_countable c.args.vector (omega arith)

pub index_from-requires-else-has_error_code-clause-lines : goal.index_from-requires-else-has_error_code-clause-lines
index_from-requires-else-has_error_code-clause-lines c =
    (λ i. is_countable (vector_stub (c.from.ensures i)) (c.long_stub.ensures i)) ∙ stub_countable c.args.vector (omega arith)
