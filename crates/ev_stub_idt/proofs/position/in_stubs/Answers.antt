use Rattle.std.proofs.Common.{ℕ, ◌-◌, ◌/◌, ◌∙◌, ap, sym, inl, inr}
use Rattle.ev_listing.specs.AddressMap.{vector_stub}
use Rattle.ev_stub.specs.Position.{in_block}
use Rattle.ev_stub_idt.specs.declared.position.IdtBlock.TheVariants.{Vector}
use Rattle.ev_stub_idt.proofs.Positions.{none_outside, stub_at}
use Rattle.ev_stub_idt.proofs.position.in_stubs.Goals as goal
use Rattle.ev_stub_idt.proofs.position.in_stubs.Goals.{then-rip-lt-VECTOR_STUBS-via-then-rip-lt-VECTOR_STUBS, then-rip-lt-VECTOR_STUBS-via-else-rip-lt-VECTOR_STUBS+then-rip}

pub returns-then-rip-lt-VECTOR_STUBS : goal.returns-then-rip-lt-VECTOR_STUBS
returns-then-rip-lt-VECTOR_STUBS c =
    sym (none_outside c.args.rip (elim c.then-rip-lt-VECTOR_STUBS.branch [
      | then-rip-lt-VECTOR_STUBS-via-then-rip-lt-VECTOR_STUBS w ↦ inl w.if-rip-lt-VECTOR_STUBS.true
      | then-rip-lt-VECTOR_STUBS-via-else-rip-lt-VECTOR_STUBS+then-rip w ↦ inr w.if-rip.true
    ]))

pub returns-in-Some : goal.returns-in-Some
returns-in-Some c =
    let v : ℕ = (c.args.rip - vector_stub 0) / 16 in
    ap (in_block (Vector v)) (sym c.in-Some.is ∙ c.in_stub.ensures) ∙ sym (stub_at c.args.rip c.if-rip-lt-VECTOR_STUBS.false c.if-rip.false)

pub returns-in-None : goal.returns-in-None
returns-in-None c =
    let v : ℕ = (c.args.rip - vector_stub 0) / 16 in
    ap (in_block (Vector v)) (sym c.in-None.is ∙ c.in_stub.ensures) ∙ sym (stub_at c.args.rip c.if-rip-lt-VECTOR_STUBS.false c.if-rip.false)
