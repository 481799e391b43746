use Rattle.std.proofs.Common.{◌≡◌, ◌-◌, ℕ, suc, arith, rules, ap, ◌∙◌, sym}
use Rattle.ev_mem.specs.Mapped.{memory}
use Rattle.ev_proc.specs.ProcessorStep.{deliveries}
use Rattle.ev_proc.specs.Conditions.{arrived}
use Rattle.ev_proc.proofs.Tries.{at_end, went, serial_to, double_to, shut_to, next_entries, next_event, double_fault_event}
use Rattle.ev_proc.proofs.delivery.+chain.Goals as goal

pub returns-then-tries-eq0-clause-is : goal.returns-then-tries-eq0-clause-is
returns-then-tries-eq0-clause-is t c =
    at_end c.args.cpu.now c.args.rip (memory c.args.mem.now) c.args.e.now c.args.nested
    ∙ ap (λ (n : ℕ). deliveries n c.args.cpu.now c.args.rip (memory c.args.mem.now) c.args.e.now c.args.nested) (sym c.if-tries-eq0.true)

pub chain-requires : goal.chain-requires
chain-requires t c =
    let same : memory c.attempt.new.mem ≡ memory c.args.mem.now = ap memory c.in-Err.ensures.err in (
      search rules,
      (
        c.requires.canonical,
        (
          next_entries c.args.cpu.now c.attempt.new.cpu c.go.new.self c.args.rip (memory c.args.mem.now) (memory c.attempt.new.mem) c.args.e.now
              c.in-Err.met c.args.nested c.in-Err.ensures.is c.go.ensures same c.requires.entries,
          next_event c.args.cpu.now c.attempt.new.cpu c.go.new.self (memory c.args.mem.now) c.args.e.now c.in-Err.met c.args.nested c.in-Err.ensures.is,
        ),
      ),
    )

pub chain-requires-in-Double : goal.chain-requires-in-Double
chain-requires-in-Double t c =
    let same : memory c.attempt.new.mem ≡ memory c.args.mem.now = ap memory c.in-Err.ensures.err in (
      search rules,
      (
        c.requires.canonical,
        (
          next_entries c.args.cpu.now c.attempt.new.cpu c.go-in-Double.new.self c.args.rip (memory c.args.mem.now) (memory c.attempt.new.mem) c.args.e.now
              c.in-Err.met c.args.nested c.in-Err.ensures.is c.go-in-Double.ensures same c.requires.entries,
          double_fault_event c.go-in-Double.new.self c.exception-double_fault.result c.exception-double_fault.ensures,
        ),
      ),
    )

pub returns-in-Ok-clause-is : goal.returns-in-Ok-clause-is
returns-in-Ok-clause-is t c =
    let some : c.args.tries ≡ suc (c.args.tries - 1) = omega arith in
    went (c.args.tries - 1) c.args.tries c.args.cpu.now c.attempt.new.cpu c.args.rip c.in-Ok.frame (memory c.args.mem.now)
    (memory c.attempt.new.mem).words c.args.e.now c.args.nested some c.in-Ok.ensures.is

pub returns-in-Serial-clause-is : goal.returns-in-Serial-clause-is
returns-in-Serial-clause-is t c =
    let some : c.args.tries ≡ suc (c.args.tries - 1) = omega arith in
    let same : memory c.attempt.new.mem ≡ memory c.args.mem.now = ap memory c.in-Err.ensures.err in
    serial_to (c.args.tries - 1) c.args.tries c.args.cpu.now c.attempt.new.cpu c.go.new.self c.args.rip (memory c.args.mem.now)
    (memory c.attempt.new.mem) c.args.e.now c.in-Err.met c.args.nested (arrived c.chain.new.cpu (memory c.chain.new.mem) c.chain.result) some
    c.in-Err.ensures.is c.in-Serial.ensures c.go.ensures same c.chain.ensures.is

pub returns-in-Double-clause-is : goal.returns-in-Double-clause-is
returns-in-Double-clause-is t c =
    let some : c.args.tries ≡ suc (c.args.tries - 1) = omega arith in
    let same : memory c.attempt.new.mem ≡ memory c.args.mem.now = ap memory c.in-Err.ensures.err in
    double_to (c.args.tries - 1) c.args.tries c.args.cpu.now c.attempt.new.cpu c.go-in-Double.new.self c.args.rip (memory c.args.mem.now)
    (memory c.attempt.new.mem) c.args.e.now c.in-Err.met c.exception-double_fault.result c.args.nested
    (arrived c.chain-in-Double.new.cpu (memory c.chain-in-Double.new.mem) c.chain-in-Double.result) some c.in-Err.ensures.is c.in-Double.ensures
    c.go-in-Double.ensures same c.exception-double_fault.ensures c.chain-in-Double.ensures.is

pub returns-in-Shutdown-clause-is : goal.returns-in-Shutdown-clause-is
returns-in-Shutdown-clause-is t c =
    let some : c.args.tries ≡ suc (c.args.tries - 1) = omega arith in
    let same : memory c.attempt.new.mem ≡ memory c.args.mem.now = ap memory c.in-Err.ensures.err in
    shut_to (c.args.tries - 1) c.args.tries c.args.cpu.now c.attempt.new.cpu c.args.rip (memory c.args.mem.now) (memory c.attempt.new.mem) c.args.e.now
    c.in-Err.met c.args.nested some c.in-Err.ensures.is c.in-Shutdown.ensures same
