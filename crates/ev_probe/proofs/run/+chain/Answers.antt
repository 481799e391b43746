use Rattle.std.proofs.Common.{◌≡◌, ◌-◌, ◌∙◌, ℕ, List, map, arith, rules, refl, ap}
use Rattle.ev_effect.specs.Frame.{addresses}
use Rattle.ev_mem.specs.Mapped.{memory}
use Rattle.ev_proc.proofs.Tries.{double_fault_event, next_entries, next_event}
use Rattle.ev_probe.proofs.Chains.{delivers, doubles, goes_on, none_left, shuts_down}
use Rattle.ev_probe.proofs.run.+chain.Goals as goal

pub returns-then-left-eq0 : goal.returns-then-left-eq0
returns-then-left-eq0 t c =
    none_left c.args.tries.now.items c.args.left c.args.cpu.now (memory c.args.mem.now) c.args.e.now c.args.nested c.if-left-eq0.true

pub chain-requires : goal.chain-requires
chain-requires t c =
    let same : memory c.attempt.new.mem ≡ memory c.args.mem.now = ap memory c.in-Err.ensures.err in (
      search rules,
      (
        omega arith,
        (
          next_entries c.args.cpu.now c.attempt.new.cpu c.attempt.new.cpu c.attempt.new.cpu.rip (memory c.args.mem.now) (memory c.attempt.new.mem)
              c.args.e.now c.in-Err.met c.args.nested c.in-Err.ensures.is refl same c.requires.entries,
          next_event c.args.cpu.now c.attempt.new.cpu c.attempt.new.cpu (memory c.args.mem.now) c.args.e.now c.in-Err.met c.args.nested c.in-Err.ensures.is,
        ),
      ),
    )

pub chain-requires-in-Double : goal.chain-requires-in-Double
chain-requires-in-Double t c =
    let same : memory c.attempt.new.mem ≡ memory c.args.mem.now = ap memory c.in-Err.ensures.err in (
      search rules,
      (
        omega arith,
        (
          next_entries c.args.cpu.now c.attempt.new.cpu c.attempt.new.cpu c.attempt.new.cpu.rip (memory c.args.mem.now) (memory c.attempt.new.mem)
              c.args.e.now c.in-Err.met c.args.nested c.in-Err.ensures.is refl same c.requires.entries,
          double_fault_event c.attempt.new.cpu c.exception-double_fault.result c.exception-double_fault.ensures,
        ),
      ),
    )

pub returns-in-Ok : goal.returns-in-Ok
returns-in-Ok t c =
    let words = (memory c.attempt.new.mem).words in
    delivers c.args.tries.now.items c.push.new.self.items c.try_of.result (record { address = c.in-Ok.address; words = c.words_at.result })
    (c.args.left - 1) c.args.left c.args.cpu.now c.attempt.new.cpu (memory c.args.mem.now) words c.in-Ok.address c.args.e.now c.args.nested (omega arith)
    c.in-Ok.ensures.is c.push.ensures.items c.try_of.ensures
    (ap (λ (xs : List ℕ). (c.in-Ok.address, xs))
    (c.words_at.ensures ∙ ap (λ (k : ℕ). map words (addresses c.in-Ok.address k)) c.frame_size-size.ensures.is))

pub returns-in-Serial : goal.returns-in-Serial
returns-in-Serial t c =
    let same : memory c.attempt.new.mem ≡ memory c.args.mem.now = ap memory c.in-Err.ensures.err in
    goes_on c.args.tries.now.items c.push.new.self.items c.try_of.result _ (c.args.left - 1) c.args.left c.args.cpu.now c.attempt.new.cpu
    (memory c.args.mem.now) (memory c.attempt.new.mem) c.args.e.now c.in-Err.met c.args.nested (omega arith) c.in-Err.ensures.is c.push.ensures.items
    c.try_of.ensures c.in-Serial.ensures same c.chain.ensures

pub returns-in-Double : goal.returns-in-Double
returns-in-Double t c =
    let same : memory c.attempt.new.mem ≡ memory c.args.mem.now = ap memory c.in-Err.ensures.err in
    doubles c.args.tries.now.items c.push.new.self.items c.try_of.result _ (c.args.left - 1) c.args.left c.args.cpu.now c.attempt.new.cpu
    (memory c.args.mem.now) (memory c.attempt.new.mem) c.args.e.now c.in-Err.met c.exception-double_fault.result c.args.nested (omega arith)
    c.in-Err.ensures.is c.push.ensures.items c.try_of.ensures c.in-Double.ensures same c.exception-double_fault.ensures c.chain-in-Double.ensures

pub returns-in-Shutdown : goal.returns-in-Shutdown
returns-in-Shutdown t c =
    shuts_down c.args.tries.now.items c.push.new.self.items c.try_of.result (c.args.left - 1) c.args.left c.args.cpu.now c.attempt.new.cpu
    (memory c.args.mem.now) c.args.e.now c.in-Err.met c.args.nested (omega arith) c.in-Err.ensures.is c.push.ensures.items c.try_of.ensures
    c.in-Shutdown.ensures
