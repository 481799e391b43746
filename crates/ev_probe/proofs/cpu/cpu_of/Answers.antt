use Rattle.std.proofs.Common.{arith, refl}
use Rattle.ev_probe.proofs.Lines.{are_values, ring, ring_small}
use Rattle.ev_probe.proofs.Processors.{cpu_is, kernel_selector, level_fits, user_selector}
use Rattle.ev_probe.proofs.cpu.cpu_of.Goals as goal
use Rattle.ev_probe.proofs.cpu.cpu_of.Goals.{then-is_user, else-is_user, then-is_user-2, else-is_user-2}

pub overflow_cast-result : goal.overflow_cast-result
overflow_cast-result c =
    let v = are_values _ _ _ c.requires in
    let small = ring_small c.args.l.now.values.cpl (ring _ _ v.stack) in omega (arith, small)

pub overflow_cast-result-2 : goal.overflow_cast-result-2
overflow_cast-result-2 c = let small = level_fits _ _ c.args.l.now.values c.requires in omega (arith, small)

pub invariant_of-result : goal.invariant_of-result
invariant_of-result c =
    let v = are_values _ _ _ c.requires in
    record { rip_canonical = v.canonical; flags_modelled = c.modelled.ensures.kept; ring = ring _ _ v.stack; level_small = v.level }

pub returns : goal.returns
returns c =
    cpu_is c.args.l.now _ _ _ _ _ _ c.modelled.ensures.is c.control.ensures
    (elim c.if-is_user.branch [
      | then-is_user w ↦ user_selector c.args.l.now.values.cpl c.if-is_user.result 0x33 0x10 w.if-is_user.true w.result-is
      | else-is_user w ↦ kernel_selector c.args.l.now.values.cpl c.if-is_user.result 0x33 0x10 w.if-is_user.false w.result-is
    ])
    (elim c.if-is_user-2.branch [
      | then-is_user-2 w ↦ user_selector c.args.l.now.values.cpl c.if-is_user-2.result 0x2b 0x18 w.if-is_user-2.true w.result-is
      | else-is_user-2 w ↦ kernel_selector c.args.l.now.values.cpl c.if-is_user-2.result 0x2b 0x18 w.if-is_user-2.false w.result-is
    ])
    (c.msrs.ensures c.args.l.now refl) c.descriptors.ensures
