use Rattle.std.proofs.Common.{◌≡◌, ◌≤◌, ℕ, sym, Fits, w16, arith}
use Rattle.ev_part.proofs.PartLaws.{place_found, place_lost}
use Rattle.ev_asm.specs.Assembly.{place}
use Rattle.ev_part.proofs.part.place_of.Goals as goal

pub overflow_cast-result : goal.overflow_cast-result
overflow_cast-result c =
    let e = place_found c.args.labels.now c.args.name.now c.in-Some.number (sym c.in-Some.ensures) in
    let l : place c.args.labels.now c.args.name.now ≤ 256 = c.requires c.args.name.now in
    omega (arith, e, l)

pub returns-in-Some : goal.returns-in-Some
returns-in-Some c = sym (place_found c.args.labels.now c.args.name.now c.in-Some.number (sym c.in-Some.ensures))

pub returns-in-None : goal.returns-in-None
returns-in-None c = sym (place_lost c.args.labels.now c.args.name.now (sym c.in-None.ensures))
