-- The walk over the words stops at the greatest vector.
use Rattle.std.proofs.Common.{◌-◌, ◌*◌, ◌+◌, ℕ, get_or, Some, None, sym, subst, arith}
use Rattle.ev_isa.specs.Word.{bit}
use Rattle.ev_apic.specs.Vectors.{IsGreatestBelow, vectors_of}
use Rattle.ev_apic.proofs.Greatest.{greatest_is}
use Rattle.ev_apic.proofs.Highest.{in_word}
use Rattle.ev_apic.proofs.vectors.greatest.Goals as goal

pub returns-in-Some : goal.returns-in-Some
returns-in-Some c =
    let words = c.args.words.now in
    let k = c.in-Some.k in
    let stand = subst (λ (n : ℕ). IsGreatestBelow 64 (λ u. bit u (get_or words n 0)) (Some k)) c.from.ensures c.in-Some.ensures in
    sym (greatest_is 256 (vectors_of words) (Some (64 * (c.loop-n.n - 1) + k))
    (in_word words (c.loop-n.n - 1) k (omega (arith, c.loop-n.invariant.0, c.loop-n-test.true)) stand
    (λ u from below. c.loop-n.invariant.1 u (omega arith) below)))

pub returns : goal.returns
returns c = sym (greatest_is 256 (vectors_of c.args.words.now) None (λ u below. c.loop-n.invariant.1 u (omega arith) below))
